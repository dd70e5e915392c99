-- What follows from the definitions of specs/Stored: a constraint that is tested, and stored behind the set.
use Rattle.std.specs.Prelude.{◌≡◌, List, [], ◌∷◌, ◌++◌, ℕ, ◌+◌, ◌*◌, ◌/◌, ◌≤◌, ◌<◌, take, drop}
use Rattle.std.proofs.Math.Path.{refl, ap}
use Rattle.std.proofs.Common.{sym, ◌∙◌, append_assoc, add-zero, zero-add, arith, drop-drop}
use borrow.Author.Tests.{le-leb, lt-leb}
use Rattle.std.proofs.Math.ListN.{length}
use Rattle.std.proofs.lemmas.List.Edits.{sets}
use Rattle.std.proofs.Math.Seq.{sets-eq, slice, take-length}
use Rattle.rules.specs.Adding.{Added, satisfied, violated, unknown, add, addTest, stored}
use Rattle.rules.specs.Base.{got, refused, sum_of}
use Rattle.rules.specs.Calls.{bufferAfter, over}
use Rattle.rules.specs.Trees.{Names, Con, sizeCon}
use Rattle.solve_add.specs.Stored.{Ready, addedWith}

sum-next : (cs : List (Con ℕ)) (c : Con ℕ) → sum_of sizeCon (cs ++ c ∷ []) ≡ sum_of sizeCon cs + sizeCon c
sum-next [] c = add-zero (sizeCon c) ∙ sym (zero-add (sizeCon c))
sum-next (d ∷ cs) c = omega (arith, sum-next cs c)

-- the records of the set with the constraint
module _ (buffer : List ℕ) (n : ℕ) (con : List ℕ) (cs : List (Con ℕ)) (c : Con ℕ) (h : Ready buffer n con cs c) where
  more : length con / 4 ≡ sizeCon c
  more = omega (arith, h.whole)

  sum : sum_of sizeCon (cs ++ c ∷ []) ≡ n + length con / 4
  sum = omega (arith, sum-next cs c, more, h.many)

  module _ (ν : Names ℕ) where
    pub kept : addTest ν c ≡ satisfied → record { answer = got (satisfied, n); buffer = buffer } ≡ addedWith ν buffer n con cs c
    unfolding add stored bufferAfter
    kept e = rw (e, h.many) refl

    pub full : (w : Added) → addTest ν c ≡ w → (w ≡ satisfied → ⊥) → 2048 < n + length con / 4
        → record { answer = refused 8; buffer = buffer } ≡ addedWith ν buffer n con cs c
    unfolding add stored bufferAfter
    full satisfied e f l = absurd (f refl)
    full violated e f l = rw (e, sum, lt-leb (n + length con / 4) 2048 l) refl
    full unknown e f l = rw (e, sum, lt-leb (n + length con / 4) 2048 l) refl

    module _ (l : n + length con / 4 ≤ 2048) (d : List ℕ) (k : d ≡ sets buffer (n * 4) (slice 0 (length con / 4 * 4) con)) where
      -- the words of the constraint behind the set
      behind : d ≡ take (n * 4) buffer ++ over con (drop (n * 4) buffer)
      unfolding over
      behind =
          let z : length con / 4 * 4 ≡ length con = omega (arith, more, h.whole) in
          k ∙ ap (sets buffer (n * 4)) (ap (λ (j : ℕ). slice 0 j con) z ∙ take-length con)
          ∙ sets-eq con buffer (n * 4) (omega (arith, h.room)) ∙ rw (append_assoc, drop-drop) refl

      pub appended : (w : Added) → addTest ν c ≡ w → (w ≡ satisfied → ⊥)
          → record { answer = got (w, n + length con / 4); buffer = d } ≡ addedWith ν buffer n con cs c
      unfolding add stored bufferAfter
      appended satisfied e f = absurd (f refl)
      appended violated e f = rw (e, sum, le-leb (n + length con / 4) 2048 l, sum, behind) refl
      appended unknown e f = rw (e, sum, le-leb (n + length con / 4) 2048 l, sum, behind) refl
