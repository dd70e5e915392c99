-- Of an answer of solving and the judge's verdict on it: what the call that confirms answers, and that it stands at the front of what solving left.
use Rattle.std.specs.Prelude.{◌≡◌, refl, Bool, true, false, List, [], ◌∷◌, ℕ, ◌⊎◌, length}
use Rattle.std.proofs.Common.{sym, ap, ◌∙◌, inl, inr}
use Rattle.rules.specs.Base.{Got, got, refused, bounded, sum_of}
use Rattle.rules.specs.Batches.{answeredWords}
use Rattle.rules.specs.Calls.{tableKept, shortLists, setGiven, solved, solvedOf, solvedWords, solvedSet}
use Rattle.rules.specs.Confirming.{ruled, confirmed, confirmedSet}
use Rattle.rules.specs.Judging.{judge}
use Rattle.rules.specs.Names.{Table, numbersOf}
use Rattle.rules.specs.Solving.{Answer, accepted, remaining, stopped}
use Rattle.rules.specs.Trees.{Con, Binding, sizeBinding}
use Rattle.laws.specs.Answers.{words_of}
use Rattle.laws.proofs.Lists.{bound-step}
use Rattle.judge.specs.Found.{JudgedAs}
use Rattle.solve_confirm.specs.Told.{ruledBy}

-- the verdict on an accepted answer, as it is told
pub by-verdict : (v : Got Bool) (bs : List (Binding ℕ)) (ns : List ℕ) (k : ℕ)
    → ruledBy v (solved (sum_of sizeBinding bs) (length ns) k) ≡ solvedOf (got (ruled v bs ns k))
unfolding solvedOf ruled
by-verdict (got true) bs ns k = refl
by-verdict (got false) bs ns k = refl
by-verdict (refused i) bs ns k = refl

-- its words are those of the accepted answer, or none
verdict-words : (v : Got Bool) (bs : List (Binding ℕ)) (ns : List ℕ) (k : ℕ)
    → (words_of (got (ruled v bs ns k)) ≡ words_of (got (accepted bs ns k))) ⊎ (words_of (got (ruled v bs ns k)) ≡ [])
unfolding ruled solvedWords answeredWords
verdict-words (got true) bs ns k = inl refl
verdict-words (got false) bs ns k = inr refl
verdict-words (refused i) bs ns k = inr refl

module _ (t : Table) (set : List ℕ) where
  pub read_of : (a : Answer ℕ) → solvedSet t set ≡ got a → (cs : List (Con ℕ)) × (setGiven t set ≡ got cs)
  unfolding solvedSet
  read_of a e =
      let p = bound-step (shortLists (set ∷ [])) _ a e in
      let q = bound-step (tableKept t) _ a p.2 in
      let c = bound-step (setGiven t set) _ a q.2 in
      (c.0, c.1)

  -- from an answer of solving
  pub confirmed-of : (a : Answer ℕ) (cs : List (Con ℕ)) → solvedSet t set ≡ got a → setGiven t set ≡ got cs
      → confirmedSet t set ≡ got (confirmed (numbersOf t) cs a)
  unfolding confirmedSet
  confirmed-of a cs e r = rw (e, r) refl

  pub refused-of : (i : ℕ) → solvedSet t set ≡ refused i → confirmedSet t set ≡ refused i
  unfolding confirmedSet
  refused-of i e = rw e refl

  -- what the call answers, and its words: those of solving, or none
  pub record Ruled (v : Got Bool) : Type 0 where
    pub answer : ruledBy v (solvedOf (solvedSet t set)) ≡ solvedOf (confirmedSet t set)
    pub words : (words_of (confirmedSet t set) ≡ words_of (solvedSet t set)) ⊎ (words_of (confirmedSet t set) ≡ [])

  same : (v : Got Bool) (m : Got (Answer ℕ)) → solvedSet t set ≡ m → confirmedSet t set ≡ m → ruledBy v (solvedOf m) ≡ solvedOf m → Ruled v
  same v m e f h = record { answer = rw (e, f) h; words = inl (rw (e, f) refl) }

  pub is-ruled : (v : Got Bool) → ((cs : List (Con ℕ)) → setGiven t set ≡ got cs → JudgedAs (numbersOf t) cs (solvedSet t set) v) → Ruled v
  unfolding solvedOf confirmed
  is-ruled v j = go (solvedSet t set) refl
    where
      go : (m : Got (Answer ℕ)) → solvedSet t set ≡ m → Ruled v
      go (refused i) e = same v (refused i) e (refused-of i e) refl
      go (got (accepted bs ns k)) e =
          let r = read_of (accepted bs ns k) e in
          let z : v ≡ judge (numbersOf t) bounded bs ns r.0 = rw e at (j r.0 r.1) in
          let f : confirmedSet t set ≡ got (ruled v bs ns k) = confirmed-of (accepted bs ns k) r.0 e r.1
          ∙ ap (λ (w : Got Bool). got (ruled w bs ns k)) (sym z) in
          record { answer = rw (e, f) (by-verdict v bs ns k); words = rw (e, f) (verdict-words v bs ns k) }
      go (got (remaining ds k)) e = let r = read_of (remaining ds k) e in same v (got (remaining ds k)) e (confirmed-of (remaining ds k) r.0 e r.1) refl
      go (got (stopped i k)) e = let r = read_of (stopped i k) e in same v (got (stopped i k)) e (confirmed-of (stopped i k) r.0 e r.1) refl
