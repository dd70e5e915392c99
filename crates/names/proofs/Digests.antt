-- What follows from the definitions of specs/Digests: a number that equal names share, so that most pairs of names are told apart without comparing their
-- bytes.
use Rattle.std.specs.Prelude.{◌≡◌, Bool, true, false, ◌||◌, ℕ, ◌+◌, ◌≤◌, ◌<◌, length, drop, get_or, set}
use Rattle.std.proofs.Common.{sym, ap, ◌∙◌, arith, length-set, drop_of_length-le, drop-cons, get_or-set_same, get_or-set_other}
use mathlib.Core.List.{List, [], ◌∷◌}
use Rattle.std.proofs.Math.Decide.{ℕ_discrete}
use Rattle.std.proofs.Math.Numerals.{add-one}
use Rattle.rules.specs.Base.{any}
use Rattle.rules.specs.Names.{Bytes, sameBytes, distinct}
use Rattle.laws.proofs.NameTable.{same-no}
use Rattle.names.specs.Digests.{digestOf, nameIn, Digests}

pub digests-none : {pool table digests : List ℕ} → 256 ≤ length digests → Digests pool table digests 0
digests-none h = record { long = h; each = λ j l. absurd (omega arith) }

pub digests-more : {pool table digests : List ℕ} {k : ℕ} (v : ℕ) → k < 256 → v ≡ digestOf (nameIn pool table k) → Digests pool table digests k
    → Digests pool table (set digests k v) (k + 1)
digests-more {pool} {table} {digests} {k} v h e d = record {
  long = simp length-set d.long;
  each = λ j l. at j l (ℕ_discrete j k);
}
  where
    at : (j : ℕ) → j < k + 1 → Dec (j ≡ k) → get_or (set digests k v) j 0 ≡ digestOf (nameIn pool table j)
    at j l (yes q) = rw q (get_or-set_same digests k v 0 (omega (arith, d.long)) ∙ e)
    at j l (no f) = get_or-set_other digests k j v 0 f ∙ d.each j (omega (arith, f))

-- names with different digests differ
pub apart : {pool table digests : List ℕ} {n : ℕ} (i j : ℕ) → Digests pool table digests n → i < n → j < n → (get_or digests i 0 ≡ get_or digests j 0 → ⊥)
    → sameBytes (nameIn pool table i) (nameIn pool table j) ≡ false
apart {pool} {table} i j d h k f =
    same-no (nameIn pool table i) (nameIn pool table j) (λ e. f (d.each i h ∙ ap digestOf e ∙ sym (d.each j k)))

-- ══ Is there one from a place on ══

module _ (p : Bytes → Bool) (ns : List Bytes) (j : ℕ) (h : j < length ns) where
  any-from : any p (drop j ns) ≡ p (get_or ns j []) || any p (drop (j + 1) ns)
  unfolding any
  any-from = rw (drop-cons ns j [] h, add-one j)

  pub one-here : true ≡ p (get_or ns j []) → true ≡ any p (drop j ns)
  one-here e = sym (any-from ∙ rw (← e))

  pub none_here : false ≡ p (get_or ns j []) → any p (drop (j + 1) ns) ≡ any p (drop j ns)
  none_here e = sym (any-from ∙ rw (← e))

pub none-behind : (p : Bytes → Bool) (ns : List Bytes) (j : ℕ) → length ns ≤ j → any p (drop j ns) ≡ false
unfolding any
none-behind p ns j h = rw (drop_of_length-le ns {i = j} h)

-- what the search among the later names says of all from this one on
module _ (n : Bytes) (ns : List Bytes) where
  pub repeated : true ≡ any (sameBytes n) ns → distinct (n ∷ ns) ≡ false
  unfolding distinct
  repeated e = rw (← e)

  pub fresh : false ≡ any (sameBytes n) ns → distinct (n ∷ ns) ≡ distinct ns
  unfolding distinct
  fresh e = rw (← e)
