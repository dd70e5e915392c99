-- Parts one after another are what is read of a list.
use Rattle.std.proofs.Math.Path.{◌≡◌, refl, ap}
use Rattle.std.proofs.Common.{sym, ◌∙◌, arith}
use Rattle.std.specs.Prelude.{Bool}
use Rattle.std.proofs.Math.Bool.{true}
use Rattle.std.proofs.Math.Option.{none, some}
use mathlib.Core.List.{List, [], ◌∷◌}
use Prim.Native.Nat.{ℕ, zero, suc, ◌+◌, ◌/◌, ◌%◌, ◌≤◌, ◌<◌}
use Rattle.std.proofs.Math.ListN.{length}
use Rattle.rules.specs.Base.{got, all}
use Rattle.rules.specs.Writing.{Rec}
use Rattle.rules.specs.Reading.{Reader, read_all, records}
use Rattle.rules.specs.Calls.{listGiven}
use Rattle.records.specs.Views.{recs, from}
use Rattle.records.specs.Places.{recAt, recs-length, from-none, from_some}
use Rattle.records.specs.Good.{Chain}

-- ══ Words as records ══

mutual
  unfolding records recs

  pub records-whole : (s : List ℕ) → length s % 4 ≡ 0 → records s ≡ some (recs s)
  records-whole [] h = refl
  records-whole (k ∷ []) h = absurd (omega arith)
  records-whole (k ∷ a ∷ []) h = absurd (omega arith)
  records-whole (k ∷ a ∷ b ∷ []) h = absurd (omega arith)
  records-whole (k ∷ a ∷ b ∷ c ∷ ws) h = rw (records-whole ws (omega arith), records)

  pub records-broken : (s : List ℕ) → ((length s % 4 ≡ 0) → ⊥) → records s ≡ none
  records-broken [] h = absurd (h refl)
  records-broken (k ∷ []) h = refl
  records-broken (k ∷ a ∷ []) h = refl
  records-broken (k ∷ a ∷ b ∷ []) h = refl
  records-broken (k ∷ a ∷ b ∷ c ∷ ws) h = rw (records-broken ws (λ e. h (omega arith)), records)

-- ══ One part after another is read ══

module _ {A : Type 0} (r : Reader A) where
  pub read_more : (k : ℕ) (x : Rec) (xs : List Rec) (v : A × List Rec) (as' : List A) → r (x ∷ xs) ≡ some v → read_all r k v.1 ≡ some as'
      → read_all r (suc k) (x ∷ xs) ≡ some (v.0 ∷ as')
  unfolding read_all
  read_more k x xs v as' p q = rw (p, read_all, q)

  pub read-end : (k : ℕ) → read_all r k [] ≡ some []
  unfolding read_all
  read-end zero = refl
  read-end (suc k) = refl

-- ══ Chains and readings ══

-- what a reader and a test of parts have to do with the parts that are held
pub record Reader-of {A : Type 0} (s : List ℕ) (r : Reader A) (good : A → Bool) (P : ℕ → A → ℕ → Type 0) : Type 0 where
  pub reads : (at : ℕ) (a : A) (e : ℕ) → P at a e → r (from s at) ≡ some (a, from s e)
  pub right : (at : ℕ) (a : A) (e : ℕ) → P at a e → good a ≡ true
  pub moves : (at : ℕ) (a : A) (e : ℕ) → P at a e → (at < e) × (e ≤ length s / 4)
  pub finds : (at : ℕ) (a : A) (rest : List Rec) → r (from s at) ≡ some (a, rest) → good a ≡ true → (e : ℕ) × (P at a e × (rest ≡ from s e))

module _ {A : Type 0} (s : List ℕ) (r : Reader A) (good : A → Bool) (P : ℕ → A → ℕ → Type 0) (law : Reader-of s r good P) where
  abbrev pub N : ℕ
  N = length s / 4

  pub chain-read : (as' : List A) (k at : ℕ) → Chain P N as' at → N ≤ at + k → (read_all r k (from s at) ≡ some as') × (all good as' ≡ true)
  unfolding all
  chain-read [] k at c h = (rw (from-none s at (omega arith)) (read-end r k), refl)
  chain-read (a ∷ as') zero at c h = let m = law.moves at a c.0 c.1.0 in absurd (omega (arith, m.0, m.1))
  chain-read (a ∷ as') (suc k) at c h =
      let m = law.moves at a c.0 c.1.0 in
      let lt : at < length s / 4 = omega (arith, m.0, m.1) in
      let e = from_some s at lt in
      let p : r (recAt s at ∷ from s (at + 1)) ≡ some (a, from s c.0) = ap r (sym e) ∙ law.reads at a c.0 c.1.0 in
      let (u, v) = chain-read as' k c.0 c.1.1 (omega (arith, m.0)) in
      (rw e (read_more r k (recAt s at) (from s (at + 1)) (a, from s c.0) as' p u), rw (law.right at a c.0 c.1.0) v)

  -- a list that is given as whole records, all parts read and well formed
  pub list-yes : (as' : List A) → length s % 4 ≡ 0 → Chain P N as' 0 → listGiven r good s ≡ got as'
  unfolding listGiven recs from
  list-yes as' h c =
      let (u, v) = chain-read as' (length (recs s)) 0 c (omega (arith, recs-length s)) in
      let u' : read_all r (length (recs s)) (recs s) ≡ some as' = u in
      rw (records-whole s h, u', v)
