-- What follows from the definitions of specs/Bounds: bounds with names, one a record.
use Rattle.std.specs.Prelude.{◌≡◌, true, false, ◌&&◌, length, take}
use Rattle.std.proofs.Math.Path.{refl}
use Rattle.std.proofs.Common.{subst, ◌∙◌, add-zero, add-one, arith, length-drop, take-suc}
use mathlib.Core.List.{List, [], ◌∷◌, ◌++◌, map, append_assoc}
use Prim.Native.Nat.{ℕ, zero, suc, ◌+◌, ◌-◌, ◌/◌, ◌≤◌, ◌<◌, Ordering}
use borrow.Author.Tests.{ltb-true}
use Rattle.std.proofs.Math.ListN.{get_or, drop}
use Rattle.std.proofs.Math.Seq.{drop-cons}
use Rattle.rules.specs.Names.{table_of}
use Rattle.rules.specs.Trees.{Open, var, quant, par}
use Rattle.rules.specs.WellFormed.{goodOpen, is_lt, rising}
use Rattle.rules.specs.Writing.{word_of}
use Rattle.records.specs.Good.{Chain, GoodBound}
use Rattle.records.specs.Good as records
use Rattle.records.specs.Holds.{HoldsBound}
use Rattle.judge_proposals.specs.Bounds.{BoundsThere}

module _ (pool table s : List ℕ) where
  -- the bound at a place
  pub record Nth (at n : ℕ) : Type 0 where
    pub bound : Open ℕ
    pub held : HoldsBound s bound at
    pub is : word_of bound ≡ n
    pub below : n < get_or table 0 0

  word_below : (o : Open ℕ) → records.goodOpen pool table 0 o ≡ true → word_of o < get_or table 0 0
  unfolding goodOpen table_of
  word_below (var x) g = ltb-true x (get_or table 0 0) g
  word_below (quant i) g = absurd (omega (arith, ltb-true i 0 g))
  word_below (par x) g = ltb-true x (get_or table 0 0) g

  nth-from : (os : List (Open ℕ)) (at i n : ℕ) → Chain (GoodBound pool table 0 s) n os at → at + i < n → Nth (at + i) (get_or (map word_of os) i 0)
  nth-from [] at i n c h = absurd (omega (arith, c))
  nth-from (o ∷ os) at zero n c h = let z : at ≡ at + 0 = omega arith
      in record { bound = o; held = subst (HoldsBound s o) z c.1.0.held; is = refl; below = word_below o c.1.0.good }
  nth-from (o ∷ os) at (suc i) n c h =
      let z : c.0 + i ≡ at + suc i = omega (arith, c.1.0.past) in
      subst (λ (k : ℕ). Nth k (get_or (map word_of os) i 0)) z (nth-from os c.0 i n c.1.1 (omega (arith, z)))

  many-from : (os : List (Open ℕ)) (at n : ℕ) → Chain (GoodBound pool table 0 s) n os at → at + length (map word_of os) ≡ n
  many-from [] at n c = add-zero at ∙ c
  many-from (o ∷ os) at n c = omega (arith, many-from os c.0 n c.1.1, c.1.0.past)

  module _ (os : List (Open ℕ)) (h : BoundsThere pool table s os) where
    pub nth : (i : ℕ) → i < length s / 4 → Nth i (get_or (map word_of os) i 0)
    nth i lt = let z : 0 + i ≡ i = omega arith in subst (λ (k : ℕ). Nth k (get_or (map word_of os) i 0)) z (nth-from os 0 i (length s / 4) h (omega arith))

    pub many : length (map word_of os) ≡ length s / 4
    many = omega (arith, many-from os 0 (length s / 4) h)

-- ══ Rising ══

module _ (o : ℕ → ℕ → Ordering) where
  rising_step : (xs : List ℕ) (i : ℕ) → suc i < length xs
      → rising o (drop i xs) ≡ (is_lt (o (get_or xs i 0) (get_or xs (suc i) 0)) && rising o (drop (suc i) xs))
  unfolding rising
  rising_step xs i h =
      let a : drop i xs ≡ get_or xs i 0 ∷ drop (suc i) xs = drop-cons xs i 0 (omega arith) in
      let b : drop (suc i) xs ≡ get_or xs (suc i) 0 ∷ drop (suc (suc i)) xs = drop-cons xs (suc i) 0 h in
      rw (a, b)

  rising-short : (xs : List ℕ) → length xs ≤ 1 → rising o xs ≡ true
  unfolding rising
  rising-short [] h = refl
  rising-short (x ∷ []) h = refl
  rising-short (x ∷ y ∷ xs) h = absurd (omega arith)

  pub rise-no : (xs : List ℕ) (i : ℕ) → 1 ≤ i → i < length xs → is_lt (o (get_or xs (i - 1) 0) (get_or xs i 0)) ≡ false → rising o (drop (i - 1) xs) ≡ false
  rise-no xs i p h e =
      let z : suc (i - 1) ≡ i = omega arith in
      rising_step xs (i - 1) (omega arith) ∙ rw (z, e)

  pub rise-on : (xs : List ℕ) (i : ℕ) → 1 ≤ i → i < length xs → is_lt (o (get_or xs (i - 1) 0) (get_or xs i 0)) ≡ true
      → rising o (drop (i - 1) xs) ≡ rising o (drop (i + 1 - 1) xs)
  rise-on xs i p h e =
      let z : suc (i - 1) ≡ i = omega arith in
      let y : i + 1 - 1 ≡ i = omega arith in
      rising_step xs (i - 1) (omega arith) ∙ rw (z, e, y)

  pub rise-end : (xs : List ℕ) (i : ℕ) → 1 ≤ i → length xs ≤ i → rising o (drop (i - 1) xs) ≡ true
  rise-end xs i p h = rising-short (drop (i - 1) xs) (simp length-drop (omega arith))

-- ══ Marked ══

pub more-marked : (xs ws : List ℕ) (i x : ℕ) → i < length ws → x ≡ get_or ws i 0 → (xs ++ take i ws) ++ x ∷ [] ≡ xs ++ take (i + 1) ws
more-marked xs ws i x h e = rw (append_assoc, add-one, take-suc ws i 0, e)
