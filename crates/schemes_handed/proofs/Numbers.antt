-- Numbers that the name table holds, one after another.
use Rattle.std.specs.Prelude.{◌≡◌, refl, Bool, true, false, not, ◌&&◌, List, [], ◌∷◌, ℕ, zero, suc, ◌+◌, ◌≤◌, ◌<◌, ltb, length, get_or, drop}
use Rattle.std.proofs.Common.{sym, ap, ◌∙◌, arith, le-leb, drop-cons, drop_of_length-le, ltb-true}
use Rattle.std.proofs.lemmas.Bool.{lt-leb}
use Rattle.rules.specs.Base.{Got, got, refused, ◌>>◌, need, all}
use Rattle.rules.specs.Calls.{shortNumbers, numbersGiven}
use Rattle.rules.specs.Names.{table_of, is_held}
use mathlib.Core.List.{Memᴰ}
use Rattle.std.proofs.lemmas.Bool.{not-true, not-false}
use Rattle.laws.specs.Lists.{All, all-is, in_head}
use Rattle.laws.specs.NameTable.{Good}
use Rattle.laws.proofs.NameTable.{held-is, good-laid}

module _ (pool table xs : List ℕ) where
  abbrev pub under : ℕ → Bool
  under x = ltb x (get_or table 0 0)

  abbrev asked : Got (Unit {0})
  asked = shortNumbers xs >> numbersGiven (table_of pool table) xs

  held_all : (ys : List ℕ) → all (is_held (table_of pool table)) ys ≡ all under ys
  unfolding all
  held_all [] = refl
  held_all (y ∷ ys) = rw (held-is pool table y, held_all ys)

  pub too_many : 2048 < length xs → refused 8 ≡ asked
  unfolding shortNumbers
  too_many h = sym (rw (lt-leb (length xs) 2048 h))

  asked-is : length xs ≤ 2048 → asked ≡ need (all under xs) 1
  unfolding shortNumbers numbersGiven
  asked-is h = rw (le-leb (length xs) 2048 h, held_all xs)

  module _ (i : ℕ) (e : all under (drop i xs) ≡ all under xs) where
    here : i < length xs → all under (drop i xs) ≡ (under (get_or xs i 0) && all under (drop (i + 1) xs))
    unfolding all
    here h = let k : i + 1 ≡ suc i = omega arith in rw (k, drop-cons xs i 0 h)

    -- a number that isn't held, one that is, and the end
    pub one-unheld : (b : Bool) → length xs ≤ 2048 → i < length xs → b ≡ under (get_or xs i 0) → not b ≡ true → refused 1 ≡ asked
    one-unheld b s h q n =
        let none : under (get_or xs i 0) ≡ false = sym q ∙ not-true b n in
        sym (asked-is s ∙ ap (λ (c : Bool). need c 1) (sym e ∙ here h ∙ ap (λ (c : Bool). c && all under (drop (i + 1) xs)) none))

    pub one_held : (b : Bool) → i < length xs → b ≡ under (get_or xs i 0) → not b ≡ false → all under (drop (i + 1) xs) ≡ all under xs
    one_held b h q n = sym (ap (λ (c : Bool). c && all under (drop (i + 1) xs)) (sym q ∙ not-false b n)) ∙ sym (here h) ∙ e

    all_held : length xs ≤ i → all under xs ≡ true
    unfolding all
    all_held h = sym e ∙ ap (all under) (drop_of_length-le xs {i = i} h)

    pub numbers-held : length xs ≤ i → All (λ x. x < get_or table 0 0) xs
    numbers-held h x m = ltb-true x (get_or table 0 0) (all-is under xs (all_held h) x m)

    pub asked-held : length xs ≤ 2048 → length xs ≤ i → got tt ≡ asked
    asked-held s h = sym (asked-is s ∙ ap (λ (c : Bool). need c 1) (all_held h))

pub at_in : (xs : List ℕ) (i : ℕ) → i < length xs → Memᴰ (get_or xs i 0) xs
at_in [] i h = absurd (omega arith)
at_in (x ∷ xs) zero h = in_head
at_in (x ∷ xs) (suc i) h = Memᴰ.tail (at_in xs i (omega arith))

-- a number that is held is below 256
pub small : {pool table xs : List ℕ} → Good pool table → All (λ x. x < get_or table 0 0) xs → (i : ℕ) → i < length xs → get_or xs i 0 < 256
small {xs = xs} good held i h = let few = (good-laid good).few in let k = held (get_or xs i 0) (at_in xs i h) in omega arith
