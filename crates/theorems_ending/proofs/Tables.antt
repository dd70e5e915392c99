-- The numbers of a well formed table: a lawful order that tells them apart, and at most 256 of them.
use Rattle.std.specs.Prelude.{◌≡◌, refl, ℕ, zero, suc, ◌<◌, length, get_or}
use Rattle.std.proofs.Common.{ap, arith, ltb-true}
use mathlib.Core.List.{List, [], ◌∷◌, Memᴰ}
use Rattle.std.proofs.Math.Decide.{ℕ_discrete}
use Rattle.rules.specs.Names.{table_of, names_of, numbersOf, is_held}
use Rattle.laws.proofs.NameTable.{good-laid, held_tells}
use Rattle.laws.proofs.ByteOrder.{atom-lawful, numbered-lawful}
use Rattle.laws.specs.NameTable.{Good}
use Rattle.theorems_ending.proofs.Sets.{Known}

-- the numbers below n
below : ℕ → List ℕ
below zero = []
below (suc n) = n ∷ below n

below_length : (n : ℕ) → length (below n) ≡ n
unfolding below
below_length zero = refl
below_length (suc n) = ap suc (below_length n)

below-every : (n i : ℕ) → i < n → Memᴰ i (below n)
unfolding below
below-every zero i h = absurd (omega arith)
below-every (suc n) i h = go (ℕ_discrete i n) (below-every n i)
  where
    go : Dec (i ≡ n) → (i < n → Memᴰ i (below n)) → Memᴰ i (n ∷ below n)
    go (yes e) r = Memᴰ.head e
    go (no f) r = Memᴰ.tail (r (omega arith))

-- what a well formed table holds
pub table-known : {pool table : List ℕ} → Good pool table → Known (numbersOf (table_of pool table)) (is_held (table_of pool table))
unfolding table_of
table-known {pool} {table} g = record {
  law = atom-lawful (numbersOf (table_of pool table)) (numbered-lawful (names_of (table_of pool table)));
  tells = record { same = λ i j h k e. (held_tells g).same i j (ltb-true i (get_or table 0 0) h) (ltb-true j (get_or table 0 0) k) e };
  names = below (get_or table 0 0);
  few = rw (below_length (get_or table 0 0)) (good-laid g).few;
  every = λ i h. below-every (get_or table 0 0) i (ltb-true i (get_or table 0 0) h);
}
