-- The tables are those of the renamings: of handed names by quantified variables, and back; and of each name by itself.
use Rattle.std.specs.Prelude.{◌≡◌, cond, List, [], ◌∷◌, ◌⊎◌, ℕ, zero, suc, ◌+◌, ◌≤◌, ◌<◌, ltb, length, replicate}
use Rattle.std.proofs.Math.Path.{refl}
use Rattle.std.proofs.Common.{sym, ap, ◌∙◌, zero-add, arith, lt-ltb, le-ltb}
use Rattle.std.proofs.Math.Logic.{inl, inr}
use Rattle.std.proofs.Math.Option.{Option, none, some}
use Rattle.std.proofs.Math.Decide.{dec_lt}
use Rattle.std.proofs.Math.ListN.{get_or, length-replicate}
use Rattle.std.proofs.lemmas.List.{get_or-replicate}
use Rattle.rules.specs.Base.{and_then}
use Rattle.rules.specs.Schemes.{renamed}
use Rattle.rules.specs.Trees as tree
use Rattle.rules.specs.Trees.{Names, Ty, opened, size}
use Rattle.laws.specs.Lists.{All}
use Rattle.laws.proofs.Lists.{some≢none}
use Rattle.schemes_renaming.specs.Places.{first_equal, all_of}
use Rattle.schemes_renaming.proofs.InTurn.{first-at, all-good}
use Rattle.schemes_renaming.proofs.Again.{there-in}
use Rattle.records.specs.Holds.{Holds}
use Rattle.rules.specs.Names.{table_of, numbersOf, is_held}
use Rattle.rules.specs.WellFormed.{goodTy}
use Rattle.replace.specs.Places.{word_of, SaysAt, Tabled}
use Rattle.replace.specs.Well.{GoodTy, LooksGood, Lent}
use Rattle.schemes_handed.specs.Tables.{quantPlaces, quantTypes}
use Rattle.schemes_handed.proofs.Tables.{quant-places-long, quant-types-long}
use Rattle.schemes_handed.proofs.Stored.{QuantAt, quant-at}

-- a renaming puts in one record
pub renamed-few : (f : tree.Open ℕ → Option (tree.Open ℕ)) (o : tree.Open ℕ) (t : Ty ℕ) → renamed f o ≡ some t → size t ≤ 2048
unfolding size
renamed-few f o t e = go (f o) e
  where
    go : (s : Option (tree.Open ℕ)) → and_then s (λ u. some (opened u)) ≡ some t → size t ≤ 2048
    go none k = absurd (some≢none (sym k))
    go (some u) k = let z : opened u ≡ t = cc in rw (sym z) (omega arith)

-- a word that is 0, or one more than a place where the new name stands
says : (v : List ℕ) (w : ℕ) (s : Option (tree.Open ℕ)) → (s ≡ none → w ≡ 0)
    → ((u : tree.Open ℕ) → s ≡ some u → (at : ℕ) × ((w ≡ at + 1) × Holds v (opened u) at)) → SaysAt v w (and_then s (λ u. some (opened u)))
unfolding Holds
says v w none a b = a refl
says v w (some u) a b = let (at, (e, h)) = b u refl in record { at = at; word = e; held = h }

-- past the end of a table words count as 0
pub past : (l : List ℕ) (i : ℕ) → length l ≤ i → get_or l i 0 ≡ 0
past [] i h = refl
past (a ∷ l) zero h = absurd (omega arith)
past (a ∷ l) (suc i) h = past l i (omega arith)

module _ (ν : Names ℕ) (names : List ℕ) (small : All (λ x. x < 256) names) where
  abbrev pub quantedPlaces : List ℕ
  quantedPlaces = quantPlaces names (replicate 512 0)

  abbrev pub quantedTypes : List ℕ
  quantedTypes = quantTypes 0 names (replicate 1024 0)

  -- the word of the name x, from the table's word n
  name-says : (x n : ℕ) → (x < 256 → (get_or quantedPlaces n 0 ≡ get_or quantedPlaces x 0)
      ⊎ (get_or quantedPlaces n 0 ≡ get_or quantedPlaces (256 + x) 0))
      → SaysAt quantedTypes (cond (ltb x 256) (get_or quantedPlaces n 0) 0) (and_then (first_equal ν 0 names x) (λ u. some (opened u)))
  unfolding Holds
  name-says x n h = go (dec_lt x 256)
    where
      not-handed : 256 ≤ x → (s : Option (tree.Open ℕ)) → first_equal ν 0 names x ≡ s → SaysAt quantedTypes 0 (and_then s (λ u. some (opened u)))
      not-handed l none i = refl
      not-handed l (some u) i = let a = first-at ν 0 names x u i in let b : x < 256 = small x (there-in names a.place x a.there) in absurd (omega arith)

      handed : (w : ℕ) → x < 256 → (s : Option (tree.Open ℕ))
          → QuantAt ν (replicate 512 0) (replicate 1024 0) (omega arith) (omega arith) s x quantedPlaces quantedTypes
          → (w ≡ get_or quantedPlaces x 0) ⊎ (w ≡ get_or quantedPlaces (256 + x) 0) → SaysAt quantedTypes w (and_then s (λ u. some (opened u)))
      handed w l none (a, b) (inl i) = i ∙ a ∙ get_or-replicate 512 x 0 0 (omega arith)
      handed w l none (a, b) (inr i) = i ∙ b ∙ get_or-replicate 512 (256 + x) 0 0 (omega arith)
      handed w l (some u) (a, (b, c)) (inl i) = record { at = x; word = i ∙ a; held = c }
      handed w l (some u) (a, (b, c)) (inr i) = record { at = x; word = i ∙ b; held = c }

      go : Dec (x < 256) → SaysAt quantedTypes (cond (ltb x 256) (get_or quantedPlaces n 0) 0) (and_then (first_equal ν 0 names x) (λ u. some (opened u)))
      go (yes l) = rw (lt-ltb x 256 l) (handed (get_or quantedPlaces n 0) l (first_equal ν 0 names x)
          (quant-at ν (replicate 512 0) (replicate 1024 0) (omega arith) (omega arith) 0 names small x l) (h l))
      go (no l) = rw (le-ltb x 256 (omega arith)) (not-handed (omega arith) (first_equal ν 0 names x) refl)

  quant-says : (o : tree.Open ℕ) → SaysAt quantedTypes (word_of quantedPlaces o) (renamed (all_of ν 0 names) o)
  unfolding all_of
  quant-says (tree.var x) = name-says x (0 + x) (λ l. inl (ap (λ (n : ℕ). get_or quantedPlaces n 0) (zero-add x)))
  quant-says (tree.par x) = name-says x (256 + x) (λ l. inr refl)
  quant-says (tree.quant i) = let l = quant-places-long names (replicate 512 0) in let n = length-replicate {A = ℕ} 512 0
      in past quantedPlaces (512 + i) (omega arith)

  pub quant-tabled : Tabled quantedPlaces quantedTypes (renamed (all_of ν 0 names))
  quant-tabled = record { says = quant-says; few = renamed-few (all_of ν 0 names) }

-- what a renaming puts in is well formed where its new names are
pub renamed-good : (pool table : List ℕ) (f : tree.Open ℕ → Option (tree.Open ℕ))
    → ((o u : tree.Open ℕ) → f o ≡ some u → GoodTy pool table (opened u)) → LooksGood pool table (renamed f)
renamed-good pool table f h o t e = go (f o) refl e
  where
    go : (s : Option (tree.Open ℕ)) → f o ≡ s → and_then s (λ u. some (opened u)) ≡ some t → GoodTy pool table t
    go none i k = absurd (some≢none (sym k))
    go (some u) i k = let z : opened u ≡ t = cc in rw (sym z) (h o u i)

pub quant-lent : (pool table names : List ℕ) → All (λ x. x < 256) names → length names ≤ 2048
    → Lent pool table (quantPlaces names (replicate 512 0)) (quantTypes 0 names (replicate 1024 0))
    (renamed (all_of (numbersOf (table_of pool table)) 0 names))
unfolding goodTy
quant-lent pool table names small few = record {
  tabled = quant-tabled (numbersOf (table_of pool table)) names small;
  good = renamed-good pool table (all_of (numbersOf (table_of pool table)) 0 names)
      (λ o u e. all-good (numbersOf (table_of pool table)) (is_held (table_of pool table)) 4_294_967_296 0 names (omega arith) o u e);
  near = let l = quant-types-long 0 names (replicate 1024 0) in let n = length-replicate {A = ℕ} 1024 0 in omega arith;
}
