-- The numbers of a good table, beside the names themselves: nothing is lost, and the order is the same.
use Rattle.theorems_offices.specs.Numbered.{numbers}
use Rattle.std.specs.Prelude.{◌≡◌, Bool, not, ℕ, ◌<◌, ◌≤◌, length}
use Rattle.std.proofs.Math.Path.{refl, sym}
use Rattle.std.proofs.Common.{ap, ◌∙◌, arith, ltb-true, ltb-false}
use Rattle.std.proofs.Math.Bool.{true, false}
use Rattle.std.proofs.Math.Option
use Rattle.std.proofs.Math.Option.{Option, none, some}
use mathlib.Core.List.{List, []}
use Rattle.std.proofs.Math.ListN.{get_or, get_or-eq_default}
use Rattle.rules.specs.Base.{is_none}
use Rattle.rules.specs.Names.{numbered, Table, table_of, names_of, is_held, number_of}
use Rattle.rules.specs.Offices.{Keeps, Name, named, stray, bytesIn, byBytes, nameIf, nameNo}
use Rattle.laws.specs.NameTable.{Good}
use Rattle.laws.proofs.NameTable.{held-is, search-any, search-found, search-none, good-laid, good-distinct, length-names, distinct-same}

abbrev pub isNamed : Name → Bool
isNamed (named n) = true
isNamed (stray i) = false

pub held-named : (t : Table) (i : ℕ) → isNamed (nameNo t i) ≡ is_held t i
unfolding nameNo
held-named t i = go (is_held t i)
  where
    go : (b : Bool) → isNamed (nameIf b (get_or (names_of t) i []) i) ≡ b
    go true = refl
    go false = refl

module _ {pool table : List ℕ} (good : Good pool table) where
  few : (i : ℕ) → is_held (table_of pool table) i ≡ true → i < length (names_of (table_of pool table))
  few i h = let k = ltb-true i (get_or table 0 0) (sym (held-is pool table i) ∙ h) in omega (arith, length-names (good-laid good))

  past : (i : ℕ) → is_held (table_of pool table) i ≡ false → length (names_of (table_of pool table)) ≤ i
  past i h = let k = ltb-false i (get_or table 0 0) (sym (held-is pool table i) ∙ h) in omega (arith, length-names (good-laid good))

  -- the number of a held name
  pub found : (i : ℕ) → i < length (names_of (table_of pool table))
      → number_of 0 (get_or (names_of (table_of pool table)) i []) (names_of (table_of pool table)) ≡ some i
  found i h = go (number_of 0 (get_or (names_of (table_of pool table)) i []) (names_of (table_of pool table))) refl
    where
      go : (o : Option ℕ) → number_of 0 (get_or (names_of (table_of pool table)) i []) (names_of (table_of pool table)) ≡ o
          → number_of 0 (get_or (names_of (table_of pool table)) i []) (names_of (table_of pool table)) ≡ some i
      go none e = absurd (search-none (get_or (names_of (table_of pool table)) i []) (names_of (table_of pool table))
          (search-any 0 (get_or (names_of (table_of pool table)) i []) (names_of (table_of pool table)) ∙ ap (λ (o : Option ℕ). not (is_none o)) e) i
          h refl)
      go (some j) e =
          let f = search-found 0 j (get_or (names_of (table_of pool table)) i []) (names_of (table_of pool table)) e in
          let z : j ≡ f.place = omega (arith, f.counted) in
          let y : f.place ≡ i = distinct-same (names_of (table_of pool table)) (good-distinct good) f.place i f.held h f.name in
          e ∙ ap some (z ∙ y)

  number_in : Name → ℕ
  number_in (named n) = Option.get_or (number_of 0 n (names_of (table_of pool table))) 0
  number_in (stray i) = i

  returns : (i : ℕ) → number_in (nameNo (table_of pool table) i) ≡ i
  unfolding nameNo number_in
  returns i = go (is_held (table_of pool table) i) refl
    where
      go : (b : Bool) → is_held (table_of pool table) i ≡ b → number_in (nameIf b (get_or (names_of (table_of pool table)) i []) i) ≡ i
      go true e = rw (found i (few i e))
      go false e = refl

  pub bytes-are : (i : ℕ) → bytesIn (nameNo (table_of pool table) i) ≡ get_or (names_of (table_of pool table)) i []
  unfolding nameNo
  bytes-are i = go (is_held (table_of pool table) i) refl
    where
      go : (b : Bool) → is_held (table_of pool table) i ≡ b
          → bytesIn (nameIf b (get_or (names_of (table_of pool table)) i []) i) ≡ get_or (names_of (table_of pool table)) i []
      go true e = refl
      go false e = sym (get_or-eq_default (names_of (table_of pool table)) [] (past i e))

  -- numbers of a good table may be read as names
  pub keeps : Keeps (numbers pool table) byBytes (nameNo (table_of pool table))
  unfolding byBytes numbered
  keeps = record { back = number_in; returns = returns; ordered = λ a b. rw (bytes-are a, bytes-are b) }
