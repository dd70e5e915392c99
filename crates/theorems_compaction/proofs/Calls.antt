-- Compaction over two tables: each set reads as before, and what reads alike is answered alike and keeps the same names.
use Rattle.std.proofs.Math.Path.{◌≡◌, refl, sym, ap, subst}
use Rattle.std.proofs.Common.{◌∙◌}
use Rattle.std.specs.Prelude.{take, drop}
use mathlib.Core.List.{List, [], ◌∷◌}
use Prim.Native.Nat.{ℕ, zero, suc, ◌*◌}
use Rattle.std.proofs.Math.ListN.{get_or, get_or-map}
use Rattle.rules.specs.Base.{Got, got, refused}
use Rattle.rules.specs.Batches.{cutSets}
use Rattle.rules.specs.Names.{Bytes, Table, table_of, names_of, tableGiven}
use Rattle.rules.specs.Offices.{Word, readBack, ReadAlike}
use Rattle.rules.specs.Compaction.{Compacted, keeps, renumbered, eachGiven, compactChecks, compactCall, compactIf, namesIt, CompactedAlike}
use Rattle.laws.specs.Lists.{Every}
use Rattle.laws.proofs.Lists.{clash}
use Rattle.laws.specs.NameTable.{Good}
use Rattle.laws.proofs.NameTable.{given-good, good-distinct}
use Rattle.laws.specs.ReadLists.{Words}
use Rattle.laws.proofs.Alike.{onward}
use Rattle.theorems_offices.proofs.Both.{equal-answers, same-both}
use Rattle.theorems_offices.proofs.Batches.{take-alike, drop-alike}
use Rattle.theorems_offices.proofs.Given.{as_long, lent-table, kept-alike, constraints-given}
use Rattle.theorems_offices.proofs.Results.{nothing}
use Rattle.compaction.proofs.Promise.{promised}
use Rattle.compaction.specs.Theorems.{Promised}
use Rattle.theorems_compaction.proofs.Counting.{Among, as-many}
use Rattle.theorems_compaction.proofs.Kept.{stands, kept-stands}

-- ══ One call ══

-- each of some lists, and the empty list behind them
every-get : (P : List ℕ → Type 0) (xs : List (List ℕ)) (k : ℕ) → P [] → Every P xs → P (get_or xs k [])
every-get P [] k n h = n
every-get P (x ∷ xs) zero n h = h.0
every-get P (x ∷ xs) (suc k) n h = every-get P xs k n h.1

module _ (pool table sets lengths : List ℕ) where
  abbrev after : Compacted
  after = compactCall pool table sets lengths

  abbrev now : Table
  now = table_of pool table

  abbrev then : Table
  then = table_of after.pool after.table

  abbrev set_at : List ℕ → ℕ → List ℕ
  set_at ws k = get_or (cutSets lengths ws) k []

  -- what was refused is as before
  refused-same : (n : ℕ) → compactChecks pool table sets lengths ≡ refused n
      → compactCall pool table sets lengths ≡ record { answer = refused n; pool = pool; table = table; sets = sets }
  unfolding compactCall compactIf
  refused-same n e = rw e

  -- a set reads as before
  as-before : Words sets → (k : ℕ) → ReadAlike now then (set_at sets k) (set_at after.sets k)
  unfolding renumbered
  as-before w k = go (compactChecks pool table sets lengths) refl
    where
      moved : (r : Compacted) → Promised pool table sets lengths r → ReadAlike now (table_of r.pool r.table) (set_at sets k) (set_at r.sets k)
      moved r p =
          let q = keeps (table_of pool table).count sets in
          let there : set_at r.sets k ≡ renumbered q (set_at sets k) = ap (λ (ss : List (List ℕ)). get_or ss k []) p.cuts
          ∙ get_or-map (renumbered q) (cutSets lengths sets) k [] in
          record {
            words = (every-get (λ s. ReadAlike now (table_of r.pool r.table) s (renumbered q s)) (cutSets lengths sets) k
                (nothing now (table_of r.pool r.table)) p.sets).words
                ∙ ap (readBack (table_of r.pool r.table)) (sym there);
          }

      go : (m : Got (Unit {0})) → compactChecks pool table sets lengths ≡ m → ReadAlike now then (set_at sets k) (set_at after.sets k)
      go (refused n) e = rw (refused-same n e) (record { words = refl })
      go (got u) e = moved after (promised pool table sets lengths w e)

  -- the names that are left are those that stand in the sets
  left-names : Good pool table → Words sets → compactChecks pool table sets lengths ≡ got tt → (m : Bytes) → namesIt then m ≡ stands (readBack now sets) m
  unfolding namesIt
  left-names g w e m = ap (Among m) (promised pool table sets lengths w e).names ∙ kept-stands g sets m

  -- an answer was not refused
  was-checked : (n : ℕ) → after.answer ≡ got n → compactChecks pool table sets lengths ≡ got tt
  was-checked n e = go (compactChecks pool table sets lengths) refl
    where
      go : (m : Got (Unit {0})) → compactChecks pool table sets lengths ≡ m → compactChecks pool table sets lengths ≡ got tt
      go (refused k) i = clash (sym (ap (λ (r : Compacted). r.answer) (refused-same k i)) ∙ e)
      go (got u) i = i

-- ══ Two calls ══

module _ {pool table pool' table' : List ℕ} (good : Good pool table) (good' : Good pool' table') where
  abbrev T₁ : Table
  T₁ = table_of pool table

  abbrev T₂ : Table
  T₂ = table_of pool' table'

  each-given : (lengths ws ws' : List ℕ) → ReadAlike T₁ T₂ ws ws' → eachGiven T₁ (cutSets lengths ws) ≡ eachGiven T₂ (cutSets lengths ws')
  unfolding eachGiven cutSets
  each-given [] ws ws' e = refl
  each-given (n ∷ ns) ws ws' e = equal-answers
      (onward _ _ (constraints-given good good' (take (n * 4) ws) (take (n * 4) ws') (take-alike T₁ T₂ n ws ws' e)) (λ cs cs' i.
      same-both (each-given ns (drop (n * 4) ws) (drop (n * 4) ws') (drop-alike T₁ T₂ n ws ws' e))))

  checks-alike : (lengths ws ws' : List ℕ) → ReadAlike T₁ T₂ ws ws' → compactChecks pool table ws lengths ≡ compactChecks pool' table' ws' lengths
  unfolding compactChecks
  checks-alike lengths ws ws' e = rw (lent-table good good', kept-alike good good', as_long e, each-given lengths ws ws' e)

  module _ (sets sets' lengths : List ℕ) (w : Words sets) (w' : Words sets') (e : ReadAlike T₁ T₂ sets sets') where
    abbrev r : Compacted
    r = compactCall pool table sets lengths

    abbrev r' : Compacted
    r' = compactCall pool' table' sets' lengths

    -- the same names are left
    same-names : compactChecks pool table sets lengths ≡ got tt → (m : Bytes) → namesIt (table_of r.pool r.table) m ≡ namesIt (table_of r'.pool r'.table) m
    same-names i m =
        left-names pool table sets lengths good w i m
        ∙ ap (λ (ws : List Word). stands ws m) e.words
        ∙ sym (left-names pool' table' sets' lengths good' w' (sym (checks-alike lengths sets sets' e) ∙ i) m)

    -- so they are as many
    same-answer : r.answer ≡ r'.answer
    unfolding namesIt
    same-answer = go (compactChecks pool table sets lengths) refl
      where
        counted : Promised pool table sets lengths r → Promised pool' table' sets' lengths r' → compactChecks pool table sets lengths ≡ got tt
            → r.answer ≡ r'.answer
        counted p p' i =
            p.many
            ∙ ap (λ (n : ℕ). got n) (as-many (names_of (table_of r.pool r.table)) (names_of (table_of r'.pool r'.table))
            (good-distinct (given-good p.good)) (good-distinct (given-good p'.good)) (same-names i))
            ∙ sym p'.many

        go : (m : Got (Unit {0})) → compactChecks pool table sets lengths ≡ m → r.answer ≡ r'.answer
        go (refused n) i = ap (λ (c : Compacted). c.answer) (refused-same pool table sets lengths n i)
            ∙ sym (ap (λ (c : Compacted). c.answer) (refused-same pool' table' sets' lengths n (sym (checks-alike lengths sets sets' e) ∙ i)))
        go (got u) i = counted (promised pool table sets lengths w i) (promised pool' table' sets' lengths w' (sym (checks-alike lengths sets sets' e) ∙ i)) i

pub offices-compacted : (pool table sets lengths pool' table' sets' lengths' : List ℕ) → tableGiven pool table ≡ got tt → tableGiven pool' table' ≡ got tt
    → Words sets → Words sets' → CompactedAlike pool table sets lengths pool' table' sets' lengths'
offices-compacted pool table sets lengths pool' table' sets' lengths' g g' w w' = record {
  each = λ k k' e. record { words = sym (as-before pool table sets lengths w k).words ∙ e.words ∙ (as-before pool' table' sets' lengths' w' k').words };
  answer = λ i e. subst (λ (ls : List ℕ). (compactCall pool table sets lengths).answer ≡ (compactCall pool' table' sets' ls).answer) i
      (same-answer (given-good g) (given-good g') sets sets' lengths w w' e);
  names = λ i e n a m. subst (λ (ls : List ℕ). namesIt
      (table_of (compactCall pool table sets lengths).pool (compactCall pool table sets lengths).table) m
      ≡ namesIt (table_of (compactCall pool' table' sets' ls).pool (compactCall pool' table' sets' ls).table) m) i
      (same-names (given-good g) (given-good g') sets sets' lengths w w' e (was-checked pool table sets lengths n a) m);
}
