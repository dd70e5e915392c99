-- The checks at entry, and the whole call.
use Rattle.std.specs.Prelude as std
use Rattle.std.specs.Prelude.{Result, Ok, Err, IfOk, ◌≡◌, refl, List, ℕ, length, replicate}
use Rattle.std.proofs.Math.Option.{Option}
use Rattle.std.proofs.Common.{ap, sym, subst}
use Rattle.rules.specs.Base.{Got, got, refused}
use Rattle.rules.specs.Calls.{lent, resultAfter, workAfter}
use Rattle.rules.specs.Conflicts.{Line, conflictIn, conflictOf, conflictCall}
use Rattle.rules.specs.Names.{table_of, numbersOf, tableGiven, lentTable}
use Rattle.rules.specs.Refusals.{number_of, toldBy}
use Rattle.rules.specs.declared.Refusal.{Refusal}
use Rattle.rules.specs.declared.Refusal.TheVariants.{ShortBuffer}
use Rattle.names.specs.Told.{unit_of}
use Rattle.names.specs.declared.tables.NameTable.{NameTable}
use Rattle.types.specs.Given.{call_over, constraints_in, entered}
use Rattle.types.specs.declared.GivenSet.{GivenSet}
use Rattle.types.proofs.Entering.{came-in, kept_out, over_tested}
use Rattle.solve_conflict.specs.Told.{FoundAs, conflictsAs}

module _ (names : Result NameTable Refusal) (ws : List ℕ) where
  -- a set that doesn't pass
  pub outside : (res : List ℕ) (k : Refusal) → refused (number_of k) ≡ entered names ws → FoundAs (call_over names conflictOf ws) res res (Err k)
  unfolding conflictOf resultAfter
  outside res k e =
      let z = kept_out (λ t cs. conflictIn (numbersOf t) cs) ws names (number_of k) e in
      record { answer = rw z refl; buffer = rw z refl }

  pub inside : (s : GivenSet) (res res' : List ℕ) (r : Result (std.Option ℕ) Refusal) → names ≡ Ok s.names → got (constraints_in s) ≡ entered names ws
      → FoundAs (conflictIn (numbersOf (table_of s.names.pool.now s.names.table.now)) (constraints_in s)) res res' r
      → FoundAs (call_over names conflictOf ws) res res' r
  unfolding conflictOf
  inside s res res' r i e f =
      subst (λ (m : Got (Option (List (Line ℕ)))). FoundAs m res res' r) (sym (came-in (λ t cs. conflictIn (numbersOf t) cs) ws names s i e)) f

  -- over the table that was tested
  pub found-over : (pool table : List ℕ) → lentTable pool table ≡ got tt → toldBy unit_of names ≡ tableGiven pool table
      → IfOk names (λ n. (n.pool.now ≡ pool) × (n.table.now ≡ table)) → (res res' : List ℕ) (r : Result (std.Option ℕ) Refusal)
      → FoundAs (call_over names conflictOf ws) res res' r → FoundAs (conflictOf (table_of pool table) ws) res res' r
  unfolding conflictOf
  found-over pool table l e i res res' r f =
      let over = over_tested (λ t cs. conflictIn (numbersOf t) cs) pool table l names e i in
      subst (λ (m : Got (Option (List (Line ℕ)))). FoundAs m res res' r)
      (ap (λ (g : List ℕ → Got (Option (List (Line ℕ)))). g ws) over) f

-- ══ The call ══

module _ (pool table ws result work : List ℕ) where
  pub call-short : lent pool table result work ≡ refused 10 → conflictsAs (Err ShortBuffer) result work ≡ conflictCall pool table ws result work
  unfolding conflictCall resultAfter workAfter
  call-short e = rw e

  pub called : (w result' work' : List ℕ) (r : Result (std.Option ℕ) Refusal) → length w ≡ length work → lent pool table result work ≡ got tt
      → FoundAs (conflictOf (table_of pool table) ws) result result' r → work' ≡ replicate (length w) 0
      → conflictsAs r result' work' ≡ conflictCall pool table ws result work
  unfolding conflictCall workAfter
  called w result' work' r n e f z = rw (e, f.answer, f.buffer, z, n)
