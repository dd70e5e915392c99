-- A call over the table that was tested is the call.
use Rattle.std.specs.Prelude.{Result, Ok, Err, IfOk, ◌≡◌, refl, List, ℕ, replicate, length}
use Rattle.std.proofs.Common.{sym, ap, subst, ◌∙◌}
use Rattle.rules.specs.Base.{Got, got, refused, ◌>>=◌, ◌>>◌}
use Rattle.rules.specs.Calls.{tableKept, resultAfter, writing}
use Rattle.rules.specs.Names.{Table, table_of, tableGiven, lentTable}
use Rattle.rules.specs.Refusals.{number_of, toldBy}
use Rattle.rules.specs.Writing.{Rec, words}
use Rattle.rules.specs.declared.Refusal.{Refusal}
use Rattle.names.specs.Told.{unit_of}
use Rattle.names.specs.declared.tables.NameTable.{NameTable}
use Rattle.types.proofs.Tested.{over, tested}
use Rattle.records_buffers.proofs.Handed.{made-refused, as_written}
use Rattle.records_buffers.specs.Told.{Made, handed}
use Rattle.schemes.specs.Entry.{called_over}

module _ (s : Got (Unit {0})) (f rest : Table → Got (List Rec)) (is : (t : Table) → f t ≡ (s >> (tableKept t >> rest t))) where
  -- what is too long comes before the table, and the table before what the lists hold
  long : {j : ℕ} (names : Result NameTable Refusal) → refused j ≡ s → called_over names s f ≡ refused j
  long (Ok n) e = is (over n) ∙ rw (sym e)
  long (Err why) e = rw (sym e)

  pub called-long : (names : Result NameTable Refusal) (why : Refusal) {w : List ℕ} → refused (number_of why) ≡ s → Made (called_over names s f) w (Err why)
  called-long names why e = made-refused why (long names e)

  pub over_tested : (pool table : List ℕ) → lentTable pool table ≡ got tt → (names : Result NameTable Refusal) → toldBy unit_of names ≡ tableGiven pool table
      → IfOk names (λ n. (n.pool.now ≡ pool) × (n.table.now ≡ table)) → called_over names s f ≡ f (table_of pool table)
  over_tested pool table l names e i =
      tested (λ t k. s >> (k >> rest t)) pool table l (λ r. called_over r s f) (λ n. is (over n)) (λ why. refl) names e i
      ∙ sym (is (table_of pool table))

pub untested : (s : Got (Unit {0})) (f : Table → Got (List Rec)) {names : Result NameTable Refusal} {w : List ℕ} (why : Refusal) → names ≡ Err why
    → got tt ≡ s → Made (called_over names s f) w (Err why)
untested s f why i e = made-refused why (rw (i, sym e))

-- what was made is handed over, and the call is that; a work buffer of the same length is left the same
pub called : {room : Got (Unit {0})} (m : Got (List Rec)) (result work w : List ℕ) → length w ≡ length work → room ≡ got tt
    → handed m result w ≡ writing room m result work
called {room} m result work w e i = ap (λ (n : ℕ). record {
  answer = m >>= λ rs. got (length rs);
  result = resultAfter (m >>= λ rs. got (words rs)) result;
  work = replicate n 0;
}) e ∙ as_written room m result work i
