use Rattle.std.specs.Prelude.{Some, None}
use Rattle.std.proofs.Common.{sym, arith}
use Rattle.rules.specs.Names.{table_of}
use Rattle.records.proofs.Parts.{con-equal, con-dim, con-scalar, con-field, con-field-name, con-other}
use Rattle.records.specs.Places.{seen-in}
use Rattle.records.proofs.reader.Reader.constraint_end.Goals as goal
use Rattle.records.proofs.reader.Reader.constraint_end.Goals.{
  in-Equal+in_ok-end-in-Equal,
  in-IsDim+in_ok-end-in-IsDim,
  in-IsScalar+in_ok-end-in-IsScalar,
  in-HasField+else-not-is_held+in_ok-end-in-HasField,
}

pub overflow_add-at : goal.overflow_add-at
overflow_add-at c = omega (arith, seen-in _ _ (sym c.in-Equal.ensures) tt)

pub overflow_add-at-in-IsDim : goal.overflow_add-at-in-IsDim
overflow_add-at-in-IsDim c = omega (arith, seen-in _ _ (sym c.in-IsDim.ensures) tt)

pub overflow_add-at-in-IsScalar : goal.overflow_add-at-in-IsScalar
overflow_add-at-in-IsScalar c = omega (arith, seen-in _ _ (sym c.in-IsScalar.ensures) tt)

pub overflow_add-at-in-HasField : goal.overflow_add-at-in-HasField
overflow_add-at-in-HasField c = omega (arith, seen-in _ _ (sym c.in-HasField.ensures) tt)

pub returns-in_err-end-in-Equal : goal.returns-in_err-end-in-Equal
returns-in_err-end-in-Equal c = let a = c.args in
    rw c.from_residual.ensures (con-equal a.self a.at (sym c.in-Equal.ensures) None c.in_err-end-in-Equal.ensures)

pub returns-in_err-end-in-IsDim : goal.returns-in_err-end-in-IsDim
returns-in_err-end-in-IsDim c = let a = c.args in
    rw c.from_residual-in_err-end-in-IsDim.ensures (con-dim a.self a.at (sym c.in-IsDim.ensures) None c.in_err-end-in-IsDim.ensures)

pub returns-in_err-end-in-IsScalar : goal.returns-in_err-end-in-IsScalar
returns-in_err-end-in-IsScalar c = let a = c.args in rw c.from_residual-in_err-end-in-IsScalar.ensures
    (con-scalar a.self a.at (sym c.in-IsScalar.ensures) None c.in_err-end-in-IsScalar.ensures)

pub returns-in_err-end-in-HasField : goal.returns-in_err-end-in-HasField
unfolding table_of
returns-in_err-end-in-HasField c = let a = c.args in rw c.from_residual-in_err-end-in-HasField.ensures
    (con-field a.self a.at c.in-HasField.x (sym c.in-HasField.ensures) (sym c.if-not-is_held.ensures) None c.in_err-end-in-HasField.ensures)

pub returns-then-not-is_held : goal.returns-then-not-is_held
unfolding table_of
returns-then-not-is_held c = let a = c.args in
    con-field-name a.self a.at c.in-HasField.x (sym c.in-HasField.ensures) (sym c.if-not-is_held.ensures)

pub returns-in_default : goal.returns-in_default
returns-in_default c = let d = c.in_default in let a = c.args in
    con-other a.self a.at c.view_at.result d.not-Equal d.not-IsDim d.not-IsScalar d.not-HasField (sym c.view_at.ensures)

pub returns : goal.returns
unfolding table_of
returns c = let a = c.args in rw c.closed.ensures (elim c.match-view_at.branch [
  | in-Equal+in_ok-end-in-Equal w ↦
      rw w.end-is (con-equal a.self a.at (sym w.in-Equal.ensures) (Some w.in_ok-end-in-Equal.end) w.in_ok-end-in-Equal.ensures)
  | in-IsDim+in_ok-end-in-IsDim w ↦
      rw w.end-is (con-dim a.self a.at (sym w.in-IsDim.ensures) (Some w.in_ok-end-in-IsDim.end) w.in_ok-end-in-IsDim.ensures)
  | in-IsScalar+in_ok-end-in-IsScalar w ↦
      rw w.end-is (con-scalar a.self a.at (sym w.in-IsScalar.ensures) (Some w.in_ok-end-in-IsScalar.end) w.in_ok-end-in-IsScalar.ensures)
  | in-HasField+else-not-is_held+in_ok-end-in-HasField w ↦
      rw w.end-is (con-field a.self a.at w.in-HasField.x (sym w.in-HasField.ensures) (sym w.if-not-is_held.ensures)
      (Some w.in_ok-end-in-HasField.end) w.in_ok-end-in-HasField.ensures)
])
