-- `inner::list_columns` meets its contract.
use mathlib.Core.Path.{refl, sym}
use Rattle.std.proofs.Common.{inl, inr}
use native.Mathlib.Omega.{arith}
use Rattle.engine_rows.proofs.Columns.{too-many, filled-long, listed-well}
use Rattle.engine_rows.proofs.inner.list_columns.Goals as goal
use Rattle.engine_rows.proofs.inner.list_columns.Goals.{
  then-variables-gt-ROWS-via-then-variables-gt-ROWS,
  then-variables-gt-ROWS-via-else-variables-gt-ROWS+then-parameters-gt-ROWS,
  then-variables-gt-ROWS-via-else-variables-gt-ROWS+else-parameters-gt-ROWS+then-dimensions-gt-ROWS,
  then-variables-gt-ROWS-via-else-variables-gt-ROWS+else-parameters-gt-ROWS+else-dimensions-gt-ROWS+then-parameters-dimensions-gt-ROWS,
}

pub returns-then-variables-gt-ROWS : goal.returns-then-variables-gt-ROWS
returns-then-variables-gt-ROWS c =
    let v = c.list_names-variables.ensures.many in
    let p = c.list_names-parameters.ensures.many in
    let d = c.list_bases-dimensions.ensures.many in
    sym (elim c.then-variables-gt-ROWS.branch [
      | then-variables-gt-ROWS-via-then-variables-gt-ROWS w ↦ too-many _ _ _ (inl (omega (arith, w.if-variables-gt-ROWS.true, v)))
      | then-variables-gt-ROWS-via-else-variables-gt-ROWS+then-parameters-gt-ROWS w ↦ too-many _ _ _ (inr (omega (arith, w.if-parameters-gt-ROWS.true, p)))
      | then-variables-gt-ROWS-via-else-variables-gt-ROWS+else-parameters-gt-ROWS+then-dimensions-gt-ROWS w ↦ too-many _ _ _
          (inr (omega (arith, w.if-dimensions-gt-ROWS.true, d)))
      | then-variables-gt-ROWS-via-else-variables-gt-ROWS+else-parameters-gt-ROWS+else-dimensions-gt-ROWS+then-parameters-dimensions-gt-ROWS
          w ↦ too-many _ _ _ (inr (omega (arith, w.if-parameters-dimensions-gt-ROWS.true, p, d)))
    ])

pub invariant_of-columns : goal.invariant_of-columns
invariant_of-columns c = record {
  vars_long = filled-long _ _ _ _ c.list_names-variables.ensures refl (omega arith);
  pars_long = filled-long _ _ _ _ c.list_names-parameters.ensures refl (omega arith);
  bases_long = filled-long _ _ _ _ c.list_bases-dimensions.ensures refl (omega arith);
  few_variables = omega arith;
  few_others = omega arith;
  all = refl;
}

pub returns : goal.returns
returns c =
    listed-well _ _ _ _ _ _ _ _ _ _ _ _ c.list_names-variables.ensures c.list_names-parameters.ensures c.list_bases-dimensions.ensures
    (omega arith) (omega arith)
