-- `inner::reduce` meets its contract: columns, rows, machine.
use mathlib.Core.Path.{◌∙◌, sym}
use mathlib.Core.List.{[]}
use native.Mathlib.Omega.{arith}
use Rattle.std.proofs.Common.{length-take-le}
use Rattle.std.proofs.lemmas.Result.{err_from_is_err_and}
use Rattle.rules.specs.Names.{table_of, names_of}
use Rattle.engine_matrix.specs.Grids.{rowsIn}
use Rattle.engine_matrix.proofs.Grids.{grid-long}
use Rattle.engine_rows.proofs.Columns.{listed-so}
use Rattle.engine_rows.proofs.Fitted.{all-plain}
use Rattle.engine.proofs.Reducing.{laid-unfit, names-unfit, set_known, all-reduced}
use Rattle.engine.proofs.inner.reduce.Goals as goal

pub lines_of-requires : goal.lines_of-requires
lines_of-requires c =
    let a = c.args in
    record { plain = all-plain a.names.pool.now a.names.table.now a.set.words.now a.set.trees.0 0 a.set.end c.requires.set_held }

pub returns-in_err-lines_of : goal.returns-in_err-lines_of
returns-in_err-lines_of c =
    let a = c.args in
    let p = err_from_is_err_and c.from_residual.result c.from_residual.ensures.1 in
    rw (p.1, p.2) (sym (laid-unfit a.names.pool.now a.names.table.now a.set.trees.0 [] _ _ (sym (c.in_err-lines_of.ensures []))))

pub list_columns-requires : goal.list_columns-requires
list_columns-requires c =
    let a = c.args in
    record {
      known = set_known a.names.pool.now a.names.table.now a.set.trees.0 a.set.words.now a.set.end c.requires.set_held [] _ _
          (sym (c.in_ok-lines_of.ensures []));
    }

pub returns-in_err-columns : goal.returns-in_err-columns
returns-in_err-columns c =
    let a = c.args in
    let p = err_from_is_err_and c.from_residual-in_err-columns.result c.from_residual-in_err-columns.ensures.1 in
    rw (p.1, p.2)
    (sym (names-unfit a.names.pool.now a.names.table.now a.set.trees.0 a.set.words.now a.set.end c.requires.set_held [] _ _
    (sym (c.in_ok-lines_of.ensures [])) _ (sym c.in_err-columns.ensures)))

pub lines_of-requires-2 : goal.lines_of-requires-2
lines_of-requires-2 c =
    let a = c.args in
    record { plain = all-plain a.names.pool.now a.names.table.now a.set.words.now a.set.trees.0 0 a.set.end c.requires.set_held }

pub returns-in_err-lines : goal.returns-in_err-lines
returns-in_err-lines c =
    let a = c.args in
    let p = err_from_is_err_and c.from_residual-in_err-lines.result c.from_residual-in_err-lines.ensures.1 in
    rw (p.1, p.2) (sym (laid-unfit a.names.pool.now a.names.table.now a.set.trees.0 [] _ _ (sym (c.in_err-lines.ensures []))))

pub returns-in_err-machine : goal.returns-in_err-machine
returns-in_err-machine c =
    let a = c.args in
    let names = names_of (table_of a.names.pool.now a.names.table.now) in
    let l = c.in_ok-lines in
    let m = length-take-le l.lines.len (rowsIn l.lines.grid) (omega (arith, l.lines.few, grid-long l.lines.grid)) in
    let p = err_from_is_err_and c.from_residual-in_err-machine.result c.from_residual-in_err-machine.ensures.1 in
    rw (p.1, p.2)
    (all-reduced a.names.pool.now a.names.table.now a.set.trees.0 a.names.good a.set.words.now a.set.end c.requires.set_held c.in_ok-columns.columns
    (listed-so _ _ _ _ c.in_ok-columns.ensures) l.lines.len _ (sym m) (sym (l.ensures names)) _ (c.in_err-machine.ensures ∙ c.start.ensures _))

pub returns : goal.returns
returns c =
    let a = c.args in
    let names = names_of (table_of a.names.pool.now a.names.table.now) in
    let l = c.in_ok-lines in
    let m = length-take-le l.lines.len (rowsIn l.lines.grid) (omega (arith, l.lines.few, grid-long l.lines.grid)) in
    all-reduced a.names.pool.now a.names.table.now a.set.trees.0 a.names.good a.set.words.now a.set.end c.requires.set_held c.in_ok-columns.columns
    (listed-so _ _ _ _ c.in_ok-columns.ensures) l.lines.len _ (sym m) (sym (l.ensures names)) _ (c.in_ok-machine.ensures ∙ c.start.ensures _)
