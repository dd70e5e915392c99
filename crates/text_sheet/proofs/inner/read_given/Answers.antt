-- `inner::read_given` meets its contract, by what its parts did.
use mathlib.Core.Bool.{not}
use mathlib.Core.Path.{ap}
use native.Mathlib.Omega.{arith}
use Rattle.std.proofs.Common.{rules, ◌≡◌, Err}
use Rattle.text_sheet.proofs.Given.{malformed, good, refused-sheet, read-sheet}
use Rattle.text_sheet.proofs.inner.read_given.Goals as goal

pub returns-then-not-is_good : goal.returns-then-not-is_good
returns-then-not-is_good c = malformed _ _ c.is_good.result c.is_good.ensures (ap not c.if-not-is_good.true)

pub read_sheet-requires : goal.read_sheet-requires
read_sheet-requires c =
    good c.args.text.now c.args.res.now c.is_good.result c.is_good.ensures (ap not c.if-not-is_good.false) c.requires.pool_long c.requires.table_long

pub copy-requires : goal.copy-requires
copy-requires c =
    let y = c.in_ok-read.ensures in
    record { order = omega arith; within = omega (arith, y.few, c.requires.work_long, c.read_sheet.auto.dst); near = omega (arith, y.few) }

pub returns : goal.returns
returns c =
    read-sheet _ _ c.is_good.result c.is_good.ensures (ap not c.if-not-is_good.false) c.requires.work_long c.requires.result_long
    c.in_ok-read.ensures c.copy.ensures

pub returns-in_err-read : goal.returns-in_err-read
returns-in_err-read c =
    let r : c.from_residual.result ≡ Err c.in_err-read.field-0.0 = search rules in
    rw r (refused-sheet _ _ c.is_good.result c.is_good.ensures (ap not c.if-not-is_good.false) c.in_err-read.ensures)
