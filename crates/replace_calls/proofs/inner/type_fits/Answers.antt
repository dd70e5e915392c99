-- `inner::type_fits` meets its contract.
use Rattle.rules.specs.Trees.{size, depth}
use Rattle.replace_calls.proofs.Standing.{too_long, type-shallow, type-deep}
use Rattle.replace_calls.proofs.inner.type_fits.Goals as goal

pub returns-then-n-gt-RECORDS : goal.returns-then-n-gt-RECORDS
returns-then-n-gt-RECORDS c = λ u s. too_long size depth _ u s.many c.if-n-gt-RECORDS.true

pub returns-in-Some : goal.returns-in-Some
returns-in-Some c =
    let a = c.args in
    λ u s. type-shallow _ _ _ _ u s c.if-n-gt-RECORDS.false _ c.in-Some.ensures

pub returns-in-None : goal.returns-in-None
returns-in-None c =
    let a = c.args in
    λ u s. type-deep _ _ _ _ u s c.if-n-gt-RECORDS.false c.in-None.ensures
