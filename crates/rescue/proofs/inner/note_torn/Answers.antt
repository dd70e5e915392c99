-- `inner::note_torn` meets its contract.
use native.Mathlib.Omega.{arith}
use Rattle.rescue.proofs.Steps.{torn-none, torn-one}
use Rattle.rescue.proofs.inner.note_torn.Goals as goal

pub returns-then-file-eq0 : goal.returns-then-file-eq0
returns-then-file-eq0 c = let a = c.args in torn-none a.file.now a.skipped.now a.m (omega (arith, c.if-file-eq0.true))

pub returns : goal.returns
returns c = let a = c.args in torn-one a.file.now a.skipped.now a.m c.if-file-eq0.false c.put.new.dst c.put.ensures
