-- `read_files` meets its contract: file after file.
use Rattle.std.specs.Prelude.{refl}
use Rattle.std.proofs.Common.{arith}
use Rattle.edition.proofs.Files.{one-read, all-read}
use Rattle.edition.proofs.intake.read_files.Goals as goal

pub loop-file-preserved : goal.loop-file-preserved
loop-file-preserved c = rw c.in_ok-push.ensures.items
    (one-read _ _ _ _ _ _ _ c.loop-file.invariant (omega (arith, c.loop-file-test.true)) _ _ refl _ _ _ c.in_ok-sheet.ensures)

pub returns : goal.returns
returns c = all-read _ _ _ _ _ _ _ c.loop-file.invariant (omega (arith, c.loop-file-test.false))
