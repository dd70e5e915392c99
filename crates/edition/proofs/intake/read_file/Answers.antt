-- `read_file` meets its contract: a file that is had is read, and one that isn't leaves the names as they are.
use Rattle.std.specs.Prelude.{refl}
use Rattle.edition.proofs.Reading.{read-page, text-read, file-unseen}
use Rattle.edition.proofs.intake.read_file.Goals as goal

pub returns-in_ok-sheet-in-Ok : goal.returns-in_ok-sheet-in-Ok
returns-in_ok-sheet-in-Ok c = text-read c.requires c.args.file _ _ _ refl c.in-Ok.text.now (rw c.in-Ok.is refl) refl _ c.content_of.ensures
    c.in_ok-sheet-in-Ok.ensures.read

pub returns-in-Err : goal.returns-in-Err
returns-in-Err c = let u = c.unseen.ensures in file-unseen c.requires c.args.file _ _ _ u.named c.in-Err.why (rw c.in-Err.is refl) u.empty u.holds refl refl

pub invariant_of-result : goal.invariant_of-result
invariant_of-result c = rw c.content_of.ensures (record { page = ∣ read-page _ _ _ _ _ _ _ _ c.in_ok-sheet-in-Ok.ensures.read ∣₁ })
