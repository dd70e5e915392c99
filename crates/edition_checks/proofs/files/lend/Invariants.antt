use Rattle.std.specs.Prelude.{◌≡◌, take}
use Rattle.edition.specs.Files.{files_of}
use Rattle.edition_checks.specs.Given.{given_of}
use Rattle.edition_checks.proofs.files.lend.Given as goal

abbrev pub invariant-loop-g : goal.invariant-loop-g
invariant-loop-g l = files_of l.files.items ≡ given_of (take l.g-index l.given)
