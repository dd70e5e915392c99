use Rattle.std.proofs.Common.{◌≡◌, take, map, false}
use Rattle.std.specs.List.{list_any}
use Rattle.edition_certificate_file.specs.Files.{keptOf}
use Rattle.edition_checks.specs.Keeping.{isFile}
use Rattle.edition_checks.proofs.keeping.is_one_of.Given as goal

abbrev pub invariant-loop-entry : goal.invariant-loop-entry
invariant-loop-entry l = list_any (isFile l.name l.digest) (take l.entry-index (map keptOf l.entries)) ≡ false
