use Rattle.std.proofs.Common.{◌≡◌, take, map, false}
use Rattle.edition_certificate_file.specs.Files.{keptOf}
use Rattle.edition_certificate_file.specs.Reading.{isKept}
use Rattle.edition_certificate_file.proofs.is_kept.Given as goal

abbrev pub invariant-loop-entry : goal.invariant-loop-entry
invariant-loop-entry l = isKept l.name (take l.entry-index (map keptOf l.entries)) ≡ false
