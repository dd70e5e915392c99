use Rattle.std.proofs.Common.{◌≡◌, take}
use Rattle.rules.specs.Base.{collect}
use Rattle.edition_certificate_file.specs.Files.{writtenByte}
use Rattle.edition_certificate_file.proofs.written_name.Given as goal

abbrev pub invariant-loop-b : goal.invariant-loop-b
invariant-loop-b l = l.out.items ≡ collect writtenByte (take l.b-index l.name)
