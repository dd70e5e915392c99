use Rattle.std.proofs.Common.{◌≡◌, ◌++◌, take}
use Rattle.rules.specs.Base.{collect}
use Rattle.edition_certificate_file.specs.Files.{entryText}
use Rattle.edition_certificate_file.proofs.put_entries.Given as goal

abbrev pub invariant-loop-entry : goal.invariant-loop-entry
invariant-loop-entry l = l.out.items ≡ l.initial.out.items ++ collect entryText (take l.entry-index l.entries)
