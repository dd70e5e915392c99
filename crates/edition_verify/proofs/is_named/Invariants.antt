use Rattle.std.proofs.Common.{◌≡◌, drop}
use Rattle.edition.specs.Files.{files_of}
use Rattle.edition_verify.specs.Verifying.{isNamed}
use Rattle.edition_verify.proofs.is_named.Given as goal

abbrev pub invariant-loop-file : goal.invariant-loop-file
invariant-loop-file l = isNamed (files_of (drop l.file-index l.files)) l.fn.entry ≡ isNamed (files_of l.files) l.fn.entry
