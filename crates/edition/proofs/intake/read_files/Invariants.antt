use Rattle.edition.proofs.Files.{ReadSoFar}
use Rattle.edition.proofs.intake.read_files.Given as goal

abbrev pub invariant-loop-file : goal.invariant-loop-file
invariant-loop-file l = ReadSoFar l.initial.pool l.initial.table l.files l.file-index l.sheets.items l.pool l.table
