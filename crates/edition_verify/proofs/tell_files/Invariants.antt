use Rattle.std.proofs.Common.{List, drop}
use Rattle.rules.specs.Base.{collect}
use Rattle.laws.specs.Lists.{Every}
use Rattle.edition.specs.Files.{files_of}
use Rattle.edition.specs.declared.model.File.{File}
use Rattle.edition_verify.specs.Verifying.{YesIsTrue, fileText, verifiedIn}
use Rattle.edition_verify.proofs.Going.{SoFar}
use Rattle.edition_verify.proofs.tell_files.Given as goal

abbrev pub invariant-loop-file : goal.invariant-loop-file
invariant-loop-file l =
    SoFar (λ (fs : List File). collect (fileText l.entries) (files_of fs)) (λ (fs : List File). verifiedIn l.entries (files_of fs)) l.files
    l.file-index l.verified l.initial.out.items l.out.items
    × (Every (YesIsTrue l.entries) (files_of (drop l.file-index l.files)) → Every (YesIsTrue l.entries) (files_of l.files))
