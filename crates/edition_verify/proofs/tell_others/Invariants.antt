use Rattle.rules.specs.Base.{collect}
use Rattle.edition.specs.Files.{files_of}
use Rattle.edition_verify.specs.Verifying.{otherText, othersIn}
use Rattle.edition_verify.proofs.Going.{SoFar}
use Rattle.edition_verify.proofs.tell_others.Given as goal

abbrev pub invariant-loop-entry : goal.invariant-loop-entry
invariant-loop-entry l =
    SoFar (collect (otherText (files_of l.files))) (othersIn (files_of l.files)) l.entries l.entry-index l.others l.initial.out.items l.out.items
