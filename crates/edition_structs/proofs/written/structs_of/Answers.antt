use Rattle.edition_structs.proofs.Steps.{lent_next, lent_done}
use Rattle.edition_structs.proofs.written.structs_of.Goals as goal

pub loop-sheet-preserved : goal.loop-sheet-preserved
loop-sheet-preserved c =
    lent_next c.args.sheets.now c.loop-sheet.sheet c.loop-sheet-test.true _ _ _ _ c.loop-sheet.invariant c.in_ok-push_structs.ensures

pub returns : goal.returns
returns c = lent_done c.args.sheets.now c.loop-sheet.sheet c.loop-sheet-test.false _ _ c.loop-sheet.invariant
