use Rattle.std.proofs.Common.{◌≡◌, ◌++◌, drop, map}
use Rattle.edition_structs.specs.Structs.{structsFrom}
use Rattle.edition_structs.specs.Told.{told}
use Rattle.edition_structs.proofs.written.structs_of.Given as goal

abbrev pub invariant-loop-sheet : goal.invariant-loop-sheet
invariant-loop-sheet l =
    let sheets = map (λ s. s.now) l.sheets in map told l.written.items ++ structsFrom l.sheet (drop l.sheet sheets) ≡ structsFrom 0 sheets
