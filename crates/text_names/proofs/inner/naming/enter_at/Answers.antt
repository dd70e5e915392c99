-- `inner::naming::enter_at` meets its contract.
use mathlib.Core.Path.{refl}
use native.Mathlib.Omega.{arith}
use Rattle.rules.specs.TextReading.{named}
use Rattle.laws.proofs.NameTable.{good-laid}
use Rattle.text_grammar.proofs.Factors.{name-bad}
use Rattle.text_names.proofs.Effects.{kept_same, roomy, ends-bad}
use Rattle.text_names.proofs.Naming.{front_of, named-done}
use Rattle.text_names.proofs.inner.naming.enter_at.Goals as goal

pub stand_after-requires : goal.stand_after-requires
stand_after-requires c =
    omega (arith, (good-laid c.requires.good).few, c.requires.room.names)

pub returns-in-Err : goal.returns-in-Err
returns-in-Err c =
    λ dst. ends-bad named (kept_same c.requires.good (roomy c.requires.room)) (name-bad c.in-Err.ensures)

pub returns-in-Ok : goal.returns-in-Ok
returns-in-Ok c =
    let name = c.in-Ok.ensures in
    λ dst. rw (c.stand_after.ensures, c.number_told.ensures)
    (named-done _ _ _ _ _ _ _ c.requires.room dst c.requires.good name c.enter_front-a.result (c.enter_front-a.ensures name.bytes (front_of name refl)))
