-- `placing::placed` meets its contract.
use mathlib.Core.Path.{ap, ◌∙◌}
use mathlib.Core.List.{List}
use Prim.Native.Nat.{ℕ}
use lib.ListN.{length}
use Rattle.calls_defined.specs.Saying.{word}
use Rattle.library_words.proofs.OnPlacing.{placed-held, placed-nowhere}
use Rattle.library_words.proofs.placing.placed.Goals as goal

pub returns-in-Ok : goal.returns-in-Ok
returns-in-Ok c =
    let a = c.args in
    let h = rw c.in-Ok.is at c.check_number.ensures in
    c.said.ensures ∙ placed-held a.pool.now a.table.now a.number _ _ h c.start_of.ensures
    (c.short.ensures ∙ ap (λ (s : List ℕ). word (length s)) c.name_of-name.ensures.bytes)

pub returns-in-Err : goal.returns-in-Err
returns-in-Err c =
    let a = c.args in
    let h = rw c.in-Err.is at c.check_number.ensures in
    c.refused.ensures ∙ placed-nowhere a.pool.now a.table.now a.number _ h
