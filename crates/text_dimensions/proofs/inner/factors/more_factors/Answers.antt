-- `inner::factors::more_factors` meets its contract.
use mathlib.Core.Path.{sym, ◌∙◌}
use mathlib.Core.List.{[]}
use Rattle.text_names.proofs.Effects.{ready_on}
use Rattle.text_names.proofs.Inside.{inside-spelled}
use Rattle.text_dimensions.proofs.Factors.{following-here, following-on, following-ends, further-less}
use Rattle.text_dimensions.proofs.inner.factors.more_factors.Goals as goal

pub loop-a-init : goal.loop-a-init
loop-a-init c = following-here c.requires.ready c.requires.well

pub enter_factor-f-requires : goal.enter_factor-f-requires
enter_factor-f-requires c =
    let inv = c.loop-a.invariant in
    record { ready = ready_on (inside-spelled _) c.mark-a.ensures.reads inv.ready; well = inv.well }

pub loop-a-smaller : goal.loop-a-smaller
loop-a-smaller c =
    let inv = c.loop-a.invariant in
    further-less _ _ inv.ready.within (sym c.loop-a-test.true ∙ c.next_is.ensures) c.mark-a.ensures (c.enter_factor-f.ensures.1 [])

pub loop-a-preserved : goal.loop-a-preserved
loop-a-preserved c =
    let inv = c.loop-a.invariant in
    following-on inv (sym c.loop-a-test.true ∙ c.next_is.ensures) c.mark-a.ensures c.enter_factor-f.ensures.0 c.enter_factor-f.ensures.1

pub returns : goal.returns
returns c = following-ends c.loop-a.invariant (sym c.loop-a-test.false ∙ c.next_is.ensures)
