-- `inner::factors::enter_factors` meets its contract.
use mathlib.Core.Path.{sym, ◌∙◌}
use mathlib.Core.List.{[]}
use Rattle.text_names.proofs.Effects.{ready-next, kept_same}
use Rattle.text_dimensions.proofs.Times.{scalar-well, scalar-none}
use Rattle.text_dimensions.proofs.Factors.{no-factors, factors-done}
use Rattle.text_dimensions.proofs.inner.factors.enter_factors.Goals as goal

pub returns-then-next_is : goal.returns-then-next_is
returns-then-next_is c =
    let w = scalar-well _ _ _ c.scalar-none.ensures in (
      w,
      λ dst. no-factors _ (scalar-none [] [] _ c.scalar-none.ensures) c.requires.within (kept_same c.requires.good c.requires.room) c.requires.halted
          (sym c.if-next_is.true ∙ c.next_is.ensures),
    )

pub enter_factor-f-requires : goal.enter_factor-f-requires
enter_factor-f-requires c =
    record { ready = c.requires; well = scalar-well _ _ _ c.scalar-none.ensures }

pub more_factors-requires : goal.more_factors-requires
more_factors-requires c =
    record { ready = ready-next (c.enter_factor-f.ensures.1 []); well = c.enter_factor-f.ensures.0 }

pub returns : goal.returns
returns c =
    let m = c.more_factors.ensures in
    let e = scalar-none [] [] _ c.scalar-none.ensures in (
      m.well,
      λ dst. factors-done (sym c.if-next_is.false ∙ c.next_is.ensures) (rw e at (c.enter_factor-f.ensures.1 dst)) (m.kept dst) m.ready.halted
          (m.more dst),
    )
