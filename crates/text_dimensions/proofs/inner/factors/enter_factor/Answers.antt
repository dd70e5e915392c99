-- `inner::factors::enter_factor` meets its contract.
use mathlib.Core.Path.{refl, sym, ◌∙◌}
use mathlib.Core.List.{[]}
use Rattle.text_names.proofs.Effects.{ready_on, ready-next, kept-last, kept-stopped}
use Rattle.text_names.proofs.Inside.{inside-column}
use Rattle.text_dimensions.proofs.Longer.{well-stays}
use Rattle.text_dimensions.proofs.Factors.{idle, at-fine, at-halted, held-if, factor-done}
use Rattle.text_dimensions.proofs.inner.factors.enter_factor.Goals as goal

pub enter_atom-a-requires : goal.enter_atom-a-requires
enter_atom-a-requires c =
    ready_on inside-column c.next_sign-c.ensures c.requires.ready

pub enter_power-e-requires : goal.enter_power-e-requires
enter_power-e-requires c =
    (c.enter_atom-a.ensures []).reads.within

pub invariant_of-names : goal.invariant_of-names
invariant_of-names c = record { good = (c.enter_atom-a.ensures []).kept.good }

pub times-m-requires : goal.times-m-requires
times-m-requires c =
    let named = c.enter_atom-a.ensures in
    let valued = c.enter_power-e.ensures.1 _ _ [] (ready-next (named [])) in
    let fine = at-fine c.enter_power-e.result.end.at (sym c.if-is_at.true ∙ c.is_at.ensures) in
    record {
      well = well-stays c.requires.ready.good (named []).kept _ c.requires.well;
      power_good = c.enter_power-e.ensures.0;
      name_held = held-if (named []) valued fine;
    }

pub returns-then-is_at : goal.returns-then-is_at
returns-then-is_at c =
    let named = c.enter_atom-a.ensures in
    let m = c.times-m.ensures in (
      m.well,
      λ dst.
          let valued = c.enter_power-e.ensures.1 _ _ dst (ready-next (named dst)) in
          factor-done c.args.q c.times-m.result.product _ c.place_of.ensures c.requires.ready c.next_sign-c.ensures (named dst) valued (λ nb. m.effect dst)
          (kept-stopped valued.kept.good valued.kept.room m.refused m.going) (at-halted _ (sym c.if-is_at.true ∙ c.is_at.ensures)),
    )

pub returns : goal.returns
returns c =
    let named = c.enter_atom-a.ensures in (
      well-stays c.requires.ready.good (named []).kept _ c.requires.well,
      λ dst.
          let valued = c.enter_power-e.ensures.1 _ _ dst (ready-next (named dst)) in
          factor-done c.args.q c.args.q _ refl c.requires.ready c.next_sign-c.ensures (named dst) valued
          (λ nb. idle _ (sym c.if-is_at.false ∙ c.is_at.ensures) valued.halted nb) (kept-last valued.kept) valued.halted,
    )
