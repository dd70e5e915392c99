-- `put_row` meets its contract: by what the record at the place says.
use Rattle.std.proofs.Common.{arith, sym, ◌∙◌}
use Rattle.edition_report.proofs.OnRows.{as_binding, as_bound, as_left}
use Rattle.edition_report.proofs.inner.put_row.Goals as goal

pub overflow_add-at : goal.overflow_add-at
overflow_add-at g c =
    let w = c.requires.there in
    let y = as_binding c.args.s.now c.args.at c.in-Binding.x w.1.0 (sym c.view_at.ensures ∙ c.in-Binding.is) w.0 w.1.1 in
    omega (arith, y.within)

pub type_at-requires : goal.type_at-requires
type_at-requires g c =
    let w = c.requires.there in
    let y = as_binding c.args.s.now c.args.at c.in-Binding.x w.1.0 (sym c.view_at.ensures ∙ c.in-Binding.is) w.0 w.1.1 in
    record { near = c.requires.near; there = (y.type, y.holds) }

pub returns-in-Binding : goal.returns-in-Binding
returns-in-Binding g c =
    λ r e h.
    let y = as_binding c.args.s.now c.args.at c.in-Binding.x e (sym c.view_at.ensures ∙ c.in-Binding.is) r h in
    rw y.is (rw (c.type_at.ensures y.type y.holds) at c.put_binding.ensures)

pub returns-in-Bound : goal.returns-in-Bound
returns-in-Bound g c =
    λ r e h.
    let y = as_bound c.args.s.now c.args.at e c.in-Bound.o (sym c.view_at.ensures ∙ c.in-Bound.is) r h in
    rw y.is (rw (← y.name) at c.put_bound.ensures)

pub constraint_at-requires : goal.constraint_at-requires
constraint_at-requires g c =
    let w = c.requires.there in
    let d = c.in_default in
    let y = as_left c.args.s.now c.args.at w.1.0 (λ x p. d.not-Binding x (c.view_at.ensures ∙ p))
    (λ o p. d.not-Bound o (c.view_at.ensures ∙ p)) w.0 w.1.1 in
    record { near = c.requires.near; there = (y.constraint, y.holds) }

pub returns-in_default : goal.returns-in_default
returns-in_default g c =
    λ r e h.
    let d = c.in_default in
    let y = as_left c.args.s.now c.args.at e (λ x p. d.not-Binding x (c.view_at.ensures ∙ p)) (λ o p. d.not-Bound o (c.view_at.ensures ∙ p)) r h in
    rw y.is (rw (c.constraint_at.ensures y.constraint y.holds) at c.put_left.ensures)
