use Rattle.std.proofs.Common.{sym, ap, ◌∙◌, Bool}
use Rattle.records.specs.Holds.{openOf}
use Rattle.schemes_handed.specs.Bounds.{ifAll}
use Rattle.schemes_handed.proofs.OnBounds.{bound-found, bound-open, bound-kept, bound-written, bound-left-out}
use Rattle.schemes_handed.proofs.inner.bounds.put_bound.Goals as goal

pub returns-in-Open : goal.returns-in-Open
returns-in-Open c = λ f l.
    let a = c.args in
    bound-written c.in-Open.u (bound-found f (openOf a.o) a.all (openOf c.in-Open.u) (sym (l (openOf a.o)) ∙ sym c.in-Some.ensures)
    c.in-Open.ensures) c.put.ensures

pub unreachable-requires : goal.unreachable-requires
unreachable-requires c =
    let a = c.args in
    let (f, l) = c.requires in
    bound-open f (openOf a.o) a.all _ (sym (l (openOf a.o)) ∙ sym c.in-Some.ensures) c.shape.ensures c.in_default.not-Open

pub returns-then-all : goal.returns-then-all
returns-then-all c = λ f l.
    let a = c.args in
    bound-written a.o
    (bound-kept f (openOf a.o) a.all (sym (l (openOf a.o)) ∙ sym c.in-None.ensures) ∙ ap (λ (b : Bool). ifAll b (openOf a.o)) c.if-all.true)
    c.put-then-all.ensures

pub returns-else-all : goal.returns-else-all
returns-else-all c = λ f l.
    let a = c.args in
    bound-left-out
    (bound-kept f (openOf a.o) a.all (sym (l (openOf a.o)) ∙ sym c.in-None.ensures) ∙ ap (λ (b : Bool). ifAll b (openOf a.o)) c.if-all.false)
