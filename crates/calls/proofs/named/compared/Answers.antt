use mathlib.Core.Path.{refl, ap, ap₂, ◌∙◌}
use Rattle.rules.specs.Names.{orderBytes}
use Rattle.calls_defined.specs.Dispatch.{comparing}
use Rattle.calls_defined.specs.Saying.{orderAs}
use Rattle.calls.proofs.Front.{name-bytes}
use Rattle.calls.proofs.named.compared.Goals as goal

pub returns : goal.returns
unfolding comparing
returns c =
    let a = c.args in
    c.ordered.ensures
    ∙ ap orderAs (c.compare.ensures ∙ ap₂ orderBytes (name-bytes a.a.now _ _ refl c.min.ensures c.fill_low.ensures)
    (name-bytes a.b.now _ _ refl c.min-2.ensures c.fill_low-2.ensures))
