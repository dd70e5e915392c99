-- `inner::closed_at` meets its contract.
use mathlib.Core.Path.{ap, ◌∙◌}
use Rattle.rules.specs.Base.{isNil}
use Rattle.rules.specs.Contents.{closed}
use Rattle.queries.specs.Scans.{opensIn}
use Rattle.queries.proofs.ScanLaws.{type-opens}
use Rattle.queries.proofs.inner.closed_at.Goals as goal

pub returns : goal.returns
unfolding closed
returns c =
    let a = c.args in
    λ t h. c.none_open.ensures ∙ ap (λ e. isNil (opensIn a.s.now a.at e)) (c.end_of.ensures t h) ∙ ap isNil (type-opens a.s.now t a.at h)
