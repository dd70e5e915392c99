-- `inner::apart` meets its contract: by what the marks say.
use mathlib.Core.Path.{◌∙◌}
use mathlib.Core.List.{[], ◌++◌}
use Rattle.queries.specs.declared.Kind.TheVariants.{Variables, Parameters}
use Rattle.queries.specs.Scans.{choose, opensIn}
use Rattle.queries.proofs.ScanLaws.{choose-append}
use Rattle.queries.proofs.MarkLaws.{unmixed-marks}
use Rattle.queries.proofs.inner.apart.Goals as goal

pub returns : goal.returns
returns c =
    let a = c.args in
    let os = opensIn a.s.now a.b a.e in
    let qs = opensIn a.u.now a.c a.f in
    λ names. c.is_disjoint.ensures ∙ unmixed-marks (os ++ qs) _ _
    (rw (choose-append Variables os qs) (c.extend-2.ensures (choose Variables os) (c.extend.ensures [] c.new-variables.ensures)))
    (rw (choose-append Parameters os qs) (c.extend-4.ensures (choose Parameters os) (c.extend-3.ensures [] c.new-parameters.ensures)))
    c.requires names
