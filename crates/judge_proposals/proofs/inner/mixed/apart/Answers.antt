-- `inner::mixed::apart` meets its contract.
use mathlib.Core.Path.{◌∙◌}
use mathlib.Core.List.{[], ◌++◌}
use Prim.Native.Nat.{◌/◌}
use lib.ListN.{length}
use Rattle.rules.specs.Base.{collect}
use Rattle.rules.specs.Calls.{opensBinding}
use Rattle.queries.proofs.MarkLaws.{unmixed-marks}
use Rattle.queries.specs.Scans.{opensIn}
use Rattle.queries.specs.declared.Kind.TheVariants.{Variables, Parameters}
use Rattle.judge_proposals.proofs.Order.{same-marks}
use Rattle.judge_proposals.proofs.inner.mixed.apart.Goals as goal

pub returns : goal.returns
returns c = λ bs names h small.
    let s = c.args.set.now in
    let os = opensIn s 0 (length s / 4) in
    c.is_disjoint.ensures ∙ unmixed-marks (os ++ collect opensBinding bs) _ _
    (same-marks _ _ names bs Variables os h (c.add_table.ensures bs names _ h (c.extend.ensures [] c.new-variables.ensures)))
    (same-marks _ _ names bs Parameters os h (c.add_table-2.ensures bs names _ h (c.extend-2.ensures [] c.new-parameters.ensures))) small names
