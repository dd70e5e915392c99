use Rattle.std.proofs.Common.{[], ap, ◌∙◌}
use Rattle.queries.specs.Scans.{opensIn}
use Rattle.queries.proofs.ScanLaws.{type-opens}
use Rattle.judge_meaning.proofs.Truths.{within-bounds}
use Rattle.judge_meaning.proofs.inner.truth.among_bounds.Goals as goal

pub returns : goal.returns
returns c = λ names xs small m.
    let t = c.args.t in
    within-bounds _ _ _ t.tree.0 xs names _ (ap (opensIn t.words.now t.at) c.end.ensures ∙ type-opens t.words.now t.tree.0 t.at t.tree.1)
    (c.extend.ensures [] c.new-open.ensures) m small c.is_subset.ensures
