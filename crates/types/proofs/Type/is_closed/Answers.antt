use Rattle.std.proofs.Common.{ap, ◌∙◌}
use Rattle.rules.specs.Base.{isNil}
use Rattle.rules.specs.Contents.{closed}
use Rattle.queries.specs.Scans.{opensIn}
use Rattle.queries.proofs.ScanLaws.{type-opens}
use Rattle.types.proofs.Type.is_closed.Goals as goal

pub returns : goal.returns
unfolding closed
returns c =
    let s = c.args.self in
    c.none_open.ensures ∙ ap (λ e. isNil (opensIn s.words.now s.at e)) c.end.ensures ∙ ap isNil (type-opens s.words.now s.tree.0 s.at s.tree.1)
