use Rattle.std.proofs.Common.{ap, sym, ◌∙◌}
use Rattle.std.specs.Prelude.{eqb}
use Rattle.rules.specs.Base.{any}
use Rattle.rules.specs.Trees.{opens}
use Rattle.rules.specs.Contents.{contains, variablesIn}
use Rattle.laws.proofs.Contents.{contains-eqb}
use Rattle.queries.specs.Scans.{opensIn}
use Rattle.queries.proofs.ScanLaws.{type-opens}
use Rattle.types.proofs.Type.contains.Goals as goal

pub returns : goal.returns
unfolding contains
returns c = λ names.
    let s = c.args.self in
    let x = c.args.x in
    c.occurs.ensures ∙ ap (λ e. any (eqb x) (variablesIn (opensIn s.words.now s.at e))) c.end.ensures
    ∙ ap (λ os. any (eqb x) (variablesIn os)) (type-opens s.words.now s.tree.0 s.at s.tree.1) ∙ sym (contains-eqb names x (opens s.tree.0))
