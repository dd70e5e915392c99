use Rattle.std.specs.Prelude.{◌≡◌, [], ◌∷◌}
use Rattle.std.proofs.Common.{ap, sym, ◌∙◌}
use mathlib.Core.List.{cons≢nil}
use Rattle.rules.specs.Trees.{◌≔◌}
use Rattle.solve_round.specs.Parts.{leaf}
use Rattle.solve_round.proofs.inner.binds_leaf.Goals as goal

pub returns-in-Some : goal.returns-in-Some
returns-in-Some c = λ x t e.
    let z : c.in-Some.first.name ≔ c.in-Some.first.to.tree.0 ∷ _ ≡ x ≔ t ∷ [] = c.in-Some.ensures ∙ e in
    let q : c.in-Some.first.to.tree.0 ≡ t = cc in
    c.is_leaf.ensures ∙ ap leaf q

pub returns-in-None : goal.returns-in-None
returns-in-None c = λ x t e. absurd (cons≢nil (sym (c.in-None.ensures ∙ e)))
