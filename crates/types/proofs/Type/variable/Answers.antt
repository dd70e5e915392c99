use Rattle.std.proofs.Common.{ap, sym, ◌∙◌}
use Rattle.rules.specs.Views.{asVar}
use Rattle.types.proofs.Seen.{seen-as, no-variable}
use Rattle.types.proofs.Type.variable.Goals as goal

pub returns-in-Opened : goal.returns-in-Opened
returns-in-Opened c = c.variable.ensures ∙ sym (ap asVar (seen-as _ _ c.args.self.tree (sym c.view_at.ensures ∙ c.in-Opened.is)))

pub returns-in_default : goal.returns-in_default
returns-in_default c = no-variable _ _ c.args.self.tree (λ o e. c.in_default.not-Opened o (c.view_at.ensures ∙ e))
