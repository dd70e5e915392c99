-- `factor_words` meets its contract: by the case.
use Rattle.records.specs.declared.Atom.{Atom}
-- `factor_words` meets its contract.
use Rattle.records.specs.Views.{recFactor}
use mathlib.Core.Path.{sym, ap, ◌∙◌}
use Rattle.records.proofs.seen.factor_words.Goals as goal

pub returns-in-Free : goal.returns-in-Free
returns-in-Free c = c.free_words.ensures ∙ sym (ap (λ (x : Atom). recFactor x c.args.num c.args.den) c.in-Free.is)

pub returns-in-Base : goal.returns-in-Base
returns-in-Base c = sym (ap (λ (x : Atom). recFactor x c.args.num c.args.den) c.in-Base.is)
