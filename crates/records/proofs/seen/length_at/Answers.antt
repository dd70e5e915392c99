-- `length_at` meets its contract.
use Rattle.records.specs.Places.{long-some}
use Rattle.records.proofs.Places.{long-none}
use Rattle.records.specs.Views.{longOf}
use mathlib.Core.Path.{sym, ◌∙◌}
use Rattle.records.proofs.seen.length_at.Goals as goal

pub returns-then-s-at : goal.returns-then-s-at
returns-then-s-at c = sym (long-none c.args.s.now c.args.at c.if-s-at.true)

pub returns : goal.returns
unfolding longOf
returns c = c.length_in.ensures ∙ sym (long-some c.args.s.now c.args.at c.if-s-at.false)
