-- `fitting` meets its contract.
use mathlib.Core.Path.{sym, ◌∙◌}
use borrow.Author.Tests.{lt-ltb, le-ltb, eq-eqb, ne_eqb}
use Rattle.serve_replies.proofs.request.fitting.Goals as goal

pub returns-then-excess-gt0 : goal.returns-then-excess-gt0
returns-then-excess-gt0 c = simp (lt-ltb _ _ (rw c.excess.ensures at c.if-excess-gt0.true))

pub returns-then-h-parts : goal.returns-then-h-parts
returns-then-h-parts c =
    simp (le-ltb _ _ (rw c.excess.ensures at c.if-excess-gt0.false), eq-eqb _ _ (c.if-h-parts.true ∙ c.parts.ensures))

pub returns-else-h-parts : goal.returns-else-h-parts
returns-else-h-parts c =
    simp (le-ltb _ _ (rw c.excess.ensures at c.if-excess-gt0.false), ne_eqb _ _ (λ e. c.if-h-parts.false (e ∙ sym c.parts.ensures)))
