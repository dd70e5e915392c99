use Prim.Native.Nat.{ℕ}
use Rattle.text_grammar.specs.Choice.{among, heads}
-- `inner::too_deep` meets its contract.
use mathlib.Core.Path.{sym, ap, ◌∙◌}
use Rattle.text_types.proofs.Rows.{deep-type, no-deep}
use Rattle.text_types.proofs.inner.too_deep.Goals as goal

pub returns-then-is_head : goal.returns-then-is_head
returns-then-is_head c =
    λ pool table dst h. rw (c.pass_if.ensures, c.place_of.ensures)
    (deep-type _ h (sym c.if-is_head.true ∙ c.is_head.ensures ∙ ap (λ (b : ℕ). among b heads) c.byte_at.ensures))

pub returns : goal.returns
returns c =
    λ pool table dst h. rw c.refuse.ensures
    (no-deep h (sym c.if-is_head.false ∙ c.is_head.ensures ∙ ap (λ (b : ℕ). among b heads) c.byte_at.ensures))
