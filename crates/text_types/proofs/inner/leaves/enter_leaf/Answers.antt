-- `inner::leaves::enter_leaf` meets its contract.
use Rattle.std.proofs.Common.{sym, ◌∙◌, rules}
use Rattle.text_dimensions.proofs.Whole.{dim-done}
use Rattle.text_grammar.proofs.Choice.{by-var, by-par, by-dimension, by_bool, by-string, by-datetime}
use Rattle.text_names.proofs.Effects.{ready-few}
use Rattle.text_types.proofs.Rows.{done-by, no-head, no-type}
use Rattle.text_types.proofs.inner.leaves.enter_leaf.Goals as goal

pub returns-in-63 : goal.returns-in-63
returns-in-63 c = λ d e f g. done-by (by-var d (sym c.byte_at.ensures ∙ c.in-63.is)) c.enter_open.ensures

pub returns-in-33 : goal.returns-in-33
returns-in-33 c = λ d e f g. done-by (by-par d (sym c.byte_at.ensures ∙ c.in-33.is)) c.enter_open-in-33.ensures

pub enter_dimension-requires : goal.enter_dimension-requires
enter_dimension-requires c = c.requires

pub returns-in-91 : goal.returns-in-91
returns-in-91 c = λ d e f g. done-by (by-dimension d (sym c.byte_at.ensures ∙ c.in-91.is)) (dim-done c.enter_dimension.ensures)

pub enter_basic-requires : goal.enter_basic-requires
enter_basic-requires c = record { within = c.requires.within; few = ready-few c.requires }

pub returns-in-66 : goal.returns-in-66
returns-in-66 c = λ d e f g. done-by (by_bool d (sym c.byte_at.ensures ∙ c.in-66.is)) (c.enter_basic.ensures _ _ c.requires)

pub enter_basic-requires-in-83 : goal.enter_basic-requires-in-83
enter_basic-requires-in-83 c = record { within = c.requires.within; few = ready-few c.requires }

pub returns-in-83 : goal.returns-in-83
returns-in-83 c = λ d e f g. done-by (by-string d (sym c.byte_at.ensures ∙ c.in-83.is)) (c.enter_basic-in-83.ensures _ _ c.requires)

pub enter_basic-requires-in-68 : goal.enter_basic-requires-in-68
enter_basic-requires-in-68 c = record { within = c.requires.within; few = ready-few c.requires }

pub returns-in-68 : goal.returns-in-68
returns-in-68 c = λ d e f g. done-by (by-datetime d (sym c.byte_at.ensures ∙ c.in-68.is)) (c.enter_basic-in-68.ensures _ _ c.requires)

pub returns-in_default : goal.returns-in_default
returns-in_default c =
    let b = c.byte_at.ensures in
    λ d e f g. rw c.refuse.ensures
    (no-type c.requires d
    (no-head _ (λ h. search (rules, b ∙ h)) (λ h. search (rules, b ∙ h)) (λ h. search (rules, b ∙ h)) (λ h. search (rules, b ∙ h)) (λ h. search (rules, b ∙ h))
    (λ h. search (rules, b ∙ h)) e f g))
