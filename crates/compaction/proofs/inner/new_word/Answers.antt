-- `inner::new_word` meets its contract.
use mathlib.Core.Path.{sym, ap, ◌∙◌}
use mathlib.Core.Bool.{Bool}
use Rattle.rules.specs.Compaction.{renumberIf}
use Rattle.compaction.specs.Told.{marks}
use Rattle.compaction.proofs.inner.new_word.Goals as goal

pub returns-then-not-names_one : goal.returns-then-not-names_one
returns-then-not-names_one c = let a = c.args in ap (λ (b : Bool). renumberIf b (marks a.m.now) a.a) (sym (c.if-not-names_one.true) ∙ c.names_one.ensures)

pub number_of-requires : goal.number_of-requires
number_of-requires c = c.requires.places

pub returns-then-i-lt-NAMES : goal.returns-then-i-lt-NAMES
returns-then-i-lt-NAMES c = let a = c.args in c.requires.numbered.is a.a c.if-i-lt-NAMES.true
    ∙ ap (λ (b : Bool). renumberIf b (marks a.m.now) a.a) (sym (c.if-not-names_one.false) ∙ c.names_one.ensures)

pub returns-else-i-lt-NAMES : goal.returns-else-i-lt-NAMES
returns-else-i-lt-NAMES c = let a = c.args in c.number_of.ensures
    ∙ ap (λ (b : Bool). renumberIf b (marks a.m.now) a.a) (sym (c.if-not-names_one.false) ∙ c.names_one.ensures)
