-- `words_of` meets its contract: by the view.
use Rattle.records.specs.Views.{bareOf}
use Rattle.rules.specs.Writing.{rec}
use Prim.Native.Nat.{ℕ}
use mathlib.Core.Path.{sym, ap, ◌∙◌}
use Rattle.records.proofs.seen.words_of.Goals as goal

pub returns-in-Opened : goal.returns-in-Opened
returns-in-Opened c = c.open_words.ensures ∙ sym (ap bareOf c.in-Opened.is)

pub returns-in-Basic : goal.returns-in-Basic
returns-in-Basic c = c.lone.ensures ∙ ap (λ (k : ℕ). rec k 0 0 0) c.basic_kind.ensures ∙ sym (ap bareOf c.in-Basic.is)

pub returns-in-Dim : goal.returns-in-Dim
returns-in-Dim c = c.lone-in-Dim.ensures ∙ sym (ap bareOf c.in-Dim.is)

pub returns-in-Function : goal.returns-in-Function
returns-in-Function c = c.lone-in-Function.ensures ∙ sym (ap bareOf c.in-Function.is)

pub returns-in-Struct : goal.returns-in-Struct
returns-in-Struct c = sym (ap bareOf c.in-Struct.is)

pub returns-in-List : goal.returns-in-List
returns-in-List c = c.lone-in-List.ensures ∙ sym (ap bareOf c.in-List.is)

pub returns-in-Field : goal.returns-in-Field
returns-in-Field c = c.lone-in-Field.ensures ∙ sym (ap bareOf c.in-Field.is)

pub returns-in-Factor : goal.returns-in-Factor
returns-in-Factor c = c.factor_words.ensures ∙ sym (ap bareOf c.in-Factor.is)

pub returns-in-Equal : goal.returns-in-Equal
returns-in-Equal c = c.lone-in-Equal.ensures ∙ sym (ap bareOf c.in-Equal.is)

pub returns-in-IsDim : goal.returns-in-IsDim
returns-in-IsDim c = c.lone-in-IsDim.ensures ∙ sym (ap bareOf c.in-IsDim.is)

pub returns-in-IsScalar : goal.returns-in-IsScalar
returns-in-IsScalar c = c.lone-in-IsScalar.ensures ∙ sym (ap bareOf c.in-IsScalar.is)

pub returns-in-HasField : goal.returns-in-HasField
returns-in-HasField c = c.lone-in-HasField.ensures ∙ sym (ap bareOf c.in-HasField.is)

pub returns-in-Binding : goal.returns-in-Binding
returns-in-Binding c = c.lone-in-Binding.ensures ∙ sym (ap bareOf c.in-Binding.is)

pub returns-in-Bound : goal.returns-in-Bound
returns-in-Bound c = c.bound_words.ensures ∙ sym (ap bareOf c.in-Bound.is)

pub returns-in-Scheme : goal.returns-in-Scheme
returns-in-Scheme c = c.lone-in-Scheme.ensures ∙ sym (ap bareOf c.in-Scheme.is)

pub returns-in-Concrete : goal.returns-in-Concrete
returns-in-Concrete c = sym (ap bareOf c.in-Concrete.is)

pub returns-in-Bad : goal.returns-in-Bad
returns-in-Bad c = c.lone-in-Bad.ensures ∙ sym (ap bareOf c.in-Bad.is)
