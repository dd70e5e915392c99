-- The contracts leave no choice: two results that one of them allows coincide. And each answer has the number that the rules give to its outcome.
use Rattle.std.specs.Prelude.{◌≡◌, Bool, List, ℕ, Result}
use Rattle.std.proofs.Math.Path.{ap}
use Rattle.std.proofs.Common.{sym, ◌∙◌}
use Rattle.rules.specs.Base.{Got}
use Rattle.rules.specs.Calls.{Listed}
use Rattle.rules.specs.Numbers.{listed, refusalIn, number}
use Rattle.rules.specs.Refusals.{numberAnswer}
use Rattle.rules.specs.declared.Refusal.{Refusal}
use Rattle.laws.proofs.Numbers.{told-injective, answer-in}
use Rattle.queries.specs.Told.{listedAs}
use Rattle.queries.specs.Theorems.{OneAnswer, NumberedAs}

pub answer-determined : (g : Got Bool) → OneAnswer g
answer-determined g p q h k = told-injective p q (h ∙ sym k)

pub answer-numbered : (g : Got Bool) → NumberedAs g
unfolding number
answer-numbered g p h = answer-in p ∙ ap refusalIn h

pub listed-determined : (l : Listed) (p q : Result ℕ Refusal) (a b : List ℕ) → listedAs p a ≡ l → listedAs q b ≡ l → (p ≡ q) × (a ≡ b)
listed-determined l p q a b h k =
    let e : listedAs p a ≡ listedAs q b = h ∙ sym k in
    (told-injective p q (ap (λ (m : Listed). m.answer) e), ap (λ (m : Listed). m.result) e)

pub listed-numbered : (l : Listed) (p : Result ℕ Refusal) (a : List ℕ) → listedAs p a ≡ l → numberAnswer p ≡ number (listed l)
unfolding number
listed-numbered l p a h = answer-in p ∙ ap (λ (m : Listed). refusalIn m.answer) h
