-- The contract leaves no choice, the answer has the number of its outcome, and none is higher than 256 names allow.
use Rattle.std.specs.Prelude.{◌≡◌, List, [], ◌∷◌, ℕ, zero, suc, ◌<◌, get_or, Ok, Err}
use Rattle.std.proofs.Common.{sym, ap, ◌∙◌, arith}
use Rattle.rules.specs.Ceiling.{Ceiling}
use Rattle.rules.specs.Numbers.{refusalIn, number}
use Rattle.laws.proofs.Numbers.{toldBy-injective, answer-in-by}
use Rattle.laws.specs.ReadLists.{Words}
use Rattle.solve_ceiling.specs.declared.Most.{Most}
use Rattle.solve_ceiling.specs.Told.{toldMost}
use Rattle.solve_ceiling.specs.Theorems.{CeilingDetermined, CeilingNumbered, CeilingHighest}
use Rattle.solve_ceiling.proofs.Answers.{ceiling-highest}

most-injective : (m n : Most) → toldMost m ≡ toldMost n → m ≡ n
most-injective m n e = ap (λ (c : Ceiling). record { variables = c.variables; rounds = c.rounds }) e

pub ceiling-determined : CeilingDetermined
ceiling-determined pool table words p q h k = toldBy-injective toldMost most-injective p q (h ∙ sym k)

pub ceiling-numbered : CeilingNumbered
unfolding number
ceiling-numbered pool table words p h = answer-in-by toldMost p ∙ ap refusalIn h

-- each word of the list has 32 bits, and so has 0, which stands past its end
narrow : (ws : List ℕ) → Words ws → (i : ℕ) → get_or ws i 0 < 4_294_967_296
narrow [] h i = omega arith
narrow (w ∷ ws) h zero = h.0
narrow (w ∷ ws) h (suc i) = narrow ws h.1 i

pub answers-highest : CeilingHighest
answers-highest pool table words (Ok m) w h =
    let (variables, rounds) = ceiling-highest pool table words (record { word = narrow words w }) (toldMost m) (sym h) in
    record { variables = variables; rounds = rounds }
answers-highest pool table words (Err k) w h = tt
