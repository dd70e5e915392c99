-- The contracts leave no choice: two results that one of them allows coincide. And each answer has the number that the rules give to its outcome.
use Rattle.std.specs.Prelude.{◌≡◌, ℕ}
use Rattle.std.proofs.Math.Path.{ap}
use Rattle.std.proofs.Common.{sym, ◌∙◌}
use Rattle.rules.specs.Base.{Got}
use Rattle.rules.specs.Numbers.{refusalIn, number}
use Rattle.rules.specs.Writing.{Rec, rec}
use Rattle.laws.proofs.Numbers.{told-injective, answer-in}
use Rattle.names.specs.Theorems.{OneAnswer}
use Rattle.records.specs.declared.Words.{Words}
use Rattle.records.specs.Theorems.{OneRecord, NumberedAs}

pub answer-determined : (g : Got (Unit {0})) → OneAnswer g
answer-determined g p q h k = told-injective p q (h ∙ sym k)

pub answer-numbered : (g : Got (Unit {0})) → NumberedAs g
unfolding number
answer-numbered g p h = answer-in p ∙ ap refusalIn h

pub record-determined : (r : Rec) → OneRecord r
record-determined r p q h k = same p.kind q.kind p.a q.a p.b q.b p.c q.c (h ∙ sym k)
  where
    same : (k k' a a' b b' c c' : ℕ) → rec k a b c ≡ rec k' a' b' c'
        → ◌≡◌ {A = Words} (record { kind = k; a = a; b = b; c = c }) (record { kind = k'; a = a'; b = b'; c = c' })
    same k k' a a' b b' c c' e =
        let x : k ≡ k' = cc in
        let y : a ≡ a' = cc in
        let z : b ≡ b' = cc in
        let w : c ≡ c' = cc in
        λ i. record { kind = x i; a = y i; b = z i; c = w i }
