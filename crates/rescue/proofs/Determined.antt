-- The contract leaves no choice: two answers that it allows coincide; and the answer has the number of its outcome.
use Rattle.std.specs.Prelude.{◌≡◌, ℕ}
use Rattle.std.proofs.Common.{sym, ◌∙◌}
use Rattle.std.proofs.Math.Path.{ap}
use Rattle.rules.specs.Numbers.{refusalIn, number}
use Rattle.laws.proofs.Numbers.{toldBy-injective, answer-in-by}
use Rattle.rules.specs.Rescue.{Rescued}
use Rattle.rescue.specs.declared.Counts.{Counts}
use Rattle.rescue.specs.Theorems.{RescueDetermined, RescueNumbered}
use Rattle.rescue.specs.Told.{countsOf}

one-count : (c d : Counts) → countsOf c ≡ countsOf d → c ≡ d
one-count c d e = let f : ◌≡◌ {A = ℕ × ℕ} (c.kept, c.skipped) (d.kept, d.skipped) = e in ap (λ (x : ℕ × ℕ). record { kept = x.0; skipped = x.1 }) f

pub rescue-determined : RescueDetermined
rescue-determined pool table file kept skipped p q k l m n h i =
    let e = h ∙ sym i in
    (toldBy-injective countsOf one-count p q (ap (λ (r : Rescued). r.answer) e), ap (λ (r : Rescued). r.kept) e, ap (λ (r : Rescued). r.skipped) e)

pub rescue-numbered : RescueNumbered
unfolding number
rescue-numbered pool table file kept skipped p k m h = answer-in-by countsOf p ∙ ap (λ (r : Rescued). refusalIn r.answer) h
