-- The contract leaves no choice, and the answer has the number of its outcome.
use Rattle.std.specs.Prelude.{◌≡◌, refl, ℕ}
use Rattle.std.proofs.Common.{ap, sym, ◌∙◌}
use Rattle.rules.specs.Adding as rules
use Rattle.rules.specs.Calls.{AddedTo}
use Rattle.rules.specs.Numbers.{refusalIn, number}
use Rattle.laws.proofs.Numbers.{toldBy-injective, answer-in-by}
use Rattle.solve_add.specs.declared.Verdict.{Verdict}
use Rattle.solve_add.specs.declared.Verdict.TheVariants.{Satisfied, Violated, Unknown}
use Rattle.solve_add.specs.Told.{toldVerdict, counted, addedAs}
use Rattle.solve_add.specs.Theorems.{AddDetermined, AddNumbered}

verdict-injective : (v w : Verdict) → toldVerdict v ≡ toldVerdict w → v ≡ w
verdict-injective Satisfied Satisfied e = refl
verdict-injective Satisfied Violated e = cc
verdict-injective Satisfied Unknown e = cc
verdict-injective Violated Satisfied e = cc
verdict-injective Violated Violated e = refl
verdict-injective Violated Unknown e = cc
verdict-injective Unknown Satisfied e = cc
verdict-injective Unknown Violated e = cc
verdict-injective Unknown Unknown e = refl

counted-injective : (p q : Verdict × ℕ) → counted p ≡ counted q → p ≡ q
counted-injective (v, m) (w, n) e =
    let i : v ≡ w = verdict-injective v w (ap (λ (p : rules.Added × ℕ). p.0) e) in
    let j : m ≡ n = ap (λ (p : rules.Added × ℕ). p.1) e in
    cc

pub add-determined : AddDetermined
add-determined pool table buffer count con p q a b h k =
    let e : addedAs p a ≡ addedAs q b = h ∙ sym k in
    (toldBy-injective counted counted-injective p q (ap (λ (r : AddedTo). r.answer) e), ap (λ (r : AddedTo). r.buffer) e)

pub add-numbered : AddNumbered
unfolding number
add-numbered pool table buffer count con p a h = answer-in-by counted p ∙ ap (λ (r : AddedTo). refusalIn r.answer) h
