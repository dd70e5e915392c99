-- `inner::power_in` meets its contract. The invariant: the atom isn't among the factors that were passed.
use mathlib.Core.Path.{◌≡◌, refl, sym, ◌∙◌}
use Rattle.std.proofs.Common.{rules}
use Rattle.engine_rows.proofs.Atoms.{power-met, power-passed, power-none}
use Rattle.engine_rows.proofs.inner.power_in.Goals as goal

pub factors-init : goal.factors-init
factors-init c = rw c.into_iter-factor-iterator.ensures.into_iter_gives (λ names. refl)

pub returns-then-eq : goal.returns-then-eq
returns-then-eq c names =
    let same : c.in-Some.factor.atom ≡ c.args.a = search rules in
    c.from_words.ensures ∙ sym (power-met names _ _ _ c.in-Some.ensures.steps _ same) ∙ c.factors.invariant names

pub factors-preserved : goal.factors-preserved
factors-preserved c names =
    let other : c.in-Some.factor.atom ≡ c.args.a → ⊥ = search rules in
    power-passed names _ _ _ c.in-Some.ensures.steps _ other ∙ c.factors.invariant names

pub returns : goal.returns
returns c names = sym (power-none names _ _ c.in-None.ensures.steps.0) ∙ c.factors.invariant names
