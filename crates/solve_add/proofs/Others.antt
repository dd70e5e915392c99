-- What the arms of a match on a shape, and on a verdict, leave.
use Rattle.std.specs.Prelude.{◌≡◌, false, not, ◌&&◌, ℕ, eqb, refl}
use Rattle.std.specs.Prelude as maybe
use Rattle.std.proofs.Common.{ap, sym, ◌∙◌}
use Rattle.std.proofs.Math.Bool.{and-false}
use Rattle.std.proofs.Math.Option.{Option, none, some}
use Rattle.rules.specs.Adding.{satisfied, countsDiffer, solid}
use Rattle.rules.specs.Base.{is_none}
use Rattle.rules.specs.Refusals.{toldOption}
use Rattle.rules.specs.Trees.{Ty, Tys, opened, fn, Open, count}
use Rattle.rules.specs.Views.{asPower, fn_of, openOf}
use Rattle.records.specs.declared.Open as names
use Rattle.types.specs.declared.Shape.{Shape}
use Rattle.types.specs.declared.Shape.TheVariants as shape
use Rattle.types.specs.declared.Type as types
use Rattle.types.specs.declared.Types as lists
use Rattle.types.specs.Shapes.{whole}
use Rattle.solve_add.specs.Told.{toldVerdict}
use Rattle.solve_add.specs.declared.Verdict.{Verdict}
use Rattle.solve_add.specs.declared.Verdict.TheVariants as verdict

-- ══ Counts of parameters ══

no-function : (s : Shape) {t : Ty ℕ} → whole s ≡ t → ((ps : lists.Types) (r : types.Type) → s ≡ shape.Function ps r → ⊥) → none ≡ fn_of t
no-function (shape.Open o) e n = ap fn_of e
no-function (shape.Basic b) e n = ap fn_of e
no-function (shape.Dimension p) e n = ap fn_of e
no-function (shape.Function ps r) e n = absurd (n ps r refl)
no-function (shape.Struct x as' fs) e n = ap fn_of e
no-function (shape.List t) e n = ap fn_of e

pub two-counts : {l r : Ty ℕ} {ps qs : Tys ℕ} {t u : Ty ℕ} {n m : ℕ} → fn ps t ≡ l → fn qs u ≡ r → count ps ≡ n → count qs ≡ m
    → not (eqb n m) ≡ countsDiffer (fn_of l) (fn_of r)
unfolding countsDiffer
two-counts e f p q = rw (← e, ← f, ← p, ← q)

pub one-left : {l : Ty ℕ} (g : Option (Tys ℕ × Ty ℕ)) (s : Shape) → whole s ≡ l → ((ps : lists.Types) (t : types.Type) → s ≡ shape.Function ps t → ⊥)
    → false ≡ countsDiffer (fn_of l) g
unfolding countsDiffer
one-left g s e n = ap (λ (f : Option (Tys ℕ × Ty ℕ)). countsDiffer f g) (no-function s e n)

pub one-right : {r : Ty ℕ} (f : Option (Tys ℕ × Ty ℕ)) (s : Shape) → whole s ≡ r → ((ps : lists.Types) (t : types.Type) → s ≡ shape.Function ps t → ⊥)
    → false ≡ countsDiffer f (fn_of r)
unfolding countsDiffer
one-right f s e n = go f ∙ ap (countsDiffer f) (no-function s e n)
  where
    go : (f : Option (Tys ℕ × Ty ℕ)) → false ≡ countsDiffer f none
    go none = refl
    go (some f) = refl

-- ══ Kinds ══

module _ (t : Ty ℕ) where
  pub as-power : {r : maybe.Option ℕ} {x : ℕ} → toldOption r ≡ asPower t → r ≡ maybe.Some x → false ≡ solid t
  unfolding solid
  as-power e i = sym (rw (sym e ∙ ap toldOption i) (and-false (is_none (openOf t))))

  pub as-open : {o : Open ℕ} → opened o ≡ t → false ≡ solid t
  unfolding solid
  as-open e = ap solid e

  pub as-other : {r : maybe.Option ℕ} (s : Shape) → toldOption r ≡ asPower t → r ≡ maybe.None → whole s ≡ t
      → ((o : names.Open) → s ≡ shape.Open o → ⊥) → maybe.true ≡ solid t
  unfolding solid
  as-other s e i w n = go s w n ∙ sym (rw (sym e ∙ ap toldOption i))
    where
      go : (s : Shape) → whole s ≡ t → ((o : names.Open) → s ≡ shape.Open o → ⊥) → maybe.true ≡ (is_none (openOf t) && maybe.true)
      go (shape.Open o) w n = absurd (n o refl)
      go (shape.Basic b) w n = rw (← w)
      go (shape.Dimension p) w n = rw (← w)
      go (shape.Function ps r) w n = rw (← w)
      go (shape.Struct x as' fs) w n = rw (← w)
      go (shape.List u) w n = rw (← w)

-- a verdict other than Satisfied
pub not-satisfied : (v : Verdict) → (v ≡ verdict.Satisfied → ⊥) → toldVerdict v ≡ satisfied → ⊥
not-satisfied verdict.Satisfied f e = f refl
not-satisfied verdict.Violated f e = cc
not-satisfied verdict.Unknown f e = cc
