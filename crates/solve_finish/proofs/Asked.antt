-- What is no bound.
use Rattle.std.specs.Prelude.{◌≡◌, ℕ, refl}
use Rattle.std.proofs.Common.{ap, ◌∙◌}
use Rattle.std.proofs.Math.Option.{Option, none}
use Rattle.rules.specs.Solving.{boundOf}
use Rattle.rules.specs.Trees.{Open, Con, Ty, opened, isDim}
use Rattle.rules.specs.Views.{name_of}
use Rattle.records.specs.declared.Open as names
use Rattle.types.specs.declared.Demand.{Demand}
use Rattle.types.specs.declared.Demand.TheVariants as demand
use Rattle.types.specs.declared.Shape.{Shape}
use Rattle.types.specs.declared.Shape.TheVariants as shape
use Rattle.types.specs.declared.Type as types
use Rattle.types.specs.Shapes.{asked, whole}

pub named : {c : Con ℕ} {t : Ty ℕ} {o : Open ℕ} {r : Option ℕ} → isDim t ≡ c → opened o ≡ t → r ≡ name_of o → r ≡ boundOf c
unfolding boundOf
named e f h = h ∙ ap (λ t. boundOf (isDim t)) f ∙ ap boundOf e

pub unnamed : {c : Con ℕ} {t : Ty ℕ} (s : Shape) → isDim t ≡ c → whole s ≡ t → ((o : names.Open) → s ≡ shape.Open o → ⊥) → none ≡ boundOf c
unfolding boundOf
unnamed s e f n = go s n ∙ ap (λ t. boundOf (isDim t)) f ∙ ap boundOf e
  where
    go : (s : Shape) → ((o : names.Open) → s ≡ shape.Open o → ⊥) → none ≡ boundOf (isDim (whole s))
    go (shape.Open o) n = absurd (n o refl)
    go (shape.Basic b) n = refl
    go (shape.Dimension p) n = refl
    go (shape.Function ps r) n = refl
    go (shape.Struct x as' fs) n = refl
    go (shape.List t) n = refl

pub otherwise : {c : Con ℕ} (d : Demand) → asked d ≡ c → ((t : types.Type) → d ≡ demand.IsDimension t → ⊥) → none ≡ boundOf c
unfolding boundOf
otherwise d e n = go d n ∙ ap boundOf e
  where
    go : (d : Demand) → ((t : types.Type) → d ≡ demand.IsDimension t → ⊥) → none ≡ boundOf (asked d)
    go (demand.Equal l r) n = refl
    go (demand.IsDimension t) n = absurd (n t refl)
    go (demand.IsScalar p) n = refl
    go (demand.HasField x t u) n = refl
