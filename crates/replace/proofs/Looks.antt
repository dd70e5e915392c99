-- What replacing leaves, whichever proof says what the names become.
use Rattle.std.specs.Prelude.{◌≡◌, List, ℕ, Result}
use Rattle.std.proofs.Common.{subst}
use Rattle.rules.specs.Base.{bounded}
use Rattle.rules.specs.Replacing.{replaceTy}
use Rattle.rules.specs.Trees.{Ty}
use Rattle.rules.specs.Writing.{writeTy}
use Rattle.rules.specs.declared.Refusal.{Refusal}
use Rattle.types.specs.declared.writer.Writer.{Writer}
use Rattle.replace.specs.Leaves.{Leaves}
use Rattle.replace.specs.Substitutions.{ALook, one-look}
use Rattle.replace.specs.Well.{names}

module _ (pool table places v : List ℕ) {w w' : Writer} {r : Result (Unit {0}) Refusal} where
  pub type-as : {t u : Ty ℕ} (p q : ALook pool table places v) → t ≡ u → Leaves writeTy w w' r (replaceTy (names pool table) bounded p.0 t)
      → Leaves writeTy w w' r (replaceTy (names pool table) bounded q.0 u)
  type-as p q e h =
      subst (λ (x : Ty ℕ). Leaves writeTy w w' r (replaceTy (names pool table) bounded q.0 x)) e
      (subst (λ (l : ALook pool table places v). Leaves writeTy w w' r (replaceTy (names pool table) bounded l.0 _)) (one-look pool table places v p q) h)
