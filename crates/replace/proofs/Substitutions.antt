-- What follows from the definitions of specs/Substitutions: what a table of places says the names become: one thing each, in one way.
use Rattle.std.specs.Prelude.{◌≡◌, List, ℕ, ◌-◌}
use Rattle.std.proofs.Common.{ap, subst, arith, refl}
use Rattle.std.proofs.Math.Option.{Option, none, some}
use Rattle.rules.specs.Trees.{Open, Ty}
use Rattle.records.specs.Holds.{Holds}
use Rattle.records.specs.Parsed.{only}
use Rattle.types.specs.Once.{ATree}
use Rattle.replace.specs.Places.{SaysAt}
use Rattle.replace.specs.Substitutions.{ALook, one-look}

module _ (v : List ℕ) where
  module _ {w : ℕ} where
    -- a name of which the table says nothing, and one whose type stands at the place
    pub none-said : (m : Option (Ty ℕ)) → SaysAt v w m → w ≡ 0 → none ≡ m
    none-said none h e = refl
    none-said (some t) h e = absurd (omega (arith, h.word, e))

    pub said-at : (m : Option (Ty ℕ)) → SaysAt v w m → (w ≡ 0 → ⊥) → ATree v (w - 1)
    said-at none h n = absurd (n h)
    said-at (some t) h n = let e : h.at ≡ w - 1 = omega (arith, h.word) in (t, subst (Holds v t) e h.held)

    pub some-said : (m : Option (Ty ℕ)) → SaysAt v w m → (w ≡ 0 → ⊥) → (t : ATree v (w - 1)) → some t.0 ≡ m
    some-said none h n t = absurd (n h)
    some-said (some u) h n t = let e : h.at ≡ w - 1 = omega (arith, h.word) in ap some (only v t.0 u (w - 1) t.1 (subst (Holds v u) e h.held))

module _ (pool table places v : List ℕ) where
  pub same-look : (p q : ALook pool table places v) (o : Open ℕ) → p.0 o ≡ q.0 o
  same-look p q o = ap (λ (l : ALook pool table places v). l.0 o) (one-look pool table places v p q)
