-- What follows from the definitions of specs/Places: what open names become: a table of places, a word for each name, before a list of words in which the
-- types stand.
use Rattle.std.specs.Prelude.{◌≡◌, refl, List, ℕ, ◌+◌, ◌-◌, None, Some}
use Rattle.std.proofs.Common.{sym, ap, subst, arith}
use Rattle.std.proofs.Math.Option.{Option, none, some}
use Rattle.rules.specs.Trees.{Ty, size}
use Rattle.records.specs.Holds.{Holds}
use Rattle.replace.specs.Runs.{LookedUp}
use Rattle.replace.specs.Places.{SaysAt}

module _ (v : List ℕ) (w : ℕ) where
  pub says_none : (m : Option (Ty ℕ)) → SaysAt v w m → w ≡ 0 → LookedUp v m None
  says_none none h e = refl
  says_none (some t) h e = absurd (omega (arith, h.word))

  -- what a word other than 0 says
  pub says_some : (m : Option (Ty ℕ)) → SaysAt v w m → (w ≡ 0 → ⊥) → (t : Ty ℕ) × ((m ≡ some t) × Holds v t (w - 1))
  says_some none h n = absurd (n h)
  says_some (some t) h n = let e : h.at ≡ w - 1 = omega (arith, h.word) in (t, (refl, subst (Holds v t) e h.held))

  pub says_at : (m : Option (Ty ℕ)) (e : ℕ) → SaysAt v w m → (w ≡ 0 → ⊥) → ((t : Ty ℕ) → Holds v t (w - 1) → e ≡ w - 1 + size t)
      → LookedUp v m (Some (w - 1, e))
  says_at m e h n k =
      let (t, (q, held)) = says_some m h n in
      subst (λ (o : Option (Ty ℕ)). LookedUp v o (Some (w - 1, e))) (sym q)
      (record { place = w - 1; is = ap (λ (j : ℕ). Some (w - 1, j)) (k t held); held = held })
