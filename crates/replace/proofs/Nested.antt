-- Constraints or bindings that are tested one after another: those that are left decide.
use Rattle.std.specs.Prelude.{◌≡◌, Some, None, Bool, true, false, List, [], ◌∷◌, ℕ, ◌+◌, ◌≤◌, ◌<◌, leb, max, refl}
use Rattle.std.proofs.Common.{arith, ap, sym, subst, ◌∙◌, le-leb}
use Rattle.std.proofs.Math.Bool.{and-eq-true_iff}
use Rattle.std.proofs.Math.Decide.{dec_le}
use Rattle.std.proofs.lemmas.Bool.{lt-leb}
use Rattle.rules.specs.Base.{all, max_of}
use Rattle.rules.specs.Trees.{Ty, Con, ◌≔◌, size, depth, sizeCon, depthCon, depthBinding}
use Rattle.rules.specs.WellFormed as rules
use Rattle.laws.specs.Lists.{and_right}
use Rattle.records.specs.Good.{Ends, GoodCon, GoodTy, goodBinding, goodCon, goodTy}
use Rattle.records.specs.Parsed.{only, only-con}
use Rattle.types.specs.Once.{ACon, ATree}

drop-flat : (d m : ℕ) → d ≤ 64 → leb (max d m) 64 ≡ leb m 64
drop-flat d m h = go (dec_le m 64)
  where
    go : Dec (m ≤ 64) → leb (max d m) 64 ≡ leb m 64
    go (yes k) = le-leb (max d m) 64 (omega arith) ∙ sym (le-leb m 64 k)
    go (no k) = lt-leb (max d m) 64 (omega arith) ∙ sym (lt-leb m 64 (omega arith))

module _ {A : Type 0} (good : A → Bool) (deep : A → ℕ) where
  pub record Deciding (now whole : List A) : Type 0 where
    pub sound : all good now ≡ true
    pub decides : leb (max_of deep whole) 64 ≡ leb (max_of deep now) 64

  pub all-decide : (xs : List A) → all good xs ≡ true → Deciding xs xs
  all-decide xs g = record { sound = g; decides = refl }

  module _ {now whole : List A} (d : Deciding now whole) where
    pub none-deep : now ≡ [] → true ≡ leb (max_of deep whole) 64
    none-deep e = sym (d.decides ∙ ap (λ (xs : List A). leb (max_of deep xs) 64) e)

    module _ (a : A) (left : List A) (e : now ≡ a ∷ left) where
      parts : (good a ≡ true) × (all good left ≡ true)
      unfolding all
      parts = (and-eq-true_iff (good a) (all good left)).0 (subst (λ (xs : List A). all good xs ≡ true) e d.sound)

      pub first-good : good a ≡ true
      first-good = parts.0

      first-decides : leb (max_of deep whole) 64 ≡ leb (max (deep a) (max_of deep left)) 64
      first-decides = d.decides ∙ ap (λ (xs : List A). leb (max_of deep xs) 64) e

      pub flat-on : deep a ≤ 64 → Deciding left whole
      flat-on h = record { sound = parts.1; decides = first-decides ∙ drop-flat (deep a) (max_of deep left) h }

      pub too-deep : 64 < deep a → false ≡ leb (max_of deep whole) 64
      too-deep h = sym (first-decides ∙ lt-leb (max (deep a) (max_of deep left)) 64 (omega arith))

-- what the walkers of records find at the place of a constraint, and of a type
module _ (pool table s : List ℕ) where
  pub con-flat : {at e : ℕ} (c : ACon s at) → Ends (GoodCon pool table 0 s at) (Some e) → depthCon c.0 ≤ 64
  con-flat {at} c (d, g) = subst (λ (x : Con ℕ). depthCon x ≤ 64) (only-con s d c.0 at g.held c.1) g.deep

  pub con-deep : {at : ℕ} (c : ACon s at) → goodCon pool table 0 c.0 ≡ true → Ends (GoodCon pool table 0 s at) None → 64 < depthCon c.0
  con-deep {at} c g h = go (dec_le (depthCon c.0) 64)
    where
      go : Dec (depthCon c.0 ≤ 64) → 64 < depthCon c.0
      go (yes k) = absurd (h c.0 (at + sizeCon c.0) (record { held = c.1; past = refl; deep = k; good = g }))
      go (no k) = omega arith

  pub bound-flat : {at e : ℕ} (x : ℕ) (t : ATree s at) → Ends (GoodTy pool table 0 s 64 at) (Some e) → depthBinding (x ≔ t.0) ≤ 64
  unfolding depthBinding
  bound-flat {at} x t (u, g) = subst (λ (y : Ty ℕ). depth y ≤ 64) (only s u t.0 at g.held t.1) g.deep

  pub bound-deep : {at : ℕ} (x : ℕ) (t : ATree s at) → goodBinding pool table 0 (x ≔ t.0) ≡ true → Ends (GoodTy pool table 0 s 64 at) None
      → 64 < depthBinding (x ≔ t.0)
  unfolding depthBinding rules.goodBinding
  bound-deep {at} x t g h = go (dec_le (depth t.0) 64)
    where
      go : Dec (depth t.0 ≤ 64) → 64 < depth t.0
      go (yes k) = absurd (h t.0 (at + size t.0) (record { held = t.1; past = refl; deep = k; good = and_right _ (goodTy pool table 0 t.0) g }))
      go (no k) = omega arith
