-- A type, and a scheme, that takes all records.
use Rattle.std.specs.Prelude.{Option, Some, None}
use Rattle.std.specs.Option.{option_eq}
use borrow.Author.Tests.{eqb-true, eqb-false}
use mathlib.Core.Path.{◌≡◌, refl, sym, ap, subst, ◌∙◌}
use mathlib.Core.Bool.{Bool, true, false}
use mathlib.Core.List.{List}
use Prim.Native.Nat.{ℕ, ◌+◌, ◌/◌}
use lib.Dec.{eqb}
use lib.ListN.{length}
use Rattle.rules.specs.Trees as tree
use Rattle.rules.specs.Trees.{Ty, size}
use Rattle.rules.specs.Schemes.{Scheme, concrete, scheme}
use Rattle.records.specs.Views.{viewAt}
use Rattle.records.specs.declared.View.TheVariants as view
use Rattle.records.specs.Holds.{Long}
use Rattle.records.specs.Parsed.{only}
use Rattle.records.specs.Good.{Ends, There, GoodTy, GoodBound, GoodScheme, Chain, Chained}

module _ (pool table : List ℕ) (q : ℕ) (s : List ℕ) (at : ℕ) where
  abbrev Whole : Bool → Type 0
  Whole b = There (λ t. GoodTy pool table q s 64 at t (length s / 4)) b

  type-whole : (m : ℕ) → Ends (GoodTy pool table q s 64 at) (Some m) → m ≡ length s / 4 → Whole true
  type-whole m (t, g) e = (t, subst (GoodTy pool table q s 64 at t) e g)

  type-not-whole : (m : ℕ) → Ends (GoodTy pool table q s 64 at) (Some m) → (m ≡ length s / 4 → ⊥) → Whole false
  type-not-whole m (t, g) f u h = f (g.past ∙ ap (λ (x : Ty ℕ). at + size x) (only s t u at g.held h.held) ∙ sym h.past)

  type-bad : Ends (GoodTy pool table q s 64 at) None → Whole false
  type-bad bad u h = bad u (length s / 4) h

  pub type-told : (r : Option ℕ) → Ends (GoodTy pool table q s 64 at) r → Whole (option_eq eqb r (Some (length s / 4)))
  type-told None bad = type-bad bad
  type-told (Some m) e = go (eqb m (length s / 4)) refl
    where
      go : (b : Bool) → eqb m (length s / 4) ≡ b → Whole b
      go true i = type-whole m e (eqb-true m (length s / 4) i)
      go false i = type-not-whole m e (eqb-false m (length s / 4) i)

-- ══ A scheme ══

module _ (pool table s : List ℕ) where
  abbrev pub Scheme' : Bool → Type 0
  Scheme' b = There (GoodScheme pool table s) b

  scheme-long : (sc : Scheme ℕ) → GoodScheme pool table s sc → Long s 0 (length s / 4)
  scheme-long (concrete t) (v, g, l) = l
  scheme-long (scheme n t bs) (v, g, l) = l

  pub scheme-open : (Long s 0 (length s / 4) → ⊥) → Scheme' false
  scheme-open f sc g = f (scheme-long sc g)

  unlike : {A : Type 0} (n : ℕ) → viewAt s 0 ≡ view.Concrete → viewAt s 0 ≡ view.Scheme n → A
  unlike n v w =
      let i : view.Concrete ≡ view.Scheme n = sym v ∙ w in
      absurd (cc)

  pub scheme-other : (viewAt s 0 ≡ view.Concrete → ⊥) → ((n : ℕ) → viewAt s 0 ≡ view.Scheme n → ⊥) → Scheme' false
  scheme-other f g (concrete t) h = f h.0
  scheme-other f g (scheme n t bs) h = g n h.0

  concrete-none : viewAt s 0 ≡ view.Concrete → There (λ t. GoodTy pool table 0 s 64 1 t (length s / 4)) false → Scheme' false
  concrete-none v f (concrete t) (w, g, l) = f t g
  concrete-none v f (scheme n t bs) (w, g, l) = unlike n v w

  module _ (long : Long s 0 (length s / 4)) where
    pub scheme-concrete : viewAt s 0 ≡ view.Concrete → (b : Bool) → There (λ t. GoodTy pool table 0 s 64 1 t (length s / 4)) b → Scheme' b
    scheme-concrete v true (t, g) = (concrete t, (v, g, long))
    scheme-concrete v false f = concrete-none v f

    module _ (n : ℕ) (v : viewAt s 0 ≡ view.Scheme n) where
      -- the type and the bounds of a scheme with n quantified variables
      abbrev Rest : ℕ → Ty ℕ → List (tree.Open ℕ) → Type 0
      Rest k t bs = (e : ℕ) × (GoodTy pool table k s 64 1 t e × Chain (GoodBound pool table k s) (length s / 4) bs e)

      here : (m : ℕ) (t : Ty ℕ) (bs : List (tree.Open ℕ)) → viewAt s 0 ≡ view.Scheme m → Rest m t bs → Rest n t bs
      here m t bs w r =
          let i : view.Scheme m ≡ view.Scheme n = sym w ∙ v in
          let j : m ≡ n = cc in
          subst (λ (k : ℕ). Rest k t bs) j r

      pub scheme-type : Ends (GoodTy pool table n s 64 1) None → Scheme' false
      scheme-type bad (concrete t) (w, g, l) = unlike n w v
      scheme-type bad (scheme m t bs) (w, g, l) = let r = here m t bs w g in bad t r.0 r.1.0

      bounds-none : (e : ℕ) (t : Ty ℕ) → GoodTy pool table n s 64 1 t e → Chained (GoodBound pool table n s) (length s / 4) e false → Scheme' false
      bounds-none e t f bad (concrete u) (w, g, l) = unlike n w v
      bounds-none e t f bad (scheme m u bs) (w, g, l) =
          let r = here m u bs w g in
          let i : r.0 ≡ e = r.1.0.past ∙ ap (λ (x : Ty ℕ). 1 + size x) (only s u t 1 r.1.0.held f.held) ∙ sym f.past in
          bad bs (subst (Chain (GoodBound pool table n s) (length s / 4) bs) i r.1.1)

      pub scheme-bounds : (e : ℕ) → Ends (GoodTy pool table n s 64 1) (Some e) → (b : Bool) → Chained (GoodBound pool table n s) (length s / 4) e b
          → Scheme' b
      scheme-bounds e (t, g) true (bs, c) = (scheme n t bs, (v, (e, (g, c)), long))
      scheme-bounds e (t, g) false bad = bounds-none e t g bad
