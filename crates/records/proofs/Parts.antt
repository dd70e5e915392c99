-- The walkers of products, constraints, bindings and bounds step by step, and parts one after another.
use Rattle.std.specs.Prelude.{Option, Some, None}
use borrow.Author.Tests.{eqb-true, eqb-false}
use lib.Dec.{eqb}
use mathlib.Core.Path.{◌≡◌, refl, sym, ap, subst, ◌∙◌}
use mathlib.Core.Bool.{Bool, true, false, ◌&&◌}
use Rattle.std.proofs.lemmas.Bool.{and_from}
use mathlib.Core.List.{List, [], ◌∷◌}
use Prim.Native.Nat.{ℕ, suc, ◌+◌, ◌/◌, ◌≤◌, ◌<◌}
use native.Mathlib.Omega.{arith}
use lib.ListN.{length}
use Rattle.rules.specs.Trees as tree
use Rattle.rules.specs.Trees.{Ty, Con, equal, isDim, is_scalar, hasField, Binding, ◌≔◌, size, sizeCon, sizeBinding, depthCon, depthBinding}
use Rattle.rules.specs.WellFormed as rules
use Rattle.laws.specs.Lists.{and_left as both_left, and_right as both_right}
use Rattle.records.specs.Views.{viewAt}
use Rattle.records.specs.Holds.{openOf, viewOpen, Holds, HoldsProduct, HoldsBinding, BodyCon, BodyBinding, con-body}
use Rattle.records.specs.ByView.{ArmsCon, con-by-body, open-back}
use Rattle.records.proofs.Moves.{part-moves, one-part}
use Rattle.records.specs.Parsed.{only}
use Rattle.records.specs.Good.{Ends, closedAt, holding, goodOpen, goodTy, goodCon, Chain, Chained}
use Rattle.records.proofs.Closing.{Closes, closing, product-closed, con-closed, binding-closed}
use Rattle.records.specs.Readers.{DimAt, TypeAt, ProductAt, TwoAt, ConstraintAt, BindingAt, BoundAt, Tree, PartAt}
use Rattle.records.specs.declared.reader.Reader.{Reader}
use Rattle.records.specs.declared.reader.Part.{Part}
use Rattle.records.specs.declared.Open as names
use Rattle.records.specs.declared.View.{View}
use Rattle.records.specs.declared.View.TheVariants as view
use Rattle.records.proofs.Walks.{false-true, open-there}

module _ (reader : Reader) where
  abbrev pool : List ℕ
  pool = reader.names.pool.now

  abbrev table : List ℕ
  table = reader.names.table.now

  abbrev q : ℕ
  q = reader.quantified

  abbrev s : List ℕ
  s = reader.words.now

  module _ (at : ℕ) where
    -- ══ A product ══

    pub product-dim : (n : ℕ) → viewAt s at ≡ view.Dim n → (r : Option ℕ) → Ends (DimAt reader (at + 1) n) r → Closes s at (ProductAt reader at) r
    unfolding HoldsProduct
    product-dim n v (Some e) (p, g) = product-closed reader
        (record { shows = rw g.many v; held = g.held; past = omega (arith, g.many, g.past); good = g.good })
    product-dim n v None bad = λ p e g.
        let i : view.Dim (length p) ≡ view.Dim n = sym g.held.0 ∙ v in
        let j : length p ≡ n = cc in
        bad p (at + 1 + n) (record { held = g.held.1; many = j; past = refl; good = g.good })

    pub product-other : ((n : ℕ) → viewAt s at ≡ view.Dim n → ⊥) → Ends (ProductAt reader at) None
    unfolding HoldsProduct
    product-other f p e g = f (length p) g.held.0

    -- ══ Two types ══

    pub two-fail : Ends (TypeAt reader 64 at) None → Ends (TwoAt reader at) None
    two-fail bad (l, r) e g = bad l (at + size l) (record { held = g.left; past = refl; deep = g.deepLeft; good = g.goodLeft })

    pub two-step : (m : ℕ) → Ends (TypeAt reader 64 at) (Some m) → (r : Option ℕ) → Ends (TypeAt reader 64 m) r
        → Ends (TwoAt reader at) r
    two-step m (l, f) (Some e) (r, g) = (
      (l, r),
      record {
        left = f.held;
        right = subst (Holds s r) f.past g.held;
        past = omega (arith, f.past, g.past);
        deepLeft = f.deep;
        deepRight = g.deep;
        goodLeft = f.good;
        goodRight = g.good;
      },
    )
    two-step m (l, f) None bad = λ two e g.
        let i : size two.0 ≡ size l = ap size (only s two.0 l at g.left f.held) in
        let k : at + size two.0 ≡ m = omega (arith, f.past) in
        bad two.1 (m + size two.1) (record { held = subst (Holds s two.1) k g.right; past = refl; deep = g.deepRight; good = g.goodRight })

    -- ══ A constraint ══

    abbrev NoCon : Con ℕ → Type 0
    NoCon c = depthCon c ≤ 64 → goodCon pool table q c ≡ true → ⊥

    con-none : {v : View} → viewAt s at ≡ v → ArmsCon s NoCon at v → Ends (ConstraintAt reader at) None
    con-none w a c e g = con-by-body s NoCon c at (con-body s c at g.held) w a g.deep g.good

    pub con-equal : viewAt s at ≡ view.Equal → (r : Option ℕ) → Ends (TwoAt reader (at + 1)) r → Closes s at (ConstraintAt reader at) r
    unfolding BodyCon sizeCon depthCon rules.goodCon
    con-equal v (Some e) ((l, r), g) = con-closed reader {c = equal l r} (record {
      held = (v, g.left, g.right);
      past = omega (arith, g.past);
      deep = omega (arith, g.deepLeft, g.deepRight);
      good = and_from (goodTy pool table q l) (goodTy pool table q r) g.goodLeft g.goodRight;
    })
    con-equal v None bad = con-none v (λ l r h i k g. bad (l, r) (at + 1 + (size l + size r)) (record {
      left = h;
      right = i;
      past = refl;
      deepLeft = omega arith;
      deepRight = omega arith;
      goodLeft = both_left (goodTy pool table q l) (goodTy pool table q r) g;
      goodRight = both_right (goodTy pool table q l) (goodTy pool table q r) g;
    }))

    pub con-dim : viewAt s at ≡ view.IsDim → (r : Option ℕ) → Ends (TypeAt reader 64 (at + 1)) r → Closes s at (ConstraintAt reader at) r
    unfolding BodyCon sizeCon depthCon rules.goodCon
    con-dim v (Some e) (t, g) = con-closed reader {c = isDim t} (record { held = (v, g.held); past = omega (arith, g.past); deep = g.deep; good = g.good })
    con-dim v None bad = con-none v (λ t h k g. bad t (at + 1 + size t) (record { held = h; past = refl; deep = k; good = g }))

    pub con-scalar : viewAt s at ≡ view.IsScalar → (r : Option ℕ) → Ends (ProductAt reader (at + 1)) r → Closes s at (ConstraintAt reader at) r
    unfolding BodyCon sizeCon size depthCon rules.goodCon
    con-scalar v (Some e) (p, g) = con-closed reader {c = is_scalar p}
        (record { held = (v, g.held); past = omega (arith, g.past); deep = omega arith; good = g.good })
    con-scalar v None bad = con-none v (λ p h k g. bad p (at + 1 + suc (length p)) (record { held = h; past = refl; good = g }))

    module _ (x : ℕ) (v : viewAt s at ≡ view.HasField x) where
      pub con-field-name : holding pool table x ≡ false → Ends (ConstraintAt reader at) None
      unfolding rules.goodCon
      con-field-name t = con-none v (λ l r h i k g.
          let H : Bool = holding pool table x in
          let L : Bool = goodTy pool table q l in
          false-true (sym t ∙ both_left H L (both_left (H && L) (goodTy pool table q r) g)))

      pub con-field : holding pool table x ≡ true → (r : Option ℕ) → Ends (TwoAt reader (at + 1)) r → Closes s at (ConstraintAt reader at) r
      unfolding BodyCon sizeCon depthCon rules.goodCon
      con-field t (Some e) ((l, r), g) =
          let H : Bool = holding pool table x in
          let L : Bool = goodTy pool table q l in con-closed reader {c = hasField x l r} (record {
            held = (v, g.left, g.right);
            past = omega (arith, g.past);
            deep = omega (arith, g.deepLeft, g.deepRight);
            good = and_from (H && L) (goodTy pool table q r) (and_from H L t g.goodLeft) g.goodRight;
          })
      con-field t None bad = con-none v (λ l r h i k g.
          let H : Bool = holding pool table x in
          let L : Bool = goodTy pool table q l in
          bad (l, r) (at + 1 + (size l + size r)) (record {
            left = h;
            right = i;
            past = refl;
            deepLeft = omega arith;
            deepRight = omega arith;
            goodLeft = both_right H L (both_left (H && L) (goodTy pool table q r) g);
            goodRight = both_right (H && L) (goodTy pool table q r) g;
          }))

    -- no kind of constraint
    module _ (v : View) (equal' : v ≡ view.Equal → ⊥) (dim : v ≡ view.IsDim → ⊥) (scalar : v ≡ view.IsScalar → ⊥)
        (field : (x : ℕ) → v ≡ view.HasField x → ⊥) where
      con-others : (u : View) → v ≡ u → ArmsCon s NoCon at u
      con-others (view.Opened o) e = tt
      con-others (view.Basic b) e = tt
      con-others (view.Dim n) e = tt
      con-others (view.Function n) e = tt
      con-others (view.Struct x n m) e = tt
      con-others view.List e = tt
      con-others (view.Field x) e = tt
      con-others (view.Factor f n m) e = tt
      con-others view.Equal e = absurd (equal' e)
      con-others view.IsDim e = absurd (dim e)
      con-others view.IsScalar e = absurd (scalar e)
      con-others (view.HasField x) e = absurd (field x e)
      con-others (view.Binding x) e = tt
      con-others (view.Bound o) e = tt
      con-others (view.Scheme n) e = tt
      con-others view.Concrete e = tt
      con-others view.Bad e = tt

      pub con-other : viewAt s at ≡ v → Ends (ConstraintAt reader at) None
      con-other e = con-none e (con-others v refl)

    -- ══ A binding, and a bound ══

    pub binding-other : ((x : ℕ) → viewAt s at ≡ view.Binding x → ⊥) → Ends (BindingAt reader at) None
    unfolding HoldsBinding
    binding-other f (x ≔ t) e g = f x g.held.0

    module _ (x : ℕ) (v : viewAt s at ≡ view.Binding x) where
      same_name : (y : ℕ) → viewAt s at ≡ view.Binding y → y ≡ x
      same_name y w = let i : view.Binding y ≡ view.Binding x = sym w ∙ v in cc

      pub binding-name : holding pool table x ≡ false → Ends (BindingAt reader at) None
      unfolding HoldsBinding rules.goodBinding
      binding-name t (y ≔ u) e g = false-true
          (sym t ∙ subst (λ (w : ℕ). holding pool table w ≡ true) (same_name y g.held.0)
          (both_left (holding pool table y) (goodTy pool table q u) g.good))

      binding-none : ((t : Ty ℕ) (e : ℕ) → TypeAt reader 64 (at + 1) t e → ⊥) → Ends (BindingAt reader at) None
      unfolding HoldsBinding depthBinding rules.goodBinding
      binding-none bad (y ≔ u) e g = bad u (at + 1 + size u)
          (record { held = g.held.1; past = refl; deep = g.deep; good = both_right (holding pool table y) (goodTy pool table q u) g.good })

      pub binding-type : holding pool table x ≡ true → (r : Option ℕ) → Ends (TypeAt reader 64 (at + 1)) r → Closes s at (BindingAt reader at) r
      unfolding BodyBinding sizeBinding depthBinding rules.goodBinding
      binding-type t (Some e) (u, g) = binding-closed reader {b = x ≔ u} (record {
        held = (v, g.held);
        past = omega (arith, g.past);
        deep = g.deep;
        good = and_from (holding pool table x) (goodTy pool table q u) t g.good;
      })
      binding-type t None bad = binding-none bad

    pub bound-other : ((o : names.Open) → viewAt s at ≡ view.Bound o → ⊥) → Ends (BoundAt reader at) None
    bound-other f o e g = f (viewOpen o) g.held.0

    module _ (o : names.Open) (v : viewAt s at ≡ view.Bound o) where
      pub bound-good : goodOpen pool table q (openOf o) ≡ true → Ends (BoundAt reader at) (closedAt s at (at + 1))
      bound-good t = closing s at (BoundAt reader at) (at + 1)
          (λ l. (openOf o, record { held = (rw (open-there o) v, omega (arith, l)); past = refl; good = t }))
          (λ u f g. omega (arith, g.held.1, g.past))
          (λ u f g. g.past)

      pub bound-fail : goodOpen pool table q (openOf o) ≡ false → Ends (BoundAt reader at) None
      bound-fail t p e g =
          let i : view.Bound (viewOpen p) ≡ view.Bound (viewOpen (openOf o)) = sym g.held.0 ∙ rw (open-there o) v in
          let j : viewOpen p ≡ viewOpen (openOf o) = cc in
          let k : p ≡ openOf o = sym (open-back p) ∙ ap openOf j ∙ open-back (openOf o) in
          false-true (sym t ∙ subst (λ (w : tree.Open ℕ). goodOpen pool table q w ≡ true) k g.good)

-- ══ Parts one after another ══

module _ (r : Reader) (k : Part) (at : ℕ) where
  abbrev pub End : ℕ
  End = length r.words.now / 4

  abbrev pub Left : ℕ → Bool → Type 0
  Left m b = Chained (PartAt r k) End m b

  pub part-fail : at < End → Ends (PartAt r k at) None → Left at false
  part-fail h bad [] c = omega arith
  part-fail h bad (a ∷ as') c = bad a c.0 c.1.0

  part-none : (m : ℕ) (a : Tree k) → PartAt r k at a m → at < End → Left m false → Left at false
  part-none m a p h bad [] c = omega arith
  part-none m a p h bad (b ∷ bs) c = bad bs (subst (Chain (PartAt r k) End bs) (one-part r k at b a c.0 m c.1.0 p) c.1.1)

  pub part-step : (m : ℕ) → at < End → Ends (PartAt r k at) (Some m) → (b : Bool) → Left m b → Left at b
  part-step m h (a, p) true (as', c) = (a ∷ as', (m, (p, c)))
  part-step m h (a, p) false bad = part-none m a p h bad

  -- none stands past the end
  parts-end : (b : Bool) → End ≤ at → eqb at End ≡ b → Left at b
  parts-end true h e = ([], eqb-true at End e)
  parts-end false h e = λ as'. go as'
    where
      go : (as' : List (Tree k)) → Chain (PartAt r k) End as' at → ⊥
      go [] c = eqb-false at End e c
      go (a ∷ as') c = let m = part-moves r k at a c.0 c.1.0 in omega (arith, m.0, m.1)

  pub parts-told : End ≤ at → Left at (eqb at End)
  parts-told h = parts-end (eqb at End) h refl
