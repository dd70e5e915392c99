-- The walkers step by step: what a part that is well formed at a place has, and what shows that there is none.
use Rattle.std.specs.Prelude.{Option, Some, None}
use mathlib.Core.Path.{◌≡◌, refl, sym, ap, subst, ◌∙◌}
use mathlib.Core.Bool.{Bool, true, false, ◌&&◌}
use Rattle.std.proofs.lemmas.Bool.{and_from}
use mathlib.Core.List.{List, [], ◌∷◌, map}
use Prim.Native.Nat.{ℕ, suc, ◌+◌, ◌-◌, ◌≤◌, ◌<◌}
use native.Mathlib.Omega.{arith}
use borrow.Author.Tests.{le-leb, leb-true, eqb-true, eq-eqb, ne_eqb}
use lib.Dec.{leb, eqb}
use lib.ListN.{length}
use Rattle.rules.specs.Base.{all}
use Rattle.rules.specs.Exponents.{Exp, frac, goodStored}
use Rattle.rules.specs.Trees as tree
use Rattle.rules.specs.Trees.{
  Factor,
  ◌↑◌,
  Product,
  Ty,
  opened,
  basic,
  dim,
  fn,
  struct,
  list,
  Tys,
  nil,
  cons,
  Fields,
  noFields,
  field,
  size,
  sizeTys,
  sizeFields,
  depth,
  depthTys,
  depthFields,
  count,
  countFields,
  orderAtom,
}
use Rattle.rules.specs.Writing.{twos, signed}
use Rattle.rules.specs.WellFormed as rules
use Rattle.rules.specs.WellFormed.{rising, fieldNames}
use Rattle.laws.proofs.Written.{unsigned}
use Rattle.laws.specs.Lists.{and_left as both_left, and_right as both_right}
use Rattle.records.specs.Views.{viewAt, longAt}
use Rattle.records.specs.Holds.{openOf, viewOpen, atomOf, viewAtom, basicOf, viewBasic, Long, HoldsFactor, HoldsFactors, Holds, HoldsTys, HoldsFields}
use Rattle.records.proofs.Holds.{Body, holds-body}
use Rattle.records.proofs.ByView.{Arms, by-body, factor-by-view}
use Rattle.records.specs.Parsed.{only, only-tys}
use Rattle.records.specs.Good.{
  Ends,
  numbers,
  holding,
  follows,
  risingFrom,
  atomFollows,
  atomsFrom,
  goodOpen,
  goodAtom,
  goodFactors,
  goodTy,
  goodTys,
  goodFields,
}
use Rattle.records.proofs.Closing.{Closes, FieldAt, TypeBut, type-closed}
use Rattle.records.specs.Readers.{FactorsAt, DimAt, TypeAt, TypesAt, FieldsAt}
use Rattle.records.specs.declared.reader.Reader.{Reader}
use Rattle.records.specs.declared.Atom as atoms
use Rattle.records.specs.declared.Open as names
use Rattle.records.specs.declared.Basic as basics
use Rattle.records.specs.declared.View.{View}
use Rattle.records.specs.declared.View.TheVariants as view

-- ══ Tests ══

pub false-true : {A : Type 0} → false ≡ true → A
false-true e = absurd (cc)

-- ══ Lengths ══

pub one-long : {m l : ℕ} {r f : Bool} → m ≡ l → m ≡ 1 → r ≡ f → r ≡ (eqb l 1 && f)
one-long {m} {l} p q e = rw (eq-eqb l 1 (sym p ∙ q)) e

pub not-long : {m l : ℕ} (f : Bool) → m ≡ l → (m ≡ 1 → ⊥) → false ≡ (eqb l 1 && f)
not-long {m} {l} f p q = rw (ne_eqb l 1 (λ e. q (p ∙ e)))

-- ══ There and back ══

pub open-there : (o : names.Open) → viewOpen (openOf o) ≡ o
open-there (names.TheVariants.Var x) = refl
open-there (names.TheVariants.Quant i) = refl
open-there (names.TheVariants.Par x) = refl

atom-there : (a : atoms.Atom) → viewAtom (atomOf a) ≡ a
atom-there (atoms.TheVariants.Free o) = ap atoms.TheVariants.Free (open-there o)
atom-there (atoms.TheVariants.Base x) = refl

pub basic-there : (b : basics.Basic) → viewBasic (basicOf b) ≡ b
basic-there basics.TheVariants.Boolean = refl
basic-there basics.TheVariants.Text = refl
basic-there basics.TheVariants.Datetime = refl

-- ══ Names ══

module _ (reader : Reader) where
  abbrev pool : List ℕ
  pool = reader.names.pool.now

  abbrev table : List ℕ
  table = reader.names.table.now

  abbrev q : ℕ
  q = reader.quantified

  abbrev s : List ℕ
  s = reader.words.now

  -- one step of a rising list
  rises-name : (b : Option ℕ) (x : ℕ) (xs : List ℕ)
      → risingFrom pool table b (x ∷ xs) ≡ (follows pool table b x && risingFrom pool table (Some x) xs)
  unfolding rising
  rises-name None x xs = refl
  rises-name (Some y) x xs = refl

  rises-atom : (l : Option atoms.Atom) (a : atoms.Atom) (as' : List (tree.Atom ℕ))
      → atomsFrom pool table l (atomOf a ∷ as') ≡ (atomFollows pool table l (atomOf a) && atomsFrom pool table (Some a) as')
  unfolding rising
  rises-atom None a as' = refl
  rises-atom (Some b) a as' = refl

  no_names : (b : Option ℕ) → risingFrom pool table b [] ≡ true
  unfolding rising
  no_names None = refl
  no_names (Some y) = refl

  no-atoms : (l : Option atoms.Atom) → atomsFrom pool table l [] ≡ true
  unfolding rising
  no-atoms None = refl
  no-atoms (Some b) = refl

  factor-good : (a : tree.Atom ℕ) (e : Exp)
      → rules.goodFactor (numbers pool table) (holding pool table) q (a ↑ e) ≡ (goodAtom pool table q a && goodStored e)
  unfolding rules.goodFactor
  factor-good (tree.free o) e = refl
  factor-good (tree.base x) e = refl

  -- ══ Factors ══

  factor-long : (f : Factor ℕ) (at : ℕ) → HoldsFactor s f at → Long s at 1
  factor-long (a ↑ frac n d) at h = h.2

  module _ (at n : ℕ) (l : Option atoms.Atom) where
    abbrev Factors : Option ℕ → Type 0
    Factors r = Ends (FactorsAt reader at n l) r

    pub factors-none : n ≡ 0 → Factors (Some at)
    unfolding HoldsFactors all
    factors-none e = ([], record { held = tt; many = sym e; past = omega arith; good = refl; rises = no-atoms l })

    pub factors-other : ((n ≡ 0) → ⊥) → ((a : atoms.Atom) (m d : ℕ) → viewAt s at ≡ view.Factor a m d → ⊥) → Factors None
    unfolding HoldsFactors
    factors-other z f [] e g = z (sym g.many)
    factors-other z f (a ↑ frac m d ∷ p) e g = f (viewAtom a) (twos m) d g.held.0.0

    module _ (a : atoms.Atom) (num den : ℕ) (v : viewAt s at ≡ view.Factor a num den) (z : (n ≡ 0) → ⊥) where
      abbrev A : Bool
      A = goodAtom pool table q (atomOf a)

      abbrev S : Bool
      S = goodStored (frac (signed num) den)

      abbrev F : Bool
      F = atomFollows pool table l (atomOf a)

      abbrev L : Bool
      L = eqb (longAt s at) 1

      abbrev Fine : Bool
      Fine = A && S && F

      abbrev Test : Bool
      Test = L && Fine

      record Apart (p : Product ℕ) (e : ℕ) : Type 0 where
        test : Test ≡ true
        rest : FactorsAt reader (at + 1) (n - 1) (Some a) p e

      apart : (f : Factor ℕ) (p : Product ℕ) (e : ℕ) → FactorsAt reader at n l (f ∷ p) e → Apart p e
      unfolding HoldsFactors all
      apart f p e g =
          let x : Factor ℕ = atomOf a ↑ frac (signed num) den in
          let i : f ≡ x = factor-by-view s (λ y. y ≡ x) f at g.held.0 v refl in
          let G : Factor ℕ → Bool = rules.goodFactor (numbers pool table) (holding pool table) q in
          let k : (G x && goodFactors pool table q p) ≡ true = subst (λ (y : Factor ℕ). (G y && goodFactors pool table q p) ≡ true) i g.good in
          let u : (A && S) ≡ true = sym (factor-good (atomOf a) (frac (signed num) den)) ∙ both_left (G x) (goodFactors pool table q p) k in
          let w : atomsFrom pool table l (atomOf a ∷ map rules.atomOf p) ≡ true =
          subst (λ (y : Factor ℕ). atomsFrom pool table l (rules.atomOf y ∷ map rules.atomOf p) ≡ true) i g.rises in
          let R : Bool = atomsFrom pool table (Some a) (map rules.atomOf p) in
          let y : (F && R) ≡ true = sym (rises-atom l a (map rules.atomOf p)) ∙ w in
          let many : suc (length p) ≡ n = g.many in
          record {
            test = and_from L Fine (eq-eqb (longAt s at) 1 (factor-long f at g.held.0)) (and_from (A && S) F u (both_left F R y));
            rest = record {
              held = g.held.1;
              many = omega arith;
              past = omega (arith, g.past);
              good = both_right (G x) (goodFactors pool table q p) k;
              rises = both_right F R y;
            };
          }

      pub factors-fail : Test ≡ false → Factors None
      factors-fail t [] e g = z (sym g.many)
      factors-fail t (f ∷ p) e g = false-true (sym t ∙ (apart f p e g).test)

      none_left : ((p : Product ℕ) (e : ℕ) → FactorsAt reader (at + 1) (n - 1) (Some a) p e → ⊥) → Factors None
      none_left bad [] e g = z (sym g.many)
      none_left bad (f ∷ p) e g = bad p e (apart f p e g).rest

      pub factors-step : num < 4_294_967_296 → Test ≡ true → (r : Option ℕ) → Ends (FactorsAt reader (at + 1) (n - 1) (Some a)) r → Factors r
      unfolding HoldsFactors all
      factors-step w t (Some e) (p, g) =
          let x : Factor ℕ = atomOf a ↑ frac (signed num) den in
          let G : Factor ℕ → Bool = rules.goodFactor (numbers pool table) (holding pool table) q in
          let R : Bool = atomsFrom pool table (Some a) (map rules.atomOf p) in
          let fine : Fine ≡ true = both_right L Fine t in
          let gx : G x ≡ true = factor-good (atomOf a) (frac (signed num) den) ∙ both_left (A && S) F fine in (
            x ∷ p,
            record {
              held = ((rw (atom-there a, unsigned num w) v, ap signed (unsigned num w), eqb-true (longAt s at) 1 (both_left L Fine t)), g.held);
              many = omega (arith, g.many);
              past = omega (arith, g.past);
              good = and_from (G x) (goodFactors pool table q p) gx g.good;
              rises = rises-atom l a (map rules.atomOf p) ∙ and_from F R (both_right (A && S) F fine) g.rises;
            },
          )
      factors-step w t None bad = none_left bad

  -- ══ A product ══

  pub dim-many : (at n : ℕ) → 64 < n → Ends (DimAt reader at n) None
  unfolding rules.goodProduct
  dim-many at n h p e g =
      let k : leb (length p) 64 ≡ true = both_right (goodFactors pool table q p && rising (orderAtom (numbers pool table)) (map rules.atomOf p))
      (leb (length p) 64) g.good in
      omega (arith, leb-true (length p) 64 k, g.many)

  pub dim-few : (at n : ℕ) → n ≤ 64 → (r : Option ℕ) → Ends (FactorsAt reader at n None) r → Ends (DimAt reader at n) r
  unfolding rules.goodProduct
  dim-few at n h (Some e) (p, g) =
      let R : Bool = rising (orderAtom (numbers pool table)) (map rules.atomOf p) in
      let k : length p ≤ 64 = omega (arith, g.many) in (
        p,
        record {
          held = g.held;
          many = g.many;
          past = g.past;
          good = and_from (goodFactors pool table q p && R) (leb (length p) 64) (and_from (goodFactors pool table q p) R g.good g.rises)
              (le-leb (length p) 64 k);
        },
      )
  dim-few at n h None bad = λ p e g.
      let R : Bool = rising (orderAtom (numbers pool table)) (map rules.atomOf p) in
      let k : (goodFactors pool table q p && R) ≡ true = both_left (goodFactors pool table q p && R) (leb (length p) 64) g.good in
      bad p e (record {
        held = g.held;
        many = g.many;
        past = g.past;
        good = both_left (goodFactors pool table q p) R k;
        rises = both_right (goodFactors pool table q p) R k;
      })

  -- ══ Lists of types ══

  module _ (d at n : ℕ) where
    abbrev Types : Option ℕ → Type 0
    Types r = Ends (TypesAt reader d at n) r

    pub types-none : n ≡ 0 → Types (Some at)
    unfolding Holds rules.goodTy sizeTys depthTys count
    types-none e = (nil, record { held = tt; many = sym e; past = omega arith; deep = omega arith; good = refl })

    pub types-fail : ((n ≡ 0) → ⊥) → Ends (TypeAt reader d at) None → Types None
    unfolding Holds rules.goodTy sizeTys depthTys count
    types-fail z bad nil e g = z (sym g.many)
    types-fail z bad (cons t ts) e g =
        bad t (at + size t) (record {
          held = g.held.0;
          past = refl;
          deep = omega (arith, g.deep);
          good = both_left (goodTy pool table q t) (goodTys pool table q ts) g.good;
        })

    -- what is left of a list whose first type is t
    types-left : (m : ℕ) (t : Ty ℕ) → TypeAt reader d at t m → ((n ≡ 0) → ⊥)
        → ((ts : Tys ℕ) (e : ℕ) → TypesAt reader d m (n - 1) ts e → ⊥) → Types None
    unfolding Holds rules.goodTy sizeTys depthTys count
    types-left m t h z bad nil e g = z (sym g.many)
    types-left m t h z bad (cons u ts) e g =
        let i : size u ≡ size t = ap size (only s u t at g.held.0 h.held) in
        let k : at + size u ≡ m = omega (arith, h.past) in
        let many : suc (count ts) ≡ n = g.many in
        bad ts e (record {
          held = subst (HoldsTys s ts) k g.held.1;
          many = omega arith;
          past = omega (arith, g.past);
          deep = omega (arith, g.deep);
          good = both_right (goodTy pool table q u) (goodTys pool table q ts) g.good;
        })

    pub types-step : (m : ℕ) → ((n ≡ 0) → ⊥) → Ends (TypeAt reader d at) (Some m) → (r : Option ℕ)
        → Ends (TypesAt reader d m (n - 1)) r → Types r
    unfolding Holds rules.goodTy sizeTys depthTys count
    types-step m z (t, h) (Some e) (ts, g) = (
      cons t ts,
      record {
        held = (h.held, subst (HoldsTys s ts) h.past g.held);
        many = omega (arith, g.many);
        past = omega (arith, h.past, g.past);
        deep = omega (arith, h.deep, g.deep);
        good = and_from (goodTy pool table q t) (goodTys pool table q ts) h.good g.good;
      },
    )
    types-step m z (t, h) None bad = types-left m t h z bad

  -- ══ Fields ══

  module _ (d at n : ℕ) (b : Option ℕ) where
    abbrev Fields' : Option ℕ → Type 0
    Fields' r = Ends (FieldsAt reader d at n b) r

    pub fields-none : n ≡ 0 → Fields' (Some at)
    unfolding Holds rules.goodTy sizeFields depthFields countFields
    fields-none e = (noFields, record { held = tt; many = sym e; past = omega arith; deep = omega arith; good = refl; rises = no_names b })

    pub fields-other : ((n ≡ 0) → ⊥) → ((x : ℕ) → viewAt s at ≡ view.Field x → ⊥) → Fields' None
    unfolding Holds countFields
    fields-other z f noFields e g = z (sym g.many)
    fields-other z f (field x t fs) e g = f x g.held.0

    module _ (x : ℕ) (v : viewAt s at ≡ view.Field x) (z : (n ≡ 0) → ⊥) where
      abbrev H : Bool
      H = holding pool table x

      abbrev W : Bool
      W = follows pool table b x

      record ApartField (t : Ty ℕ) (fs : Fields ℕ) (e : ℕ) : Type 0 where
        test : (H && W) ≡ true
        type : FieldAt reader d at t (at + 1 + size t)
        rest : FieldsAt reader d (at + 1 + size t) (n - 1) (Some x) fs e

      apart-field : (y : ℕ) (t : Ty ℕ) (fs : Fields ℕ) (e : ℕ) → FieldsAt reader d at n b (field y t fs) e → ApartField t fs e
      unfolding Holds rules.goodTy sizeFields depthFields countFields
      apart-field y t fs e g =
          let i : view.Field y ≡ view.Field x = sym g.held.0 ∙ v in
          let j : y ≡ x = cc in
          let T' : Bool = goodTy pool table q t in
          let R : Bool = goodFields pool table q fs in
          let S' : Bool = risingFrom pool table (Some x) (fieldNames fs) in
          let k : ((H && T') && R) ≡ true = subst (λ (w : ℕ). ((holding pool table w && T') && R) ≡ true) j g.good in
          let w : risingFrom pool table b (x ∷ fieldNames fs) ≡ true =
          subst (λ (w : ℕ). risingFrom pool table b (w ∷ fieldNames fs) ≡ true) j g.rises in
          let y : (W && S') ≡ true = sym (rises-name b x (fieldNames fs)) ∙ w in
          let ht : (H && T') ≡ true = both_left (H && T') R k in
          let many : suc (countFields fs) ≡ n = g.many in
          record {
            test = and_from H W (both_left H T' ht) (both_left W S' y);
            type = record { type = record { held = g.held.1; past = refl; deep = omega (arith, g.deep); good = both_right H T' ht }; long = g.held.3 };
            rest = record {
              held = g.held.2;
              many = omega arith;
              past = omega (arith, g.past);
              deep = omega (arith, g.deep);
              good = both_right (H && T') R k;
              rises = both_right W S' y;
            };
          }

      pub fields-fail : (H && W) ≡ false → Fields' None
      unfolding countFields
      fields-fail t noFields e g = z (sym g.many)
      fields-fail t (field y u fs) e g = false-true (sym t ∙ (apart-field y u fs e g).test)

      pub fields-type : Ends (FieldAt reader d at) None → Fields' None
      unfolding countFields
      fields-type bad noFields e g = z (sym g.many)
      fields-type bad (field y u fs) e g = bad u (at + 1 + size u) (apart-field y u fs e g).type

      fields-left : (m : ℕ) (t : Ty ℕ) → FieldAt reader d at t m
          → ((fs : Fields ℕ) (e : ℕ) → FieldsAt reader d m (n - 1) (Some x) fs e → ⊥) → Fields' None
      unfolding countFields
      fields-left m t h bad noFields e g = z (sym g.many)
      fields-left m t h bad (field y u fs) e g =
          let a = apart-field y u fs e g in
          let i : size u ≡ size t = ap size (only s u t (at + 1) a.type.type.held h.type.held) in
          let k : at + 1 + size u ≡ m = omega (arith, h.type.past) in
          bad fs e (subst (λ (w : ℕ). FieldsAt reader d w (n - 1) (Some x) fs e) k a.rest)

      pub fields-step : (m : ℕ) → (H && W) ≡ true → Ends (FieldAt reader d at) (Some m) → (r : Option ℕ)
          → Ends (FieldsAt reader d m (n - 1) (Some x)) r → Fields' r
      unfolding Holds rules.goodTy sizeFields depthFields countFields
      fields-step m t (u, h) (Some e) (fs, g) =
          let T' : Bool = goodTy pool table q u in
          let R : Bool = goodFields pool table q fs in
          let S' : Bool = risingFrom pool table (Some x) (fieldNames fs) in (
            field x u fs,
            record {
              held = (v, h.type.held, subst (HoldsFields s fs) h.type.past g.held, h.long);
              many = omega (arith, g.many);
              past = omega (arith, h.type.past, g.past);
              deep = omega (arith, h.type.deep, g.deep);
              good = and_from (H && T') R (and_from H T' (both_left H W t) h.type.good) g.good;
              rises = rises-name b x (fieldNames fs) ∙ and_from W S' (both_right H W t) g.rises;
            },
          )
      fields-step m t (u, h) None bad = fields-left m u h bad

  -- ══ Types ══

  depth_pos : (t : Ty ℕ) → 1 ≤ depth t
  unfolding depth
  depth_pos (opened o) = omega arith
  depth_pos (basic b) = omega arith
  depth_pos (dim p) = omega arith
  depth_pos (fn ps r) = omega arith
  depth_pos (struct n as' fs) = omega arith
  depth_pos (list t) = omega arith

  module _ (d at : ℕ) where
    abbrev Type' : Option ℕ → Type 0
    Type' r = Closes s at (TypeAt reader d at) r

    found : {t : Ty ℕ} {e : ℕ} → TypeBut reader d at t e → Type' (Some e)
    found p = type-closed reader p

    -- no type that is held here is nested little enough and well formed
    abbrev No : Ty ℕ → Type 0
    No t = depth t ≤ d → goodTy pool table q t ≡ true → ⊥

    type-none : {v : View} → viewAt s at ≡ v → Arms s No at v → Type' None
    type-none w a t e g = by-body s No t at (holds-body s t at g.held) w a g.deep g.good

    pub type-shallow : (1 ≤ d → ⊥) → Ends (TypeAt reader d at) None
    type-shallow z t e g = z (omega (arith, g.deep, depth_pos t))

    -- what is nested inside
    module _ (inside : ℕ) (z : 1 ≤ d) (left : inside ≡ d - 1) where
      pub type-open : (o : names.Open) → viewAt s at ≡ view.Opened o → goodOpen pool table q (openOf o) ≡ true → Type' (Some (at + 1))
      unfolding Body size depth rules.goodTy
      type-open o v t = found {t = opened (openOf o)} (record { held = rw (open-there o) v; past = refl; deep = omega arith; good = t })

      pub type-open-fail : (o : names.Open) → viewAt s at ≡ view.Opened o → goodOpen pool table q (openOf o) ≡ false → Type' None
      unfolding rules.goodTy
      type-open-fail o v t = type-none v (λ k g. false-true (sym t ∙ g))

      pub type-basic : (b : basics.Basic) → viewAt s at ≡ view.Basic b → Type' (Some (at + 1))
      unfolding Body size depth rules.goodTy
      type-basic b v = found {t = basic (basicOf b)} (record { held = rw (basic-there b) v; past = refl; deep = omega arith; good = refl })

      pub type-dim : (n : ℕ) → viewAt s at ≡ view.Dim n → (r : Option ℕ) → Ends (DimAt reader (at + 1) n) r → Type' r
      unfolding Body size depth rules.goodTy
      type-dim n v (Some e) (p, g) =
          found {t = dim p} (record { held = (rw g.many v, g.held); past = omega (arith, g.many, g.past); deep = omega arith; good = g.good })
      type-dim n v None bad = type-none v (λ p m h k g. bad p (at + 1 + n) (record { held = h; many = m; past = refl; good = g }))

      pub type-list : viewAt s at ≡ view.List → (r : Option ℕ) → Ends (TypeAt reader inside (at + 1)) r → Type' r
      unfolding Body size depth rules.goodTy
      type-list v (Some e) (t, g) = found {t = list t}
          (record { held = (v, g.held); past = omega (arith, g.past); deep = omega (arith, g.deep); good = g.good })
      type-list v None bad = type-none v (λ t h k g. bad t (at + 1 + size t) (record { held = h; past = refl; deep = omega arith; good = g }))

      pub type-fn-fail : (n : ℕ) → viewAt s at ≡ view.Function n → Ends (TypesAt reader inside (at + 1) n) None → Type' None
      unfolding depth rules.goodTy
      type-fn-fail n v bad = type-none v (λ ps r m h i k g.
          bad ps (at + 1 + sizeTys ps) (record
          { held = h; many = m; past = refl; deep = omega arith; good = both_left (goodTys pool table q ps) (goodTy pool table q r) g }))

      fn-left : (n m : ℕ) (ps : Tys ℕ) → viewAt s at ≡ view.Function n → TypesAt reader inside (at + 1) n ps m
          → ((t : Ty ℕ) (e : ℕ) → TypeAt reader inside m t e → ⊥) → Type' None
      unfolding depth rules.goodTy
      fn-left n m ps v f bad = type-none v (λ qs r c h i k g.
          let j : sizeTys qs ≡ sizeTys ps = ap sizeTys (only-tys s qs ps (at + 1) (c ∙ sym f.many) h f.held) in
          let l : at + 1 + sizeTys qs ≡ m = omega (arith, f.past) in
          bad r (m + size r) (record {
            held = subst (Holds s r) l i;
            past = refl;
            deep = omega arith;
            good = both_right (goodTys pool table q qs) (goodTy pool table q r) g;
          }))

      pub type-fn : (n m : ℕ) → viewAt s at ≡ view.Function n → Ends (TypesAt reader inside (at + 1) n) (Some m) → (r : Option ℕ)
          → Ends (TypeAt reader inside m) r → Type' r
      unfolding Body size depth rules.goodTy
      type-fn n m v (ps, f) (Some e) (t, g) = found {t = fn ps t} (record {
        held = (rw f.many v, f.held, subst (Holds s t) f.past g.held);
        past = omega (arith, f.past, g.past);
        deep = omega (arith, f.deep, g.deep);
        good = and_from (goodTys pool table q ps) (goodTy pool table q t) f.good g.good;
      })
      type-fn n m v (ps, f) None bad = fn-left n m ps v f bad

      module _ (x n c : ℕ) (v : viewAt s at ≡ view.Struct x n c) where
        -- the parts of a struct that is well formed
        record Parts (as' : Tys ℕ) (fs : Fields ℕ) : Type 0 where
          name : holding pool table x ≡ true
          args : goodTys pool table q as' ≡ true
          fields : goodFields pool table q fs ≡ true
          rises : rising (numbers pool table).order (fieldNames fs) ≡ true

        parts : (as' : Tys ℕ) (fs : Fields ℕ) → goodTy pool table q (struct x as' fs) ≡ true → Parts as' fs
        unfolding rules.goodTy
        parts as' fs g =
            let H : Bool = holding pool table x in
            let A : Bool = goodTys pool table q as' in
            let F : Bool = goodFields pool table q fs in
            let R : Bool = rising (numbers pool table).order (fieldNames fs) in
            let haf : ((H && A) && F) ≡ true = both_left ((H && A) && F) R g in
            let ha : (H && A) ≡ true = both_left (H && A) F haf in
            record { name = both_left H A ha; args = both_right H A ha; fields = both_right (H && A) F haf; rises = both_right ((H && A) && F) R g }

        pub type-struct-name : holding pool table x ≡ false → Type' None
        type-struct-name t = type-none v (λ as' fs i j h k m g. false-true (sym t ∙ (parts as' fs g).name))

        pub type-struct-fail : Ends (TypesAt reader inside (at + 1) n) None → Type' None
        unfolding depth
        type-struct-fail bad = type-none v (λ as' fs i j h k m g.
            bad as' (at + 1 + sizeTys as') (record { held = h; many = i; past = refl; deep = omega arith; good = (parts as' fs g).args }))

        struct_left : (m : ℕ) (as' : Tys ℕ) → TypesAt reader inside (at + 1) n as' m
            → ((fs : Fields ℕ) (e : ℕ) → FieldsAt reader inside m c None fs e → ⊥) → Type' None
        unfolding depth
        struct_left m as' f bad = type-none v (λ bs fs i j h k l g.
            let y : sizeTys bs ≡ sizeTys as' = ap sizeTys (only-tys s bs as' (at + 1) (i ∙ sym f.many) h f.held) in
            let w : at + 1 + sizeTys bs ≡ m = omega (arith, f.past) in
            bad fs (m + sizeFields fs) (record {
              held = subst (HoldsFields s fs) w k;
              many = j;
              past = refl;
              deep = omega arith;
              good = (parts bs fs g).fields;
              rises = (parts bs fs g).rises;
            }))

        pub type-struct : (m : ℕ) → holding pool table x ≡ true → Ends (TypesAt reader inside (at + 1) n) (Some m) → (r : Option ℕ)
            → Ends (FieldsAt reader inside m c None) r → Type' r
        unfolding Body size depth rules.goodTy
        type-struct m t (as', f) (Some e) (fs, g) =
            let H : Bool = holding pool table x in
            let A : Bool = goodTys pool table q as' in
            let F : Bool = goodFields pool table q fs in found {t = struct x as' fs} (record {
              held = (rw (f.many, g.many) v, f.held, subst (HoldsFields s fs) f.past g.held);
              past = omega (arith, f.past, g.past);
              deep = omega (arith, f.deep, g.deep);
              good = and_from ((H && A) && F) (rising (numbers pool table).order (fieldNames fs)) (and_from (H && A) F (and_from H A t f.good) g.good) g.rises;
            })
        type-struct m t (as', f) None bad = struct_left m as' f bad

      -- no kind of type
      module _ (v : View) (opened' : (o : names.Open) → v ≡ view.Opened o → ⊥) (basic' : (b : basics.Basic) → v ≡ view.Basic b → ⊥)
          (dim' : (n : ℕ) → v ≡ view.Dim n → ⊥)
          (function : (n : ℕ) → v ≡ view.Function n → ⊥) (struct' : (x n m : ℕ) → v ≡ view.Struct x n m → ⊥)
          (list' : v ≡ view.List → ⊥) where
        others : (u : View) → v ≡ u → Arms s No at u
        others (view.Opened o) e = absurd (opened' o e)
        others (view.Basic b) e = absurd (basic' b e)
        others (view.Dim n) e = absurd (dim' n e)
        others (view.Function n) e = absurd (function n e)
        others (view.Struct x n m) e = absurd (struct' x n m e)
        others view.List e = absurd (list' e)
        others (view.Field x) e = tt
        others (view.Factor f n m) e = tt
        others view.Equal e = tt
        others view.IsDim e = tt
        others view.IsScalar e = tt
        others (view.HasField x) e = tt
        others (view.Binding x) e = tt
        others (view.Bound o) e = tt
        others (view.Scheme n) e = tt
        others view.Concrete e = tt
        others view.Bad e = tt

        pub type-other : viewAt s at ≡ v → Type' None
        type-other e = type-none e (others v refl)
