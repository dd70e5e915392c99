-- What follows from the definitions of specs/RuleCases: which rule a step comes from: the cases of a step, each with what its rule knows.
use Rattle.std.specs.Prelude.{◌≡◌, Bool, not, ◌&&◌, ◌⊎◌}
use Rattle.std.proofs.Math.Path.{refl, sym}
use Rattle.std.proofs.Common.{ap, ◌∙◌, eqb→eq}
use Rattle.std.proofs.Math.Bool.{true, false}
use Rattle.std.proofs.Math.Option.{Option, none, some, get_or}
use Rattle.std.proofs.Math.Logic.{inl, inr}
use mathlib.Core.List.Memᴰ
use mathlib.Core.List.{List, [], ◌∷◌, Memᴰ}
use Rattle.std.proofs.Math.Dec.{eqb}
use Rattle.rules.specs.Base.{Got, got, Limits, is_yes, ◌or_else◌, only_if, and_then, each, collect, isNil, to_list}
use Rattle.rules.specs.Exponents.{Exp, Exp-dec, one}
use Rattle.rules.specs.Trees.{
  Open,
  var,
  quant,
  par,
  free,
  base,
  ◌↑◌,
  Product,
  Names,
  Ty,
  opened,
  basic,
  dim,
  fn,
  struct,
  list,
  Tys,
  Fields,
  Con,
  equal,
  isDim,
  is_scalar,
  hasField,
  ty-dec,
  open-dec,
  count,
  opens,
  openOfFactor,
}
use Rattle.rules.specs.Views.{productOf, fn_of, struct_of, list_of, variable, name_of, asVar, asPower}
use Rattle.rules.specs.Contents.{closed, contains, fieldIn, namesIn}
use Rattle.rules.specs.Products.{just, single, divide}
use Rattle.rules.specs.Rounds.{
  Step,
  bind,
  split,
  done,
  stuck,
  pairs,
  asProducts,
  variableLeft,
  functions,
  lists,
  bindTo,
  firstRules,
  structs,
  dimensions,
  by_kind,
  orTry,
  dimensionParts,
  otherSide,
  fieldStep,
  trySatisfy,
}
use Rattle.std.proofs.lemmas.Bool.{not-true}
use Rattle.laws.specs.Lists.{and_left, and_right, in_head}
use Rattle.laws.proofs.Lists.{true≢false, some≢none, yes-is, any-is, is_any, one-step, Origin, collect-from, collect-to, map-from, is-yes}
use Rattle.laws.specs.RuleCases.{parts}

module _ {N : Type 0} where
  -- a side that names a variable: the variable itself, or the product of it to the power 1
  abbrev pub Reads : N → Ty N → Type 0
  Reads x l = (l ≡ opened (var x)) ⊎ (l ≡ dim (just (var x)))

  -- the two sides of an equality, in either order
  abbrev pub Sides : Con N → Ty N → Ty N → Type 0
  Sides c l r = (c ≡ equal l r) ⊎ (c ≡ equal r l)

module _ {N : Type 0} (ν : Names N) (l : Limits) where
  -- the rules, in words
  pub data Rule (c : Con N) (s : Step N) : Type 0 where
    none-applies : s ≡ stuck → Rule c s
    equal-records : (t : Ty N) → c ≡ equal t t → s ≡ done → Rule c s
    binds : (x : N) (side t : Ty N) → Sides c side t → Reads x side → contains ν x t ≡ false → s ≡ bind x t → Rule c s
    two-functions : (ps qs : Tys N) (r q : Ty N) → count ps ≡ count qs → c ≡ equal (fn ps r) (fn qs q) → s ≡ split (equal r q ∷ pairs ps qs) → Rule c s
    two-lists : (t u : Ty N) → c ≡ equal (list t) (list u) → s ≡ split (equal t u ∷ []) → Rule c s
    two-structs : (n : N) (as' bs : Tys N) (fs gs : Fields N) → count as' ≡ count bs → c ≡ equal (struct n as' fs) (struct n bs gs)
        → s ≡ split (pairs as' bs) → Rule c s
    as-product : (x : N) (d : Product N) → Sides c (opened (var x)) (dim d) → Memᴰ (var x) (opens (dim d))
        → s ≡ split (equal (dim (just (var x))) (dim d) ∷ []) → Rule c s
    two-dimensions : (d e q : Product N) → divide ν l d e ≡ got q → c ≡ equal (dim d) (dim e) → s ≡ split (is_scalar q ∷ []) → Rule c s
    dimension : (p : Product N) → c ≡ isDim (dim p) → s ≡ split (parts p) → Rule c s
    no-factor : c ≡ is_scalar [] → s ≡ done → Rule c s
    first-factor : (x : N) (k : Exp) (p q : Product N) → each (otherSide l k) p ≡ got q → c ≡ is_scalar (free (var x) ↑ k ∷ p) → s ≡ bind x (dim q) → Rule c s
    closed-struct : (n m : N) (as' : Tys N) (fs : Fields N) (t u : Ty N) → opens (struct m as' fs) ≡ [] → fieldIn ν n fs ≡ some u
        → c ≡ hasField n (struct m as' fs) t → s ≡ split (equal u t ∷ []) → Rule c s

-- ══ Views ══

-- what is there only if a test passes
pub only-if : {A : Type 0} (b : Bool) (a v : A) → only_if b a ≡ some v → (b ≡ true) × (a ≡ v)
only-if true a v e = (refl, cc)
only-if false a v e = absurd (some≢none (sym e))

pub and-then : {A B : Type 0} (a : Option A) (f : A → Option B) (b : B) → and_then a f ≡ some b → (v : A) × (a ≡ some v) × (f v ≡ some b)
and-then none f b e = absurd (some≢none (sym e))
and-then (some v) f b e = (v, refl, e)

module _ {N : Type 0} where
  variable-is : (o : Open N) (x : N) → variable o ≡ some x → o ≡ var x
  variable-is (var y) x e = cc
  variable-is (quant i) x e = absurd (some≢none (sym e))
  variable-is (par y) x e = absurd (some≢none (sym e))

  as-var : (t : Ty N) (x : N) → asVar t ≡ some x → t ≡ opened (var x)
  as-var (opened o) x e = ap opened (variable-is o x e)
  as-var (basic b) x e = absurd (some≢none (sym e))
  as-var (dim p) x e = absurd (some≢none (sym e))
  as-var (fn ps r) x e = absurd (some≢none (sym e))
  as-var (struct n as' fs) x e = absurd (some≢none (sym e))
  as-var (list t) x e = absurd (some≢none (sym e))

  pub product-of : (t : Ty N) (p : Product N) → productOf t ≡ some p → t ≡ dim p
  product-of (opened o) p e = absurd (some≢none (sym e))
  product-of (basic b) p e = absurd (some≢none (sym e))
  product-of (dim q) p e = cc
  product-of (fn ps r) p e = absurd (some≢none (sym e))
  product-of (struct n as' fs) p e = absurd (some≢none (sym e))
  product-of (list t) p e = absurd (some≢none (sym e))

  pub fn-of : (t : Ty N) (f : Tys N × Ty N) → fn_of t ≡ some f → t ≡ fn f.0 f.1
  fn-of (opened o) f e = absurd (some≢none (sym e))
  fn-of (basic b) f e = absurd (some≢none (sym e))
  fn-of (dim q) f e = absurd (some≢none (sym e))
  fn-of (fn ps r) f e = let q : (ps, r) ≡ f = cc in cc
  fn-of (struct n as' fs) f e = absurd (some≢none (sym e))
  fn-of (list t) f e = absurd (some≢none (sym e))

  struct-of : (t : Ty N) (v : N × Tys N × Fields N) → struct_of t ≡ some v → t ≡ struct v.0 v.1 v.2
  struct-of (opened o) f e = absurd (some≢none (sym e))
  struct-of (basic b) f e = absurd (some≢none (sym e))
  struct-of (dim q) f e = absurd (some≢none (sym e))
  struct-of (fn ps r) f e = absurd (some≢none (sym e))
  struct-of (struct n as' fs) f e = cc
  struct-of (list t) f e = absurd (some≢none (sym e))

  list-of : (t u : Ty N) → list_of t ≡ some u → t ≡ list u
  list-of (opened o) u e = absurd (some≢none (sym e))
  list-of (basic b) u e = absurd (some≢none (sym e))
  list-of (dim q) u e = absurd (some≢none (sym e))
  list-of (fn ps r) u e = absurd (some≢none (sym e))
  list-of (struct n as' fs) u e = absurd (some≢none (sym e))
  list-of (list t) u e = cc

  pub single-is : (p : Product N) (o : Open N) → single p ≡ some o → p ≡ just o
  unfolding single
  single-is [] o e = absurd (some≢none (sym e))
  single-is (a ↑ k ∷ f ∷ p) o e = absurd (some≢none (sym e))
  single-is (free (var y) ↑ k ∷ []) o e =
      let i = only-if (is_yes (Exp-dec k one)) (var y) o e in
      let j : k ≡ one = yes-is (Exp-dec k one) i.0 in
      let r : var y ≡ o = i.1 in cc
  single-is (free (quant n) ↑ k ∷ []) o e =
      let i = only-if (is_yes (Exp-dec k one)) (quant n) o e in
      let j : k ≡ one = yes-is (Exp-dec k one) i.0 in
      let r : quant n ≡ o = i.1 in cc
  single-is (free (par y) ↑ k ∷ []) o e = absurd (some≢none (sym e))
  single-is (base n ↑ k ∷ []) o e = absurd (some≢none (sym e))

  as-power : (t : Ty N) (x : N) → asPower t ≡ some x → t ≡ dim (just (var x))
  as-power t x e =
      let a = and-then (and_then (productOf t) single) variable x e in
      let b = and-then (productOf t) single a.0 a.1 in
      product-of t b.0 b.1 ∙ ap dim (single-is b.0 (var x) (b.2 ∙ ap some (variable-is a.0 x a.2)))

module _ {N : Type 0} (ν : Names N) where
  -- contained, and not
  pub contained : (x : N) (t : Ty N) → contains ν x t ≡ true → Memᴰ (var x) (opens t)
  unfolding contains
  contained x t e = let s = any-is _ (opens t) e in rw (yes-is (open-dec ν (var x) s.one) s.fits) s.within

  pub not-contained : (x : N) (t : Ty N) → contains ν x t ≡ false → Memᴰ (var x) (opens t) → ⊥
  unfolding contains
  not-contained x t e m = true≢false (sym (is_any (λ o. is_yes (open-dec ν (var x) o)) (opens t) (var x) m (is-yes (open-dec ν (var x) (var x)) refl)) ∙ e)

  bound : (x : Option N) (t : Ty N) (s : Step N) → bindTo ν x t ≡ some s → (y : N) × (x ≡ some y) × (contains ν y t ≡ false) × (s ≡ bind y t)
  unfolding bindTo
  bound none t s e = absurd (some≢none (sym e))
  bound (some y) t s e = let o = only-if (not (contains ν y t)) (bind y t) s e in (y, refl, not-true (contains ν y t) o.0, sym o.1)

  not-bound : (y : N) (t : Ty N) → bindTo ν (some y) t ≡ none → contains ν y t ≡ true
  unfolding bindTo
  not-bound y t e = go (contains ν y t) refl
    where
      go : (b : Bool) → contains ν y t ≡ b → contains ν y t ≡ true
      go true i = i
      go false i = let k : some (bind y t) ≡ none = rw i at e in absurd (some≢none k)

-- ══ The first rule that fits ══

pub is-nil : {A : Type 0} (xs : List A) → isNil xs ≡ true → xs ≡ []
is-nil [] e = refl
is-nil (x ∷ xs) e = absurd (true≢false (sym e))

or-else : {A : Type 0} (a b : Option A) (v : A) → (a or_else b) ≡ some v → (a ≡ some v) ⊎ (b ≡ some v)
or-else none b v e = inr e
or-else (some a) b v e = inl e

pub or-none : {A : Type 0} (a b : Option A) → (a or_else b) ≡ none → (a ≡ none) × (b ≡ none)
or-none none b e = (refl, e)
or-none (some a) b e = absurd (some≢none e)

or-try : {N : Type 0} (o : Option (Step N)) (g : Got (Step N)) (s : Step N) → orTry o g ≡ got s → (o ≡ some s) ⊎ ((o ≡ none) × (g ≡ got s))
or-try none g s e = inr (refl, e)
or-try (some r) g s e = inl (cc)

module _ {N : Type 0} (ν : Names N) (l : Limits) where
  first-rules : (t u : Ty N) (s : Step N) → firstRules ν t u ≡ some s → Rule ν l (equal t u) s
  unfolding firstRules
  first-rules t u s e = go₁ (or-else _ _ s e)
    where
      left : (x : Option N) → ((y : N) → x ≡ some y → Reads y t) → bindTo ν x u ≡ some s → Rule ν l (equal t u) s
      left x r i = let b = bound ν x u s i in binds b.0 t u (inl refl) (r b.0 b.1) b.2 b.3

      right : (x : Option N) → ((y : N) → x ≡ some y → Reads y u) → bindTo ν x t ≡ some s → Rule ν l (equal t u) s
      right x r i = let b = bound ν x t s i in binds b.0 u t (inr refl) (r b.0 b.1) b.2 b.3

      go₄ : (bindTo ν (asPower t) u ≡ some s) ⊎ (bindTo ν (asPower u) t ≡ some s) → Rule ν l (equal t u) s
      go₄ (inl i) = left (asPower t) (λ y j. inr (as-power t y j)) i
      go₄ (inr i) = right (asPower u) (λ y j. inr (as-power u y j)) i

      go₃ : (bindTo ν (asVar u) t ≡ some s) ⊎ ((bindTo ν (asPower t) u or_else bindTo ν (asPower u) t) ≡ some s) → Rule ν l (equal t u) s
      go₃ (inl i) = right (asVar u) (λ y j. inl (as-var u y j)) i
      go₃ (inr i) = go₄ (or-else _ _ s i)

      go₂ : (bindTo ν (asVar t) u ≡ some s) ⊎ ((bindTo ν (asVar u) t or_else bindTo ν (asPower t) u or_else bindTo ν (asPower u) t) ≡ some s)
          → Rule ν l (equal t u) s
      go₂ (inl i) = left (asVar t) (λ y j. inl (as-var t y j)) i
      go₂ (inr i) = go₃ (or-else _ _ s i)

      go₁ : (only_if (is_yes (ty-dec ν t u)) done ≡ some s)
          ⊎ ((bindTo ν (asVar t) u or_else bindTo ν (asVar u) t or_else bindTo ν (asPower t) u or_else bindTo ν (asPower u) t) ≡ some s)
          → Rule ν l (equal t u) s
      go₁ (inl i) = let o = only-if (is_yes (ty-dec ν t u)) done s i in let q : t ≡ u = yes-is (ty-dec ν t u) o.0 in equal-records t (rw q) (sym o.1)
      go₁ (inr i) = go₂ (or-else _ _ s i)

  -- where no rule of the first three fits, a variable is contained in the other side
  contained-left : (x : N) (u : Ty N) → firstRules ν (opened (var x)) u ≡ none → contains ν x u ≡ true
  unfolding firstRules
  contained-left x u e =
      let a = or-none (only_if (is_yes (ty-dec ν (opened (var x)) u)) done) _ e in
      let b = or-none (bindTo ν (some x) u) _ a.1 in
      not-bound ν x u b.0

  contained-right : (x : N) (t : Ty N) → firstRules ν t (opened (var x)) ≡ none → contains ν x t ≡ true
  unfolding firstRules
  contained-right x t e =
      let a = or-none (only_if (is_yes (ty-dec ν t (opened (var x)))) done) _ e in
      let b = or-none (bindTo ν (asVar t) (opened (var x))) _ a.1 in
      let c = or-none (bindTo ν (some x) t) _ b.1 in
      not-bound ν x t c.0

  -- rule 7: a variable against a dimension
  products-step : (x : Option N) (d : Product N) (s : Step N) → asProducts x d ≡ s
      → (s ≡ stuck) ⊎ ((y : N) × (x ≡ some y) × (s ≡ split (equal (dim (just (var y))) (dim d) ∷ [])))
  unfolding asProducts
  products-step none d s e = inl (sym e)
  products-step (some y) d s e = inr (y, refl, sym e)

  variable-left : (o : Open N) (u : Ty N) (d : Option (Product N)) (s : Step N) → productOf u ≡ d → firstRules ν (opened o) u ≡ none
      → variableLeft (variable o) d ≡ s → Rule ν l (equal (opened o) u) s
  unfolding variableLeft
  variable-left o u none s i n e = none-applies (sym e)
  variable-left o u (some d) s i n e = go (products-step (variable o) d s e)
    where
      q : u ≡ dim d
      q = product-of u d i

      go : (s ≡ stuck) ⊎ ((y : N) × (variable o ≡ some y) × (s ≡ split (equal (dim (just (var y))) (dim d) ∷ []))) → Rule ν l (equal (opened o) u) s
      go (inl j) = none-applies j
      go (inr (y, j, k)) =
          let v : o ≡ var y = variable-is o y j in
          let c : contains ν y u ≡ true = contained-left y u (rw v at n) in
          as-product y d (inl (cc (q))) (rw q at (contained ν y u c)) k

  dimension-left : (d : Product N) (u : Ty N) (e : Option (Product N)) (s : Step N) → productOf u ≡ e → firstRules ν (dim d) u ≡ none
      → dimensions ν l d e (asVar u) ≡ got s → Rule ν l (equal (dim d) u) s
  unfolding dimensions
  dimension-left d u (some e) s i n h =
      let o = one-step (divide ν l d e) (λ q. split (is_scalar q ∷ [])) s h in
      let q : u ≡ dim e = product-of u e i in
      two-dimensions d e o.value o.gave (cc) (sym o.is)
  dimension-left d u none s i n h = go (products-step (asVar u) d s (cc))
    where
      go : (s ≡ stuck) ⊎ ((y : N) × (asVar u ≡ some y) × (s ≡ split (equal (dim (just (var y))) (dim d) ∷ []))) → Rule ν l (equal (dim d) u) s
      go (inl j) = none-applies j
      go (inr (y, j, k)) =
          let q : u ≡ opened (var y) = as-var u y j in
          as-product y d (inr (cc)) (contained ν y (dim d) (contained-right y (dim d) (rw q at n))) k

  function-left : (ps : Tys N) (r u : Ty N) (f : Option (Tys N × Ty N)) (s : Step N) → fn_of u ≡ f → functions ps r f ≡ s → Rule ν l (equal (fn ps r) u) s
  unfolding functions
  function-left ps r u none s i e = none-applies (sym e)
  function-left ps r u (some f) s i e = go (eqb (count ps) (count f.0)) refl
    where
      q : u ≡ fn f.0 f.1
      q = fn-of u f i

      go : (b : Bool) → eqb (count ps) (count f.0) ≡ b → Rule ν l (equal (fn ps r) u) s
      go true j = two-functions ps f.0 r f.1 (eqb→eq (count ps) (count f.0) (rw j tt)) (ap (equal (fn ps r)) q) (sym (rw (j, functions) at e))
      go false j = none-applies (sym (rw (j, functions) at e))

  struct_left : (m : N) (as' : Tys N) (fs : Fields N) (u : Ty N) (v : Option (N × Tys N × Fields N)) (s : Step N) → struct_of u ≡ v
      → structs ν m as' v ≡ s → Rule ν l (equal (struct m as' fs) u) s
  unfolding structs
  struct_left m as' fs u none s i e = none-applies (sym e)
  struct_left m as' fs u (some v) s i e = go (is_yes (ν.same m v.0) && eqb (count as') (count v.1)) refl
    where
      q : u ≡ struct v.0 v.1 v.2
      q = struct-of u v i

      go : (b : Bool) → (is_yes (ν.same m v.0) && eqb (count as') (count v.1)) ≡ b → Rule ν l (equal (struct m as' fs) u) s
      go true j =
          let k : m ≡ v.0 = yes-is (ν.same m v.0) (and_left (is_yes (ν.same m v.0)) _ j) in
          let c : eqb (count as') (count v.1) ≡ true = and_right (is_yes (ν.same m v.0)) _ j in
          two-structs m as' v.1 fs v.2 (eqb→eq (count as') (count v.1) (rw c tt))
          (ap (equal (struct m as' fs)) (q ∙ ap (λ (n : N). struct n v.1 v.2) (sym k))) (sym (rw (j, structs) at e))
      go false j = none-applies (sym (rw (j, structs) at e))

  list_left : (t u : Ty N) (v : Option (Ty N)) (s : Step N) → list_of u ≡ v → lists t v ≡ s → Rule ν l (equal (list t) u) s
  unfolding lists
  list_left t u none s i e = none-applies (sym e)
  list_left t u (some v) s i e = two-lists t v (ap (equal (list t)) (list-of u v i)) (sym e)

  by-kind : (t u : Ty N) (s : Step N) → firstRules ν t u ≡ none → by_kind ν l t u ≡ got s → Rule ν l (equal t u) s
  unfolding by_kind
  by-kind (opened o) u s n e = variable-left o u (productOf u) s refl n (cc)
  by-kind (basic b) u s n e = none-applies (cc)
  by-kind (dim d) u s n e = dimension-left d u (productOf u) s refl n e
  by-kind (fn ps r) u s n e = function-left ps r u (fn_of u) s refl (cc)
  by-kind (struct m as' fs) u s n e = struct_left m as' fs u (struct_of u) s refl (cc)
  by-kind (list t) u s n e = list_left t u (list_of u) s refl (cc)

  -- ══ Every constraint ══

  dimension-parts : (t : Ty N) (d : Option (Product N)) (s : Step N) → productOf t ≡ d → dimensionParts d ≡ s → Rule ν l (isDim t) s
  unfolding dimensionParts
  dimension-parts t none s i e = none-applies (sym e)
  dimension-parts t (some p) s i e = dimension p (ap isDim (product-of t p i)) (sym e)

  field_step : (n : N) (t u : Ty N) (s : Step N) → get_or (fieldStep ν n t u) stuck ≡ s → Rule ν l (hasField n t u) s
  unfolding fieldStep closed
  field_step n t u s e = go (fieldStep ν n t u) refl
    where
      go : (o : Option (Step N)) → fieldStep ν n t u ≡ o → Rule ν l (hasField n t u) s
      go none i = none-applies (sym (rw i at e))
      go (some v) i =
          let a = and-then (only_if (isNil (opens t)) t) _ v i in
          let o = only-if (isNil (opens t)) t a.0 a.1 in
          let b = and-then (struct_of a.0) _ v a.2 in
          let c = and-then (fieldIn ν n b.0.2) _ v b.2 in
          let q : t ≡ struct b.0.0 b.0.1 b.0.2 = o.1 ∙ struct-of a.0 b.0 b.1 in
          let k : some (split (equal c.0 u ∷ [])) ≡ some v = c.2 in
          let z : v ≡ s = rw i at e in
          closed-struct n b.0.0 b.0.1 b.0.2 u c.0 (rw q at (is-nil (opens t) o.0)) c.1 (ap (λ (w : Ty N). hasField n w u) q) (cc)

  -- every step comes from a rule
  pub rule : (c : Con N) (s : Step N) → trySatisfy ν l c ≡ got s → Rule ν l c s
  unfolding trySatisfy
  rule (equal t u) s e = go (or-try (firstRules ν t u) (by_kind ν l t u) s e)
    where
      go : (firstRules ν t u ≡ some s) ⊎ ((firstRules ν t u ≡ none) × (by_kind ν l t u ≡ got s)) → Rule ν l (equal t u) s
      go (inl i) = first-rules t u s i
      go (inr i) = by-kind t u s i.0 i.1
  rule (isDim t) s e = dimension-parts t (productOf t) s refl (cc)
  rule (is_scalar []) s e = no-factor refl (cc)
  rule (is_scalar (free (var x) ↑ k ∷ p)) s e =
      let o = one-step (each (otherSide l k) p) (λ q. bind x (dim q)) s e in
      first-factor x k p o.value o.gave refl (sym o.is)
  rule (is_scalar (free (quant i) ↑ k ∷ p)) s e = none-applies (cc)
  rule (is_scalar (free (par x) ↑ k ∷ p)) s e = none-applies (cc)
  rule (is_scalar (base n ↑ k ∷ p)) s e = none-applies (cc)
  rule (hasField n t u) s e = field_step n t u s (cc)

-- the names of a product: each is a variable's or a parameter's
module _ {N : Type 0} where
  name-of : (o : Open N) (y : N) → Memᴰ y (to_list (name_of o)) → (o ≡ var y) ⊎ (o ≡ par y)
  name-of (var x) y m = inl (ap var (sym (Memᴰ.eq_of_singleton m)))
  name-of (quant i) y m = absurd (Memᴰ.not-nil m)
  name-of (par x) y m = inr (ap par (sym (Memᴰ.eq_of_singleton m)))

  pub named : (os : List (Open N)) (y : N) → Memᴰ y (namesIn os) → Memᴰ (var y) os ⊎ Memᴰ (par y) os
  unfolding namesIn
  named os y m = let o = collect-from (λ o. to_list (name_of o)) os y m in go o (name-of o.one y o.from)
    where
      go : (o : Origin (λ o. to_list (name_of o)) y os) → (o.one ≡ var y) ⊎ (o.one ≡ par y) → Memᴰ (var y) os ⊎ Memᴰ (par y) os
      go o (inl e) = inl (rw e at o.within)
      go o (inr e) = inr (rw e at o.within)

  pub naming : (os : List (Open N)) (o : Open N) (y : N) → Memᴰ o os → name_of o ≡ some y → Memᴰ y (namesIn os)
  unfolding namesIn
  naming os o y m e = collect-to (λ o. to_list (name_of o)) os o y m (rw e in_head)

  -- is-dimension of one of the names
  pub part_of : (p : Product N) (c : Con N) → Memᴰ c (parts p) → (y : N) × (c ≡ isDim (opened (var y)))
      × (Memᴰ (var y) (opens (dim p)) ⊎ Memᴰ (par y) (opens (dim p)))
  unfolding opens
  part_of p c m = let i = map-from (λ x. isDim (opened (var x))) (namesIn (collect openOfFactor p)) c m
      in (i.one, i.is, named (collect openOfFactor p) i.one i.within)
