-- Wide constraints: sides that are dimensions or variables. Replacing one variable by a side keeps them wide, and keeps what they are worth.
use Rattle.std.specs.Prelude.{◌≡◌, Bool, true, false, not, ◌&&◌, ◌⊎◌}
use Rattle.std.proofs.Math.Path.{refl, ap, sym}
use Rattle.std.proofs.Common.{◌∙◌, inl, inr}
use Rattle.std.proofs.Math.Option.{Option, none, some, get_or}
use mathlib.Core.List.{[], ◌∷◌}
use Rattle.rules.specs.Base.{got, bounded}
use Rattle.rules.specs.Exponents.{Exp, nought}
use Rattle.rules.specs.Trees.{
  Open,
  var,
  quant,
  par,
  Atom,
  free,
  base,
  ◌↑◌,
  Product,
  Names,
  Ty,
  opened,
  basic,
  dim,
  fn,
  struct,
  list,
  Con,
  equal,
  isDim,
  is_scalar,
  hasField,
  ◌≔◌,
  orderAtom,
}
use Rattle.rules.specs.Choices.{dimensional, isSide, wide}
use Rattle.rules.specs.Views.{productOf}
use Rattle.rules.specs.Base.{is_none}
use Rattle.rules.specs.Products.{just, single, multiply, divide, raise}
use Rattle.rules.specs.Replacing.{Look, asProduct, replaceFactors, replaceProduct, replaceDim, replaceTy, replaceCon, bindings}
use Rattle.rules.specs.WellFormed.{goodOpen, goodTy, goodCon}
use Rattle.laws.specs.Order.{Lawful, Tells}
use Rattle.laws.specs.Lists.{and_left, and_right}
use Rattle.laws.proofs.Lists.{true≢false, and_both, one-step, two_steps, same_after}
use Rattle.laws.proofs.Value.{Gives, gives, next}
use Rattle.laws.specs.Fractions.{Lowest}
use Rattle.laws.specs.GoodProducts.{goodAtom}
use Rattle.laws.proofs.KeepsGood.{just-good, product-kept}
use Rattle.laws.proofs.RuleCases.{single-is}
use Rattle.laws.proofs.Occurs.{one-bound, bound-good}
use Rattle.laws.proofs.Refusing.{given as fine, onward}
use Rattle.theorems_completeness.specs.Claims.{◌⇔◌}
use Rattle.theorems_completeness.proofs.Worth.{worth, worth-just}
use Rattle.theorems_completeness.proofs.Products.{Good, product-worth}
use Rattle.theorems_completeness.proofs.Limits.{Limited, product-limited}

-- ══ Sets of dimensions alone, and wide sets ══

module _ {N : Type 0} (w : Bool) where
  -- a dimension or, where w is true, a variable
  unfoldable pub sideIn : Ty N → Bool
  sideIn (opened (var x)) = w
  sideIn (opened (quant i)) = false
  sideIn (opened (par x)) = false
  sideIn (basic b) = false
  sideIn (dim p) = true
  sideIn (fn ps r) = false
  sideIn (struct n as' fs) = false
  sideIn (list t) = false

  -- is-dimension stands in wide sets only
  unfoldable pub wideIn : Con N → Bool
  wideIn (equal s t) = sideIn s && sideIn t
  wideIn (isDim t) = w && sideIn t
  wideIn (is_scalar p) = true
  wideIn (hasField n s t) = false

module _ {N : Type 0} where
  side-as : (t : Ty N) → sideIn true t ≡ isSide t
  unfolding sideIn isSide
  side-as (opened (var x)) = refl
  side-as (opened (quant i)) = refl
  side-as (opened (par x)) = refl
  side-as (basic b) = refl
  side-as (dim p) = refl
  side-as (fn ps r) = refl
  side-as (struct n as' fs) = refl
  side-as (list t) = refl

  dim-as : (t : Ty N) → sideIn false t ≡ not (is_none (productOf t))
  unfolding sideIn
  dim-as (opened (var x)) = refl
  dim-as (opened (quant i)) = refl
  dim-as (opened (par x)) = refl
  dim-as (basic b) = refl
  dim-as (dim p) = refl
  dim-as (fn ps r) = refl
  dim-as (struct n as' fs) = refl
  dim-as (list t) = refl

  pub wide-as : (c : Con N) → wideIn true c ≡ wide c
  unfolding wideIn wide
  wide-as (equal s t) = rw (side-as s, side-as t) refl
  wide-as (isDim t) = side-as t
  wide-as (is_scalar p) = refl
  wide-as (hasField n s t) = refl

  pub dimensional-as : (c : Con N) → wideIn false c ≡ dimensional c
  unfolding wideIn dimensional
  dimensional-as (equal s t) = rw (dim-as s, dim-as t) refl
  dimensional-as (isDim t) = refl
  dimensional-as (is_scalar p) = refl
  dimensional-as (hasField n s t) = refl

module _ {N : Type 0} (ν : Names N) (held : N → Bool) (w : Bool) where
  -- ══ Well formed sides and constraints ══

  -- a well formed side
  pub data Sided (t : Ty N) : Type 0 where
    a-product : (p : Product N) → Good ν held p → t ≡ dim p → Sided t
    a-variable : (y : N) → w ≡ true → held y ≡ true → t ≡ opened (var y) → Sided t

  pub sided : (t : Ty N) → goodTy ν held 0 t ≡ true → sideIn w t ≡ true → Sided t
  unfolding goodTy goodOpen sideIn
  sided (opened (var y)) h k = a-variable y k h refl
  sided (opened (quant i)) h k = absurd (true≢false (sym k))
  sided (opened (par y)) h k = absurd (true≢false (sym k))
  sided (basic b) h k = absurd (true≢false (sym k))
  sided (dim p) h k = a-product p h refl
  sided (fn ps r) h k = absurd (true≢false (sym k))
  sided (struct n as' fs) h k = absurd (true≢false (sym k))
  sided (list t) h k = absurd (true≢false (sym k))

  pub sided-good : (t : Ty N) → Sided t → goodTy ν held 0 t ≡ true
  unfolding goodTy goodOpen
  sided-good t (a-product p h e) = rw e h
  sided-good t (a-variable y v h e) = rw e h

  pub sided-side : (t : Ty N) → Sided t → sideIn w t ≡ true
  unfolding sideIn
  sided-side t (a-product p h e) = rw e
  sided-side t (a-variable y v h e) = rw e v

  pub sided-is : (t : Ty N) → Sided t → isSide t ≡ true
  unfolding isSide
  sided-is t (a-product p h e) = rw e
  sided-is t (a-variable y v h e) = rw e

  -- a well formed wide constraint
  pub data Wide (c : Con N) : Type 0 where
    scalar-of : (p : Product N) → Good ν held p → c ≡ is_scalar p → Wide c
    equality-of : (s t : Ty N) → Sided s → Sided t → c ≡ equal s t → Wide c
    dimension-of : (t : Ty N) → w ≡ true → Sided t → c ≡ isDim t → Wide c

  pub widely : (c : Con N) → goodCon ν held 0 c ≡ true → wideIn w c ≡ true → Wide c
  unfolding goodCon wideIn
  widely (equal s t) h k =
      equality-of s t
      (sided s (and_left (goodTy ν held 0 s) _ h) (and_left (sideIn w s) _ k)) (sided t (and_right (goodTy ν held 0 s) _ h) (and_right (sideIn w s) _ k)) refl
  widely (isDim t) h k = dimension-of t (and_left w _ k) (sided t h (and_right w _ k)) refl
  widely (is_scalar p) h k = scalar-of p h refl
  widely (hasField n s t) h k = absurd (true≢false (sym k))

  pub wide-good : (c : Con N) → Wide c → goodCon ν held 0 c ≡ true
  unfolding goodCon
  wide-good c (scalar-of p h e) = rw e h
  wide-good c (equality-of s t h k e) = rw e (and_both (sided-good s h) (sided-good t k))
  wide-good c (dimension-of t v h e) = rw e (sided-good t h)

  pub wide-wide : (c : Con N) → Wide c → wideIn w c ≡ true
  unfolding wideIn
  wide-wide c (scalar-of p h e) = rw e
  wide-wide c (equality-of s t h k e) = rw e (and_both (sided-side s h) (sided-side t k))
  wide-wide c (dimension-of t v h e) = rw e (and_both v (sided-side t h))

-- ══ Truth, where each atom is worth a fraction ══

module _ {N : Type 0} (g : Atom N → Exp) where
  -- a side's worth
  abbrev pub value : Ty N → Exp
  value (opened o) = g (free o)
  value (basic b) = nought
  value (dim p) = worth g p
  value (fn ps r) = nought
  value (struct n as' fs) = nought
  value (list t) = nought

  abbrev pub RightWide : Con N → Type 0
  RightWide (equal s t) = value s ≡ value t
  RightWide (isDim t) = Unit {0}
  RightWide (is_scalar p) = worth g p ≡ nought
  RightWide (hasField n s t) = ⊥

  -- a bound variable is worth its side
  abbrev pub BoundWide : N → Ty N → Type 0
  BoundWide x t = g (free (var x)) ≡ value t

-- ══ Replacing one variable by a side ══

module _ {N : Type 0} (ν : Names N) (law : Lawful (orderAtom ν)) (held : N → Bool) (w : Bool) where
  -- the product that a side counts as
  pub record Counts (t : Ty N) : Type 0 where
    pub product : Product N
    pub good : Good ν held product
    pub is : asProduct t ≡ got product

  pub counts : (t : Ty N) → Sided ν held w t → Counts t
  unfolding asProduct goodOpen
  counts t (a-product p h e) = record { product = p; good = h; is = rw e }
  counts t (a-variable y v h e) = record { product = just (var y); good = just-good ν law held 0 (var y) h; is = rw e }

module _ {N : Type 0} (ν : Names N) (x : N) (t : Ty N) (d : Product N) (is : asProduct t ≡ got d) where
  -- in a product it makes no difference
  pub factors-same : (p acc : Product N)
      → replaceFactors ν bounded (bindings ν (x ≔ t ∷ [])) p acc ≡ replaceFactors ν bounded (bindings ν (x ≔ dim d ∷ [])) p acc
  unfolding replaceFactors asProduct
  factors-same [] acc = refl
  factors-same (base n ↑ e ∷ p) acc = factors-same p acc
  factors-same (free o ↑ e ∷ p) acc = go (one-bound ν x t o) (one-bound ν x (dim d) o) (λ acc'. factors-same p acc')
    where
      go : ((o ≡ var x) × (bindings ν (x ≔ t ∷ []) o ≡ some t)) ⊎ ((o ≡ var x → ⊥) × (bindings ν (x ≔ t ∷ []) o ≡ none))
          → ((o ≡ var x) × (bindings ν (x ≔ dim d ∷ []) o ≡ some (dim d))) ⊎ ((o ≡ var x → ⊥) × (bindings ν (x ≔ dim d ∷ []) o ≡ none))
          → ((acc' : Product N) → replaceFactors ν bounded (bindings ν (x ≔ t ∷ [])) p acc' ≡ replaceFactors ν bounded (bindings ν (x ≔ dim d ∷ [])) p acc')
          → replaceFactors ν bounded (bindings ν (x ≔ t ∷ [])) (free o ↑ e ∷ p) acc
          ≡ replaceFactors ν bounded (bindings ν (x ≔ dim d ∷ [])) (free o ↑ e ∷ p) acc
      go (inl i) (inl j) f =
          rw (i.1, j.1, is, replaceFactors, asProduct)
          (same_after (divide ν bounded acc (free o ↑ e ∷ [])) _ _
          (λ left. same_after (raise ν bounded d e) _ _ (λ more. same_after (multiply ν bounded left more) _ _ f)))
      go (inr i) (inr j) f = rw (i.1, j.1, replaceFactors) (f acc)
      go (inl i) (inr j) f = absurd (j.0 i.0)
      go (inr i) (inl j) f = absurd (i.0 j.0)

  pub products-same : (p : Product N) → replaceProduct ν bounded (bindings ν (x ≔ t ∷ [])) p ≡ replaceProduct ν bounded (bindings ν (x ≔ dim d ∷ [])) p
  unfolding replaceProduct
  products-same p = factors-same p p

module _ {N : Type 0} (ν : Names N) (law : Lawful (orderAtom ν)) (held : N → Bool) (w : Bool) (x : N) (t : Ty N) (st : Sided ν held w t) where
  abbrev look : Look N
  look = bindings ν (x ≔ t ∷ [])

  bound-type : (o : Open N) (u : Ty N) → look o ≡ some u → goodTy ν held 0 u ≡ true
  bound-type = bound-good ν (λ u. goodTy ν held 0 u ≡ true) x t (sided-good ν held w t st)

  -- what an open name becomes
  pub became : (P : Ty N → Type 0) (o : Open N) (u : Ty N) → ((o ≡ var x) → P t) → P u → P (get_or (look o) u)
  became P o u f h = go (one-bound ν x t o)
    where
      go : ((o ≡ var x) × (look o ≡ some t)) ⊎ ((o ≡ var x → ⊥) × (look o ≡ none)) → P (get_or (look o) u)
      go (inl i) = rw i.1 (f i.0)
      go (inr i) = rw i.1 h

  dim-side : (s : Option (Open N)) (p : Product N) → Good ν held p → Gives (replaceDim ν bounded look s p) (Sided ν held w)
  unfolding replaceDim
  dim-side none p h = next (product-kept ν law held 0 look bound-type p h) (λ r i. gives (a-product r i refl))
  dim-side (some o) p h = gives (became (Sided ν held w) o (dim p) (λ e. st) (a-product p h refl))

  pub type-side : (u : Ty N) → Sided ν held w u → Gives (replaceTy ν bounded look u) (Sided ν held w)
  unfolding replaceTy
  type-side u (a-product p h e) = rw e (dim-side (single p) p h)
  type-side u (a-variable y v h e) = rw e (gives (became (Sided ν held w) (var y) (opened (var y)) (λ e. st) (a-variable y v h refl)))

  pub con-side : (c : Con N) → Wide ν held w c → Gives (replaceCon ν bounded look c) (Wide ν held w)
  unfolding replaceCon
  con-side c (scalar-of p h e) = rw e (next (product-kept ν law held 0 look bound-type p h) (λ r i. gives (scalar-of r i refl)))
  con-side c (equality-of s u h k e) = rw e (next (type-side s h) (λ s' i. next (type-side u k) (λ u' j. gives (equality-of s' u' i j refl))))
  con-side c (dimension-of u v h e) = rw e (next (type-side u h) (λ u' i. gives (dimension-of u' v i refl)))

  -- ══ Refused with 7 or 8 alone ══

  product-limits : (p : Product N) → Limited (replaceProduct ν bounded look p)
  product-limits p = let n = counts ν law held w t st in rw (products-same ν x t n.product n.is p) (product-limited ν x n.product p)

  dim-limits : (s : Option (Open N)) (p : Product N) → Limited (replaceDim ν bounded look s p)
  unfolding replaceDim
  dim-limits none p = onward (product-limits p) (λ q i. fine)
  dim-limits (some o) p = fine

  pub type-limits : (u : Ty N) → Sided ν held w u → Limited (replaceTy ν bounded look u)
  unfolding replaceTy
  type-limits u (a-product p h e) = rw e (dim-limits (single p) p)
  type-limits u (a-variable y v h e) = rw e fine

  pub con-limits : (c : Con N) → Wide ν held w c → Limited (replaceCon ν bounded look c)
  unfolding replaceCon
  con-limits c (scalar-of p h e) = rw e (onward (product-limits p) (λ q i. fine))
  con-limits c (equality-of s u h k e) = rw e (onward (type-limits s h) (λ s' i. onward (type-limits u k) (λ u' j. fine)))
  con-limits c (dimension-of u v h e) = rw e (onward (type-limits u h) (λ u' i. fine))

  -- ══ What is worth what ══

  module _ (tells : Tells (λ a. goodAtom ν held 0 a ≡ true) (orderAtom ν)) (g : Atom N → Exp) (low : (a : Atom N) → Lowest (g a))
      (keeps : BoundWide g x t) where
    counts-worth : (u : Ty N) → Sided ν held w u → (d : Product N) → asProduct u ≡ got d → worth g d ≡ value g u
    unfolding asProduct
    counts-worth u (a-product p h e) d i = let j : got p ≡ got d = rw e at i in let z : p ≡ d = cc in rw (e, sym z) refl
    counts-worth u (a-variable y v h e) d i =
        let j : got (just (var y)) ≡ got d = rw e at i in
        let z : just (var y) ≡ d = cc in
        rw (e, sym z) (worth-just ν law tells g low (free (var y)))

    product-value : (p : Product N) → Good ν held p → Gives (replaceProduct ν bounded look p) (λ r. worth g r ≡ worth g p)
    product-value p h =
        let n = counts ν law held w t st in
        rw (products-same ν x t n.product n.is p) (product-worth ν law held tells g low x n.product n.good (keeps ∙ sym (counts-worth t st n.product n.is)) p h)

    dim-value : (s : Option (Open N)) (p : Product N) → single p ≡ s → Good ν held p → Gives (replaceDim ν bounded look s p) (λ u. value g u ≡ worth g p)
    unfolding replaceDim
    dim-value none p i h = next (product-value p h) (λ q j. gives j)
    dim-value (some o) p i h =
        gives (became (λ u. value g u ≡ worth g p) o (dim p)
        (λ j. sym keeps ∙ ap (λ (u : Open N). g (free u)) (sym j) ∙ sym (worth-just ν law tells g low (free o)) ∙ ap (worth g) (sym (single-is p o i))) refl)

    pub type-value : (u : Ty N) → Sided ν held w u → Gives (replaceTy ν bounded look u) (λ u'. value g u' ≡ value g u)
    unfolding replaceTy
    type-value u (a-product p h e) = rw e (dim-value (single p) p refl h)
    type-value u (a-variable y v h e) = rw e
        (gives (became (λ u'. value g u' ≡ g (free (var y))) (var y) (opened (var y)) (λ j. sym keeps ∙ ap (λ (u : Open N). g (free u)) (sym j))
        refl))

    -- a constraint is as true as before
    pub con-value : (c c' : Con N) → Wide ν held w c → replaceCon ν bounded look c ≡ got c' → RightWide g c ⇔ RightWide g c'
    unfolding replaceCon
    con-value c c' (scalar-of p h i) e =
        let o = one-step (replaceProduct ν bounded look p) is_scalar c' (rw i at e) in
        let w : worth g o.value ≡ worth g p = (product-value p h).holds o.value o.gave in
        rw (i, sym o.is) (λ r. w ∙ r, λ r. sym w ∙ r)
    con-value c c' (equality-of s u h k i) e =
        let o = two_steps (replaceTy ν bounded look s) (λ _. replaceTy ν bounded look u) equal c' (rw i at e) in
        let v : value g o.first ≡ value g s = (type-value s h).holds o.first o.gave in
        let w : value g o.second ≡ value g u = (type-value u k).holds o.second o.then in
        rw (i, sym o.both) (λ r. v ∙ r ∙ sym w, λ r. sym v ∙ r ∙ w)
    con-value c c' (dimension-of u v h i) e = let o = one-step (replaceTy ν bounded look u) isDim c' (rw i at e) in rw (i, sym o.is) (λ r. tt, λ r. tt)

    -- and so is a binding
    pub bound-value : (y : N) (u u' : Ty N) → Sided ν held w u → replaceTy ν bounded look u ≡ got u' → BoundWide g y u ⇔ BoundWide g y u'
    bound-value y u u' h e = let w : value g u' ≡ value g u = (type-value u h).holds u' e in (λ r. r ∙ sym w, λ r. r ∙ w)
