-- Types that are the same once a single variable to the power 1 is read as the variable, fields included: alike. They mean the same.
use Rattle.std.specs.Prelude.{◌≡◌, Bool, ◌⊎◌, List}
use Rattle.std.proofs.Math.Path.{refl, ap, sym}
use Rattle.std.proofs.Common.{ap₂, ◌∙◌, inl, inr}
use Rattle.std.proofs.Math.Bool.{true, false}
use Rattle.std.proofs.Math.Option.{Option, none, some}
use Rattle.rules.specs.Base.{got, is_yes, and', collect}
use Rattle.rules.specs.Exponents.{Exp-dec, one}
use Rattle.rules.specs.Trees.{
  Open,
  var,
  quant,
  par,
  Product,
  Names,
  Ty,
  opened,
  basic,
  dim,
  fn,
  struct,
  list,
  Tys,
  nil,
  cons,
  Fields,
  noFields,
  field,
  isDim,
  hasField,
  ty-dec,
  opens,
}
use Rattle.rules.specs.Contents.{fieldIn}
use Rattle.rules.specs.Products.{just, single}
use Rattle.rules.specs.Plain.{plainDim, plain, plainTys, plainFields}
use Rattle.rules.specs.Replacing.{asProduct}
use Rattle.rules.specs.Meaning.{means, amongBounds, holds}
use Rattle.laws.proofs.Lists.{got≢refused, yes-is, is-yes}
use Rattle.laws.proofs.RuleCases.{single-is}
use Rattle.laws.proofs.Occurs.{as-product-is}

module _ {N : Type 0} where
  abbrev pub Alike : Ty N → Ty N → Type 0
  Alike s t = plain s true ≡ plain t true

  -- ══ Types, read plainly ══

  -- a product that is one variable is read as the variable, any other stays
  plain-dim : (p : Product N) (k : Bool) (s : Option (Open N)) → single p ≡ s → plain (dim p) k ≡ plainDim s p
  unfolding plain
  plain-dim p k s e = ap (λ (o : Option (Open N)). plainDim o p) e

  plain-twice : (p : Product N) (k : Bool) → plain (plainDim (single p) p) k ≡ plainDim (single p) p
  unfolding plain plainDim
  plain-twice p k = go (single p) refl
    where
      go : (s : Option (Open N)) → single p ≡ s → plain (plainDim s p) k ≡ plainDim s p
      go none e = plain-dim p k none e
      go (some o) e = refl

  pub no_fields : (fs : Fields N) → plainFields fs false ≡ noFields
  unfolding plain
  no_fields noFields = refl
  no_fields (field n t fs) = refl

  -- leaving the fields out after reading is leaving them out
  mutual
    unfolding plain

    pub forget : (t : Ty N) → plain (plain t true) false ≡ plain t false
    forget (opened o) = refl
    forget (basic b) = refl
    forget (dim p) = plain-twice p false
    forget (fn ps r) = ap₂ fn (forget-tys ps) (forget r)
    forget (struct n as' fs) = ap₂ (struct n) (forget-tys as') (no_fields (plainFields fs true) ∙ sym (no_fields fs))
    forget (list t) = ap list (forget t)

    pub forget-tys : (ts : Tys N) → plainTys (plainTys ts true) false ≡ plainTys ts false
    forget-tys nil = refl
    forget-tys (cons t ts) = ap₂ cons (forget t) (forget-tys ts)

  pub alike_same : (s t : Ty N) → Alike s t → plain s false ≡ plain t false
  alike_same s t e = sym (forget s) ∙ ap (λ (u : Ty N). plain u false) e ∙ forget t

  -- ══ Dimensions ══

  -- a type that counts as a dimension is read like that dimension
  single-just : (o : Open N) (d : Product N) → asProduct (opened o) ≡ got d → single (just o) ≡ some o
  unfolding asProduct single
  single-just (var x) d e = rw (is-yes (Exp-dec one one) refl)
  single-just (quant i) d e = rw (is-yes (Exp-dec one one) refl)
  single-just (par x) d e = absurd (got≢refused (sym e))

  pub plain-product : (t : Ty N) (d : Product N) (k : Bool) → asProduct t ≡ got d → plain t k ≡ plain (dim d) k
  unfolding plain plainDim
  plain-product t d k e = go (as-product-is t d e)
    where
      go : (t ≡ dim d) ⊎ ((o : Open N) × (t ≡ opened o) × (d ≡ just o)) → plain t k ≡ plain (dim d) k
      go (inl i) = rw i
      go (inr (o, i, j)) = rw (i, j) (sym (plain-dim (just o) k (some o) (single-just o d (sym (ap asProduct i) ∙ e))))

  -- the variable and the product of it
  pub plain-just : (x : N) (k : Bool) → plain (dim (just (var x))) k ≡ plain (opened (var x)) k
  unfolding asProduct
  plain-just x k = sym (plain-product (opened (var x)) (just (var x)) k refl)

  -- two dimensions that are alike are the same
  pub plain-injective : (p r : Product N) → Alike (dim p) (dim r) → p ≡ r
  unfolding plain plainDim
  plain-injective p r e = go (single p) refl (single r) refl e
    where
      go : (s : Option (Open N)) → single p ≡ s → (u : Option (Open N)) → single r ≡ u → plainDim s p ≡ plainDim u r → p ≡ r
      go none i none j h = cc
      go none i (some o) j h = cc
      go (some o) i none j h = cc
      go (some o) i (some w) j h = let z : o ≡ w = cc in single-is p o i ∙ ap just z ∙ sym (single-is r w j)

module _ {N : Type 0} (ν : Names N) where
  -- ══ Alike types mean the same ══

  pub means-same : (s t : Ty N) → plain s false ≡ plain t false → means ν s t ≡ true
  unfolding means
  means-same s t e = is-yes (ty-dec ν (plain s false) (plain t false)) e

  pub same-means : (s t : Ty N) → means ν s t ≡ true → plain s false ≡ plain t false
  unfolding means
  same-means s t e = yes-is (ty-dec ν (plain s false) (plain t false)) e

  means-plain : (s t : Ty N) → means ν s t ≡ means ν (plain s true) (plain t true)
  unfolding means
  means-plain s t = rw (forget s, forget t)

  -- what holds of types holds of those that are alike
  module _ (bounds : List N) where
    dim-plain : (a : Ty N) → holds ν bounds (isDim a) ≡ holds ν bounds (isDim (plain a true))
    unfolding holds amongBounds plain plainDim opens collect
    dim-plain (opened o) = refl
    dim-plain (basic b) = refl
    dim-plain (dim p) = go (single p) refl
      where
        go : (s : Option (Open N)) → single p ≡ s → holds ν bounds (isDim (dim p)) ≡ holds ν bounds (isDim (plainDim s p))
        go none e = refl
        go (some o) e = rw (single-is p o e)
    dim-plain (fn ps r) = refl
    dim-plain (struct n as' fs) = refl
    dim-plain (list t) = refl

    pub dim-alike : (a b : Ty N) → Alike a b → holds ν bounds (isDim b) ≡ true → holds ν bounds (isDim a) ≡ true
    dim-alike a b e h = dim-plain a ∙ ap (λ (u : Ty N). holds ν bounds (isDim u)) e ∙ sym (dim-plain b) ∙ h

    field-in-plain : (n : N) (b : Ty N) (fs : Fields N)
        → and' (fieldIn ν n fs) (λ u. means ν u b) ≡ and' (fieldIn ν n (plainFields fs true)) (λ u. means ν u (plain b true))
    unfolding fieldIn plain
    field-in-plain n b noFields = refl
    field-in-plain n b (field k t fs) = go (is_yes (ν.same n k)) refl (field-in-plain n b fs)
      where
        go : (r : Bool) → is_yes (ν.same n k) ≡ r
            → and' (fieldIn ν n fs) (λ u. means ν u b) ≡ and' (fieldIn ν n (plainFields fs true)) (λ u. means ν u (plain b true))
            → and' (fieldIn ν n (field k t fs)) (λ u. means ν u b)
            ≡ and' (fieldIn ν n (field k (plain t true) (plainFields fs true))) (λ u. means ν u (plain b true))
        go true i r = rw (i, fieldIn) (means-plain t b)
        go false i r = rw (i, fieldIn) r

    field_plain : (n : N) (a b : Ty N) → holds ν bounds (hasField n a b) ≡ holds ν bounds (hasField n (plain a true) (plain b true))
    unfolding holds plain plainDim
    field_plain n (opened o) b = refl
    field_plain n (basic k) b = refl
    field_plain n (dim p) b = go (single p) refl
      where
        go : (s : Option (Open N)) → single p ≡ s → holds ν bounds (hasField n (dim p) b) ≡ holds ν bounds (hasField n (plainDim s p) (plain b true))
        go none e = refl
        go (some o) e = refl
    field_plain n (fn ps r) b = refl
    field_plain n (struct m as' fs) b = field-in-plain n b fs
    field_plain n (list t) b = refl

    pub field_alike : (n : N) (a b c d : Ty N) → Alike a c → Alike b d → holds ν bounds (hasField n c d) ≡ true → holds ν bounds (hasField n a b) ≡ true
    field_alike n a b c d e f h = field_plain n a b ∙ ap₂ (λ (u w : Ty N). holds ν bounds (hasField n u w)) e f ∙ sym (field_plain n c d) ∙ h
