-- Open names replaced by types, all at once.
use Rattle.std.specs.Prelude.{true, false, List, [], ◌∷◌}
use Rattle.std.proofs.Math.Option.{Option, none, some, get_or}
use Rattle.rules.specs.Base.{Got, got, refused, ◌>>=◌, Limits, is_yes}
use Rattle.rules.specs.Trees.{
  Open,
  var,
  quant,
  par,
  free,
  base,
  ◌↑◌,
  Product,
  Names,
  Ty,
  opened,
  basic,
  dim,
  fn,
  struct,
  list,
  Tys,
  nil,
  cons,
  Fields,
  noFields,
  field,
  Con,
  equal,
  isDim,
  is_scalar,
  hasField,
  Binding,
  ◌≔◌,
}
use Rattle.rules.specs.Products.{just, single, multiply, divide, raise}

-- what an open name becomes; none: it stays
abbrev pub Look : Type 0 → Type 0
Look N = Open N → Option (Ty N)

module _ {N : Type 0} where
  -- 'a bound variable type counts as that variable; any other type is 6'
  unfoldable pub asProduct : Ty N → Got (Product N)
  asProduct (opened (var x)) = got (just (var x))
  asProduct (opened (quant i)) = got (just (quant i))
  asProduct (opened (par x)) = refused 6
  asProduct (basic b) = refused 6
  asProduct (dim p) = got p
  asProduct (fn ps r) = refused 6
  asProduct (struct n as' fs) = refused 6
  asProduct (list t) = refused 6

module _ {N : Type 0} (ν : Names N) (l : Limits) (look : Look N) where
  -- 'for each factor in stored order: divide by variable^p, multiply by the bound dimension^p'
  unfoldable pub replaceFactors : Product N → Product N → Got (Product N)
  replaceFactors [] acc = got acc
  replaceFactors (base n ↑ e ∷ fs) acc = replaceFactors fs acc
  replaceFactors (free o ↑ e ∷ fs) acc = elim (look o) [
    | none ↦ replaceFactors fs acc
    | some t ↦ (do
      d ← asProduct t
      left ← divide ν l acc (free o ↑ e ∷ [])
      more ← raise ν l d e
      acc' ← multiply ν l left more
      replaceFactors fs acc')
  ]

  -- 'in another product', and 'the product of an equal-scalar .. even at power 1'
  unfoldable pub replaceProduct : Product N → Got (Product N)
  replaceProduct p = replaceFactors p p

  -- 'a dimension that is one variable to the power 1 becomes the bound type'; any other is replaced as a product
  unfoldable pub replaceDim : Option (Open N) → Product N → Got (Ty N)
  replaceDim (some o) p = got (get_or (look o) (dim p))
  replaceDim none p = replaceProduct p >>= λ q. got (dim q)

  -- 'a type and a list of types are replaced by rules that call one another'; 'bound types aren't replaced again'
  unfoldable mutual
    pub replaceTy : Ty N → Got (Ty N)
    replaceTy (opened o) = got (get_or (look o) (opened o))
    replaceTy (basic b) = got (basic b)
    replaceTy (dim p) = replaceDim (single p) p
    replaceTy (fn ps r) = do
      ps' ← replaceTys ps
      r' ← replaceTy r
      got (fn ps' r')
    replaceTy (struct n as' fs) = do
      as'' ← replaceTys as'
      fs' ← replaceFields fs
      got (struct n as'' fs')
    replaceTy (list t) = replaceTy t >>= λ t'. got (list t')

    pub replaceTys : Tys N → Got (Tys N)
    replaceTys nil = got nil
    replaceTys (cons t ts) = do
      t' ← replaceTy t
      ts' ← replaceTys ts
      got (cons t' ts')

    pub replaceFields : Fields N → Got (Fields N)
    replaceFields noFields = got noFields
    replaceFields (field n t fs) = do
      t' ← replaceTy t
      fs' ← replaceFields fs
      got (field n t' fs')

  unfoldable pub replaceCon : Con N → Got (Con N)
  replaceCon (equal s t) = do
    s' ← replaceTy s
    t' ← replaceTy t
    got (equal s' t')
  replaceCon (isDim t) = replaceTy t >>= λ t'. got (isDim t')
  replaceCon (is_scalar p) = replaceProduct p >>= λ q. got (is_scalar q)
  replaceCon (hasField n s t) = do
    s' ← replaceTy s
    t' ← replaceTy t
    got (hasField n s' t')

  unfoldable pub replaceBinding : Binding N → Got (Binding N)
  replaceBinding (x ≔ t) = replaceTy t >>= λ t'. got (x ≔ t')

module _ {N : Type 0} (ν : Names N) where
  -- 'of two bindings of a variable the first counts'
  unfoldable pub find : List (Binding N) → N → Option (Ty N)
  find [] x = none
  find (y ≔ t ∷ bs) x = elim (is_yes (ν.same x y)) [ true ↦ some t | false ↦ find bs x ]

  unfoldable pub bindings : List (Binding N) → Look N
  bindings bs (var x) = find bs x
  bindings bs (quant i) = none
  bindings bs (par x) = none
