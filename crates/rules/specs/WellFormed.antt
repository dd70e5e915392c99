-- When trees are well formed.
use Rattle.std.specs.Prelude.{Bool, true, false, ◌&&◌, List, [], ◌∷◌, map, leb, ltb, length}
use Prim.Native.Nat.{ℕ, Ordering}
use Rattle.rules.specs.Base.{all}
use Rattle.rules.specs.Exponents.{goodStored}
use Rattle.rules.specs.Trees.{
  Open,
  var,
  quant,
  par,
  Atom,
  free,
  base,
  Factor,
  ◌↑◌,
  Product,
  Names,
  Ty,
  opened,
  basic,
  dim,
  fn,
  struct,
  list,
  Tys,
  nil,
  cons,
  Fields,
  noFields,
  field,
  Con,
  equal,
  isDim,
  is_scalar,
  hasField,
  Binding,
  ◌≔◌,
  orderAtom,
}

abbrev pub is_lt : Ordering → Bool
is_lt Ordering.lt = true
is_lt Ordering.eq = false
is_lt Ordering.gt = false

-- each before the next
unfoldable pub rising : {A : Type 0} → (A → A → Ordering) → List A → Bool
rising o [] = true
rising o (x ∷ []) = true
rising o (x ∷ y ∷ ys) = is_lt (o x y) && rising o (y ∷ ys)

abbrev pub atomOf : {N : Type 0} → Factor N → Atom N
atomOf (a ↑ e) = a

abbrev pub fieldNames : {N : Type 0} → Fields N → List N
fieldNames noFields = []
fieldNames (field n t fs) = n ∷ fieldNames fs

-- with which names are held ('a name number not held .. is 1'), and how many variables are quantified ('an index not below the count')
module _ {N : Type 0} (ν : Names N) (held : N → Bool) (q : ℕ) where
  unfoldable pub goodOpen : Open N → Bool
  goodOpen (var x) = held x
  goodOpen (quant i) = ltb i q
  goodOpen (par x) = held x

  unfoldable pub goodFactor : Factor N → Bool
  goodFactor (free o ↑ e) = goodOpen o && goodStored e
  goodFactor (base n ↑ e) = held n && goodStored e

  -- 'factors rise strictly', 'an input product of 65 factors is 1'
  unfoldable pub goodProduct : Product N → Bool
  goodProduct p = all goodFactor p && rising (orderAtom ν) (map atomOf p) && leb (length p) 64

  -- 'fields rise strictly by name bytes'; nesting is the reader's limit
  unfoldable mutual
    pub goodTy : Ty N → Bool
    goodTy (opened o) = goodOpen o
    goodTy (basic b) = true
    goodTy (dim p) = goodProduct p
    goodTy (fn ps r) = goodTys ps && goodTy r
    goodTy (struct n as' fs) = held n && goodTys as' && goodFields fs && rising ν.order (fieldNames fs)
    goodTy (list t) = goodTy t

    pub goodTys : Tys N → Bool
    goodTys nil = true
    goodTys (cons t ts) = goodTy t && goodTys ts

    pub goodFields : Fields N → Bool
    goodFields noFields = true
    goodFields (field n t fs) = held n && goodTy t && goodFields fs

  unfoldable pub goodCon : Con N → Bool
  goodCon (equal l r) = goodTy l && goodTy r
  goodCon (isDim t) = goodTy t
  goodCon (is_scalar p) = goodProduct p
  goodCon (hasField n s t) = held n && goodTy s && goodTy t

  unfoldable pub goodBinding : Binding N → Bool
  goodBinding (x ≔ t) = held x && goodTy t
