-- Types, constraints and bindings as trees, over a type N of names.
use Rattle.std.specs.Prelude.{List, [], ◌∷◌, ◌++◌, length}
use Prim.Native.Nat.{ℕ, suc, ◌+◌, max, compare, Ordering}
use Rattle.std.proofs.Math.Decide.{ℕ_discrete}
use Rattle.rules.specs.Base.{list-dec, collect}
use Rattle.rules.specs.Exponents.{Exp, Exp-dec}

-- an open name: a variable, a quantified variable (in schemes only), a parameter
pub data Open (N : Type 0) : Type 0 where
  var : N → Open N
  quant : ℕ → Open N
  par : N → Open N
  deriving Discrete as Open-discrete

-- what stands in a factor: an open name or a base dimension
pub data Atom (N : Type 0) : Type 0 where
  free : Open N → Atom N
  base : N → Atom N
  deriving Discrete as Atom-discrete

infix 80 ◌↑◌
pub data Factor (N : Type 0) : Type 0 where
  ◌↑◌ : Atom N → Exp → Factor N
  deriving Discrete as Factor-discrete

abbrev pub Product : Type 0 → Type 0
Product N = List (Factor N)

pub data Basic : Type 0 where
  boolean string datetime : Basic
  deriving Discrete as Basic-discrete

mutual
  pub data Ty (N : Type 0) : Type 0 where
    opened : Open N → Ty N
    basic : Basic → Ty N
    dim : Product N → Ty N
    fn : Tys N → Ty N → Ty N
    struct : N → Tys N → Fields N → Ty N
    list : Ty N → Ty N
    deriving Discrete as Ty-discrete

  pub data Tys (N : Type 0) : Type 0 where
    nil : Tys N
    cons : Ty N → Tys N → Tys N

  pub data Fields (N : Type 0) : Type 0 where
    noFields : Fields N
    field : N → Ty N → Fields N → Fields N

pub data Con (N : Type 0) : Type 0 where
  equal : Ty N → Ty N → Con N
  isDim : Ty N → Con N
  is_scalar : Product N → Con N
  hasField : N → Ty N → Ty N → Con N

infix 75 ◌≔◌
pub data Binding (N : Type 0) : Type 0 where
  ◌≔◌ : N → Ty N → Binding N

-- names: told apart, and in the order of their bytes
pub record Names (N : Type 0) : Type 0 where
  pub same : Discrete N
  pub order : N → N → Ordering

module _ {N : Type 0} (ν : Names N) where
  unfoldable pub open-dec : Discrete (Open N)
  unfolding ℕ_discrete
  open-dec = Open-discrete ν.same ℕ_discrete

  unfoldable pub product-dec : Discrete (Product N)
  unfolding open-dec Exp-dec list-dec
  product-dec = list-dec (Factor-discrete (Atom-discrete open-dec ν.same) Exp-dec)

  unfoldable pub ty-dec : Discrete (Ty N)
  unfolding open-dec product-dec
  ty-dec = Ty-discrete open-dec Basic-discrete product-dec ν.same

  -- the order of factors: variables, quantified variables, parameters, base dimensions
  unfoldable pub orderOpen : Open N → Open N → Ordering
  orderOpen (var a) (var b) = ν.order a b
  orderOpen (var a) (quant j) = Ordering.lt
  orderOpen (var a) (par b) = Ordering.lt
  orderOpen (quant i) (var b) = Ordering.gt
  orderOpen (quant i) (quant j) = compare i j
  orderOpen (quant i) (par b) = Ordering.lt
  orderOpen (par a) (var b) = Ordering.gt
  orderOpen (par a) (quant j) = Ordering.gt
  orderOpen (par a) (par b) = ν.order a b

  unfoldable pub orderAtom : Atom N → Atom N → Ordering
  orderAtom (free a) (free b) = orderOpen a b
  orderAtom (free a) (base n) = Ordering.lt
  orderAtom (base m) (free b) = Ordering.gt
  orderAtom (base m) (base n) = ν.order m n

module _ {N : Type 0} where
  abbrev pub openOfFactor : Factor N → List (Open N)
  openOfFactor (free o ↑ e) = o ∷ []
  openOfFactor (base n ↑ e) = []

  -- the open names of a type as they stand in it, arguments and fields included
  unfoldable mutual
    unfolding collect

    pub opens : Ty N → List (Open N)
    opens (opened o) = o ∷ []
    opens (basic b) = []
    opens (dim p) = collect openOfFactor p
    opens (fn ps r) = opensTys ps ++ opens r
    opens (struct n as' fs) = opensTys as' ++ opensFields fs
    opens (list t) = opens t

    pub opensTys : Tys N → List (Open N)
    opensTys nil = []
    opensTys (cons t ts) = opens t ++ opensTys ts

    pub opensFields : Fields N → List (Open N)
    opensFields noFields = []
    opensFields (field n t fs) = opens t ++ opensFields fs

  -- the number of records
  unfoldable mutual
    pub size : Ty N → ℕ
    size (opened o) = 1
    size (basic b) = 1
    size (dim p) = suc (length p)
    size (fn ps r) = suc (sizeTys ps + size r)
    size (struct n as' fs) = suc (sizeTys as' + sizeFields fs)
    size (list t) = suc (size t)

    pub sizeTys : Tys N → ℕ
    sizeTys nil = 0
    sizeTys (cons t ts) = size t + sizeTys ts

    pub sizeFields : Fields N → ℕ
    sizeFields noFields = 0
    sizeFields (field n t fs) = suc (size t + sizeFields fs)

  -- how deep types are nested
  unfoldable mutual
    pub depth : Ty N → ℕ
    depth (opened o) = 1
    depth (basic b) = 1
    depth (dim p) = 1
    depth (fn ps r) = suc (max (depthTys ps) (depth r))
    depth (struct n as' fs) = suc (max (depthTys as') (depthFields fs))
    depth (list t) = suc (depth t)

    pub depthTys : Tys N → ℕ
    depthTys nil = 0
    depthTys (cons t ts) = max (depth t) (depthTys ts)

    pub depthFields : Fields N → ℕ
    depthFields noFields = 0
    depthFields (field n t fs) = max (depth t) (depthFields fs)

  unfoldable pub count : Tys N → ℕ
  count nil = 0
  count (cons t ts) = suc (count ts)

  unfoldable pub countFields : Fields N → ℕ
  countFields noFields = 0
  countFields (field n t fs) = suc (countFields fs)

  unfoldable pub opensCon : Con N → List (Open N)
  opensCon (equal l r) = opens l ++ opens r
  opensCon (isDim t) = opens t
  opensCon (is_scalar p) = opens (dim p)
  opensCon (hasField n s t) = opens s ++ opens t

  unfoldable pub sizeCon : Con N → ℕ
  sizeCon (equal l r) = suc (size l + size r)
  sizeCon (isDim t) = suc (size t)
  sizeCon (is_scalar p) = suc (size (dim p))
  sizeCon (hasField n s t) = suc (size s + size t)

  unfoldable pub depthCon : Con N → ℕ
  depthCon (equal l r) = max (depth l) (depth r)
  depthCon (isDim t) = depth t
  depthCon (is_scalar p) = 1
  depthCon (hasField n s t) = max (depth s) (depth t)

  unfoldable pub sizeBinding : Binding N → ℕ
  sizeBinding (x ≔ t) = suc (size t)

  unfoldable pub depthBinding : Binding N → ℕ
  depthBinding (x ≔ t) = depth t
