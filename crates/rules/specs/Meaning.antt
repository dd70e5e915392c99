-- What it means that constraints are true once all bindings are put in. Nothing of the solver is used.
use Rattle.std.specs.Prelude.{◌≡◌, Bool, true, false, not, ◌&&◌, ◌||◌}
use Rattle.std.proofs.Math.Option.{some}
use mathlib.Core.List.{List, [], ◌++◌, Memᴰ}
use Rattle.rules.specs.Base.{got, exact, is_yes, and_then, and', all, collect, is_none, isNil}
use Rattle.rules.specs.Trees.{
  Open,
  var,
  Product,
  Names,
  Ty,
  opened,
  basic,
  dim,
  fn,
  struct,
  list,
  Tys,
  nil,
  cons,
  Fields,
  noFields,
  field,
  Con,
  equal,
  isDim,
  is_scalar,
  hasField,
  Binding,
  ty-dec,
  opens,
  openOfFactor,
}
use Rattle.rules.specs.Views.{openOf, productOf, struct_of}
use Rattle.rules.specs.Contents.{fieldIn, namesIn, among}
use Rattle.rules.specs.Plain.{plain}
use Rattle.rules.specs.Replacing.{asProduct, replaceCon, find, bindings}

module _ {N : Type 0} (ν : Names N) where
  -- 'two types mean the same when they are equal after reading a single variable to the power 1 as the variable and comparing structs by name and
  -- arguments only'
  unfoldable pub means : Ty N → Ty N → Bool
  means s t = is_yes (ty-dec ν (plain s false) (plain t false))

  -- all open names of a type are among the bounds
  unfoldable pub amongBounds : List N → Ty N → Bool
  amongBounds bounds t = all (λ x. among ν x bounds) (namesIn (opens t))

  -- a constraint in which the bindings have been put in is true: both sides mean the same; a dimension type, or a variable or
  -- parameter, whose open names are all among the bounds; no factor is left; a struct with that field, whose type means the asked one
  unfoldable pub holds : List N → Con N → Bool
  holds bounds (equal s t) = means s t
  holds bounds (isDim t) = (not (is_none (productOf t)) || not (is_none (openOf t))) && amongBounds bounds t
  holds bounds (is_scalar p) = isNil p
  holds bounds (hasField n s t) = and' (and_then (struct_of s) (λ v. fieldIn ν n v.2)) (λ u. means u t)

  -- 'putting all bindings in at once, in exact arithmetic and without limits of size, makes the constraint true'
  pub record TrueUnder (bs : List (Binding N)) (bounds : List N) (c : Con N) : Type 0 where
    pub replaced : Con N
    pub put_in : replaceCon ν exact (bindings ν bs) c ≡ got replaced
    pub holding : holds bounds replaced ≡ true

  -- bindings and bounds solve a set when they make every constraint of it true
  abbrev pub Solves : List (Con N) → List (Binding N) → List N → Type 0
  Solves cs bs bounds = (c : Con N) → Memᴰ c cs → TrueUnder bs bounds c

module _ {N : Type 0} where
  -- the open names that stand in a dimension product
  unfoldable mutual
    pub inProducts : Ty N → List (Open N)
    inProducts (opened o) = []
    inProducts (basic b) = []
    inProducts (dim p) = collect openOfFactor p
    inProducts (fn ps r) = inProductsTys ps ++ inProducts r
    inProducts (struct n as' fs) = inProductsTys as' ++ inProductsFields fs
    inProducts (list t) = inProducts t

    pub inProductsTys : Tys N → List (Open N)
    inProductsTys nil = []
    inProductsTys (cons t ts) = inProducts t ++ inProductsTys ts

    pub inProductsFields : Fields N → List (Open N)
    inProductsFields noFields = []
    inProductsFields (field n t fs) = inProducts t ++ inProductsFields fs

  unfoldable pub productsOf : Con N → List (Open N)
  productsOf (equal s t) = inProducts s ++ inProducts t
  productsOf (isDim t) = inProducts t
  productsOf (is_scalar p) = inProducts (dim p)
  productsOf (hasField n s t) = inProducts s ++ inProducts t

  -- 'a dimension or a variable'
  abbrev pub IsDimension : Ty N → Type 0
  IsDimension t = (p : Product N) × (asProduct t ≡ got p)

module _ {N : Type 0} (ν : Names N) where
  -- the premise of soundness: 'no variable standing in a dimension product of the given set is bound to anything but a dimension or a variable'
  pub record Premise (cs : List (Con N)) (bs : List (Binding N)) : Type 0 where
    pub dimensions : (x : N) → Memᴰ (var x) (collect productsOf cs) → (t : Ty N) → find ν bs x ≡ some t → IsDimension t
