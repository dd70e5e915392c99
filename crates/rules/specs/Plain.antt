-- Reading a product that is one variable to the power 1 as that variable, at every depth.
use Rattle.std.specs.Prelude.{Bool, true, false}
use Rattle.std.proofs.Math.Option.{Option, none, some}
use Rattle.rules.specs.Trees.{Open, Product, Ty, opened, basic, dim, fn, struct, list, Tys, nil, cons, Fields, noFields, field}
use Rattle.rules.specs.Products.{single}

module _ {N : Type 0} where
  -- the variable, where there is one
  unfoldable pub plainDim : Option (Open N) → Product N → Ty N
  plainDim (some o) p = opened o
  plainDim none p = dim p

  -- fields are kept (schemes) or left out ('comparing structs by name and arguments only')
  unfoldable mutual
    pub plain : Ty N → Bool → Ty N
    plain (opened o) k = opened o
    plain (basic b) k = basic b
    plain (dim p) k = plainDim (single p) p
    plain (fn ps r) k = fn (plainTys ps k) (plain r k)
    plain (struct n as' fs) k = struct n (plainTys as' k) (plainFields fs k)
    plain (list t) k = list (plain t k)

    pub plainTys : Tys N → Bool → Tys N
    plainTys nil k = nil
    plainTys (cons t ts) k = cons (plain t k) (plainTys ts k)

    pub plainFields : Fields N → Bool → Fields N
    plainFields noFields k = noFields
    plainFields (field n t fs) false = noFields
    plainFields (field n t fs) true = field n (plain t true) (plainFields fs true)
