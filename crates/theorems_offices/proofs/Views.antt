-- What a type is, seen from outside, with other names in it.
use Rattle.std.specs.Prelude.{◌≡◌, map}
use Rattle.std.proofs.Math.Path.{refl}
use Rattle.rules.specs.Base.{and_then}
use Rattle.rules.specs.Trees.{Open, var, quant, par, Ty, opened, basic, dim, fn, struct, list, Tys, Fields}
use Rattle.rules.specs.Products.{single}
use Rattle.rules.specs.Views.{openOf, productOf, fn_of, struct_of, list_of, variable, name_of, kindOpen, kind, asVar, asPower}
use Rattle.rules.specs.Offices.{mapOpen, mapFactor, mapTy, map_tys, mapFields, mapOption}
use Rattle.theorems_offices.proofs.Products.{single-map}
use Rattle.theorems_offices.proofs.Options.{then_map}

module _ {N M : Type 0} (f : N → M) where
  abbrev pub map_fn : Tys N × Ty N → Tys M × Ty M
  map_fn v = (map_tys f v.0, mapTy f v.1)

  abbrev pub mapStruct : N × Tys N × Fields N → M × Tys M × Fields M
  mapStruct v = (f v.0, map_tys f v.1, mapFields f v.2)

  -- of an open name
  pub record OpenSeen (o : Open N) : Type 0 where
    pub variable-of : variable (mapOpen f o) ≡ mapOption f (variable o)
    pub name-of : name_of (mapOpen f o) ≡ mapOption f (name_of o)
    pub kind-map : kindOpen (mapOpen f o) ≡ kindOpen o

  pub open-seen : (o : Open N) → OpenSeen o
  open-seen (var x) = record { variable-of = refl; name-of = refl; kind-map = refl }
  open-seen (quant i) = record { variable-of = refl; name-of = refl; kind-map = refl }
  open-seen (par x) = record { variable-of = refl; name-of = refl; kind-map = refl }

  pub record Seen (t : Ty N) : Type 0 where
    pub open_of : openOf (mapTy f t) ≡ mapOption (mapOpen f) (openOf t)
    pub product-of : productOf (mapTy f t) ≡ mapOption (map (mapFactor f)) (productOf t)
    pub fn-of : fn_of (mapTy f t) ≡ mapOption map_fn (fn_of t)
    pub struct-of : struct_of (mapTy f t) ≡ mapOption mapStruct (struct_of t)
    pub list-of : list_of (mapTy f t) ≡ mapOption (mapTy f) (list_of t)
    pub kind-map : kind (mapTy f t) ≡ kind t

  pub seen : (t : Ty N) → Seen t
  unfolding mapTy
  seen (opened o) =
      record { open_of = refl; product-of = refl; fn-of = refl; struct-of = refl; list-of = refl; kind-map = (open-seen o).kind-map }
  seen (basic b) = record { open_of = refl; product-of = refl; fn-of = refl; struct-of = refl; list-of = refl; kind-map = refl }
  seen (dim p) = record { open_of = refl; product-of = refl; fn-of = refl; struct-of = refl; list-of = refl; kind-map = refl }
  seen (fn ps r) = record { open_of = refl; product-of = refl; fn-of = refl; struct-of = refl; list-of = refl; kind-map = refl }
  seen (struct n as' fs) = record { open_of = refl; product-of = refl; fn-of = refl; struct-of = refl; list-of = refl; kind-map = refl }
  seen (list t) = record { open_of = refl; product-of = refl; fn-of = refl; struct-of = refl; list-of = refl; kind-map = refl }

  pub as-var : (t : Ty N) → asVar (mapTy f t) ≡ mapOption f (asVar t)
  as-var t = rw ((seen t).open_of) (then_map (mapOpen f) f (openOf t) variable variable (λ o. (open-seen o).variable-of))

  pub as-power : (t : Ty N) → asPower (mapTy f t) ≡ mapOption f (asPower t)
  as-power t = rw ((seen t).product-of, then_map (map (mapFactor f)) (mapOpen f) (productOf t) single single (single-map f))
      (then_map (mapOpen f) f (and_then (productOf t) single) variable variable (λ o. (open-seen o).variable-of))
