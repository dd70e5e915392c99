-- The scheme calls' definitions with other names in types, bounds and handed names.
use Rattle.std.specs.Prelude.{◌≡◌, Bool, false, ℕ, zero, suc, ◌+◌, eqb}
use Rattle.std.proofs.Math.Path.{refl}
use Rattle.std.proofs.Math.Bool.{true}
use Rattle.std.proofs.Math.Option.{Option, none, some}
use mathlib.Core.List.{List, [], ◌∷◌, map}
use Rattle.std.proofs.Math.ListN.{length, length-map, get_elem?}
use Rattle.rules.specs.Base.{need, Limits, is_yes, keep}
use Rattle.rules.specs.Trees.{
  Open,
  var,
  quant,
  par,
  Product,
  Names,
  Ty,
  opened,
  basic,
  dim,
  fn,
  struct,
  list,
  Tys,
  nil,
  cons,
  Fields,
  noFields,
  field,
  opens,
  size,
  depth,
}
use Rattle.rules.specs.Contents.{sort, namesIn, among}
use Rattle.rules.specs.Products.{single}
use Rattle.rules.specs.Plain.{plainDim, plain, plainTys, plainFields}
use Rattle.rules.specs.Schemes.{
  Scheme,
  concrete,
  scheme,
  renamed,
  renamedBounds,
  schemeLimited,
  back,
  quantifies,
  quantifyFrom,
  quantify,
  generalise,
  put_back,
  instantiate,
}
use Rattle.rules.specs.Offices.{Keeps, mapOpen, mapFactor, mapTy, map_tys, mapFields, mapScheme, mapOption}
use Rattle.theorems_offices.proofs.Over.{Over, next, gives, same_over, sized-over}
use Rattle.theorems_offices.proofs.Options.{only-map, then_map, get_d_map}
use Rattle.theorems_offices.proofs.Products.{single-map}
use Rattle.theorems_offices.proofs.Sizes.{opens-map, size-map, depth-map}
use Rattle.theorems_offices.proofs.Contents.{names_in, same_map, among-map, sort-map, keep-map}
use Rattle.theorems_offices.proofs.Replacing.{ty-map}

-- ══ Types read plainly, and renamed ══

module _ {N M : Type 0} (f : N → M) where
  plain-dim : (o : Option (Open N)) (p : Product N) → plainDim (mapOption (mapOpen f) o) (map (mapFactor f) p) ≡ mapTy f (plainDim o p)
  unfolding plainDim mapTy
  plain-dim none p = refl
  plain-dim (some o) p = refl

  mutual
    unfolding plain mapTy

    pub plain_map : (t : Ty N) (k : Bool) → plain (mapTy f t) k ≡ mapTy f (plain t k)
    plain_map (opened o) k = refl
    plain_map (basic b) k = refl
    plain_map (dim p) k = rw (single-map f p) (plain-dim (single p) p)
    plain_map (fn ps r) k = rw (plain-tys ps k, plain_map r k)
    plain_map (struct n as' fs) k = rw (plain-tys as' k, plain-fields fs k)
    plain_map (list t) k = rw (plain_map t k)

    plain-tys : (ts : Tys N) (k : Bool) → plainTys (map_tys f ts) k ≡ map_tys f (plainTys ts k)
    plain-tys nil k = refl
    plain-tys (cons t ts) k = rw (plain_map t k, plain-tys ts k)

    plain-fields : (fs : Fields N) (k : Bool) → plainFields (mapFields f fs) k ≡ mapFields f (plainFields fs k)
    plain-fields noFields k = refl
    plain-fields (field n t fs) false = refl
    plain-fields (field n t fs) true = rw (plain_map t true, plain-fields fs true)

  abbrev pub mapOpened : Ty N × List (Open N) → Ty M × List (Open M)
  mapOpened v = (mapTy f v.0, map (mapOpen f) v.1)

  module _ (r : Open N → Option (Open N)) (r' : Open M → Option (Open M)) (renames : (o : Open N) → r' (mapOpen f o) ≡ mapOption (mapOpen f) (r o)) where
    renamed-map : (o : Open N) → renamed r' (mapOpen f o) ≡ mapOption (mapTy f) (renamed r o)
    unfolding mapTy
    renamed-map o = rw (renames o) (then_map (mapOpen f) (mapTy f) (r o) (λ o'. some (opened o')) (λ o'. some (opened o')) (λ o'. refl))

    bounds-map : (bs : List (Open N)) → renamedBounds r' (map (mapOpen f) bs) ≡ map (mapOpen f) (renamedBounds r bs)
    unfolding renamedBounds
    bounds-map [] = refl
    bounds-map (o ∷ bs) = rw (renames o, get_d_map (mapOpen f) (r o) o, bounds-map bs)

  pub limited-map : {A B : Type 0} (g : A → B) (l : Limits) (n : ℕ) (t : Ty N) (bs : List (Open N)) (a : A)
      → Over g (schemeLimited l n t bs a) (schemeLimited l n (mapTy f t) (map (mapOpen f) bs) (g a))
  unfolding schemeLimited
  limited-map g l n t bs a = rw (size-map f t, depth-map f t, length-map) (sized-over g l (n + (size t + length bs)) (depth t) a)

  element-map : (vs : List N) (i : ℕ) → get_elem? (map f vs) i ≡ mapOption f (get_elem? vs i)
  element-map [] i = refl
  element-map (v ∷ vs) zero = refl
  element-map (v ∷ vs) (suc i) = element-map vs i

  back-map : (vs : List N) (o : Open N) → back (map f vs) (mapOpen f o) ≡ mapOption (mapOpen f) (back vs o)
  unfolding back
  back-map vs (var x) = refl
  back-map vs (quant i) = rw (element-map vs i) (then_map f (mapOpen f) (get_elem? vs i) (λ x. some (var x)) (λ x. some (var x)) (λ x. refl))
  back-map vs (par x) = refl

  vars-map : (xs : List N) → map var (map f xs) ≡ map (mapOpen f) (map var xs)
  vars-map [] = refl
  vars-map (x ∷ xs) = rw (vars-map xs)

-- ══ Quantifying and instantiating ══

module _ {N M : Type 0} (ν : Names N) (μ : Names M) (f : N → M) (keeps : Keeps ν μ f) where
  quantifies-map : (i : ℕ) (v : N) (o : Open N) → quantifies μ i (f v) (mapOpen f o) ≡ mapOption (mapOpen f) (quantifies ν i v o)
  unfolding quantifies
  quantifies-map i v (var x) = rw (same_map ν μ f keeps v x) (only-map (mapOpen f) (is_yes (ν.same v x)) (quant i))
  quantifies-map i v (quant j) = refl
  quantifies-map i v (par x) = rw (same_map ν μ f keeps v x) (only-map (mapOpen f) (is_yes (ν.same v x)) (quant i))

module _ {N M : Type 0} (ν : Names N) (μ : Names M) (f : N → M) (keeps : Keeps ν μ f) (l : Limits) where
  from-map : (i : ℕ) (vs : List N) (t : Ty N) (bs : List (Open N))
      → Over (mapOpened f) (quantifyFrom ν l i vs t bs) (quantifyFrom μ l i (map f vs) (mapTy f t) (map (mapOpen f) bs))
  unfolding quantifyFrom
  from-map i [] t bs = gives refl
  from-map i (v ∷ vs) t bs =
      next (ty-map ν μ f keeps l (renamed (quantifies ν i v)) (renamed (quantifies μ i (f v)))
      (renamed-map f (quantifies ν i v) (quantifies μ i (f v)) (quantifies-map ν μ f keeps i v)) t)
      (λ u u' e. rw (e, bounds-map f (quantifies ν i v) (quantifies μ i (f v)) (quantifies-map ν μ f keeps i v) bs)
      (from-map (suc i) vs u (renamedBounds (quantifies ν i v) bs)))

  pub quantify-map : (vs : List N) (t : Ty N) (bs : List (Open N))
      → Over (mapScheme f) (quantify ν l vs t bs) (quantify μ l (map f vs) (mapTy f t) (map (mapOpen f) bs))
  unfolding quantify mapScheme
  quantify-map vs t bs = next (from-map 0 vs t bs) (λ r r' i. rw (i, length-map) (limited-map f (mapScheme f) l 1 r.0 r.1 (scheme (length vs) r.0 r.1)))

  pub generalise-map : (bs : List N) (s : Scheme N) → Over (mapScheme f) (generalise ν l bs s) (generalise μ l (map f bs) (mapScheme f s))
  unfolding generalise mapScheme
  generalise-map bs (scheme n t os) = gives refl
  generalise-map bs (concrete t) =
      rw (
        opens-map f t,
        names_in f (opens t),
        sort-map ν μ f keeps (namesIn (opens t)),
        kept bs (sort ν (namesIn (opens t))),
        vars-map f (keep (λ b. among ν b (sort ν (namesIn (opens t)))) bs),
      )
      (quantify-map (sort ν (namesIn (opens t))) t (map var (keep (λ b. among ν b (sort ν (namesIn (opens t)))) bs)))
    where
      kept : (bs ns : List N) → keep (λ b. among μ b (map f ns)) (map f bs) ≡ map f (keep (λ b. among ν b ns) bs)
      kept bs ns = keep-map f (λ b. among ν b ns) (λ b. among μ b (map f ns)) (λ b. among-map ν μ f keeps b ns) bs

  put-back : (vs : List N) (t : Ty N) (bs : List (Open N))
      → Over (mapOpened f) (put_back ν l vs t bs) (put_back μ l (map f vs) (mapTy f t) (map (mapOpen f) bs))
  unfolding put_back
  put-back vs t bs =
      next (ty-map ν μ f keeps l (renamed (back vs)) (renamed (back (map f vs))) (renamed-map f (back vs) (back (map f vs)) (back-map f vs)) t)
      (λ u u' e. rw (e, plain_map f u true, bounds-map f (back vs) (back (map f vs)) (back-map f vs) bs)
      (limited-map f (mapOpened f) l 0 (plain u true) bs (plain u true, renamedBounds (back vs) bs)))

  pub instantiate-map : (vs : List N) (s : Scheme N) → Over (mapOpened f) (instantiate ν l vs s) (instantiate μ l (map f vs) (mapScheme f s))
  unfolding instantiate mapScheme
  instantiate-map vs (concrete t) = record { is = refl }
  instantiate-map vs (scheme n t bs) = rw length-map (next (same_over (need (eqb n (length vs)) 9)) (λ a b i. put-back vs t bs))
