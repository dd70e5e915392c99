-- Replacing with other names in types and bindings: the same, with other names in what comes out.
use Rattle.std.specs.Prelude.{◌≡◌, Bool}
use Rattle.std.proofs.Math.Path.{refl}
use Rattle.std.proofs.Math.Bool.{true, false}
use Rattle.std.proofs.Math.Option.{Option, none, some, get_or}
use mathlib.Core.List.{List, [], ◌∷◌, map}
use Rattle.rules.specs.Base.{got, Limits, is_yes}
use Rattle.rules.specs.Trees.{
  Open,
  var,
  quant,
  par,
  free,
  base,
  ◌↑◌,
  Product,
  Names,
  Ty,
  opened,
  basic,
  dim,
  fn,
  struct,
  list,
  Tys,
  nil,
  cons,
  Fields,
  noFields,
  field,
  Con,
  equal,
  isDim,
  is_scalar,
  hasField,
  Binding,
  ◌≔◌,
}
use Rattle.rules.specs.Products.{single}
use Rattle.rules.specs.Replacing.{
  Look,
  replaceFactors,
  replaceProduct,
  replaceDim,
  replaceTy,
  replaceTys,
  replaceFields,
  replaceCon,
  replaceBinding,
  find,
  bindings,
}
use Rattle.rules.specs.Offices.{Keeps, mapOpen, mapFactor, mapTy, map_tys, mapFields, mapCon, mapBinding, mapOption}
use Rattle.theorems_offices.proofs.Over.{Over, next, gives}
use Rattle.theorems_offices.proofs.Products.{multiply-map, divide-map, raise-map, product-map, single-map}
use Rattle.theorems_offices.proofs.Contents.{same_map}

-- ══ Whatever is put in ══

module _ {N M : Type 0} (ν : Names N) (μ : Names M) (f : N → M) (keeps : Keeps ν μ f) (l : Limits) (look : Look N) (look' : Look M)
    (looks : (o : Open N) → look' (mapOpen f o) ≡ mapOption (mapTy f) (look o)) where
  factors-map : (p acc : Product N)
      → Over (map (mapFactor f)) (replaceFactors ν l look p acc) (replaceFactors μ l look' (map (mapFactor f) p) (map (mapFactor f) acc))
  unfolding replaceFactors
  factors-map [] acc = gives refl
  factors-map (base n ↑ e ∷ p) acc = factors-map p acc
  factors-map (free o ↑ e ∷ p) acc = go (look o) refl (looks o) (factors-map p)
    where
      go : (t : Option (Ty N)) → look o ≡ t → look' (mapOpen f o) ≡ mapOption (mapTy f) (look o)
          → ((acc : Product N) → Over (map (mapFactor f)) (replaceFactors ν l look p acc)
          (replaceFactors μ l look' (map (mapFactor f) p) (map (mapFactor f) acc)))
          → Over (map (mapFactor f)) (replaceFactors ν l look (free o ↑ e ∷ p) acc)
          (replaceFactors μ l look' (map (mapFactor f) (free o ↑ e ∷ p)) (map (mapFactor f) acc))
      go none q r h = rw (r, replaceFactors, q) (h acc)
      go (some t) q r h =
          rw (r, replaceFactors, q)
          (next (product-map f t) (λ d d' i. rw i
          (next (divide-map ν μ f keeps l acc (free o ↑ e ∷ [])) (λ left left' i. rw i
          (next (raise-map ν μ f keeps l d e) (λ more more' i. rw i
          (next (multiply-map ν μ f keeps l left more) (λ r r' i. rw i (h r)))))))))

  dim-map : (s : Option (Open N)) (p : Product N)
      → Over (mapTy f) (replaceDim ν l look s p) (replaceDim μ l look' (mapOption (mapOpen f) s) (map (mapFactor f) p))
  unfolding replaceDim replaceProduct mapTy
  dim-map (some o) p = rw (looks o) (go (look o))
    where
      go : (t : Option (Ty N)) → Over (mapTy f) (got (get_or t (dim p))) (got (get_or (mapOption (mapTy f) t) (dim (map (mapFactor f) p))))
      go none = gives refl
      go (some t) = gives refl
  dim-map none p = next (factors-map p p) (λ q q' i. gives (rw i))

  mutual
    unfolding replaceTy mapTy

    pub ty-map : (t : Ty N) → Over (mapTy f) (replaceTy ν l look t) (replaceTy μ l look' (mapTy f t))
    ty-map (opened o) = rw (looks o) (go (look o))
      where
        go : (t : Option (Ty N)) → Over (mapTy f) (got (get_or t (opened o))) (got (get_or (mapOption (mapTy f) t) (opened (mapOpen f o))))
        go none = gives refl
        go (some t) = gives refl
    ty-map (basic b) = gives refl
    ty-map (dim p) = rw (single-map f p) (dim-map (single p) p)
    ty-map (fn ps r) = next (tys_map ps) (λ a a' i. next (ty-map r) (λ b b' j. gives (rw (i, j))))
    ty-map (struct n as' fs) = next (tys_map as') (λ a a' i. next (fields_map fs) (λ b b' j. gives (rw (i, j))))
    ty-map (list t) = next (ty-map t) (λ a a' i. gives (rw i))

    pub tys_map : (ts : Tys N) → Over (map_tys f) (replaceTys ν l look ts) (replaceTys μ l look' (map_tys f ts))
    tys_map nil = gives refl
    tys_map (cons t ts) = next (ty-map t) (λ a a' i. next (tys_map ts) (λ b b' j. gives (rw (i, j))))

    pub fields_map : (fs : Fields N) → Over (mapFields f) (replaceFields ν l look fs) (replaceFields μ l look' (mapFields f fs))
    fields_map noFields = gives refl
    fields_map (field n t fs) = next (ty-map t) (λ a a' i. next (fields_map fs) (λ b b' j. gives (rw (i, j))))

  pub product-replaced : (p : Product N) → Over (map (mapFactor f)) (replaceProduct ν l look p) (replaceProduct μ l look' (map (mapFactor f) p))
  unfolding replaceProduct
  product-replaced p = factors-map p p

  pub con-map : (c : Con N) → Over (mapCon f) (replaceCon ν l look c) (replaceCon μ l look' (mapCon f c))
  unfolding replaceCon mapCon
  con-map (equal s t) = next (ty-map s) (λ a a' i. next (ty-map t) (λ b b' j. gives (rw (i, j))))
  con-map (isDim t) = next (ty-map t) (λ a a' i. gives (rw i))
  con-map (is_scalar p) = next (product-replaced p) (λ q q' i. gives (rw i))
  con-map (hasField n s t) = next (ty-map s) (λ a a' i. next (ty-map t) (λ b b' j. gives (rw (i, j))))

  pub binding-map : (b : Binding N) → Over (mapBinding f) (replaceBinding ν l look b) (replaceBinding μ l look' (mapBinding f b))
  unfolding replaceBinding mapBinding
  binding-map (x ≔ t) = next (ty-map t) (λ a a' i. gives (rw i))

-- ══ Bindings, looked up ══

module _ {N M : Type 0} (ν : Names N) (μ : Names M) (f : N → M) (keeps : Keeps ν μ f) where
  find-map : (bs : List (Binding N)) (x : N) → find μ (map (mapBinding f) bs) (f x) ≡ mapOption (mapTy f) (find ν bs x)
  unfolding find mapBinding
  find-map [] x = refl
  find-map (y ≔ t ∷ bs) x = go (is_yes (ν.same x y)) refl (same_map ν μ f keeps x y) (find-map bs x)
    where
      go : (b : Bool) → is_yes (ν.same x y) ≡ b → is_yes (μ.same (f x) (f y)) ≡ is_yes (ν.same x y)
          → find μ (map (mapBinding f) bs) (f x) ≡ mapOption (mapTy f) (find ν bs x)
          → find μ (f y ≔ mapTy f t ∷ map (mapBinding f) bs) (f x) ≡ mapOption (mapTy f) (find ν (y ≔ t ∷ bs) x)
      go true e r k = rw (find, r, e)
      go false e r k = rw (find, r, e, k)

  pub looks-map : (bs : List (Binding N)) (o : Open N) → bindings μ (map (mapBinding f) bs) (mapOpen f o) ≡ mapOption (mapTy f) (bindings ν bs o)
  unfolding bindings
  looks-map bs (var x) = find-map bs x
  looks-map bs (quant i) = refl
  looks-map bs (par x) = refl
