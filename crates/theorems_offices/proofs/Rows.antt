-- The second engine with other names in the products: the same rows, the same steps, and other names in what comes out.
use Rattle.std.specs.Prelude.{◌≡◌, Bool, not, length}
use Rattle.std.proofs.Math.Path.{refl, ap, ap₂}
use Rattle.std.proofs.Math.Bool.{true, false}
use mathlib.Core.List.{List, [], ◌∷◌, ◌++◌, map, map-append}
use Prim.Native.Nat.{ℕ, zero, suc}
use Rattle.std.proofs.lemmas.List.{length-map}
use Rattle.rules.specs.Base.{Got, is_yes, keep, each, collect}
use Rattle.rules.specs.Exponents.{Exp, isZero}
use Rattle.rules.specs.Trees.{var, quant, par, Atom, free, base, ◌↑◌, Product, Names, dim, Con, equal, isDim, is_scalar, hasField, Binding, ◌≔◌}
use Rattle.rules.specs.WellFormed.{atomOf}
use Rattle.rules.specs.Elimination.{
  Row,
  Value,
  ◌gets◌,
  solvedFor,
  putInRow,
  putInValue,
  Fate,
  gone,
  stays,
  binds,
  Reduced,
  atColumn,
  oneFurther,
  fate,
  turned,
  eliminate,
  factors,
  boundBy,
  Settled,
  settled,
  unsettled,
  settledBy,
  isVariable,
  scalarOf,
  atomNames,
  columns,
  powerIn,
  row_of,
  fits,
  eliminated,
}
use Rattle.rules.specs.Offices.{Keeps, mapAtom, mapFactor, mapTy, mapCon, mapBinding}
use Rattle.theorems_offices.proofs.Over.{Over, next, gives, same_over, each_over, collect-over}
use Rattle.theorems_offices.proofs.Products.{put_map, order-atom}
use Rattle.theorems_offices.proofs.Contents.{open-back, keep-map, same_map, sort-map}

module _ {N M : Type 0} (f : N → M) where
  abbrev pub mapProduct : Product N → Product M
  mapProduct p = map (mapFactor f) p

  abbrev pub mapValue : Value N → Value M
  mapValue (x gets r) = f x gets r

  abbrev pub mapFate : Fate N → Fate M
  mapFate gone = gone
  mapFate stays = stays
  mapFate (binds c x) = binds c (f x)

  abbrev pub mapReduced : Reduced N → Reduced M
  mapReduced d = record { left = d.left; values = map mapValue d.values }

  abbrev pub mapSettled : Settled N → Settled M
  mapSettled (settled bs) = settled (map (mapBinding f) bs)
  mapSettled (unsettled cs) = unsettled (map (mapCon f) cs)

  -- ══ Rows and steps ══

  at_column : (a : Atom N) → atColumn (mapAtom f a) ≡ mapFate (atColumn a)
  unfolding atColumn
  at_column (free (var x)) = refl
  at_column (free (quant i)) = refl
  at_column (free (par x)) = refl
  at_column (base n) = refl

  one-further : (d : Fate N) → oneFurther (mapFate d) ≡ mapFate (oneFurther d)
  unfolding oneFurther
  one-further gone = refl
  one-further stays = refl
  one-further (binds c x) = refl

  fate-map : (cols : List (Atom N)) (r : Row) → fate (map (mapAtom f) cols) r ≡ mapFate (fate cols r)
  unfolding fate
  fate-map [] r = refl
  fate-map (a ∷ cols) [] = refl
  fate-map (a ∷ cols) (e ∷ r) = go (isZero e) refl (fate-map cols r)
    where
      go : (b : Bool) → isZero e ≡ b → fate (map (mapAtom f) cols) r ≡ mapFate (fate cols r)
          → fate (mapAtom f a ∷ map (mapAtom f) cols) (e ∷ r) ≡ mapFate (fate (a ∷ cols) (e ∷ r))
      go true i h = rw (fate, i, h) (one-further (fate cols r))
      go false i h = rw (fate, i) (at_column a)

  value-map : (c : ℕ) (w : Row) (v : Value N) → Over mapValue (putInValue c w v) (putInValue c w (mapValue v))
  unfolding putInValue
  value-map c w (x gets r) = next (same_over (putInRow c w r)) (λ s s' i. gives (rw i))

  values-map : (c : ℕ) (w : Row) (vs : List (Value N)) → Over (map mapValue) (each (putInValue c w) vs) (each (putInValue c w) (map mapValue vs))
  values-map c w vs = each_over mapValue mapValue (putInValue c w) (putInValue c w) (value-map c w) vs

  appended : (vs : List (Value N)) (x : N) (w : Row) → map mapValue vs ++ (f x gets w ∷ []) ≡ map mapValue (vs ++ (x gets w ∷ []))
  appended vs x w = rw map-append

  turned-map : (d : Fate N) (r : Row) (rows : List Row) (vs : List (Value N)) (more : List Row → List (Value N) → Got (Reduced N))
      (more' : List Row → List (Value M) → Got (Reduced M))
      → ((qs : List Row) (us : List (Value N)) → Over mapReduced (more qs us) (more' qs (map mapValue us)))
      → Over mapReduced (turned d r rows vs more) (turned (mapFate d) r rows (map mapValue vs) more')
  unfolding turned
  turned-map gone r rows vs more more' h = h rows vs
  turned-map stays r rows vs more more' h = next (h rows vs) (λ d d' i. gives (rw i))
  turned-map (binds c x) r rows vs more more' h =
      next (same_over (solvedFor c r)) (λ w w' i. rw i
      (next (same_over (each (putInRow c w) rows)) (λ qs qs' j. rw j
      (next (values-map c w vs) (λ us us' k. rw (k, appended us x w) (h qs (us ++ (x gets w ∷ []))))))))

  eliminate-map : (cols : List (Atom N)) (n : ℕ) (rows : List Row) (vs : List (Value N))
      → Over mapReduced (eliminate cols n rows vs) (eliminate (map (mapAtom f) cols) n rows (map mapValue vs))
  unfolding eliminate
  eliminate-map cols zero rows vs = gives refl
  eliminate-map cols (suc n) [] vs = gives refl
  eliminate-map cols (suc n) (r ∷ rows) vs = rw (fate-map cols r)
      (turned-map (fate cols r) r rows vs (λ qs us. eliminate cols n qs us) (λ qs us. eliminate (map (mapAtom f) cols) n qs us)
      (λ qs us. eliminate-map cols n qs us))

  -- ══ Read off ══

  factors-map : (cols : List (Atom N)) (r : Row) → factors (map (mapAtom f) cols) r ≡ mapProduct (factors cols r)
  unfolding factors
  factors-map [] r = refl
  factors-map (a ∷ cols) [] = refl
  factors-map (a ∷ cols) (e ∷ r) = rw (factors-map cols r) (put_map f a e (factors cols r))

  bound-by : (cols : List (Atom N)) (v : Value N) → boundBy (map (mapAtom f) cols) (mapValue v) ≡ mapBinding f (boundBy cols v)
  unfolding boundBy mapBinding mapTy
  bound-by cols (x gets r) = ap (λ (p : Product M). f x ≔ dim p) (factors-map cols r)

  all-bound : (cols : List (Atom N)) (vs : List (Value N)) → map (boundBy (map (mapAtom f) cols)) (map mapValue vs) ≡ map (mapBinding f) (map (boundBy cols) vs)
  all-bound cols [] = refl
  all-bound cols (v ∷ vs) = ap₂ (λ (b : Binding M) (bs : List (Binding M)). b ∷ bs) (bound-by cols v) (all-bound cols vs)

  left-map : (cols : List (Atom N)) (rows : List Row)
      → map (λ r. is_scalar (factors (map (mapAtom f) cols) r)) rows ≡ map (mapCon f) (map (λ r. is_scalar (factors cols r)) rows)
  unfolding mapCon
  left-map cols [] = refl
  left-map cols (r ∷ rows) = ap₂ (λ (p : Product M) (cs : List (Con M)). is_scalar p ∷ cs) (factors-map cols r) (left-map cols rows)

  settled-by : (cols : List (Atom N)) (rows : List Row) (vs : List (Value N))
      → settledBy (map (mapAtom f) cols) rows (map mapValue vs) ≡ mapSettled (settledBy cols rows vs)
  unfolding settledBy
  settled-by cols [] vs = ap settled (all-bound cols vs)
  settled-by cols (r ∷ rows) vs = ap unsettled (left-map cols (r ∷ rows))

  -- ══ What is laid out ══

  pub scalar-map : (c : Con N) → Over mapProduct (scalarOf c) (scalarOf (mapCon f c))
  unfolding scalarOf mapCon
  scalar-map (equal s t) = record { is = refl }
  scalar-map (isDim t) = record { is = refl }
  scalar-map (is_scalar p) = gives refl
  scalar-map (hasField n s t) = record { is = refl }

  atoms-map : (p : Product N) → map atomOf (mapProduct p) ≡ map (mapAtom f) (map atomOf p)
  atoms-map [] = refl
  atoms-map (a ↑ e ∷ p) = rw (atoms-map p)

  is-variable : (a : Atom N) → isVariable (mapAtom f a) ≡ isVariable a
  is-variable (free (var x)) = refl
  is-variable (free (quant i)) = refl
  is-variable (free (par x)) = refl
  is-variable (base n) = refl

atom-back : {N M : Type 0} (f : N → M) (g : M → N) → ((x : N) → g (f x) ≡ x) → (a : Atom N) → mapAtom g (mapAtom f a) ≡ a
atom-back f g h (free o) = ap free (open-back f g h o)
atom-back f g h (base n) = ap base (h n)

module _ {N M : Type 0} (ν : Names N) (μ : Names M) (f : N → M) (keeps : Keeps ν μ f) where
  keeps-atoms : Keeps (atomNames ν) (atomNames μ) (mapAtom f)
  keeps-atoms = record { back = mapAtom keeps.back; returns = atom-back f keeps.back keeps.returns; ordered = order-atom ν μ f keeps }

  columns-map : (ps : List (Product N)) → columns μ (map (mapProduct f) ps) ≡ map (mapAtom f) (columns ν ps)
  unfolding columns
  columns-map ps = rw (collect-over (mapProduct f) (mapAtom f) (λ p. map atomOf p) (λ p. map atomOf p) (atoms-map f) ps)
      (sort-map (atomNames ν) (atomNames μ) (mapAtom f) keeps-atoms (collect (λ p. map atomOf p) ps))

  power-in : (p : Product N) (a : Atom N) → powerIn μ (mapProduct f p) (mapAtom f a) ≡ powerIn ν p a
  unfolding powerIn
  power-in [] a = refl
  power-in (b ↑ e ∷ p) a = go (is_yes ((atomNames ν).same a b)) refl (same_map (atomNames ν) (atomNames μ) (mapAtom f) keeps-atoms a b) (power-in p a)
    where
      go : (b' : Bool) → is_yes ((atomNames ν).same a b) ≡ b' → is_yes ((atomNames μ).same (mapAtom f a) (mapAtom f b)) ≡ is_yes ((atomNames ν).same a b)
          → powerIn μ (mapProduct f p) (mapAtom f a) ≡ powerIn ν p a
          → powerIn μ (mapFactor f (b ↑ e) ∷ mapProduct f p) (mapAtom f a) ≡ powerIn ν (b ↑ e ∷ p) a
      go true i r h = rw (powerIn, r, i)
      go false i r h = rw (powerIn, r, i, h)

  row-map : (p : Product N) (cols : List (Atom N)) → row_of μ (map (mapAtom f) cols) (mapProduct f p) ≡ row_of ν cols p
  unfolding row_of
  row-map p [] = refl
  row-map p (a ∷ cols) = ap₂ (λ (e : Exp) (r : Row). e ∷ r) (power-in p a) (row-map p cols)

  rows-map : (cols : List (Atom N)) (ps : List (Product N)) → map (row_of μ (map (mapAtom f) cols)) (map (mapProduct f) ps) ≡ map (row_of ν cols) ps
  rows-map cols [] = refl
  rows-map cols (p ∷ ps) = ap₂ (λ (r : Row) (rs : List Row). r ∷ rs) (row-map p cols) (rows-map cols ps)

  pub fits-map : (ps : List (Product N)) → fits μ (map (mapProduct f) ps) ≡ fits ν ps
  unfolding fits
  fits-map ps =
      rw (
        columns-map ps,
        length-map ps (mapProduct f),
        keep-map (mapAtom f) isVariable isVariable (is-variable f) (columns ν ps),
        keep-map (mapAtom f) (λ a. not (isVariable a)) (λ a. not (isVariable a)) (λ a. ap not (is-variable f a)) (columns ν ps),
        length-map (keep isVariable (columns ν ps)) (mapAtom f),
        length-map (keep (λ a. not (isVariable a)) (columns ν ps)) (mapAtom f),
      )

  pub eliminated-map : (ps : List (Product N)) → Over (mapSettled f) (eliminated ν ps) (eliminated μ (map (mapProduct f) ps))
  unfolding eliminated
  eliminated-map ps = rw (columns-map ps, length-map ps (mapProduct f), rows-map (columns ν ps) ps)
      (next (eliminate-map f (columns ν ps) (length ps) (map (row_of ν (columns ν ps)) ps) [])
      (λ d d' i. rw i (gives (settled-by f (columns ν ps) d.left d.values))))
