-- Replacing a variable by a type that doesn't hold it takes it out everywhere, and brings in no other names than the type's.
use Rattle.std.proofs.Math.Path.{◌≡◌, refl}
use Rattle.std.proofs.Common.{sym, ap, subst, arith}
use Rattle.std.specs.Prelude.{Bool, true, false}
use mathlib.Core.List.{[], ◌∷◌, ◌++◌, append_assoc}
use Rattle.std.proofs.Math.Option.{Option, none as nothing, some}
use Rattle.rules.specs.Base.{got, Limits, is_yes, only_if}
use Rattle.rules.specs.Exponents.{Exp, Exp-dec, one}
use Rattle.rules.specs.Trees.{
  Open,
  var,
  quant,
  par,
  Atom,
  free,
  base,
  ◌↑◌,
  Product,
  Names,
  Ty,
  opened,
  basic,
  dim,
  fn,
  struct,
  list,
  Tys,
  nil,
  cons,
  Fields,
  noFields,
  field,
  ◌≔◌,
  orderAtom,
}
use Rattle.rules.specs.Products.{single}
use Rattle.rules.specs.Replacing.{asProduct, replaceFactors, replaceProduct, replaceDim, replaceTy, replaceTys, replaceFields, find, bindings}
use Rattle.laws.proofs.Lists.{some≢none, every_append}
use Rattle.laws.specs.Order.{Lawful}
use Rattle.laws.specs.Sorted.{Before, Sorted}
use Rattle.theorems_ending.proofs.Yields.{Yields, yields, refuses, next}
use Rattle.theorems_ending.proofs.Products.{Atoms, Neat, multiply-neat, raise-neat, divide-away}
use Rattle.theorems_ending.proofs.Fine.{Named, Fine, FineTys, FineFields, just-neat, Apart, behind, apart-atoms}

-- the open name of a product that is one variable to the power 1 is its only atom
single-atoms : {N : Type 0} (P Q : Open N → Type 0) (p : Product N) (o : Open N) → single p ≡ some o → (P o → Q o) → Atoms (Named P) p → Atoms (Named Q) p
unfolding single
single-atoms P Q [] o e h a = tt
single-atoms P Q (a ↑ e ∷ f ∷ p) o e' h a' = absurd (some≢none (sym e'))
single-atoms P Q (free (var x) ↑ e ∷ []) o e' h a = (go (is_yes (Exp-dec e one)) e', tt)
  where
    go : (b : Bool) → only_if b (var x) ≡ some o → Q (var x)
    go true q = let z : var x ≡ o = cc in subst Q (sym z) (h (subst P z a.0))
    go false q = absurd (some≢none (sym q))
single-atoms P Q (free (quant x) ↑ e ∷ []) o e' h a = (go (is_yes (Exp-dec e one)) e', tt)
  where
    go : (b : Bool) → only_if b (quant x) ≡ some o → Q (quant x)
    go true q = let z : quant x ≡ o = cc in subst Q (sym z) (h (subst P z a.0))
    go false q = absurd (some≢none (sym q))
single-atoms P Q (free (par x) ↑ e ∷ []) o e' h a = absurd (some≢none (sym e'))
single-atoms P Q (base n ↑ e ∷ []) o e' h a = absurd (some≢none (sym e'))

-- x is replaced by t: names of which P held are names of which Q holds, all but x
module _ {N : Type 0} (ν : Names N) (law : Lawful (orderAtom ν)) (l : Limits) (P Q : Open N → Type 0) (x : N) (t : Ty N)
    (other : (o : Open N) → P o → (var x ≡ o → ⊥) → Q o) (fine : Fine ν Q t) where
  abbrev look : Open N → Option (Ty N)
  look = bindings ν (x ≔ t ∷ [])

  -- ══ What is looked up, in products ══

  data Looked (o : Open N) : Type 0 where
    hit : look o ≡ some t → var x ≡ o → Looked o
    miss : look o ≡ nothing → (var x ≡ o → ⊥) → Looked o

  looked : (o : Open N) → Looked o
  unfolding bindings find
  looked (var y) = go (ν.same y x) refl
    where
      go : (d : Dec (y ≡ x)) → ν.same y x ≡ d → Looked (var y)
      go (yes e) q = hit (rw (q, bindings, find)) (ap var (sym e))
      go (no f) q = miss (rw (q, bindings, find)) (λ e. f (cc))
  looked (quant i) = miss refl (λ e. cc)
  looked (par y) = miss refl (λ e. cc)

  idle : (p acc : Product N) → Atoms (Apart x) p → replaceFactors ν l look p acc ≡ got acc
  unfolding replaceFactors
  idle [] acc b = refl
  idle (base n ↑ e ∷ p) acc b = idle p acc b.1
  idle (free o ↑ e ∷ p) acc b = go (looked o) (idle p acc b.1)
    where
      go : Looked o → replaceFactors ν l look p acc ≡ got acc → replaceFactors ν l look (free o ↑ e ∷ p) acc ≡ got acc
      go (hit q z) r = absurd (b.0 (ap free z))
      go (miss q f) r = rw (q, replaceFactors) r

  product-neat : Yields (asProduct t) (Neat ν (Named Q))
  unfolding asProduct Fine
  product-neat = go t fine
    where
      go : (u : Ty N) → Fine ν Q u → Yields (asProduct u) (Neat ν (Named Q))
      go (opened (var y)) f = yields (just-neat (var y) f)
      go (opened (quant i)) f = yields (just-neat (quant i) f)
      go (opened (par y)) f = refuses (omega arith)
      go (basic b) f = refuses (omega arith)
      go (dim p) f = yields f
      go (fn ps r) f = refuses (omega arith)
      go (struct n as' fs) f = refuses (omega arith)
      go (list u) f = refuses (omega arith)

  -- ══ Products, factor by factor ══

  sorted-less : (pre post : Product N) (a : Atom N) (e : Exp) → Sorted ν (pre ++ (a ↑ e ∷ post)) → Sorted ν (pre ++ post)
  sorted-less [] post a e h = h.1
  sorted-less (b ↑ d ∷ pre) post a e h = (before-less pre h.0, sorted-less pre post a e h.1)
    where
      before-less : (pre : Product N) → Before ν b (pre ++ (a ↑ e ∷ post)) → Before ν b (pre ++ post)
      before-less [] k = k.1
      before-less (c ↑ d ∷ pre) k = (k.0, before-less pre k.1)

  sorted-end : (pre post : Product N) (a : Atom N) (e : Exp) → Sorted ν (pre ++ (a ↑ e ∷ post)) → Before ν a post
  sorted-end [] post a e h = h.0
  sorted-end (b ↑ d ∷ pre) post a e h = sorted-end pre post a e h.1

  -- `pre` has been looked through, `p` is still to come
  factors-neat : (pre p : Product N) → Sorted ν (pre ++ p) → Atoms (Named Q) pre → Atoms (Named P) p
      → Yields (replaceFactors ν l look p (pre ++ p)) (Neat ν (Named Q))
  unfolding replaceFactors
  factors-neat pre [] h a b = yields (record { sorted = h; atoms = every_append _ pre [] a tt })
  factors-neat pre (base n ↑ e ∷ p) h a b =
      rw append_assoc at (factors-neat (pre ++ (base n ↑ e ∷ [])) p (rw append_assoc h) (every_append _ pre (base n ↑ e ∷ []) a (tt, tt)) b.1)
  factors-neat pre (free o ↑ e ∷ p) h a b =
      go (looked o) (λ j. rw append_assoc at
      (factors-neat (pre ++ (free o ↑ e ∷ [])) p (rw append_assoc h) (every_append _ pre (free o ↑ e ∷ []) a (j, tt)) b.1))
    where
      go : Looked o → (Q o → Yields (replaceFactors ν l look p (pre ++ (free o ↑ e ∷ p))) (Neat ν (Named Q)))
          → Yields (replaceFactors ν l look (free o ↑ e ∷ p) (pre ++ (free o ↑ e ∷ p))) (Neat ν (Named Q))
      go (miss q f) r = rw (q, replaceFactors) (r (other o b.0 f))
      go (hit q z) r =
          let w : Atoms (Apart x) p = behind ν law x p (rw (ap free z) (sorted-end pre p (free o) e h)) in
          rw (q, replaceFactors)
          (next product-neat (λ d m.
          next (divide-away ν law l pre p (free o) e h) (λ left k.
          next (raise-neat ν law l e m) (λ more n.
          next (multiply-neat ν law l {p = left}
          (rw k (record { sorted = sorted-less pre p (free o) e h; atoms = every_append _ pre p a (apart-atoms x other p b.1 w) })) n) (λ acc s.
          rw (idle p acc w) (yields s))))))

  -- an equal-scalar's product is replaced as a product
  pub product-replaced : (p : Product N) → Neat ν (Named P) p → Yields (replaceProduct ν l look p) (Neat ν (Named Q))
  unfolding replaceProduct
  product-replaced p n = factors-neat [] p n.sorted tt n.atoms

  -- ══ Types ══

  dim-replaced : (p : Product N) (s : Option (Open N)) → single p ≡ s → Neat ν (Named P) p → Yields (replaceDim ν l look s p) (Fine ν Q)
  unfolding replaceDim Fine
  dim-replaced p nothing e n = next (product-replaced p n) (λ q m. yields m)
  dim-replaced p (some o) e n = go (looked o)
    where
      go : Looked o → Yields (replaceDim ν l look (some o) p) (Fine ν Q)
      go (hit q z) = rw q (yields fine)
      go (miss q f) = rw q (yields (record { sorted = n.sorted; atoms = single-atoms P Q p o e (λ h. other o h f) n.atoms }))

  mutual
    unfolding replaceTy Fine

    pub ty-replaced : (u : Ty N) → Fine ν P u → Yields (replaceTy ν l look u) (Fine ν Q)
    ty-replaced (opened o) h = go (looked o)
      where
        go : Looked o → Yields (replaceTy ν l look (opened o)) (Fine ν Q)
        go (hit q z) = rw q (yields fine)
        go (miss q f) = rw q (yields (other o h f))
    ty-replaced (basic b) h = yields tt
    ty-replaced (dim p) h = dim-replaced p (single p) refl h
    ty-replaced (fn ps r) h = next (tys-replaced ps h.0) (λ ps' i. next (ty-replaced r h.1) (λ r' j. yields (i, j)))
    ty-replaced (struct n as' fs) h = next (tys-replaced as' h.0) (λ as'' i. next (fields-replaced fs h.1) (λ fs' j. yields (i, j)))
    ty-replaced (list u) h = next (ty-replaced u h) (λ u' i. yields i)

    tys-replaced : (us : Tys N) → FineTys ν P us → Yields (replaceTys ν l look us) (FineTys ν Q)
    tys-replaced nil h = yields tt
    tys-replaced (cons u us) h = next (ty-replaced u h.0) (λ u' i. next (tys-replaced us h.1) (λ us' j. yields (i, j)))

    fields-replaced : (fs : Fields N) → FineFields ν P fs → Yields (replaceFields ν l look fs) (FineFields ν Q)
    fields-replaced noFields h = yields tt
    fields-replaced (field n u fs) h = next (ty-replaced u h.0) (λ u' i. next (fields-replaced fs h.1) (λ fs' j. yields (i, j)))
