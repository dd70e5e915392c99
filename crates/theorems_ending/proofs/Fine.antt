-- Types whose products are in order and of whose open names P holds.
use Rattle.std.specs.Prelude.{◌≡◌, Bool, true, false, ◌&&◌, ℕ}
use Rattle.std.proofs.Common.{sym, ap, ◌∙◌}
use mathlib.Core.List.{[], ◌∷◌, map}
use Prim.Native.Nat.{Ordering}
use Rattle.rules.specs.Base.{all, collect}
use Rattle.rules.specs.Exponents.{goodStored}
use Rattle.rules.specs.Trees.{
  Open,
  var,
  Atom,
  free,
  base,
  ◌↑◌,
  Product,
  Names,
  Ty,
  opened,
  basic,
  dim,
  fn,
  struct,
  list,
  Tys,
  nil,
  cons,
  Fields,
  noFields,
  field,
  orderAtom,
  opens,
  opensTys,
  opensFields,
  openOfFactor,
}
use Rattle.rules.specs.Products.{just}
use Rattle.rules.specs.Contents.{contains}
use Rattle.rules.specs.WellFormed.{rising, atomOf, goodOpen, goodFactor, goodProduct, goodTy, goodTys, goodFields}
use Rattle.laws.specs.Lists.{and_left, and_right, Every, all-every}
use Rattle.laws.proofs.Lists.{every-left, every-right, every-as}
use Rattle.laws.specs.Order.{Lawful}
use Rattle.laws.proofs.Order.{self}
use Rattle.laws.proofs.RuleCases.{not-contained}
use Rattle.laws.specs.Sorted.{Before}
use Rattle.laws.proofs.Sorted.{sorted}
use Rattle.theorems_ending.proofs.Products.{Atoms, Neat}

module _ {N : Type 0} where
  -- ══ Types whose open names have a property ══

  -- P of the open name that stands in an atom, if one does
  abbrev pub Named : (Open N → Type 0) → Atom N → Type 0
  Named P (free o) = P o
  Named P (base n) = Unit {0}

module _ {N : Type 0} (ν : Names N) (P : Open N → Type 0) where
  unfoldable mutual
    pub Fine : Ty N → Type 0
    Fine (opened o) = P o
    Fine (basic b) = Unit {0}
    Fine (dim p) = Neat ν (Named P) p
    Fine (fn ps r) = FineTys ps × Fine r
    Fine (struct n as' fs) = FineTys as' × FineFields fs
    Fine (list t) = Fine t

    pub FineTys : Tys N → Type 0
    FineTys nil = Unit {0}
    FineTys (cons t ts) = Fine t × FineTys ts

    pub FineFields : Fields N → Type 0
    FineFields noFields = Unit {0}
    FineFields (field n t fs) = Fine t × FineFields fs

-- an open name to the power 1
pub just-neat : {N : Type 0} {ν : Names N} {P : Open N → Type 0} (o : Open N) → P o → Neat ν (Named P) (just o)
just-neat o h = record { sorted = (tt, tt); atoms = (h, tt) }

-- ══ From one property to another ══

-- from P and Q to R
module _ {N : Type 0} (ν : Names N) {P Q R : Open N → Type 0} (h : (o : Open N) → P o → Q o → R o) where
  pub change-atoms : (p : Product N) → Atoms (Named P) p → Every Q (collect openOfFactor p) → Atoms (Named R) p
  unfolding collect
  change-atoms [] f a = tt
  change-atoms (free o ↑ e ∷ p) f a = (h o f.0 a.0, change-atoms p f.1 a.1)
  change-atoms (base n ↑ e ∷ p) f a = (tt, change-atoms p f.1 a)

  mutual
    unfolding Fine opens

    pub change : (t : Ty N) → Fine ν P t → Every Q (opens t) → Fine ν R t
    change (opened o) f a = h o f a.0
    change (basic b) f a = tt
    change (dim p) f a = record { sorted = f.sorted; atoms = change-atoms p f.atoms a }
    change (fn ps r) f a = (changeTys ps f.0 (every-left Q (opensTys ps) (opens r) a), change r f.1 (every-right Q (opensTys ps) (opens r) a))
    change (struct n as' fs) f a = (
      changeTys as' f.0 (every-left Q (opensTys as') (opensFields fs) a),
      changeFields fs f.1 (every-right Q (opensTys as') (opensFields fs) a),
    )
    change (list t) f a = change t f a

    changeTys : (ts : Tys N) → FineTys ν P ts → Every Q (opensTys ts) → FineTys ν R ts
    changeTys nil f a = tt
    changeTys (cons t ts) f a = (change t f.0 (every-left Q (opens t) (opensTys ts) a), changeTys ts f.1 (every-right Q (opens t) (opensTys ts) a))

    changeFields : (fs : Fields N) → FineFields ν P fs → Every Q (opensFields fs) → FineFields ν R fs
    changeFields noFields f a = tt
    changeFields (field n t fs) f a = (
      change t f.0 (every-left Q (opens t) (opensFields fs) a),
      changeFields fs f.1 (every-right Q (opens t) (opensFields fs) a),
    )

-- any open name
abbrev pub Any : {N : Type 0} → Open N → Type 0
Any o = Unit {0}

-- a name that isn't contained is none of the open names
pub apart : {N : Type 0} (ν : Names N) (x : N) (t : Ty N) → contains ν x t ≡ false → Every (λ o. var x ≡ o → ⊥) (opens t)
apart ν x t h = all-every (λ o. var x ≡ o → ⊥) (opens t) (λ o m e. not-contained ν x t h (rw e m))

-- an atom other than the variable x
abbrev pub Apart : {N : Type 0} → N → Atom N → Type 0
Apart x a = free (var x) ≡ a → ⊥

-- a variable stands before none of its own kind
pub behind : {N : Type 0} (ν : Names N) (law : Lawful (orderAtom ν)) (x : N) (p : Product N) → Before ν (free (var x)) p → Atoms (Apart x) p
behind ν law x p h = every-as (λ f i z. itself (ap (orderAtom ν (free (var x))) z ∙ i)) p h
  where
    itself : orderAtom ν (free (var x)) (free (var x)) ≡ Ordering.lt → ⊥
    itself h = let w : Ordering.eq ≡ Ordering.lt = sym (self law (free (var x))) ∙ h in cc

pub apart-atoms : {N : Type 0} {P Q : Open N → Type 0} (x : N) → ((o : Open N) → P o → (var x ≡ o → ⊥) → Q o) → (p : Product N) → Atoms (Named P) p
    → Atoms (Apart x) p → Atoms (Named Q) p
apart-atoms x h [] a b = tt
apart-atoms x h (free o ↑ e ∷ p) a b = (h o a.0 (λ z. b.0 (ap free z)), apart-atoms x h p a.1 b.1)
apart-atoms x h (base n ↑ e ∷ p) a b = (tt, apart-atoms x h p a.1 b.1)

-- ══ Well formed types ══

module _ {N : Type 0} (ν : Names N) (law : Lawful (orderAtom ν)) (held : N → Bool) (q : ℕ) where
  -- an open name that may stand in a well formed type
  abbrev pub Good : Open N → Type 0
  Good o = goodOpen ν held q o ≡ true

  good-atoms : (p : Product N) → all (goodFactor ν held q) p ≡ true → Atoms (Named Good) p
  unfolding all goodFactor
  good-atoms [] t = tt
  good-atoms (free o ↑ e ∷ p) t = (
    and_left (goodOpen ν held q o) _ (and_left (goodOpen ν held q o && goodStored e) _ t),
    good-atoms p (and_right (goodOpen ν held q o && goodStored e) _ t),
  )
  good-atoms (base n ↑ e ∷ p) t = (tt, good-atoms p (and_right (held n && goodStored e) _ t))

  pub good-product : (p : Product N) → goodProduct ν held q p ≡ true → Neat ν (Named Good) p
  unfolding goodProduct
  good-product p t =
      let a = all (goodFactor ν held q) p in
      let r = rising (orderAtom ν) (map atomOf p) in
      record {
        sorted = sorted ν law p (and_right a r (and_left (a && r) _ t));
        atoms = good-atoms p (and_left a r (and_left (a && r) _ t));
      }

  mutual
    unfolding Fine goodTy

    pub good-ty : (t : Ty N) → goodTy ν held q t ≡ true → Fine ν Good t
    good-ty (opened o) t = t
    good-ty (basic b) t = tt
    good-ty (dim p) t = good-product p t
    good-ty (fn ps r) t = (good-tys ps (and_left (goodTys ν held q ps) _ t), good-ty r (and_right (goodTys ν held q ps) _ t))
    good-ty (struct n as' fs) t =
        let a = held n && goodTys ν held q as' in
        let b = a && goodFields ν held q fs in
        (good-tys as' (and_right (held n) _ (and_left a _ (and_left b _ t))), good-fields fs (and_right a _ (and_left b _ t)))
    good-ty (list t) g = good-ty t g

    good-tys : (ts : Tys N) → goodTys ν held q ts ≡ true → FineTys ν Good ts
    good-tys nil t = tt
    good-tys (cons u ts) t = (good-ty u (and_left (goodTy ν held q u) _ t), good-tys ts (and_right (goodTy ν held q u) _ t))

    good-fields : (fs : Fields N) → goodFields ν held q fs ≡ true → FineFields ν Good fs
    good-fields noFields t = tt
    good-fields (field n u fs) t =
        let a = held n && goodTy ν held q u in
        (good-ty u (and_right (held n) _ (and_left a _ t)), good-fields fs (and_right a _ t))
