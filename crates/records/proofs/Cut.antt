-- What follows from the definitions of specs/Cut: records as code writes them: a length that doesn't fit the word (over 65,535, which no list that goes out
-- has) is left out.
use Rattle.std.specs.Prelude.{◌≡◌, refl, List, [], ◌∷◌, ◌++◌, map, ℕ, suc, ◌+◌, ◌*◌, ◌≤◌, ◌<◌, length}
use Rattle.std.proofs.Common.{ap, ap₂, ◌∙◌, arith, le-leb}
use Rattle.std.proofs.lemmas.Bool.{lt-leb}
use Rattle.rules.specs.Writing.{Rec, rec, head, writeFactor, writeProduct, writeTy, writeTys, writeFields, writeCon, writeBinding}
use Rattle.rules.specs.Base.{collect, sum_of}
use Rattle.rules.specs.Exponents.{frac}
use Rattle.rules.specs.Trees.{
  var,
  quant,
  par,
  free,
  base,
  boolean,
  string,
  datetime,
  ◌↑◌,
  Product,
  Ty,
  opened,
  basic,
  dim,
  fn,
  struct,
  list,
  Tys,
  nil,
  cons,
  Fields,
  noFields,
  field,
  Con,
  equal,
  isDim,
  is_scalar,
  hasField,
  Binding,
  ◌≔◌,
  size,
  sizeTys,
  sizeFields,
  sizeCon,
  sizeBinding,
}
use Rattle.laws.specs.Heads.{kind-head, length-head}
use Rattle.records.specs.Cut.{fit, cutRec, cut}

pub fits : (n : ℕ) → n ≤ 65_535 → fit n ≡ n
unfolding fit
fits n h = rw (le-leb n 65_535 h)

pub unfits : (n : ℕ) → 65_535 < n → fit n ≡ 0
unfolding fit
unfits n h = rw (lt-leb n 65_535 h)

-- word 0 as it is computed
pub head-fits : (k n : ℕ) → n ≤ 65_535 → k + 65_536 * n ≡ head k (fit n)
unfolding head
head-fits k n h = rw (fits n h)

pub head-unfits : (k n : ℕ) → 65_535 < n → k ≡ head k (fit n)
unfolding head
head-unfits k n h = rw (unfits n h) (omega arith)

pub cut-append : (a b : List Rec) → cut (a ++ b) ≡ cut a ++ cut b
cut-append [] b = refl
cut-append (r ∷ a) b = ap (cutRec r ∷◌) (cut-append a b)

pub cut-length : (rs : List Rec) → length (cut rs) ≡ length rs
cut-length [] = refl
cut-length (r ∷ rs) = ap suc (cut-length rs)

-- a head of a known kind
pub cut-head : (k n a b c : ℕ) → k < 65_536 → cutRec (rec (head k n) a b c) ≡ rec (head k (fit n)) a b c
cut-head k n a b c h = rw (kind-head k n h, length-head k n h)

short-head : (k n a b c : ℕ) → k < 65_536 → n ≤ 65_535 → cutRec (rec (head k n) a b c) ≡ rec (head k n) a b c
short-head k n a b c h l = cut-head k n a b c h ∙ ap (λ (m : ℕ). rec (head k m) a b c) (fits n l)

-- ══ Parts that are short enough are written as they are ══

short-factors : (p : Product ℕ) → cut (map writeFactor p) ≡ map writeFactor p
unfolding writeFactor
short-factors [] = refl
short-factors (free (var x) ↑ frac n d ∷ p) = ap₂ ◌∷◌ (short-head 11 1 x _ d (omega arith) (omega arith)) (short-factors p)
short-factors (free (quant i) ↑ frac n d ∷ p) = ap₂ ◌∷◌ (short-head 15 1 i _ d (omega arith) (omega arith)) (short-factors p)
short-factors (free (par x) ↑ frac n d ∷ p) = ap₂ ◌∷◌ (short-head 12 1 x _ d (omega arith) (omega arith)) (short-factors p)
short-factors (base x ↑ frac n d ∷ p) = ap₂ ◌∷◌ (short-head 13 1 x _ d (omega arith) (omega arith)) (short-factors p)

pub short-product : (p : Product ℕ) → length p ≤ 65_534 → cut (writeProduct p) ≡ writeProduct p
unfolding writeProduct
short-product p h = ap₂ ◌∷◌ (short-head 3 (suc (length p)) (length p) 0 0 (omega arith) (omega arith)) (short-factors p)

joined : (a b : List Rec) → cut a ≡ a → cut b ≡ b → cut (a ++ b) ≡ a ++ b
joined a b p q = cut-append a b ∙ ap₂ ◌++◌ p q

mutual
  unfolding size writeTy

  pub short-ty : (t : Ty ℕ) → size t ≤ 65_535 → cut (writeTy t) ≡ writeTy t
  short-ty (opened (var x)) h = ap (◌∷ []) (short-head 1 1 x 0 0 (omega arith) (omega arith))
  short-ty (opened (quant i)) h = ap (◌∷ []) (short-head 14 1 i 0 0 (omega arith) (omega arith))
  short-ty (opened (par x)) h = ap (◌∷ []) (short-head 2 1 x 0 0 (omega arith) (omega arith))
  short-ty (basic boolean) h = ap (◌∷ []) (short-head 4 1 0 0 0 (omega arith) (omega arith))
  short-ty (basic string) h = ap (◌∷ []) (short-head 5 1 0 0 0 (omega arith) (omega arith))
  short-ty (basic datetime) h = ap (◌∷ []) (short-head 6 1 0 0 0 (omega arith) (omega arith))
  short-ty (dim p) h = short-product p (omega arith)
  short-ty (fn ps r) h =
      ap₂ ◌∷◌ (short-head 7 (size (fn ps r)) _ 0 0 (omega arith) h) (joined (writeTys ps) (writeTy r) (short-tys ps (omega arith)) (short-ty r (omega arith)))
  short-ty (struct n as' fs) h =
      ap₂ ◌∷◌ (short-head 8 (size (struct n as' fs)) n _ _ (omega arith) h)
      (joined (writeTys as') (writeFields fs) (short-tys as' (omega arith)) (short-fields fs (omega arith)))
  short-ty (list t) h = ap₂ ◌∷◌ (short-head 10 (size (list t)) 0 0 0 (omega arith) h) (short-ty t (omega arith))

  pub short-tys : (ts : Tys ℕ) → sizeTys ts ≤ 65_535 → cut (writeTys ts) ≡ writeTys ts
  short-tys nil h = refl
  short-tys (cons t ts) h = joined (writeTy t) (writeTys ts) (short-ty t (omega arith)) (short-tys ts (omega arith))

  pub short-fields : (fs : Fields ℕ) → sizeFields fs ≤ 65_535 → cut (writeFields fs) ≡ writeFields fs
  short-fields noFields h = refl
  short-fields (field n t fs) h =
      ap₂ ◌∷◌ (short-head 9 (suc (size t)) n 0 0 (omega arith) (omega arith))
      (joined (writeTy t) (writeFields fs) (short-ty t (omega arith)) (short-fields fs (omega arith)))

pub short-con : (c : Con ℕ) → sizeCon c ≤ 65_535 → cut (writeCon c) ≡ writeCon c
unfolding sizeCon size writeCon
short-con (equal l r) h = ap₂ ◌∷◌ (short-head 20 (sizeCon (equal l r)) 0 0 0 (omega arith) h)
    (joined (writeTy l) (writeTy r) (short-ty l (omega arith)) (short-ty r (omega arith)))
short-con (isDim t) h = ap₂ ◌∷◌ (short-head 21 (sizeCon (isDim t)) 0 0 0 (omega arith) h) (short-ty t (omega arith))
short-con (is_scalar p) h = ap₂ ◌∷◌ (short-head 22 (sizeCon (is_scalar p)) 0 0 0 (omega arith) h) (short-product p (omega arith))
short-con (hasField n l r) h = ap₂ ◌∷◌ (short-head 23 (sizeCon (hasField n l r)) n 0 0 (omega arith) h)
    (joined (writeTy l) (writeTy r) (short-ty l (omega arith)) (short-ty r (omega arith)))

pub short-binding : (b : Binding ℕ) → sizeBinding b ≤ 65_535 → cut (writeBinding b) ≡ writeBinding b
unfolding sizeBinding writeBinding
short-binding (x ≔ t) h = ap₂ ◌∷◌ (short-head 24 (sizeBinding (x ≔ t)) x 0 0 (omega arith) h) (short-ty t (omega arith))

-- parts one after another
pub short-all : {A : Type 0} (long : A → ℕ) (w : A → List Rec) → ((a : A) → long a ≤ 65_535 → cut (w a) ≡ w a) → (as' : List A)
    → sum_of long as' ≤ 65_535 → cut (collect w as') ≡ collect w as'
unfolding collect
short-all long w one [] h = refl
short-all long w one (a ∷ as') h = joined (w a) (collect w as') (one a (omega arith)) (short-all long w one as' (omega arith))
