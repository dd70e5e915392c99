-- What follows from the definitions of specs/Reading: reading what was written gives it back.
use Rattle.std.specs.Prelude.{◌≡◌, refl, ℕ, zero, suc, ◌≤◌, ◌-◌, Bool, true, not, ◌&&◌, leb, ℤ, pos, negsuc, nat_abs, length}
use Rattle.std.proofs.Common.{ap, arith, lt-ltb, le-ltb, leb-true}
use Rattle.std.proofs.Math.Option.{some}
use mathlib.Core.List.{List, [], ◌∷◌, ◌++◌, map, append_assoc}
use Rattle.std.proofs.lemmas.List.{length-map}
use Rattle.rules.specs.Base.{all}
use Rattle.rules.specs.Exponents.{frac, top, in_range, goodExp, isZero, goodStored}
use Rattle.rules.specs.Trees.{
  var,
  quant,
  par,
  free,
  base,
  Factor,
  ◌↑◌,
  Product,
  Names,
  Ty,
  opened,
  basic,
  dim,
  fn,
  struct,
  list,
  Tys,
  nil,
  cons,
  Fields,
  noFields,
  field,
  boolean,
  string,
  datetime,
  size,
  depth,
  depthTys,
  depthFields,
  count,
  countFields,
  orderAtom,
}
use Rattle.rules.specs.Writing.{Rec, rec, head, twos, by_sign, signed, writeFactor, writeProduct, writeTy, writeTys, writeFields}
use Rattle.rules.specs.Reading.{factorKinds, next, readFactors, readTys, fieldKinds, readFields, typeKinds, readTy}
use Rattle.rules.specs.WellFormed.{atomOf, rising, goodOpen, goodFactor, goodProduct, goodTy, goodTys, goodFields}
use Rattle.laws.specs.Lists.{and_left, and_right}
use Rattle.laws.specs.Heads.{next-back}
use Rattle.laws.proofs.Heads.{head-length}
use Rattle.laws.proofs.Size.{size-ty}
use Rattle.laws.specs.Reading.{FitsProduct, Fits, FitsTys, FitsFields}

pub sign : (n : ℤ) → nat_abs n ≤ top → signed (twos n) ≡ n
unfolding signed by_sign twos
sign (pos n) h = rw (lt-ltb n 2147483648 (omega arith))
sign (negsuc n) h = rw (le-ltb (4294967295 - n) 2147483648 (omega arith)) (ap negsuc (omega arith))

-- a factor alone; its numerator comes back
factor-back : (f : Factor ℕ) (rest : List Rec) → FitsProduct (f ∷ []) → next factorKinds (writeFactor f ∷ rest) ≡ some (f, rest)
unfolding writeFactor
factor-back (free (var x) ↑ frac n d) rest h = next-back factorKinds 11 1 x (twos n) d rest rest _ (omega arith) (rw (sign n h.0)) (omega arith)
factor-back (free (quant x) ↑ frac n d) rest h = next-back factorKinds 15 1 x (twos n) d rest rest _ (omega arith) (rw (sign n h.0)) (omega arith)
factor-back (free (par x) ↑ frac n d) rest h = next-back factorKinds 12 1 x (twos n) d rest rest _ (omega arith) (rw (sign n h.0)) (omega arith)
factor-back (base x ↑ frac n d) rest h = next-back factorKinds 13 1 x (twos n) d rest rest _ (omega arith) (rw (sign n h.0)) (omega arith)

pub read-factors : (p : Product ℕ) (rest : List Rec) → FitsProduct p → readFactors (length p) (map writeFactor p ++ rest) ≡ some (p, rest)
unfolding readFactors
read-factors [] rest h = refl
read-factors (a ↑ frac n d ∷ p) rest h = rw (factor-back (a ↑ frac n d) (map writeFactor p ++ rest) (h.0, tt), read-factors p rest h.1)

pub deep : (t : Ty ℕ) → 1 ≤ depth t
unfolding depth
deep (opened o) = omega arith
deep (basic b) = omega arith
deep (dim p) = omega arith
deep (fn ps r) = omega arith
deep (struct n as' fs) = omega arith
deep (list t) = omega arith

pub lift : (t : Ty ℕ) (d : ℕ) (rest : List Rec) → depth t ≤ d → ((e : ℕ) → depth t ≤ suc e → readTy (suc e) (writeTy t ++ rest) ≡ some (t, rest))
    → readTy d (writeTy t ++ rest) ≡ some (t, rest)
lift t zero rest h k = absurd (omega (arith, deep t))
lift t (suc e) rest h k = k e h

mutual
  unfolding readTy readTys readFields writeTy writeProduct count countFields all depth

  pub read-ty : (t : Ty ℕ) (d : ℕ) (rest : List Rec) → Fits t → depth t ≤ suc d → readTy (suc d) (writeTy t ++ rest) ≡ some (t, rest)
  read-ty (opened (var x)) d rest f h = next-back (typeKinds (readTy d)) 1 1 x 0 0 rest rest _ (omega arith) refl (omega arith)
  read-ty (opened (quant x)) d rest f h = next-back (typeKinds (readTy d)) 14 1 x 0 0 rest rest _ (omega arith) refl (omega arith)
  read-ty (opened (par x)) d rest f h = next-back (typeKinds (readTy d)) 2 1 x 0 0 rest rest _ (omega arith) refl (omega arith)
  read-ty (basic boolean) d rest f h = next-back (typeKinds (readTy d)) 4 1 0 0 0 rest rest _ (omega arith) refl (omega arith)
  read-ty (basic string) d rest f h = next-back (typeKinds (readTy d)) 5 1 0 0 0 rest rest _ (omega arith) refl (omega arith)
  read-ty (basic datetime) d rest f h = next-back (typeKinds (readTy d)) 6 1 0 0 0 rest rest _ (omega arith) refl (omega arith)
  read-ty (dim p) d rest f h =
      next-back (typeKinds (readTy d)) 3 (suc (length p)) (length p) 0 0 (map writeFactor p ++ rest) rest _ (omega arith) (rw (read-factors p rest f))
      (head-length (map writeFactor p) rest (suc (length p)) (ap suc (length-map p writeFactor)))
  read-ty (fn ps r) d rest f h =
      next-back (typeKinds (readTy d)) 7 (size (fn ps r)) (count ps) 0 0 ((writeTys ps ++ writeTy r) ++ rest) rest _ (omega arith)
      (rw (
        append_assoc (writeTys ps) (writeTy r) rest,
        read-tys ps d (writeTy r ++ rest) f.0 (omega arith),
        lift r d rest (omega arith) (λ e k. read-ty r e rest f.1 k),
      ))
      (head-length (writeTys ps ++ writeTy r) rest (size (fn ps r)) (size-ty (fn ps r)))
  read-ty (struct n as' fs) d rest f h =
      next-back (typeKinds (readTy d)) 8 (size (struct n as' fs)) n (count as') (countFields fs) ((writeTys as' ++ writeFields fs) ++ rest) rest _ (omega arith)
      (rw (
        append_assoc (writeTys as') (writeFields fs) rest,
        read-tys as' d (writeFields fs ++ rest) f.0 (omega arith),
        read-fields fs d rest f.1 (omega arith),
      ))
      (head-length (writeTys as' ++ writeFields fs) rest (size (struct n as' fs)) (size-ty (struct n as' fs)))
  read-ty (list t) d rest f h =
      next-back (typeKinds (readTy d)) 10 (size (list t)) 0 0 0 (writeTy t ++ rest) rest _ (omega arith)
      (rw (lift t d rest (omega arith) (λ e k. read-ty t e rest f k))) (head-length (writeTy t) rest (size (list t)) (size-ty (list t)))

  pub read-tys : (ts : Tys ℕ) (d : ℕ) (rest : List Rec) → FitsTys ts → depthTys ts ≤ d → readTys (readTy d) (count ts) (writeTys ts ++ rest) ≡ some (ts, rest)
  read-tys nil d rest f h = refl
  read-tys (cons t ts) d rest f h =
      rw (
        append_assoc (writeTy t) (writeTys ts) rest,
        lift t d (writeTys ts ++ rest) (omega arith) (λ e k. read-ty t e (writeTys ts ++ rest) f.0 k),
        read-tys ts d rest f.1 (omega arith),
      )

  pub read-fields : (fs : Fields ℕ) (d : ℕ) (rest : List Rec) → FitsFields fs → depthFields fs ≤ d
      → readFields (readTy d) (countFields fs) (writeFields fs ++ rest) ≡ some (fs, rest)
  read-fields noFields d rest f h = refl
  read-fields (field n t fs) d rest f h =
      let one : next (fieldKinds (readTy d)) (rec (head 9 (suc (size t))) n 0 0 ∷ (writeTy t ++ (writeFields fs ++ rest)))
      ≡ some ((n, t), writeFields fs ++ rest) =
      next-back (fieldKinds (readTy d)) 9 (suc (size t)) n 0 0 (writeTy t ++ (writeFields fs ++ rest)) (writeFields fs ++ rest) _ (omega arith)
      (rw (lift t d (writeFields fs ++ rest) (omega arith) (λ e k. read-ty t e (writeFields fs ++ rest) f.0 k)))
      (head-length (writeTy t) (writeFields fs ++ rest) (suc (size t)) (ap suc (size-ty t))) in
      rw (append_assoc (writeTy t) (writeFields fs) rest, one, read-fields fs d rest f.1 (omega arith))

-- ══ Well formed types can be written ══

stored-fits : (n : ℤ) (d : ℕ) → goodStored (frac n d) ≡ true → nat_abs n ≤ top
unfolding goodStored goodExp in_range
stored-fits n d h =
    let g = and_right (not (isZero (frac n d))) _ h in
    let r = and_left (in_range (frac n d)) _ g in
    leb-true (nat_abs n) top (and_left (leb (nat_abs n) top) _ (and_left (leb (nat_abs n) top && leb 1 d) _ r))

module _ (ν : Names ℕ) (held : ℕ → Bool) (q : ℕ) where
  factors-fit : (p : Product ℕ) → all (goodFactor ν held q) p ≡ true → FitsProduct p
  unfolding all goodFactor
  factors-fit [] h = tt
  factors-fit (free o ↑ frac n d ∷ p) h = (
    stored-fits n d (and_right (goodOpen ν held q o) _ (and_left (goodFactor ν held q (free o ↑ frac n d)) _ h)),
    factors-fit p (and_right (goodFactor ν held q (free o ↑ frac n d)) _ h),
  )
  factors-fit (base x ↑ frac n d ∷ p) h = (
    stored-fits n d (and_right (held x) _ (and_left (goodFactor ν held q (base x ↑ frac n d)) _ h)),
    factors-fit p (and_right (goodFactor ν held q (base x ↑ frac n d)) _ h),
  )

  mutual
    unfolding goodTy goodProduct

    pub good-fits : (t : Ty ℕ) → goodTy ν held q t ≡ true → Fits t
    good-fits (opened o) h = tt
    good-fits (basic b) h = tt
    good-fits (dim p) h = factors-fit p (and_left (all (goodFactor ν held q) p) _
        (and_left (all (goodFactor ν held q) p && rising (orderAtom ν) (map atomOf p)) _ h))
    good-fits (fn ps r) h = (good-fits-all ps (and_left (goodTys ν held q ps) _ h), good-fits r (and_right (goodTys ν held q ps) _ h))
    good-fits (struct n as' fs) h =
        let f = and_left (held n && goodTys ν held q as' && goodFields ν held q fs) _ h in (
          good-fits-all as' (and_right (held n) _ (and_left (held n && goodTys ν held q as') _ f)),
          good-fits-fields fs (and_right (held n && goodTys ν held q as') _ f),
        )
    good-fits (list t) h = good-fits t h

    pub good-fits-all : (ts : Tys ℕ) → goodTys ν held q ts ≡ true → FitsTys ts
    good-fits-all nil h = tt
    good-fits-all (cons t ts) h = (good-fits t (and_left (goodTy ν held q t) _ h), good-fits-all ts (and_right (goodTy ν held q t) _ h))

    pub good-fits-fields : (fs : Fields ℕ) → goodFields ν held q fs ≡ true → FitsFields fs
    good-fits-fields noFields h = tt
    good-fits-fields (field n t fs) h =
        (good-fits t (and_right (held n) _ (and_left (held n && goodTy ν held q t) _ h)), good-fits-fields fs (and_right (held n && goodTy ν held q t) _ h))
