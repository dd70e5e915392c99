-- What is held at a place is what is written there.
use Rattle.std.specs.Prelude.{◌≡◌, ℕ, suc, ◌+◌, ◌*◌, ◌/◌, ◌≤◌, length}
use Rattle.std.proofs.Math.Path.{refl}
use Rattle.std.proofs.Common.{sym, ap, ◌∙◌, add-zero, arith}
use mathlib.Core.List.{List, [], ◌∷◌, ◌++◌, map, append_assoc}
use Rattle.std.proofs.Math.Seq.{slice}
use Rattle.rules.specs.Exponents.{frac}
use Rattle.rules.specs.Trees as tree
use Rattle.rules.specs.Trees.{
  Factor,
  ◌↑◌,
  Product,
  Ty,
  opened,
  basic,
  dim,
  fn,
  struct,
  list,
  Tys,
  nil,
  cons,
  Fields,
  noFields,
  field,
  Con,
  equal,
  isDim,
  is_scalar,
  hasField,
  Binding,
  ◌≔◌,
  size,
  sizeTys,
  sizeFields,
  sizeCon,
  sizeBinding,
  count,
  countFields,
}
use Rattle.rules.specs.Writing.{Rec, rec, head, twos, writeFactor, writeProduct, writeTy, writeTys, writeFields, writeCon, writeBinding, words}
use Rattle.laws.proofs.Size.{size-ty, size-tys}
use Rattle.laws.specs.Reading.{FitsProduct, Fits, FitsTys, FitsFields}
use Rattle.laws.proofs.Reading.{sign}
use Rattle.records.specs.Views.{recOf, from}
use Rattle.records.specs.Places.{Says, Written, seen, rec-view, first}
use Rattle.records.proofs.Places.{rec-long, past, words-from}
use Rattle.records.specs.Holds.{viewOpen, viewAtom, viewBasic, Shows, Long, HoldsFactors, HoldsProduct, Holds, HoldsTys, HoldsFields, HoldsCon, HoldsBinding}
use Rattle.records.proofs.ByView.{in_reach}
use Rattle.records.specs.declared.View.{View}
use Rattle.records.specs.declared.View.TheVariants as view

-- the written record of each is the one that says its view
rec-open : (o : tree.Open ℕ) → writeTy (opened o) ≡ recOf (view.Opened (viewOpen o)) 1 ∷ []
unfolding writeTy
rec-open (tree.var x) = refl
rec-open (tree.quant i) = refl
rec-open (tree.par x) = refl

rec-basic : (b : tree.Basic) → writeTy (basic b) ≡ recOf (view.Basic (viewBasic b)) 1 ∷ []
unfolding writeTy
rec-basic tree.boolean = refl
rec-basic tree.string = refl
rec-basic tree.datetime = refl

rec-factor : (a : tree.Atom ℕ) (n : lib.IntN.ℤ) (d : ℕ) → writeFactor (a ↑ frac n d) ≡ recOf (view.Factor (viewAtom a) (twos n) d) 1
unfolding writeFactor
rec-factor (tree.free (tree.var x)) n d = refl
rec-factor (tree.free (tree.quant i)) n d = refl
rec-factor (tree.free (tree.par x)) n d = refl
rec-factor (tree.base x) n d = refl

module _ (s : List ℕ) where
  -- ══ Held, so written ══

  -- these records stand from `at` on, n of them
  abbrev pub Stands : List Rec → ℕ → ℕ → Type 0
  Stands rs at n = from s at ≡ rs ++ from s (at + n)

  one : (at : ℕ) {v : View} {n : ℕ} {r : Rec} → Shows s at v → Long s at n → Says v → r ≡ recOf v n → Stands (r ∷ []) at 1
  one at e l a q = seen s at e l a ∙ ap (λ (x : Rec). x ∷ from s (at + 1)) (sym q)

  joined : (rs qs : List Rec) (at n m k : ℕ) → Stands rs at n → Stands qs (at + n) m → k ≡ n + m → Stands (rs ++ qs) at k
  joined rs qs at n m k p q e =
      let i : at + n + m ≡ at + k = omega arith in
      p ∙ ap (rs ++◌) (q ∙ ap (λ (j : ℕ). qs ++ from s j) i) ∙ sym (append_assoc rs qs (from s (at + k)))

  factors-written : (p : Product ℕ) (at : ℕ) → HoldsFactors s p at → Stands (map writeFactor p) at (length p)
  unfolding HoldsFactors
  factors-written [] at h = rw (add-zero at)
  factors-written (a ↑ frac n d ∷ p) at h =
      joined (writeFactor (a ↑ frac n d) ∷ []) (map writeFactor p) at 1 (length p) (suc (length p)) (one at h.0.0 h.0.2 tt (rec-factor a n d))
      (factors-written p (at + 1) h.1) (omega arith)

  pub product-written : (p : Product ℕ) (at : ℕ) → HoldsProduct s p at → Stands (writeProduct p) at (suc (length p))
  unfolding HoldsProduct writeProduct
  product-written p at h =
      joined (rec (head 3 (suc (length p))) (length p) 0 0 ∷ []) (map writeFactor p) at 1 (length p) (suc (length p)) (one at h.0 h.2 tt refl)
      (factors-written p (at + 1) h.1) (omega arith)

  mutual
    unfolding Holds size writeTy

    pub written : (t : Ty ℕ) (at : ℕ) → Holds s t at → Stands (writeTy t) at (size t)
    written (opened o) at h = seen s at h.0 h.1 tt ∙ ap (◌++ from s (at + 1)) (sym (rec-open o))
    written (basic b) at h = seen s at h.0 h.1 tt ∙ ap (◌++ from s (at + 1)) (sym (rec-basic b))
    written (dim p) at h = product-written p at h
    written (fn ps r) at h =
        joined (rec (head 7 (size (fn ps r))) (count ps) 0 0 ∷ []) (writeTys ps ++ writeTy r) at 1 (sizeTys ps + size r) (size (fn ps r))
        (one at h.0 h.3 tt refl)
        (joined (writeTys ps) (writeTy r) (at + 1) (sizeTys ps) (size r) (sizeTys ps + size r) (tys-written ps (at + 1) h.1)
        (written r (at + 1 + sizeTys ps) h.2) refl) (omega arith)
    written (struct n as' fs) at h =
        joined (rec (head 8 (size (struct n as' fs))) n (count as') (countFields fs) ∷ []) (writeTys as' ++ writeFields fs) at 1
        (sizeTys as' + sizeFields fs) (size (struct n as' fs)) (one at h.0 h.3 tt refl)
        (joined (writeTys as') (writeFields fs) (at + 1) (sizeTys as') (sizeFields fs) (sizeTys as' + sizeFields fs) (tys-written as' (at + 1) h.1)
        (fields-written fs (at + 1 + sizeTys as') h.2) refl) (omega arith)
    written (list t) at h = joined (rec (head 10 (size (list t))) 0 0 0 ∷ []) (writeTy t) at 1 (size t) (size (list t)) (one at h.0 h.2 tt refl)
        (written t (at + 1) h.1) (omega arith)

    pub tys-written : (ts : Tys ℕ) (at : ℕ) → HoldsTys s ts at → Stands (writeTys ts) at (sizeTys ts)
    tys-written nil at h = rw (add-zero at)
    tys-written (cons t ts) at h = joined (writeTy t) (writeTys ts) at (size t) (sizeTys ts) (size t + sizeTys ts) (written t at h.0)
        (tys-written ts (at + size t) h.1) refl

    pub fields-written : (fs : Fields ℕ) (at : ℕ) → HoldsFields s fs at → Stands (writeFields fs) at (sizeFields fs)
    fields-written noFields at h = rw (add-zero at)
    fields-written (field n t fs) at h =
        joined (rec (head 9 (suc (size t))) n 0 0 ∷ []) (writeTy t ++ writeFields fs) at 1 (size t + sizeFields fs) (sizeFields (field n t fs))
        (one at h.0 h.3 tt refl)
        (joined (writeTy t) (writeFields fs) (at + 1) (size t) (sizeFields fs) (size t + sizeFields fs) (written t (at + 1) h.1)
        (fields-written fs (at + 1 + size t) h.2) refl) (omega arith)

  pub con-written : (c : Con ℕ) (at : ℕ) → HoldsCon s c at → Stands (writeCon c) at (sizeCon c)
  unfolding HoldsCon sizeCon writeCon size
  con-written (equal l r) at h =
      joined (rec (head 20 (sizeCon (equal l r))) 0 0 0 ∷ []) (writeTy l ++ writeTy r) at 1 (size l + size r) (suc (size l + size r)) (one at h.0 h.3 tt refl)
      (joined (writeTy l) (writeTy r) (at + 1) (size l) (size r) (size l + size r) (written l (at + 1) h.1) (written r (at + 1 + size l) h.2) refl)
      (omega arith)
  con-written (isDim t) at h = joined (rec (head 21 (sizeCon (isDim t))) 0 0 0 ∷ []) (writeTy t) at 1 (size t) (suc (size t))
      (one at h.0 h.2 tt refl) (written t (at + 1) h.1) (omega arith)
  con-written (is_scalar p) at h =
      joined (rec (head 22 (sizeCon (is_scalar p))) 0 0 0 ∷ []) (writeProduct p) at 1 (suc (length p)) (suc (suc (length p)))
      (one at h.0 h.2 tt refl) (product-written p (at + 1) h.1) (omega arith)
  con-written (hasField n l r) at h =
      joined (rec (head 23 (sizeCon (hasField n l r))) n 0 0 ∷ []) (writeTy l ++ writeTy r) at 1 (size l + size r) (suc (size l + size r))
      (one at h.0 h.3 tt refl)
      (joined (writeTy l) (writeTy r) (at + 1) (size l) (size r) (size l + size r) (written l (at + 1) h.1) (written r (at + 1 + size l) h.2) refl)
      (omega arith)

  pub binding-written : (b : Binding ℕ) (at : ℕ) → HoldsBinding s b at → Stands (writeBinding b) at (sizeBinding b)
  unfolding HoldsBinding sizeBinding writeBinding
  binding-written (x ≔ t) at h = joined (rec (head 24 (sizeBinding (x ≔ t))) x 0 0 ∷ []) (writeTy t) at 1 (size t) (suc (size t))
      (one at h.0 h.2 tt refl) (written t (at + 1) h.1) (omega arith)

  -- the words at the place are those of the type
  pub held-words : (t : Ty ℕ) (at : ℕ) → Holds s t at → slice (at * 4) ((at + size t) * 4) s ≡ words (writeTy t)
  held-words t at h =
      let le : at ≤ length s / 4 = omega (arith, in_reach s t at h) in
      rw (size-ty t) at (words-from s (writeTy t) (from s (at + size t)) at le (written t at h))

  -- ══ Written, so held ══

  -- the record that says v and is n long stands first
  pub shown : (at n : ℕ) (v : View) (r : Rec) (rs : List Rec) → from s at ≡ r ∷ rs → r ≡ recOf v n → Written v → Shows s at v × Long s at n
      × (rs ≡ from s (at + 1))
  shown at n v r rs e q a =
      let f = first s at (recOf v n) rs (e ∙ ap (λ (x : Rec). x ∷ rs) q) in
      (f.view ∙ rec-view v n a, f.long ∙ rec-long v n, f.rest)

  factors-held : (p : Product ℕ) (at : ℕ) (rest : List Rec) → FitsProduct p → from s at ≡ map writeFactor p ++ rest → HoldsFactors s p at
  unfolding HoldsFactors
  factors-held [] at rest f e = tt
  factors-held (a ↑ frac n d ∷ p) at rest f e =
      let (u, v, w) = shown at 1 (view.Factor (viewAtom a) (twos n) d) (writeFactor (a ↑ frac n d)) (map writeFactor p ++ rest) e (rec-factor a n d) tt in
      ((u, sign n f.0, v), factors-held p (at + 1) rest f.1 (sym w))

  pub product-held : (p : Product ℕ) (at : ℕ) (rest : List Rec) → FitsProduct p → from s at ≡ writeProduct p ++ rest → HoldsProduct s p at
  unfolding HoldsProduct writeProduct
  product-held p at rest f e =
      let (u, v, w) = shown at (suc (length p)) (view.Dim (length p)) _ (map writeFactor p ++ rest) e refl tt in
      (u, factors-held p (at + 1) rest f (sym w), v)

  -- two parts, the first of n records
  pub parted : (a b rest : List Rec) (at n : ℕ) → length a ≡ n → from s at ≡ (a ++ b) ++ rest → (from s at ≡ a ++ (b ++ rest)) × (from s (at + n) ≡ b ++ rest)
  parted a b rest at n l e =
      let q : from s at ≡ a ++ (b ++ rest) = e ∙ append_assoc a b rest in
      (q, sym (past s a (b ++ rest) at q ∙ ap (λ (k : ℕ). from s (at + k)) l))

  mutual
    unfolding Holds size writeTy

    pub held : (t : Ty ℕ) (at : ℕ) (rest : List Rec) → Fits t → from s at ≡ writeTy t ++ rest → Holds s t at
    held (opened o) at rest f e = let (u, v, w) = shown at 1 (view.Opened (viewOpen o)) _ rest (e ∙ ap (◌++ rest) (rec-open o)) refl tt in (u, v)
    held (basic b) at rest f e = let (u, v, w) = shown at 1 (view.Basic (viewBasic b)) _ rest (e ∙ ap (◌++ rest) (rec-basic b)) refl tt in (u, v)
    held (dim p) at rest f e = product-held p at rest f e
    held (fn ps r) at rest f e =
        let (x, y, z) = shown at (size (fn ps r)) (view.Function (count ps)) _ ((writeTys ps ++ writeTy r) ++ rest) e refl tt in
        let (u, v) = parted (writeTys ps) (writeTy r) rest (at + 1) (sizeTys ps) (size-tys ps) (sym z) in
        (x, tys-held ps (at + 1) (writeTy r ++ rest) f.0 u, held r (at + 1 + sizeTys ps) rest f.1 v, y)
    held (struct n as' fs) at rest f e =
        let (x, y, z) = shown at (size (struct n as' fs)) (view.Struct n (count as') (countFields fs)) _ ((writeTys as' ++ writeFields fs) ++ rest) e refl tt in
        let (u, v) = parted (writeTys as') (writeFields fs) rest (at + 1) (sizeTys as') (size-tys as') (sym z) in
        (x, tys-held as' (at + 1) (writeFields fs ++ rest) f.0 u, fields-held fs (at + 1 + sizeTys as') rest f.1 v, y)
    held (list t) at rest f e =
        let (x, y, z) = shown at (size (list t)) view.List _ (writeTy t ++ rest) e refl tt in
        (x, held t (at + 1) rest f (sym z), y)

    pub tys-held : (ts : Tys ℕ) (at : ℕ) (rest : List Rec) → FitsTys ts → from s at ≡ writeTys ts ++ rest → HoldsTys s ts at
    tys-held nil at rest f e = tt
    tys-held (cons t ts) at rest f e =
        let (u, v) = parted (writeTy t) (writeTys ts) rest at (size t) (size-ty t) e in
        (held t at (writeTys ts ++ rest) f.0 u, tys-held ts (at + size t) rest f.1 v)

    pub fields-held : (fs : Fields ℕ) (at : ℕ) (rest : List Rec) → FitsFields fs → from s at ≡ writeFields fs ++ rest → HoldsFields s fs at
    fields-held noFields at rest f e = tt
    fields-held (field n t fs) at rest f e =
        let (x, y, z) = shown at (suc (size t)) (view.Field n) _ ((writeTy t ++ writeFields fs) ++ rest) e refl tt in
        let (u, v) = parted (writeTy t) (writeFields fs) rest (at + 1) (size t) (size-ty t) (sym z) in
        (x, held t (at + 1) (writeFields fs ++ rest) f.0 u, fields-held fs (at + 1 + size t) rest f.1 v, y)
