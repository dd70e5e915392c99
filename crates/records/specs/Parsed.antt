-- What is held at a place is what is read there; and so one tree at most is held at a place.
use Rattle.std.specs.Prelude.{◌≡◌}
use Rattle.std.proofs.Math.Path.{refl, sym, ap, ap₂}
use Rattle.std.proofs.Common.{subst, ◌∙◌, add-zero}
use Rattle.std.proofs.Math.Option.{Option, some}
use mathlib.Core.List.{List, [], ◌∷◌}
use Prim.Native.Nat.{ℕ, zero, suc, ◌+◌, ◌/◌, ◌≤◌, ◌<◌, max}
use native.Mathlib.Omega.{arith}
use Rattle.std.proofs.Math.ListN.{length}
use Rattle.laws.specs.Heads.{next-back}
use Rattle.rules.specs.Base.{all}
use Rattle.rules.specs.Exponents.{frac}
use Rattle.rules.specs.Trees as tree
use Rattle.rules.specs.Trees.{
  ◌↑◌,
  Product,
  Ty,
  opened,
  basic,
  dim,
  fn,
  struct,
  list,
  Tys,
  nil,
  cons,
  Fields,
  noFields,
  field,
  Con,
  equal,
  isDim,
  is_scalar,
  hasField,
  Binding,
  ◌≔◌,
  size,
  sizeTys,
  sizeFields,
  depth,
  depthTys,
  depthFields,
  count,
  countFields,
}
use Rattle.rules.specs.Writing.{Rec, rec, head, twos}
use Rattle.rules.specs.Reading.{Reader, next, factorKinds, readFactors, readTys, fieldKinds, readFields, typeKinds, readTy}
use Rattle.records.specs.Views.{from}
use Rattle.records.specs.Places.{from-length, seen-in, seen}
use Rattle.records.specs.Holds.{
  viewOpen,
  viewBasic,
  Shows,
  Long,
  HoldsFactor,
  HoldsFactors,
  HoldsProduct,
  Holds,
  HoldsTys,
  HoldsFields,
  HoldsCon,
  HoldsBinding,
  BodyCon,
  BodyBinding,
  con-body,
  binding-body,
}
use Rattle.records.specs.ByView.{con-by-body, product-in, ends-in}
use Rattle.records.specs.declared.View.TheVariants as view

-- a limit that leaves room for one level
pub deeper : (P : ℕ → Type 0) (n d : ℕ) → suc n ≤ d → ((e : ℕ) → n ≤ e → P (suc e)) → P d
deeper P n zero h f = absurd (omega arith)
deeper P n (suc e) h f = f e (omega arith)

module _ (s : List ℕ) where
  -- ══ Held, so read ══

  -- a was read at `at`, n records
  abbrev pub Gives : {A : Type 0} → Option (A × List Rec) → A → ℕ → Type 0
  Gives o a at = o ≡ some (a, from s at)

  -- a part of n records that starts at a place within, of which the first was taken
  part_length : (at n : ℕ) → 1 ≤ n → at + n ≤ length s / 4 → n + length (from s (at + n)) ≡ suc (length (from s (at + 1)))
  part_length at n p h = omega (arith, from-length s (at + n) h, from-length s (at + 1) (omega arith))

  -- so much is read by the first record
  pub by_first : {A : Type 0} (f : ℕ → ℕ → ℕ → ℕ → Reader A) (k n a b c at : ℕ) (x : A) → k < 65_536 → from s at ≡ rec (head k n) a b c ∷ from s (at + 1)
      → f k a b c (from s (at + 1)) ≡ some (x, from s (at + n)) → 1 ≤ n → at + n ≤ length s / 4 → Gives (next f (from s at)) x (at + n)
  by_first f k n a b c at x h e g p i = ap (next f) e ∙ next-back f k n a b c (from s (at + 1)) (from s (at + n)) x h g (part_length at n p i)

  factor-read : (a : tree.Atom ℕ) (n : lib.IntN.ℤ) (d at : ℕ) → HoldsFactor s (a ↑ frac n d) at → Gives (next factorKinds (from s at)) (a ↑ frac n d) (at + 1)
  factor-read (tree.free (tree.var x)) n d at h = by_first factorKinds 11 1 x (twos n) d at _ (omega arith) (seen s at h.0 h.2 tt) (rw h.1)
      (omega arith) (omega (arith, seen-in s at h.0 tt))
  factor-read (tree.free (tree.quant i)) n d at h = by_first factorKinds 15 1 i (twos n) d at _ (omega arith) (seen s at h.0 h.2 tt) (rw h.1)
      (omega arith) (omega (arith, seen-in s at h.0 tt))
  factor-read (tree.free (tree.par x)) n d at h = by_first factorKinds 12 1 x (twos n) d at _ (omega arith) (seen s at h.0 h.2 tt) (rw h.1)
      (omega arith) (omega (arith, seen-in s at h.0 tt))
  factor-read (tree.base x) n d at h = by_first factorKinds 13 1 x (twos n) d at _ (omega arith) (seen s at h.0 h.2 tt) (rw h.1) (omega arith)
      (omega (arith, seen-in s at h.0 tt))

  pub factors-read : (p : Product ℕ) (at : ℕ) → HoldsFactors s p at → Gives (readFactors (length p) (from s at)) p (at + length p)
  unfolding HoldsFactors readFactors
  factors-read [] at h = rw (add-zero at)
  factors-read (a ↑ frac n d ∷ p) at h =
      let q : at + 1 + length p ≡ at + suc (length p) = omega arith in
      rw (factor-read a n d at h.0, factors-read p (at + 1) h.1, q)

  open-read : (o : tree.Open ℕ) (d at : ℕ) → Shows s at (view.Opened (viewOpen o)) → Long s at 1 → Gives (readTy (suc d) (from s at)) (opened o) (at + 1)
  unfolding readTy all
  open-read (tree.var x) d at h l = by_first (typeKinds (readTy d)) 1 1 x 0 0 at _ (omega arith) (seen s at h l tt) refl (omega arith)
      (omega (arith, seen-in s at h tt))
  open-read (tree.quant i) d at h l = by_first (typeKinds (readTy d)) 14 1 i 0 0 at _ (omega arith) (seen s at h l tt) refl (omega arith)
      (omega (arith, seen-in s at h tt))
  open-read (tree.par x) d at h l = by_first (typeKinds (readTy d)) 2 1 x 0 0 at _ (omega arith) (seen s at h l tt) refl (omega arith)
      (omega (arith, seen-in s at h tt))

  basic-read : (b : tree.Basic) (d at : ℕ) → Shows s at (view.Basic (viewBasic b)) → Long s at 1 → Gives (readTy (suc d) (from s at)) (basic b) (at + 1)
  unfolding readTy all
  basic-read tree.boolean d at h l = by_first (typeKinds (readTy d)) 4 1 0 0 0 at _ (omega arith) (seen s at h l tt) refl (omega arith)
      (omega (arith, seen-in s at h tt))
  basic-read tree.string d at h l = by_first (typeKinds (readTy d)) 5 1 0 0 0 at _ (omega arith) (seen s at h l tt) refl (omega arith)
      (omega (arith, seen-in s at h tt))
  basic-read tree.datetime d at h l = by_first (typeKinds (readTy d)) 6 1 0 0 0 at _ (omega arith) (seen s at h l tt) refl (omega arith)
      (omega (arith, seen-in s at h tt))

  mutual
    unfolding Holds HoldsProduct size depth count countFields readTy readTys readFields all

    pub read : (t : Ty ℕ) (d at : ℕ) → Holds s t at → depth t ≤ d → Gives (readTy d (from s at)) t (at + size t)
    read (opened o) d at h k = deeper (λ x. Gives (readTy x (from s at)) (opened o) (at + 1)) 0 d k (λ e i. open-read o e at h.0 h.1)
    read (basic b) d at h k = deeper (λ x. Gives (readTy x (from s at)) (basic b) (at + 1)) 0 d k (λ e i. basic-read b e at h.0 h.1)
    read (dim p) d at h k =
        let q : at + 1 + length p ≡ at + suc (length p) = omega arith in
        deeper (λ x. Gives (readTy x (from s at)) (dim p) (at + suc (length p))) 0 d k (λ e i.
        by_first (typeKinds (readTy e)) 3 (suc (length p)) (length p) 0 0 at (dim p) (omega arith) (seen s at h.0 h.2 tt)
        (rw (factors-read p (at + 1) h.1, q)) (omega arith) (product-in s p at h))
    read (fn ps r) d at h k =
        let q : at + 1 + sizeTys ps + size r ≡ at + suc (sizeTys ps + size r) = omega arith in
        deeper (λ x. Gives (readTy x (from s at)) (fn ps r) (at + suc (sizeTys ps + size r))) (max (depthTys ps) (depth r)) d k (λ e i.
        by_first (typeKinds (readTy e)) 7 (suc (sizeTys ps + size r)) (count ps) 0 0 at (fn ps r) (omega arith) (seen s at h.0 h.3 tt)
        (rw (tys-read ps e (at + 1) h.1 (omega arith), read r e (at + 1 + sizeTys ps) h.2 (omega arith), q)) (omega arith) (ends-in s (fn ps r) at h))
    read (struct n as' fs) d at h k =
        let q : at + 1 + sizeTys as' + sizeFields fs ≡ at + suc (sizeTys as' + sizeFields fs) = omega arith in
        deeper (λ x. Gives (readTy x (from s at)) (struct n as' fs) (at + suc (sizeTys as' + sizeFields fs))) (max (depthTys as') (depthFields fs)) d k (λ e i.
        by_first (typeKinds (readTy e)) 8 (suc (sizeTys as' + sizeFields fs)) n (count as') (countFields fs) at (struct n as' fs) (omega arith)
        (seen s at h.0 h.3 tt)
        (rw (tys-read as' e (at + 1) h.1 (omega arith), fields_read fs e (at + 1 + sizeTys as') h.2 (omega arith), q)) (omega arith)
        (ends-in s (struct n as' fs) at h))
    read (list t) d at h k =
        let q : at + 1 + size t ≡ at + suc (size t) = omega arith in
        deeper (λ x. Gives (readTy x (from s at)) (list t) (at + suc (size t))) (depth t) d k (λ e i.
        by_first (typeKinds (readTy e)) 10 (suc (size t)) 0 0 0 at (list t) (omega arith) (seen s at h.0 h.2 tt) (rw (read t e (at + 1) h.1 i, q))
        (omega arith) (ends-in s (list t) at h))

    pub tys-read : (ts : Tys ℕ) (d at : ℕ) → HoldsTys s ts at → depthTys ts ≤ d → Gives (readTys (readTy d) (count ts) (from s at)) ts (at + sizeTys ts)
    tys-read nil d at h k = rw (add-zero at)
    tys-read (cons t ts) d at h k =
        let q : at + size t + sizeTys ts ≡ at + (size t + sizeTys ts) = omega arith in
        rw (read t d at h.0 (omega arith), tys-read ts d (at + size t) h.1 (omega arith), q)

    pub fields_read : (fs : Fields ℕ) (d at : ℕ) → HoldsFields s fs at → depthFields fs ≤ d
        → Gives (readFields (readTy d) (countFields fs) (from s at)) fs (at + sizeFields fs)
    fields_read noFields d at h k = rw (add-zero at)
    fields_read (field n t fs) d at h k =
        let q : at + suc (size t) + sizeFields fs ≡ at + suc (size t + sizeFields fs) = omega arith in
        let u : at + 1 + size t ≡ at + suc (size t) = omega arith in
        let one : Gives (next (fieldKinds (readTy d)) (from s at)) (n, t) (at + suc (size t)) =
        by_first (fieldKinds (readTy d)) 9 (suc (size t)) n 0 0 at (n, t) (omega arith) (seen s at h.0 h.3 tt)
        (rw (read t d (at + 1) h.1 (omega arith), u)) (omega arith) (omega (arith, ends-in s t (at + 1) h.1)) in
        rw (one, ← u) (rw (fields_read fs d (at + 1 + size t) h.2 (omega arith), u, q))

  -- ══ One tree at most is held at a place ══

  same : {A : Type 0} {o : Option (A × List Rec)} {a b : A} {x y : List Rec} → o ≡ some (a, x) → o ≡ some (b, y) → a ≡ b
  same {A} {o} {a} {b} {x} {y} p q = let e : ◌≡◌ {A = A × List Rec} (a, x) (b, y) = cc in ap (λ (v : A × List Rec). v.0) e

  pub only : (t u : Ty ℕ) (at : ℕ) → Holds s t at → Holds s u at → t ≡ u
  only t u at h k = same (read t (max (depth t) (depth u)) at h (omega arith)) (read u (max (depth t) (depth u)) at k (omega arith))

  pub only-tys : (ts us : Tys ℕ) (at : ℕ) → count ts ≡ count us → HoldsTys s ts at → HoldsTys s us at → ts ≡ us
  only-tys ts us at e h k =
      let d : ℕ = max (depthTys ts) (depthTys us) in
      same (tys-read ts d at h (omega arith)) (rw (← e) at (tys-read us d at k (omega arith)))

  pub only-fields : (fs gs : Fields ℕ) (at : ℕ) → countFields fs ≡ countFields gs → HoldsFields s fs at → HoldsFields s gs at → fs ≡ gs
  only-fields fs gs at e h k =
      let d : ℕ = max (depthFields fs) (depthFields gs) in
      same (fields_read fs d at h (omega arith)) (rw (← e) at (fields_read gs d at k (omega arith)))

  pub only-factors : (p q : Product ℕ) (at : ℕ) → length p ≡ length q → HoldsFactors s p at → HoldsFactors s q at → p ≡ q
  only-factors p q at e h k = same (factors-read p at h) (rw (← e) at (factors-read q at k))

  pub only-product : (p q : Product ℕ) (at : ℕ) → HoldsProduct s p at → HoldsProduct s q at → p ≡ q
  unfolding HoldsProduct
  only-product p q at h k =
      let z : view.Dim (length p) ≡ view.Dim (length q) = sym h.0 ∙ k.0 in
      let n : length p ≡ length q = cc in
      only-factors p q (at + 1) n h.1 k.1

  only_two : (f : Ty ℕ → Ty ℕ → Con ℕ) (l r l' r' : Ty ℕ) (at : ℕ) → Holds s l at → Holds s r (at + size l) → Holds s l' at
      → Holds s r' (at + size l') → f l r ≡ f l' r'
  only_two f l r l' r' at h i h' i' =
      let e = only l l' at h h' in
      ap₂ f e (only r r' (at + size l) i (subst (λ (t : Ty ℕ). Holds s r' (at + size t)) (sym e) i'))

  pub only-con-body : (c d : Con ℕ) (at : ℕ) → BodyCon s c at → BodyCon s d at → c ≡ d
  unfolding BodyCon
  only-con-body c (equal l r) at h k = con-by-body s (λ x. x ≡ equal l r) c at h k.0 (λ l' r' i j. only_two equal l' r' l r (at + 1) i j k.1 k.2)
  only-con-body c (isDim t) at h k = con-by-body s (λ x. x ≡ isDim t) c at h k.0 (λ u i. ap isDim (only u t (at + 1) i k.1))
  only-con-body c (is_scalar p) at h k = con-by-body s (λ x. x ≡ is_scalar p) c at h k.0 (λ q i. ap is_scalar (only-product q p (at + 1) i k.1))
  only-con-body c (hasField n l r) at h k = con-by-body s (λ x. x ≡ hasField n l r) c at h k.0
      (λ l' r' i j. only_two (hasField n) l' r' l r (at + 1) i j k.1 k.2)

  pub only-con : (c d : Con ℕ) (at : ℕ) → HoldsCon s c at → HoldsCon s d at → c ≡ d
  only-con c d at h k = only-con-body c d at (con-body s c at h) (con-body s d at k)

  pub only-binding-body : (b c : Binding ℕ) (at : ℕ) → BodyBinding s b at → BodyBinding s c at → b ≡ c
  unfolding BodyBinding
  only-binding-body (x ≔ t) (y ≔ u) at h k =
      let z : view.Binding x ≡ view.Binding y = sym h.0 ∙ k.0 in
      let n : x ≡ y = cc in
      ap₂ ◌≔◌ n (only t u (at + 1) h.1 k.1)

  pub only-binding : (b c : Binding ℕ) (at : ℕ) → HoldsBinding s b at → HoldsBinding s c at → b ≡ c
  only-binding b c at h k = only-binding-body b c at (binding-body s b at h) (binding-body s c at k)
