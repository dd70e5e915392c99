-- Putting quantified variables back makes no product, and no type, longer: so neither the limit of records nor that of factors is passed.
use Rattle.std.proofs.Math.Path.{◌≡◌, refl, ap}
use Rattle.std.proofs.Common.{sym, ◌∙◌, inl, inr}
use Rattle.std.specs.Prelude.{Bool, false, ◌&&◌, ◌⊎◌, leb, length}
use Rattle.std.proofs.Math.Bool.{true}
use Rattle.std.proofs.Math.Option.{Option, none, some, get_or}
use mathlib.Core.List.Memᴰ
use mathlib.Core.List.{List, [], ◌∷◌, Memᴰ}
use Prim.Native.Nat.{ℕ, suc, ◌≤◌, Ordering}
use native.Mathlib.Omega.{arith}
use Rattle.rules.specs.Base.{got, ◌>>=◌, bounded, within}
use Rattle.rules.specs.Exponents.{Exp, neg, goodStored, isZero, sum}
use Rattle.rules.specs.Trees.{
  Open,
  var,
  quant,
  Atom,
  free,
  base,
  Factor,
  ◌↑◌,
  Product,
  Names,
  Ty,
  opened,
  basic,
  dim,
  fn,
  struct,
  list,
  Tys,
  nil,
  cons,
  Fields,
  noFields,
  field,
  orderOpen,
  orderAtom,
  size,
  sizeTys,
  sizeFields,
}
use Rattle.rules.specs.Products.{put, just, single, inverse, mergeOne, merge, multiply, divide}
use Rattle.rules.specs.Replacing.{asProduct, replaceFactors, replaceProduct, replaceDim, replaceTy, replaceTys, replaceFields}
use Rattle.rules.specs.Schemes.{renamed, back}
use Rattle.rules.specs.WellFormed.{atomOf, goodProduct, goodTy, goodTys, goodFields}
use Rattle.laws.specs.Order.{Lawful}
use Rattle.laws.proofs.Order.{self}
use Rattle.laws.specs.Lists.{All, in_head, and_left, and_right}
use Rattle.laws.proofs.Lists.{every-all, bound-step, one-step, two_steps, allow-same}
use Rattle.laws.specs.Sorted.{Sorted}
use Rattle.laws.proofs.Sorted.{merge-nil, merge-sorted}
use Rattle.laws.proofs.GoodProducts.{GoodFactor, good-product}
use Rattle.schemes_renaming.proofs.Factors.{Removed, removed, raise-just}
use Rattle.schemes_renaming.proofs.Again.{back_is}

-- is a factor's power one that may be stored
abbrev goodPower : {N : Type 0} → Factor N → Bool
goodPower (a ↑ e) = goodStored e

module _ {N : Type 0} (ν : Names N) (law : Lawful (orderAtom ν)) where
  -- what a factor leaves of a product
  pub record Added (f : Factor N) (p r : Product N) : Type 0 where
    pub kept : (x : Factor N) → Memᴰ x p → ¬ (orderAtom ν (atomOf x) (atomOf f) ≡ Ordering.eq) → Memᴰ x r
    pub short : length r ≤ suc (length p)

  put-short : (a : Atom N) (s : Exp) (p : Product N) → length (put a s p) ≤ suc (length p)
  put-short a s p = go (isZero s) refl
    where
      go : (b : Bool) → isZero s ≡ b → length (put a s p) ≤ suc (length p)
      go true i = rw (i, put) (omega arith)
      go false i = rw (i, put) (omega arith)

  put-kept : (a : Atom N) (s : Exp) (p : Product N) (x : Factor N) → Memᴰ x p → Memᴰ x (put a s p)
  put-kept a s p x m = go (isZero s) refl
    where
      go : (b : Bool) → isZero s ≡ b → Memᴰ x (put a s p)
      go true i = rw (i, put) m
      go false i = rw (i, put) (Memᴰ.tail m)

  pub added : (a : Atom N) (e : Exp) (p r : Product N) → merge ν bounded p (a ↑ e ∷ []) ≡ got r → Added (a ↑ e) p r
  unfolding merge mergeOne
  added a e [] r i = let z : a ↑ e ∷ [] ≡ r = cc in rw (sym z) (record { kept = λ x m. absurd (Memᴰ.not-nil m); short = omega arith })
  added a e (b ↑ d ∷ p) r i = go (orderAtom ν b a) refl (added a e p)
    where
      go : (o : Ordering) → orderAtom ν b a ≡ o → ((q : Product N) → merge ν bounded p (a ↑ e ∷ []) ≡ got q → Added (a ↑ e) p q) → Added (a ↑ e) (b ↑ d ∷ p) r
      go Ordering.gt o again =
          let z : got (a ↑ e ∷ b ↑ d ∷ p) ≡ got r = rw (o, mergeOne) at i in
          let y : a ↑ e ∷ b ↑ d ∷ p ≡ r = cc in
          rw (sym y) (record { kept = λ x m k. Memᴰ.tail m; short = omega arith })
      go Ordering.lt o again =
          let (q, j, k) = bound-step (merge ν bounded p (a ↑ e ∷ [])) (λ q. got (b ↑ d ∷ q)) r (rw (o, mergeOne) at i) in
          let y : b ↑ d ∷ q ≡ r = cc in
          let s = again q j in
          rw (sym y) (record { kept = λ x m n. first q s x n (Memᴰ.cases_cons m); short = let l = s.short in omega arith })
        where
          first : (q : Product N) → Added (a ↑ e) p q → (x : Factor N) → ¬ (orderAtom ν (atomOf x) a ≡ Ordering.eq) → (x ≡ b ↑ d) ⊎ Memᴰ x p
              → Memᴰ x (b ↑ d ∷ q)
          first q s x n (inl h) = Memᴰ.head h
          first q s x n (inr m) = Memᴰ.tail (s.kept x m n)
      go Ordering.eq o again =
          let (s, j, k) = bound-step (sum bounded d e) (λ s. merge ν bounded p [] >>= λ q. got (put b s q)) r (rw (o, mergeOne) at i) in
          let (q, l, m) = bound-step (merge ν bounded p []) (λ q. got (put b s q)) r k in
          let z : q ≡ p = let n : got p ≡ got q = sym (merge-nil ν bounded p) ∙ l in cc in
          let y : put b s p ≡ r = ap (put b s) (sym z) ∙ (let w : put b s q ≡ r = cc in w) in
          let t = put-short b s p in
          rw (sym y) (record { kept = λ x n h. put-kept b s p x (other x h (Memᴰ.cases_cons n)); short = omega arith })
        where
          other : (x : Factor N) → ¬ (orderAtom ν (atomOf x) a ≡ Ordering.eq) → (x ≡ b ↑ d) ⊎ Memᴰ x p → Memᴰ x p
          other x h (inl g) = absurd (h (ap (λ (c : Atom N). orderAtom ν c a) (ap atomOf g) ∙ o))
          other x h (inr m) = m

  -- what passes the limit of factors is what was given
  within_same : (p q : Product N) → within bounded (length p) 64 p ≡ got q → p ≡ q
  within_same p q e = allow-same (leb (length p) 64) 8 p q e

  multiply-is : (p q r : Product N) → multiply ν bounded p q ≡ got r → merge ν bounded p q ≡ got r
  unfolding multiply
  multiply-is p q r e = let (m, i, j) = bound-step (merge ν bounded p q) (λ x. within bounded (length x) 64 x) r e in i ∙ ap got (within_same m r j)

  -- names that are renamed, to names that aren't
  pub record Away (f : Open N → Option (Open N)) : Type 0 where
    pub dimension : (o u : Open N) → f o ≡ some u → asProduct (opened u) ≡ got (just u)
    pub apart : (o u w v : Open N) → f o ≡ some u → f w ≡ some v → ¬ (orderAtom ν (free w) (free u) ≡ Ordering.eq)

  module _ (f : Open N → Option (Open N)) (h : Away f) where
    -- the factors that wait to be renamed stand in the product
    abbrev Waiting : Product N → Product N → Type 0
    Waiting rest acc = (o v : Open N) (e : Exp) → Memᴰ (free o ↑ e) rest → f o ≡ some v → Memᴰ (free o ↑ e) acc

    factors-short : (rest acc r : Product N) → Sorted ν rest → Sorted ν acc → All (λ x. goodPower x ≡ true) rest → Waiting rest acc
        → replaceFactors ν bounded (renamed f) rest acc ≡ got r → length r ≤ length acc
    unfolding replaceFactors divide inverse
    factors-short [] acc r s t g w e = let z : acc ≡ r = cc in rw (sym z) (omega arith)
    factors-short (base n ↑ k ∷ rest) acc r s t g w e = factors-short rest acc r s.1 t (λ x m. g x (Memᴰ.tail m)) (λ o v d m. w o v d (Memᴰ.tail m)) e
    factors-short (free o ↑ k ∷ rest) acc r s t g w e = go (f o) refl (λ acc' t' w' i. factors-short rest acc' r s.1 t' (λ x m. g x (Memᴰ.tail m)) w' i)
      where
        later : (v : Open N) (d : Exp) → Memᴰ (free v ↑ d) rest → ¬ (free v ↑ d ≡ free o ↑ k)
        later v d m i =
            let a : orderAtom ν (free o) (free v) ≡ Ordering.lt = every-all (λ x. orderAtom ν (free o) (atomOf x) ≡ Ordering.lt) rest s.0 (free v ↑ d) m in
            let b : orderAtom ν (free o) (free v) ≡ Ordering.eq = rw (ap atomOf i) (self law (free o)) in
            cc

        moved_on : (u : Open N) → f o ≡ some u
            → ((acc' : Product N) → Sorted ν acc' → Waiting rest acc' → replaceFactors ν bounded (renamed f) rest acc' ≡ got r → length r ≤ length acc')
            → (divide ν bounded acc (free o ↑ k ∷ []) >>= λ left. multiply ν bounded left (free u ↑ k ∷ [])
            >>= λ acc'. replaceFactors ν bounded (renamed f) rest acc') ≡ got r → length r ≤ length acc
        moved_on u i again j =
            let (left, a, b) = bound-step (divide ν bounded acc (free o ↑ k ∷ []))
            (λ left. multiply ν bounded left (free u ↑ k ∷ []) >>= λ acc'. replaceFactors ν bounded (renamed f) rest acc') r j in
            let (acc', c, d) = bound-step (multiply ν bounded left (free u ↑ k ∷ [])) (λ acc'. replaceFactors ν bounded (renamed f) rest acc') r b in
            let (left', (p, out)) = removed ν law (free o) k acc (g (free o ↑ k) in_head) t (w o u k in_head i) in
            let q : merge ν bounded acc (free o ↑ neg k ∷ []) ≡ got left = multiply-is acc (free o ↑ neg k ∷ []) left a in
            let same : left' ≡ left = let z : got left' ≡ got left = sym p ∙ q in cc in
            let m : merge ν bounded left (free u ↑ k ∷ []) ≡ got acc' = multiply-is left (free u ↑ k ∷ []) acc' c in
            let sl : Sorted ν left = ((merge-sorted ν law bounded acc (free o ↑ neg k ∷ []) t (tt, tt)).holds left q).0 in
            let more = added (free u) k left acc' m in
            let out' : Removed (free o ↑ k) acc left = rw same at out in
            let n = again acc' ((merge-sorted ν law bounded left (free u ↑ k ∷ []) sl (tt, tt)).holds acc' m).0
            (λ v x y l z. more.kept (free v ↑ y) (stays left out' v y l (out'.kept (free v ↑ y) (w v x y (Memᴰ.tail l) z)))
            (h.apart o u v x i z)) d in
            let a1 = out'.shorter in
            let a2 = more.short in
            omega arith
          where
            stays : (left : Product N) → Removed (free o ↑ k) acc left → (v : Open N) (y : Exp) → Memᴰ (free v ↑ y) rest
                → (free v ↑ y ≡ free o ↑ k) ⊎ Memᴰ (free v ↑ y) left → Memᴰ (free v ↑ y) left
            stays left out v y l (inl z) = absurd (later v y l z)
            stays left out v y l (inr z) = z

        go : (s : Option (Open N)) → f o ≡ s
            → ((acc' : Product N) → Sorted ν acc' → Waiting rest acc' → replaceFactors ν bounded (renamed f) rest acc' ≡ got r → length r ≤ length acc')
            → length r ≤ length acc
        go none i again = again acc t (λ v x y m. w v x y (Memᴰ.tail m)) (rw (i, replaceFactors) at e)
        go (some u) i again = moved_on u i again (rw (raise-just ν u k (g (free o ↑ k) in_head)) at (rw (h.dimension o u i) at (rw (i, replaceFactors) at e)))

    module _ (held : N → Bool) (q : ℕ) where
      pub product-short : (p r : Product N) → goodProduct ν held q p ≡ true → replaceProduct ν bounded (renamed f) p ≡ got r → length r ≤ length p
      unfolding replaceProduct
      product-short p r g e =
          let a = good-product ν law held q p g in
          factors-short p p r a.in_order a.in_order (λ x m. power x (every-all (GoodFactor ν held q) p a.each x m)) (λ o v d m i. m) e
        where
          power : (x : Factor N) → GoodFactor ν held q x → goodPower x ≡ true
          power (b ↑ d) i = i.1

      -- a name, or what it becomes
      name-short : (o : Open N) (t u : Ty N) → 1 ≤ size t → get_or (renamed f o) t ≡ u → size u ≤ size t
      unfolding size
      name-short o t u k e = go (f o) refl
        where
          go : (s : Option (Open N)) → f o ≡ s → size u ≤ size t
          go none i = let z : t ≡ u = rw i at e in rw (sym z) (omega arith)
          go (some v) i = let z : opened v ≡ u = rw i at e in rw (sym z) k

      dim-short : (s : Option (Open N)) (p : Product N) (u : Ty N) → goodProduct ν held q p ≡ true → replaceDim ν bounded (renamed f) s p ≡ got u
          → size u ≤ size (dim p)
      unfolding replaceDim size
      dim-short (some o) p u g e = name-short o (dim p) u (omega arith) (cc)
      dim-short none p u g e =
          let r = one-step (replaceProduct ν bounded (renamed f) p) dim u e in
          let l = product-short p r.value g r.gave in
          rw (sym r.is) (omega arith)

      mutual
        unfolding replaceTy goodTy size

        -- a type doesn't get more records
        pub ty-short : (t u : Ty N) → goodTy ν held q t ≡ true → replaceTy ν bounded (renamed f) t ≡ got u → size u ≤ size t
        ty-short (opened o) u g e = name-short o (opened o) u (omega arith) (cc)
        ty-short (basic b) u g e = let z : basic b ≡ u = cc in rw (sym z) (omega arith)
        ty-short (dim p) u g e = dim-short (single p) p u g e
        ty-short (fn ps r) u g e =
            let s = two_steps (replaceTys ν bounded (renamed f) ps) (λ _. replaceTy ν bounded (renamed f) r) fn u e in
            let a = tys-short ps s.first (and_left (goodTys ν held q ps) _ g) s.gave in
            let b = ty-short r s.second (and_right (goodTys ν held q ps) _ g) s.then in
            rw (sym s.both) (omega arith)
        ty-short (struct n as' fs) u g e =
            let s = two_steps (replaceTys ν bounded (renamed f) as') (λ _. replaceFields ν bounded (renamed f) fs) (struct n) u e in
            let ga = and_left (held n && goodTys ν held q as' && goodFields ν held q fs) _ g in
            let a = tys-short as' s.first (and_right (held n) _ (and_left (held n && goodTys ν held q as') _ ga)) s.gave in
            let b = fields-short fs s.second (and_right (held n && goodTys ν held q as') _ ga) s.then in
            rw (sym s.both) (omega arith)
        ty-short (list t) u g e =
            let s = one-step (replaceTy ν bounded (renamed f) t) list u e in
            let a = ty-short t s.value g s.gave in
            rw (sym s.is) (omega arith)

        tys-short : (ts us : Tys N) → goodTys ν held q ts ≡ true → replaceTys ν bounded (renamed f) ts ≡ got us → sizeTys us ≤ sizeTys ts
        tys-short nil us g e = let z : nil ≡ us = cc in rw (sym z) (omega arith)
        tys-short (cons t ts) us g e =
            let s = two_steps (replaceTy ν bounded (renamed f) t) (λ _. replaceTys ν bounded (renamed f) ts) cons us e in
            let a = ty-short t s.first (and_left (goodTy ν held q t) _ g) s.gave in
            let b = tys-short ts s.second (and_right (goodTy ν held q t) _ g) s.then in
            rw (sym s.both) (omega arith)

        fields-short : (fs gs : Fields N) → goodFields ν held q fs ≡ true → replaceFields ν bounded (renamed f) fs ≡ got gs → sizeFields gs ≤ sizeFields fs
        fields-short noFields gs g e = let z : noFields ≡ gs = cc in rw (sym z) (omega arith)
        fields-short (field n t fs) gs g e =
            let s = two_steps (replaceTy ν bounded (renamed f) t) (λ _. replaceFields ν bounded (renamed f) fs) (field n) gs e in
            let a = ty-short t s.first (and_right (held n) _ (and_left (held n && goodTy ν held q t) _ g)) s.gave in
            let b = fields-short fs s.second (and_right (held n && goodTy ν held q t) _ g) s.then in
            rw (sym s.both) (omega arith)

  -- putting handed names back is such a renaming
  pub back-away : (vs : List N) → Away (back vs)
  unfolding asProduct orderAtom orderOpen
  back-away vs = record {
    dimension = λ o u e. let (i, (x, (j, (k, l)))) = back_is vs o u e in rw k;
    apart = λ o u w v e d i. let (a, (x, (j, (k, l)))) = back_is vs o u e in let (b, (y, (m, (n, p)))) = back_is vs w v d in later u w b x k m i;
  }
    where
      later : (u w : Open N) (b : ℕ) (x : N) → u ≡ var x → w ≡ quant b → orderAtom ν (free w) (free u) ≡ Ordering.eq → ⊥
      later u w b x i j e = let k : Ordering.gt ≡ Ordering.eq = rw (i, j) at e in cc
