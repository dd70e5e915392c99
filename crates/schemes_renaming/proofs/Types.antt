-- Renaming a type twice is renaming it once; renaming each variable by itself reads single variables as variables.
use Rattle.std.specs.Prelude.{◌≡◌, Bool, true, ◌&&◌, ◌⊎◌, ℕ}
use Rattle.std.proofs.Math.Path.{refl, ap}
use Rattle.std.proofs.Common.{sym, ◌∙◌, inl, inr, arith}
use Rattle.std.proofs.Math.Option.{Option, none, some, get_or}
use mathlib.Core.List.Memᴰ
use mathlib.Core.List.{[], ◌∷◌, Memᴰ}
use Rattle.std.proofs.Math.ListN.{length}
use Rattle.rules.specs.Base.{got, bounded, collect}
use Rattle.rules.specs.Exponents.{Exp, one, Exp-dec}
use Rattle.rules.specs.Trees.{
  Open,
  var,
  quant,
  par,
  free,
  base,
  Factor,
  ◌↑◌,
  Product,
  Names,
  Ty,
  opened,
  basic,
  dim,
  fn,
  struct,
  list,
  Tys,
  nil,
  cons,
  Fields,
  noFields,
  field,
  orderAtom,
  openOfFactor,
  opens,
  opensTys,
  opensFields,
}
use Rattle.rules.specs.Products.{just, single}
use Rattle.rules.specs.Replacing.{asProduct, replaceFactors, replaceProduct, replaceDim, replaceTy, replaceTys, replaceFields}
use Rattle.rules.specs.Schemes.{renamed}
use Rattle.rules.specs.WellFormed.{goodProduct, goodTy, goodTys, goodFields}
use Rattle.laws.specs.Order.{Lawful, Tells}
use Rattle.laws.specs.Lists.{and_left, and_right, All, in_head}
use Rattle.laws.proofs.Lists.{some≢none, got≢refused, collect-to}
use Rattle.laws.specs.GoodProducts.{goodAtom}
use Rattle.laws.proofs.RuleCases.{single-is}
use Rattle.schemes_renaming.proofs.Factors.{same-factors}
use Rattle.schemes_renaming.proofs.Products.{moved, movedFactor, moved_none, moved-some, Renames, Moved, Renamed, product-renamed, renamed-good, renamed-names}

module _ {N : Type 0} where
  -- renamed by f, then by g
  unfoldable pub andLater : Option (Open N) → (Open N → Option (Open N)) → Open N → Option (Open N)
  andLater none g o = g o
  andLater (some u) g o = some (moved g u)

  -- the names that those of P become
  abbrev pub Becomes : (Open N → Type 0) → (Open N → Option (Open N)) → Open N → Type 0
  Becomes P f u = (o : Open N) × (P o × (u ≡ moved f o))

  -- a name that counts as a product is the variable of its product
  pub single-just : (o : Open N) → asProduct (opened o) ≡ got (just o) → single (just o) ≡ some o
  unfolding single asProduct Exp-dec
  single-just (var x) e = refl
  single-just (quant i) e = refl
  single-just (par x) e = absurd (got≢refused (sym e))

  -- what a type is bound to by a renaming
  opened-renamed : (f : Open N → Option (Open N)) (o : Open N) → get_or (renamed f o) (opened o) ≡ opened (moved f o)
  opened-renamed f o = go (f o) refl
    where
      go : (t : Option (Open N)) → f o ≡ t → get_or (renamed f o) (opened o) ≡ opened (moved f o)
      go none i = rw i
      go (some u) i = rw i

module _ {N : Type 0} (ν : Names N) (law : Lawful (orderAtom ν)) (held : N → Bool) (q : ℕ)
    (tells : Tells (λ a. goodAtom ν held q a ≡ true) (orderAtom ν)) (P : Open N → Type 0) where
  -- ══ Twice is once ══

  -- f, then g, on the names of P is h; a parameter that f renames, g leaves alone
  pub record Twice (f g h : Open N → Option (Open N)) : Type 0 where
    pub first : Renames ν held q P f
    pub second : Renames ν held q (Becomes P f) g
    pub whole : Renames ν held q P h
    pub same : (o : Open N) → P o → h o ≡ andLater (f o) g o
    pub still : (o u : Open N) → P o → f o ≡ some u → (asProduct (opened o) ≡ got (just o)) ⊎ (g u ≡ none)

  module _ (f g h : Open N → Option (Open N)) (w : Twice f g h) where
    once : (o : Open N) → P o → moved h o ≡ moved g (moved f o)
    unfolding andLater
    once o p = go (f o) refl (w.same o p)
      where
        go : (t : Option (Open N)) → f o ≡ t → h o ≡ andLater t g o → moved h o ≡ moved g (moved f o)
        go none i j = rw (i, j)
        go (some u) i j = rw (i, j)

    once-factor : (p : Product N) → All P (collect openOfFactor p) → (z : Factor N) → Memᴰ z p → movedFactor h z ≡ movedFactor g (movedFactor f z)
    unfolding collect
    once-factor p k (base n ↑ e) m = refl
    once-factor p k (free o ↑ e) m = ap (λ (u : Open N). free u ↑ e) (once o (k o (occurs p m)))
      where
        occurs : (r : Product N) → Memᴰ (free o ↑ e) r → Memᴰ o (collect openOfFactor r)
        occurs r m = collect-to openOfFactor r (free o ↑ e) o m in_head

    -- the product of f and g, and that of h
    product-once : (p r s s' : Product N) → All P (collect openOfFactor p) → Renamed ν law held q tells P f w.first p r → Moved ν g (λ z. Memᴰ z r) s
        → Moved ν h (λ z. Memᴰ z p) s' → s ≡ s'
    product-once p r s s' k a b c = same-factors ν law s s' b.in_order c.in_order
        (λ x m.
        let (y, (i, j)) = b.from x m in
        let (z, (l, n)) = a.moves.from y i in
        let e : movedFactor h z ≡ x = once-factor p k z l ∙ ap (movedFactor g) (sym n) ∙ sym j in
        rw e at (c.to z l))
        (λ x m.
        let (z, (l, n)) = c.from x m in
        let e : movedFactor g (movedFactor f z) ≡ x = sym (once-factor p k z l) ∙ sym n in
        rw e at (b.to (movedFactor f z) (a.moves.to z l)))

    -- a product that is one variable after f, and wasn't before: it was one parameter
    alone : (p r : Product N) (u : Open N) → All P (collect openOfFactor p) → Renamed ν law held q tells P f w.first p r → single p ≡ none
        → single r ≡ some u → g u ≡ none
    unfolding collect
    alone [] r u k a e i = absurd (let j : r ≡ just u = single-is r u i in let n : length r ≡ 1 = rw j in let l = a.long in omega arith)
    alone (z ∷ y ∷ p) r u k a e i = absurd (let j : r ≡ just u = single-is r u i in let n : length r ≡ 1 = rw j in let l = a.long in omega arith)
    alone (z ∷ []) r u k a e i = go z refl
      where
        j : r ≡ just u
        j = single-is r u i

        here : movedFactor f z ≡ free u ↑ one
        here = Memᴰ.eq_of_singleton (rw j at (a.moves.to z in_head))

        go : (y : Factor N) → z ≡ y → g u ≡ none
        go (base b ↑ c) l = absurd (let m : base b ↑ c ≡ free u ↑ one = ap (movedFactor f) (sym l) ∙ here in cc)
        go (free o ↑ c) l = more (f o) refl
          where
            m : free (moved f o) ↑ c ≡ free u ↑ one
            m = ap (movedFactor f) (sym l) ∙ here

            power : c ≡ one
            power = let n = m in cc

            to : moved f o ≡ u
            to = let n = m in cc

            its : z ∷ [] ≡ just o
            its = ap (λ (x : Factor N). x ∷ []) (l ∙ ap (λ (b : Exp). free o ↑ b) power)

            p : P o
            p = k o (collect-to openOfFactor (z ∷ []) (free o ↑ c) o (Memᴰ.head (sym l)) in_head)

            more : (t : Option (Open N)) → f o ≡ t → g u ≡ none
            more none n =
                let x : o ≡ u = sym (moved_none f o n) ∙ to in
                absurd (some≢none (sym i ∙ ap single (j ∙ ap just (sym x) ∙ sym its) ∙ e))
            more (some v) n = last (w.still o v p n)
              where
                x : v ≡ u
                x = sym (moved-some f o v n) ∙ to

                last : (asProduct (opened o) ≡ got (just o)) ⊎ (g v ≡ none) → g u ≡ none
                last (inl b) = absurd (some≢none (sym (single-just o b) ∙ ap single (sym its) ∙ e))
                last (inr b) = rw x at b

    -- a name that stays leaves its product
    alone-stays : (u : Open N) → g u ≡ none → replaceProduct ν bounded (renamed g) (just u) ≡ got (just u)
    unfolding replaceProduct replaceFactors
    alone-stays u i = rw (i, replaceFactors)

    abbrev Both : Ty N → Type 0
    Both t = (u : Ty N) × ((replaceTy ν bounded (renamed f) t ≡ got u) × (replaceTy ν bounded (renamed g) u ≡ replaceTy ν bounded (renamed h) t))

    dim-twice : (p : Product N) → goodProduct ν held q p ≡ true → All P (collect openOfFactor p) → Both (dim p)
    unfolding replaceTy replaceDim collect andLater
    dim-twice p good k = go (single p) refl
      where
        one_name : (o : Open N) → single p ≡ some o → P o → (t : Option (Open N)) → f o ≡ t → h o ≡ andLater t g o → Both (dim p)
        one_name o i l none j n = (dim p, (rw (i, replaceDim, j), rw (i, replaceDim, n)))
        one_name o i l (some u) j n = (opened u, (rw (i, replaceDim, j), rw (i, replaceDim, n) (ap got (opened-renamed g u))))

        product : (r s s' : Product N) → single p ≡ none → Renamed ν law held q tells P f w.first p r
            → Renamed ν law held q tells (Becomes P f) g w.second r s → Renamed ν law held q tells P h w.whole p s' → (b : Option (Open N))
            → single r ≡ b → Both (dim p)
        product r s s' i a c d none j = (
          dim r,
          (
            rw (i, replaceDim) (rw a.is),
            rw (j, i, replaceDim) (rw (c.is, d.is) (ap (λ (x : Product N). got (dim x)) (product-once p r s s' k a c.moves d.moves))),
          ),
        )
        product r s s' i a c d (some u) j =
            let n : g u ≡ none = alone p r u k a i j in
            let v : r ≡ just u = single-is r u j in
            let x : got s ≡ got r = sym c.is ∙ ap (replaceProduct ν bounded (renamed g)) v ∙ alone-stays u n ∙ ap got (sym v) in
            let y : s ≡ r = cc in (
              dim r,
              (
                rw (i, replaceDim) (rw a.is),
                rw (j, i, replaceDim) (rw (n, d.is) (ap (λ (x : Product N). got (dim x)) (sym y ∙ product-once p r s s' k a c.moves d.moves))),
              ),
            )

        go : (b : Option (Open N)) → single p ≡ b → Both (dim p)
        go (some o) i = let l : P o = k o (rw (single-is p o i) in_head) in one_name o i l (f o) refl (w.same o l)
        go none i =
            let (r, a) = product-renamed ν law held q tells P f w.first p good k in
            let (s, c) = product-renamed ν law held q tells (Becomes P f) g w.second r (renamed-good ν law held q tells P f w.first p r good k a)
            (renamed-names ν law held q tells P f w.first p r good k a) in
            let (s', d) = product-renamed ν law held q tells P h w.whole p good k in
            product r s s' i a c d (single r) refl

    mutual
      unfolding replaceTy opens goodTy andLater

      pub ty-twice : (t : Ty N) → goodTy ν held q t ≡ true → All P (opens t) → Both t
      ty-twice (opened o) good k = (
        opened (moved f o),
        (ap got (opened-renamed f o), ap got (opened-renamed g (moved f o) ∙ ap opened (sym (once o (k o in_head))) ∙ sym (opened-renamed h o))),
      )
      ty-twice (basic b) good k = (basic b, (refl, refl))
      ty-twice (dim p) good k = dim-twice p good k
      ty-twice (fn ps r) good k =
          let (us, (a, b)) = tys_twice ps (and_left (goodTys ν held q ps) _ good) (λ o m. k o (Memᴰ.append_left (opens r) m)) in
          let (u, (c, d)) = ty-twice r (and_right (goodTys ν held q ps) _ good) (λ o m. k o (Memᴰ.append_right (opensTys ps) m)) in
          (fn us u, (rw (a, c), rw (b, d)))
      ty-twice (struct n as' fs) good k =
          let ga = and_left (held n && goodTys ν held q as' && goodFields ν held q fs) _ good in
          let (us, (a, b)) = tys_twice as' (and_right (held n) _ (and_left (held n && goodTys ν held q as') _ ga))
          (λ o m. k o (Memᴰ.append_left (opensFields fs) m)) in
          let (gs, (c, d)) = fields-twice fs (and_right (held n && goodTys ν held q as') _ ga) (λ o m. k o (Memᴰ.append_right (opensTys as') m)) in
          (struct n us gs, (rw (a, c), rw (b, d)))
      ty-twice (list t) good k = let (u, (a, b)) = ty-twice t good k in (list u, (rw a, rw b))

      tys_twice : (ts : Tys N) → goodTys ν held q ts ≡ true → All P (opensTys ts)
          → (us : Tys N) × ((replaceTys ν bounded (renamed f) ts ≡ got us) × (replaceTys ν bounded (renamed g) us ≡ replaceTys ν bounded (renamed h) ts))
      tys_twice nil good k = (nil, (refl, refl))
      tys_twice (cons t ts) good k =
          let (u, (a, b)) = ty-twice t (and_left (goodTy ν held q t) _ good) (λ o m. k o (Memᴰ.append_left (opensTys ts) m)) in
          let (us, (c, d)) = tys_twice ts (and_right (goodTy ν held q t) _ good) (λ o m. k o (Memᴰ.append_right (opens t) m)) in
          (cons u us, (rw (a, c), rw (b, d)))

      fields-twice : (fs : Fields N) → goodFields ν held q fs ≡ true → All P (opensFields fs)
          → (gs : Fields N) × ((replaceFields ν bounded (renamed f) fs ≡ got gs)
          × (replaceFields ν bounded (renamed g) gs ≡ replaceFields ν bounded (renamed h) fs))
      fields-twice noFields good k = (noFields, (refl, refl))
      fields-twice (field n t fs) good k =
          let (u, (a, b)) = ty-twice t (and_right (held n) _ (and_left (held n && goodTy ν held q t) _ good))
          (λ o m. k o (Memᴰ.append_left (opensFields fs) m)) in
          let (gs, (c, d)) = fields-twice fs (and_right (held n && goodTy ν held q t) _ good) (λ o m. k o (Memᴰ.append_right (opens t) m)) in
          (field n u gs, (rw (a, c), rw (b, d)))
