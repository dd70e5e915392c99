-- Replacing by well formed types, and each rule, give well formed types and constraints again.
use Rattle.std.specs.Prelude.{◌≡◌, Bool, ◌&&◌, ◌⊎◌, ℕ, suc, length}
use Rattle.std.proofs.Math.Path.{refl, ap}
use Rattle.std.proofs.Common.{◌∙◌, sym, inl, inr, arith}
use Rattle.std.proofs.Math.Bool.{true, false}
use Rattle.std.proofs.Math.Option.{Option, none, some, get_or}
use mathlib.Core.List.{List, [], ◌∷◌, map, cons≢nil, Memᴰ}
use Rattle.rules.specs.Base.{got, refused, bounded, each, is_yes}
use Rattle.rules.specs.Exponents.{Exp, nought, one, isZero, in_range, neg, mul, inverted, times, goodStored, quotient}
use Rattle.rules.specs.Trees.{
  Open,
  var,
  quant,
  par,
  Atom,
  free,
  base,
  ◌↑◌,
  Product,
  Names,
  Ty,
  opened,
  basic,
  dim,
  fn,
  struct,
  list,
  Tys,
  nil,
  cons,
  Fields,
  noFields,
  field,
  Con,
  equal,
  isDim,
  is_scalar,
  hasField,
  Binding,
  ◌≔◌,
  orderAtom,
  opens,
}
use Rattle.rules.specs.Contents.{fieldIn}
use Rattle.rules.specs.Products.{just, single}
use Rattle.rules.specs.Replacing.{Look, asProduct, replaceFactors, replaceProduct, replaceDim, replaceTy, replaceTys, replaceFields, replaceCon, replaceBinding}
use Rattle.rules.specs.Rounds.{Step, otherSide, pairs}
use Rattle.rules.specs.WellFormed.{atomOf, fieldNames, goodOpen, goodProduct, goodTy, goodTys, goodFields, goodCon, goodBinding}
use Rattle.laws.specs.Order.{Lawful}
use Rattle.laws.proofs.Value.{Gives, gives, refuses, next, weaken, together, its_own}
use Rattle.laws.proofs.Sorted.{sorted, sorted_rises}
use Rattle.laws.specs.Fractions.{Lowest}
use Rattle.laws.proofs.Fractions.{
  neg-lowest,
  mul-in-lowest,
  inverted-lowest,
  inverted-none,
  mul-comm',
  mul-assoc',
  mul-one',
  mul-inverted,
  zero-is-nought,
  neg-zero,
  nought-mul,
}
use Rattle.laws.proofs.Ranges.{good-lowest, one-good, stored-good, stored-not-zero, is-stored, neg-good, quotient-good}
use Rattle.laws.specs.GoodProducts.{goodAtom}
use Rattle.laws.proofs.GoodProducts.{GoodFactor, good-product, product-good, multiply_good, divide-good, raise-good}
use Rattle.laws.specs.RuleCases.{After}
use Rattle.laws.proofs.RuleCases.{
  Reads,
  Sides,
  Rule,
  none-applies,
  equal-records,
  binds,
  two-functions,
  two-lists,
  two-structs,
  as-product,
  two-dimensions,
  dimension,
  no-factor,
  first-factor,
  closed-struct,
  part_of,
}
use Rattle.laws.specs.Lists.{and_left, and_right, All, all_nil, all_cons, Every}
use Rattle.laws.proofs.Lists.{true≢false, some≢none, got≢refused, allow-same, and_both, every-all}
use Rattle.laws.proofs.KnownNames.{product-known}

same_length : {N : Type 0} (p r : Product N) → map atomOf p ≡ map atomOf r → length p ≡ length r
same_length [] [] e = refl
same_length [] (b ↑ d ∷ r) e = absurd (cons≢nil (sym e))
same_length (a ↑ j ∷ p) [] e = absurd (cons≢nil e)
same_length (a ↑ j ∷ p) (b ↑ d ∷ r) e = ap suc (same_length p r (cc))

-- a quotient of what isn't 0
quotient_is : (a b s : Exp) → quotient bounded a b ≡ got s → (i : Exp) × (inverted b ≡ some i) × (s ≡ mul a i)
unfolding quotient times
quotient_is a b s e = go (inverted b) refl
  where
    go : (o : Option Exp) → inverted b ≡ o → (i : Exp) × (inverted b ≡ some i) × (s ≡ mul a i)
    go none j = let z : refused 7 ≡ got s = rw (j, quotient) at e in absurd (got≢refused (sym z))
    go (some i) j = (i, j, sym (allow-same (in_range (mul a i)) 7 (mul a i) s (rw (j, quotient) at e)))

-- a power that isn't 0 has an inverse
pub has-inverse : (k : Exp) → Lowest k → isZero k ≡ false → (i : Exp) × (inverted k ≡ some i)
has-inverse k l z = go (inverted k) refl
  where
    go : (o : Option Exp) → inverted k ≡ o → (i : Exp) × (inverted k ≡ some i)
    go none e = absurd (true≢false (sym (ap isZero (inverted-none k l e)) ∙ z))
    go (some i) e = (i, e)

pub quotient-not-zero : (j k s : Exp) → Lowest j → Lowest k → isZero j ≡ false → quotient bounded (neg j) k ≡ got s → isZero s ≡ false
quotient-not-zero j k s l m h e = go (isZero s) refl
  where
    go : (b : Bool) → isZero s ≡ b → isZero s ≡ false
    go false z = z
    go true z =
        let r = quotient_is (neg j) k s e in
        let i = r.0 in
        let li : Lowest i = inverted-lowest k i m r.1 in
        let ln : Lowest (neg j) = neg-lowest j l in
        let none_left : s ≡ nought = zero-is-nought s (rw r.2 (mul-in-lowest (neg j) i ln li)) z in
        let back : neg j ≡ nought =
        sym (mul-one' (neg j) ln) ∙ ap (mul (neg j)) (sym (mul-comm' i k ∙ mul-inverted k i m r.1)) ∙ sym (mul-assoc' (neg j) i k ln li m)
        ∙ ap (λ (x : Exp). mul x k) (sym r.2 ∙ none_left) ∙ nought-mul k m in
        absurd (true≢false (sym (ap isZero back) ∙ neg-zero j ∙ h))

module _ {N : Type 0} (ν : Names N) (law : Lawful (orderAtom ν)) (held : N → Bool) (q : ℕ) where
  abbrev pub GoodTy : Ty N → Type 0
  GoodTy t = goodTy ν held q t ≡ true

  abbrev pub GoodCon : Con N → Type 0
  GoodCon c = goodCon ν held q c ≡ true

  one-factor : (a : Atom N) (e : Exp) → goodAtom ν held q a ≡ true → goodStored e ≡ true → goodProduct ν held q (a ↑ e ∷ []) ≡ true
  one-factor a e h k = product-good ν law held q (a ↑ e ∷ []) (record { in_order = (tt, tt); each = ((h, k), tt); few = omega arith })

  stored_one : goodStored one ≡ true
  stored_one = is-stored one refl one-good

  pub just-good : (o : Open N) → goodOpen ν held q o ≡ true → goodProduct ν held q (just o) ≡ true
  just-good o h = one-factor (free o) one h stored_one

  pub dimension-good : (t : Ty N) → GoodTy t → Gives (asProduct t) (λ d. goodProduct ν held q d ≡ true)
  unfolding asProduct goodTy
  dimension-good (opened (var x)) h = gives (just-good (var x) h)
  dimension-good (opened (quant i)) h = gives (just-good (quant i) h)
  dimension-good (opened (par x)) h = refuses
  dimension-good (basic b) h = refuses
  dimension-good (dim p) h = gives h
  dimension-good (fn ps r) h = refuses
  dimension-good (struct n as' fs) h = refuses
  dimension-good (list t) h = refuses

  -- ══ Replacing ══

  module _ (look : Look N) (bound : (o : Open N) (t : Ty N) → look o ≡ some t → GoodTy t) where
    factors-good : (p acc : Product N) → Every (GoodFactor ν held q) p → goodProduct ν held q acc ≡ true
        → Gives (replaceFactors ν bounded look p acc) (λ r. goodProduct ν held q r ≡ true)
    unfolding replaceFactors
    factors-good [] acc h k = gives k
    factors-good (base n ↑ e ∷ p) acc h k = factors-good p acc h.1 k
    factors-good (free o ↑ e ∷ p) acc h k = go (look o) refl (λ acc' i. factors-good p acc' h.1 i)
      where
        go : (t : Option (Ty N)) → look o ≡ t
            → ((acc' : Product N) → goodProduct ν held q acc' ≡ true
            → Gives (replaceFactors ν bounded look p acc') (λ r. goodProduct ν held q r ≡ true))
            → Gives (replaceFactors ν bounded look (free o ↑ e ∷ p) acc) (λ r. goodProduct ν held q r ≡ true)
        go none i r = rw (i, replaceFactors) (r acc k)
        go (some t) i r =
            rw (i, replaceFactors)
            (next (dimension-good t (bound o t i)) (λ d j.
            next (divide-good ν law held q acc (free o ↑ e ∷ []) k (one-factor (free o) e h.0.0 h.0.1)) (λ left m.
            next (raise-good ν law held q d e j (stored-good e h.0.1)) (λ more n.
            next (multiply_good ν law held q left more m n) r))))

    pub product-kept : (p : Product N) → goodProduct ν held q p ≡ true → Gives (replaceProduct ν bounded look p) (λ r. goodProduct ν held q r ≡ true)
    unfolding replaceProduct
    product-kept p h = factors-good p p (good-product ν law held q p h).each h

    or-else-good : (o : Open N) (u : Ty N) → GoodTy u → GoodTy (get_or (look o) u)
    or-else-good o u h = go (look o) refl
      where
        go : (t : Option (Ty N)) → look o ≡ t → GoodTy (get_or t u)
        go none i = h
        go (some t) i = bound o t i

    dim-kept : (s : Option (Open N)) (p : Product N) → goodProduct ν held q p ≡ true → Gives (replaceDim ν bounded look s p) GoodTy
    unfolding replaceDim goodTy
    dim-kept none p h = next (product-kept p h) (λ r i. gives i)
    dim-kept (some o) p h = gives (or-else-good o (dim p) h)

    mutual
      unfolding replaceTy goodTy

      pub ty_kept : (t : Ty N) → GoodTy t → Gives (replaceTy ν bounded look t) GoodTy
      ty_kept (opened o) h = gives (or-else-good o (opened o) h)
      ty_kept (basic b) h = gives refl
      ty_kept (dim p) h = dim-kept (single p) p h
      ty_kept (fn ps r) h = next (tys_kept ps (and_left (goodTys ν held q ps) _ h))
          (λ ps' i. next (ty_kept r (and_right (goodTys ν held q ps) _ h)) (λ r' j. gives (and_both i j)))
      ty_kept (struct n as' fs) h =
          next (tys_kept as' (and_right (held n) _
          (and_left (held n && goodTys ν held q as') _ (and_left (held n && goodTys ν held q as' && goodFields ν held q fs) _ h)))) (λ as'' i.
          next (fields-kept fs (and_right (held n && goodTys ν held q as') _
          (and_left (held n && goodTys ν held q as' && goodFields ν held q fs) _ h))) (λ fs' j.
          gives (and_both (and_both (and_both
          (and_left (held n) _ (and_left (held n && goodTys ν held q as') _
          (and_left (held n && goodTys ν held q as' && goodFields ν held q fs) _ h))) i) j.0)
          (rw j.1 (and_right (held n && goodTys ν held q as' && goodFields ν held q fs) _ h)))))
      ty_kept (list t) h = next (ty_kept t h) (λ u i. gives i)

      pub tys_kept : (ts : Tys N) → goodTys ν held q ts ≡ true → Gives (replaceTys ν bounded look ts) (λ us. goodTys ν held q us ≡ true)
      tys_kept nil h = gives refl
      tys_kept (cons t ts) h = next (ty_kept t (and_left (goodTy ν held q t) _ h))
          (λ u i. next (tys_kept ts (and_right (goodTy ν held q t) _ h)) (λ us j. gives (and_both i j)))

      pub fields-kept : (fs : Fields N) → goodFields ν held q fs ≡ true
          → Gives (replaceFields ν bounded look fs) (λ gs. (goodFields ν held q gs ≡ true) × (fieldNames gs ≡ fieldNames fs))
      fields-kept noFields h = gives (refl, refl)
      fields-kept (field n t fs) h =
          next (ty_kept t (and_right (held n) _ (and_left (held n && goodTy ν held q t) _ h))) (λ u i.
          next (fields-kept fs (and_right (held n && goodTy ν held q t) _ h)) (λ gs j.
          gives (and_both (and_both (and_left (held n) _ (and_left (held n && goodTy ν held q t) _ h)) i) j.0, ap (n ∷◌) j.1)))

    pub con-kept : (c : Con N) → GoodCon c → Gives (replaceCon ν bounded look c) GoodCon
    unfolding replaceCon goodCon
    con-kept (equal s t) h = next (ty_kept s (and_left (goodTy ν held q s) _ h))
        (λ s' i. next (ty_kept t (and_right (goodTy ν held q s) _ h)) (λ t' j. gives (and_both i j)))
    con-kept (isDim t) h = next (ty_kept t h) (λ t' i. gives i)
    con-kept (is_scalar p) h = next (product-kept p h) (λ r i. gives i)
    con-kept (hasField n s t) h =
        next (ty_kept s (and_right (held n) _ (and_left (held n && goodTy ν held q s) _ h))) (λ s' i.
        next (ty_kept t (and_right (held n && goodTy ν held q s) _ h)) (λ t' j.
        gives (and_both (and_both (and_left (held n) _ (and_left (held n && goodTy ν held q s) _ h)) i) j)))

    pub binding-kept : (b : Binding N) → goodBinding ν held q b ≡ true → Gives (replaceBinding ν bounded look b) (λ c. goodBinding ν held q c ≡ true)
    unfolding replaceBinding goodBinding
    binding-kept (x ≔ t) h = next (ty_kept t (and_right (held x) _ h)) (λ u i. gives (and_both (and_left (held x) _ h) i))

  -- ══ The rules ══

  -- 'the other factors with -j/k for each power j'
  module _ (k : Exp) (h : goodStored k ≡ true) where
    other-good : (a : Atom N) (j : Exp) → GoodFactor ν held q (a ↑ j)
        → Gives (otherSide bounded k (a ↑ j)) (λ f. (e : Exp) × (f ≡ a ↑ e) × GoodFactor ν held q (a ↑ e))
    unfolding otherSide
    other-good a j g =
        next (together (quotient-good (neg j) k (neg-good j (stored-good j g.1)) (stored-good k h)) (its_own (quotient bounded (neg j) k))) (λ s i.
        gives (
          s,
          refl,
          (
            g.0,
            is-stored s
                (quotient-not-zero j k s (good-lowest j (stored-good j g.1)) (good-lowest k (stored-good k h)) (stored-not-zero j g.1) i.1) i.0,
          ),
        ))

    -- good factors of the same atoms
    abbrev Alongside : Product N → Product N → Type 0
    Alongside p r = Every (GoodFactor ν held q) r × (map atomOf r ≡ map atomOf p)

    others-good : (p : Product N) → Every (GoodFactor ν held q) p → Gives (each (otherSide bounded k) p) (Alongside p)
    unfolding each
    others-good [] g = gives (tt, refl)
    others-good (a ↑ j ∷ p) g =
        next (other-good a j g.0) (λ f i. next (others-good p g.1) (λ r m.
        gives (rw i.1 ((i.2, m.0), ap (a ∷◌) m.1))))

    pub other-side-good : (a : Atom N) (p : Product N) → goodProduct ν held q (a ↑ k ∷ p) ≡ true
        → Gives (each (otherSide bounded k) p) (λ r. goodProduct ν held q r ≡ true)
    other-side-good a p g =
        let f = good-product ν law held q (a ↑ k ∷ p) g in
        weaken (others-good p f.each.1) (λ r i. product-good ν law held q r (record {
          in_order = sorted ν law r (rw i.1 (sorted_rises ν law p f.in_order.1));
          each = i.0;
          few = let n : length r ≡ length p = same_length r p i.1 in omega (arith, f.few);
        }))

  pairs-good : (ts us : Tys N) → goodTys ν held q ts ≡ true → goodTys ν held q us ≡ true → All GoodCon (pairs ts us)
  unfolding pairs goodTy goodCon
  pairs-good nil us h k = all_nil GoodCon
  pairs-good (cons t ts) nil h k = all_nil GoodCon
  pairs-good (cons t ts) (cons u us) h k =
      all_cons GoodCon (and_both (and_left (goodTy ν held q t) _ h) (and_left (goodTy ν held q u) _ k))
      (pairs-good ts us (and_right (goodTy ν held q t) _ h) (and_right (goodTy ν held q u) _ k))

  -- the names of a well formed product are held
  opens-good : (p : Product N) → goodProduct ν held q p ≡ true → All (λ o. goodOpen ν held q o ≡ true) (opens (dim p))
  opens-good p h = every-all (λ o. goodOpen ν held q o ≡ true) (opens (dim p)) (product-known ν held q p h)

  reads_held : (x : N) (side : Ty N) → Reads x side → GoodTy side → held x ≡ true
  unfolding goodTy goodOpen
  reads_held x side (inl e) h = rw e at h
  reads_held x side (inr e) h = (good-product ν law held q (just (var x)) (rw e at h)).each.0.0

  field-good : (n : N) (fs : Fields N) (u : Ty N) → goodFields ν held q fs ≡ true → fieldIn ν n fs ≡ some u → GoodTy u
  unfolding fieldIn goodTy
  field-good n noFields u h e = absurd (some≢none (sym e))
  field-good n (field m t fs) u h e = go (is_yes (ν.same n m)) refl (field-good n fs u (and_right (held m && goodTy ν held q t) _ h))
    where
      go : (b : Bool) → is_yes (ν.same n m) ≡ b → (fieldIn ν n fs ≡ some u → GoodTy u) → GoodTy u
      go true i r = let z : some t ≡ some u = rw (i, fieldIn) at e in let y : t ≡ u = cc
          in rw (sym y) (and_right (held m) _ (and_left (held m && goodTy ν held q t) _ h))
      go false i r = r (rw (i, fieldIn) at e)

  pub record GoodBind (x : N) (t : Ty N) : Type 0 where
    pub name : held x ≡ true
    pub type : GoodTy t

  -- the two sides of a well formed equality
  pub sides-good : (c : Con N) (s t : Ty N) → Sides c s t → GoodCon c → GoodTy s × GoodTy t
  unfolding goodCon
  sides-good c s t (inl e) h = let g : (goodTy ν held q s && goodTy ν held q t) ≡ true = rw e at h
      in (and_left (goodTy ν held q s) _ g, and_right (goodTy ν held q s) _ g)
  sides-good c s t (inr e) h = let g : (goodTy ν held q t && goodTy ν held q s) ≡ true = rw e at h
      in (and_right (goodTy ν held q t) _ g, and_left (goodTy ν held q t) _ g)

  -- what a rule puts in, or binds, is well formed
  pub rule-good : (c : Con N) (s : Step N) → Rule ν bounded c s → GoodCon c → After (All GoodCon) GoodBind s
  unfolding goodCon goodTy goodOpen
  rule-good c s (none-applies e) h = rw e tt
  rule-good c s (equal-records t i e) h = rw e tt
  rule-good c s (binds x side t i r n e) h = let g = sides-good c side t i h in rw e (record { name = reads_held x side r g.0; type = g.1 })
  rule-good c s (two-functions ps qs r r' n i e) h =
      let g = sides-good c (fn ps r) (fn qs r') (inl i) h in
      rw e (all_cons GoodCon (and_both (and_right (goodTys ν held q ps) _ g.0) (and_right (goodTys ν held q qs) _ g.1))
      (pairs-good ps qs (and_left (goodTys ν held q ps) _ g.0) (and_left (goodTys ν held q qs) _ g.1)))
  rule-good c s (two-lists t u i e) h = let g = sides-good c (list t) (list u) (inl i) h in rw e (all_cons GoodCon (and_both g.0 g.1) (all_nil GoodCon))
  rule-good c s (two-structs n as' bs fs gs k i e) h =
      let g = sides-good c (struct n as' fs) (struct n bs gs) (inl i) h in
      rw e (pairs-good as' bs (arguments-good n as' fs g.0) (arguments-good n bs gs g.1))
    where
      arguments-good : (n : N) (ts : Tys N) (fs : Fields N) → GoodTy (struct n ts fs) → goodTys ν held q ts ≡ true
      arguments-good n ts fs h = and_right (held n) _
          (and_left (held n && goodTys ν held q ts) _ (and_left (held n && goodTys ν held q ts && goodFields ν held q fs) _ h))
  rule-good c s (as-product x d i m e) h =
      let g = sides-good c (opened (var x)) (dim d) i h in
      rw e (all_cons GoodCon (and_both (just-good (var x) g.0) g.1) (all_nil GoodCon))
  rule-good c s (two-dimensions d e r k i j) h =
      let g = sides-good c (dim d) (dim e) (inl i) h in
      rw j (all_cons GoodCon ((divide-good ν law held q d e g.0 g.1).holds r k) (all_nil GoodCon))
  rule-good c s (dimension p i e) h =
      let g : goodProduct ν held q p ≡ true = rw i at h in
      rw e (λ d m. let o = part_of p d m in rw o.1 (name-held o.0 (opens-good p g) o.2))
    where
      name-held : {os : List (Open N)} (y : N) → All (λ o. goodOpen ν held q o ≡ true) os → Memᴰ (var y) os ⊎ Memᴰ (par y) os → GoodCon (isDim (opened (var y)))
      name-held y g (inl m) = g (var y) m
      name-held y g (inr m) = g (par y) m
  rule-good c s (no-factor i e) h = rw e tt
  rule-good c s (first-factor x k p r n i e) h =
      let g : goodProduct ν held q (free (var x) ↑ k ∷ p) ≡ true = rw i at h in
      let f = (good-product ν law held q (free (var x) ↑ k ∷ p) g).each.0 in
      rw e (record { name = f.0; type = (other-side-good k f.1 (free (var x)) p g).holds r n })
  rule-good c s (closed-struct n m as' fs t u o f i e) h =
      let g : (held n && goodTy ν held q (struct m as' fs) && goodTy ν held q t) ≡ true = rw i at h in
      let k = and_right (held n) _ (and_left (held n && goodTy ν held q (struct m as' fs)) _ g) in
      rw e (all_cons GoodCon (and_both (field-good n fs u
      (and_right (held m && goodTys ν held q as') _ (and_left (held m && goodTys ν held q as' && goodFields ν held q fs) _ k)) f)
      (and_right (held n && goodTy ν held q (struct m as' fs)) _ g)) (all_nil GoodCon))
