-- Open names of a product renamed, each by itself or by a new name, in bounded arithmetic: nothing is refused, and each factor is there under its new name.
use Rattle.std.specs.Prelude.{◌≡◌, refl, Bool, true, ◌⊎◌, ℕ, ◌≤◌, length}
use Rattle.std.proofs.Common.{sym, ap, ◌∙◌, inr, arith}
use Rattle.std.proofs.Math.Option.{Option, none, some, get_or}
use Rattle.std.proofs.Math.Logic.{inl}
use mathlib.Core.List.Memᴰ
use mathlib.Core.List.{[], ◌∷◌, Memᴰ}
use Prim.Native.Nat.{Ordering}
use Rattle.rules.specs.Base.{got, bounded, collect}
use Rattle.rules.specs.Exponents.{Exp}
use Rattle.rules.specs.Trees.{Open, Atom, free, base, Factor, ◌↑◌, Product, Names, opened, orderAtom, openOfFactor}
use Rattle.rules.specs.Products.{just}
use Rattle.rules.specs.Replacing.{asProduct, replaceFactors, replaceProduct}
use Rattle.rules.specs.Schemes.{renamed}
use Rattle.rules.specs.WellFormed.{atomOf, goodOpen, goodProduct}
use Rattle.laws.specs.Order.{Lawful, Tells}
use Rattle.laws.proofs.Order.{before_differs}
use Rattle.laws.specs.Lists.{All, in_head, all-every}
use Rattle.laws.proofs.Lists.{every-all, collect-from}
use Rattle.laws.specs.Sorted.{Sorted}
use Rattle.laws.specs.GoodProducts.{goodAtom}
use Rattle.laws.proofs.GoodProducts.{GoodFactor, good-product, product-good}
use Rattle.laws.proofs.Occurs.{OnFactor, opens-each}
use Rattle.schemes_renaming.proofs.Factors.{Swapped, Removed, swapped}

module _ {N : Type 0} (f : Open N → Option (Open N)) where
  -- the new name; what isn't renamed keeps its own
  abbrev pub moved : Open N → Open N
  moved o = get_or (f o) o

  abbrev pub movedAtom : Atom N → Atom N
  movedAtom (free o) = free (moved o)
  movedAtom (base n) = base n

  abbrev pub movedFactor : Factor N → Factor N
  movedFactor (a ↑ e) = movedAtom a ↑ e

  pub moved_none : (o : Open N) → f o ≡ none → moved o ≡ o
  moved_none o i = rw i

  pub moved-some : (o u : Open N) → f o ≡ some u → moved o ≡ u
  moved-some o u i = rw i

module _ {N : Type 0} (ν : Names N) (held : N → Bool) (q : ℕ) where
  -- names of P are renamed apart, each by itself or by a name that isn't in P; the new names count as products
  pub record Renames (P : Open N → Type 0) (f : Open N → Option (Open N)) : Type 0 where
    pub dimension : (o u : Open N) → P o → f o ≡ some u → asProduct (opened u) ≡ got (just u)
    pub good : (o u : Open N) → P o → f o ≡ some u → goodOpen ν held q u ≡ true
    pub new : (o u : Open N) → P o → f o ≡ some u → (u ≡ o) ⊎ ((w : Open N) → P w → ¬ (w ≡ u))
    pub apart : (o w u : Open N) → P o → P w → f o ≡ some u → f w ≡ some u → o ≡ w

  -- a well formed name of P is so under its new name
  pub moved-good : (P : Open N → Type 0) (f : Open N → Option (Open N)) → Renames P f → (o : Open N) → P o → goodOpen ν held q o ≡ true
      → goodOpen ν held q (moved f o) ≡ true
  moved-good P f h o p g = go (f o) refl
    where
      go : (t : Option (Open N)) → f o ≡ t → goodOpen ν held q (get_or t o) ≡ true
      go none i = g
      go (some u) i = h.good o u p i

-- the factors of a product under their new names, in order
pub record Moved {N : Type 0} (ν : Names N) (f : Open N → Option (Open N)) (D : Factor N → Type 0) (r : Product N) : Type 0 where
  pub in_order : Sorted ν r
  pub to : (z : Factor N) → D z → Memᴰ (movedFactor f z) r
  pub from : (x : Factor N) → Memᴰ x r → (z : Factor N) × (D z × (x ≡ movedFactor f z))

module _ {N : Type 0} (ν : Names N) (law : Lawful (orderAtom ν)) (held : N → Bool) (q : ℕ)
    (tells : Tells (λ a. goodAtom ν held q a ≡ true) (orderAtom ν)) (P : Open N → Type 0) (f : Open N → Option (Open N)) (h : Renames ν held q P f)
  where
    -- a well formed factor whose name is one of P
    abbrev Ok : Factor N → Type 0
    Ok x = GoodFactor ν held q x × OnFactor P x

    -- those that were renamed, and one more
    abbrev With : (Factor N → Type 0) → Factor N → Factor N → Type 0
    With D y z = D z ⊎ (z ≡ y)

    -- on the way: those of D are renamed, the rest waits
    record Under (D : Factor N → Type 0) (rest acc : Product N) : Type 0 where
      in_order : Sorted ν acc
      in-order-rest : Sorted ν rest
      few : length acc ≤ 64
      ok : (z : Factor N) → D z → Ok z
      ok-rest : All Ok rest
      earlier : (z y : Factor N) → D z → Memᴰ y rest → orderAtom ν (atomOf z) (atomOf y) ≡ Ordering.lt
      waiting : (y : Factor N) → Memᴰ y rest → Memᴰ y acc
      done : (z : Factor N) → D z → Memᴰ (movedFactor f z) acc
      only : (x : Factor N) → Memᴰ x acc → Memᴰ x rest ⊎ ((z : Factor N) × (D z × (x ≡ movedFactor f z)))

    module _ (D : Factor N → Type 0) (y : Factor N) (rest acc : Product N) (w : Under D (y ∷ rest) acc) where
      next-before : (z : Factor N) → Memᴰ z rest → orderAtom ν (atomOf y) (atomOf z) ≡ Ordering.lt
      next-before z m = go y w.in-order-rest
        where
          go : (y' : Factor N) → Sorted ν (y' ∷ rest) → orderAtom ν (atomOf y') (atomOf z) ≡ Ordering.lt
          go (a ↑ e) s = every-all (λ g. orderAtom ν a (atomOf g) ≡ Ordering.lt) rest s.0 z m

      rest_sorted : Sorted ν rest
      rest_sorted = go y w.in-order-rest
        where
          go : (y' : Factor N) → Sorted ν (y' ∷ rest) → Sorted ν rest
          go (a ↑ e) s = s.1

      with-ok : (z : Factor N) → With D y z → Ok z
      with-ok z (inl d) = w.ok z d
      with-ok z (inr e) = rw e (w.ok-rest y in_head)

      with-earlier : (z x : Factor N) → With D y z → Memᴰ x rest → orderAtom ν (atomOf z) (atomOf x) ≡ Ordering.lt
      with-earlier z x (inl d) m = w.earlier z x d (Memᴰ.tail m)
      with-earlier z x (inr e) m = rw e (next-before x m)

      -- a factor that keeps its name
      stays : movedFactor f y ≡ y → Under (With D y) rest acc
      stays e = record {
        in_order = w.in_order;
        in-order-rest = rest_sorted;
        few = w.few;
        ok = with-ok;
        ok-rest = λ x m. w.ok-rest x (Memᴰ.tail m);
        earlier = with-earlier;
        waiting = λ x m. w.waiting x (Memᴰ.tail m);
        done = made;
        only = λ x m. found x (w.only x m);
      }
        where
          made : (z : Factor N) → With D y z → Memᴰ (movedFactor f z) acc
          made z (inl d) = w.done z d
          made z (inr i) = rw (i, e) (w.waiting y in_head)

          found : (x : Factor N) → Memᴰ x (y ∷ rest) ⊎ ((z : Factor N) × (D z × (x ≡ movedFactor f z)))
              → Memᴰ x rest ⊎ ((z : Factor N) × (With D y z × (x ≡ movedFactor f z)))
          found x (inr (z, (d, i))) = inr (z, (inl d, i))
          found x (inl m) = first (Memᴰ.cases_cons m)
            where
              first : (x ≡ y) ⊎ Memᴰ x rest → Memᴰ x rest ⊎ ((z : Factor N) × (With D y z × (x ≡ movedFactor f z)))
              first (inl i) = inr (y, (inr refl, i ∙ sym e))
              first (inr n) = inl n

    -- a factor that gets a new name
    module _ (D : Factor N → Type 0) (o u : Open N) (e : Exp) (rest acc : Product N) (w : Under D (free o ↑ e ∷ rest) acc) (n : f o ≡ some u) where
      abbrev own : P o
      own = (w.ok-rest (free o ↑ e) in_head).1

      -- the name isn't one of those before it
      not-before : (x : Open N) (k : Exp) → D (free x ↑ k) → ¬ (x ≡ o)
      not-before x k d i = before_differs law (free x) (free o) (w.earlier (free x ↑ k) (free o ↑ e) d in_head) (ap free i)

      moved-held : (x : Open N) (k : Exp) → D (free x ↑ k) → goodOpen ν held q (moved f x) ≡ true
      moved-held x k d = let y = w.ok (free x ↑ k) d in moved-good ν held q P f h x y.1 y.0.0

      held-acc : (x : Factor N) → Memᴰ x acc → goodAtom ν held q (atomOf x) ≡ true
      held-acc x m = go (w.only x m)
        where
          of-factor : (y : Factor N) → GoodFactor ν held q y → goodAtom ν held q (atomOf y) ≡ true
          of-factor (a ↑ k) g = g.0

          image : (z : Factor N) → D z → goodAtom ν held q (atomOf (movedFactor f z)) ≡ true
          image (free v ↑ k) d = moved-held v k d
          image (base b ↑ k) d = (w.ok (base b ↑ k) d).0.0

          go : Memᴰ x (free o ↑ e ∷ rest) ⊎ ((z : Factor N) × (D z × (x ≡ movedFactor f z))) → goodAtom ν held q (atomOf x) ≡ true
          go (inl i) = of-factor x (w.ok-rest x i).0
          go (inr (z, (d, i))) = rw i (image z d)

      -- the new name stands in no factor that is left
      absent : (left : Product N) → Removed (free o ↑ e) acc left → All (λ x. ¬ (orderAtom ν (atomOf x) (free u) ≡ Ordering.eq)) left
      absent left out x m i = go x (w.only x (out.from x m)) (tells.same (atomOf x) (free u) (held-acc x (out.from x m)) (h.good o u own n) i) (out.gone x m)
        where
          in_rest : (v : Open N) → P v → v ≡ u → ¬ (v ≡ o) → ⊥
          in_rest v p j g = more (h.new o u own n)
            where
              more : (u ≡ o) ⊎ ((w : Open N) → P w → ¬ (w ≡ u)) → ⊥
              more (inl k) = g (j ∙ k)
              more (inr k) = k v p j

          image : (z : Factor N) → D z → atomOf (movedFactor f z) ≡ free u → ⊥
          image (base b ↑ k) d j = cc
          image (free v ↑ k) d j = more (f v) refl
            where
              more : (t : Option (Open N)) → f v ≡ t → ⊥
              more none l = let c : v ≡ u = let b : free v ≡ free u = ap free (sym (moved_none f v l)) ∙ j in cc
                  in in_rest v (w.ok (free v ↑ k) d).1 c (not-before v k d)
              more (some t) l =
                  let c : t ≡ u = let b : free t ≡ free u = ap free (sym (moved-some f v t l)) ∙ j in cc in
                  not-before v k d (h.apart v o u (w.ok (free v ↑ k) d).1 own (l ∙ ap some c) n)

          here : (y : Factor N) → Ok y → atomOf y ≡ free u → ¬ (atomOf y ≡ free o) → ⊥
          here (base b ↑ k) g j l = cc
          here (free v ↑ k) g j l = in_rest v g.1 (cc) (λ c. l (ap free c))

          go : (y : Factor N) → Memᴰ y (free o ↑ e ∷ rest) ⊎ ((z : Factor N) × (D z × (y ≡ movedFactor f z))) → atomOf y ≡ free u → ¬ (atomOf y ≡ free o) → ⊥
          go y (inl j) k l = here y (w.ok-rest y j) k l
          go y (inr (z, (d, j))) k l = image z d (ap atomOf (sym j) ∙ k)

      new-factor : movedFactor f (free o ↑ e) ≡ free u ↑ e
      new-factor = ap (λ (v : Open N). free v ↑ e) (moved-some f o u n)

      -- what was renamed before isn't what is taken out
      not-out : (z : Factor N) → D z → ¬ (movedFactor f z ≡ free o ↑ e)
      not-out (base b ↑ k) d i = cc
      not-out (free v ↑ k) d i = go (f v) refl
        where
          same : moved f v ≡ o
          same = cc

          go : (t : Option (Open N)) → f v ≡ t → ⊥
          go none l = not-before v k d (sym (moved_none f v l) ∙ same)
          go (some t) l = more (h.new v t (w.ok (free v ↑ k) d).1 l)
            where
              c : t ≡ o
              c = sym (moved-some f v t l) ∙ same

              more : (t ≡ v) ⊎ ((w : Open N) → P w → ¬ (w ≡ t)) → ⊥
              more (inl j) = not-before v k d (sym j ∙ c)
              more (inr j) = j o own (sym c)

      swaps : (acc' : Product N) → Swapped ν law o u e acc acc' → Under (With D (free o ↑ e)) rest acc'
      swaps acc' s = record {
        in_order = s.in_order;
        in-order-rest = rest_sorted D (free o ↑ e) rest acc w;
        few = let i = s.long in let j = w.few in omega arith;
        ok = with-ok D (free o ↑ e) rest acc w;
        ok-rest = λ x m. w.ok-rest x (Memᴰ.tail m);
        earlier = with-earlier D (free o ↑ e) rest acc w;
        waiting = λ x m. s.in'.kept x (waits x m (s.out.kept x (w.waiting x (Memᴰ.tail m))));
        done = made;
        only = λ x m. found x (s.in'.from x m);
      }
        where
          waits : (x : Factor N) → Memᴰ x rest → (x ≡ free o ↑ e) ⊎ Memᴰ x s.left → Memᴰ x s.left
          waits x m (inr i) = i
          waits x m (inl i) = absurd (before_differs law (free o) (atomOf x) (next-before D (free o ↑ e) rest acc w x m) (sym (ap atomOf i)))

          made : (z : Factor N) → With D (free o ↑ e) z → Memᴰ (movedFactor f z) acc'
          made z (inr i) = rw (i, new-factor) s.in'.new
          made z (inl d) = s.in'.kept (movedFactor f z) (more (s.out.kept (movedFactor f z) (w.done z d)))
            where
              more : (movedFactor f z ≡ free o ↑ e) ⊎ Memᴰ (movedFactor f z) s.left → Memᴰ (movedFactor f z) s.left
              more (inl i) = absurd (not-out z d i)
              more (inr i) = i

          found : (x : Factor N) → (x ≡ free u ↑ e) ⊎ Memᴰ x s.left → Memᴰ x rest ⊎ ((z : Factor N) × (With D (free o ↑ e) z × (x ≡ movedFactor f z)))
          found x (inl i) = inr (free o ↑ e, (inr refl, i ∙ sym new-factor))
          found x (inr m) = more (w.only x (s.out.from x m))
            where
              first : (x ≡ free o ↑ e) ⊎ Memᴰ x rest → Memᴰ x rest ⊎ ((z : Factor N) × (With D (free o ↑ e) z × (x ≡ movedFactor f z)))
              first (inl i) = absurd (s.out.gone x m (ap atomOf i))
              first (inr i) = inl i

              more : Memᴰ x (free o ↑ e ∷ rest) ⊎ ((z : Factor N) × (D z × (x ≡ movedFactor f z)))
                  → Memᴰ x rest ⊎ ((z : Factor N) × (With D (free o ↑ e) z × (x ≡ movedFactor f z)))
              more (inl i) = first (Memᴰ.cases_cons i)
              more (inr (z, (d, i))) = inr (z, (inl d, i))

    abbrev Through : (Factor N → Type 0) → Product N → Product N → Type 0
    Through D rest acc = (r : Product N) × ((replaceFactors ν bounded (renamed f) rest acc ≡ got r)
        × (Moved ν f (λ z. D z ⊎ Memᴰ z rest) r × (length r ≡ length acc)))

    -- one more factor is renamed
    more-moved : (D : Factor N → Type 0) (y : Factor N) (rest r : Product N) → Moved ν f (λ z. With D y z ⊎ Memᴰ z rest) r
        → Moved ν f (λ z. D z ⊎ Memᴰ z (y ∷ rest)) r
    more-moved D y rest r m = record { in_order = m.in_order; to = λ z d. m.to z (into z d); from = λ x i. let (z, (d, j)) = m.from x i in (z, (out z d, j)) }
      where
        into : (z : Factor N) → D z ⊎ Memᴰ z (y ∷ rest) → With D y z ⊎ Memᴰ z rest
        into z (inl d) = inl (inl d)
        into z (inr i) = more (Memᴰ.cases_cons i)
          where
            more : (z ≡ y) ⊎ Memᴰ z rest → With D y z ⊎ Memᴰ z rest
            more (inl j) = inl (inr j)
            more (inr j) = inr j

        out : (z : Factor N) → With D y z ⊎ Memᴰ z rest → D z ⊎ Memᴰ z (y ∷ rest)
        out z (inl (inl d)) = inl d
        out z (inl (inr j)) = inr (Memᴰ.head j)
        out z (inr j) = inr (Memᴰ.tail j)

    through : (D : Factor N → Type 0) (rest acc : Product N) → Under D rest acc → Through D rest acc
    unfolding replaceFactors
    through D [] acc w = (acc, (refl, (record { in_order = w.in_order; to = λ z d. made z d; from = λ x m. found x (w.only x m) }, refl)))
      where
        made : (z : Factor N) → D z ⊎ Memᴰ z [] → Memᴰ (movedFactor f z) acc
        made z (inl d) = w.done z d
        made z (inr i) = absurd (Memᴰ.not-nil i)

        found : (x : Factor N) → Memᴰ x [] ⊎ ((z : Factor N) × (D z × (x ≡ movedFactor f z))) → (z : Factor N) × ((D z ⊎ Memᴰ z []) × (x ≡ movedFactor f z))
        found x (inl i) = absurd (Memᴰ.not-nil i)
        found x (inr (z, (d, i))) = (z, (inl d, i))
    through D (base b ↑ e ∷ rest) acc w =
        let (r, (i, (m, n))) = through (With D (base b ↑ e)) rest acc (stays D (base b ↑ e) rest acc w refl) in
        (r, (i, (more-moved D (base b ↑ e) rest r m, n)))
    through D (free o ↑ e ∷ rest) acc w = go (f o) refl (through (With D (free o ↑ e)) rest)
      where
        kept : f o ≡ none → Through (With D (free o ↑ e)) rest acc → Through D (free o ↑ e ∷ rest) acc
        kept i (r, (j, (m, n))) = (r, (rw (i, replaceFactors) j, (more-moved D (free o ↑ e) rest r m, n)))

        changed : (u : Open N) (acc' : Product N) → f o ≡ some u → Swapped ν law o u e acc acc' → Through (With D (free o ↑ e)) rest acc'
            → Through D (free o ↑ e ∷ rest) acc
        changed u acc' i s (r, (j, (m, n))) =
            let d : asProduct (opened u) ≡ got (just u) = h.dimension o u (own D o u e rest acc w i) i in
            (r, (rw (i, replaceFactors) (rw (d, s.divides, s.raises, s.multiplies) j), (more-moved D (free o ↑ e) rest r m, n ∙ s.long)))

        go : (t : Option (Open N)) → f o ≡ t → ((acc' : Product N) → Under (With D (free o ↑ e)) rest acc' → Through (With D (free o ↑ e)) rest acc')
            → Through D (free o ↑ e ∷ rest) acc
        go none i again = kept i (again acc (stays D (free o ↑ e) rest acc w (ap (λ (v : Open N). free v ↑ e) (moved_none f o i))))
        go (some u) i again =
            let (acc', s) = swapped ν law o u e acc (w.ok-rest (free o ↑ e) in_head).0.1 w.in_order w.few (w.waiting (free o ↑ e) in_head)
            (absent D o u e rest acc w i) in
            changed u acc' i s (again acc' (swaps D o u e rest acc w i acc' s))

    -- the factors of a product are renamed in it
    pub record Renamed (p r : Product N) : Type 0 where
      pub is : replaceProduct ν bounded (renamed f) p ≡ got r
      pub moves : Moved ν f (λ z. Memᴰ z p) r
      pub long : length r ≡ length p

    pub product-renamed : (p : Product N) → goodProduct ν held q p ≡ true → All P (collect openOfFactor p) → (r : Product N) × Renamed p r
    unfolding replaceProduct
    product-renamed p g k =
        let a = good-product ν law held q p g in
        let (r, (i, (m, n))) = through (λ z. ⊥) p p (record {
          in_order = a.in_order;
          in-order-rest = a.in_order;
          few = a.few;
          ok = λ z d. absurd d;
          ok-rest = λ x m. (every-all (GoodFactor ν held q) p a.each x m, every-all (OnFactor P) p (opens-each P p k) x m);
          earlier = λ z y d. absurd d;
          waiting = λ y m. m;
          done = λ z d. absurd d;
          only = λ x m. inl m;
        }) in (
          r,
          record {
            is = i;
            moves = record {
              in_order = m.in_order;
              to = λ z d. m.to z (inr d);
              from = λ x d. let (z, (b, j)) = m.from x d
                  in (z, (both z b, j));
            };
            long = n;
          },
        )
      where
        both : (z : Factor N) → ⊥ ⊎ Memᴰ z p → Memᴰ z p
        both z (inl b) = absurd b
        both z (inr b) = b

    module _ (p r : Product N) (g : goodProduct ν held q p ≡ true) (k : All P (collect openOfFactor p)) (m : Renamed p r) where
      good-there : (z : Factor N) → Memᴰ z p → GoodFactor ν held q (movedFactor f z)
      good-there z i = go z (every-all (GoodFactor ν held q) p (good-product ν law held q p g).each z i) (every-all (OnFactor P) p (opens-each P p k) z i)
        where
          go : (z : Factor N) → GoodFactor ν held q z → OnFactor P z → GoodFactor ν held q (movedFactor f z)
          go (base b ↑ e) a c = a
          go (free o ↑ e) a c = (moved-good ν held q P f h o c a.0, a.1)

      pub renamed-good : goodProduct ν held q r ≡ true
      renamed-good = product-good ν law held q r (record {
        in_order = m.moves.in_order;
        each = all-every (GoodFactor ν held q) r (λ x i. let (z, (d, j)) = m.moves.from x i in rw j (good-there z d));
        few = let a = m.long in let b = (good-product ν law held q p g).few in omega arith;
      })

      pub renamed-names : All (λ u. (o : Open N) × (P o × (u ≡ moved f o))) (collect openOfFactor r)
      unfolding collect
      renamed-names u i =
          let o = collect-from openOfFactor r u i in
          let (z, (d, j)) = m.moves.from o.one o.within in
          go z (every-all (OnFactor P) p (opens-each P p k) z d) (rw j at o.from)
        where
          go : (z : Factor N) → OnFactor P z → Memᴰ u (openOfFactor (movedFactor f z)) → (o : Open N) × (P o × (u ≡ moved f o))
          go (base b ↑ e) a n = absurd (Memᴰ.not-nil n)
          go (free o ↑ e) a n = (o, (a, Memᴰ.eq_of_singleton n))
