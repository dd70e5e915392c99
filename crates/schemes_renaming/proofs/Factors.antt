-- One factor taken out of a product in order, and one put in, in bounded arithmetic: neither is refused. A product in order is its factors.
use Rattle.std.specs.Prelude.{◌≡◌, true, ◌⊎◌, eqb, nat_abs}
use Rattle.std.proofs.Math.Path.{refl, ap}
use Rattle.std.proofs.Common.{sym, ◌∙◌, inl, inr, le-leb}
use mathlib.Core.List.Memᴰ
use mathlib.Core.List.{[], ◌∷◌, Memᴰ}
use Prim.Native.Nat.{suc, ◌≤◌, Ordering}
use native.Mathlib.Omega.{arith}
use Rattle.std.proofs.Math.ListN.{length}
use Rattle.rules.specs.Base.{got, bounded}
use Rattle.rules.specs.Exponents.{Exp, frac, nought, one, gcd, neg, mul, in_range, goodExp, goodStored, sum, times}
use Rattle.rules.specs.Trees.{Open, Atom, free, Factor, ◌↑◌, Product, Names, orderAtom}
use Rattle.rules.specs.Products.{put, just, inverse, mergeOne, merge, multiply, divide, raise}
use Rattle.rules.specs.WellFormed.{atomOf}
use Rattle.laws.specs.Order.{Lawful}
use Rattle.laws.proofs.Order.{self, before_differs}
use Rattle.laws.specs.Lists.{All, in_head, and_left}
use Rattle.laws.proofs.Lists.{every-all}
use Rattle.laws.proofs.Fractions.{plus-neg, mul-one', mul-comm'}
use Rattle.laws.proofs.Ranges.{good-lowest, stored-good, stored-not-zero}
use Rattle.laws.specs.Sorted.{Sorted}
use Rattle.laws.proofs.Sorted.{merge-nil, merge-sorted}

-- ══ Exponents ══

-- a power and its opposite leave nothing
sum-nought : (e : Exp) → goodStored e ≡ true → sum bounded e (neg e) ≡ got nought
unfolding sum in_range
sum-nought e h = rw (plus-neg e (good-lowest e (stored-good e h)))

good-range : (e : Exp) → goodExp e ≡ true → in_range e ≡ true
unfolding goodExp
good-range (frac n d) h = and_left (in_range (frac n d)) (eqb (gcd (nat_abs n) d) 1) h

-- once a power is that power
times-one : (e : Exp) → goodStored e ≡ true → times bounded one e ≡ got e
unfolding times
times-one e h =
    let g = stored-good e h in
    let z : mul one e ≡ e = mul-comm' one e ∙ mul-one' e (good-lowest e g) in
    rw (z, good-range e g)

module _ {N : Type 0} (ν : Names N) where
  pub raise-just : (o : Open N) (e : Exp) → goodStored e ≡ true → raise ν bounded (just o) e ≡ got (free o ↑ e ∷ [])
  unfolding raise
  raise-just o e h = rw (times-one e h) (rw (stored-not-zero e h, put))

-- ══ One factor out, one factor in ══

module _ {N : Type 0} where
  pub record Removed (f : Factor N) (p r : Product N) : Type 0 where
    pub kept : (x : Factor N) → Memᴰ x p → (x ≡ f) ⊎ Memᴰ x r
    pub from : (x : Factor N) → Memᴰ x r → Memᴰ x p
    pub gone : (x : Factor N) → Memᴰ x r → ¬ (atomOf x ≡ atomOf f)
    pub shorter : length p ≡ suc (length r)

  pub record Inserted (f : Factor N) (p r : Product N) : Type 0 where
    pub kept : (x : Factor N) → Memᴰ x p → Memᴰ x r
    pub new : Memᴰ f r
    pub from : (x : Factor N) → Memᴰ x r → (x ≡ f) ⊎ Memᴰ x p
    pub longer : length r ≡ suc (length p)

module _ {N : Type 0} (ν : Names N) (law : Lawful (orderAtom ν)) where
  module _ (b : Atom N) (d : Exp) (p : Product N) (a : Atom N) (k : Exp) where
    merge-same : orderAtom ν b a ≡ Ordering.eq → sum bounded d k ≡ got nought → merge ν bounded (b ↑ d ∷ p) (a ↑ k ∷ []) ≡ got p
    unfolding merge mergeOne
    merge-same i j = rw (i, mergeOne) (rw j (rw (merge-nil ν bounded p)))

    merge-later : (r : Product N) → orderAtom ν b a ≡ Ordering.lt → merge ν bounded p (a ↑ k ∷ []) ≡ got r
        → merge ν bounded (b ↑ d ∷ p) (a ↑ k ∷ []) ≡ got (b ↑ d ∷ r)
    unfolding merge mergeOne
    merge-later r i j = rw (i, mergeOne) (rw j)

    merge-here : orderAtom ν b a ≡ Ordering.gt → merge ν bounded (b ↑ d ∷ p) (a ↑ k ∷ []) ≡ got (a ↑ k ∷ b ↑ d ∷ p)
    unfolding merge mergeOne
    merge-here i = rw (i, mergeOne)

  behind : (a : Atom N) (e : Exp) (p : Product N) → Sorted ν (a ↑ e ∷ p) → (x : Factor N) → Memᴰ x p → orderAtom ν a (atomOf x) ≡ Ordering.lt
  behind a e p s x m = every-all (λ f. orderAtom ν a (atomOf f) ≡ Ordering.lt) p s.0 x m

  pub removed : (a : Atom N) (e : Exp) (p : Product N) → goodStored e ≡ true → Sorted ν p → Memᴰ (a ↑ e) p
      → (r : Product N) × ((merge ν bounded p (a ↑ neg e ∷ []) ≡ got r) × Removed (a ↑ e) p r)
  removed a e [] g s m = absurd (Memᴰ.not-nil m)
  removed a e (b ↑ d ∷ p) g s m = go (Memᴰ.cases_cons m) (removed a e p g s.1)
    where
      go : (a ↑ e ≡ b ↑ d) ⊎ Memᴰ (a ↑ e) p
          → (Memᴰ (a ↑ e) p → (r : Product N) × ((merge ν bounded p (a ↑ neg e ∷ []) ≡ got r) × Removed (a ↑ e) p r))
          → (r : Product N) × ((merge ν bounded (b ↑ d ∷ p) (a ↑ neg e ∷ []) ≡ got r) × Removed (a ↑ e) (b ↑ d ∷ p) r)
      go (inl i) again =
          let x : a ≡ b = cc in
          let y : e ≡ d = cc in
          let o : orderAtom ν b a ≡ Ordering.eq = rw x (self law b) in
          let z : sum bounded d (neg e) ≡ got nought = rw (sym y) (sum-nought e g) in (
            p,
            (
              merge-same b d p a (neg e) o z,
              record {
                kept = λ f n. first f (Memᴰ.cases_cons n);
                from = λ f n. Memᴰ.tail n;
                gone = λ f n h. before_differs law b (atomOf f) (behind b d p s f n) (sym (h ∙ x));
                shorter = refl;
              },
            ),
          )
        where
          first : (f : Factor N) → (f ≡ b ↑ d) ⊎ Memᴰ f p → (f ≡ a ↑ e) ⊎ Memᴰ f p
          first f (inl j) = inl (j ∙ sym i)
          first f (inr n) = inr n
      go (inr n) again =
          let r = again n in
          let o : orderAtom ν b a ≡ Ordering.lt = behind b d p s (a ↑ e) n in
          let h = r.1.1 in (
            b ↑ d ∷ r.0,
            (
              merge-later b d p a (neg e) r.0 o r.1.0,
              record {
                kept = λ f k. first f r.0 h (Memᴰ.cases_cons k);
                from = λ f k. second f r.0 h (Memᴰ.cases_cons k);
                gone = λ f k. third f r.0 o h (Memᴰ.cases_cons k);
                shorter = ap suc h.shorter;
              },
            ),
          )
        where
          first : (f : Factor N) (q : Product N) → Removed (a ↑ e) p q → (f ≡ b ↑ d) ⊎ Memᴰ f p → (f ≡ a ↑ e) ⊎ Memᴰ f (b ↑ d ∷ q)
          first f q h (inl j) = inr (Memᴰ.head j)
          first f q h (inr k) = more (h.kept f k)
            where
              more : (f ≡ a ↑ e) ⊎ Memᴰ f q → (f ≡ a ↑ e) ⊎ Memᴰ f (b ↑ d ∷ q)
              more (inl j) = inl j
              more (inr j) = inr (Memᴰ.tail j)

          second : (f : Factor N) (q : Product N) → Removed (a ↑ e) p q → (f ≡ b ↑ d) ⊎ Memᴰ f q → Memᴰ f (b ↑ d ∷ p)
          second f q h (inl j) = Memᴰ.head j
          second f q h (inr k) = Memᴰ.tail (h.from f k)

          third : (f : Factor N) (q : Product N) → orderAtom ν b a ≡ Ordering.lt → Removed (a ↑ e) p q → (f ≡ b ↑ d) ⊎ Memᴰ f q → ¬ (atomOf f ≡ a)
          third f q o h (inl j) k = before_differs law b a o (sym (sym k ∙ ap atomOf j))
          third f q o h (inr n) k = h.gone f n k

  pub inserted : (a : Atom N) (e : Exp) (p : Product N) → All (λ x. ¬ (orderAtom ν (atomOf x) a ≡ Ordering.eq)) p
      → (r : Product N) × ((merge ν bounded p (a ↑ e ∷ []) ≡ got r) × Inserted (a ↑ e) p r)
  unfolding merge
  inserted a e [] h = (a ↑ e ∷ [], (refl, record { kept = λ x m. absurd (Memᴰ.not-nil m); new = in_head; from = λ x m. Memᴰ.cases_cons m; longer = refl }))
  inserted a e (b ↑ d ∷ p) h = go (orderAtom ν b a) refl (inserted a e p (λ x m. h x (Memᴰ.tail m)))
    where
      go : (o : Ordering) → orderAtom ν b a ≡ o → (r : Product N) × ((merge ν bounded p (a ↑ e ∷ []) ≡ got r) × Inserted (a ↑ e) p r)
          → (r : Product N) × ((merge ν bounded (b ↑ d ∷ p) (a ↑ e ∷ []) ≡ got r) × Inserted (a ↑ e) (b ↑ d ∷ p) r)
      go Ordering.eq o r = absurd (h (b ↑ d) in_head o)
      go Ordering.gt o r = (
        a ↑ e ∷ b ↑ d ∷ p,
        (merge-here b d p a e o, record { kept = λ x m. Memᴰ.tail m; new = in_head; from = λ x m. Memᴰ.cases_cons m; longer = refl }),
      )
      go Ordering.lt o (r, (i, k)) = (
        b ↑ d ∷ r,
        (
          merge-later b d p a e r o i,
          record {
            kept = λ x m. first x (Memᴰ.cases_cons m);
            new = Memᴰ.tail k.new;
            from = λ x m. second x (Memᴰ.cases_cons m);
            longer = ap suc k.longer;
          },
        ),
      )
        where
          first : (x : Factor N) → (x ≡ b ↑ d) ⊎ Memᴰ x p → Memᴰ x (b ↑ d ∷ r)
          first x (inl j) = Memᴰ.head j
          first x (inr m) = Memᴰ.tail (k.kept x m)

          second : (x : Factor N) → (x ≡ b ↑ d) ⊎ Memᴰ x r → (x ≡ a ↑ e) ⊎ Memᴰ x (b ↑ d ∷ p)
          second x (inl j) = inr (Memᴰ.head j)
          second x (inr m) = more (k.from x m)
            where
              more : (x ≡ a ↑ e) ⊎ Memᴰ x p → (x ≡ a ↑ e) ⊎ Memᴰ x (b ↑ d ∷ p)
              more (inl j) = inl j
              more (inr j) = inr (Memᴰ.tail j)

  -- ══ A product in order is its factors ══

  before-both : (a b : Atom N) → orderAtom ν a b ≡ Ordering.lt → orderAtom ν b a ≡ Ordering.lt → ⊥
  before-both a b h k = before_differs law a a (law.trans a b a h k) refl

  pub same-factors : (p q : Product N) → Sorted ν p → Sorted ν q → ((x : Factor N) → Memᴰ x p → Memᴰ x q) → ((x : Factor N) → Memᴰ x q → Memᴰ x p) → p ≡ q
  same-factors [] [] s t f g = refl
  same-factors [] (y ∷ q) s t f g = absurd (Memᴰ.not-nil (g y in_head))
  same-factors (x ∷ p) [] s t f g = absurd (Memᴰ.not-nil (f x in_head))
  same-factors (a ↑ e ∷ p) (b ↑ d ∷ q) s t f g = go (Memᴰ.cases_cons (f (a ↑ e) in_head)) (Memᴰ.cases_cons (g (b ↑ d) in_head)) (same-factors p q s.1 t.1)
    where
      -- what stands behind the first isn't the first
      inner : (p' q' : Product N) → a ↑ e ≡ b ↑ d → ((x : Factor N) → Memᴰ x p' → orderAtom ν a (atomOf x) ≡ Ordering.lt)
          → ((x : Factor N) → Memᴰ x p' → (x ≡ b ↑ d) ⊎ Memᴰ x q') → (x : Factor N) → Memᴰ x p' → Memᴰ x q'
      inner p' q' i l h x m = more (h x m)
        where
          more : (x ≡ b ↑ d) ⊎ Memᴰ x q' → Memᴰ x q'
          more (inl j) = absurd (before_differs law a (atomOf x) (l x m) (ap atomOf (i ∙ sym j)))
          more (inr n) = n

      joined : a ↑ e ≡ b ↑ d → (((x : Factor N) → Memᴰ x p → Memᴰ x q) → ((x : Factor N) → Memᴰ x q → Memᴰ x p) → p ≡ q) → a ↑ e ∷ p ≡ b ↑ d ∷ q
      joined i again =
          let x : a ≡ b = cc in
          let r : p ≡ q = again (inner p q i (behind a e p s) (λ y m. Memᴰ.cases_cons (f y (Memᴰ.tail m))))
          (inner q p i (λ y m. rw x (behind b d q t y m)) (λ y m. swap y (Memᴰ.cases_cons (g y (Memᴰ.tail m))))) in
          cc
        where
          swap : (y : Factor N) → (y ≡ a ↑ e) ⊎ Memᴰ y p → (y ≡ b ↑ d) ⊎ Memᴰ y p
          swap y (inl j) = inl (j ∙ i)
          swap y (inr m) = inr m

      go : (a ↑ e ≡ b ↑ d) ⊎ Memᴰ (a ↑ e) q → (b ↑ d ≡ a ↑ e) ⊎ Memᴰ (b ↑ d) p
          → (((x : Factor N) → Memᴰ x p → Memᴰ x q) → ((x : Factor N) → Memᴰ x q → Memᴰ x p) → p ≡ q) → a ↑ e ∷ p ≡ b ↑ d ∷ q
      go (inl i) j again = joined i again
      go (inr m) (inl j) again = joined (sym j) again
      go (inr m) (inr n) again = absurd (before-both a b (behind a e p s (b ↑ d) n) (behind b d q t (a ↑ e) m))

  -- ══ A step of replacing ══

  -- divided by o^e and multiplied by u^e
  pub record Swapped (o u : Open N) (e : Exp) (p r : Product N) : Type 0 where
    pub left : Product N
    pub divides : divide ν bounded p (free o ↑ e ∷ []) ≡ got left
    pub raises : raise ν bounded (just u) e ≡ got (free u ↑ e ∷ [])
    pub multiplies : multiply ν bounded left (free u ↑ e ∷ []) ≡ got r
    pub out : Removed (free o ↑ e) p left
    pub in' : Inserted (free u ↑ e) left r
    pub in_order : Sorted ν r
    pub long : length r ≡ length p

  pub swapped : (o u : Open N) (e : Exp) (p : Product N) → goodStored e ≡ true → Sorted ν p → length p ≤ 64 → Memᴰ (free o ↑ e) p
      → ((left : Product N) → Removed (free o ↑ e) p left → All (λ x. ¬ (orderAtom ν (atomOf x) (free u) ≡ Ordering.eq)) left) → (r : Product N)
      × Swapped o u e p r
  unfolding divide multiply inverse
  swapped o u e p g s few m free' =
      let (left, (i, out)) = removed (free o) e p g s m in
      let sl = ((merge-sorted ν law bounded p (free o ↑ neg e ∷ []) s (tt, tt)).holds left i).0 in
      let (r, (j, inn)) = inserted (free u) e left (free' left out) in
      let a : length left ≤ 64 = let x = out.shorter in omega arith in
      let b : length r ≤ 64 = let x = out.shorter in let y = inn.longer in omega arith in (
        r,
        record {
          left = left;
          divides = rw i (rw (le-leb (length left) 64 a));
          raises = raise-just ν u e g;
          multiplies = rw j (rw (le-leb (length r) 64 b));
          out = out;
          in' = inn;
          in_order = ((merge-sorted ν law bounded left (free u ↑ e ∷ []) sl (tt, tt)).holds r j).0;
          long = let x = out.shorter in let y = inn.longer in omega arith;
        },
      )
