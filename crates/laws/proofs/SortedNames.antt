-- Sorting gives the rising list of the names that occur, so it depends on nothing else.
use Rattle.std.specs.Prelude.{◌≡◌, true, ◌⊎◌}
use Rattle.std.proofs.Math.Path.{refl}
use Rattle.std.proofs.Common.{sym, ap₂, ◌∙◌}
use mathlib.Core.List.Memᴰ
use mathlib.Core.List.{List, [], ◌∷◌, Memᴰ}
use Rattle.std.proofs.Math.Logic.{inl, inr, ⊎_elim}
use Prim.Native.Nat.{suc, ◌≤◌, Ordering}
use native.Mathlib.Omega.{arith}
use Rattle.std.proofs.Math.ListN.{length}
use Rattle.rules.specs.Trees.{Names}
use Rattle.rules.specs.Contents.{sorted, sort}
use Rattle.rules.specs.WellFormed.{rising}
use Rattle.laws.specs.Order.{Lawful, Tells}
use Rattle.laws.proofs.Order.{before_differs, after}
use Rattle.laws.specs.Lists.{Every, all-every}
use Rattle.laws.proofs.Lists.{every-all, every-as}

-- a name occurs, by recursion
abbrev pub In : {N : Type 0} → N → List N → Type 0
In z [] = ⊥
In z (x ∷ xs) = (z ≡ x) ⊎ In z xs

module _ {N : Type 0} {z : N} where
  in-member : (xs : List N) → In z xs → Memᴰ z xs
  in-member [] k = absurd k
  in-member (x ∷ xs) k = ⊎_elim (λ e. Memᴰ.head e) (λ i. Memᴰ.tail (in-member xs i)) k

  member-in : (xs : List N) → Memᴰ z xs → In z xs
  member-in [] m = absurd (Memᴰ.not-nil m)
  member-in (x ∷ xs) m = ⊎_elim (λ e. inl e) (λ i. inr (member-in xs i)) (Memᴰ.cases_cons m)

pub every_in : {A : Type 0} (P : A → Type 0) (xs : List A) → ((z : A) → In z xs → P z) → Every P xs
every_in P xs f = all-every P xs (λ z m. f z (member-in xs m))

pub in-every : {A : Type 0} (P : A → Type 0) (xs : List A) → Every P xs → (z : A) → In z xs → P z
in-every P xs ps z k = every-all P xs ps z (in-member xs k)

module _ {N : Type 0} (ν : Names N) where
  -- a name stands before all of these
  abbrev pub Before : N → List N → Type 0
  Before a bs = Every (λ b. ν.order a b ≡ Ordering.lt) bs

  abbrev pub Rises : List N → Type 0
  Rises [] = Unit {0}
  Rises (a ∷ as') = Before a as' × Rises as'

  -- as a test
  rises-rising : (xs : List N) → Rises xs → rising ν.order xs ≡ true
  unfolding rising
  rises-rising [] h = refl
  rises-rising (a ∷ []) h = refl
  rises-rising (a ∷ b ∷ xs) h = rw h.0.0 (rises-rising (b ∷ xs) h.1)

  -- the three places of a name before a rising list
  module _ (Q : List N → Type 0) (x y : N) (ys : List N) where
    by_order : (ν.order x y ≡ Ordering.lt → Q (x ∷ y ∷ ys)) → (ν.order x y ≡ Ordering.eq → Q (y ∷ ys))
        → (ν.order x y ≡ Ordering.gt → Q (y ∷ sorted ν x ys)) → Q (sorted ν x (y ∷ ys))
    unfolding sorted
    by_order f g h = go (ν.order x y) refl
      where
        go : (o : Ordering) → ν.order x y ≡ o → Q (elim o [ Ordering.lt ↦ x ∷ y ∷ ys | Ordering.eq ↦ y ∷ ys | Ordering.gt ↦ y ∷ sorted ν x ys ])
        go Ordering.lt e = f e
        go Ordering.eq e = g e
        go Ordering.gt e = h e

  -- ══ As many, or fewer ══

  sorted-few : (x : N) (ys : List N) → length (sorted ν x ys) ≤ suc (length ys)
  unfolding sorted
  sorted-few x [] = omega arith
  sorted-few x (y ∷ ys) = by_order (λ l. length l ≤ suc (suc (length ys))) x y ys (λ e. omega arith) (λ e. omega arith) (λ e. omega (arith, sorted-few x ys))

  pub sort-few : (xs : List N) → length (sort ν xs) ≤ length xs
  unfolding sort
  sort-few [] = omega arith
  sort-few (x ∷ xs) = omega (arith, sorted-few x (sort ν xs), sort-few xs)

  -- ══ The same names occur ══

  sorted_of : (x : N) (ys : List N) (z : N) → In z (sorted ν x ys) → In z (x ∷ ys)
  unfolding sorted
  sorted_of x [] z k = k
  sorted_of x (y ∷ ys) z k =
      by_order (λ l. In z l → In z (x ∷ y ∷ ys)) x y ys (λ e i. i) (λ e i. inr i)
      (λ e i. ⊎_elim (λ q. inr (inl q)) (λ j. ⊎_elim (λ q. inl q) (λ l. inr (inr l)) (sorted_of x ys z j)) i) k

  pub sort-of : (xs : List N) (z : N) → In z (sort ν xs) → In z xs
  unfolding sort
  sort-of [] z k = k
  sort-of (x ∷ xs) z k = ⊎_elim (λ e. inl e) (λ i. inr (sort-of xs z i)) (sorted_of x (sort ν xs) z k)

  -- by membership
  pub sort-from : (xs : List N) (z : N) → Memᴰ z (sort ν xs) → Memᴰ z xs
  sort-from xs z m = in-member xs (sort-of xs z (member-in (sort ν xs) m))

  module _ (P : N → Type 0) where
    sorted-every : (x : N) (ys : List N) → P x → Every P ys → Every P (sorted ν x ys)
    unfolding sorted
    sorted-every x [] p ps = (p, tt)
    sorted-every x (y ∷ ys) p ps = by_order (Every P) x y ys (λ e. (p, ps)) (λ e. ps) (λ e. (ps.0, sorted-every x ys p ps.1))

    pub sort-every : (xs : List N) → Every P xs → Every P (sort ν xs)
    unfolding sort
    sort-every [] ps = tt
    sort-every (x ∷ xs) ps = sorted-every x (sort ν xs) ps.0 (sort-every xs ps.1)

module _ {N : Type 0} (ν : Names N) (P : N → Type 0) (tells : Tells P ν.order) where
  of-sorted : (x : N) (ys : List N) → P x → Every P ys → (z : N) → In z (x ∷ ys) → In z (sorted ν x ys)
  unfolding sorted
  of-sorted x [] p ps z k = k
  of-sorted x (y ∷ ys) p ps z k =
      by_order ν (λ l. In z (x ∷ y ∷ ys) → In z l) x y ys (λ e i. i) (λ e i. ⊎_elim (λ q. inl (q ∙ tells.same x y p ps.0 e)) (λ j. j) i)
      (λ e i. ⊎_elim (λ q. inr (of-sorted x ys p ps.1 z (inl q))) (λ j. ⊎_elim (λ q. inl q) (λ l. inr (of-sorted x ys p ps.1 z (inr l))) j) i) k

  pub of-sort : (xs : List N) → Every P xs → (z : N) → In z xs → In z (sort ν xs)
  unfolding sort
  of-sort [] ps z k = k
  of-sort (x ∷ xs) ps z k = of-sorted x (sort ν xs) ps.0 (sort-every ν P xs ps.1) z (⊎_elim (λ e. inl e) (λ i. inr (of-sort xs ps.1 z i)) k)

  -- a name that isn't there makes one more
  pub sorted_more : (x : N) (ys : List N) → P x → Every P ys → (In x ys → ⊥) → length (sorted ν x ys) ≡ suc (length ys)
  unfolding sorted
  sorted_more x [] p ps f = refl
  sorted_more x (y ∷ ys) p ps f =
      by_order ν (λ l. length l ≡ suc (suc (length ys))) x y ys (λ e. refl) (λ e. absurd (f (inl (tells.same x y p ps.0 e))))
      (λ e. omega (arith, sorted_more x ys p ps.1 (λ i. f (inr i))))

  pub sort-to : (xs : List N) → Every P xs → (z : N) → Memᴰ z xs → Memᴰ z (sort ν xs)
  sort-to xs p z m = in-member (sort ν xs) (of-sort xs p z (member-in xs m))

module _ {N : Type 0} (ν : Names N) (law : Lawful ν.order) where
  sooner : (a b : N) (xs : List N) → ν.order a b ≡ Ordering.lt → Before ν b xs → Before ν a xs
  sooner a b xs h k = every-as (λ x. law.trans a b x h) xs k

  never_both : (a b : N) → ν.order a b ≡ Ordering.lt → ν.order b a ≡ Ordering.lt → ⊥
  never_both a b h k = before_differs law a a (law.trans a b a h k) refl

  -- ══ Sorted names rise ══

  sorted_before : (a x : N) (ys : List N) → ν.order a x ≡ Ordering.lt → Before ν a ys → Before ν a (sorted ν x ys)
  unfolding sorted
  sorted_before a x [] h k = (h, tt)
  sorted_before a x (y ∷ ys) h k = by_order ν (Before ν a) x y ys (λ e. (h, k)) (λ e. k) (λ e. (k.0, sorted_before a x ys h k.1))

  sorted_rises : (x : N) (ys : List N) → Rises ν ys → Rises ν (sorted ν x ys)
  unfolding sorted
  sorted_rises x [] h = (tt, tt)
  sorted_rises x (y ∷ ys) h =
      by_order ν (Rises ν) x y ys (λ e. ((e, sooner x y ys e h.0), h)) (λ e. h) (λ e. (sorted_before y x ys (after law x y e) h.0, sorted_rises x ys h.1))

  pub sort-rises : (xs : List N) → Rises ν (sort ν xs)
  unfolding sort
  sort-rises [] = tt
  sort-rises (x ∷ xs) = sorted_rises x (sort ν xs) (sort-rises xs)

  pub sort-rising : (xs : List N) → rising ν.order (sort ν xs) ≡ true
  sort-rising xs = rises-rising ν (sort ν xs) (sort-rises xs)

  -- ══ One rising list of given names ══

  pub one-rising : (xs ys : List N) → Rises ν xs → Rises ν ys → ((z : N) → In z xs → In z ys) → ((z : N) → In z ys → In z xs) → xs ≡ ys
  one-rising [] [] h k f g = refl
  one-rising [] (y ∷ ys) h k f g = absurd (g y (inl refl))
  one-rising (x ∷ xs) [] h k f g = absurd (f x (inl refl))
  one-rising (x ∷ xs) (y ∷ ys) h k f g =
      let e : x ≡ y = first in
      ap₂ ◌∷◌ e (one-rising xs ys h.1 k.1
      (λ z i. ⊎_elim (λ q. absurd (before_differs law x z (in-every _ xs h.0 z i) (e ∙ sym q))) (λ j. j) (f z (inr i)))
      (λ z i. ⊎_elim (λ q. absurd (before_differs law y z (in-every _ ys k.0 z i) (sym (q ∙ e)))) (λ j. j) (g z (inr i))))
    where
      first : x ≡ y
      first = ⊎_elim (λ q. q) (λ i. ⊎_elim (λ q. sym q) (λ j. absurd (never_both x y (in-every _ xs h.0 y j) (in-every _ ys k.0 x i)))
          (g y (inl refl))) (f x (inl refl))

  module _ (P : N → Type 0) (tells : Tells P ν.order) where
    -- ══ Sorting depends on what occurs ══

    pub same-sort : (xs ys : List N) → Every P xs → Every P ys → ((z : N) → In z xs → In z ys) → ((z : N) → In z ys → In z xs) → sort ν xs ≡ sort ν ys
    same-sort xs ys p q f g =
        one-rising (sort ν xs) (sort ν ys) (sort-rises xs) (sort-rises ys) (λ z i. of-sort ν P tells ys q z (f z (sort-of ν xs z i)))
        (λ z i. of-sort ν P tells xs p z (g z (sort-of ν ys z i)))

    -- the first of them, then the others
    pub first-sort : (x : N) (xs ys : List N) → Every P xs → Every P ys → In x xs → ((z : N) → In z xs → (z ≡ x) ⊎ In z ys)
        → ((z : N) → In z ys → In z xs × (ν.order x z ≡ Ordering.lt)) → sort ν xs ≡ x ∷ sort ν ys
    first-sort x xs ys p q i f g =
        one-rising (sort ν xs) (x ∷ sort ν ys) (sort-rises xs) (every_in _ (sort ν ys) (λ z j. (g z (sort-of ν ys z j)).1), sort-rises ys)
        (λ z j. ⊎_elim (λ e. inl e) (λ k. inr (of-sort ν P tells ys q z k)) (f z (sort-of ν xs z j)))
        (λ z j. ⊎_elim (λ e. rw e (of-sort ν P tells xs p x i)) (λ k. of-sort ν P tells xs p z (g z (sort-of ν ys z k)).0) j)
