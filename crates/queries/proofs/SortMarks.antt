-- Marked names one by one, the first by name bytes before the others.
use Rattle.std.specs.Prelude.{None, Option, Some, ◌≡◌, Bool, true, false, ◌⊎◌, ltb, length, get_or, set, drop}
use Rattle.std.proofs.Math.Path.{refl, ap}
use Rattle.std.proofs.Common.{sym, subst, ◌∙◌, inl, inr, ⊎_elim, add-zero, arith, ltb-true, ltb-false, length-set, length-append, get_or-set_other, drop-cons}
use mathlib.Core.List.{List, [], ◌∷◌, ◌++◌, append_assoc, append-nil}
use Prim.Native.Nat.{ℕ, zero, suc, ◌+◌, ◌≤◌, ◌<◌, Ordering}
use Rattle.std.proofs.Math.Decide.{ℕ_discrete}
use Rattle.std.proofs.Math.Seq.{set-append_seam}
use Rattle.rules.specs.Trees.{Names}
use Rattle.rules.specs.Contents.{sort}
use Rattle.rules.specs.Calls.{over}
use Rattle.rules.specs.Names.{table_of, names_of}
use Rattle.laws.proofs.Lists.{true≢false}
use Rattle.laws.proofs.ByteOrder.{numbered-lawful}
use Rattle.laws.proofs.NameTable.{held_tells}
use Rattle.laws.specs.NameTable.{Good}
use Rattle.laws.specs.Order.{Lawful, Tells}
use Rattle.laws.proofs.Order.{after}
use Rattle.laws.specs.Lists.{Every}
use Rattle.laws.proofs.SortedNames.{In, same-sort, first-sort, sort-few}
use Rattle.laws.proofs.SortedNames.{every_in, in-every}
use Rattle.records.specs.Good.{numbers}
use Rattle.queries.proofs.MarkLaws.{any-in, in-any}
use Rattle.queries.specs.Marks.{Marks, Held, picked, Least, firstBy, sooner, Filled}

clash : {A : Type 0} → true ≡ false → A
clash e = absurd (true≢false e)

-- ══ Which names are marked ══

marked-in : (m : List Bool) (k : ℕ) → get_or m k false ≡ true → k < length m
marked-in [] k e = clash (sym e)
marked-in (b ∷ m) zero e = omega arith
marked-in (b ∷ m) (suc k) e = omega (arith, marked-in m k e)

unmarked : (m : List Bool) (x : ℕ) → get_or (set m x false) x false ≡ false
unmarked [] x = refl
unmarked (b ∷ m) zero = refl
unmarked (b ∷ m) (suc x) = unmarked m x

of-picked : (m : List Bool) (i k : ℕ) → get_or m k false ≡ true → In (i + k) (picked i m)
unfolding picked
of-picked [] i k e = clash (sym e)
of-picked (true ∷ m) i zero e = inl (add-zero i)
of-picked (false ∷ m) i zero e = clash (sym e)
of-picked (true ∷ m) i (suc k) e = let q : suc i + k ≡ i + suc k = omega arith in inr (subst (λ (z : ℕ). In z (picked (suc i) m)) q (of-picked m (suc i) k e))
of-picked (false ∷ m) i (suc k) e = let q : suc i + k ≡ i + suc k = omega arith in subst (λ (z : ℕ). In z (picked (suc i) m)) q (of-picked m (suc i) k e)

picked_of : (m : List Bool) (i y : ℕ) → In y (picked i m) → (k : ℕ) × (y ≡ i + k) × (get_or m k false ≡ true)
unfolding picked
picked_of [] i y h = absurd h
picked_of (true ∷ m) i y h =
    ⊎_elim (λ e. (0, e ∙ sym (add-zero i), refl)) (λ j. let (k, q, e) = picked_of m (suc i) y j in (suc k, omega arith, e)) h
picked_of (false ∷ m) i y h = let (k, q, e) = picked_of m (suc i) y h in (suc k, omega arith, e)

pub picked-few : (m : List Bool) (i : ℕ) → length (picked i m) ≤ length m
unfolding picked
picked-few [] i = omega arith
picked-few (true ∷ m) i = omega (arith, picked-few m (suc i))
picked-few (false ∷ m) i = omega (arith, picked-few m (suc i))

module _ (m : List Bool) where
  pub picks : (y : ℕ) → get_or m y false ≡ true → In y (picked 0 m)
  picks y e = let q : 0 + y ≡ y = omega arith in rw q at (of-picked m 0 y e)

  pub picks_of : (y : ℕ) → In y (picked 0 m) → get_or m y false ≡ true
  picks_of y h = let (k, q, e) = picked_of m 0 y h in let z : k ≡ y = omega arith in rw z at e

module _ (n : ℕ) (m : List Bool) (h : Held n m) where
  pub picked-held : Every (λ y. y < n) (picked 0 m)
  picked-held = every_in _ (picked 0 m) (λ y i. let e = picks_of m y i in h.held y (omega (arith, marked-in m y e, h.long)) e)

  pub held-less : (x : ℕ) → Held n (set m x false)
  held-less x = record { long = length-set m x false ∙ h.long; held = λ y l e. h.held y l (go y e (ℕ_discrete y x)) }
    where
      go : (y : ℕ) → get_or (set m x false) y false ≡ true → Dec (y ≡ x) → get_or m y false ≡ true
      go y e (yes q) = clash (sym (subst (λ (z : ℕ). get_or (set m x false) z false ≡ true) q e) ∙ unmarked m x)
      go y e (no f) = sym (get_or-set_other m x y false false f) ∙ e

module _ (ν : Names ℕ) (law : Lawful ν.order) (n : ℕ) (tells : Tells (λ x. x < n) ν.order) (m : List Bool) (h : Held n m) where
  -- ══ The first so far ══

  pub least-none : Least ν m 0 None
  least-none y l e = absurd (omega arith)

  -- what is marked below i + 1
  split : {A : Type 0} (i y : ℕ) → y < i + 1 → (y ≡ i → A) → (y < i → A) → A
  split {A} i y l f g = go (ltb y i) refl
    where
      go : (b : Bool) → ltb y i ≡ b → A
      go true e = g (ltb-true y i e)
      go false e = f (omega (arith, ltb-false y i e))

  pub skipped : (i : ℕ) → get_or m i false ≡ false → (best : Option ℕ) → Least ν m i best → Least ν m (i + 1) best
  skipped i e (Some x) k = (omega (arith, k.0), k.1, λ y l q. split i y l (λ z. clash (sym q ∙ ap (λ (w : ℕ). get_or m w false) z ∙ e)) (λ z. k.2 y z q))
  skipped i e None k = λ y l q. split i y l (λ z. clash (sym q ∙ ap (λ (w : ℕ). get_or m w false) z ∙ e)) (λ z. k y z q)

  pub taken : (i : ℕ) → i < 256 → get_or m i false ≡ true → (best : Option ℕ) → Least ν m i best → Least ν m (i + 1) (sooner ν best i)
  taken i l e None k = (omega arith, e, λ y j q. split i y j (λ z. inl z) (λ z. absurd (k y z q)))
  taken i l e (Some x) k = go (ν.order i x) refl
    where
      go : (o : Ordering) → ν.order i x ≡ o → Least ν m (i + 1) (firstBy o i x)
      go Ordering.lt p = (
        omega arith,
        e,
        λ y j q. split i y j (λ z. inl z) (λ z. inr (⊎_elim (λ w. ap (ν.order i) w ∙ p) (λ w. law.trans i x y p w) (k.2 y z q))),
      )
      go Ordering.eq p = absurd (let z : i ≡ x = tells.same i x (h.held i l e) (h.held x (omega (arith, k.0)) k.1) p in omega (arith, k.0))
      go Ordering.gt p = (omega (arith, k.0), k.1, λ y j q. split i y j (λ z. inr (ap (ν.order x) z ∙ after law i x p)) (λ z. k.2 y z q))

  -- ══ The first, then the others ══

  pub sort-next : (x : ℕ) → Least ν m 256 (Some x) → sort ν (picked 0 m) ≡ x ∷ sort ν (picked 0 (set m x false))
  sort-next x k =
      first-sort ν law (λ y. y < n) tells x (picked 0 m) (picked 0 (set m x false)) (picked-held n m h)
      (picked-held n (set m x false) (held-less n m h x)) (picks m x k.1)
      (λ z i. there z (picks_of m z i) (ℕ_discrete z x))
      (λ z i. back z (picks_of (set m x false) z i) (ℕ_discrete z x))
    where
      there : (z : ℕ) → get_or m z false ≡ true → Dec (z ≡ x) → (z ≡ x) ⊎ In z (picked 0 (set m x false))
      there z e (yes q) = inl q
      there z e (no f) = inr (picks (set m x false) z (get_or-set_other m x z false false f ∙ e))

      back : (z : ℕ) → get_or (set m x false) z false ≡ true → Dec (z ≡ x) → In z (picked 0 m) × (ν.order x z ≡ Ordering.lt)
      back z e (yes q) = clash (sym (subst (λ (w : ℕ). get_or (set m x false) w false ≡ true) q e) ∙ unmarked m x)
      back z e (no f) =
          let g : get_or m z false ≡ true = sym (get_or-set_other m x z false false f) ∙ e in
          (picks m z g, ⊎_elim (λ q. absurd (f q)) (λ q. q) (k.2 z (omega (arith, marked-in m z g, h.long)) g))

  pub sort-end : Least ν m 256 None → sort ν (picked 0 m) ≡ []
  unfolding sort
  sort-end k = ap (sort ν) (empty (picked 0 m) (λ z i. let e = picks_of m z i in k z (omega (arith, marked-in m z e, h.long)) e))
    where
      empty : (xs : List ℕ) → ((z : ℕ) → In z xs → ⊥) → xs ≡ []
      empty [] f = refl
      empty (x ∷ xs) f = absurd (f x (inl refl))

-- ══ Marks of names ══

module _ (n : ℕ) (few : n ≤ 256) (m : List Bool) (xs : List ℕ) (k : Marks m xs) (h : Every (λ x. x < n) xs) where
  pub marks-held : Held n m
  marks-held = record { long = k.long; held = λ x l e. in-every _ xs h x (any-in x xs (sym (k.each x l) ∙ e)) }

  -- sorting the marked names is sorting the names
  pub marks-sort : (ν : Names ℕ) → Lawful ν.order → Tells (λ x. x < n) ν.order → sort ν (picked 0 m) ≡ sort ν xs
  marks-sort ν law tells =
      same-sort ν law (λ x. x < n) tells (picked 0 m) xs (picked-held n m marks-held) h
      (λ z i. let e = picks_of m z i in any-in z xs (sym (k.each z (omega (arith, marked-in m z e, k.long))) ∙ e))
      (λ z i. picks m z (k.each z (omega (arith, in-every _ xs h z i)) ∙ in-any z xs i))

-- ══ Names at the front of a buffer ══

pub over-put : (xs : List ℕ) (d : List ℕ) (k x : ℕ) → length xs ≡ k → k < length d → set (over xs d) k x ≡ over (xs ++ x ∷ []) d
unfolding over
over-put xs d k x e h =
    let q : length (xs ++ x ∷ []) ≡ suc k = length-append xs (x ∷ []) ∙ omega arith in
    rw (
      q,
      e,
      drop-cons d k 0 h,
      ← e,
      set-append_seam xs (get_or d (length xs) 0) (drop (suc (length xs)) d) x,
      append_assoc xs (x ∷ []) (drop (suc (length xs)) d),
    )

pub over_none : (d : List ℕ) → over [] d ≡ d
unfolding over
over_none d = refl

-- while sorting: the names written so far, then those that are left
pub record Sorting (ν : Names ℕ) (n : ℕ) (m : List Bool) (before : List ℕ) (left : List Bool) (now : List ℕ) (k : ℕ) : Type 0 where
  pub held : Held n left
  pub written : List ℕ
  pub rest : written ++ sort ν (picked 0 left) ≡ sort ν (picked 0 m)
  pub many : length written ≡ k
  pub buffer : now ≡ over written before
  pub same : length now ≡ length before

-- of the names of a table that was tested
module _ {pool table : List ℕ} (good : Good pool table) (m : List Bool) (before : List ℕ) where
  abbrev ν : Names ℕ
  ν = numbers pool table

  abbrev n : ℕ
  n = get_or table 0 0

  law : Lawful ν.order
  law = numbered-lawful (names_of (table_of pool table))

  tells : Tells (λ x. x < n) ν.order
  tells = held_tells good

  pub sorting_start : Held n m → Sorting ν n m before m before 0
  sorting_start h = record { held = h; written = []; rest = refl; many = refl; buffer = sym (over_none before); same = refl }

  module _ (left : List Bool) (now : List ℕ) (k : ℕ) (long : length m ≡ 256) (s : Sorting ν n m before left now k) where
    pub sorting-end : Least ν left 256 None → Filled (sort ν (picked 0 m)) k before now
    sorting-end l =
        let e : s.written ≡ sort ν (picked 0 m) = sym (ap (s.written ++◌) (sort-end ν law n tells left s.held l) ∙ append-nil s.written) ∙ s.rest in
        record { many = sym s.many ∙ ap length e; buffer = s.buffer ∙ ap (λ xs. over xs before) e }

    module _ (x : ℕ) (l : Least ν left 256 (Some x)) where
      -- one name fewer is left
      pub sorting-less : length (sort ν (picked 0 (set left x false))) < length (sort ν (picked 0 left))
      sorting-less = let e = ap length (sort-next ν law n tells left s.held x l) in omega (arith, e)

      pub sorting-few : k < 256
      sorting-few =
          let e = simp length-append at (ap length s.rest) in
          omega (arith, e, sorting-less, s.many, sort-few ν (picked 0 m), picked-few m 0)

      pub sorting_step : 256 ≤ length before → Sorting ν n m before (set left x false) (set now k x) (k + 1)
      sorting_step h = record {
        held = held-less n left s.held x;
        written = s.written ++ x ∷ [];
        rest = append_assoc s.written (x ∷ []) (sort ν (picked 0 (set left x false)))
            ∙ ap (s.written ++◌) (sym (sort-next ν law n tells left s.held x l)) ∙ s.rest;
        many = length-append s.written (x ∷ []) ∙ omega (arith, s.many);
        buffer = ap (λ d. set d k x) s.buffer ∙ over-put s.written before k x s.many (omega (arith, sorting-few));
        same = length-set now k x ∙ s.same;
      }
