-- What follows from the definitions of specs/Counting: names that are marked are counted once each, so the count is that of the distinct names.
use Rattle.std.specs.Prelude.{◌≡◌, Bool, true, false, ltb, length, get_or, set, replicate}
use Rattle.std.proofs.Math.Path.{refl, ap}
use Rattle.std.proofs.Common.{sym, ◌∙◌, ⊎_elim, arith, ltb-true, ltb-false}
use mathlib.Core.List.{List, [], ◌∷◌, ◌++◌, append_assoc}
use Prim.Native.Nat.{ℕ, zero, suc, ◌+◌, ◌≤◌, ◌<◌}
use Rattle.rules.specs.Trees.{Names}
use Rattle.rules.specs.Contents.{sort}
use Rattle.laws.specs.Order.{Lawful, Tells}
use Rattle.laws.specs.Lists.{Every}
use Rattle.laws.proofs.SortedNames.{In, sort-of, sort-every, sorted_more}
use Rattle.queries.specs.Marks.{picked}
use Rattle.queries.proofs.MarkLaws.{marks-none, mark-put, mark-out, mark-none}
use Rattle.queries.proofs.SortMarks.{picked-few, picked-held, marks-held, marks-sort}
use Rattle.solve_ceiling.specs.Counting.{Counted, Distinct}

pub counted-few : {m : List Bool} {v : ℕ} {xs : List ℕ} → Counted m v xs → v ≤ 256
counted-few {m} k = omega (arith, k.many, picked-few m 0, k.marks.long)

-- ══ One mark more ══

-- what a mark adds to the count
abbrev pub added : Bool → ℕ
added true = 0
added false = 1

picked-set : (m : List Bool) (i x : ℕ) → x < length m → length (picked i (set m x true)) ≡ length (picked i m) + added (get_or m x false)
unfolding picked
picked-set [] i x h = absurd (omega arith)
picked-set (true ∷ m) i zero h = omega arith
picked-set (false ∷ m) i zero h = omega arith
picked-set (true ∷ m) i (suc x) h = omega (arith, picked-set m (suc i) x (omega arith))
picked-set (false ∷ m) i (suc x) h = picked-set m (suc i) x (omega arith)

pub counted_none : Counted (replicate 256 false) 0 []
unfolding picked
counted_none = record { marks = marks-none; many = refl }

module _ (m : List Bool) (v : ℕ) (xs : List ℕ) (k : Counted m v xs) where
  pub count-put : (x : ℕ) → x < 256 → Counted (set m x true) (v + added (get_or m x false)) (xs ++ x ∷ [])
  count-put x h = record {
    marks = mark-put m xs k.marks x h;
    many = ap (◌+ added (get_or m x false)) k.many
        ∙ sym (picked-set m 0 x (omega (arith, k.marks.long)));
  }

  -- a name that can't be marked
  pub count-out : (x : ℕ) → 256 ≤ x → Counted m v (xs ++ x ∷ [])
  count-out x h = record { marks = mark-out m xs k.marks x h; many = k.many }

  pub count_none : Counted m v (xs ++ [])
  count_none = record { marks = mark-none m xs k.marks; many = k.many }

counted-from : (ys : List ℕ) (m : List Bool) (v : ℕ) → Counted m v ys → (xs : List ℕ) → (w : ℕ) × Distinct (ys ++ xs) w
counted-from ys m v k [] = (v, record { marked = m; counted = count_none m v ys k })
counted-from ys m v k (x ∷ xs) = rw (← append_assoc ys (x ∷ []) xs) (go (ltb x 256) refl (λ m' v' k'. counted-from (ys ++ x ∷ []) m' v' k' xs))
  where
    go : (b : Bool) → ltb x 256 ≡ b → ((m' : List Bool) (v' : ℕ) → Counted m' v' (ys ++ x ∷ []) → (w : ℕ) × Distinct ((ys ++ x ∷ []) ++ xs) w)
        → (w : ℕ) × Distinct ((ys ++ x ∷ []) ++ xs) w
    go true e f = f (set m x true) (v + added (get_or m x false)) (count-put m v ys k x (ltb-true x 256 e))
    go false e f = f m v (count-out m v ys k x (ltb-false x 256 e))

-- any names can be counted
pub counted-all : (xs : List ℕ) → (v : ℕ) × Distinct xs v
counted-all xs = counted-from [] (replicate 256 false) 0 counted_none xs

-- ══ Marks of distinct names ══

picked-from : (m : List Bool) (i y : ℕ) → In y (picked i m) → i ≤ y
unfolding picked
picked-from [] i y h = absurd h
picked-from (true ∷ m) i y h = ⊎_elim (λ e. omega arith) (λ k. omega (arith, picked-from m (suc i) y k)) h
picked-from (false ∷ m) i y h = omega (arith, picked-from m (suc i) y h)

module _ (ν : Names ℕ) (P : ℕ → Type 0) (tells : Tells P ν.order) where
  -- no place is marked twice, so sorting loses none
  picked_all : (m : List Bool) (i : ℕ) → Every P (picked i m) → length (sort ν (picked i m)) ≡ length (picked i m)
  unfolding picked sort
  picked_all [] i h = refl
  picked_all (true ∷ m) i h =
      let rest = picked (suc i) m in
      sorted_more ν P tells i (sort ν rest) h.0 (sort-every ν P rest h.1) (λ k. absurd (omega (arith, picked-from m (suc i) i (sort-of ν rest i k))))
      ∙ ap suc (picked_all m (suc i) h.1)
  picked_all (false ∷ m) i h = picked_all m (suc i) h

module _ (n : ℕ) (few : n ≤ 256) (xs : List ℕ) (h : Every (λ x. x < n) xs) (ν : Names ℕ) (law : Lawful ν.order) (tells : Tells (λ x. x < n) ν.order) where
  -- the count is that of the sorted names
  pub distinct-sorted : (v : ℕ) → Distinct xs v → v ≡ length (sort ν xs)
  distinct-sorted v d =
      let m = d.marked in
      let k = d.counted.marks in
      d.counted.many
      ∙ sym (picked_all ν (λ x. x < n) tells m 0 (picked-held n m (marks-held n few m xs k h)))
      ∙ ap length (marks-sort n few m xs k h ν law tells)
