-- What stands of constraints: part by part, and when marks change.
use Rattle.std.specs.Prelude.{◌≡◌, Bool, true, false, List, [], ◌∷◌, ◌++◌, ℕ, suc, ◌+◌, ◌-◌, ◌≤◌, ◌<◌, length, take, drop, get_or, refl}
use Rattle.std.proofs.Common.{ap, sym, ◌∙◌, arith, add-zero}
use Rattle.std.proofs.lemmas.List.{take-append-drop, length-take-le, length-drop, drop-drop}
use Rattle.std.proofs.Math.Seq.{take-add}
use Rattle.rules.specs.Base.{keep}
use Rattle.rules.specs.Conflicts.{linesFrom}
use Rattle.rules.specs.Trees.{Con}
use Rattle.solve_conflict.specs.Standing.{stands, standing, before, behind, run}

-- ══ Part by part ══

pub keep-both : {A : Type 0} (p : A → Bool) (xs ys : List A) → keep p (xs ++ ys) ≡ keep p xs ++ keep p ys
unfolding keep
keep-both p [] ys = refl
keep-both p (x ∷ xs) ys = go (p x) (keep-both p xs ys)
  where
    go : (b : Bool) → keep p (xs ++ ys) ≡ keep p xs ++ keep p ys
        → elim b [ true ↦ x ∷ keep p (xs ++ ys) | false ↦ keep p (xs ++ ys) ] ≡ (elim b [ true ↦ x ∷ keep p xs | false ↦ keep p xs ]) ++ keep p ys
    go true h = ap (x ∷◌) h
    go false h = h

pub lines-both : {N : Type 0} (i : ℕ) (xs ys : List (Con N)) → linesFrom i (xs ++ ys) ≡ linesFrom i xs ++ linesFrom (i + length xs) ys
unfolding linesFrom
lines-both i [] ys = ap (λ (j : ℕ). linesFrom j ys) (sym (add-zero i))
lines-both i (x ∷ xs) ys =
    let e : suc i + length xs ≡ i + length (x ∷ xs) = omega arith in
    ap ((i, x) ∷◌) (lines-both (suc i) xs ys ∙ ap (λ (j : ℕ). linesFrom (suc i) xs ++ linesFrom j ys) e)

pub lines-long : {N : Type 0} (i : ℕ) (xs : List (Con N)) → length (linesFrom i xs) ≡ length xs
unfolding linesFrom
lines-long i [] = refl
lines-long i (x ∷ xs) = ap suc (lines-long (suc i) xs)

module _ (m : List Bool) where
  pub stands-first : (i : ℕ) (c : Con ℕ) (cs : List (Con ℕ)) → get_or m i false ≡ true → standing m i (c ∷ cs) ≡ (i, c) ∷ standing m (suc i) cs
  unfolding keep linesFrom
  stands-first i c cs e = ap (λ (b : Bool). elim b [ true ↦ (i, c) ∷ standing m (suc i) cs | false ↦ standing m (suc i) cs ]) e

  pub stands-not : (i : ℕ) (c : Con ℕ) (cs : List (Con ℕ)) → get_or m i false ≡ false → standing m i (c ∷ cs) ≡ standing m (suc i) cs
  unfolding keep linesFrom
  stands-not i c cs e = ap (λ (b : Bool). elim b [ true ↦ (i, c) ∷ standing m (suc i) cs | false ↦ standing m (suc i) cs ]) e

  pub stands-both : (i : ℕ) (xs ys : List (Con ℕ)) → standing m i (xs ++ ys) ≡ standing m i xs ++ standing m (i + length xs) ys
  stands-both i xs ys = ap (keep (stands m)) (lines-both i xs ys) ∙ keep-both (stands m) (linesFrom i xs) (linesFrom (i + length xs) ys)

  -- all of these places stand; none of them does
  pub stand-all : (i : ℕ) (cs : List (Con ℕ)) → ((j : ℕ) → i ≤ j → j < i + length cs → get_or m j false ≡ true) → standing m i cs ≡ linesFrom i cs
  unfolding keep linesFrom
  stand-all i [] h = refl
  stand-all i (c ∷ cs) h =
      stands-first i c cs (h i (omega arith) (omega arith)) ∙ ap ((i, c) ∷◌) (stand-all (suc i) cs (λ j a b. h j (omega (arith, a)) (omega (arith, b))))

  pub stand-none : (i : ℕ) (cs : List (Con ℕ)) → ((j : ℕ) → i ≤ j → j < i + length cs → get_or m j false ≡ false) → standing m i cs ≡ []
  unfolding keep linesFrom
  stand-none i [] h = refl
  stand-none i (c ∷ cs) h = stands-not i c cs (h i (omega arith) (omega arith)) ∙ stand-none (suc i) cs (λ j a b. h j (omega (arith, a)) (omega (arith, b)))

-- marks that agree at these places
pub stand-alike : (m m' : List Bool) (i : ℕ) (cs : List (Con ℕ)) → ((j : ℕ) → i ≤ j → j < i + length cs → get_or m' j false ≡ get_or m j false)
    → standing m' i cs ≡ standing m i cs
unfolding keep linesFrom
stand-alike m m' i [] h = refl
stand-alike m m' i (c ∷ cs) h = go (get_or m i false) refl (stand-alike m m' (suc i) cs (λ j a b. h j (omega (arith, a)) (omega (arith, b))))
  where
    here : get_or m' i false ≡ get_or m i false
    here = h i (omega arith) (omega arith)

    go : (b : Bool) → get_or m i false ≡ b → standing m' (suc i) cs ≡ standing m (suc i) cs → standing m' i (c ∷ cs) ≡ standing m i (c ∷ cs)
    go true e r = stands-first m' i c cs (here ∙ e) ∙ ap ((i, c) ∷◌) r ∙ sym (stands-first m i c cs e)
    go false e r = stands-not m' i c cs (here ∙ e) ∙ r ∙ sym (stands-not m i c cs e)

-- ══ Runs of places ══

module _ (cs : List (Con ℕ)) where
  module _ (a b : ℕ) (le : a ≤ b) (fits : b ≤ length cs) where
    pub run-long : length (run cs a b) ≡ b - a
    run-long = length-take-le (b - a) (drop a cs) (omega (arith, length-drop a cs, le, fits))

    ends : a + (b - a) ≡ b
    ends = omega (arith, le)

    cut-before : take b cs ≡ take a cs ++ run cs a b
    cut-before = ap (λ (k : ℕ). take k cs) (sym ends) ∙ take-add a (b - a) cs

    cut-behind : drop a cs ≡ run cs a b ++ drop b cs
    cut-behind = sym (take-append-drop (b - a) (drop a cs)) ∙ ap (run cs a b ++◌) (drop-drop (b - a) a cs ∙ ap (λ (k : ℕ). drop k cs) ends)

    pub few-before : length (take a cs) ≡ a
    few-before = length-take-le a cs (omega (arith, le, fits))

    -- the run in two
    pub run-both : (c : ℕ) → a ≤ c → c ≤ b → run cs a b ≡ run cs a c ++ run cs c b
    run-both c p q =
        let e : b - a ≡ (c - a) + (b - c) = omega (arith, p, q) in
        let k : a + (c - a) ≡ c = omega (arith, p) in
        ap (λ (n : ℕ). take n (drop a cs)) e ∙ take-add (c - a) (b - c) (drop a cs)
        ∙ ap (λ (xs : List (Con ℕ)). run cs a c ++ take (b - c) xs) (drop-drop (c - a) a cs ∙ ap (λ (n : ℕ). drop n cs) k)

    module _ (m : List Bool) where
      pub before-both : before cs m b ≡ before cs m a ++ standing m a (run cs a b)
      before-both =
          let k : 0 + length (take a cs) ≡ a = omega (arith, few-before) in
          ap (standing m 0) cut-before ∙ stands-both m 0 (take a cs) (run cs a b) ∙ ap (λ (k : ℕ). standing m 0 (take a cs) ++ standing m k (run cs a b)) k

      pub behind-both : behind cs m a ≡ standing m a (run cs a b) ++ behind cs m b
      behind-both =
          ap (standing m a) cut-behind ∙ stands-both m a (run cs a b) (drop b cs)
          ∙ ap (λ (k : ℕ). standing m a (run cs a b) ++ standing m k (drop b cs)) (omega (arith, run-long, le))

-- all marks: before a place and from there on
pub whole-both : (cs : List (Con ℕ)) (m : List Bool) (k : ℕ) → k ≤ length cs → standing m 0 cs ≡ before cs m k ++ behind cs m k
whole-both cs m k le =
    let e : 0 + length (take k cs) ≡ k = omega (arith, length-take-le k cs le) in
    ap (standing m 0) (sym (take-append-drop k cs)) ∙ stands-both m 0 (take k cs) (drop k cs)
    ∙ ap (λ (j : ℕ). standing m 0 (take k cs) ++ standing m j (drop k cs)) e
