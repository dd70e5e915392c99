-- What marks say of the names that they stand for.
use Rattle.std.specs.Prelude.{
  ◌≡◌,
  refl,
  Bool,
  true,
  false,
  not,
  ◌&&◌,
  ◌||◌,
  List,
  [],
  ◌∷◌,
  ◌++◌,
  ℕ,
  zero,
  suc,
  ◌+◌,
  ◌<◌,
  ◌≤◌,
  eqb,
  length,
  get_or,
  set,
  drop,
  replicate,
}
use Rattle.std.proofs.lemmas.Bool.{false_from_ne_true}
use Rattle.std.proofs.Common.{
  sym,
  ap,
  ◌∙◌,
  append-nil,
  arith,
  eqb-true,
  eq-eqb,
  ne_eqb,
  add-one,
  drop_of_length-le,
  length-set,
  drop-cons,
  get_or-set_same,
  get_or-set_other,
  inl,
  inr,
  ⊎_elim,
}
use Rattle.std.proofs.Math.Bool.{or-true, or-false, and-false}
use Rattle.std.proofs.lemmas.Bool.{eqb-false}
use Rattle.std.proofs.lemmas.List.{length-replicate, get_or-replicate}
use Rattle.rules.specs.Base.{any, all, collect}
use Rattle.rules.specs.Trees.{Open, var, quant, par}
use Rattle.rules.specs.Names.{Bytes, numbered}
use Rattle.rules.specs.Contents.{variablesIn, parametersIn, among, unmixed, namesIn}
use Rattle.laws.specs.Lists.{all-is}
use Rattle.laws.proofs.Lists.{true≢false, is_all, any-is, is_any}
use Rattle.laws.specs.Lists.{Every}
use Rattle.laws.proofs.SortedNames.{In}
pub use Rattle.laws.proofs.SortedNames.{every_in, in-every}
use Rattle.queries.specs.declared.Kind.{Kind}
use Rattle.queries.specs.declared.Kind.TheVariants.{Variables, Parameters, Both}
use Rattle.queries.specs.Scans.{choose}
use Rattle.laws.proofs.Contents.{any_append, same-eqb}
use Rattle.queries.specs.Marks.{Marks, Below, Small, disjoint}

unequal : {A : Type 0} → true ≡ false → A
unequal e = absurd (true≢false e)

-- ══ Which names occur ══

pub any-in : (x : ℕ) (xs : List ℕ) → any (eqb x) xs ≡ true → In x xs
unfolding any
any-in x [] e = unequal (sym e)
any-in x (y ∷ xs) e = go (eqb x y) refl (any-in x xs)
  where
    go : (b : Bool) → eqb x y ≡ b → (any (eqb x) xs ≡ true → In x xs) → In x (y ∷ xs)
    go true q f = inl (eqb-true x y q)
    go false q f = inr (f (ap (◌|| any (eqb x) xs) (sym q) ∙ e))

pub in-any : (x : ℕ) (xs : List ℕ) → In x xs → any (eqb x) xs ≡ true
unfolding any
in-any x [] h = absurd h
in-any x (y ∷ xs) h = ⊎_elim (λ e. ap (◌|| any (eqb x) xs) (eq-eqb x y e)) (λ i. ap (eqb x y ||◌) (in-any x xs i) ∙ or-true (eqb x y)) h

-- names of a kind below a number
pub chosen-below : (n : ℕ) (k : Kind) (os : List (Open ℕ)) → Every (Below n) os → Every (λ x. x < n) (choose k os)
unfolding variablesIn parametersIn namesIn collect
chosen-below n Variables [] h = tt
chosen-below n Parameters [] h = tt
chosen-below n Both [] h = tt
chosen-below n Variables (var x ∷ os) h = (h.0, chosen-below n Variables os h.1)
chosen-below n Variables (quant i ∷ os) h = chosen-below n Variables os h.1
chosen-below n Variables (par x ∷ os) h = chosen-below n Variables os h.1
chosen-below n Parameters (var x ∷ os) h = chosen-below n Parameters os h.1
chosen-below n Parameters (quant i ∷ os) h = chosen-below n Parameters os h.1
chosen-below n Parameters (par x ∷ os) h = (h.0, chosen-below n Parameters os h.1)
chosen-below n Both (var x ∷ os) h = (h.0, chosen-below n Both os h.1)
chosen-below n Both (quant i ∷ os) h = chosen-below n Both os h.1
chosen-below n Both (par x ∷ os) h = (h.0, chosen-below n Both os h.1)

-- ══ Marking ══

any_last : (y x : ℕ) (xs : List ℕ) → any (eqb y) (xs ++ x ∷ []) ≡ (any (eqb y) xs || eqb y x)
unfolding any
any_last y x xs = any_append (eqb y) xs (x ∷ []) ∙ ap (any (eqb y) xs ||◌) (or-false (eqb y x))

pub marks-none : Marks (replicate 256 false) []
unfolding any
marks-none = record { long = length-replicate 256 false; each = λ x h. get_or-replicate 256 x false false h }

module _ (m : List Bool) (xs : List ℕ) (k : Marks m xs) where
  pub mark-put : (x : ℕ) → x < 256 → Marks (set m x true) (xs ++ x ∷ [])
  mark-put x h = record { long = length-set m x true ∙ k.long; each = λ y l. go y l (eqb y x) refl }
    where
      go : (y : ℕ) → y < 256 → (b : Bool) → eqb y x ≡ b → get_or (set m x true) y false ≡ any (eqb y) (xs ++ x ∷ [])
      go y l true e =
          let q : y ≡ x = eqb-true y x e in
          let i : x < length m = omega (arith, k.long) in
          ap (λ (z : ℕ). get_or (set m x true) z false) q ∙ get_or-set_same m x true false i
          ∙ sym (any_last y x xs ∙ ap (any (eqb y) xs ||◌) e ∙ or-true (any (eqb y) xs))
      go y l false e = get_or-set_other m x y true false (eqb-false y x e) ∙ k.each y l
          ∙ sym (any_last y x xs ∙ ap (any (eqb y) xs ||◌) e ∙ or-false (any (eqb y) xs))

  -- a name that can't be marked
  pub mark-out : (x : ℕ) → 256 ≤ x → Marks m (xs ++ x ∷ [])
  mark-out x h = record {
    long = k.long;
    each = λ y l. k.each y l
        ∙ sym (any_last y x xs ∙ ap (any (eqb y) xs ||◌) (ne_eqb y x (λ e. omega arith)) ∙ or-false (any (eqb y) xs));
  }

  pub mark-none : Marks m (xs ++ [])
  mark-none = rw (append-nil xs) k

-- ══ Marked in both ══

-- place by place
disjoint-step : (v p : List Bool) (i : ℕ) → i < length v → i < length p
    → disjoint (drop i v) (drop i p) ≡ (not (get_or v i false && get_or p i false) && disjoint (drop (i + 1) v) (drop (i + 1) p))
unfolding disjoint
disjoint-step v p i h k = rw (add-one i, drop-cons v i false h, drop-cons p i false k)

pub both-marked : (v p : List Bool) (i : ℕ) → i < length v → i < length p → get_or v i false ≡ true → get_or p i false ≡ true
    → disjoint (drop i v) (drop i p) ≡ false
both-marked v p i h k e q = disjoint-step v p i h k ∙ rw (e, q) refl

pub first-unmarked : (v p : List Bool) (i : ℕ) → i < length v → i < length p → get_or v i false ≡ false
    → disjoint (drop i v) (drop i p) ≡ disjoint (drop (i + 1) v) (drop (i + 1) p)
first-unmarked v p i h k e = disjoint-step v p i h k ∙ rw e refl

pub second-unmarked : (v p : List Bool) (i : ℕ) → i < length v → i < length p → get_or p i false ≡ false
    → disjoint (drop i v) (drop i p) ≡ disjoint (drop (i + 1) v) (drop (i + 1) p)
second-unmarked v p i h k e =
    disjoint-step v p i h k
    ∙ ap (λ (b : Bool). not b && disjoint (drop (i + 1) v) (drop (i + 1) p)) (ap (get_or v i false &&◌) e ∙ and-false (get_or v i false))

pub disjoint-end : (v p : List Bool) (i : ℕ) → length v ≤ i → disjoint (drop i v) (drop i p) ≡ true
unfolding disjoint
disjoint-end v p i h = rw (drop_of_length-le v h)

never : (v p : List Bool) → disjoint v p ≡ true → (x : ℕ) → get_or v x false ≡ true → get_or p x false ≡ true → ⊥
unfolding disjoint
never [] p e x a b = unequal (sym a)
never (c ∷ v) [] e x a b = unequal (sym b)
never (true ∷ v) (true ∷ p) e x a b = unequal (sym e)
never (true ∷ v) (false ∷ p) e zero a b = unequal (sym b)
never (true ∷ v) (false ∷ p) e (suc x) a b = never v p e x a b
never (false ∷ v) (d ∷ p) e zero a b = unequal (sym a)
never (false ∷ v) (d ∷ p) e (suc x) a b = never v p e x a b

once : (v p : List Bool) → disjoint v p ≡ false → (x : ℕ) × (x < length v) × (get_or v x false ≡ true) × (get_or p x false ≡ true)
unfolding disjoint
once [] p e = unequal e
once (c ∷ v) [] e = unequal e
once (true ∷ v) (true ∷ p) e = (0, omega arith, refl, refl)
once (true ∷ v) (false ∷ p) e = let (x, h, a, b) = once v p e in (suc x, omega arith, a, b)
once (false ∷ v) (d ∷ p) e = let (x, h, a, b) = once v p e in (suc x, omega arith, a, b)

-- ══ The check for refusal 4 ══

all-each : (q : ℕ → Bool) (xs : List ℕ) → ((x : ℕ) → any (eqb x) xs ≡ true → q x ≡ true) → all q xs ≡ true
all-each q xs f = is_all q xs (λ x m. f x (is_any (eqb x) xs x m (eq-eqb x x refl)))

all-not : (q : ℕ → Bool) (xs : List ℕ) (x : ℕ) → any (eqb x) xs ≡ true → q x ≡ false → all q xs ≡ false
all-not q xs x e f = go (all q xs) refl
  where
    go : (b : Bool) → all q xs ≡ b → all q xs ≡ false
    go true h = let s = any-is (eqb x) xs e in unequal (sym (all-is q xs h s.one s.within) ∙ ap q (sym (eqb-true x s.one s.fits)) ∙ f)
    go false h = h

pub unmixed-marks : (os : List (Open ℕ)) (v p : List Bool) → Marks v (variablesIn os) → Marks p (parametersIn os) → Small os → (names : List Bytes)
    → disjoint v p ≡ unmixed (numbered names) os
unfolding unmixed
unmixed-marks os v p a b h names = go (disjoint v p) refl
  where
    go : (c : Bool) → disjoint v p ≡ c → disjoint v p ≡ all (λ x. not (among (numbered names) x (parametersIn os))) (variablesIn os)
    go true e = e ∙ sym (all-each _ (variablesIn os) (λ x k.
        let l : x < 256 = in-every _ (variablesIn os) (chosen-below 256 Variables os h) x (any-in x (variablesIn os) k) in
        ap not (same-eqb names x (parametersIn os) ∙ sym (b.each x l) ∙ false_from_ne_true (get_or p x false) (λ f. never v p e x (a.each x l ∙ k) f))))
    go false e =
        let (x, l, i, j) = once v p e in
        let l' : x < 256 = omega (arith, a.long) in
        e ∙ sym (all-not _ (variablesIn os) x (sym (a.each x l') ∙ i) (ap not (same-eqb names x (parametersIn os) ∙ sym (b.each x l') ∙ j)))
