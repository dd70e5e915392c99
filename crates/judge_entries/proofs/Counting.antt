-- As many slots are taken as there are entries just where no variable is named twice and all are below the number of slots.
use Rattle.std.specs.Prelude.{◌≡◌, Bool, not, List, [], ◌∷◌, ltb, length, get_or, set}
use Rattle.std.proofs.Math.Path.{refl, ap}
use Rattle.std.proofs.Common.{sym, ◌∙◌, add-one, length-set, get_or-set_same, get_or-set_other}
use Rattle.std.proofs.Math.Bool.{true, false}
use Rattle.std.specs.Prelude as std
use Rattle.std.specs.Option.{is_some}
use Rattle.std.proofs.Math.Option.{Option, none, some}
use Prim.Native.Nat.{ℕ, zero, suc, ◌+◌, ◌≤◌, ◌<◌}
use native.Mathlib.Omega.{arith}
use borrow.Author.Tests.{eqb-true, eqb-false, eq-eqb, ne_eqb, ltb-true, ltb-false}
use Rattle.std.proofs.Math.Dec.{eqb}
use Rattle.std.proofs.lemmas.List.{length-replicate}
use Rattle.rules.specs.Base.{any}
use Rattle.rules.specs.Calls.{Entry, differ}
use Rattle.rules.specs.Refusals.{toldOption}
use Rattle.std.proofs.lemmas.Bool.{not-true}
use Rattle.laws.specs.Lists.{and_left, and_right}
use Rattle.laws.proofs.Lists.{true≢false}
use Rattle.laws.specs.Lists.{Every}
use Rattle.judge_entries.specs.Entries.{variablesOf, place_of, slot_of, notedBelow, slots_of, bit, taken}

-- ══ The slot of a name ══

noted-length : (es : List Entry) (k : ℕ) → length (notedBelow es k) ≡ 256
unfolding notedBelow
noted-length es zero = length-replicate {A = std.Option ℕ} 256 std.None
noted-length es (suc k) = length-set (notedBelow es k) k (slot_of (place_of es k)) ∙ noted-length es k

noted-at : (es : List Entry) (k x : ℕ) → x < k → k ≤ 256 → get_or (notedBelow es k) x std.None ≡ slot_of (place_of es x)
unfolding notedBelow
noted-at es zero x h l = absurd (omega arith)
noted-at es (suc k) x h l = go (eqb x k) refl (λ i. noted-at es k x i (omega arith))
  where
    go : (b : Bool) → eqb x k ≡ b → (x < k → get_or (notedBelow es k) x std.None ≡ slot_of (place_of es x))
        → get_or (set (notedBelow es k) k (slot_of (place_of es k))) x std.None ≡ slot_of (place_of es x)
    go true e ih =
        let q : x ≡ k = eqb-true x k e in
        let i : k < length (notedBelow es k) = omega (arith, noted-length es k) in
        rw q (get_or-set_same (notedBelow es k) k (slot_of (place_of es k)) std.None i)
    go false e ih =
        let f = eqb-false x k e in
        get_or-set_other (notedBelow es k) k x (slot_of (place_of es k)) std.None f ∙ ih (omega arith)

pub slot_at : (es : List Entry) (x : ℕ) → x < 256 → get_or (slots_of es) x std.None ≡ slot_of (place_of es x)
slot_at es x h = noted-at es 256 x h (omega arith)

-- what looking up answers, as a slot
pub slot-told : (r : std.Option ℕ) → slot_of (toldOption r) ≡ r
slot-told std.None = refl
slot-told (std.Some p) = refl

pub noted-more : (es : List Entry) (k : ℕ) (s : List (std.Option ℕ)) (r : std.Option ℕ) → s ≡ notedBelow es k → toldOption r ≡ place_of es k
    → set s k r ≡ notedBelow es (k + 1)
unfolding notedBelow
noted-more es k s r e f = rw (add-one k, e, sym (slot-told r) ∙ ap slot_of f)

-- a variable is found just where some entry is for it
there : Option ℕ → Bool
there none = false
there (some p) = true

stands-place : (es : List Entry) (x : ℕ) → there (place_of es x) ≡ any (eqb x) (variablesOf es)
unfolding any there
stands-place [] x = refl
stands-place (e ∷ es) x = go (eqb e.variable x) refl (stands-place es x)
  where
    go : (b : Bool) → eqb e.variable x ≡ b → there (place_of es x) ≡ any (eqb x) (variablesOf es)
        → there (place_of (e ∷ es) x) ≡ any (eqb x) (variablesOf (e ∷ es))
    go true q h = rw (q, eq-eqb x e.variable (sym (eqb-true e.variable x q)))
    go false q h = rw (q, ne_eqb x e.variable (λ i. eqb-false e.variable x q (sym i))) h

told-there : (r : std.Option ℕ) → is_some r ≡ there (toldOption r)
unfolding there
told-there std.None = refl
told-there (std.Some p) = refl

pub found-is : (es : List Entry) (x : ℕ) (r : std.Option ℕ) → toldOption r ≡ place_of es x → is_some r ≡ any (eqb x) (variablesOf es)
found-is es x r e = told-there r ∙ ap there e ∙ stands-place es x

-- ══ Counting ══

abbrev one-if : Option ℕ → ℕ
one-if none = 0
one-if (some p) = 1

bit-slot : (o : Option ℕ) → bit (slot_of o) ≡ one-if o
bit-slot none = refl
bit-slot (some p) = refl

-- how many names below k have an entry
bound : List Entry → ℕ → ℕ
bound es zero = 0
bound es (suc k) = bound es k + one-if (place_of es k)

taken-bound : (es : List Entry) (k : ℕ) → k ≤ 256 → taken (slots_of es) k ≡ bound es k
unfolding taken bound
taken-bound es zero h = refl
taken-bound es (suc k) h = rw (slot_at es k (omega arith), bit-slot (place_of es k), taken-bound es k (omega arith))

bound-none : (k : ℕ) → bound [] k ≡ 0
unfolding bound
bound-none zero = refl
bound-none (suc k) = rw (bound-none k)

one-few : (o : Option ℕ) → one-if o ≤ 1
one-few none = omega arith
one-few (some p) = omega arith

module _ (e : Entry) (es : List Entry) where
  here : (k : ℕ) → e.variable ≡ k → place_of (e ∷ es) k ≡ some e.place
  here k q = rw (eq-eqb e.variable k q)

  away : (k : ℕ) → (e.variable ≡ k → ⊥) → place_of (e ∷ es) k ≡ place_of es k
  away k f = rw (ne_eqb e.variable k f)

  bound-past : (k : ℕ) → k ≤ e.variable → bound (e ∷ es) k ≡ bound es k
  unfolding bound
  bound-past zero h = refl
  bound-past (suc k) h = rw (away k (λ q. omega arith), bound-past k (omega arith))

  bound-few : (k : ℕ) → bound (e ∷ es) k ≤ bound es k + 1
  unfolding bound
  bound-few zero = omega arith
  bound-few (suc k) = go (eqb e.variable k) refl (bound-few k)
    where
      go : (b : Bool) → eqb e.variable k ≡ b → bound (e ∷ es) k ≤ bound es k + 1 → bound (e ∷ es) (suc k) ≤ bound es (suc k) + 1
      go true q ih =
          let i : e.variable ≡ k = eqb-true e.variable k q in
          omega (arith, bound-past k (omega arith), one-few (place_of (e ∷ es) k))
      go false q ih = omega (arith, ap one-if (away k (eqb-false e.variable k q)))

  bound-more : (k : ℕ) → e.variable < k → place_of es e.variable ≡ none → bound (e ∷ es) k ≡ bound es k + 1
  unfolding bound
  bound-more zero h n = absurd (omega arith)
  bound-more (suc k) h n = go (eqb e.variable k) refl (λ i. bound-more k i n)
    where
      go : (b : Bool) → eqb e.variable k ≡ b → (e.variable < k → bound (e ∷ es) k ≡ bound es k + 1) → bound (e ∷ es) (suc k) ≡ bound es (suc k) + 1
      go true q ih =
          let i : e.variable ≡ k = eqb-true e.variable k q in
          omega (arith, bound-past k (omega arith), ap one-if (here k i), ap one-if (ap (place_of es) (sym i) ∙ n))
      go false q ih =
          let f = eqb-false e.variable k q in
          let l : e.variable < k = omega arith in
          omega (arith, ap one-if (away k f), ih l)

bound-length : (es : List Entry) (k : ℕ) → bound es k ≤ length es
bound-length [] k = omega (arith, bound-none k)
bound-length (e ∷ es) k = omega (arith, bound-few e es k, bound-length es k)

-- names below k
abbrev pub Below : ℕ → List Entry → Type 0
Below k es = Every (λ e. e.variable < k) es

bound_all : (es : List Entry) (k : ℕ) → bound es k ≡ length es → Below k es
bound_all [] k h = tt
bound_all (e ∷ es) k h = go (ltb e.variable k) refl (bound_all es k)
  where
    go : (b : Bool) → ltb e.variable k ≡ b → (bound es k ≡ length es → Below k es) → Below k (e ∷ es)
    go true q f = (ltb-true e.variable k q, f (omega (arith, bound-few e es k, bound-length es k)))
    go false q f = absurd (omega (arith, bound-past e es k (omega (arith, ltb-false e.variable k q)), bound-length es k))

-- a variable that no entry is for
pub unbound : (es : List Entry) (x : ℕ) → any (eqb x) (variablesOf es) ≡ false → place_of es x ≡ none
unfolding any
unbound [] x h = refl
unbound (e ∷ es) x h = go (eqb x e.variable) refl h (unbound es x)
  where
    go : (b : Bool) → eqb x e.variable ≡ b → any (eqb x) (variablesOf (e ∷ es)) ≡ false
        → (any (eqb x) (variablesOf es) ≡ false → place_of es x ≡ none) → place_of (e ∷ es) x ≡ none
    go true q h f = absurd (true≢false (sym (rw q) ∙ h))
    go false q h f = away e es x (λ i. eqb-false x e.variable q (sym i)) ∙ f (sym (rw q) ∙ h)

module _ (x : ℕ) (xs : List ℕ) (h : differ (x ∷ xs) ≡ true) where
  pub differ-first : any (eqb x) xs ≡ false
  unfolding differ
  differ-first = not-true _ (and_left (not (any (eqb x) xs)) (differ xs) h)

  pub differ-rest : differ xs ≡ true
  unfolding differ
  differ-rest = and_right (not (any (eqb x) xs)) (differ xs) h

all-bound : (es : List Entry) (k : ℕ) → differ (variablesOf es) ≡ true → Below k es → bound es k ≡ length es
all-bound [] k d h = bound-none k
all-bound (e ∷ es) k d h =
    let n = unbound es e.variable (differ-first e.variable (variablesOf es) d) in
    omega (arith, bound-more e es k h.0 n, all-bound es k (differ-rest e.variable (variablesOf es) d) h.1)

pub taken-below : (es : List Entry) → taken (slots_of es) 256 ≡ length es → Below 256 es
taken-below es h = bound_all es 256 (sym (taken-bound es 256 (omega arith)) ∙ h)

pub below-taken : (es : List Entry) → differ (variablesOf es) ≡ true → Below 256 es → taken (slots_of es) 256 ≡ length es
below-taken es d h = taken-bound es 256 (omega arith) ∙ all-bound es 256 d h

-- ══ Each entry counts ══

-- what is said of entries among those of es
abbrev pub First : List Entry → List Entry → Type 0
First es fs = Every (λ f. place_of es f.variable ≡ some f.place) fs

first_past : (e : Entry) (es fs : List Entry) → any (eqb e.variable) (variablesOf fs) ≡ false → First es fs → First (e ∷ es) fs
unfolding any
first_past e es [] h p = tt
first_past e es (f ∷ fs) h p = go (eqb e.variable f.variable) refl h (λ i. first_past e es fs i p.1)
  where
    go : (b : Bool) → eqb e.variable f.variable ≡ b → any (eqb e.variable) (variablesOf (f ∷ fs)) ≡ false
        → (any (eqb e.variable) (variablesOf fs) ≡ false → First (e ∷ es) fs) → First (e ∷ es) (f ∷ fs)
    go true q h r = absurd (true≢false (sym (rw q) ∙ h))
    go false q h r = (away e es f.variable (eqb-false e.variable f.variable q) ∙ p.0, r (sym (rw q) ∙ h))

pub first-is : (es : List Entry) → differ (variablesOf es) ≡ true → First es es
first-is [] d = tt
first-is (e ∷ es) d =
    (here e es e.variable refl, first_past e es es (differ-first e.variable (variablesOf es) d) (first-is es (differ-rest e.variable (variablesOf es) d)))
