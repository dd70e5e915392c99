-- What a step yields: where it gives a value, the value is as stated; where it refuses, the number is never 0, which is no refusal of the rules.
use Rattle.std.specs.Prelude.{◌≡◌, refl, Bool, true, false, List, [], ◌∷◌, ℕ, suc, ◌≤◌, ◌<◌, T, leb, length}
use Rattle.std.proofs.Common.{ap, arith, leb→le}
use Rattle.rules.specs.Base.{Got, got, refused, ◌>>=◌, Limits, bounded, exact, within, allow, each}
use Rattle.laws.proofs.Value.{Gives, gives, together}
use Rattle.laws.proofs.Value as value
use Rattle.laws.specs.Lists.{Every}
use Rattle.laws.proofs.Lists.{got≢refused, same-number}

pub record Yields {A : Type 0} (m : Got A) (P : A → Type 0) : Type 0 where
  pub value : Gives m P
  pub numbered : (n : ℕ) → m ≡ refused n → 0 < n

pub yields : {A : Type 0} {P : A → Type 0} {a : A} → P a → Yields (got a) P
yields p = record { value = gives p; numbered = λ n e. absurd (got≢refused e) }

pub refuses : {A : Type 0} {P : A → Type 0} {n : ℕ} → 0 < n → Yields (refused n) P
refuses {n} h = record { value = value.refuses; numbered = λ k e. omega (arith, same-number e) }

pub next : {A B : Type 0} {m : Got A} {f : A → Got B} {P : A → Type 0} {Q : B → Type 0} → Yields m P → ((a : A) → P a → Yields (f a) Q) → Yields (m >>= f) Q
next {m} {f} {P} {Q} h s = record { value = value.next h.value (λ a p. (s a p).value); numbered = λ n e. go m refl n e }
  where
    go : (m' : Got _) → m ≡ m' → (n : ℕ) → (m' >>= f) ≡ refused n → 0 < n
    go (refused k) i n e = omega (arith, same-number e, h.numbered k i)
    go (got a) i n e = (s a (h.value.holds a i)).numbered n e

pub weaken : {A : Type 0} {m : Got A} {P Q : A → Type 0} → Yields m P → ((a : A) → P a → Q a) → Yields m Q
weaken h s = record { value = value.weaken h.value s; numbered = h.numbered }

-- what is known of the value by another law
pub also : {A : Type 0} {m : Got A} {P Q : A → Type 0} → Yields m P → Gives m Q → Yields m (λ a. P a × Q a)
also h g = record { value = together h.value g; numbered = h.numbered }

pub allowed : {A : Type 0} {P : A → Type 0} (b : Bool) (k : ℕ) (a : A) → 0 < k → (T b → P a) → Yields (allow b k a) P
allowed true k a h p = yields (p tt)
allowed false k a h p = refuses h

-- a value within its limit, where there is one
pub within-yields : {A : Type 0} {P : A → Type 0} (l : Limits) (n m : ℕ) (a : A) → P a → Yields (within l n m a) P
within-yields exact n m a p = yields p
within-yields bounded n m a p = allowed (leb n m) 8 a (omega arith) (λ t. p)

pub bounded-yields : {A : Type 0} {P : A → Type 0} (n m : ℕ) (a : A) → (n ≤ m → P a) → Yields (within bounded n m a) P
bounded-yields n m a p = allowed (leb n m) 8 a (omega arith) (λ t. p (leb→le n m t))

-- one for one
pub each-yields : {A B : Type 0} {P : A → Type 0} {Q : B → Type 0} (f : A → Got B) → ((a : A) → P a → Yields (f a) Q) → (xs : List A) → Every P xs
    → Yields (each f xs) (λ ys. Every Q ys × (length ys ≡ length xs))
unfolding each
each-yields f h [] p = yields (tt, refl)
each-yields f h (x ∷ xs) p = next (h x p.0) (λ y i. next (each-yields f h xs p.1) (λ ys j. yields ((i, j.0), ap suc j.1)))
