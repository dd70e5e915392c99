-- Refusals of some kind alone: said of a step, and of steps after one another.
use Rattle.std.specs.Prelude.{◌≡◌, refl, Bool, true, false, ℕ}
use Rattle.std.proofs.Common.{◌∙◌, ap, subst}
use Rattle.rules.specs.Base.{Got, got, refused, ◌>>=◌, need}
use Rattle.laws.proofs.Lists.{got≢refused, same-number}

-- where it refuses, it is with a number of P
pub record Refuses {A : Type 0} (P : ℕ → Type 0) (m : Got A) : Type 0 where
  pub only : (n : ℕ) → m ≡ refused n → P n

pub given : {A : Type 0} {P : ℕ → Type 0} {a : A} → Refuses P (got a)
given = record { only = λ n e. absurd (got≢refused e) }

pub refusing : {A : Type 0} {P : ℕ → Type 0} {n : ℕ} → P n → Refuses {A = A} P (refused n)
refusing {P = P} {n = n} p = record { only = λ j e. subst P (same-number e) p }

pub needs : {P : ℕ → Type 0} (b : Bool) (n : ℕ) → P n → Refuses P (need b n)
needs true n p = given
needs false n p = refusing p

pub next : {A B : Type 0} {P : ℕ → Type 0} (m : Got A) (f : A → Got B) → Refuses P m → ((a : A) → Refuses P (f a)) → Refuses P (m >>= f)
next (got a) f h k = k a
next (refused n) f h k = record { only = λ j e. h.only j (cc) }

-- the same where the step after it may take what came before
pub onward : {A B : Type 0} {P : ℕ → Type 0} {m : Got A} {f : A → Got B} → Refuses P m → ((a : A) → m ≡ got a → Refuses P (f a)) → Refuses P (m >>= f)
onward {P} {m} {f} h k = go m refl
  where
    go : (m' : Got _) → m ≡ m' → Refuses P (m' >>= f)
    go (refused n) e = record { only = λ j i. h.only j (e ∙ ap refused (same-number i)) }
    go (got a) e = k a e
