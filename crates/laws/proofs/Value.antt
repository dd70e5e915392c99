-- What a step gives: where there is a value, it is as stated.
use Rattle.std.specs.Prelude.{◌≡◌, refl, Bool, true, false, ℕ}
use Rattle.std.proofs.Common.{subst}
use Rattle.rules.specs.Base.{Got, got, refused, ◌>>=◌, allow}

pub record Gives {A : Type 0} (m : Got A) (P : A → Type 0) : Type 0 where
  pub holds : (a : A) → m ≡ got a → P a

pub gives : {A : Type 0} {P : A → Type 0} {a : A} → P a → Gives (got a) P
gives {A} {P} {a} p = record { holds = λ b e. let q : a ≡ b = cc in subst P q p }

pub refuses : {A : Type 0} {P : A → Type 0} {n : ℕ} → Gives (refused n) P
refuses = record { holds = λ b e. absurd (cc) }

pub next : {A B : Type 0} {m : Got A} {f : A → Got B} {P : A → Type 0} {Q : B → Type 0} → Gives m P → ((a : A) → P a → Gives (f a) Q) → Gives (m >>= f) Q
next {m} {f} {P} {Q} h s = go m refl
  where
    go : (m' : Got _) → m ≡ m' → Gives (m' >>= f) Q
    go (refused k) e = refuses
    go (got a) e = s a (h.holds a e)

pub weaken : {A : Type 0} {m : Got A} {P Q : A → Type 0} → Gives m P → ((a : A) → P a → Q a) → Gives m Q
weaken h s = record { holds = λ a e. s a (h.holds a e) }

pub together : {A : Type 0} {m : Got A} {P Q : A → Type 0} → Gives m P → Gives m Q → Gives m (λ a. P a × Q a)
together h k = record { holds = λ a e. (h.holds a e, k.holds a e) }

-- the value is the one that the step gives
pub its_own : {A : Type 0} (m : Got A) → Gives m (λ a. m ≡ got a)
its_own m = record { holds = λ a e. e }

pub allowed : {A : Type 0} {P : A → Type 0} (b : Bool) (k : ℕ) (a : A) → (b ≡ true → P a) → Gives (allow b k a) P
allowed true k a p = gives (p refl)
allowed false k a p = refuses
