-- Two answers that may be refusals: the same refusal, or values that are alike.
use Rattle.std.specs.Prelude.{◌≡◌, refl, Bool, ℕ}
use Rattle.std.proofs.Common.{ap, ap₂, sym, ◌∙◌}
use Rattle.std.proofs.Math.Option.{Option, none, some}
use Rattle.rules.specs.Base.{Got, got, refused, ◌>>◌, need, orRefuse}
use Rattle.rules.specs.Offices.{mapGot, mapOption}
use Rattle.laws.proofs.Alike.{Alike, both, neither}
use Rattle.laws.proofs.Lists.{got≢refused, clash, same-number}
use Rattle.theorems_offices.proofs.Over.{Over}

module _ {A A' B : Type 0} (g : A → B) (g' : A' → B) where
  -- values that are equal when names stand in them
  abbrev pub Both : Got A → Got A' → Type 0
  Both = Alike (λ a a'. g a ≡ g' a')

module _ {A A' B : Type 0} {g : A → B} {g' : A' → B} where
  with-names : (m : Got A) (m' : Got A') → mapGot g m ≡ mapGot g' m' → Both g g' m m'
  with-names (got a) (got a') e = both (inside e)
    where
      inside : {x y : B} → got x ≡ got y → x ≡ y
      inside e = cc
  with-names (got a) (refused n) e = absurd (got≢refused e)
  with-names (refused n) (got a') e = clash e
  with-names (refused n) (refused n') e = equal n n' (same-number e)
    where
      equal : (n n' : ℕ) → n ≡ n' → Both g g' (refused n) (refused n')
      equal n n' e = rw (← e) neither

  pub with-names-equal : {m : Got A} {m' : Got A'} → Both g g' m m' → mapGot g m ≡ mapGot g' m'
  with-names-equal (both e) = ap got e
  with-names-equal neither = refl

  pub there : (n : ℕ) (o : Option A) (o' : Option A') → mapOption g o ≡ mapOption g' o' → Both g g' (orRefuse n o) (orRefuse n o')
  there n none none e = neither
  there n none (some a') e = absurd (cc)
  there n (some a) none e = absurd (cc)
  there n (some a) (some a') e = both (cc)

  -- through what both are with names in them
  pub through : {m : Got A} {m' : Got A'} {n n' : Got B} → Over g m n → Over g' m' n' → n ≡ n' → Both g g' m m'
  through {m} {m'} o o' e = with-names m m' (sym o.is ∙ e ∙ o'.is)

-- answers that hold no name are equal
pub equal-answers : {A : Type 0} {m m' : Got A} → Alike (λ a a'. a ≡ a') m m' → m ≡ m'
equal-answers (both e) = ap got e
equal-answers neither = refl

itself : {A : Type 0} (m : Got A) → Alike (λ a a'. a ≡ a') m m
itself (got a) = both refl
itself (refused n) = neither

pub same-both : {A : Type 0} {m m' : Got A} → m ≡ m' → Alike (λ a a'. a ≡ a') m m'
same-both {m} e = rw (← e) (itself m)

pub needed : {b b' : Bool} (n : ℕ) → b ≡ b' → Both {A = Unit {0}} {A' = Unit {0}} (λ u. u) (λ u. u) (need b n) (need b' n)
needed n e = same-both (ap (λ (b : Bool). need b n) e)

-- a check that comes out the same
pub checked : {C C' : Type 0} {S : C → C' → Type 0} {m m' : Got (Unit {0})} {n : Got C} {n' : Got C'} → m ≡ m' → Alike S n n' → Alike S (m >> n) (m' >> n')
checked {S} {m} {m'} {n} {n'} e b = rw e (go m')
  where
    go : (m : Got (Unit {0})) → Alike S (m >> n) (m >> n')
    go (got u) = b
    go (refused k) = neither

pub two-checks : {a a' b b' : Got (Unit {0})} → a ≡ a' → b ≡ b' → (a >> b) ≡ (a' >> b')
two-checks e f = ap₂ (λ (x y : Got (Unit {0})). x >> y) e f
