-- Answers that may be refusals, beside the same answers with other names: the same refusal, or the same value with other names.
use Rattle.std.specs.Prelude.{◌≡◌, Bool, true, false, ℕ, leb}
use Rattle.std.proofs.Math.Path.{refl}
use Rattle.std.proofs.Common.{ap}
use mathlib.Core.List.{List, [], ◌∷◌, map, map-append}
use Rattle.rules.specs.Base.{Got, got, refused, ◌>>=◌, Limits, bounded, exact, within, allow, sized, each, collect}
use Rattle.rules.specs.Offices.{mapGot}

-- n is m, with g over its value
pub record Over {A B : Type 0} (g : A → B) (m : Got A) (n : Got B) : Type 0 where
  pub is : n ≡ mapGot g m

pub next : {A B C D : Type 0} {g : A → B} {h : C → D} {m : Got A} {n : Got B} {k : A → Got C} {j : B → Got D} → Over g m n
    → ((a : A) (b : B) → b ≡ g a → Over h (k a) (j b))
    → Over h (m >>= k) (n >>= j)
next {g} {h} {m} {n} {k} {j} o s = rw o.is (go m)
  where
    go : (m : Got _) → Over h (m >>= k) (mapGot g m >>= j)
    go (got a) = s a (g a) refl
    go (refused r) = record { is = refl }

pub gives : {A B : Type 0} {g : A → B} {a : A} {b : B} → b ≡ g a → Over g (got a) (got b)
gives e = record { is = ap got e }

-- an answer that holds no name
pub same_over : {A : Type 0} (m : Got A) → Over (λ a. a) m m
same_over (got a) = record { is = refl }
same_over (refused n) = record { is = refl }

pub over-same : {A : Type 0} {m n : Got A} → Over (λ a. a) m n → n ≡ m
over-same {A} {m} o = rw o.is (go m)
  where
    go : (m : Got A) → mapGot (λ a. a) m ≡ m
    go (got a) = refl
    go (refused n) = refl

pub allow-over : {A B : Type 0} (g : A → B) (b : Bool) (n : ℕ) (a : A) → Over g (allow b n a) (allow b n (g a))
allow-over g true n a = gives refl
allow-over g false n a = record { is = refl }

pub within-over : {A B : Type 0} (g : A → B) (l : Limits) (n m : ℕ) (a : A) → Over g (within l n m a) (within l n m (g a))
within-over g exact n m a = gives refl
within-over g bounded n m a = allow-over g (leb n m) 8 a

pub sized-over : {A B : Type 0} (g : A → B) (l : Limits) (n d : ℕ) (a : A) → Over g (sized l n d a) (sized l n d (g a))
sized-over g l n d a = next (within-over g l n 2048 a) (λ b b' i. rw i (within-over g l d 64 b))

module _ {A B C D : Type 0} (g : A → B) (h : C → D) where
  pub each_over : (f : A → Got C) (f' : B → Got D) → ((a : A) → Over h (f a) (f' (g a))) → (xs : List A) → Over (map h) (each f xs) (each f' (map g xs))
  unfolding each
  each_over f f' s [] = gives refl
  each_over f f' s (x ∷ xs) = next (s x) (λ y y' i. next (each_over f f' s xs) (λ ys ys' j. gives (rw (i, j))))

  pub collect-over : (f : A → List C) (f' : B → List D) → ((a : A) → f' (g a) ≡ map h (f a)) → (xs : List A) → collect f' (map g xs) ≡ map h (collect f xs)
  unfolding collect
  collect-over f f' s [] = refl
  collect-over f f' s (x ∷ xs) = rw (s x, collect-over f f' s xs, map-append)
