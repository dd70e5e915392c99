-- What every rule uses: an answer that may be a refusal, the two kinds of limits, and a few functions on lists.
use Rattle.std.specs.Prelude.{◌≡◌, refl, Bool, true, false, ◌&&◌, ◌||◌, ℕ, ◌+◌, max, leb}
use Rattle.std.proofs.Common.{sym}
use mathlib.Core.List.{List, [], ◌∷◌, ◌++◌, cons≢nil}
use Rattle.std.proofs.Math.Option.{Option, none, some}

-- a value, or the number of a refusal
pub data Got (A : Type 0) : Type 0 where
  got : A → Got A
  refused : ℕ → Got A

infixl 1 ◌>>=◌
abbrev pub ◌>>=◌ : {A B : Type 0} → Got A → (A → Got B) → Got B
got a >>= f = f a
refused n >>= f = refused n

-- the bounded rules, or the same rules in exact arithmetic: without a range of exponents (7) and limits of size (8).
-- Dividing by 0 is 7 in both; no stored power is 0, so no rule does it
pub data Limits : Type 0 where
  bounded exact : Limits

-- a check: it passes, or it is the refusal n
abbrev pub need : Bool → ℕ → Got (Unit {0})
need true n = got tt
need false n = refused n

infixl 1 ◌>>◌
abbrev pub ◌>>◌ : {A B : Type 0} → Got A → Got B → Got B
a >> b = a >>= λ _. b

-- what is there, else the refusal n
abbrev pub orRefuse : {A : Type 0} → ℕ → Option A → Got A
orRefuse n none = refused n
orRefuse n (some a) = got a

-- a value where the test passes, else the refusal n
abbrev pub allow : {A : Type 0} → Bool → ℕ → A → Got A
allow true n a = got a
allow false n a = refused n

-- a value whose size is n: refused with 8 if n is over the limit m
abbrev pub within : {A : Type 0} → Limits → ℕ → ℕ → A → Got A
within exact n m a = got a
within bounded n m a = allow (leb n m) 8 a

-- a value of n records, nested d deep: over 2,048 records, or nested over 64, is 8
abbrev pub sized : {A : Type 0} → Limits → ℕ → ℕ → A → Got A
sized l n d a = within l n 2048 a >>= λ a. within l d 64 a

abbrev pub is_yes : {A : Type 0} → Dec A → Bool
is_yes (yes a) = true
is_yes (no f) = false

-- the first of the two that is there
infixr 2 ◌or_else◌
abbrev pub ◌or_else◌ : {A : Type 0} → Option A → Option A → Option A
none or_else b = b
some a or_else b = some a

abbrev pub only_if : {A : Type 0} → Bool → A → Option A
only_if true a = some a
only_if false a = none

abbrev pub and' : {A : Type 0} → Option A → (A → Bool) → Bool
and' none p = false
and' (some a) p = p a

module _ {A : Type 0} where
  unfoldable pub any : (A → Bool) → List A → Bool
  any p [] = false
  any p (x ∷ xs) = p x || any p xs

  unfoldable pub all : (A → Bool) → List A → Bool
  all p [] = true
  all p (x ∷ xs) = p x && all p xs

  unfoldable pub keep : (A → Bool) → List A → List A
  keep p [] = []
  keep p (x ∷ xs) = elim (p x) [ true ↦ x ∷ keep p xs | false ↦ keep p xs ]

  unfoldable pub list-dec : Discrete A → Discrete (List A)
  list-dec d [] [] = yes refl
  list-dec d [] (y ∷ ys) = no (λ e. cons≢nil (sym e))
  list-dec d (x ∷ xs) [] = no (λ e. cons≢nil e)
  list-dec d (x ∷ xs) (y ∷ ys) = both (d x y) (list-dec d xs ys)
    where
      both : Dec (x ≡ y) → Dec (xs ≡ ys) → Dec (x ∷ xs ≡ y ∷ ys)
      both (yes p) (yes q) = yes (cc)
      both (yes p) (no g) = no (λ e. g (cc))
      both (no f) d' = no (λ e. f (cc))

module _ {A B : Type 0} where
  unfoldable pub each : (A → Got B) → List A → Got (List B)
  each f [] = got []
  each f (x ∷ xs) = do
    y ← f x
    ys ← each f xs
    got (y ∷ ys)

  unfoldable pub collect : (A → List B) → List A → List B
  collect f [] = []
  collect f (x ∷ xs) = f x ++ collect f xs

abbrev pub and_then : {A B : Type 0} → Option A → (A → Option B) → Option B
and_then none f = none
and_then (some a) f = f a

abbrev pub to_list : {A : Type 0} → Option A → List A
to_list none = []
to_list (some a) = a ∷ []

abbrev pub is_none : {A : Type 0} → Option A → Bool
is_none none = true
is_none (some a) = false

abbrev pub isNil : {A : Type 0} → List A → Bool
isNil [] = true
isNil (x ∷ xs) = false

-- one for a yes
abbrev pub oneIf : Bool → ℕ
oneIf true = 1
oneIf false = 0

abbrev pub sum_of : {A : Type 0} → (A → ℕ) → List A → ℕ
sum_of f [] = 0
sum_of f (x ∷ xs) = f x + sum_of f xs

abbrev pub max_of : {A : Type 0} → (A → ℕ) → List A → ℕ
max_of f [] = 0
max_of f (x ∷ xs) = max (f x) (max_of f xs)
