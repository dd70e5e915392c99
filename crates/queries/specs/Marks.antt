-- Names as marks: names are below 256, so a set of them is 256 marks.
use Rattle.std.specs.Prelude.{None, Option, Some, ◌≡◌, Bool, true, false, not, ◌&&◌, List, [], ◌∷◌, ◌⊎◌, eqb, length, get_or}
use Prim.Native.Nat.{ℕ, suc, ◌<◌, Ordering}
use Rattle.rules.specs.Base.{any}
use Rattle.rules.specs.Trees.{Open, var, quant, par, Names}
use Rattle.rules.specs.Calls.{over}
use Rattle.laws.specs.Lists.{Every}
use Rattle.queries.specs.declared.name_set.NameSet.{NameSet}

-- the marks are at these names
pub record Marks (m : List Bool) (xs : List ℕ) : Type 0 where
  pub long : length m ≡ 256
  pub each : (x : ℕ) → x < 256 → get_or m x false ≡ any (eqb x) xs

-- a set of names has these
abbrev pub Has : NameSet → List ℕ → Type 0
Has s xs = Marks s.marks xs

-- below n, what is marked in v is marked in b
abbrev pub Within : List Bool → List Bool → ℕ → Type 0
Within v b n = (x : ℕ) → x < n → get_or v x false ≡ true → get_or b x false ≡ true

-- names that can be marked
abbrev pub Below : ℕ → Open ℕ → Type 0
Below n (var x) = x < n
Below n (quant i) = Unit {0}
Below n (par x) = x < n

abbrev pub Small : List (Open ℕ) → Type 0
Small os = Every (Below 256) os

-- no place is marked in both
unfoldable pub disjoint : List Bool → List Bool → Bool
disjoint [] q = true
disjoint (a ∷ p) [] = true
disjoint (a ∷ p) (b ∷ q) = not (a && b) && disjoint p q

-- the marked places, the first of which is i
unfoldable pub picked : ℕ → List Bool → List ℕ
picked i [] = []
picked i (true ∷ m) = i ∷ picked (suc i) m
picked i (false ∷ m) = picked (suc i) m

-- only names below n are marked
pub record Held (n : ℕ) (m : List Bool) : Type 0 where
  pub long : length m ≡ 256
  pub held : (x : ℕ) → x < 256 → get_or m x false ≡ true → x < n

-- the first of the names marked below n, or that there is none
abbrev pub Least : Names ℕ → List Bool → ℕ → Option ℕ → Type 0
Least ν m n (Some x) = (x < n) × (get_or m x false ≡ true) × ((y : ℕ) → y < n → get_or m y false ≡ true → (y ≡ x) ⊎ (ν.order x y ≡ Ordering.lt))
Least ν m n None = (y : ℕ) → y < n → get_or m y false ≡ true → ⊥

-- the first of two names, or y if they are the same
abbrev pub firstBy : Ordering → ℕ → ℕ → Option ℕ
firstBy Ordering.lt x y = Some x
firstBy Ordering.eq x y = Some y
firstBy Ordering.gt x y = Some y

-- the first of the name so far, if there is one, and x
abbrev pub sooner : Names ℕ → Option ℕ → ℕ → Option ℕ
sooner ν None x = Some x
sooner ν (Some y) x = firstBy (ν.order x y) x y

-- names at the front of a buffer, and how many
pub record Filled (xs : List ℕ) (r : ℕ) (before after : List ℕ) : Type 0 where
  pub many : r ≡ length xs
  pub buffer : after ≡ over xs before
