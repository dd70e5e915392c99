-- Lists and tests: what is in a list, and what a test says of it.
use Rattle.std.specs.Prelude.{◌≡◌, Bool, ◌&&◌, ◌⊎◌}
use Rattle.std.proofs.Math.Path.{refl}
use Rattle.std.proofs.Common.{inl, inr}
use Rattle.std.proofs.Math.Bool.{true, false}
use mathlib.Core.List.Memᴰ
use mathlib.Core.List.{List, [], ◌∷◌, Memᴰ}
use Rattle.rules.specs.Base.{all}
pub use Rattle.std.proofs.lemmas.Bool.{not-true, not-false}

-- both tests pass
pub and_left : (a b : Bool) → a && b ≡ true → a ≡ true
and_left true b h = refl
and_left false b h = h

pub and_right : (a b : Bool) → a && b ≡ true → b ≡ true
and_right true b h = h
and_right false b h = cc

module _ {A : Type 0} where
  pub in_head : {a : A} {xs : List A} → Memᴰ a (a ∷ xs)
  in_head = Memᴰ.head refl

  -- every one of a list, by membership
  abbrev pub All : (A → Type 0) → List A → Type 0
  All P xs = (a : A) → Memᴰ a xs → P a

  pub all_nil : (P : A → Type 0) → All P []
  all_nil P a m = absurd (Memᴰ.not-nil m)

  pub all_cons : (P : A → Type 0) {x : A} {xs : List A} → P x → All P xs → All P (x ∷ xs)
  all_cons P {x} {xs} p q a m = go (Memᴰ.cases_cons m)
    where
      go : (a ≡ x) ⊎ Memᴰ a xs → P a
      go (inl e) = rw e p
      go (inr i) = q a i

  -- every one of a list, by recursion: for what goes through the list
  abbrev pub Every : (A → Type 0) → List A → Type 0
  Every P [] = Unit {0}
  Every P (x ∷ xs) = P x × Every P xs

  pub all-every : (P : A → Type 0) (xs : List A) → All P xs → Every P xs
  all-every P [] h = tt
  all-every P (x ∷ xs) h = (h x in_head, all-every P xs (λ a m. h a (Memᴰ.tail m)))

  -- a test of each element
  pub all-is : (p : A → Bool) (xs : List A) → all p xs ≡ true → All (λ a. p a ≡ true) xs
  unfolding all
  all-is p [] e = all_nil (λ a. p a ≡ true)
  all-is p (x ∷ xs) e = all_cons (λ a. p a ≡ true) (and_left (p x) (all p xs) e) (all-is p xs (and_right (p x) (all p xs) e))
