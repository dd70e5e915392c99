-- What may be there, beside the same with other names.
use Rattle.std.specs.Prelude.{◌≡◌, refl, Bool, true, false}
use Rattle.std.proofs.Math.Option.{Option, none, some, get_or}
use Rattle.rules.specs.Base.{only_if, and_then, and', ◌or_else◌, is_none}
use Rattle.rules.specs.Offices.{mapOption}

module _ {A B C D : Type 0} (g : A → B) (h : C → D) where
  pub then_map : (x : Option A) (k : A → Option C) (k' : B → Option D) → ((a : A) → k' (g a) ≡ mapOption h (k a))
      → and_then (mapOption g x) k' ≡ mapOption h (and_then x k)
  then_map none k k' e = refl
  then_map (some a) k k' e = e a

module _ {A B : Type 0} (g : A → B) where
  pub or_map : (x y : Option A) → (mapOption g x or_else mapOption g y) ≡ mapOption g (x or_else y)
  or_map none y = refl
  or_map (some a) y = refl

  pub get_d_map : (x : Option A) (a : A) → get_or (mapOption g x) (g a) ≡ g (get_or x a)
  get_d_map none a = refl
  get_d_map (some b) a = refl

  pub none-map : (x : Option A) → is_none (mapOption g x) ≡ is_none x
  none-map none = refl
  none-map (some a) = refl

  pub and-map : (x : Option A) (p : A → Bool) (q : B → Bool) → ((a : A) → q (g a) ≡ p a) → and' (mapOption g x) q ≡ and' x p
  and-map none p q e = refl
  and-map (some a) p q e = e a

pub only-map : {A B : Type 0} (g : A → B) (b : Bool) (a : A) → only_if b (g a) ≡ mapOption g (only_if b a)
only-map g true a = refl
only-map g false a = refl
