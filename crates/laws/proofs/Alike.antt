-- Two answers that stand side by side: both are there and belong together, or both are the same refusal.
use Rattle.std.specs.Prelude.{◌≡◌, refl, List, [], ◌∷◌, ℕ, suc, length}
use Rattle.std.proofs.Common.{ap, subst}
use Rattle.rules.specs.Base.{Got, got, refused, ◌>>=◌, each}
use Rattle.laws.proofs.Value.{Gives}

pub data Alike {A B : Type 0} (R : A → B → Type 0) : Got A → Got B → Type 0 where
  both : {a : A} {b : B} → R a b → Alike R (got a) (got b)
  neither : {n : ℕ} → Alike R (refused n) (refused n)

-- step by step
pub onward : {A B C D : Type 0} {R : A → B → Type 0} {S : C → D → Type 0} {m : Got A} {n : Got B} (f : A → Got C) (g : B → Got D)
    → Alike R m n → ((a : A) (b : B) → R a b → Alike S (f a) (g b)) → Alike S (m >>= f) (n >>= g)
onward f g (both {a} {b} r) h = h a b r
onward f g neither h = neither

-- a step that one of the two has alone
pub one_more : {A B C : Type 0} {R : A → B → Type 0} {S : C → B → Type 0} {m : Got A} {n : Got B} (f : A → Got C)
    → Alike R m n → ((a : A) (b : B) → R a b → Alike S (f a) (got b)) → Alike S (m >>= f) n
one_more f (both {a} {b} r) h = h a b r
one_more f neither h = neither

pub other-more : {A B D : Type 0} {R : A → B → Type 0} {S : A → D → Type 0} {m : Got A} {n : Got B} (g : B → Got D)
    → Alike R m n → ((a : A) (b : B) → R a b → Alike S (got a) (g b)) → Alike S m (n >>= g)
other-more g (both {a} {b} r) h = h a b r
other-more g neither h = neither

-- a step that both have
pub same_step : {A C D : Type 0} {P : A → Type 0} {S : C → D → Type 0} (m : Got A) (f : A → Got C) (g : A → Got D)
    → Gives m P → ((a : A) → P a → Alike S (f a) (g a)) → Alike S (m >>= f) (m >>= g)
same_step (got a) f g h k = k a (h.holds a refl)
same_step (refused n) f g h k = neither

pub other-is : {A B : Type 0} {R : A → B → Type 0} {m : Got A} {n n' : Got B} → n ≡ n' → Alike R m n → Alike R m n'
other-is {R = R} {m = m} e h = subst (λ (k : Got _). Alike R m k) e h

pub one-is : {A B : Type 0} {R : A → B → Type 0} {m m' : Got A} {n : Got B} → m ≡ m' → Alike R m n → Alike R m' n
one-is {R = R} {n = n} e h = subst (λ (k : Got _). Alike R k n) e h

-- where the one is there, so is the other
pub other-there : {A B : Type 0} {R : A → B → Type 0} {m : Got A} {n : Got B} (a : A) → Alike R m n → m ≡ got a → (b : B) × (n ≡ got b) × R a b
other-there {R = R} a (both {a = c} {b = b} r) e = let z : c ≡ a = cc in (b, refl, subst (λ (v : _). R v b) z r)
other-there a neither e = absurd (cc)

module _ {A B : Type 0} where
  -- lists that belong together, one by one
  pub data Side (R : A → B → Type 0) : List A → List B → Type 0 where
    end : Side R [] []
    beside : {a : A} {b : B} {as' : List A} {bs : List B} → R a b → Side R as' bs → Side R (a ∷ as') (b ∷ bs)

pub each-side : {A B C D : Type 0} {R : A → B → Type 0} {S : C → D → Type 0} {as' : List A} {bs : List B} (f : A → Got C) (g : B → Got D)
    → ((a : A) (b : B) → R a b → Alike S (f a) (g b)) → Side R as' bs → Alike (λ cs ds. Side S cs ds × (length cs ≡ length as')) (each f as') (each g bs)
unfolding each
each-side f g h end = both (end, refl)
each-side f g h (beside {a} {b} {as'} {bs} r s) = onward _ _ (h a b r) (λ c d t. onward _ _ (each-side f g h s) (λ cs ds u. both (beside t u.0, ap suc u.1)))
