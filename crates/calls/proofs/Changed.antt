-- What a call changed, place by place.
use mathlib.Core.Path.{◌≡◌, refl, sym, ap, ◌∙◌}
use mathlib.Core.Bool.{Bool, true, false, cond}
use mathlib.Core.List.{List, [], ◌∷◌, ◌++◌}
use Prim.Native.Nat.{ℕ, zero, suc, ◌+◌, ◌-◌, ◌<◌, ◌≤◌}
use native.Mathlib.Omega.{arith}
use lib.ListN.{length, get_or, take}
use Rattle.std.proofs.Common.{add-one, length-append}
use Rattle.std.proofs.lemmas.List.{get_or-take}
use Rattle.std.proofs.lemmas.List.Edits.{sets}
use Rattle.records.proofs.Stores.{sets-append}
use Rattle.calls_defined.specs.Dispatch.{change, changesFrom}

module _ (b a : List ℕ) where
  at : ℕ → List ℕ
  at i = change i (get_or b i 0) (get_or a i 0)

  opened : (i n : ℕ) → i < n → changesFrom b a i (n - i) ≡ change i (get_or b i 0) (get_or a i 0) ++ changesFrom b a (i + 1) (n - (i + 1))
  unfolding changesFrom
  opened i n h = let z : n - i ≡ suc (n - (i + 1)) = omega arith in rw (z, add-one i) refl

  -- one place more
  pub stored-on : (d d' : List ℕ) (i n next : ℕ) {R : List ℕ} → i < n → d' ≡ sets d next (change i (get_or b i 0) (get_or a i 0))
      → sets d next (changesFrom b a i (n - i)) ≡ R
      → sets d' (next + length (change i (get_or b i 0) (get_or a i 0))) (changesFrom b a (i + 1) (n - (i + 1))) ≡ R
  stored-on d d' i n next h w g =
      let c = change i (get_or b i 0) (get_or a i 0) in
      rw w (sym (sets-append c (changesFrom b a (i + 1) (n - (i + 1))) d next) ∙ sym (ap (sets d next) (opened i n h)) ∙ g)

  pub counted-on : (i n next : ℕ) {t : ℕ} → i < n → next + length (changesFrom b a i (n - i)) ≡ t
      → (next + length (change i (get_or b i 0) (get_or a i 0))) + length (changesFrom b a (i + 1) (n - (i + 1))) ≡ t
  counted-on i n next h g =
      let c = change i (get_or b i 0) (get_or a i 0) in
      let e : length (changesFrom b a i (n - i)) ≡ length c + length (changesFrom b a (i + 1) (n - (i + 1))) =
      ap length (opened i n h) ∙ length-append c (changesFrom b a (i + 1) (n - (i + 1))) in
      omega (arith, e, g)

  none-left : (i n : ℕ) → n ≤ i → changesFrom b a i (n - i) ≡ []
  unfolding changesFrom
  none-left i n h = let z : n - i ≡ 0 = omega arith in rw z refl

  pub stored-end : (d : List ℕ) (i n next : ℕ) {R : List ℕ} → n ≤ i → sets d next (changesFrom b a i (n - i)) ≡ R → d ≡ R
  stored-end d i n next h g = sym (ap (sets d next) (none-left i n h)) ∙ g

  pub counted-end : (i n next : ℕ) {t : ℕ} → n ≤ i → next + length (changesFrom b a i (n - i)) ≡ t → next ≡ t
  counted-end i n next h g = let e : length (changesFrom b a i (n - i)) ≡ 0 = ap length (none-left i n h) in omega (arith, e, g)

pub few : (i b a : ℕ) → length (change i b a) ≤ 2
few i b a = go (lib.Dec.eqb b a)
  where
    go : (e : Bool) → length (cond e [] (i ∷ a ∷ [])) ≤ 2
    go true = omega arith
    go false = omega arith

-- the fronts of two lists differ where the lists do
pub front-changes : (b a : List ℕ) (m i n : ℕ) → i + n ≤ m → changesFrom (take m b) (take m a) i n ≡ changesFrom b a i n
unfolding changesFrom
front-changes b a m i zero h = refl
front-changes b a m i (suc n) h =
    rw (get_or-take m b i 0 (omega arith), get_or-take m a i 0 (omega arith))
    (ap (change i (get_or b i 0) (get_or a i 0) ++◌) (front-changes b a m (suc i) n (omega arith)))
