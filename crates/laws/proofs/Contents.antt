-- What is among open names: two lists as one, numbers told apart by their values, and names of variables apart from those of parameters.
use Rattle.std.specs.Prelude.{◌≡◌, Bool, ◌||◌, ℕ, eqb}
use Rattle.std.proofs.Math.Path.{refl, subst}
use Rattle.std.proofs.Common.{sym, ap, ap₂, ◌∙◌, eq-eqb, ne_eqb}
use Rattle.std.proofs.Math.Bool.{true, false, not}
use mathlib.Core.List.{List, [], ◌∷◌, ◌++◌, append_assoc, Memᴰ}
use Rattle.std.proofs.Math.Decide.{ℕ_discrete}
use Rattle.rules.specs.Base.{is_yes, any, collect, to_list}
use Rattle.rules.specs.Trees.{Open, var, quant, par, Names, open-dec}
use Rattle.rules.specs.Names.{Bytes, numbered}
use Rattle.rules.specs.Contents.{variablesIn, parametersIn, among, unmixed}
use Rattle.rules.specs.Views.{variable, parameter}
use Rattle.std.proofs.lemmas.Bool.{not-true}
use Rattle.laws.specs.Lists.{in_head, all-is}
use Rattle.laws.proofs.Lists.{true≢false, yes-is, is_all, any-is, is_any, collect-from, collect-to, is-yes}

-- ══ Two lists as one ══

module _ {A : Type 0} where
  pub any_append : (p : A → Bool) (xs ys : List A) → any p (xs ++ ys) ≡ (any p xs || any p ys)
  unfolding any
  any_append p [] ys = refl
  any_append p (x ∷ xs) ys = go (p x) (any_append p xs ys)
    where
      go : (b : Bool) → any p (xs ++ ys) ≡ (any p xs || any p ys) → (b || any p (xs ++ ys)) ≡ ((b || any p xs) || any p ys)
      go true e = refl
      go false e = e

module _ {A B : Type 0} where
  pub collect-append : (f : A → List B) (xs ys : List A) → collect f (xs ++ ys) ≡ collect f xs ++ collect f ys
  unfolding collect
  collect-append f [] ys = refl
  collect-append f (x ∷ xs) ys = rw (collect-append f xs ys) (sym (append_assoc (f x) (collect f xs) (collect f ys)))

-- ══ Numbers ══

pub same-eqb : (names : List Bytes) (x : ℕ) (ys : List ℕ) → among (numbered names) x ys ≡ any (eqb x) ys
unfolding among numbered any ℕ_discrete
same-eqb names x [] = refl
same-eqb names x (y ∷ ys) = go (ℕ_discrete x y) (same-eqb names x ys)
  where
    go : (d : Dec (x ≡ y)) → among (numbered names) x ys ≡ any (eqb x) ys → (is_yes d || among (numbered names) x ys) ≡ (eqb x y || any (eqb x) ys)
    go (yes e) q = ap (◌|| any (eqb x) ys) (sym (eq-eqb x y e))
    go (no f) q = q ∙ ap (◌|| any (eqb x) ys) (sym (ne_eqb x y f))

-- a variable among open names
told : {A : Type 0} (d : Dec A) (b : Bool) → (A → b ≡ true) → ((A → ⊥) → b ≡ false) → is_yes d ≡ b
told (yes a) b f g = sym (f a)
told (no h) b f g = sym (g h)

pub contains-eqb : (names : List Bytes) (x : ℕ) (os : List (Open ℕ)) → any (λ o. is_yes (open-dec (numbered names) (var x) o)) os ≡ any (eqb x) (variablesIn os)
unfolding any variablesIn collect
contains-eqb names x [] = refl
contains-eqb names x (var y ∷ os) = ap₂ ◌||◌
    (told (open-dec (numbered names) (var x) (var y)) (eqb x y) (λ e. eq-eqb x y (cc)) (λ f. ne_eqb x y (λ e. f (ap var e))))
    (contains-eqb names x os)
contains-eqb names x (quant i ∷ os) = ap (◌|| any (λ o. is_yes (open-dec (numbered names) (var x) o)) os)
    (told (open-dec (numbered names) (var x) (quant i)) false (λ e. absurd (cc)) (λ f. refl))
    ∙ contains-eqb names x os
contains-eqb names x (par y ∷ os) = ap (◌|| any (λ o. is_yes (open-dec (numbered names) (var x) o)) os)
    (told (open-dec (numbered names) (var x) (par y)) false (λ e. absurd (cc)) (λ f. refl))
    ∙ contains-eqb names x os

-- ══ Names of variables and of parameters ══

module _ {N : Type 0} (ν : Names N) where
  from-variables : (os : List (Open N)) (x : N) → Memᴰ x (variablesIn os) → Memᴰ (var x) os
  unfolding variablesIn
  from-variables os x m = let o = collect-from (λ o. to_list (variable o)) os x m in go o.one o.within o.from
    where
      go : (o : Open N) → Memᴰ o os → Memᴰ x (to_list (variable o)) → Memᴰ (var x) os
      go (var y) i j = subst (λ (z : N). Memᴰ (var z) os) (sym (mathlib.Core.List.Memᴰ.eq_of_singleton j)) i
      go (quant n) i j = absurd (mathlib.Core.List.Memᴰ.not-nil j)
      go (par y) i j = absurd (mathlib.Core.List.Memᴰ.not-nil j)

  from-parameters : (os : List (Open N)) (x : N) → Memᴰ x (parametersIn os) → Memᴰ (par x) os
  unfolding parametersIn
  from-parameters os x m = let o = collect-from (λ o. to_list (parameter o)) os x m in go o.one o.within o.from
    where
      go : (o : Open N) → Memᴰ o os → Memᴰ x (to_list (parameter o)) → Memᴰ (par x) os
      go (var y) i j = absurd (mathlib.Core.List.Memᴰ.not-nil j)
      go (quant n) i j = absurd (mathlib.Core.List.Memᴰ.not-nil j)
      go (par y) i j = subst (λ (z : N). Memᴰ (par z) os) (sym (mathlib.Core.List.Memᴰ.eq_of_singleton j)) i

  pub not-mixed : (os : List (Open N)) → unmixed ν os ≡ true → (x : N) → Memᴰ (var x) os → Memᴰ (par x) os → ⊥
  unfolding unmixed variablesIn parametersIn among
  not-mixed os h x m p =
      let v : Memᴰ x (variablesIn os) = collect-to (λ o. to_list (variable o)) os (var x) x m in_head in
      let w : Memᴰ x (parametersIn os) = collect-to (λ o. to_list (parameter o)) os (par x) x p in_head in
      let n : among ν x (parametersIn os) ≡ false = not-true (among ν x (parametersIn os))
      (all-is (λ y. not (among ν y (parametersIn os))) (variablesIn os) h x v) in
      true≢false (sym (is_any (λ y. is_yes (ν.same x y)) (parametersIn os) x w (is-yes (ν.same x x) refl)) ∙ n)

  -- names of variables that are no parameters' are apart from those of parameters
  pub apart-names : (P : N → Type 0) (os : List (Open N)) → ((x : N) → Memᴰ (var x) os → ¬ (P x)) → ((x : N) → Memᴰ (par x) os → P x) → unmixed ν os ≡ true
  unfolding unmixed among
  apart-names P os h k = is_all (λ x. not (among ν x (parametersIn os))) (variablesIn os) (λ x m. go x m (among ν x (parametersIn os)) refl)
    where
      go : (x : N) → Memᴰ x (variablesIn os) → (b : Bool) → among ν x (parametersIn os) ≡ b → not b ≡ true
      go x m false i = refl
      go x m true i =
          let s = any-is (λ y. is_yes (ν.same x y)) (parametersIn os) i in
          absurd (h x (from-variables os x m)
          (k x (from-parameters os x (subst (λ (z : N). Memᴰ z (parametersIn os)) (sym (yes-is (ν.same x s.one) s.fits)) s.within))))
