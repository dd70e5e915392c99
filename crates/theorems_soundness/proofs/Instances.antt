-- Instances: K2, K5 and K8 of the rules meet the premise of soundness; K10 doesn't, and the judge says no to its answer.
-- Two accepted sets with a constraint that adding answers Violated: one meets the premise, the other doesn't.
use Rattle.std.specs.Prelude.{◌≡◌, refl, true, false, List, [], ◌∷◌, ℕ, pos, negsuc}
use Rattle.std.proofs.Common.{ap, sym, subst, ltb-true}
use mathlib.Core.List.Memᴰ
use Rattle.std.proofs.Math.Option.{some}
use Rattle.rules.specs.Base.{got, bounded}
use Rattle.rules.specs.Exponents.{frac}
use Rattle.rules.specs.Trees.{var, base, Factor, ◌↑◌, Ty, opened, basic, dim, boolean, Con, equal, isDim, is_scalar, Binding, ◌≔◌}
use Rattle.rules.specs.Replacing.{asProduct, find}
use Rattle.rules.specs.Adding.{violated, addTest}
use Rattle.rules.specs.Solving.{accepted, solve}
use Rattle.rules.specs.Meaning.{Premise}
use Rattle.rules.specs.Judging.{judge}
use Rattle.rules.specs.Rules.{rules}
use Rattle.laws.proofs.ByteOrder.{numbered-lawful}
use Rattle.laws.proofs.NameTable.{numbered-tells}
use Rattle.laws.proofs.Lists.{some≢none, got≢refused}
use Rattle.theorems_soundness.specs.Claims.{Ordered, Given}
use Rattle.theorems_soundness.specs.Examples.{x, y, L, bytes, names, held, to, k10, k10-bindings, fields, product, products, products-bindings}

pub ordered : Ordered names held
unfolding rules names held
ordered = record { lawful = numbered-lawful bytes; tells = record { same = λ i j h k. (numbered-tells bytes refl).same i j (ltb-true i 6 h) (ltb-true j 6 k) } }

-- ══ The sets and their answers ══

-- x = boolean
abbrev pub k2 : List (Con ℕ)
k2 = equal (opened (var x)) (basic boolean) ∷ []

abbrev pub k2-bindings : List (Binding ℕ)
k2-bindings = x ≔ basic boolean ∷ []

-- equal-scalar x^2 L^-3
abbrev pub k5 : List (Con ℕ)
k5 = is_scalar (to x (pos 2) ∷ base L ↑ frac (negsuc 2) 1 ∷ []) ∷ []

abbrev pub k5-bindings : List (Binding ℕ)
k5-bindings = x ≔ dim (base L ↑ frac (pos 3) 2 ∷ []) ∷ []

-- is-dimension x y^-1
abbrev pub k8 : List (Con ℕ)
k8 = isDim (dim (to x (pos 1) ∷ to y (negsuc 0) ∷ [])) ∷ []

abbrev pub k8-bounds : List ℕ
k8-bounds = x ∷ y ∷ []

pub k2-accepted : solve names bounded k2 ≡ accepted k2-bindings [] 1
unfolding rules names
k2-accepted = refl

pub k5-accepted : solve names bounded k5 ≡ accepted k5-bindings [] 1
unfolding rules names
k5-accepted = refl

pub k8-accepted : solve names bounded k8 ≡ accepted [] k8-bounds 1
unfolding rules names
k8-accepted = refl

pub k10-accepted : solve names bounded k10 ≡ accepted k10-bindings [] 3
unfolding rules names
k10-accepted = refl

pub fields-accepted : solve names bounded (fields ∷ []) ≡ accepted [] [] 1
unfolding rules names
fields-accepted = refl

pub products-accepted : solve names bounded products ≡ accepted products-bindings [] 2
unfolding rules names
products-accepted = refl

pub fields-violated : addTest names fields ≡ violated
unfolding rules names
fields-violated = refl

pub product-violated : addTest names product ≡ violated
unfolding rules names
product-violated = refl

pub k2-given : Given names held k2
unfolding rules names held
k2-given = record { well-formed = refl; apart = refl }

pub k5-given : Given names held k5
unfolding rules names held
k5-given = record { well-formed = refl; apart = refl }

pub k8-given : Given names held k8
unfolding rules names held
k8-given = record { well-formed = refl; apart = refl }

pub k10-given : Given names held k10
unfolding rules names held
k10-given = record { well-formed = refl; apart = refl }

pub fields-given : Given names held (fields ∷ [])
unfolding rules names held
fields-given = record { well-formed = refl; apart = refl }

pub products-given : Given names held products
unfolding rules names held
products-given = record { well-formed = refl; apart = refl }

-- ══ The premise ══

-- no variable stands in a product
pub k2-premise : Premise names k2 k2-bindings
unfolding rules names
k2-premise = record { dimensions = λ v m t e. absurd (Memᴰ.not-nil m) }

-- x stands in a product, and is bound to a dimension
pub k5-premise : Premise names k5 k5-bindings
unfolding rules names
k5-premise = record { dimensions = λ v m t e. at v t (Memᴰ.eq_of_singleton m) e }
  where
    at : (v : ℕ) (t : Ty ℕ) → var v ≡ var x → find names k5-bindings v ≡ some t → (p : List (Factor ℕ)) × (asProduct t ≡ got p)
    at v t i e =
        let j : v ≡ x = cc in
        let k : some (dim (base L ↑ frac (pos 3) 2 ∷ [])) ≡ some t = subst (λ (w : ℕ). find names k5-bindings w ≡ some t) j e in
        let r : dim (base L ↑ frac (pos 3) 2 ∷ []) ≡ t = cc in
        (base L ↑ frac (pos 3) 2 ∷ [], ap asProduct (sym r))

-- nothing is bound
unbound-premise : (cs : List (Con ℕ)) → Premise names cs []
unfolding rules names
unbound-premise cs = record { dimensions = λ v m t e. absurd (some≢none (sym e)) }

pub k8-premise : Premise names k8 []
k8-premise = unbound-premise k8

pub fields-premise : Premise names (fields ∷ []) []
fields-premise = unbound-premise (fields ∷ [])

-- x stands in a product, and is bound to boolean
pub k10-no-premise : ¬ (Premise names k10 k10-bindings)
unfolding rules names
k10-no-premise p = got≢refused (sym (p.dimensions x (Memᴰ.head refl) (basic boolean) refl).1)

pub products-no-premise : ¬ (Premise names products products-bindings)
unfolding rules names
products-no-premise p = got≢refused (sym (p.dimensions x (Memᴰ.head refl) (basic boolean) refl).1)

-- ══ The judge ══

pub k2-judged : judge names bounded k2-bindings [] k2 ≡ got true
unfolding rules names
k2-judged = refl

pub k5-judged : judge names bounded k5-bindings [] k5 ≡ got true
unfolding rules names
k5-judged = refl

pub k8-judged : judge names bounded [] k8-bounds k8 ≡ got true
unfolding rules names
k8-judged = refl

pub k10-judged : judge names bounded k10-bindings [] k10 ≡ got false
unfolding rules names
k10-judged = refl

pub fields-judged : judge names bounded [] [] (fields ∷ []) ≡ got true
unfolding rules names
fields-judged = refl

pub products-judged : judge names bounded products-bindings [] products ≡ got false
unfolding rules names
products-judged = refl
