-- What follows from the definitions of specs/Factors: a turn of the loop that reads a product from words, and of the one that stores it.
use Rattle.std.proofs.Math.Path.{◌≡◌, ap}
use Rattle.std.proofs.Common.{sym, ◌∙◌, add-zero, zero-add, add-one, arith, drop_of_length-le, drop-cons, take_all, take-suc-set}
use Rattle.std.specs.Prelude.{List, [], ◌∷◌, ◌++◌, map, ℕ, zero, suc, ◌+◌, ◌*◌, ◌≤◌, ◌<◌, length, take, drop, get_or, set}
use Rattle.std.proofs.lemmas.List.{length-map, map-append}
use Rattle.std.proofs.Math.ListN.{get_or-map}
use Rattle.std.proofs.lemmas.List.Edits.{sets}
use Rattle.rules.specs.Base.{collect}
use Rattle.rules.specs.Values.{FactorValue}
use Rattle.records.proofs.Stores.{sets-append}
use Rattle.products.specs.declared.Factor.{Factor}
use Rattle.products.specs.declared.Product.{Product}
use Rattle.products.specs.Told.{valueIn, given}
use Rattle.calls_defined.specs.Factors.{factorAt, factorsFrom, productAt, factorWords}

-- ══ A product from words ══

factors-more : (a : List ℕ) (i n : ℕ) → factorsFrom a i (suc n) ≡ factorsFrom a i n ++ factorAt a (i + n) ∷ []
unfolding factorsFrom
factors-more a i zero = rw (add-zero i)
factors-more a i (suc n) = let e : i + suc n ≡ suc i + n = omega arith in rw e (ap (factorAt a i ∷◌) (factors-more a (suc i) n))

-- one place more
pub from_step : (a : List ℕ) (l : List Factor) (i : ℕ) (f : Factor) → i < length l → valueIn f ≡ factorAt a i → map valueIn (take i l) ≡ factorsFrom a 0 i
    → map valueIn (take (i + 1) (set l i f)) ≡ factorsFrom a 0 (i + 1)
from_step a l i f h e k =
    let more = rw (zero-add i) at (factors-more a 0 i) in
    rw (add-one i)
    (ap (map valueIn) (take-suc-set l i f h) ∙ map-append valueIn (take i l) (f ∷ []) ∙ ap (λ (fs : List FactorValue). fs ++ valueIn f ∷ []) k
    ∙ ap (λ (v : FactorValue). factorsFrom a 0 i ++ v ∷ []) e ∙ sym more)

pub from-whole : (a : List ℕ) (p : Product) (i count : ℕ) → 64 ≤ i → i ≤ 64 → length p.factors ≡ 64 → map valueIn (take i p.factors) ≡ factorsFrom a 0 i
    → given (record { factors = p.factors; len = count }) ≡ productAt a count
unfolding given
from-whole a p i count h k l e =
    let n : i ≡ 64 = omega arith in
    let w : map valueIn p.factors ≡ factorsFrom a 0 64 = sym (ap (map valueIn) (take_all i p.factors (omega arith))) ∙ e ∙ ap (factorsFrom a 0) n in
    λ j. record { factors = w j; len = count }

-- ══ A product to words ══

-- one factor more: what is left to store falls by it
pub put_step : (fs : List Factor) (f : Factor) (d d' : List ℕ) (i : ℕ) {R : List ℕ} → i < length fs
    → d' ≡ sets d (i * 4) (factorWords (valueIn (get_or fs i f)))
    → sets d (i * 4) (collect factorWords (drop i (map valueIn fs))) ≡ R → sets d' ((i + 1) * 4) (collect factorWords (drop (i + 1) (map valueIn fs))) ≡ R
unfolding collect
put_step fs f d d' i h e r =
    let vs = map valueIn fs in
    let v = get_or vs i (valueIn f) in
    let n : (i + 1) * 4 ≡ i * 4 + 4 = omega arith in
    let k : valueIn (get_or fs i f) ≡ v = sym (get_or-map valueIn fs i f) in
    let lt : i < length vs = rw (length-map fs valueIn) h in
    let e' : d' ≡ sets d (i * 4) (factorWords v) = e ∙ ap (λ (v : FactorValue). sets d (i * 4) (factorWords v)) k in
    rw (n, add-one i, e')
    (sym (sets-append (factorWords v) (collect factorWords (drop (suc i) vs)) d (i * 4))
    ∙ sym (ap (λ (l : List FactorValue). sets d (i * 4) (collect factorWords l)) (drop-cons vs i (valueIn f) lt)) ∙ r)

pub put-end : (fs : List Factor) (d : List ℕ) (i : ℕ) {R : List ℕ} → length fs ≤ i → sets d (i * 4) (collect factorWords (drop i (map valueIn fs))) ≡ R → d ≡ R
unfolding collect
put-end fs d i h r =
    let le : length (map valueIn fs) ≤ i = rw (length-map fs valueIn) h in
    sym (ap (λ (l : List FactorValue). sets d (i * 4) (collect factorWords l)) (drop_of_length-le (map valueIn fs) {i = i} le)) ∙ r
