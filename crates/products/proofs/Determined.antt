-- The contracts leave no choice: two results that one of them allows coincide (`determined`). And each answer has the number that the
-- rules give to its outcome (`numbered`).
use Rattle.std.proofs.Math.Path.{◌≡◌, ap, sym}
use Rattle.std.specs.Prelude.{Result, refl, List, [], ◌∷◌, map}
use Rattle.std.proofs.Common.{ap₂, ◌∙◌}
use Rattle.rules.specs.Base.{Got, got, refused}
use Rattle.rules.specs.Refusals.{toldBy, numberAnswer}
use Rattle.rules.specs.Numbers as numbers
use Rattle.rules.specs.Numbers.{refusalIn, number}
use Rattle.rules.specs.Values.{FactorValue, ProductValue}
use Rattle.rules.specs.declared.Refusal.{Refusal}
use Rattle.laws.proofs.Numbers.{toldBy-injective, answer-in-by}
use Rattle.exponents.proofs.Determined.{exp-injective}
use Rattle.products.specs.declared.Factor.{Factor}
use Rattle.products.specs.declared.Product.{Product}
use Rattle.products.specs.Told.{Tree, valueIn, given, answer}

value-injective : (f g : Factor) → valueIn f ≡ valueIn g → f ≡ g
value-injective f g h =
    let k : f.kind ≡ g.kind = ap (λ (v : FactorValue). v.kind) h in
    let n : f.name ≡ g.name = ap (λ (v : FactorValue). v.name) h in
    let e : f.exp ≡ g.exp = exp-injective f.exp g.exp (ap (λ (v : FactorValue). v.exp) h) in
    λ i. record { kind = k i; name = n i; exp = e i }

values-injective : (l m : List Factor) → map valueIn l ≡ map valueIn m → l ≡ m
values-injective [] [] h = refl
values-injective [] (g ∷ m) h = cc
values-injective (f ∷ l) [] h = cc
values-injective (f ∷ l) (g ∷ m) h = ap₂ (λ (x : Factor) (r : List Factor). x ∷ r) (value-injective f g (cc)) (values-injective l m (cc))

pub given-injective : (p q : Product) → given p ≡ given q → p ≡ q
unfolding given
given-injective p q h =
    let f : p.factors ≡ q.factors = values-injective p.factors q.factors (ap (λ (v : ProductValue). v.factors) h) in
    let n : p.len ≡ q.len = ap (λ (v : ProductValue). v.len) h in
    λ i. record { factors = f i; len = n i }

refusal-in : (m : Got Tree) → refusalIn (answer m) ≡ refusalIn m
unfolding answer refusalIn
refusal-in (got t) = refl
refusal-in (refused n) = refl

-- ══ The calls, whose clauses say `toldBy given r ≡ answer m` ══

module _ (p : Result Product Refusal) (m : Got Tree) (h : toldBy given p ≡ answer m) where
  pub determined : (q : Result Product Refusal) → toldBy given q ≡ answer m → p ≡ q
  determined q k = toldBy-injective given given-injective p q (h ∙ sym k)

  pub numbered : numberAnswer p ≡ number (numbers.product m)
  unfolding number
  numbered = answer-in-by given p ∙ ap refusalIn h ∙ refusal-in m
