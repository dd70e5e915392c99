-- What follows from the definitions of specs/Times: a product multiplied by one factor.
use Rattle.std.proofs.Math.Path.{◌≡◌, refl, sym, ap}
use Rattle.std.proofs.Common.{◌∙◌}
use Rattle.std.specs.Prelude.{Bool, ℕ, suc}
use Rattle.std.proofs.Math.Bool.{true, false}
use mathlib.Core.List.{List, [], ◌∷◌}
use native.Mathlib.Omega.{arith}
use Rattle.rules.specs.Base.{Got, got, refused, bounded}
use Rattle.rules.specs.Exponents.{Exp, isZero, goodExp}
use Rattle.rules.specs.Names.{table_of, numbersOf, is_held}
use Rattle.rules.specs.Products.{put, multiply}
use Rattle.rules.specs.Refusals.{number_of}
use Rattle.rules.specs.Trees.{◌↑◌}
use Rattle.rules.specs.TextReading.{placed}
use Rattle.rules.specs.Values.{productValue, value_of, kind_of, number_in, atomIn}
use Rattle.rules.specs.WellFormed.{goodProduct}
use Rattle.rules.specs.Writing.{words}
use Rattle.rules.specs.declared.Refusal.{Refusal}
use Rattle.laws.proofs.Lists.{clash, same-number}
use Rattle.laws.proofs.Ranges.{is-stored}
use Rattle.laws.proofs.GoodProducts.{GoodProduct, product-good, multiply_good}
use Rattle.exponents.specs.Answers.{expOf}
use Rattle.exponents.specs.declared.Exponent.{Exponent}
use Rattle.products.specs.Told.{Tree, given, answer, productOf, put_of, heldIn, valueIn}
use Rattle.products.specs.Kinds.{Kind, variable, parameter, dimension, quantified, atomBy}
use Rattle.products.proofs.Places.{put-given}
use Rattle.products.specs.Held.{Well}
use Rattle.products.proofs.Held.{well-good, law, made}
use Rattle.products.specs.declared.Factor.{Factor}
use Rattle.products.specs.declared.Product.{Product}
use Rattle.text_names.specs.Effects.{lent, sofar}
use Rattle.text_names.proofs.Effects.{did, stops, unmoved}
use Rattle.text_names.specs.Stands.{Stand}
use Rattle.text_names.specs.Stands as stand
use Rattle.text_dimensions.specs.Atoms.{AtomHeld}
use Rattle.text_dimensions.specs.Times.{Timed}

-- ══ One factor ══

pub single-value : (kind name : ℕ) (x : Factor) → Kind kind → x.kind ≡ kind → x.name ≡ name → valueIn x ≡ value_of (atomBy kind name ↑ expOf x.exp)
unfolding value_of kind_of number_in atomIn
single-value kind name x variable e f = rw (e, f)
single-value kind name x parameter e f = rw (e, f)
single-value kind name x dimension e f = rw (e, f)
single-value kind name x quantified e f = rw (e, f)

module _ (kind name : ℕ) (x : Exponent) where
  pub single-zero : (p : Product) → isZero (expOf x) ≡ true → given p ≡ productValue [] → given p ≡ productValue (put (atomBy kind name) (expOf x) [])
  single-zero p h e = rw (h, put) e

  pub single-put : (p r : Product) → isZero (expOf x) ≡ false → Kind kind → given p ≡ productValue []
      → r ≡ put_of p (record { kind = kind; name = name; exp = x })
      → given r ≡ productValue (put (atomBy kind name) (expOf x) [])
  single-put p r h k e f =
      let v : Factor = record { kind = kind; name = name; exp = x } in
      rw (h, put) (ap given f ∙ put-given p v [] (atomBy kind name ↑ expOf x) e (single-value kind name v k refl refl))

module _ (pool table : List ℕ) {kind name : ℕ} (held : AtomHeld table kind name) (e : Exp) (good : goodExp e ≡ true) where
  -- a factor is a well formed product
  single-good : goodProduct (numbersOf (table_of pool table)) (is_held (table_of pool table)) 4_294_967_296 (put (atomBy kind name) e []) ≡ true
  unfolding table_of
  single-good = product-good (numbersOf (table_of pool table)) (law pool table) (heldIn table) 4_294_967_296 (put (atomBy kind name) e []) (go (isZero e) refl)
    where
      go : (z : Bool) → isZero e ≡ z → GoodProduct (numbersOf (table_of pool table)) (heldIn table) 4_294_967_296
          (elim z [ true ↦ [] | false ↦ atomBy kind name ↑ e ∷ [] ])
      go true h = record { in_order = tt; each = tt; few = omega arith }
      go false h = record { in_order = (tt, tt); each = ((held.good (numbersOf (table_of pool table)), is-stored e h good), tt); few = omega arith }

  pub single-well : (f : Product) → given f ≡ productValue (put (atomBy kind name) e []) → (Well pool table f) × (put (atomBy kind name) e [] ≡ productOf f)
  single-well f is = let t = made pool table f (put (atomBy kind name) e []) is single-good in (t.well, t.is)

-- the product of no factors is well formed
module _ (pool table : List ℕ) (p : Product) (is : given p ≡ productValue []) where
  scalar-good : goodProduct (numbersOf (table_of pool table)) (is_held (table_of pool table)) 4_294_967_296 [] ≡ true
  unfolding table_of
  scalar-good = product-good (numbersOf (table_of pool table)) (law pool table) (heldIn table) 4_294_967_296 []
      (record { in_order = tt; each = tt; few = omega arith })

  pub scalar-well : Well pool table p
  scalar-well = (made pool table p [] is scalar-good).well

  pub scalar-none : productOf p ≡ []
  scalar-none = sym (made pool table p [] is scalar-good).is

-- ══ What was made ══

made-got : (P : Product) (m : Got Tree) → got (given P) ≡ answer m → (s : Tree) × ((m ≡ got s) × (given P ≡ productValue s))
unfolding answer
made-got P (got s) e = (s, (refl, cc))
made-got P (refused n) e = clash (sym e)

made-refused : (n : ℕ) (m : Got Tree) → refused n ≡ answer m → m ≡ refused n
unfolding answer
made-refused n (got s) e = clash e
made-refused n (refused k) e = ap refused (sym (same-number e))

module _ {pool table : List ℕ} {q : Product} (kind name : ℕ) (e : Exp) (at : ℕ) (w : Well pool table q) where
  pub times-stays : {s : Stand} {r : Refusal} {c : ℕ} → s ≡ stand.Refused r c → Timed pool table q kind name e at s s q
  times-stays {s} h = record { well = w; refused = λ r c p. p; going = λ k n p. p; effect = λ dst. unmoved h }

  module _ (f : Product) {k n : ℕ} {s : Stand} (going : s ≡ stand.Going k n) (held : AtomHeld table kind name) (good : goodExp e ≡ true)
      (is : given f ≡ productValue (put (atomBy kind name) e [])) where
    same-product : multiply (numbersOf (table_of pool table)) bounded (productOf q) (productOf f)
        ≡ multiply (numbersOf (table_of pool table)) bounded (productOf q) (put (atomBy kind name) e [])
    same-product = ap (multiply (numbersOf (table_of pool table)) bounded (productOf q)) (sym (single-well pool table held e good f is).1)

    pub times-refused : (why : Refusal) → refused (number_of why) ≡ answer (multiply (numbersOf (table_of pool table)) bounded (productOf q) (productOf f))
        → Timed pool table q kind name e at s (stand.Refused why at) q
    times-refused why made =
        let m = sym same-product ∙ made-refused (number_of why) _ made in
        record {
          well = w;
          refused = λ r d p. absurd (cc);
          going = λ i j p. absurd (cc);
          effect = λ dst. stops going refl (ap (λ (g : Got Tree). placed (suc at) g (sofar (lent pool table dst s) k n)) m);
        }

    pub times-done : (P : Product) → got (given P) ≡ answer (multiply (numbersOf (table_of pool table)) bounded (productOf q) (productOf f))
        → Timed pool table q kind name e at s s P
    unfolding words
    times-done P it =
        let g = made-got P _ it in
        let m = sym same-product ∙ g.1.0 in
        let fine = (multiply_good (numbersOf (table_of pool table)) (law pool table) (is_held (table_of pool table)) 4_294_967_296 (productOf q)
        (put (atomBy kind name) e [])
        (well-good pool table q w) (single-good pool table held e good)).holds g.0 m in
        let taken = made pool table P g.0 g.1.1 fine in
        record {
          well = taken.well;
          refused = λ r d p. p;
          going = λ i j p. p;
          effect = λ dst. did going going (record {
            value = g.0;
            records = [];
            is = ap (λ (g : Got Tree). placed (suc at) g (sofar (lent pool table dst s) k n)) m;
            tells = record { is = taken.is; none = refl };
            written = refl;
            grown = omega arith;
          });
        }
