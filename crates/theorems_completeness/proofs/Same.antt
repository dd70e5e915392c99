-- On sets of dimensions the wide words mean what the others mean.
use Rattle.std.specs.Prelude.{◌≡◌, not}
use Rattle.std.proofs.Math.Path.{refl}
use Rattle.std.proofs.Common.{sym}
use Rattle.std.proofs.Math.Bool.{true, false}
use Rattle.std.proofs.Math.Option.{Option, none, some}
use Rattle.rules.specs.Base.{is_none}
use Rattle.rules.specs.Trees.{Ty, dim, Con, equal, isDim, is_scalar, hasField, Product}
use Rattle.rules.specs.Views.{productOf}
use Rattle.rules.specs.Choices.{Choice, dimensional, MakesTrue, isSide, wide, sideComesTo, MakesWideTrue}
use Rattle.std.proofs.lemmas.Bool.{not-true}
use Rattle.laws.specs.Lists.{and_left, and_right}
use Rattle.laws.proofs.Lists.{true≢false}
use Rattle.laws.proofs.RuleCases.{product-of}
use Rattle.theorems_completeness.specs.Claims.{◌⇔◌}

a-product : {N : Type 0} (t : Ty N) → is_none (productOf t) ≡ false → (p : Product N) × (t ≡ dim p)
a-product {N} t h = go (productOf t) refl h
  where
    go : (o : Option (Product N)) → productOf t ≡ o → is_none o ≡ false → (p : Product N) × (t ≡ dim p)
    go none i h = absurd (true≢false h)
    go (some p) i h = (p, product-of t p i)

module _ {N : Type 0} where
  sides-of : (s t : Ty N) → dimensional (equal s t) ≡ true → (p q : Product N) × (s ≡ dim p) × (t ≡ dim q)
  unfolding dimensional
  sides-of s t h =
      let a = a-product s (not-true (is_none (productOf s)) (and_left (not (is_none (productOf s))) _ h)) in
      let b = a-product t (not-true (is_none (productOf t)) (and_right (not (is_none (productOf s))) _ h)) in
      (a.0, b.0, a.1, b.1)

  pub also-wide : (k : Con N) → dimensional k ≡ true → wide k ≡ true
  unfolding dimensional wide isSide
  also-wide (equal s t) h = let d = sides-of s t h in rw (d.2, d.3) refl
  also-wide (isDim t) h = absurd (true≢false (sym h))
  also-wide (is_scalar p) h = refl
  also-wide (hasField n s t) h = absurd (true≢false (sym h))

  equal-truth : (same : Discrete N) (c : Choice N) (s t : Ty N) (p q : Product N) → s ≡ dim p → t ≡ dim q
      → MakesTrue same c (equal s t) ⇔ MakesWideTrue same c (equal s t)
  unfolding MakesTrue MakesWideTrue sideComesTo
  equal-truth same c s t p q i j = rw (i, j) (λ f. f, λ f. f)

  pub same-truth : (same : Discrete N) (c : Choice N) (k : Con N) → dimensional k ≡ true → MakesTrue same c k ⇔ MakesWideTrue same c k
  unfolding dimensional MakesTrue MakesWideTrue sideComesTo
  same-truth same c (equal s t) h = let d = sides-of s t h in equal-truth same c s t d.0 d.1 d.2 d.3
  same-truth same c (isDim t) h = absurd (true≢false (sym h))
  same-truth same c (is_scalar p) h = (λ f. f, λ f. f)
  same-truth same c (hasField n s t) h = absurd (true≢false (sym h))
