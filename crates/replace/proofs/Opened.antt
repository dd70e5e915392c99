-- What follows from the definitions of specs/Opened: the open name of a factor by value.
use Rattle.std.specs.Prelude.{◌≡◌, Bool, eqb}
use Rattle.std.proofs.Math.Path.{refl}
use Rattle.std.proofs.Math.Bool.{true, false}
use Rattle.std.proofs.Math.Option.{none, some, get_or}
use borrow.Author.Tests.{ne_eqb}
use Rattle.rules.specs.Base.{only_if, ◌or_else◌}
use Rattle.rules.specs.Trees as trees
use Rattle.rules.specs.Trees.{◌↑◌}
use Rattle.rules.specs.Values.{atomIn}
use Rattle.exponents.specs.Answers.{expOf}
use Rattle.products.specs.Told.{tree_of}
use Rattle.products.specs.declared.Factor.{Factor}
use Rattle.replace.specs.Opened.{open_in}

module _ (f : Factor) where
  pub open-var : f.kind ≡ 11 → some (trees.var f.name) ≡ open_in (tree_of f)
  unfolding atomIn
  open-var k = rw k

  pub open-par : f.kind ≡ 12 → some (trees.par f.name) ≡ open_in (tree_of f)
  unfolding atomIn
  open-par k = rw k

  pub open-quant : f.kind ≡ 15 → some (trees.quant f.name) ≡ open_in (tree_of f)
  unfolding atomIn
  open-quant k = rw k

  pub open_none : (f.kind ≡ 11 → ⊥) → (f.kind ≡ 12 → ⊥) → (f.kind ≡ 15 → ⊥) → none ≡ open_in (tree_of f)
  unfolding atomIn
  open_none a b c = rw (ne_eqb f.kind 11 a, ne_eqb f.kind 12 b, ne_eqb f.kind 15 c) (go (eqb f.kind 13))
    where
      go : (q : Bool) → none ≡ open_in (get_or (only_if q (trees.base f.name) or_else none) (trees.base f.name) ↑ expOf f.exp)
      go true = refl
      go false = refl
