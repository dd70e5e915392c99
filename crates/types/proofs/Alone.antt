-- A product that is one variable to the power 1.
use Rattle.std.specs.Prelude.{◌≡◌, Bool, true, false, ℕ, [], ◌∷◌, length, refl}
use Rattle.std.proofs.Common.{sym, ap, ◌∙◌, arith}
use Rattle.std.proofs.Math.Option.{none, some}
use Rattle.rules.specs.Base.{is_yes}
use Rattle.rules.specs.Exponents.{Exp-dec, frac, one}
use Rattle.rules.specs.Products.{single}
use Rattle.rules.specs.Trees as trees
use Rattle.rules.specs.Trees.{◌↑◌}
use Rattle.rules.specs.Writing.{signed}
use Rattle.records.specs.Holds.{openOf, atomOf}
use Rattle.records.specs.declared.Atom.{Atom}
use Rattle.records.specs.declared.Atom.TheVariants as atoms
use Rattle.records.specs.declared.Open as names
use Rattle.types.specs.declared.Factor as types
use Rattle.types.specs.Shapes.{factor_of}

-- a product of one factor
pub lone : {f : trees.Factor ℕ} (q : trees.Product ℕ) {p : trees.Product ℕ} → f ∷ q ≡ p → length p ≡ 1 → single (f ∷ []) ≡ single p
lone [] e l = ap single e
lone (g ∷ q) e l = absurd (omega (arith, ap length e, l))

-- and of another count
pub not-lone : (p : trees.Product ℕ) → (length p ≡ 1 → ⊥) → none ≡ single p
unfolding single
not-lone [] n = refl
not-lone (a ↑ x ∷ []) n = absurd (n refl)
not-lone (a ↑ x ∷ f ∷ p) n = refl

module _ (f : types.Factor) where
  abbrev One : Bool
  One = is_yes (Exp-dec (frac (signed f.num) f.den) one)

  pub not-one : One ≡ false → none ≡ single (factor_of f ∷ [])
  unfolding single
  not-one h = go (atomOf f.atom)
    where
      go : (a : trees.Atom ℕ) → none ≡ single (a ↑ frac (signed f.num) f.den ∷ [])
      go (trees.free (trees.var x)) = rw h
      go (trees.free (trees.quant i)) = rw h
      go (trees.free (trees.par x)) = refl
      go (trees.base n) = refl

  module _ {o : names.Open} (a : f.atom ≡ atoms.Free o) where
    of : single (trees.free (openOf o) ↑ frac (signed f.num) f.den ∷ []) ≡ single (factor_of f ∷ [])
    of = ap (λ (x : Atom). single (atomOf x ↑ frac (signed f.num) f.den ∷ [])) (sym a)

    pub alone-var : {x : ℕ} → o ≡ names.TheVariants.Var x → One ≡ true → some (openOf o) ≡ single (factor_of f ∷ [])
    unfolding single
    alone-var e h = rw e (rw h refl) ∙ of

    pub alone-quant : {x : ℕ} → o ≡ names.TheVariants.Quant x → One ≡ true → some (openOf o) ≡ single (factor_of f ∷ [])
    unfolding single
    alone-quant e h = rw e (rw h refl) ∙ of

    pub alone-par : {x : ℕ} → o ≡ names.TheVariants.Par x → none ≡ single (factor_of f ∷ [])
    unfolding single
    alone-par e = rw e refl ∙ of

  pub alone-base : {x : ℕ} → f.atom ≡ atoms.Base x → none ≡ single (factor_of f ∷ [])
  unfolding single
  alone-base a = ap (λ (x : Atom). single (atomOf x ↑ frac (signed f.num) f.den ∷ [])) (sym a)
