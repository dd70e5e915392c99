-- The factors of a product that is held from a place on, record by record.
use Rattle.std.specs.Prelude.{◌≡◌, List, ℕ}
use Rattle.rules.specs.Exponents.{frac}
use Rattle.rules.specs.Trees.{Factor, ◌↑◌}
use Rattle.rules.specs.Writing.{twos}
use Rattle.records.specs.Holds.{viewAtom, HoldsFactor}
use Rattle.records.specs.Views.{viewAt}
use Rattle.records.specs.declared.Atom as atoms
use Rattle.records.specs.declared.View.TheVariants as view

-- a record that holds a factor says one
pub record Says (s : List ℕ) (at : ℕ) : Type 0 where
  pub atom : atoms.Atom
  pub num : ℕ
  pub den : ℕ
  pub is : viewAt s at ≡ view.Factor atom num den

pub says : (s : List ℕ) (f : Factor ℕ) (at : ℕ) → HoldsFactor s f at → Says s at
says s (a ↑ frac n d) at h = record { atom = viewAtom a; num = twos n; den = d; is = h.0 }
