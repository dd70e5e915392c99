-- The calls, check by check, as rules for `grind`.
use mathlib.Core.Path.{◌≡◌}
use mathlib.Core.List.{List}
use Prim.Native.Nat.{ℕ}
use lib.ListN.{length}
use Rattle.std.proofs.lemmas.Bool.Decides.{nat_tests}
use Rattle.rules.specs.Base.{got}
use Rattle.laws.specs.NameTable.{Good}
use Rattle.products.specs.declared.Product.{Product}
use Rattle.products.specs.Told.{given}
use Rattle.products.specs.Held.{Well}
use Rattle.products.proofs.Held.{taken-well, well-sound, refused-one}
use Rattle.products.proofs.Places.{given-len}
use Rattle.products.specs.Entry.{entry_of}
use Rattle.products.proofs.Entry.{
  Entered,
  entered,
  entry-good,
  multiply-stopped,
  multiply-both,
  multiply-one,
  divide-stopped,
  divide-both,
  divide-one,
  inverse-stopped,
  inverse-goes,
  raise-stopped,
  raise-goes,
}

pub entered-good : (pool table : List ℕ) (p : Product) → length p.factors ≡ 64 → entry_of pool table (given p) ≡ got tt → Good pool table
entered-good pool table p long h = (entered pool table p long h).good

pub entered-well : (pool table : List ℕ) (p : Product) → length p.factors ≡ 64 → entry_of pool table (given p) ≡ got tt → Well pool table p
entered-well pool table p long h = (entered pool table p long h).well

pub ruleset entering = (taken-well, refused-one, entry-good)

pub ruleset calls = (
  entered,
  entered-good,
  entered-well,
  taken-well,
  well-sound,
  multiply-stopped,
  multiply-both,
  multiply-one,
  divide-stopped,
  divide-both,
  divide-one,
  inverse-stopped,
  inverse-goes,
  raise-stopped,
  raise-goes,
)

pub ruleset counting = (nat_tests, given-len)
