-- `products::inner::divided` meets its contract.
use Rattle.rules.specs.Products.{divide}
use Rattle.products.proofs.Held.{well-sound, inverse-well}
use Rattle.products.proofs.inner.divided.Goals as goal

pub inverted-requires : goal.inverted-requires
inverted-requires c = well-sound c.requires.right

pub multiplied-requires : goal.multiplied-requires
multiplied-requires c = record { left = c.requires.left; right = (inverse-well _ _ _ _ c.requires.right c.inverted.ensures).well }

pub returns : goal.returns
unfolding divide
returns c = rw (inverse-well _ _ _ _ c.requires.right c.inverted.ensures).is c.multiplied.ensures
