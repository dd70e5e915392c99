-- `just` meets its contract.
use mathlib.Core.Logic.{⊎_elim}
use Rattle.std.proofs.Common.{◌∙◌, refl}
use Rattle.rules.specs.Exponents.{one}
use Rattle.rules.specs.Products.{just}
use Rattle.rules.specs.Replacing.{asProduct}
use Rattle.rules.specs.Trees.{◌↑◌, free}
use Rattle.records.specs.Holds.{openOf}
use Rattle.replace.proofs.InProducts.{fine-told, fine-refused}
use Rattle.replace.proofs.inner.dims.just.Goals as goal

pub returns-in-Var : goal.returns-in-Var
unfolding asProduct
returns-in-Var c = fine-told _ (just (openOf c.args.o)) (c.only.ensures (free (openOf c.args.o) ↑ one) c.free_factor.ensures)
    ∙ ⊎_elim (λ v. rw v.1 refl) (λ v. rw v.1 refl) c.in-Var.is

pub returns-in-Par : goal.returns-in-Par
unfolding asProduct
returns-in-Par c = fine-refused 6 ∙ rw c.in-Par.is
