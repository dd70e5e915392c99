-- `inner::kind_for` meets its contract.
use Rattle.std.proofs.Common.{rules}
use Rattle.text_dimensions.specs.Atoms.{forVariable, forParameter, forBase, forNone}
use Rattle.text_dimensions.proofs.inner.kind_for.Goals as goal

pub returns-in-63 : goal.returns-in-63
returns-in-63 c = forVariable c.in-63.is

pub returns-in-33 : goal.returns-in-33
returns-in-33 c = forParameter c.in-33.is

pub returns-in-35 : goal.returns-in-35
returns-in-35 c = forBase c.in-35.is

pub returns-in_default : goal.returns-in_default
returns-in_default c = let d = c.in_default in forNone (search rules) (search rules) (search rules)
