-- `products::inner::rank` meets its contract: each arm is a case of the definition.
use Rattle.std.proofs.Common.{arith, ne_eqb}
use Rattle.products.specs.Told.{rank_of}
use Rattle.products.proofs.inner.rank.Goals as goal

pub returns-in-11 : goal.returns-in-11
unfolding rank_of
returns-in-11 c = rw c.in-11.is

pub returns-in-15 : goal.returns-in-15
unfolding rank_of
returns-in-15 c = rw c.in-15.is

pub returns-in-12 : goal.returns-in-12
unfolding rank_of
returns-in-12 c = rw c.in-12.is

pub returns-in_default : goal.returns-in_default
unfolding rank_of
returns-in_default c =
    let k = c.args.kind in
    rw (ne_eqb k 11 (omega arith), ne_eqb k 15 (omega arith), ne_eqb k 12 (omega arith))
