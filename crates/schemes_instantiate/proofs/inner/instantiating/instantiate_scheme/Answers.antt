-- `inner::instantiating::instantiate_scheme` meets its contract.
use Rattle.std.proofs.Common.{ap}
use Rattle.schemes_handed.specs.Given.{scheme_in}
use Rattle.schemes_instantiate.proofs.Ready.{no-scheme, wrong-count, right-count}
use Rattle.schemes_instantiate.proofs.inner.instantiating.instantiate_scheme.Goals as goal

pub returns-in-Concrete : goal.returns-in-Concrete
returns-in-Concrete c = rw c.in-Concrete.is (no-scheme _)

pub returns-then-n-handed : goal.returns-then-n-handed
returns-then-n-handed c = let q = c.in-Quantified in rw q.is (wrong-count c.args.handed q.n _ _ _ c.if-n-handed.true)

pub put_back-requires-clause-ready : goal.put_back-requires-clause-ready
put_back-requires-clause-ready c = let q = c.in-Quantified in c.requires.ready q.n _ _ (ap scheme_in q.is) c.if-n-handed.false

pub returns-else-n-handed : goal.returns-else-n-handed
returns-else-n-handed c = let q = c.in-Quantified in rw q.is (right-count c.args.handed q.n _ _ _ _ c.if-n-handed.false c.put_back.ensures)
