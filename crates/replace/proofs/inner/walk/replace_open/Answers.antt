use Rattle.replace.proofs.Walks.{open-kept}
use Rattle.replace.proofs.inner.walk.replace_open.Goals as goal

pub returns-in-None : goal.returns-in-None
returns-in-None c = open-kept c.args.by.lent.0 c.args.o c.in-None.ensures c.put.ensures
