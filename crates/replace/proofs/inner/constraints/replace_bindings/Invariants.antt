use Rattle.rules.specs.Writing.{writeBinding}
use Rattle.types.specs.Shapes.{bindings_of}
use Rattle.replace.specs.Well.{GoodBinding}
use Rattle.replace.specs.Leaves.{bindingBy}
use Rattle.replace.proofs.Each.{Still}
use Rattle.replace.proofs.inner.constraints.replace_bindings.Given as goal

abbrev pub invariant-bindings : goal.invariant-bindings
invariant-bindings l = Still writeBinding (bindingBy l.fn.by) (GoodBinding l.fn.by.names.pool.now l.fn.by.names.table.now) l.fn.out l.out
    (bindings_of l.b-iterator) l.fn.bs.trees.0
