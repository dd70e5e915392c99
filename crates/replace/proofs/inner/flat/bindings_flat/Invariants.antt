use Rattle.rules.specs.Trees.{depthBinding}
use Rattle.records.specs.Good.{goodBinding}
use Rattle.types.specs.Shapes.{bindings_of}
use Rattle.replace.proofs.Nested.{Deciding}
use Rattle.replace.proofs.inner.flat.bindings_flat.Given as goal

abbrev pub invariant-bindings : goal.invariant-bindings
invariant-bindings l = Deciding (goodBinding l.names.pool.now l.names.table.now 0) depthBinding (bindings_of l.b-iterator) l.fn.bs.trees.0
