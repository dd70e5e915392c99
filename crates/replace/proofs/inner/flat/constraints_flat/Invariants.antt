use Rattle.rules.specs.Trees.{depthCon}
use Rattle.records.specs.Good.{goodCon}
use Rattle.types.proofs.OnSets.{alone}
use Rattle.types.specs.Shapes.{cons_of}
use Rattle.replace.proofs.Nested.{Deciding}
use Rattle.replace.proofs.inner.flat.constraints_flat.Given as goal

abbrev pub invariant-constraints : goal.invariant-constraints
invariant-constraints l = Deciding (goodCon l.names.pool.now l.names.table.now 0) depthCon (alone (cons_of l.c-iterator)) l.fn.cs.trees.0
