use Rattle.std.proofs.Common.{◌≡◌, length}
use Rattle.types.specs.Shapes.{cons_of}
use Rattle.solve_round.specs.Parts.{others}
use Rattle.solve_round.proofs.Searching.{Search}
use Rattle.solve_round.proofs.inner.turn.Given as goal

abbrev pub invariant-search : goal.invariant-search
invariant-search l =
    (length l.new ≡ length l.fn.new)
    × (l.out ≡ l.fn.out)
    × Search l.names.pool.now l.names.table.now l.state.behind.words.now l.state.before.at l.state.behind.end (others l.state) l.state.bindings.trees.0
    (cons_of l.c-iterator)
