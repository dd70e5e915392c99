use Rattle.types.proofs.OnSets.{alone}
use Rattle.types.specs.Shapes.{cons_of}
use Rattle.edition_certificates.proofs.Going.{Going}
use Rattle.edition_certificates.proofs.inner.all_proposed.Given as goal

abbrev pub invariant-lines : goal.invariant-lines
invariant-lines l = Going l.fn.lines.trees.0 l.at l.proposal.pairs.items l.proposal.bounds.items (alone (cons_of l.c-iterator))
