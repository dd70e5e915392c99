use Rattle.std.proofs.Common.{arith}
use Rattle.edition_words.proofs.Marks.{lacks}
use Rattle.edition_words.specs.Paths.{isOrSets}
use Rattle.edition_words.proofs.is_or_sets.Goals as goal

pub returns-in-None : goal.returns-in-None
unfolding isOrSets
returns-in-None c = grind (arith, lacks)
