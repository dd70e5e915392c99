-- Names that are held are small enough to be marked.
use Rattle.std.specs.Prelude.{List, ℕ, ◌≤◌, ◌<◌, get_or}
use Rattle.std.proofs.Common.{arith}
use borrow.Author.Tests.{ltb-true}
use Rattle.rules.specs.Trees.{Open, var, quant, par}
use Rattle.rules.specs.WellFormed.{goodOpen}
use Rattle.rules.specs.Names.{table_of, numbersOf, is_held}
use Rattle.laws.specs.Lists.{Every}
use Rattle.queries.specs.declared.Kind.{Kind}
use Rattle.queries.specs.Scans.{choose}
use Rattle.queries.proofs.MarkLaws.{chosen-below}
use Rattle.queries.specs.Marks.{Below, Small}
use Rattle.laws.proofs.Lists.{every-as}
use Rattle.laws.proofs.KnownNames.{Known}

module _ (pool table : List ℕ) (q : ℕ) where
  known-below : (o : Open ℕ) → Known (numbersOf (table_of pool table)) (is_held (table_of pool table)) q o → Below (get_or table 0 0) o
  unfolding goodOpen table_of
  known-below (var x) h = ltb-true x (get_or table 0 0) h
  known-below (quant i) h = tt
  known-below (par x) h = ltb-true x (get_or table 0 0) h

  module _ (os : List (Open ℕ)) (h : Every (Known (numbersOf (table_of pool table)) (is_held (table_of pool table)) q) os) where
    pub names-held : (k : Kind) → Every (λ x. x < get_or table 0 0) (choose k os)
    names-held k = chosen-below (get_or table 0 0) k os (every-as known-below os h)

    pub names-small : get_or table 0 0 ≤ 256 → Small os
    names-small l = every-as (λ o k. less o (known-below o k)) os h
      where
        less : (o : Open ℕ) → Below (get_or table 0 0) o → Below 256 o
        less (var x) k = omega arith
        less (quant i) k = tt
        less (par x) k = omega arith
