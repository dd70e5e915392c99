use Rattle.std.specs.Prelude.{refl}
use Rattle.rules.specs.Rules.{rules}
use Rattle.rules.specs.Examples.{pool, table}
use Rattle.rules.specs.Lengths.{counting}
use Rattle.judge_pairs.specs.Pairs.{entriesIn}
use Rattle.edition_certificates.specs.Certificates.{lineOf, pairsOf, boundNames, proposes, verified}
use Rattle.edition_certificates.proofs.theorems.examples_come_out.Goals as goal

pub returns : goal.returns
unfolding rules counting pool table entriesIn lineOf pairsOf boundNames proposes verified
returns c = record { yes = refl; no = refl; bounded = refl; empty = refl; twice = refl; other-line = refl }
