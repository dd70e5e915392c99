-- `inner::take_words` meets its contract: what was filled are the words of the file.
use mathlib.Core.Path.{ap, ◌∙◌}
use native.Mathlib.Omega.{arith}
use lib.ListN.{length, take}
use Prim.Native.Nat.{◌/◌, ◌-◌}
use Rattle.rules.specs.Rescue.{words_in}
use Rattle.rescue.proofs.Steps.{words-in-length}
use Rattle.rescue.proofs.Answers.{front}
use Rattle.rescue.proofs.inner.take_words.Goals as goal

pub take_pieces-requires : goal.take_pieces-requires
take_pieces-requires c =
    let file = c.args.file.now in
    let n = length file / 4 - 0 in
    record {
      short = c.requires;
      words = ap (take n) c.fill.ensures
          ∙ front _ (words_in file) n (omega (arith, words-in-length file)) (omega (arith, c.requires));
    }
