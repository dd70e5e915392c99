use Rattle.std.specs.Prelude.{◌≡◌}
use Rattle.serve_replies.specs.Bytes.{words_in}
use Rattle.serve_replies.proofs.coding.front_words.Given as goal

abbrev pub invariant-loop-i : goal.invariant-loop-i
invariant-loop-i l = l.words.items ≡ words_in l.s l.i
