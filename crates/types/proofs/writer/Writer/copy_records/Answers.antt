use Rattle.std.proofs.Common.{◌*◌, arith, refl, ap, ◌∙◌}
use Rattle.std.proofs.lemmas.List.Edits.{sets}
use Rattle.types.proofs.writer.Writer.copy_records.Goals as goal

pub returns-then-self-lt-LAST : goal.returns-then-self-lt-LAST
returns-then-self-lt-LAST c = λ rs n e. record {
  same = refl;
  at = omega (arith, n, c.past-self.ensures);
  words = λ k. c.copy.ensures ∙ ap (sets c.args.self.now.words.now (c.args.self.now.at * 4)) e;
}

pub returns-else-self-lt-LAST : goal.returns-else-self-lt-LAST
returns-else-self-lt-LAST c = λ rs n e. record {
  same = refl;
  at = omega (arith, n, c.past-self.ensures);
  words = λ k. absurd (omega (arith, k, n, c.past-self.ensures, c.if-self-lt-LAST.false));
}
