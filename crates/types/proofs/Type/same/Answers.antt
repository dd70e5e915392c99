use Rattle.types.proofs.SameWords.{same-told}
use Rattle.types.proofs.Type.same.Goals as goal

pub returns : goal.returns
returns c = λ names. same-told _ _ c.args.self.tree _ _ c.args.other.tree names c.record_words.ensures c.record_words-2.ensures c.eq.ensures
