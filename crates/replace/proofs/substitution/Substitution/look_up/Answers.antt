use Rattle.std.proofs.Common.{sym, ◌∙◌}
use Rattle.records.specs.Holds.{openOf}
use Rattle.replace.proofs.Substitutions.{none-said, said-at, some-said}
use Rattle.replace.proofs.substitution.Substitution.look_up.Goals as goal

pub returns-then-w-eq0 : goal.returns-then-w-eq0
returns-then-w-eq0 c =
    let s = c.args.self in
    none-said s.types.now (s.lent.0 (openOf c.args.o)) (s.lent.1.tabled.says (openOf c.args.o)) (sym c.word_of-w.ensures ∙ c.if-w-eq0.true)

pub invariant_of-result : goal.invariant_of-result
invariant_of-result c =
    let s = c.args.self in
    record {
      near = s.lent.1.near;
      tree = said-at s.types.now (s.lent.0 (openOf c.args.o))
          (rw c.word_of-w.ensures (s.lent.1.tabled.says (openOf c.args.o))) c.if-w-eq0.false;
    }

pub returns : goal.returns
returns c =
    let s = c.args.self in
    some-said s.types.now (s.lent.0 (openOf c.args.o)) (rw c.word_of-w.ensures (s.lent.1.tabled.says (openOf c.args.o))) c.if-w-eq0.false (_, search)
