-- `look_up` meets its contract.
use mathlib.Core.Path.{sym, ◌∙◌}
use Rattle.records.specs.Holds.{openOf}
use Rattle.replace.proofs.Places.{says_none, says_some, says_at}
use Rattle.replace.proofs.inner.bound.look_up.Goals as goal

pub returns-then-w-eq0 : goal.returns-then-w-eq0
returns-then-w-eq0 c = λ look l.
    let a = c.args in
    says_none a.v.now _ (look (openOf a.o)) (l.says (openOf a.o)) (sym c.word_of-w.ensures ∙ c.if-w-eq0.true)

pub end_of-requires : goal.end_of-requires
end_of-requires c =
    let a = c.args in
    let (look, l) = c.requires in
    let (t, (q, h)) = says_some a.v.now c.word_of-w.result (look (openOf a.o)) (rw c.word_of-w.ensures (l.says (openOf a.o))) c.if-w-eq0.false in
    (t, h)

pub returns : goal.returns
returns c = λ look l.
    let a = c.args in
    says_at a.v.now c.word_of-w.result (look (openOf a.o)) _ (rw c.word_of-w.ensures (l.says (openOf a.o))) c.if-w-eq0.false c.end_of.ensures
