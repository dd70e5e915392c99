-- `inner::confirm` meets its contract.
use Rattle.std.specs.Prelude.{Ok}
use Rattle.std.proofs.Common.{ap, ◌∙◌, arith}
use Rattle.judge.proofs.Found.{listed}
use Rattle.lines.proofs.Typed.{judged-yes, judged-no, judged-refused}
use Rattle.lines.proofs.inner.confirm.Goals as goal

pub judge_found-requires : goal.judge_found-requires
judge_found-requires c =
    let (cs, h) = c.requires.stands in
    record { constraints_stand = (cs, h.there); answer_stands = c.requires.answered; few_records = h.short; work_room = omega (arith, c.requires.room) }

pub put_type-requires : goal.put_type-requires
put_type-requires c =
    let (bs, (ns, f)) = c.requires.answered in
    (_, (c.fill.ensures _ _ bs c.args.names.good (listed _ _ _ _ _ bs ns f)).tabled)

pub returns-in-Ok-None : goal.returns-in-Ok-None
returns-in-Ok-None c = λ cs bs ns h f.
    judged-yes _ _ cs bs ns _ (c.judge_found.ensures cs bs ns h.there f).verdict _ _ _ (c.in-Ok-None.is ∙ ap Ok c.in-Ok-None.field-0-is)
    (omega (arith, c.judge_found.auto.work, c.requires.room)) (c.put_type.ensures _ (c.fill.ensures _ _ bs c.args.names.good (listed _ _ _ _ _ bs ns f)).tabled)

pub returns-in-Ok-Some : goal.returns-in-Ok-Some
returns-in-Ok-Some c = λ cs bs ns h f.
    judged-no _ _ cs bs ns _ (c.judge_found.ensures cs bs ns h.there f).verdict _ _ (c.in-Ok-Some.is ∙ ap Ok c.in-Ok-Some.field-0-is)

pub returns-in-Err : goal.returns-in-Err
returns-in-Err c = λ cs bs ns h f.
    judged-refused _ _ cs bs ns _ (c.judge_found.ensures cs bs ns h.there f).verdict _ _ c.in-Err.is
