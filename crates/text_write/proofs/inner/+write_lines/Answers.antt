-- `write_lines` meets its contract: the first line, and then the others.
use Rattle.std.proofs.Common.{arith, rules}
use Rattle.text_spell.proofs.Sinks.{cut, nothing, then}
use Rattle.text_write.proofs.Parts.{next-line, no-line}
use Rattle.text_write.proofs.Rows.{as_line, line-on, line-others, no-lines}
use Rattle.text_write.proofs.inner.+write_lines.Goals as goal

pub returns-then-set-at : goal.returns-then-set-at
returns-then-set-at g t c = λ cs f. rw (no-lines _ _ c.args.set.now c.args.at c.if-set-at.true cs f, no-line) (nothing _)

pub constraint_at-requires-clause-there : goal.constraint_at-requires-clause-there
constraint_at-requires-clause-there g t c =
    let w = c.requires.there in
    let y = as_line _ _ c.args.set.now c.args.at c.if-set-at.false w.0 w.1 in
    (y.c, y.holds)

pub returns-in_err-write_con : goal.returns-in_err-write_con
returns-in_err-write_con g t c =
    λ cs f.
    let y = as_line _ _ c.args.set.now c.args.at c.if-set-at.false cs f in
    rw (y.is, next-line) (cut _ _ c.from_residual.ensures.0 (rw (c.constraint_at.ensures y.c y.holds) at c.in_err-write_con.ensures))

pub returns-in_err-put : goal.returns-in_err-put
returns-in_err-put g t c =
    λ cs f.
    let y = as_line _ _ c.args.set.now c.args.at c.if-set-at.false cs f in
    rw (y.is, next-line)
    (then _ (rw (c.constraint_at.ensures y.c y.holds) at c.in_ok-write_con.ensures) (cut _ _ c.from_residual-in_err-put.ensures.0 c.in_err-put.ensures))

pub overflow_add-at : goal.overflow_add-at
overflow_add-at g t c =
    let w = c.requires.there in
    let y = as_line _ _ c.args.set.now c.args.at c.if-set-at.false w.0 w.1 in
    omega (arith, line-on _ _ c.args.set.now y c.length_at.ensures)

pub write_lines-requires : goal.write_lines-requires
write_lines-requires g t c κs within =
    let w = c.requires.there in
    let y = as_line _ _ c.args.set.now c.args.at c.if-set-at.false w.0 w.1 in
    let on = line-on _ _ c.args.set.now y c.length_at.ensures in
    (omega (arith, c.decreases, on.0, on.1), (search rules, (search rules, (c.requires.near, (y.us, line-others _ _ c.args.set.now y c.length_at.ensures)))))

pub returns : goal.returns
returns g t c =
    λ cs f.
    let y = as_line _ _ c.args.set.now c.args.at c.if-set-at.false cs f in
    rw (y.is, next-line)
    (then _ (rw (c.constraint_at.ensures y.c y.holds) at c.in_ok-write_con.ensures) (then _ c.in_ok-put.ensures
    (c.write_lines.ensures y.us (line-others _ _ c.args.set.now y c.length_at.ensures))))
