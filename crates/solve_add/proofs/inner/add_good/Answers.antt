-- `inner::add_good` meets its contract.
use Rattle.std.proofs.Common.{sym, ap, ◌∙◌}
use Rattle.rules.specs.Names.{numbered}
use Rattle.solve_add.specs.Told.{toldVerdict}
use Rattle.solve_add.proofs.Stored.{kept, full, appended}
use Rattle.solve_add.proofs.Others.{not-satisfied}
use Rattle.solve_add.proofs.inner.add_good.Goals as goal

pub returns-in-Satisfied : goal.returns-in-Satisfied
returns-in-Satisfied c = λ names cs h.
    let a = c.args in
    kept a.buffer.now a.n a.con.now cs a.constraint.tree.0 h (numbered names) (sym (c.test-verdict.ensures names) ∙ ap toldVerdict c.in-Satisfied.is)

pub returns-then-n-more-gt-RECORDS : goal.returns-then-n-more-gt-RECORDS
returns-then-n-more-gt-RECORDS c = λ names cs h.
    let a = c.args in
    full a.buffer.now a.n a.con.now cs a.constraint.tree.0 h (numbered names) (toldVerdict c.test-verdict.result) (sym (c.test-verdict.ensures names))
    (not-satisfied c.test-verdict.result c.in_default.not-Satisfied) c.if-n-more-gt-RECORDS.true

pub returns : goal.returns
returns c = λ names cs h.
    let a = c.args in
    appended a.buffer.now a.n a.con.now cs a.constraint.tree.0 h (numbered names) c.if-n-more-gt-RECORDS.false _ c.copy.ensures
    (toldVerdict c.test-verdict.result) (sym (c.test-verdict.ensures names)) (not-satisfied c.test-verdict.result c.in_default.not-Satisfied)
