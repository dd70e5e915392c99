-- `inner::judge_set` meets its contract.
use mathlib.Core.Path.{◌∙◌}
use native.Mathlib.Omega.{arith}
use Rattle.std.proofs.lemmas.Result.{err_from_is_err_and}
use Rattle.types.specs.Given.{constraints_in}
use Rattle.judge.proofs.Entry.{came-in, kept_out}
use Rattle.judge.proofs.inner.judge_set.Goals as goal

pub judge_rest-requires : goal.judge_rest-requires
judge_rest-requires c =
    let a = c.args in
    let s = c.in_ok-given.given in
    let (es, h) = c.requires.entries_slotted in
    let i = came-in a.set.now a.proposal.types.now a.proposal.bounds.now es a.names s.names (constraints_in s) c.in_ok-given.ensures.same
    (c.in_ok-given.ensures.answer es h.many) in
    record {
      set_entered = (constraints_in s, i.known);
      entries_slotted = (es, h);
      few_entries = omega (arith, h.many, i.few);
      work_room = c.requires.work_room;
    }

pub returns : goal.returns
returns c = λ es h.
    let a = c.args in
    let s = c.in_ok-given.given in
    let i = came-in a.set.now a.proposal.types.now a.proposal.bounds.now es a.names s.names (constraints_in s) c.in_ok-given.ensures.same
    (c.in_ok-given.ensures.answer es h.many) in
    c.judge_rest.ensures (constraints_in s) es i.known h ∙ i.rest

pub returns-in_err-given : goal.returns-in_err-given
returns-in_err-given c = λ es h.
    let a = c.args in
    let p = err_from_is_err_and c.from_residual.result c.from_residual.ensures.1 in
    rw (p.1, p.2) (kept_out a.set.now a.proposal.types.now a.proposal.bounds.now es a.names _ (c.in_err-given.ensures.answer es h.many))
