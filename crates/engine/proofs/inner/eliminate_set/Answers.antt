-- `inner::eliminate_set` meets its contract.
use Rattle.std.proofs.Common.{sym, ◌∙◌, arith}
use Rattle.std.proofs.lemmas.Result.{err_from_is_err_and}
use Rattle.records.specs.Found.{Words32}
use Rattle.types.specs.Given.{constraints_in}
use Rattle.types.proofs.Entering.{entered-given}
use Rattle.engine.proofs.Entry.{came-in, kept_out, answers-as, stands, set-held, reduced-set}
use Rattle.engine.proofs.Written.{refused-answers}
use Rattle.engine.proofs.inner.eliminate_set.Goals as goal

pub returns-in_err-given : goal.returns-in_err-given
returns-in_err-given c =
    let p = err_from_is_err_and c.from_residual.result c.from_residual.ensures.1 in
    rw (p.1, p.2) (refused-answers _ _ _ (kept_out _ _ _ c.in_err-given.ensures.answer))

pub invariant_of-set : goal.invariant_of-set
invariant_of-set c =
    let w : Words32 c.args.words.now = record { word = λ i. (c.type_inv.words i).fits } in
    let s = c.in_ok-given.given in
    let x = entered-given _ _ s c.in_ok-given.ensures.same c.in_ok-given.ensures.answer in
    record { near = omega (arith, x.short); trees = (constraints_in s, stands _ w s x) }

pub reduce-requires : goal.reduce-requires
reduce-requires c =
    let w : Words32 c.args.words.now = record { word = λ i. (c.type_inv.words i).fits } in
    let s = c.in_ok-given.given in
    record { set_held = set-held _ w s (entered-given _ _ s c.in_ok-given.ensures.same c.in_ok-given.ensures.answer) _ (search) }

pub returns-in_err-reduced : goal.returns-in_err-reduced
returns-in_err-reduced c =
    let w : Words32 c.args.words.now = record { word = λ i. (c.type_inv.words i).fits } in
    let s = c.in_ok-given.given in
    let x = entered-given _ _ s c.in_ok-given.ensures.same c.in_ok-given.ensures.answer in
    let p = err_from_is_err_and c.from_residual-in_err-reduced.result c.from_residual-in_err-reduced.ensures.1 in
    rw (p.1, p.2) (refused-answers _ _ _ (came-in _ _ s c.in_ok-given.ensures.same c.in_ok-given.ensures.answer
    ∙ sym (reduced-set _ w s x _ (search) c.in_err-reduced.ensures)))

pub returns : goal.returns
returns c =
    let w : Words32 c.args.words.now = record { word = λ i. (c.type_inv.words i).fits } in
    let s = c.in_ok-given.given in
    let x = entered-given _ _ s c.in_ok-given.ensures.same c.in_ok-given.ensures.answer in
    answers-as _ _ _ _ _ (came-in _ _ s c.in_ok-given.ensures.same c.in_ok-given.ensures.answer
    ∙ sym (reduced-set _ w s x _ (search) c.in_ok-reduced.ensures))
    c.write.ensures
