-- `solve_all` meets its contract.
use mathlib.Core.Path.{◌≡◌, refl, sym, ap, ◌∙◌}
use Rattle.rules.specs.Base.{got, bounded}
use Rattle.rules.specs.Calls.{solvedSet}
use Rattle.rules.specs.Names.{numbersOf}
use Rattle.rules.specs.Solving.{solve}
use Rattle.rules.specs.Refusals.{told}
use Rattle.types.proofs.Entering.{over_tested}
use Rattle.solve_batch.proofs.Steps.{finished-as}
use Rattle.rules.specs.Batches.{batchFits}
use Rattle.solve_batch.proofs.Checks.{Room, roomy, cramped, begun, call-short, call-unfit, called}
use mathlib.Core.Bool.{not}
use Rattle.solve_batch.proofs.solve_all.Goals as goal

pub returns-then-not-all_lent : goal.returns-then-not-all_lent
returns-then-not-all_lent c = call-short _ _ _ _ _ _ _ (cramped _ _ _ _ _ _ c.all_lent.result c.all_lent.ensures (ap not c.if-not-all_lent.true))

pub solve_each-n-requires : goal.solve_each-n-requires
solve_each-n-requires c = let enough : Room c.args.pool.now c.args.table.now c.args.lengths.now c.args.res.now c.args.answers.now c.args.work.now =
    roomy _ _ _ _ _ _ c.all_lent.result c.all_lent.ensures (ap not c.if-not-all_lent.false) in
    let added : batchFits c.args.sets.now c.args.lengths.now ≡ got tt = sym c.fits.ensures ∙ ap told c.in-Ok.is in
    let r = enough in
    record { begun = begun _ _ _ _ _ r.results r.answered r.works (added) }

pub returns-in-Ok : goal.returns-in-Ok
unfolding solvedSet
returns-in-Ok c = let enough : Room c.args.pool.now c.args.table.now c.args.lengths.now c.args.res.now c.args.answers.now c.args.work.now =
    roomy _ _ _ _ _ _ c.all_lent.result c.all_lent.ensures (ap not c.if-not-all_lent.false) in
    let added : batchFits c.args.sets.now c.args.lengths.now ≡ got tt = sym c.fits.ensures ∙ ap told c.in-Ok.is in
    let over = over_tested (λ t cs. got (solve (numbersOf t) bounded cs)) c.args.pool.now c.args.table.now (enough).table-met _
    c.new-names.ensures.answer c.new-names.ensures.same in
    called _ _ _ _ _ _ _ _ c.solve_each-n.new.work _ _ _ c.solve_each-n.auto.work (enough).met (added)
    (finished-as _ _ _ _ _ _ _ _ _ over c.solve_each-n.ensures) c.clear.ensures

pub returns-in-Err : goal.returns-in-Err
returns-in-Err c = let enough : Room c.args.pool.now c.args.table.now c.args.lengths.now c.args.res.now c.args.answers.now c.args.work.now =
    roomy _ _ _ _ _ _ c.all_lent.result c.all_lent.ensures (ap not c.if-not-all_lent.false) in
    let e = sym c.fits.ensures ∙ ap told c.in-Err.is in
    call-unfit _ _ _ _ _ _ _ _ c.args.work.now _ refl (enough).met e c.clear-in-Err.ensures
