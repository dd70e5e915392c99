-- `read_one` meets its contract: the records stand at the front of the result.
use native.Mathlib.Omega.{arith}
use Rattle.std.proofs.Common.{sym, length-take-le}
use Rattle.edition.proofs.Sheets.{was-ok, was-err, read-fits}
use Rattle.edition.proofs.intake.read_one.Goals as goal

pub overflow_mul-end : goal.overflow_mul-end
overflow_mul-end c =
    let k = read-fits c.requires.good c.args.text.now c.args.res.now c.args.work.now c.requires.result_room c.requires.room _ _ _ _ _ c.in-Ok.ensures in
    omega (arith, k, c.read_text.auto.res, c.requires.result_room)

pub slice_bounds-from_slice-end : goal.slice_bounds-from_slice-end
slice_bounds-from_slice-end c =
    read-fits c.requires.good c.args.text.now c.args.res.now c.args.work.now c.requires.result_room c.requires.room _ _ _ _ _ c.in-Ok.ensures

pub slice_bounds-from_slice-end-in-Ok : goal.slice_bounds-from_slice-end-in-Ok
slice_bounds-from_slice-end-in-Ok c =
    let k = read-fits c.requires.good c.args.text.now c.args.res.now c.args.work.now c.requires.result_room c.requires.room _ _ _ _ _ c.in-Ok.ensures in
    sym (length-take-le _ _ k)

pub returns-in_ok-records-in-Ok : goal.returns-in_ok-records-in-Ok
returns-in_ok-records-in-Ok c = record {
  read = was-ok c.requires.good c.args.text.now c.args.res.now c.args.work.now c.requires.result_room c.requires.room _ _ _ _ _ c.in-Ok.ensures _
      c.in_ok-records-in-Ok.ensures.items;
}

pub returns-in-Err : goal.returns-in-Err
returns-in-Err c = record {
  read = was-err c.requires.good c.args.text.now c.args.res.now c.args.work.now c.requires.result_room c.requires.room _ _ _ _ _ c.in-Err.ensures
      c.new.result.items;
}
