use Rattle.std.proofs.Common.{arith, ap, ◌∙◌, ◌≡◌, ◌*◌, length, take, drop, take_at, ◌≤◌}
use Rattle.edition_certified.proofs.Judged.{was-kept, was-stopped}
use Rattle.edition.proofs.Sheets.{was-ok, was-err, read-fits}
use Rattle.edition_certified.proofs.inner.read_over.Goals as goal

pub overflow_mul-read : goal.overflow_mul-read
overflow_mul-read c =
    let res-long : length c.deref_mut.result.now ≡ 8192 = omega (arith, c.deref_mut.ensures.len, c.in_ok-res.ensures.len) in
    let work-long : 16384 ≤ length c.deref_mut-2.result.now = omega (arith, c.deref_mut-2.ensures.len, c.in_ok-work.ensures.len) in
    let k = read-fits c.requires c.args.text.now _ _ res-long work-long _ _ _ _ _ c.in-Ok.ensures in
    omega (arith, k, c.read_text.auto.res, res-long)

pub returns-in-Ok : goal.returns-in-Ok
returns-in-Ok c =
    let res-long : length c.deref_mut.result.now ≡ 8192 = omega (arith, c.deref_mut.ensures.len, c.in_ok-res.ensures.len) in
    let work-long : 16384 ≤ length c.deref_mut-2.result.now = omega (arith, c.deref_mut-2.ensures.len, c.in_ok-work.ensures.len) in
    let all-back =
    take_at c.read_text.new.res (drop (length c.read_text.new.res) c.in_ok-res.res.items) c.in_ok-res.res.len
    (omega (arith, c.read_text.auto.res, res-long, c.in_ok-res.ensures.len)) in
    was-kept c.requires c.args.text.now _ _ c.in-Ok.read c.truncate.new.self
    (was-ok c.requires c.args.text.now _ _ res-long work-long _ _ _ _ _ c.in-Ok.ensures _
    (c.truncate.ensures.items ∙ ap (take (c.in-Ok.read.records * 4)) all-back))

pub returns-in-Err : goal.returns-in-Err
returns-in-Err c =
    let res-long : length c.deref_mut.result.now ≡ 8192 = omega (arith, c.deref_mut.ensures.len, c.in_ok-res.ensures.len) in
    let work-long : 16384 ≤ length c.deref_mut-2.result.now = omega (arith, c.deref_mut-2.ensures.len, c.in_ok-work.ensures.len) in
    was-stopped c.requires c.args.text.now _ _ _ c.args.text.now
    (was-err c.requires c.args.text.now _ _ res-long work-long _ _ _ _ _ c.in-Err.ensures c.args.text.now)
