-- `inner::accept` meets its contract.
use Rattle.std.proofs.Common.{arith}
use Rattle.solve_finish.proofs.Bounds.{names-known, binds-in, listed-few, accepted-as}
use Rattle.solve_finish.proofs.inner.accept.Goals as goal

pub list_names-k-requires : goal.list_names-k-requires
list_names-k-requires c =
    let (st, k, e) = c.requires.standing in
    let h = k.held in
    record { every = names-known _ _ _ _ st h c.requires.state_room; room = omega arith }

pub copy-requires : goal.copy-requires
copy-requires c =
    let (st, k, e) = c.requires.standing in
    let h = k.held in
    let b = binds-in _ _ _ _ st h c.requires.state_room in
    record { order = b.0; within = b.1; near = omega (arith, h.short) }

pub overflow_sub-ends : goal.overflow_sub-ends
overflow_sub-ends c =
    let (st, k, e) = c.requires.standing in
    let h = k.held in
    (binds-in _ _ _ _ st h c.requires.state_room).0

pub put_bounds-requires : goal.put_bounds-requires
put_bounds-requires c =
    let (st, k, e) = c.requires.standing in
    let h = k.held in
    let f = listed-few _ _ _ _ st h c.requires.state_room e _ _ _ c.list_names-k.ensures c.list_names-k.auto.out in
    record { held = f.0; small = omega (arith, f.1, h.short) }

pub returns : goal.returns
returns c = λ st k e.
    let h = k.held in
    accepted-as _ _ _ _ st h c.requires.state_room e _ _ _ c.list_names-k.ensures _ _ _ c.requires.room c.copy.ensures c.put_bounds.ensures
