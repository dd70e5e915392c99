-- `inner::finish` meets its contract.
use Rattle.std.proofs.Common.{arith}
use Rattle.solve_finish.proofs.Bounds.{binds-in, of-state, finished-remaining, none-remains, finished-accepted}
use Rattle.solve_finish.proofs.inner.finish.Goals as goal

pub invariant_of-copy_others : goal.invariant_of-copy_others
invariant_of-copy_others c =
    let (st, k) = c.requires.standing in
    let h = k.held in
    record { near = omega (arith, c.requires.near); trees = (st.cons, h.cons) }

pub returns-then-left-gt0 : goal.returns-then-left-gt0
returns-then-left-gt0 c = λ st k.
    let h = k.held in
    let b = binds-in _ _ _ _ st h c.requires.state_room in
    finished-remaining _ _ st _ _ _ (of-state _ _ _ _ st h c.requires.state_room c.copy_others-left.ensures (search)) c.if-left-gt0.true
    (omega (arith, h.short, b.0, h.cons.ends)) c.requires.room h.sound_cons.good

pub accept-bounds-requires-clause-standing : goal.accept-bounds-requires-clause-standing
accept-bounds-requires-clause-standing c =
    let (st, k) = c.requires.standing in
    let o = of-state _ _ _ _ st k.held c.requires.state_room c.copy_others-left.ensures (search) in
    (st, k, (none-remains _ _ _ _ o c.if-left-gt0.false).0)

pub returns : goal.returns
returns c = λ st k.
    let h = k.held in
    let r = none-remains _ _ _ _ (of-state _ _ _ _ st h c.requires.state_room c.copy_others-left.ensures (search)) c.if-left-gt0.false in
    finished-accepted _ _ _ _ st _ _ _ _ h r.0 r.1 (c.accept-bounds.ensures st k r.0)
