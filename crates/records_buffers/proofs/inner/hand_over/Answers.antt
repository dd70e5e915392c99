-- `inner::hand_over` meets its contract.
use mathlib.Core.Path.{◌∙◌}
use native.Mathlib.Omega.{arith}
use Rattle.records_buffers.proofs.Handed.{stood, copied, left}
use Rattle.records_buffers.proofs.inner.hand_over.Goals as goal
use Rattle.records_buffers.proofs.inner.hand_over.Goals.{in-Ok, in_default}

pub copy-requires : goal.copy-requires
copy-requires c =
    let p = c.requires in
    let s = stood p.made.0 _ _ c.in-Ok.is p.made.1 in
    let few = s.front.few in
    let room = s.front.room in
    record { order = omega arith; within = omega (arith, room, s.many); near = omega (arith, few, s.many) }

pub returns : goal.returns
returns c = λ m h. elim c.match-made.branch [
  | in-Ok w ↦ rw (w.made-is, w.res-is) (copied m _ _ _ _ _ w.in-Ok.is h c.requires.room w.copy.ensures c.clear.ensures)
  | in_default w ↦ rw (w.made-is ∙ w.in_default.is, w.res-is) (left m _ _ _ _ w.in_default.is h c.clear.ensures)
]
