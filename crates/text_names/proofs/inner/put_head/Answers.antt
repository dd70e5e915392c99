-- `inner::put_head` meets its contract.
use native.Mathlib.Omega.{arith}
use Rattle.text_names.proofs.Stands.{head-put}
use Rattle.text_names.proofs.inner.put_head.Goals as goal

pub overflow_sub-behind : goal.overflow_sub-behind
overflow_sub-behind c = (c.requires _ _ _ _ c.in-Ok.is c.in-Ok-r.is).0

pub put_record-requires : goal.put_record-requires
put_record-requires c =
    let h = c.requires _ _ _ _ c.in-Ok.is c.in-Ok-r.is in
    omega arith

pub returns : goal.returns
returns c =
    let h = c.requires _ _ _ _ c.in-Ok.is c.in-Ok-r.is in
    head-put c.args.v c.args.s c.args.r c.args.dst.now c.in-Ok.is c.in-Ok-r.is h.1 c.put_record.ensures
