-- `inner::put_word` meets its contract: four stores in a row.
use Rattle.std.proofs.Common.{refl}
use Rattle.rescue.proofs.Steps.{four_bytes}
use Rattle.rescue.proofs.inner.put_word.Goals as goal

pub returns : goal.returns
returns c =
    let a = c.args in
    four_bytes a.dst.now c.put.new.dst c.put-2.new.dst c.put-3.new.dst c.put-4.new.dst a.i a.w _ _ _ _ refl refl refl refl
    c.put.ensures c.put-2.ensures c.put-3.ensures c.put-4.ensures
