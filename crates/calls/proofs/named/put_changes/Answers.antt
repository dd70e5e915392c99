use mathlib.Core.Path.{◌≡◌, refl}
use Prim.Native.Nat.{◌-◌}
use native.Mathlib.Omega.{arith}
use lib.ListN.{length, get_or}
use Rattle.calls.proofs.Changed.{stored-on, counted-on, stored-end, counted-end, few}
use Rattle.calls.proofs.named.put_changes.Goals as goal

pub loop-i-init : goal.loop-i-init
loop-i-init c =
    let z : length c.args.after.now - 0 ≡ length c.args.after.now = omega arith in
    rw z (omega arith, refl, refl)

pub loop-i-preserved : goal.loop-i-preserved
loop-i-preserved c =
    let l = c.loop-i in
    let b = c.args.before.now in
    let a = c.args.after.now in
    let p = c.put_change-next.ensures.past in
    rw p (
      omega (arith, l.invariant.0, few l.i (get_or b l.i 0) (get_or a l.i 0)),
      stored-on b a _ _ l.i (length a) l.next c.loop-i-test.true c.put_change-next.ensures.written l.invariant.1,
      counted-on b a l.i (length a) l.next c.loop-i-test.true l.invariant.2,
    )

pub returns : goal.returns
returns c =
    let l = c.loop-i in
    let b = c.args.before.now in
    let a = c.args.after.now in
    record {
      written = stored-end b a l.res l.i (length a) l.next c.loop-i-test.false l.invariant.1;
      past = counted-end b a l.i (length a) l.next c.loop-i-test.false l.invariant.2;
      few = omega (arith, l.invariant.0, c.loop-i.auto.i-end);
    }
