-- `inner::put_bounds` meets its contract. The invariant: writing what is left completes the whole.
use mathlib.Core.Path.{◌≡◌, refl, ap, ◌∙◌}
use mathlib.Core.List.{map}
use Prim.Native.Nat.{ℕ, ◌+◌, ◌*◌}
use native.Mathlib.Omega.{arith}
use lib.ListN.{take}
use lib.Seq.{sets}
use Rattle.rules.specs.Writing.{words}
use Rattle.solve_finish.specs.Told.{boundRec}
use Rattle.solve_finish.proofs.Bounds.{bound-step, bound-none}
use Rattle.solve_finish.proofs.inner.put_bounds.Goals as goal

pub loop-i-init : goal.loop-i-init
loop-i-init c = let a = c.args in (
  refl,
  (
    omega arith,
    ap (λ (j : ℕ). sets a.dst.now (j * 4) (words (map boundRec (take a.k a.names.now))))
        (let z : a.out + 0 ≡ a.out = omega arith in z),
  ),
)

pub loop-i-preserved : goal.loop-i-preserved
loop-i-preserved c =
    let a = c.args in (
      c.put_one.auto.dst ∙ c.loop-i.invariant.0,
      (
        omega arith,
        bound-step a.names.now c.loop-i.dst _ a.k a.out c.loop-i.i c.loop-i-test.true c.requires.held c.put_one.ensures
            c.loop-i.invariant.1.1,
      ),
    )

pub returns : goal.returns
returns c =
    let l = c.loop-i in
    let a = c.args in
    let e : l.i ≡ a.k = omega arith in
    bound-none a.names.now l.dst a.k a.out l.i e ∙ l.invariant.1.1
