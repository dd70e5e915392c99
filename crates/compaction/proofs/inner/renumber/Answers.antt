-- `inner::renumber` meets its contract.
use native.Mathlib.Omega.{arith}
use mathlib.Core.Path.{◌≡◌, refl, sym, ap, ◌∙◌}
use mathlib.Core.List.{◌++◌}
use Prim.Native.Nat.{ℕ, ◌+◌, ◌*◌}
use lib.ListN.{set, take, drop, length-set}
use Rattle.rules.specs.Compaction.{renumbered}
use Rattle.compaction.specs.Told.{marks}
use Rattle.compaction.proofs.Marks.{renumber-step, renumber-end}
use Rattle.compaction.proofs.inner.renumber.Goals as goal

pub numbers-requires : goal.numbers-requires
numbers-requires c = record { places = c.requires; room = refl }

pub loop-i-init : goal.loop-i-init
loop-i-init c = (refl, refl)

pub loop-i-preserved : goal.loop-i-preserved
loop-i-preserved c =
    let l = c.loop-i in
    let s' = set l.s (l.i * 4 + 1) c.new_word.result in
    let next : (l.i + 1) * 4 ≡ l.i * 4 + 4 = omega arith in (
      simp length-set l.invariant.0,
      ap (λ (j : ℕ). take j s' ++ renumbered (marks c.args.m.now) (drop j s')) next
          ∙ renumber-step (marks c.args.m.now) l.s (l.i * 4) _ (omega (arith, c.loop-i-test.true, l.invariant.0)) c.new_word.ensures ∙ l.invariant.1,
    )

pub shape_of-s : goal.shape_of-s
shape_of-s c = c.loop-i.invariant.0

pub returns : goal.returns
returns c = let l = c.loop-i in sym (renumber-end (marks c.args.m.now) l.s (l.i * 4) (omega (arith, c.loop-i-test.false, l.invariant.0))) ∙ l.invariant.1
