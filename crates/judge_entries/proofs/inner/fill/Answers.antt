-- `fill` meets its contract. The invariant: the slots below v fit, are counted and stand in the table.
use mathlib.Core.Path.{sym, ap, ◌∙◌}
use Prim.Native.Nat.{ℕ, ◌+◌}
use Rattle.std.proofs.Common.{add-zero}
use Rattle.judge_entries.proofs.Filling.{bit-yes, bit-no, at-start, one_more}
use Rattle.judge_entries.proofs.inner.fill.Goals as goal
use Rattle.judge_entries.proofs.inner.fill.Goals.{then-is_some, else-is_some}

pub loop-v-init : goal.loop-v-init
loop-v-init c = let a = c.args in at-start a.names.pool.now a.names.table.now a.types.now a.slots.places a.places.now

pub loop-v-preserved : goal.loop-v-preserved
loop-v-preserved c =
    let a = c.args in
    let w = c.in-Some.ensures in
    elim c.if-is_some.branch [
      | then-is_some v ↦ rw c.put.ensures
          (one_more a.names.pool.now a.names.table.now a.types.now a.slots.places a.places.now _ _ _ c.loop-v.invariant c.loop-v-test.true
          c.requires.long _ _ w.1 (v.taken-is ∙ ap (λ (k : ℕ). c.loop-v.taken + k) (bit-yes _ v.if-is_some.ensures)) w.0)
      | else-is_some v ↦ rw c.put.ensures
          (one_more a.names.pool.now a.names.table.now a.types.now a.slots.places a.places.now _ _ _ c.loop-v.invariant c.loop-v-test.true
          c.requires.long _ _ w.1 (v.taken-is ∙ sym (add-zero _) ∙ ap (λ (k : ℕ). c.loop-v.taken + k) (bit-no _ v.if-is_some.ensures)) w.0)
    ]
