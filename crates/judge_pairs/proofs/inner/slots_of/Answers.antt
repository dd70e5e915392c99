-- Each name is noted.
use mathlib.Core.Path.{◌≡◌, refl, subst}
use mathlib.Core.List.{List}
use Prim.Native.Nat.{ℕ}
use native.Mathlib.Omega.{arith}
use Rattle.std.specs.Prelude.{Option}
use Rattle.judge_entries.specs.Entries.{notedBelow}
use Rattle.judge_entries.proofs.Counting.{noted-more}
use Rattle.judge_pairs.specs.Pairs.{entriesIn}
use Rattle.judge_pairs.proofs.Turns.{count}
use Rattle.judge_pairs.proofs.inner.slots_of.Goals as goal

all-noted : (ws : List ℕ) (places : List (Option ℕ)) (v : ℕ) → v ≡ 256 → places ≡ notedBelow (entriesIn ws) v → places ≡ notedBelow (entriesIn ws) 256
all-noted ws places v e h = subst (λ (k : ℕ). places ≡ notedBelow (entriesIn ws) k) e h

pub loop-v-init : goal.loop-v-init
unfolding notedBelow
loop-v-init c = refl

pub loop-v-preserved : goal.loop-v-preserved
loop-v-preserved c = noted-more (entriesIn c.args.pairs.now) c.loop-v.v c.loop-v.places c.look_up.result c.loop-v.invariant c.look_up.ensures

pub returns-then-count-le-RECORDS : goal.returns-then-count-le-RECORDS
returns-then-count-le-RECORDS c =
    let ws = c.args.pairs.now in
    record { slots = all-noted ws _ c.loop-v.v (omega arith) c.loop-v.invariant; again = λ few. c.repeats.ensures; many = count ws }

pub returns-else-count-le-RECORDS : goal.returns-else-count-le-RECORDS
returns-else-count-le-RECORDS c =
    let ws = c.args.pairs.now in
    record {
      slots = all-noted ws _ c.loop-v.v (omega arith) c.loop-v.invariant;
      again = λ few. absurd (omega (arith, few, c.if-count-le-RECORDS.false));
      many = count ws;
    }
