-- `inner::type_line` meets its contract.
use native.Mathlib.Omega.{arith}
use Rattle.std.proofs.Common.{refl, rules}
use lib.ListN.{length-replicate}
use Prim.Native.Nat.{ℕ}
use Rattle.lines_entry.proofs.Told.{steps-long}
use Rattle.lines.proofs.Standing.{set-stands, set-large}
use Rattle.lines.proofs.Whole.{cs-good, cs-flat, step-there, type-made, large-made}
use Rattle.lines.proofs.inner.type_line.Goals as goal

pub returns-then-n-gt-RECORDS : goal.returns-then-n-gt-RECORDS
returns-then-n-gt-RECORDS c =
    let h = c.requires.read in
    let g = c.args.names.good in
    large-made _ _ _ g _ h _ (set-large _ _ _ (cs-good _ _ _ g _ h) (cs-flat _ _ _ g _ h) _ _ c.put_line.ensures refl c.if-n-gt-RECORDS.true)

pub overflow_sub-v : goal.overflow_sub-v
overflow_sub-v c = omega (arith, step-there _ _ _ c.args.names.good _ c.requires.read, steps-long c.args.steps.now)

pub bounds-lent-steps : goal.bounds-lent-steps
bounds-lent-steps c =
    omega (arith, step-there _ _ _ c.args.names.good _ c.requires.read, steps-long c.args.steps.now, c.requires.read.enough)

pub settle-requires-clause-stands : goal.settle-requires-clause-stands
settle-requires-clause-stands c =
    let h = c.requires.read in
    let g = c.args.names.good in (
      _,
      set-stands _ _ _ (cs-good _ _ _ g _ h) (cs-flat _ _ _ g _ h) _ _ c.put_line.ensures refl c.if-n-gt-RECORDS.false
          (omega (arith, length-replicate {A = ℕ} 8192 0)) _ (search rules),
    )

pub returns : goal.returns
returns c =
    let h = c.requires.read in
    let g = c.args.names.good in
    type-made _ _ _ g _ h _ (steps-long c.args.steps.now) _ _ (c.settle.ensures _
    (set-stands _ _ _ (cs-good _ _ _ g _ h) (cs-flat _ _ _ g _ h) _ _ c.put_line.ensures refl c.if-n-gt-RECORDS.false
    (omega (arith, length-replicate {A = ℕ} 8192 0)) _ (search rules)))
