-- `inner::rows::first_in` meets its contract. The invariant: every power that was passed is 0.
use mathlib.Core.Path.{ap, ◌∙◌, sym}
use native.Mathlib.Omega.{arith}
use Rattle.rules.specs.Exponents.{isZero}
use Rattle.engine_matrix.specs.Told.{row_in}
use Rattle.engine_matrix.proofs.Loops.{zeros-more}
use Rattle.engine_matrix.proofs.inner.rows.first_in.Goals as goal

pub returns-then-not-is_zero : goal.returns-then-not-is_zero
returns-then-not-is_zero c =
    record {
      most = omega arith;
      zeros = c.loop-j.invariant;
      there = λ h. ap isZero (sym c.power_at.ensures) ∙ sym c.is_zero.ensures ∙ c.if-not-is_zero.true;
    }

pub loop-j-preserved : goal.loop-j-preserved
loop-j-preserved c =
    zeros-more (row_in c.args.r) c.loop-j.j c.loop-j.invariant (ap isZero (sym c.power_at.ensures) ∙ sym c.is_zero.ensures ∙ c.if-not-is_zero.false)

pub returns : goal.returns
returns c = record { most = omega arith; zeros = λ i h. c.loop-j.invariant i (omega arith); there = λ h. absurd (omega arith) }
