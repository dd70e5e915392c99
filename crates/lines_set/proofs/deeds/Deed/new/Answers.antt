use native.Mathlib.Omega.{arith}
use Rattle.lines_set.proofs.OnDeeds.{missing-as, taken-as}
use Rattle.lines_set.proofs.deeds.Deed.new.Goals as goal

pub returns-in_default : goal.returns-in_default
returns-in_default c = missing-as _ _ _ c.in-Raise.is (omega (arith, c.in_default.len_below))

pub returns-in_default-stack : goal.returns-in_default-stack
returns-in_default-stack c = missing-as _ _ _ c.in-Join.is (omega (arith, c.in_default-stack.len_below))

pub returns-in_default-stack-2 : goal.returns-in_default-stack-2
returns-in_default-stack-2 c = missing-as _ _ _ c.in-Choose.is (omega (arith, c.in_default-stack-2.len_below))

pub returns-in-Constant : goal.returns-in-Constant
returns-in-Constant c = taken-as _ _ _ c.in-Constant.is (omega arith)

pub returns-in-Reference : goal.returns-in-Reference
returns-in-Reference c = taken-as _ _ _ c.in-Reference.is (omega arith)

pub returns-in-len1-up : goal.returns-in-len1-up
returns-in-len1-up c = taken-as _ _ _ c.in-Raise.is (omega (arith, c.in-len1-up.len_at_least))

pub returns-in-len2-up : goal.returns-in-len2-up
returns-in-len2-up c = taken-as _ _ _ c.in-Join.is (omega (arith, c.in-len2-up.len_at_least))

pub returns-in-len3-up : goal.returns-in-len3-up
returns-in-len3-up c = taken-as _ _ _ c.in-Choose.is (omega (arith, c.in-len3-up.len_at_least))
