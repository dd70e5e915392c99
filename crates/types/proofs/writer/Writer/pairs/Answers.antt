use Rattle.std.proofs.Common.{arith}
use Rattle.types.proofs.Puts.{falls, sizes, still-next, still-left, still-right}
use Rattle.types.proofs.writer.Writer.pairs.Goals as goal

pub equal-requires : goal.equal-requires
equal-requires c = let i = c.in-Some-Some in omega (arith, c.pairs.invariant.0, sizes _ _ _ i.ensures, sizes _ _ _ i.ensures')

pub pairs-smaller : goal.pairs-smaller
pairs-smaller c =
    let i = c.in-Some-Some in
    omega (arith, falls _ _ _ _ _ i.ensures i.more.trees.1.many c.pairs.ts.trees.1.many)

pub pairs-preserved : goal.pairs-preserved
pairs-preserved c =
    let i = c.in-Some-Some in (
      omega (arith, c.pairs.invariant.0, sizes _ _ _ i.ensures, sizes _ _ _ i.ensures'),
      still-next _ _ _ _ _ _ c.pairs.invariant.1 i.ensures i.ensures' c.equal.ensures,
    )

pub returns-in_default : goal.returns-in_default
returns-in_default c = still-right _ _ _ _ _ _ c.pairs.invariant.1 c.in_default.ensures'

pub returns-in_default-2 : goal.returns-in_default-2
returns-in_default-2 c = still-left _ _ _ _ _ _ c.pairs.invariant.1 c.in_default.ensures
