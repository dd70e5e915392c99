use Rattle.std.proofs.Common.{refl, arith, rules}
use Rattle.solve_finish.proofs.Others.{front-copied}
use Rattle.solve_finish.proofs.inner.copy_others.Goals as goal

pub returns : goal.returns
returns c =
    let k = c.args.constraints.trees.1.ends in
    front-copied _ _ c.args.constraints.trees.0 (omega (arith, k, c.requires)) refl refl c.put_others.ensures (search rules)
