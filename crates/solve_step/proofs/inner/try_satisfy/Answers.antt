use Rattle.std.proofs.Common.{◌≤◌, arith, rules}
use Rattle.solve_step.proofs.Short.{step-short, stepped}
use Rattle.solve_step.proofs.inner.try_satisfy.Goals as goal

pub returns : goal.returns
returns c =
    let a = c.args in
    let small : a.out ≤ 1_000_000_000 = omega (arith, c.requires.small) in
    stepped _ _ _ small (λ s e. step-short a.names.pool.now a.names.table.now a.c.tree.0 s c.requires.good c.requires.short e) c.satisfy.ensures (search rules)
