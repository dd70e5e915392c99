-- `inner::atom_at` meets its contract.
use mathlib.Core.Path.{ap, ◌∙◌, sym}
use Prim.Native.Nat.{ℕ, ◌-◌}
use native.Mathlib.Omega.{arith}
use Rattle.rules.specs.Trees.{var, par, free, base}
use Rattle.engine_matrix.specs.Machine.{namesIn, colsIn}
use Rattle.engine_matrix.proofs.Machine.{names-long, variable-name}
use Rattle.engine_rows.proofs.Atoms.{column-variable, column-parameter, column-base, parameter-name, base-name}
use Rattle.engine_rows.proofs.inner.atom_at.Goals as goal

pub returns-then-j-k : goal.returns-then-j-k
unfolding colsIn
returns-then-j-k c =
    let k = c.args.k in
    sym (column-variable (base 0) k.variables k.parameters (namesIn k) c.args.j (omega (arith, names-long k)) (omega arith)
    ∙ ap (λ (x : ℕ). free (var x)) (variable-name k c.args.j c.if-j-k.true))

pub returns-then-i-k : goal.returns-then-i-k
unfolding colsIn
returns-then-i-k c =
    let k = c.args.k in
    sym (column-parameter (base 0) k.variables k.parameters (namesIn k) c.args.j (omega (arith, names-long k)) (omega arith) (omega arith)
    ∙ ap (λ (x : ℕ). free (par x)) (parameter-name k c.args.j (c.args.j - k.variables) (omega arith) c.if-i-k.true))

pub returns : goal.returns
unfolding colsIn
returns c =
    let k = c.args.k in
    sym (column-base (base 0) k.variables k.parameters (namesIn k) c.args.j (omega (arith, names-long k)) (omega arith)
    ∙ ap base (base-name k c.args.j (c.args.j - k.variables - k.parameters) (omega arith) (omega (arith, k.all))))
