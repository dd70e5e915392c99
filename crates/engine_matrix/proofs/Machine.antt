-- What follows from the definitions of specs/Machine: what a machine has yet to do, and what a step does to that.
use Rattle.std.specs.Prelude.{◌≡◌, ℕ, List, ◌++◌, ◌<◌, ◌≤◌, length, take, get_or}
use Rattle.std.proofs.Math.Path.{ap}
use Rattle.std.proofs.Common.{◌∙◌, append_assoc, arith, length-append, length-take-le, get_or-take}
use Rattle.std.proofs.Math.ListN.{get_or-append}
use Rattle.engine_matrix.specs.declared.inner.parts.Columns.{Columns}
use Rattle.engine_matrix.specs.Machine.{namesIn}

pub columns-few : (k : Columns) → k.len ≤ 48
columns-few k = omega (arith, k.few_variables, k.few_others, k.all)

pub names-long : (k : Columns) → length (namesIn k) ≡ k.len
names-long k =
    omega (
      arith,
      length-append (take k.variables k.vars ++ take k.parameters k.pars) (take k.dimensions k.bases),
      length-append (take k.variables k.vars) (take k.parameters k.pars),
      length-take-le k.variables k.vars (omega (arith, k.vars_long, k.few_variables)),
      length-take-le k.parameters k.pars (omega (arith, k.pars_long, k.few_others)),
      length-take-le k.dimensions k.bases (omega (arith, k.bases_long, k.few_others)),
      k.all,
    )

-- a variable's name
pub variable-name : (k : Columns) (j : ℕ) → j < k.variables → get_or (namesIn k) j 0 ≡ get_or k.vars j 0
variable-name k j h =
    let n = length-take-le k.variables k.vars (omega (arith, k.vars_long, k.few_variables)) in
    ap (λ (xs : List ℕ). get_or xs j 0) (append_assoc (take k.variables k.vars) (take k.parameters k.pars) (take k.dimensions k.bases))
    ∙ get_or-append (take k.variables k.vars) (take k.parameters k.pars ++ take k.dimensions k.bases) 0 j (omega (arith, n))
    ∙ get_or-take k.variables k.vars j 0 h
