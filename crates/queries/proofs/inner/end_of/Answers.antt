-- `inner::end_of` meets its contract: the first record says how long the type is.
use Prim.Native.Nat.{ℕ, ◌+◌}
use mathlib.Core.Path.{ap, ◌∙◌}
use native.Mathlib.Omega.{arith}
use Rattle.records.specs.ByView.{ends-in}
use Rattle.records.proofs.Holds.{holds-long}
use Rattle.queries.proofs.inner.end_of.Goals as goal

pub overflow_add-result : goal.overflow_add-result
overflow_add-result c =
    let a = c.args in
    let t = c.requires.0 in
    let h = c.requires.1 in
    omega (arith, c.length_at.ensures, holds-long a.s.now t a.at h, ends-in a.s.now t a.at h)

pub returns : goal.returns
returns c =
    let a = c.args in
    λ t h. ap (λ (n : ℕ). a.at + n) (c.length_at.ensures ∙ holds-long a.s.now t a.at h)
