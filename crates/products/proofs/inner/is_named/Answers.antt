-- `products::inner::is_named` meets its contract.
use mathlib.Core.Path.{sym, ◌∙◌}
use native.Mathlib.Omega.{arith}
use Rattle.products.proofs.OnKinds.{named-held, named-index, no_kind}
use Rattle.products.proofs.inner.is_named.Goals as goal

pub returns-in-15 : goal.returns-in-15
returns-in-15 c ν = rw c.in-15.is (sym (named-index ν _ _ (omega arith)))

pub returns-in-11 : goal.returns-in-11
returns-in-11 c ν = c.is_held.ensures ∙ sym (named-held ν _ _ _ (omega arith) (omega arith))

pub returns-in_default : goal.returns-in_default
returns-in_default c ν = rw (no_kind c.args.kind _ (λ e. omega arith) (λ e. omega arith) (λ e. omega arith) (λ e. omega arith))

pub returns-in_default-2 : goal.returns-in_default-2
returns-in_default-2 c ν = rw (no_kind c.args.kind _ (λ e. omega arith) (λ e. omega arith) (λ e. omega arith) (λ e. omega arith))
