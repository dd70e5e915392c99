-- `inner::escape_at` meets its contract.
use native.Mathlib.Omega.{arith}
use Rattle.std.proofs.Common.{rules, ◌≡◌, Err}
use Rattle.text_scan.proofs.Scanned.{hex-below, first-bad, second-bad, both-digits}
use Rattle.text_scan.proofs.inner.escape_at.Goals as goal

pub returns-in_err-high : goal.returns-in_err-high
returns-in_err-high c =
    let r : c.from_residual.result ≡ Err c.in_err-high.field-0.0 = search rules in
    let e = c.in_err-high.ensures in
    rw (r, e.0) (first-bad _ _ c.requires.within c.requires.backslash e.1)

pub returns-in_err-low : goal.returns-in_err-low
returns-in_err-low c =
    let r : c.from_residual-in_err-low.result ≡ Err c.in_err-low.field-0.0 = search rules in
    let e = c.in_err-low.ensures in
    let h = c.in_ok-high.ensures in
    rw (r, e.0) (second-bad _ _ c.requires.within _ c.requires.backslash h.0 h.1 e.1)

pub overflow_mul-result : goal.overflow_mul-result
overflow_mul-result c = omega (arith, hex-below _ _ c.in_ok-high.ensures.1)

pub overflow_add-result : goal.overflow_add-result
overflow_add-result c = omega (arith, hex-below _ _ c.in_ok-high.ensures.1, hex-below _ _ c.in_ok-low.ensures.1)

pub returns : goal.returns
returns c =
    both-digits _ _ c.requires.within _ _ c.requires.backslash c.in_ok-low.ensures.0 c.in_ok-high.ensures.1 c.in_ok-low.ensures.1
