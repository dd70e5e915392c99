-- `inner::scan_name` meets its contract: what was read so far.
use mathlib.Core.Path.{refl}
use native.Mathlib.Omega.{arith}
use Rattle.std.proofs.Common.{rules, ◌≡◌, Err, set}
use Rattle.std.proofs.lemmas.Grind.{common_steps}
use Rattle.text_scan.proofs.Names.{starts, goes_on, ends, fails}
use Rattle.text_scan.proofs.inner.scan_name.Goals as goal

pub loop-letter-init : goal.loop-letter-init
loop-letter-init c = record { long = refl; read = starts _ _ _ c.requires }

pub returns-in_err-letter : goal.returns-in_err-letter
returns-in_err-letter c =
    let r : c.from_residual.result ≡ Err c.in_err-letter.field-0.0 = search rules in
    rw r (fails c.loop-letter.invariant.read c.in_err-letter.ensures)

pub loop-letter-preserved : goal.loop-letter-preserved
loop-letter-preserved c =
    let l = c.loop-letter in
    let s : c.if-size-dst.dst ≡ set l.dst l.size c.in-Some.letter.byte = grind (arith, common_steps) in
    let t = rw c.in-Some.is at c.in_ok-letter.ensures in
    record { long = grind (arith, common_steps); read = goes_on l.invariant.read t s }

pub returns : goal.returns
returns c = ends c.loop-letter.invariant.read (rw c.in_default.is at c.in_ok-letter.ensures)
