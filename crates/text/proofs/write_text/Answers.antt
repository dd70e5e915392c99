-- `write_text` meets its contract.
use Rattle.std.specs.Prelude.{◌≤◌, length}
use Rattle.std.proofs.Common.{arith, sym}
use Rattle.std.proofs.lemmas.Result.{err_from_is_err_and}
use Rattle.text.proofs.Whole.{set-in, text-refused, text-short}
use Rattle.text.proofs.write_text.Goals as goal

pub returns-then-text-lt-TEXT_BYTES : goal.returns-then-text-lt-TEXT_BYTES
returns-then-text-lt-TEXT_BYTES c =
    sym (text-short c.args.pool.now c.args.table.now c.args.set.now c.args.text.now (omega (arith, c.if-text-lt-TEXT_BYTES.true)))

pub invariant_of-names : goal.invariant_of-names
invariant_of-names c =
    let a = c.args in
    let room : 354304 ≤ length a.text.now = omega (arith, c.if-text-lt-TEXT_BYTES.false) in
    let x = set-in a.pool.now a.table.now a.set.now a.text.now room (record { word = λ i. (c.type_inv.set i).fits }) (sym c.in_ok-is_set.ensures) in
    record { good = x.1.good }

pub write_good-requires : goal.write_good-requires
write_good-requires c = record { room = omega (arith, c.if-text-lt-TEXT_BYTES.false); good = sym c.in_ok-is_set.ensures }

pub returns-in_err-is_set : goal.returns-in_err-is_set
returns-in_err-is_set c =
    let room : 354304 ≤ length c.args.text.now = omega (arith, c.if-text-lt-TEXT_BYTES.false) in
    let p = err_from_is_err_and c.from_residual.result c.from_residual.ensures.1 in
    rw (p.1, p.2) (sym (text-refused c.args.pool.now c.args.table.now c.args.set.now c.args.text.now room _ (sym c.in_err-is_set.ensures)))
