-- `inner::read_sheet` meets its contract: what was held is put back.
use mathlib.Core.Path.{sym, ◌∙◌}
use native.Mathlib.Omega.{arith}
use Rattle.std.proofs.Common.{◌≤◌, length, length-take-le}
use Rattle.text_sheet.proofs.Loop.{put-back}
use Rattle.text_sheet.proofs.inner.read_sheet.Goals as goal

pub copy_from_slice-requires : goal.copy_from_slice-requires
copy_from_slice-requires c = omega (arith, length-take-le 8192 c.args.pool.now c.requires.bytes)

pub slice_bounds-copy_from_slice-end-in-Err-2 : goal.slice_bounds-copy_from_slice-end-in-Err-2
slice_bounds-copy_from_slice-end-in-Err-2 c =
    let h : 8192 ≤ length c.read_lines.new.pool = omega (arith, c.requires.bytes, c.read_lines.auto.pool) in
    sym (length-take-le 8192 c.read_lines.new.pool h)

pub copy_from_slice-requires-in-Err : goal.copy_from_slice-requires-in-Err
copy_from_slice-requires-in-Err c =
    let h : 8192 ≤ length c.read_lines.new.pool = omega (arith, c.requires.bytes, c.read_lines.auto.pool) in
    omega (arith, length-take-le 8192 c.read_lines.new.pool h, c.copy_from_slice.ensures.len)

pub slice_bounds-copy_from_slice-end-in-Err-5 : goal.slice_bounds-copy_from_slice-end-in-Err-5
slice_bounds-copy_from_slice-end-in-Err-5 c =
    let h : 257 ≤ length c.read_lines.new.table = omega (arith, c.requires.words, c.read_lines.auto.table) in
    sym (length-take-le 257 c.read_lines.new.table h)

pub copy_from_slice-requires-in-Err-2 : goal.copy_from_slice-requires-in-Err-2
copy_from_slice-requires-in-Err-2 c =
    let h : 257 ≤ length c.read_lines.new.table = omega (arith, c.requires.words, c.read_lines.auto.table) in
    omega (arith, length-take-le 257 c.read_lines.new.table h, c.copy_from_slice-2.ensures.len)

pub returns-in-Err : goal.returns-in-Err
returns-in-Err c =
    let x = c.in-Err.ensures in
    record {
      is = x.is;
      pools = put-back 8192 c.read_lines.new.pool (c.copy_from_slice-in-Err.ensures.after ∙ c.copy_from_slice.ensures.after) x.pool-behind;
      tables = put-back 257 c.read_lines.new.table (c.copy_from_slice-in-Err-2.ensures.after ∙ c.copy_from_slice-2.ensures.after) x.table-behind;
    }
