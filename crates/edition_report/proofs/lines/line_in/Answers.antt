-- `line_in` meets its contract: lines are left behind one after another.
use Rattle.std.proofs.Common.{refl}
use Rattle.edition_report.proofs.Ahead.{at-first}
use Rattle.edition_report.proofs.lines.line_in.Goals as goal

pub loop-before-init : goal.loop-before-init
loop-before-init c = at-first c.args.text.now c.args.number _ refl
