-- `word_at` meets its contract.
use mathlib.Core.Path.{sym}
use native.Mathlib.Omega.{arith}
use lib.ListN.{get_or-eq_default}
use Rattle.names.proofs.inner.word_at.Goals as goal

pub returns-else-i-table : goal.returns-else-i-table
returns-else-i-table c = sym (get_or-eq_default c.args.table.now 0 (omega (arith, c.if-i-table.false)))
