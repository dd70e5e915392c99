-- `reader::name_good` meets its contract.
use Rattle.rules.specs.Names.{table_of}
use mathlib.Core.Path.{refl, sym}
use Rattle.records.proofs.reader.name_good.Goals as goal

pub returns-then-is_held : goal.returns-then-is_held
unfolding table_of
returns-then-is_held c = rw (sym c.if-is_held.ensures) c.name_follows.ensures

pub returns-else-is_held : goal.returns-else-is_held
unfolding table_of
returns-else-is_held c = rw (c.if-is_held.false, sym c.if-is_held.ensures) refl
