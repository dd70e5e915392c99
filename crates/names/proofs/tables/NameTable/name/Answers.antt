-- A held number's name is its part of the pool; past the last number the rules read the empty name.
use mathlib.Core.Path.{sym}
use native.Mathlib.Omega.{arith}
use Rattle.std.proofs.lemmas.List.{get_or_past}
use borrow.Author.Rules.{rules}
use lib.ListN.{get_or}
use Prim.Native.Nat.{◌≤◌}
use Rattle.rules.specs.Names.{table_of, names_of}
use Rattle.laws.proofs.NameTable.{good-laid, length-names}
use Rattle.names.proofs.tables.NameTable.name.Goals as goal

pub name_at-requires-clause-laid : goal.name_at-requires-clause-laid
name_at-requires-clause-laid c = good-laid c.args.self.good

pub returns-else-is_held : goal.returns-else-is_held
returns-else-is_held c =
    let s = c.args.self in
    let past : get_or s.table.now 0 0 ≤ c.args.i = search rules in
    sym (get_or_past (names_of (table_of s.pool.now s.table.now)) c.args.i _ (omega (arith, past, length-names (good-laid s.good))))
