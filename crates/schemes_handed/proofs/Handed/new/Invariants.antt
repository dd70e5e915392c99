use Rattle.std.proofs.Common.{◌≡◌, drop}
use Rattle.rules.specs.Base.{all}
use Rattle.schemes_handed.proofs.Numbers.{under}
use Rattle.schemes_handed.proofs.Handed.new.Given as goal

abbrev pub invariant-loop-x : goal.invariant-loop-x
invariant-loop-x l =
    all (under l.names.pool.now l.names.table.now l.numbers) (drop l.x-index l.numbers) ≡ all (under l.names.pool.now l.names.table.now l.numbers) l.numbers
