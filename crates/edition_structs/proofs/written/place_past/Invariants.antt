use Rattle.std.proofs.Common.{◌≡◌, ◌/◌, ◌≤◌, length}
use Rattle.edition_structs.specs.Structs.{past}
use Rattle.edition_structs.proofs.written.place_past.Given as goal

abbrev pub invariant-loop : goal.invariant-loop
invariant-loop l = record { is : l.end ≡ past l.records l.at l.counter; within : l.end ≤ length l.records / 4 }
