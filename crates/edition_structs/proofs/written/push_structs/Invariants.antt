use Rattle.std.proofs.Common.{◌≡◌, ◌≤◌, ◌++◌, map}
use Rattle.edition_structs.specs.Structs.{begun, structsTo}
use Rattle.edition_structs.specs.Told.{told}
use Rattle.edition_structs.proofs.written.push_structs.Given as goal

abbrev pub invariant-loop-at : goal.invariant-loop-at
invariant-loop-at l = record {
  found : map told l.written.items ≡ map told l.initial.written.items ++ structsTo l.sheet l.records l.at;
  counted : l.constraint ≡ begun l.records l.at;
  within : l.constraint ≤ l.at;
}
