use Rattle.std.proofs.Common.{◌≡◌, drop, map, take}
use Rattle.edition_structs.specs.Compared.{differingFrom, differingOf}
use Rattle.edition_structs.specs.Told.{told, Firsts}
use Rattle.edition_structs.proofs.firsts.differing_among.Given as goal

abbrev pub invariant-loop-k : goal.invariant-loop-k
invariant-loop-k l = record {
  firsts : Firsts l.firsts (take l.k (map told l.written));
  told : differingFrom (take l.k (map told l.written)) l.differing.items (drop l.k (map told l.written)) ≡ differingOf (map told l.written);
}
