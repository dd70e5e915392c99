use Rattle.std.proofs.Common.{◌≡◌, List}
use Rattle.rules.specs.Contents.{fieldIn}
use Rattle.rules.specs.Names.{Bytes, numbered}
use Rattle.types.proofs.Fields.find.Given as goal

abbrev pub invariant-fields : goal.invariant-fields
invariant-fields l = (names : List Bytes) → fieldIn (numbered names) l.x l.fields.trees.0 ≡ fieldIn (numbered names) l.x l.fn.self.trees.0

abbrev pub decreases-fields : goal.decreases-fields
decreases-fields l = l.fields.count
