use Rattle.std.proofs.Common.{◌≡◌, drop}
use Rattle.edition_verify.specs.Verifying.{findEntry}
use Rattle.edition_verify.proofs.find.Given as goal

abbrev pub invariant-loop-entry : goal.invariant-loop-entry
invariant-loop-entry l = findEntry l.name (drop l.entry-index l.entries) ≡ findEntry l.name l.entries
