use Rattle.std.proofs.Common.{◌≤◌}
use Rattle.edition_notes.proofs.notes.Notes.push.Given as goal

abbrev pub invariant-notes : goal.invariant-notes
invariant-notes l = l.initial.self.count ≤ l.self.count
