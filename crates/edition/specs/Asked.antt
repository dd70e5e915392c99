-- What is found of the lines that conflict, from what became of a sheet and from its records.
use Rattle.std.specs.Prelude.{List, ℕ}
use Rattle.std.proofs.Math.Option.{Option, none}
use Rattle.rules.specs.Base.{Got, got}
use Rattle.rules.specs.Conflicts.{Line}
use Rattle.edition_report.specs.declared.pages.Outcome.{Outcome}
use Rattle.edition_report.specs.declared.pages.Outcome.TheVariants as outcome

abbrev pub askedBy : Outcome → Got (Option (List (Line ℕ))) → Got (Option (List (Line ℕ)))
askedBy (outcome.Unseen u) m = got none
askedBy (outcome.Unread e) m = got none
askedBy (outcome.Agrees b n k) m = got none
askedBy (outcome.Denied i) m = got none
askedBy (outcome.Unjudged r) m = got none
askedBy (outcome.Remains e k) m = m
askedBy (outcome.Stops r k) m = got none
