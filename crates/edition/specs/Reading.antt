-- A file that is read: its page, and the names that are left.
use Rattle.std.specs.Prelude.{Result, Ok, Err}
use Rattle.text_sheet.specs.declared.Read.{Read}
use Rattle.text_sheet.specs.declared.NotRead as stop
use Rattle.edition.specs.declared.model.Content as kind
use Rattle.edition.specs.declared.model.Content.TheVariants as content

-- what a text holds, by how it was read
abbrev pub contentOf : Result Read stop.NotRead → kind.Content
contentOf (Ok r) = content.Set r
contentOf (Err e) = content.Refused e
