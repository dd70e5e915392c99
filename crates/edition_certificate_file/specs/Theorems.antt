-- What a certificate's file is worth as a form: what is written is read back, and nothing else is read.
use Rattle.std.specs.Prelude.{◌≡◌, true, ◌+◌, List, ◌∷◌, ◌++◌, Ok, Err}
use Rattle.std.specs.List.{count_by}
use Rattle.rules.specs.Base.{collect}
use Rattle.rules.specs.Names.{Bytes}
use Rattle.laws.specs.Lists.{Every}
use Rattle.edition_certificate_file.specs.declared.Fault.TheVariants.{Line}
use Rattle.edition_certificate_file.specs.Files.{Kept, writtenName, keptText, keptsText}
use Rattle.edition_certificate_file.specs.Reading.{isKept, lineFeed, certificateRead}
use Rattle.edition_certificate_file.specs.Writable.{onOneLine, isIndented, indentedLine, allWritable}

pub record WrittenIsRead : Type 0 where
  -- what is written of writable sheets is read to the same sheets
  pub back : (ks : List Kept) → allWritable ks ≡ true → certificateRead (keptsText ks) ≡ Ok ks
  -- so a text is that of one list of sheets at the most
  pub one-list : (ks js : List Kept) → allWritable ks ≡ true → allWritable js ≡ true → keptsText ks ≡ keptsText js → ks ≡ js
  -- a name as it is written never ends its line, whatever it was made of
  pub names : (name : Bytes) → onOneLine (writtenName name) ≡ true
  -- lines that were put behind two blanks and before a line feed may stand there
  pub lines : (ls : List Bytes) → Every (λ line. onOneLine line ≡ true) ls → isIndented (collect indentedLine ls) ≡ true
  -- of two sheets with one name, the line that names the second is refused: what stands in front of it is the first line, and the sheets before
  pub twice : (ks : List Kept) (k : Kept) (js : List Kept) → allWritable ks ≡ true → onOneLine k.name ≡ true → isKept k.name ks ≡ true
      → certificateRead (keptsText (ks ++ k ∷ js)) ≡ Err (Line (2 + count_by lineFeed (collect keptText ks)))

-- what is read is what its sheets are written as, and they are writable
abbrev pub Written : Bytes → List Kept → Type 0
Written text ks = (text ≡ keptsText ks) × (allWritable ks ≡ true)

abbrev pub OnlyWrittenIsRead : Type 0
OnlyWrittenIsRead = (text : Bytes) (ks : List Kept) → certificateRead text ≡ Ok ks → Written text ks
