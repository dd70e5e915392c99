-- A certificate's file: of each sheet that is kept the name of its file, the file's digest, and lines over the sheet's names.
use Rattle.std.specs.Prelude.{◌≡◌, Bool, true, false, ◌||◌, ℕ, ltb, eqb, List, [], ◌∷◌, ◌++◌, length, map, Result, Ok, Err, Vec, ⊤}
use Rattle.std.specs.declared.alloc.Global.{Global}
use Rattle.hex.specs.Hex.{encode_lower}
use Rattle.rules.specs.Base.{collect}
use Rattle.rules.specs.Grammar.{ascii}
use Rattle.rules.specs.Names.{Bytes}
use Rattle.rules.specs.Reports.{amount}
use Rattle.edition_certificate_file.specs.declared.Entry.{Entry}
use Rattle.edition_certificate_file.specs.declared.Fault.{Fault}

-- a control byte and "\" are written as "\" and two hex digits, so that no byte of a name ends its line
abbrev pub writtenWhere : Bool → ℕ → Bytes
writtenWhere true b = 92 ∷ encode_lower (b ∷ [])
writtenWhere false b = b ∷ []

abbrev pub isEscaped : ℕ → Bool
isEscaped b = ltb b 32 || (eqb b 127 || eqb b 92)

abbrev pub writtenByte : ℕ → Bytes
writtenByte b = writtenWhere (isEscaped b) b

unfoldable pub writtenName : Bytes → Bytes
writtenName name = collect writtenByte name

-- what is kept of a sheet: its file's name as it is written, the file's digest, and lines over the sheet's names
pub record Kept : Type 0 where
  pub name : Bytes
  pub digest : List ℕ
  pub lines : Bytes

abbrev pub keptOf : Entry → Kept
keptOf e = record { name = e.name.items; digest = e.digest; lines = e.lines.items }

-- its lines stand as they are: each begins with two blanks and ends with a line feed
unfoldable pub keptText : Kept → Bytes
keptText k = ascii "sheet " ++ (k.name ++ (ascii "\nsha256 " ++ (encode_lower k.digest ++ (ascii "\n" ++ (k.lines ++ ascii "end\n")))))

-- the last line tells how many sheets there are: a certificate that is torn hasn't it
abbrev pub lastLine : ℕ → Bytes
lastLine sheets = ascii "sheets " ++ amount sheets

abbrev pub firstLine : Bytes
firstLine = ascii "check_edition certificate 1\n"

unfoldable pub keptsText : List Kept → Bytes
keptsText ks = firstLine ++ (collect keptText ks ++ (lastLine (length ks) ++ ascii "\n"))

abbrev pub entryText : Entry → Bytes
entryText e = keptText (keptOf e)

abbrev pub certificateText : List Entry → Bytes
certificateText es = keptsText (map keptOf es)

-- what is read is what would be written
abbrev pub IsReadFrom : Bytes → Result (Vec Entry Global) Fault → Type 0
IsReadFrom text (Ok es) = text ≡ certificateText es.items
IsReadFrom text (Err f) = ⊤
