-- What is said to the file of a sheet and to what a certificate keeps of it: the digest that the file must have, and lines over the sheet's names.
use Rattle.std.specs.Prelude.{Bool, true, false, List, ℕ, replicate}
use Rattle.sha2.specs.Sha256.{sha256}
use Rattle.rules.specs.Base.{Got, got, refused, collect}
use Rattle.rules.specs.Names.{Bytes, sameBytes}
use Rattle.rules.specs.Refusals.{number_of}
use Rattle.rules.specs.TextReading.{Sheet, sheet, refusedIn, sheetRead}
use Rattle.rules.specs.Writing.{words, writeCon}
use Rattle.edition_certificates.specs.Certificates.{verified}
use Rattle.edition_certified.specs.declared.Verdict.{Verdict}
use Rattle.edition_certified.specs.declared.Verdict.TheVariants as verdict

-- one of these: yes; another digest; the sheet, or the lines, are refused as text (refusal, line, column); a constraint isn't true; the lines are refused
pub data Said : Type 0 where
  yes : Said
  changed : Said
  unread : ℕ → ℕ → ℕ → Said
  linesUnread : ℕ → ℕ → ℕ → Said
  untrue : Said
  refusedAs : ℕ → Said

abbrev pub saidOf : Got Bool → Said
saidOf (got true) = yes
saidOf (got false) = untrue
saidOf (refused n) = refusedAs n

-- to lines as they were read, where the words are those of the sheet's set
abbrev pub linesSaid : List ℕ → Sheet → Said
linesSaid set (refusedIn n l c) = linesUnread n l c
linesSaid set (sheet ds s) = saidOf (verified s.pool s.table set (words (collect writeCon ds)))

-- to lines behind a sheet as it was read: they are read over its names
abbrev pub textSaid : Bytes → Sheet → Said
textSaid lines (refusedIn n l c) = unread n l c
textSaid lines (sheet cs s) = linesSaid (words (collect writeCon cs)) (sheetRead s.pool s.table lines)

abbrev pub digestSaid : Bool → Said → Said
digestSaid false v = changed
digestSaid true v = v

-- no name is held
unfoldable pub noPool : List ℕ
noPool = replicate 8192 0

unfoldable pub noTable : List ℕ
noTable = replicate 257 0

-- the digest is compared first; then the sheet is read over a table without names
abbrev pub certified : Bytes → Bytes → Bytes → Said
certified digest text lines = digestSaid (sameBytes digest (sha256 text)) (textSaid lines (sheetRead noPool noTable text))

-- the code's answer as that of the definition
abbrev pub said : Verdict → Said
said verdict.Verified = yes
said verdict.Changed = changed
said (verdict.Unread e) = unread (number_of e.why) e.line e.column
said (verdict.LinesUnread e) = linesUnread (number_of e.why) e.line e.column
said verdict.Untrue = untrue
said (verdict.Refused r) = refusedAs (number_of r)
