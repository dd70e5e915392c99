-- What is written so that it is read back: names on one line, digests of 32 bytes, lines that begin with two blanks, and no name twice.
use Rattle.std.specs.Prelude.{Bool, not, ◌&&◌, ◌||◌, ℕ, ◌-◌, eqb, ltb, List, ◌++◌, length, take, map}
use Rattle.std.specs.List.{starts_with, list_any, list_all, slice_split}
use Rattle.rules.specs.Base.{isNil}
use Rattle.rules.specs.Grammar.{ascii}
use Rattle.rules.specs.Names.{Bytes, distinct}
use Rattle.edition_certificate_file.specs.Files.{Kept}
use Rattle.edition_certificate_file.specs.Reading.{endsLine, lineFeed}

-- no byte of it is a line feed
abbrev pub onOneLine : Bytes → Bool
onOneLine text = not (list_any lineFeed text)

-- 32 bytes
abbrev pub isDigest : List ℕ → Bool
isDigest digest = eqb (length digest) 32 && list_all (λ b. ltb b 256) digest

-- the lines of a text that ends with a line feed, without it
abbrev pub linesIn : Bytes → List Bytes
linesIn text = slice_split lineFeed (take (length text - 1) text)

abbrev pub beginsBlank : Bytes → Bool
beginsBlank line = starts_with eqb line (ascii "  ")

-- no line, or lines that each begin with two blanks and end with a line feed
abbrev pub isIndented : Bytes → Bool
isIndented text = isNil text || (endsLine text && list_all beginsBlank (linesIn text))

-- a line of a sheet, with its blanks and its line feed
abbrev pub indentedLine : Bytes → Bytes
indentedLine line = ascii "  " ++ (line ++ ascii "\n")

-- what is kept of a sheet
unfoldable pub writable : Kept → Bool
writable k = onOneLine k.name && (isDigest k.digest && isIndented k.lines)

abbrev pub nameOf : Kept → Bytes
nameOf k = k.name

-- and of sheets: no two have one name
unfoldable pub allWritable : List Kept → Bool
allWritable ks = list_all writable ks && distinct (map nameOf ks)
