-- Reading by computation: each fault, and certificates that are read.
use Rattle.std.specs.Prelude.{◌≡◌, refl, List, [], ◌∷◌, ◌++◌, replicate, Result, Ok, Err}
use Prim.Native.String.{String}
use Rattle.hex.specs.Hex.{encode_with, decode_pairs}
use Rattle.rules.specs.Base.{collect}
use Rattle.rules.specs.Grammar.{ascii}
use Rattle.rules.specs.TextWriting.{decimal}
use Rattle.edition_certificate_file.specs.declared.Fault.{Fault}
use Rattle.edition_certificate_file.specs.declared.Fault.TheVariants.{Other, Version, Line, Torn}
use Rattle.edition_certificate_file.specs.Files.{Kept, keptText, keptsText}
use Rattle.edition_certificate_file.specs.Reading.{betweenRead, digestIn, insideRead, lineRead, linesRead, otherwise, restRead, textRead, certificateRead}

-- every definition of reading under one name
unfoldable pub reading : Type 0
unfolding encode_with decode_pairs collect decimal keptText keptsText betweenRead digestIn insideRead lineRead linesRead otherwise restRead textRead
    certificateRead
reading = Unit {0}

abbrev readOf : String → Result (List Kept) Fault
readOf text = certificateRead (ascii text)

abbrev a : Kept
a = record { name = ascii "a"; digest = replicate 32 171; lines = ascii "  ?x ~ Bool\n" }

-- a certificate of the sheet a, up to its third line; and what stands behind that
abbrev behindDigest : String → Result (List Kept) Fault
behindDigest text =
    certificateRead (ascii "check_edition certificate 1\nsheet a\nsha256 abababababababababababababababababababababababababababababababab\n" ++ ascii text)

one-sheet : behindDigest "  ?x ~ Bool\nend\nsheets 1\n" ≡ Ok (a ∷ [])
unfolding reading
one-sheet = refl

no-sheet : readOf "check_edition certificate 1\nsheets 0\n" ≡ Ok []
unfolding reading
no-sheet = refl

-- what begins otherwise, and what is empty
other : readOf "?x ~ Bool\n" ≡ Err Other
unfolding reading
other = refl

empty : readOf "" ≡ Err Other
unfolding reading
empty = refl

-- another version, whatever stands behind its first line
version : readOf "check_edition certificate 2\nsheet\n" ≡ Err Version
unfolding reading
version = refl

-- torn: within the first line, behind it, within a line, within a sheet, and before the last line
torn-first : readOf "check_edition certificate 1" ≡ Err Torn
unfolding reading
torn-first = refl

torn-behind : readOf "check_edition certificate 1\n" ≡ Err Torn
unfolding reading
torn-behind = refl

torn-line : behindDigest "  ?x ~ Bool\nend\nsheets 1" ≡ Err Torn
unfolding reading
torn-line = refl

torn-sheet : behindDigest "  ?x ~ Bool\n" ≡ Err Torn
unfolding reading
torn-sheet = refl

torn-last : behindDigest "  ?x ~ Bool\nend\n" ≡ Err Torn
unfolding reading
torn-last = refl

-- the first line that may not stand where it stands: no name and not the last; no digest, and one with capitals; no two blanks; a name once more;
-- another number of sheets; a line behind the last
between-sheets : readOf "check_edition certificate 1\nend\nend\n" ≡ Err (Line 2)
unfolding reading
between-sheets = refl

no-digest : readOf "check_edition certificate 1\nsheet a\nsha256 ab\n" ≡ Err (Line 3)
unfolding reading
no-digest = refl

capitals : readOf "check_edition certificate 1\nsheet a\nsha256 ABABABABABABABABABABABABABABABABABABABABABABABABABABABABABABABAB\n" ≡ Err (Line 3)
unfolding reading
capitals = refl

no-blanks : behindDigest "?x ~ Bool\nend\nsheets 1\n" ≡ Err (Line 4)
unfolding reading
no-blanks = refl

name-twice : behindDigest "end\nsheet a\n" ≡ Err (Line 5)
unfolding reading
name-twice = refl

miscounted : behindDigest "end\nsheets 2\n" ≡ Err (Line 5)
unfolding reading
miscounted = refl

behind-last : readOf "check_edition certificate 1\nsheets 0\n\n" ≡ Err (Line 3)
unfolding reading
behind-last = refl
