-- Reading a certificate: its lines one after another, each where it may stand; and what is read would be written just so.
use Rattle.std.specs.Prelude.{
  Bool,
  not,
  if◌then◌else◌,
  ℕ,
  ◌+◌,
  ◌-◌,
  eqb,
  List,
  [],
  ◌∷◌,
  ◌++◌,
  length,
  drop,
  take,
  map,
  Result,
  Ok,
  Err,
  Option,
  None,
  Some,
  option_map,
  Vec,
}
use Rattle.std.specs.List.{starts_with, ends_with, list_any, slice_split}
use lib.Pointwise.{pointwise}
use Rattle.std.specs.Char.{is_ascii_uppercase}
use Rattle.std.specs.declared.alloc.Global.{Global}
use Rattle.hex.specs.Hex.{decode_sized}
use Rattle.hex.specs.declared.error.FromHexError.{FromHexError}
use Rattle.rules.specs.Grammar.{ascii}
use Rattle.rules.specs.Names.{Bytes}
use Rattle.edition_certificate_file.specs.declared.Entry.{Entry}
use Rattle.edition_certificate_file.specs.declared.Fault.{Fault}
use Rattle.edition_certificate_file.specs.declared.Fault.TheVariants.{Other, Version, Line, Torn}
use Rattle.edition_certificate_file.specs.declared.Stage.{Stage}
use Rattle.edition_certificate_file.specs.declared.Stage.TheVariants.{Between, Named, Inside, Ended}
use Rattle.edition_certificate_file.specs.Files.{Kept, keptOf, firstLine, lastLine, keptsText}

-- ══ Where a line stands ══

-- where the next line stands: between sheets; behind a sheet's name; behind its digest, with what is kept so far; behind the last line
pub data Place : Type 0 where
  between ended : Place
  named : Bytes → Place
  inside : Kept → Place

abbrev pub placeOf : Stage → Place
placeOf Between = between
placeOf (Named name) = named name.now
placeOf (Inside e) = inside (keptOf e)
placeOf Ended = ended

abbrev pub isKept : Bytes → List Kept → Bool
isKept name ks = list_any (λ k. pointwise eqb k.name name) ks

-- between sheets: the name of one that isn't there yet, or the last line
unfoldable pub betweenRead : List Kept → Bytes → Option Place
betweenRead ks line =
    if starts_with eqb line (ascii "sheet ") then (if isKept (drop 6 line) ks then None else Some (named (drop 6 line)))
    else if pointwise eqb (lastLine (length ks)) line then Some ended
    else None

abbrev pub decoded : Result (List ℕ) FromHexError → Option (List ℕ)
decoded (Ok digest) = Some digest
decoded (Err e) = None

-- the line of a digest: 64 hex digits, none of them a capital
unfoldable pub digestIn : Bytes → Option (List ℕ)
digestIn line =
    if not (starts_with eqb line (ascii "sha256 ")) then None
    else if list_any is_ascii_uppercase (drop 7 line) then None
    else decoded (decode_sized (drop 7 line) 32)

abbrev pub digestRead : Bytes → Bytes → Option Place
digestRead name line = option_map (λ digest. inside (record { name = name; digest = digest; lines = [] })) (digestIn line)

-- ══ Lines, one after another ══

-- the sheets that were read to their end, and where the next line stands
abbrev pub Reached : Type 0
Reached = List Kept × Place

abbrev pub reached : Vec Entry Global → Stage → Reached
reached es stage = (map keptOf es.items, placeOf stage)

-- behind the digest: the sheet's end, or a line that begins with two blanks
unfoldable pub insideRead : List Kept → Kept → Bytes → Option Reached
insideRead ks k line =
    if pointwise eqb line (ascii "end") then Some (ks ++ k ∷ [], between)
    else if starts_with eqb line (ascii "  ") then Some (ks, inside (record { name = k.name; digest = k.digest; lines = k.lines ++ (line ++ 10 ∷ []) }))
    else None

-- what a line leads to; or it may not stand where it stands
unfoldable pub lineRead : Reached → Bytes → Option Reached
lineRead (ks, between) line = option_map (λ place. (ks, place)) (betweenRead ks line)
lineRead (ks, named name) line = option_map (λ place. (ks, place)) (digestRead name line)
lineRead (ks, inside k) line = insideRead ks k line
lineRead (ks, ended) line = None

-- the lines from number n on: the first that may not stand where it stands is told by its number
abbrev pub orLine : ℕ → Option Reached → (Reached → Result (List Kept) Fault) → Result (List Kept) Fault
orLine n None more = Err (Line n)
orLine n (Some r) more = more r

-- behind all lines: all sheets, if the last line was read
abbrev pub allRead : Reached → Result (List Kept) Fault
allRead (ks, between) = Err Torn
allRead (ks, named name) = Err Torn
allRead (ks, inside k) = Err Torn
allRead (ks, ended) = Ok ks

unfoldable pub linesRead : ℕ → Reached → List Bytes → Result (List Kept) Fault
linesRead n r [] = allRead r
linesRead n r (line ∷ lines) = orLine n (lineRead r line) (λ next. linesRead (n + 1) next lines)

-- ══ The whole text ══

abbrev pub endsLine : Bytes → Bool
endsLine text = ends_with eqb text (ascii "\n")

abbrev pub lineFeed : ℕ → Bool
lineFeed b = eqb b 10

-- what doesn't begin with the first line: of another version, torn within its first line, or none at all
unfoldable pub otherwise : Bytes → Fault
otherwise text =
    if not (starts_with eqb text (ascii "check_edition certificate ")) then Other
    else if endsLine text then Version
    else Torn

-- what stands behind the first line: each line ends with a line feed, and the first of them is line 2
unfoldable pub restRead : Bytes → Result (List Kept) Fault
restRead rest = if endsLine rest then linesRead 2 ([], between) (slice_split lineFeed (take (length rest - 1) rest)) else Err Torn

-- the first line is 28 bytes long
unfoldable pub textRead : Bytes → Result (List Kept) Fault
textRead text = if starts_with eqb text firstLine then restRead (drop 28 text) else Err (otherwise text)

-- what is read is what would be written, byte by byte
abbrev pub asWritten : Bytes → Result (List Kept) Fault → Result (List Kept) Fault
asWritten text (Ok ks) = if pointwise eqb (keptsText ks) text then Ok ks else Err Other
asWritten text (Err f) = Err f

unfoldable pub certificateRead : Bytes → Result (List Kept) Fault
certificateRead text = asWritten text (textRead text)

-- what was read, as it is kept
abbrev pub keptIn : Result (Vec Entry Global) Fault → Result (List Kept) Fault
keptIn (Ok es) = Ok (map keptOf es.items)
keptIn (Err f) = Err f
