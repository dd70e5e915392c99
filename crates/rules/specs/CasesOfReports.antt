-- Reports by computation, over the names of Examples (x, y, z, a, L, P): each finding of a sheet, as it is printed.
use Rattle.std.specs.Prelude.{◌≡◌, refl, List, [], ◌∷◌, ◌++◌, replicate, Result, Ok, Err}
use Prim.Native.String.{String}
use Rattle.rules.specs.Base.{collect}
use Rattle.rules.specs.Names.{Bytes, table_of}
use Rattle.rules.specs.Examples.{pool, table}
use Rattle.rules.specs.Grammar.{ascii}
use Rattle.rules.specs.TextWriting.{namesIn}
use Rattle.rules.specs.Reports.{
  unread,
  unjudged,
  finding,
  lineIn,
  holdsSome,
  lineHolding,
  constraintLine,
  shown,
  quantity,
  firstShown,
  partShown,
  room,
  markShown,
  lineShown,
  reasons,
  reason,
  refusedText,
  unseenText,
  placeText,
  findingText,
  reportText,
  totalText,
  page_of,
  editionGiven,
  editionRead,
  findingOf,
  pageText,
  acceptedIn,
  pageShown,
  editionShown,
  editionText,
}
use Rattle.rules.specs.Rules.{rules}
use Rattle.rules.specs.Sheets.{sheets}
use Rattle.rules.specs.declared.Unseen.{Unseen}
use Rattle.rules.specs.declared.Unseen.TheVariants.{NotOpened, NotRead, TooLong}
use Rattle.rules.specs.declared.Shown.TheVariants.{Quiet}

-- every definition of reports under one name
unfoldable pub reports : Type 0
unfolding finding lineIn holdsSome lineHolding constraintLine shown quantity firstShown partShown room markShown lineShown reasons reason refusedText unseenText
    placeText findingText reportText totalText page_of editionGiven findingOf pageText acceptedIn pageShown editionShown
reports = Unit {0}

-- an edition of these files, over the names of Examples
abbrev told : List (Bytes × Bytes) → Bytes
told files = editionText (editionRead pool table files)

-- the report of a sheet alone, without the last line
abbrev sheetOf : String → Bytes
sheetOf text = collect (pageText (table_of pool table)) (editionRead pool table ((ascii "s", ascii text) ∷ [])).pages

good : sheetOf "?x ~ [#L * ?y]\n?y: DType" ≡ ascii "s: accepted: 2 constraints, 1 round, 0 new names\n  ?x ~ [?y * #L]\n  y: DType\n"
unfolding rules sheets reports pool table
good = refl

wrong : sheetOf "[#L] ~ [#P]" ≡ ascii "s: not accepted (5): constraints remain after 1 round\n  [#L * #P^(-1)] = Scalar\n"
unfolding rules sheets reports pool table
wrong = refl

-- K10: a non-dimension stands in a product. The line is that of the first constraint that fails
no-dimension : sheetOf "[?x * ?y] ~ [?x * ?z]\n?x ~ Bool"
    ≡ ascii "s:1: not accepted: it was solved, but the judge says no: a type that is no dimension stands in a product\n  [?x * ?y] ~ [?x * ?z]\n"
unfolding rules sheets reports pool table
no-dimension = refl

-- behind a comment, a blank line and another constraint, it is the fourth
fourth-line : sheetOf "-- K10\n?a ~ [#L]\n \n\t[?x * ?y] ~ [?x * ?z]\n?x ~ Bool"
    ≡ ascii "s:4: not accepted: it was solved, but the judge says no: a type that is no dimension stands in a product\n  ?[?x * ?y] ~ [?x * ?z]\n"
unfolding rules sheets reports pool table
fourth-line = refl

mixed : sheetOf "?x ~ !x" ≡ ascii "s: not accepted (4): a name is both a variable and a parameter, after 0 rounds\n"
unfolding rules sheets reports pool table
mixed = refl

-- the solver's refusal 6
asked-of-bool : sheetOf "?x ~ [?y * ?z]\n?y ~ Bool" ≡ ascii "s: not accepted (6): a dimension is asked for where there is none, after 1 round\n"
unfolding rules sheets reports pool table
asked-of-bool = refl

-- the judge's refusal
judge-refuses : reportText (namesIn (table_of pool table)) (ascii "s") [] 1 0 (unjudged 7)
    ≡ ascii "s: not accepted (7): a power leaves its range, by the judge\n"
unfolding reports rules sheets
judge-refuses = refl

-- an empty sheet is accepted: nothing in it is wrong
empty : sheetOf "" ≡ ascii "s: accepted: 0 constraints, 0 rounds, 0 new names\n"
unfolding rules sheets reports pool table
empty = refl

-- what can't be read is told with its place and its line; the name's line feed doesn't end a line
outside : reportText (namesIn (table_of pool table)) (ascii "a\nb") (ascii "\n\n?x ~ [#L +\n") 0 0 (unread 12 3 9)
    ≡ ascii "a?b:3:9: not accepted (12): the line is outside the grammar\n  ?x ~ [#L +\n          ^\n"
unfolding reports rules sheets
outside = refl

-- a line of 200 bytes is cut in front and behind; of a character of two bytes the mark counts one
long : lineShown 101 (replicate 200 120) ≡ ascii "  ..." ++ (replicate 120 120 ++ (ascii "\n     " ++ (replicate 60 32 ++ ascii "^\n")))
unfolding reports rules sheets
long = refl

two_bytes : lineShown 6 (63 ∷ 195 ∷ 164 ∷ 32 ∷ 126 ∷ 33 ∷ []) ≡ 32 ∷ 32 ∷ 63 ∷ 195 ∷ 164 ∷ 32 ∷ 126 ∷ 33 ∷ 10 ∷ ascii "      ^\n"
unfolding reports rules sheets
two_bytes = refl

total : totalText 7 5 12 ≡ ascii "7 sheets, 5 accepted, 2 not accepted, 12 of 256 names\n"
unfolding reports rules sheets
total = refl

one-sheet : totalText 1 0 256 ≡ ascii "1 sheet, 0 accepted, 1 not accepted, 256 of 256 names\n"
unfolding reports rules sheets
one-sheet = refl

-- three sheets: the second is refused in its second line, so that its new name isn't entered; the third enters it
three : told ((ascii "1", ascii "?x ~ [#L]") ∷ (ascii "2", ascii "?q ~ Bool\n?x ~\n") ∷ (ascii "3", ascii "?q ~ Bool") ∷ [])
    ≡ ascii "1: accepted: 1 constraint, 1 round, 0 new names\n  ?x ~ [#L]\n"
    ++ (ascii "2:2:5: not accepted (12): the line is outside the grammar\n  ?x ~\n      ^\n"
    ++ (ascii "3: accepted: 1 constraint, 1 round, 1 new name\n  ?q ~ Bool\n" ++ ascii "3 sheets, 2 accepted, 1 not accepted, 7 of 256 names\n"))
unfolding rules sheets reports pool table
three = refl

-- files that can't be had are told and counted; quietly the accepted sheet's page is left out, and counted all the same
abbrev some : List (Bytes × Result Bytes Unseen)
some = (ascii "1", Err NotOpened) ∷ (ascii "2", Ok (ascii "?x ~ [#L]")) ∷ (ascii "3", Err NotRead) ∷ (ascii "4", Err TooLong) ∷ []

quiet : editionShown Quiet (editionGiven pool table some)
    ≡ ascii "1: not accepted: the file can't be opened\n"
    ++ (ascii "3: not accepted: the file can't be read\n"
    ++ (ascii "4: not accepted: the file is longer than a sheet's 1,048,576 bytes\n" ++ ascii "4 sheets, 1 accepted, 3 not accepted, 6 of 256 names\n"))
unfolding rules sheets reports pool table
quiet = refl
