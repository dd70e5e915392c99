-- What is told of the sheets of an edition, byte by byte: 'accepted' stands only where the solver accepted a sheet and the judge says yes.
use Rattle.std.specs.Prelude.{
  Bool,
  true,
  false,
  not,
  ◌&&◌,
  ◌||◌,
  List,
  [],
  ◌∷◌,
  ◌++◌,
  map,
  ℕ,
  zero,
  suc,
  ◌-◌,
  eqb,
  leb,
  ltb,
  length,
  take,
  drop,
  replicate,
  get_or,
  Result,
  Ok,
  Err,
}
use Rattle.std.proofs.Math.Option.{Option, none, some}
use Rattle.rules.specs.Base.{Got, got, refused, bounded, collect, oneIf, sum_of}
use Rattle.rules.specs.Trees.{var, Names, Con, Binding, ◌≔◌}
use Rattle.rules.specs.Names.{Bytes, Table, table_of, numbersOf}
use Rattle.rules.specs.Writing.{words, writeCon}
use Rattle.rules.specs.Calls.{solvedSet}
use Rattle.rules.specs.Solving.{Answer, accepted, remaining, stopped}
use Rattle.rules.specs.Judging.{failing}
use Rattle.rules.specs.Grammar.{ascii, Place, here, beyond, skipFrom, lines_of}
use Rattle.rules.specs.TextReading.{Sheet, sheet, refusedIn, sheetRead}
use Rattle.rules.specs.TextWriting.{decimal, nameText, openText, tyText, conText, namesIn}
use Rattle.rules.specs.declared.Unseen.{Unseen}
use Rattle.rules.specs.declared.Unseen.TheVariants.{NotOpened, NotRead, TooLong}
use Rattle.rules.specs.declared.Shown.{Shown}
use Rattle.rules.specs.declared.Shown.TheVariants.{All, Quiet}

-- ══ What becomes of a sheet ══

pub data Finding : Type 0 where
  -- its file can't be had
  unseen : Unseen → Finding
  -- its text is refused: the refusal, the line's number and the column, both counted from 1
  unread : ℕ → ℕ → ℕ → Finding
  -- solved, and the judge says yes: bindings, bounds, rounds
  agrees : List (Binding ℕ) → List ℕ → ℕ → Finding
  -- solved, and the judge says no: the number of the first constraint that fails, counted from 0; or the judge's refusal
  denied : ℕ → Finding
  unjudged : ℕ → Finding
  -- what remains, after so many rounds; another refusal of the solver
  remains : List (Con ℕ) → ℕ → Finding
  stops : ℕ → ℕ → Finding

abbrev pub judgedBy : Got (Option ℕ) → List (Binding ℕ) → List ℕ → ℕ → Finding
judgedBy (got none) bs ns k = agrees bs ns k
judgedBy (got (some i)) bs ns k = denied i
judgedBy (refused n) bs ns k = unjudged n

-- each accepted answer is put before the judge, over the same set
unfoldable pub finding : Names ℕ → List (Con ℕ) → Got (Answer ℕ) → Finding
finding ν cs (refused n) = stops n 0
finding ν cs (got (accepted bs ns k)) = judgedBy (failing ν bounded bs ns 0 cs) bs ns k
finding ν cs (got (remaining ds k)) = remains ds k
finding ν cs (got (stopped n k)) = stops n k

-- the one thing that counts
abbrev pub isAccepted : Finding → Bool
isAccepted (unseen u) = false
isAccepted (unread n l c) = false
isAccepted (agrees bs ns k) = true
isAccepted (denied i) = false
isAccepted (unjudged n) = false
isAccepted (remains cs k) = false
isAccepted (stops n k) = false

-- ══ Lines of a text ══

-- the line with this number, counted from 1
unfoldable pub lineIn : ℕ → Bytes → Bytes
lineIn l text = get_or (lines_of text) (l - 1) []

-- a line holds a constraint, except for one with nothing but blanks, and one whose first sign is "-", as in a comment
abbrev pub someAt : Place → Bool
someAt (here c []) = false
someAt (here c (b ∷ bs)) = not (eqb b 45)
someAt beyond = false

unfoldable pub holdsSome : Bytes → Bool
holdsSome l = someAt (skipFrom 1 l)

-- the number of the line that holds the constraint k, counted from 0, where n is the first line's number; 0 where there is none
abbrev pub lineBy : Bool → ℕ → ℕ → (ℕ → ℕ) → ℕ
lineBy false k n next = next k
lineBy true zero n next = n
lineBy true (suc k) n next = next k

unfoldable pub lineHolding : ℕ → ℕ → List Bytes → ℕ
lineHolding k n [] = 0
lineHolding k n (l ∷ ls) = lineBy (holdsSome l) k n (λ j. lineHolding j (suc n) ls)

unfoldable pub constraintLine : ℕ → Bytes → ℕ
constraintLine k text = lineHolding k 1 (lines_of text)

-- ══ Bytes that are shown ══

-- control bytes, line feeds among them, are shown as "?": nothing that was typed ends a line of the report
abbrev pub shownBy : Bool → ℕ → ℕ
shownBy true b = 63
shownBy false b = b

unfoldable pub shown : ℕ → ℕ
shown b = shownBy (ltb b 32 || eqb b 127) b

-- numbers, of at most ten digits
abbrev pub amount : ℕ → Bytes
amount n = decimal 10 n

-- one of a thing, or several
abbrev pub ending : Bool → Bytes
ending true = []
ending false = ascii "s"

unfoldable pub quantity : ℕ → Bytes → Bytes
quantity n what = amount n ++ (what ++ ending (eqb n 1))

-- of a line at most 120 bytes are shown, from 60 in front of the column on
unfoldable pub firstShown : ℕ → ℕ
firstShown column = (column - 1) - 60

abbrev pub cut : Bool → Bytes
cut true = []
cut false = ascii "..."

unfoldable pub partShown : ℕ → Bytes → Bytes
partShown first line = ascii "  " ++ (cut (eqb first 0) ++ (map shown (take 120 (drop first line)) ++ ascii "\n"))

-- a mark under the column; bytes 128 to 191 go on a character of UTF-8 and take no room
abbrev pub roomBy : Bool → Bytes
roomBy true = []
roomBy false = 32 ∷ []

unfoldable pub room : ℕ → Bytes
room b = roomBy (leb 128 b && ltb b 192)

-- under the part from `first` on, and its dots, `before` bytes in front of the column
unfoldable pub markShown : ℕ → ℕ → Bytes → Bytes
markShown first before line =
    ascii "  " ++ (replicate (length (cut (eqb first 0))) 32 ++ (collect room (take before (drop first line)) ++ ascii "^\n"))

unfoldable pub lineShown : ℕ → Bytes → Bytes
lineShown column line = partShown (firstShown column) line ++ markShown (firstShown column) (column - 1 - firstShown column) line

-- ══ Words ══

-- the refusals in words, from 1 on
unfoldable pub reasons : List Bytes
reasons =
    ascii "a type is nested over 64 deep, or a field's name doesn't follow the one before"
    ∷ ascii "a name is empty or has over 48 bytes"
    ∷ ascii "there is no room for another name"
    ∷ ascii "a name is both a variable and a parameter"
    ∷ ascii "constraints remain"
    ∷ ascii "a dimension is asked for where there is none"
    ∷ ascii "a power leaves its range"
    ∷ ascii "over 2,048 records, 64 factors or 64 levels"
    ∷ ascii "a count is wrong"
    ∷ ascii "a buffer is too short"
    ∷ ascii "the judge says no"
    ∷ ascii "the line is outside the grammar"
    ∷ []

unfoldable pub reason : ℕ → Bytes
reason n = get_or reasons (n - 1) []

unfoldable pub refusedText : ℕ → Bytes
refusedText n = ascii "not accepted (" ++ (amount n ++ (ascii "): " ++ reason n))

unfoldable pub unseenText : Unseen → Bytes
unseenText NotOpened = ascii "not accepted: the file can't be opened\n"
unseenText NotRead = ascii "not accepted: the file can't be read\n"
unseenText TooLong = ascii "not accepted: the file is longer than a sheet's 1,048,576 bytes\n"

-- ══ The report of a sheet ══

-- where in the text it is: behind the name, as editors and build tools read it
unfoldable pub placeText : Bytes → Finding → Bytes
placeText text (unseen u) = []
placeText text (unread n l c) = ascii ":" ++ (amount l ++ (ascii ":" ++ amount c))
placeText text (agrees bs ns k) = []
placeText text (denied i) = ascii ":" ++ amount (constraintLine i text)
placeText text (unjudged n) = []
placeText text (remains ds k) = []
placeText text (stops n k) = []

module _ (name_of : ℕ → Bytes) where
  abbrev pub bindingLine : Binding ℕ → Bytes
  bindingLine (x ≔ t) = ascii "  " ++ (openText name_of (var x) ++ (ascii " ~ " ++ (tyText name_of t ++ ascii "\n")))

  -- a bound has a name alone
  abbrev pub boundLine : ℕ → Bytes
  boundLine x = ascii "  " ++ (nameText (name_of x) ++ ascii ": DType\n")

  abbrev pub remainingLine : Con ℕ → Bytes
  remainingLine c = ascii "  " ++ (conText name_of c ++ ascii "\n")

  -- with its text, and how many constraints and new names it has
  unfoldable pub findingText : Bytes → ℕ → ℕ → Finding → Bytes
  findingText text cs new (unseen u) = unseenText u
  findingText text cs new (unread n l c) = refusedText n ++ (ascii "\n" ++ lineShown c (lineIn l text))
  findingText text cs new (agrees bs ns k) = ascii "accepted: " ++ (quantity cs (ascii " constraint") ++ (ascii ", " ++ (quantity k (ascii " round")
      ++ (ascii ", " ++ (quantity new (ascii " new name") ++ (ascii "\n" ++ (collect bindingLine bs ++ collect boundLine ns)))))))
  findingText text cs new (denied i) = ascii "not accepted: it was solved, but the judge says no: a type that is no dimension stands in a product\n"
      ++ partShown 0 (lineIn (constraintLine i text) text)
  findingText text cs new (unjudged n) = refusedText n ++ ascii ", by the judge\n"
  findingText text cs new (remains ds k) = refusedText 5 ++ (ascii " after " ++ (quantity k (ascii " round") ++ (ascii "\n" ++ collect remainingLine ds)))
  findingText text cs new (stops n k) = refusedText n ++ (ascii ", after " ++ (quantity k (ascii " round") ++ ascii "\n"))

  -- a sheet's name as it was given, the place in it, and what became of it
  unfoldable pub reportText : Bytes → Bytes → ℕ → ℕ → Finding → Bytes
  reportText name text cs new f = map shown name ++ (placeText text f ++ (ascii ": " ++ findingText text cs new f))

-- the last line: so many sheets, so many of them accepted, and how full the table is
unfoldable pub totalText : ℕ → ℕ → ℕ → Bytes
totalText sheets yes' names = quantity sheets (ascii " sheet") ++ (ascii ", " ++ (amount yes' ++ (ascii " accepted, " ++ (amount (sheets - yes')
    ++ (ascii " not accepted, " ++ (amount names ++ ascii " of 256 names\n"))))))

-- ══ An edition ══

-- what a file holds: a set; a line that is refused, with the refusal, its number and the column; nothing that could be read
pub data Content : Type 0 where
  holding : List (Con ℕ) → Content
  refusing : ℕ → ℕ → ℕ → Content
  lacking : Unseen → Content

-- a file's name, its text, its new names, and what it holds
pub record Page : Type 0 where
  pub name : Bytes
  pub text : Bytes
  pub new : ℕ
  pub content : Content

unfoldable pub page_of : Bytes → Bytes → Sheet → Page
page_of name text (sheet cs s) = record { name = name; text = text; new = s.fresh; content = holding cs }
page_of name text (refusedIn n l c) = record { name = name; text = text; new = 0; content = refusing n l c }

abbrev pub page_without : Bytes → Unseen → Page
page_without name u = record { name = name; text = []; new = 0; content = lacking u }

-- all pages, and pool and table with the names of all that were read
pub record Edition : Type 0 where
  pub pages : List Page
  pub pool : List ℕ
  pub table : List ℕ

abbrev pub onPage : Page → Edition → Edition
onPage p e = record { pages = p ∷ e.pages; pool = e.pool; table = e.table }

-- what follows is read over the names of what came before; a refused sheet leaves none
abbrev pub namesAfter : Sheet → List ℕ → List ℕ → (List ℕ → List ℕ → Edition) → Edition
namesAfter (sheet cs s) pool table f = f s.pool s.table
namesAfter (refusedIn n l c) pool table f = f pool table

abbrev pub readOn : Bytes → Result Bytes Unseen → List ℕ → List ℕ → (List ℕ → List ℕ → Edition) → Edition
readOn name (Ok text) pool table f = onPage (page_of name text (sheetRead pool table text)) (namesAfter (sheetRead pool table text) pool table f)
readOn name (Err u) pool table f = onPage (page_without name u) (f pool table)

-- files, by name, and the bytes of each or why they can't be had, read over one name table
unfoldable pub editionGiven : List ℕ → List ℕ → List (Bytes × Result Bytes Unseen) → Edition
editionGiven pool table [] = record { pages = []; pool = pool; table = table }
editionGiven pool table (f ∷ fs) = readOn f.0 f.1 pool table (λ p t. editionGiven p t fs)

-- where all files can be had
abbrev pub editionRead : List ℕ → List ℕ → List (Bytes × Bytes) → Edition
editionRead pool table files = editionGiven pool table (map (λ f. (f.0, Ok f.1)) files)

-- all sets are solved over the table with all names, each as by itself
unfoldable pub findingOf : Table → Content → Finding
findingOf t (holding cs) = finding (numbersOf t) cs (solvedSet t (words (collect writeCon cs)))
findingOf t (refusing n l c) = unread n l c
findingOf t (lacking u) = unseen u

abbrev pub constraintsIn : Content → ℕ
constraintsIn (holding cs) = length cs
constraintsIn (refusing n l c) = 0
constraintsIn (lacking u) = 0

unfoldable pub pageText : Table → Page → Bytes
pageText t p = reportText (namesIn t) p.name p.text (constraintsIn p.content) p.new (findingOf t p.content)

unfoldable pub acceptedIn : Table → List Page → ℕ
acceptedIn t ps = sum_of (λ p. oneIf (isAccepted (findingOf t p.content))) ps

-- quietly the pages of accepted sheets are left out; all are counted
abbrev pub shownWhere : Shown → Bool → Bytes → Bytes
shownWhere All b bs = bs
shownWhere Quiet true bs = []
shownWhere Quiet false bs = bs

unfoldable pub pageShown : Shown → Table → Page → Bytes
pageShown how t p = shownWhere how (isAccepted (findingOf t p.content)) (pageText t p)

unfoldable pub editionShown : Shown → Edition → Bytes
editionShown how e = collect (pageShown how t) e.pages ++ totalText (length e.pages) (acceptedIn t e.pages) t.count
  where
    t : Table
    t = table_of e.pool e.table

-- with all pages
abbrev pub editionText : Edition → Bytes
editionText e = editionShown All e
