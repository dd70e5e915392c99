-- What a report of an edition is worth. The functions of src/theorems.rt promise these statements; the proofs stand in proofs/.
use Rattle.std.specs.Prelude.{◌≡◌, Bool, false, List, ◌∷◌, ◌++◌, map, ℕ, suc, ltb, length, drop, Result}
use Rattle.std.proofs.Math.Option.{some}
use Rattle.rules.specs.Base.{got, any, collect}
use Rattle.rules.specs.Calls.{solvedSet}
use Rattle.rules.specs.Conflicts.{Conflict, Line, linesFrom}
use Rattle.rules.specs.Grammar.{ascii}
use Rattle.rules.specs.Meaning.{TrueUnder, Solves, Premise}
use Rattle.rules.specs.Names.{Bytes, Table, table_of, tableGiven, numbersOf}
use Rattle.rules.specs.Reports.{
  constraintLine,
  agrees,
  denied,
  shown,
  findingOf,
  reportText,
  Content,
  holding,
  refusing,
  lacking,
  Page,
  Edition,
  editionGiven,
  pageText,
}
use Rattle.rules.specs.Solving.{accepted}
use Rattle.rules.specs.TextWriting.{namesIn}
use Rattle.rules.specs.Trees.{Con, Binding}
use Rattle.rules.specs.Writing.{words, writeCon}
use Rattle.rules.specs.declared.Unseen.{Unseen}
use Rattle.laws.specs.Lists.{Every}
use Rattle.solve_conflict.specs.Theorems.{PartOf}
use Rattle.edition_report.specs.Theorems.{SaysAccepted, ReadFrom}
use Rattle.edition.specs.Why.{conflictHead, conflictOn, whyLine, whyText}

-- what the page prints are bindings and bounds; and put in at once they make each constraint of the set true, in exact arithmetic
pub record TrueBy (t : Table) (p : Page) (cs : List (Con ℕ)) : Type 0 where
  pub binds : List (Binding ℕ)
  pub bounds : List ℕ
  pub rounds : ℕ
  pub printed : pageText t p ≡ reportText (namesIn t) p.name p.text (length cs) p.new (agrees binds bounds rounds)
  pub solves : Solves (numbersOf t) cs binds bounds

-- the page holds a set, and it is true by what is printed
abbrev pub TrueOn : Table → Page → Content → Type 0
TrueOn t p (holding cs) = TrueBy t p cs
TrueOn t p (refusing n l c) = ⊥
TrueOn t p (lacking u) = ⊥

-- 'accepted' is never printed for a sheet that is not true
abbrev pub TrueWhereAccepted : Table → Page → Type 0
TrueWhereAccepted t p = SaysAccepted p.name (pageText t p) → TrueOn t p p.content

abbrev pub AllTrue : Edition → Type 0
AllTrue e = Every (TrueWhereAccepted (table_of e.pool e.table)) e.pages

-- whatever the files hold, whichever of them can't be had, and whatever names were known before
abbrev pub AcceptedSheetsAreTrue : Type 0
AcceptedSheetsAreTrue = (pool table : List ℕ) (files : List (Bytes × Result Bytes Unseen)) → AllTrue (editionGiven pool table files)

-- ══ The judge's no ══

-- the solver accepts the set, and the constraint that the page names isn't true under its answer: the set isn't in the premise under which an accepted answer
-- is true, since a variable that stands in a product of it is bound to a type that is no dimension and no variable
pub record DeniedBy (t : Table) (cs : List (Con ℕ)) (i : ℕ) : Type 0 where
  pub binds : List (Binding ℕ)
  pub bounds : List ℕ
  pub rounds : ℕ
  pub solved : solvedSet t (words (collect writeCon cs)) ≡ got (accepted binds bounds rounds)
  pub constraint : Con ℕ
  pub there : drop i cs ≡ constraint ∷ drop (suc i) cs
  pub untrue : ¬ (TrueUnder (numbersOf t) binds bounds constraint)
  pub without : ¬ (Premise (numbersOf t) cs binds)

abbrev pub DeniedOn : Table → Content → ℕ → Type 0
DeniedOn t (holding cs) i = DeniedBy t cs i
DeniedOn t (refusing n l c) i = ⊥
DeniedOn t (lacking u) i = ⊥

abbrev pub DeniedWithoutPremise : Table → Page → Type 0
DeniedWithoutPremise t p = (i : ℕ) → findingOf t p.content ≡ denied i → DeniedOn t p.content i

-- so what is told with the judge's no is true of each page that tells it, over a table that passes its test
abbrev pub DeniedOnlyWithoutPremise : Type 0
DeniedOnlyWithoutPremise = (pool table : List ℕ) → tableGiven pool table ≡ got tt → (files : List (Bytes × Result Bytes Unseen))
    → Every (DeniedWithoutPremise (table_of (editionGiven pool table files).pool (editionGiven pool table files).table)) (editionGiven pool table files).pages

-- ══ The lines of a page ══

-- a byte below the blank: a line feed, a carriage return, an escape
abbrev pub belowBlank : ℕ → Bool
belowBlank b = ltb b 32

-- none of them
abbrev pub Flat : Bytes → Type 0
Flat bs = any belowBlank bs ≡ false

-- two blanks, what is told, and the line feed that ends it
abbrev pub lineBelow : Bytes → Bytes
lineBelow l = ascii "  " ++ (l ++ ascii "\n")

-- the first line begins with the file's name as it is shown, and each line below it with two blanks; no byte below the blank stands in any of
-- them, so that the line feeds that end them are all that there are
pub record InLines (name page : Bytes) : Type 0 where
  pub told : Bytes
  pub below : List Bytes
  pub is : page ≡ map shown name ++ (told ++ (ascii "\n" ++ collect lineBelow below))
  pub first : Flat (map shown name ++ told)
  pub others : Every Flat below

abbrev pub AllInLines : Edition → Type 0
AllInLines e = Every (λ p. InLines p.name (pageText (table_of e.pool e.table) p)) e.pages

-- every page is one line of its sheet's and lines below it, whatever the files' names and their texts hold
abbrev pub PagesInLines : Type 0
PagesInLines = (pool table : List ℕ) (files : List (Bytes × Result Bytes Unseen)) → AllInLines (editionGiven pool table files)

-- and so is every page with its why behind it
abbrev pub AllWhysInLines : Edition → Type 0
AllWhysInLines e = Every (λ p. InLines p.name (pageText (table_of e.pool e.table) p ++ whyText (table_of e.pool e.table) p)) e.pages

abbrev pub WhysInLines : Type 0
WhysInLines = (pool table : List ℕ) (files : List (Bytes × Result Bytes Unseen)) → AllWhysInLines (editionGiven pool table files)

-- ══ Lines that conflict ══

-- lines are told under the page, and each is the line of the sheet that its constraint was read from, where it stands in the sheet's set; no choice of
-- dimensions for the variables makes all of them true, and without any one of them there is one that does
pub record LinesTold (t : Table) (p : Page) (cs : List (Con ℕ)) : Type 0 where
  pub lines : List (Line ℕ)
  pub told : whyText t p ≡ conflictHead ++ collect (whyLine p.name p.text) (map (λ l. l.0) lines)
  pub part : PartOf lines (linesFrom 0 cs)
  pub theirs : Every (λ l. ReadFrom p.text (constraintLine l.0 p.text) l.1) lines
  pub conflict : Conflict (numbersOf t).same (map (λ l. l.1) lines)

abbrev pub LinesToldOn : Table → Page → Content → Type 0
LinesToldOn t p (holding cs) = LinesTold t p cs
LinesToldOn t p (refusing n l c) = ⊥
LinesToldOn t p (lacking u) = ⊥

abbrev pub LinesConflict : Table → Page → Type 0
LinesConflict t p = (ls : List (Line ℕ)) → conflictOn t p.content ≡ got (some ls) → LinesToldOn t p p.content

-- so what is told under a page is a conflict, whatever the files hold, over a table that passes its test
abbrev pub ToldLinesConflict : Type 0
ToldLinesConflict = (pool table : List ℕ) → tableGiven pool table ≡ got tt → (files : List (Bytes × Result Bytes Unseen))
    → Every (LinesConflict (table_of (editionGiven pool table files).pool (editionGiven pool table files).table)) (editionGiven pool table files).pages
