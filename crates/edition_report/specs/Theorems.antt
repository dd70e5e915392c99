-- 'accepted' is told of a sheet where the solver accepts its set and the judge says yes, and nowhere else; no name adds a line. The functions of src
-- promise these statements; the lemmas stand in proofs/.
use Rattle.std.specs.Prelude.{◌≡◌, true, List, [], ◌∷◌, map, ℕ, suc, ◌+◌, length, take, drop}
use Rattle.rules.specs.Base.{Got, got, bounded, collect}
use Rattle.rules.specs.Calls.{solvedSet}
use Rattle.rules.specs.Grammar.{ascii}
use Rattle.rules.specs.Judging.{judge}
use Rattle.rules.specs.Names.{Bytes, Table, numbersOf}
use Rattle.rules.specs.Reports.{finding, shown, lineIn, constraintLine, reportText, Content, holding, refusing, lacking, Page, pageText}
use Rattle.rules.specs.Solving.{Answer, accepted}
use Rattle.rules.specs.TextReading.{Sofar, told, lineRead, sheet, sheetRead}
use Rattle.rules.specs.Trees.{Names, Con, Binding}
use Rattle.rules.specs.Writing.{words, writeCon}
use Rattle.laws.specs.Lists.{Every}
use Rattle.text_laws.specs.Lengths.{NotFeed}

-- behind a sheet's name, ": " and "accepted"
abbrev pub SaysAccepted : Bytes → Bytes → Type 0
SaysAccepted name text = take 8 (drop (length name + 2) text) ≡ ascii "accepted"

-- the solver accepts, with these bindings and bounds, and the judge says yes to them
pub record Accepted (ν : Names ℕ) (cs : List (Con ℕ)) (a : Got (Answer ℕ)) : Type 0 where
  pub binds : List (Binding ℕ)
  pub bounds : List ℕ
  pub rounds : ℕ
  pub solved : a ≡ got (accepted binds bounds rounds)
  pub judged : judge ν bounded binds bounds cs ≡ got true

-- a report of what is found says 'accepted' there, and nowhere else
pub record AcceptedWhereBothSaySo : Type 0 where
  pub only : (names : ℕ → Bytes) (name text : Bytes) (n new : ℕ) (ν : Names ℕ) (cs : List (Con ℕ)) (a : Got (Answer ℕ))
      → SaysAccepted name (reportText names name text n new (finding ν cs a)) → Accepted ν cs a
  pub there : (names : ℕ → Bytes) (name text : Bytes) (n new : ℕ) (ν : Names ℕ) (cs : List (Con ℕ)) (a : Got (Answer ℕ))
      → Accepted ν cs a → SaysAccepted name (reportText names name text n new (finding ν cs a))

-- the page holds a set that is accepted over this table
abbrev pub AcceptedOn : Table → Content → Type 0
AcceptedOn t (holding cs) = Accepted (numbersOf t) cs (solvedSet t (words (collect writeCon cs)))
AcceptedOn t (refusing n l c) = ⊥
AcceptedOn t (lacking u) = ⊥

-- a page says 'accepted' for a set that is accepted over the table, and for nothing else: for no text that is refused, for no file that can't be had
pub record PagesTellTheTruth : Type 0 where
  pub only : (t : Table) (p : Page) → SaysAccepted p.name (pageText t p) → AcceptedOn t p.content
  pub there : (t : Table) (p : Page) → AcceptedOn t p.content → SaysAccepted p.name (pageText t p)

-- nothing in a name that is shown ends a line
abbrev pub NamesEndNoLine : Type 0
NamesEndNoLine = (name : Bytes) → Every NotFeed (map shown name)

-- a line of a text is the one that this constraint was read from
pub record ReadFrom (text : Bytes) (n : ℕ) (c : Con ℕ) : Type 0 where
  pub before : Sofar
  pub after : Sofar
  pub is : lineRead (lineIn n text) before ≡ told (c ∷ []) after

-- the line that is told of a constraint, by its number in the set, is its own
abbrev pub LinesAreTheirs : Type 0
LinesAreTheirs = (pool table : List ℕ) (text : Bytes) (cs : List (Con ℕ)) (s : Sofar) → sheetRead pool table text ≡ sheet cs s
    → (i : ℕ) (c : Con ℕ) → drop i cs ≡ c ∷ drop (suc i) cs → ReadFrom text (constraintLine i text) c
