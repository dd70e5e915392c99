-- The page of a sheet, from what was kept of it and what solving and judging it told.
use Rattle.std.specs.Prelude.{◌≡◌, List, [], Bool, true, false, ℕ, length, Result, Ok, Err}
use Rattle.rules.specs.Base.{got, collect}
use Rattle.rules.specs.Calls.{setGiven}
use Rattle.rules.specs.Names.{Bytes, Table}
use Rattle.rules.specs.Refusals.{number_of}
use Rattle.rules.specs.Reports.{holding, refusing, lacking, Page, constraintsIn}
use Rattle.rules.specs.Trees.{Con}
use Rattle.rules.specs.Writing.{words, writeCon}
use Rattle.edition.specs.declared.model.Content.{Content}
use Rattle.edition.specs.declared.model.Content.TheVariants as content

-- whether something was done
abbrev pub done : {A E : Type 0} → Result A E → Result (Unit {0}) E
done (Ok a) = Ok tt
done (Err e) = Err e

-- the words are those of a set of n constraints, and nothing else is read from them, over whichever table
pub record Kept (ws : List ℕ) (n : ℕ) (cs : List (Con ℕ)) : Type 0 where
  pub is : ws ≡ words (collect writeCon cs)
  pub many : n ≡ length cs
  pub back : (t : Table) (ds : List (Con ℕ)) → setGiven t ws ≡ got ds → ds ≡ cs

-- a page holds a set of constraints: these, read with so many new names
pub record HoldsSet (constraints names : ℕ) (ws : List ℕ) (p : Page) : Type 0 where
  pub cs : List (Con ℕ)
  pub is-set : p.content ≡ holding cs
  pub kept : Kept ws constraints cs
  pub fresh : names ≡ p.new

-- what is kept of a file is what its page holds
abbrev pub Holds : Content → List ℕ → Page → Type 0
Holds (content.Set r) ws p = HoldsSet r.constraints r.names ws p
Holds (content.Refused e) ws p = (p.content ≡ refusing (number_of e.why) e.line e.column) × (0 ≡ p.new)
Holds (content.Unseen u) ws p = (p.content ≡ lacking u) × (0 ≡ p.new)

pub record IsPage (name text : Bytes) (c : Content) (ws : List ℕ) (p : Page) : Type 0 where
  pub named : name ≡ p.name
  pub typed : text ≡ p.text
  pub holds : Holds c ws p

-- ══ What a page tells of a sheet, beside what became of it ══

abbrev pub constraintsOf : Content → ℕ
constraintsOf (content.Set r) = r.constraints
constraintsOf (content.Refused e) = 0
constraintsOf (content.Unseen u) = 0

abbrev pub namesOf : Content → ℕ
namesOf (content.Set r) = r.names
namesOf (content.Refused e) = 0
namesOf (content.Unseen u) = 0

pub record Tells (name text : Bytes) (constraints new : ℕ) (p : Page) : Type 0 where
  pub named : name ≡ p.name
  pub typed : text ≡ p.text
  pub many : constraints ≡ constraintsIn p.content
  pub fresh : new ≡ p.new

-- ══ Is the page shown? ══

abbrev pub shownIf : Bool → Bytes → Bytes
shownIf true bs = bs
shownIf false bs = []
