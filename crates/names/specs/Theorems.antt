-- What is proved of the calls by themselves. The functions of src/theorems.rt promise these statements.
use Rattle.std.specs.Prelude.{◌≡◌, List, ℕ, ◌<◌, get_or, Result}
use Rattle.std.specs.Borrow.{Bor}
use Rattle.std.specs.declared.cmp.Ordering.{Ordering}
use Rattle.rules.specs.Base.{Got}
use Rattle.rules.specs.Names.{Bytes, orderBytes, tableGiven, nameAsked, partAsked, enter}
use Rattle.rules.specs.Numbers as numbers
use Rattle.rules.specs.Numbers.{number}
use Rattle.rules.specs.Refusals.{told, numberAnswer}
use Rattle.rules.specs.declared.Refusal.{Refusal}
use Rattle.rules.specs.declared.Was.{Was}
use Rattle.laws.specs.Entering.{SameFront}
use Rattle.laws.specs.NameTable.{Good}
use Rattle.names.specs.Promises.{Promises, NumberPromises, FrontDecides, Alike}
use Rattle.names.specs.Told.{toldOrder, entered, refusalOf, IsPart}

-- ══ The contracts leave no choice ══

-- two answers that a clause `told result ≡ g` allows are the same
abbrev pub OneAnswer : Got (Unit {0}) → Type 0
OneAnswer g = (p q : Result (Unit {0}) Refusal) → told p ≡ g → told q ≡ g → p ≡ q

-- of entering: the answer, and all that pool and table hold afterwards
pub record OneResult (a b : Result (ℕ × Was) Refusal) (p q t u : List ℕ) : Type 0 where
  pub answer : a ≡ b
  pub pool : p ≡ q
  pub table : t ≡ u

pub record CallsDetermined : Type 0 where
  pub comparing : (a b : Bytes) (p q : Ordering) → toldOrder p ≡ orderBytes a b → toldOrder q ≡ orderBytes a b → p ≡ q
  pub checking : (pool table : List ℕ) → OneAnswer (tableGiven pool table)
  pub asking : (pool table : List ℕ) (i : ℕ) → OneAnswer (refusalOf (nameAsked pool table i))
  pub entering : (pool table : List ℕ) (name : Bytes) (a b : Result (ℕ × Was) Refusal) (p q t u : List ℕ)
      → entered a p t ≡ enter pool table name → entered b q u ≡ enter pool table name → OneResult a b p q t u
  -- the place and the bytes of a name's part
  pub naming : (pool : Bor (List ℕ)) (table : List ℕ) (i : ℕ) (p q : Bor (List ℕ))
      → IsPart pool p (partAsked pool.now table i) → IsPart pool q (partAsked pool.now table i) → (p.ref_ptr ≡ q.ref_ptr) × (p.now ≡ q.now)

-- the number of an answer is the rules': 0, or that of its refusal. `compare` refuses nothing, and the number of `name_of` is that of `check_number`
pub record CallsNumbered : Type 0 where
  pub checking : (pool table : List ℕ) (p : Result (Unit {0}) Refusal) → told p ≡ tableGiven pool table
      → numberAnswer p ≡ number (numbers.checked (tableGiven pool table))
  pub asking : (pool table : List ℕ) (i : ℕ) (p : Result (Unit {0}) Refusal) → told p ≡ refusalOf (nameAsked pool table i)
      → numberAnswer p ≡ number (numbers.named (nameAsked pool table i))
  pub entering : (pool table : List ℕ) (name : Bytes) (a : Result (ℕ × Was) Refusal) (p t : List ℕ) → entered a p t ≡ enter pool table name
      → numberAnswer a ≡ number (numbers.entered (enter pool table name))

-- ══ What names promise ══

abbrev pub EnteringKept : Type 0
EnteringKept = (pool table : List ℕ) (name : Bytes) → Promises pool table name

abbrev pub NumbersKept : Type 0
NumbersKept = (pool table : List ℕ) → NumberPromises pool table

abbrev pub FrontEnough : Type 0
FrontEnough = (pool table pool' table' : List ℕ) → SameFront pool table pool' table' → FrontDecides pool table pool' table'

abbrev pub NumbersAlike : Type 0
NumbersAlike = (pool table : List ℕ) → Good pool table → (i j : ℕ) → i < get_or table 0 0 → j < get_or table 0 0 → Alike pool table i j
