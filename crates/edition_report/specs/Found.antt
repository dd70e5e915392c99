-- What the code holds of a finding: rows of bindings, bounds and what remains stand at the front of a list.
use Rattle.std.specs.Prelude.{◌≡◌, List, ◌++◌, ℕ}
use Rattle.rules.specs.Grammar.{ascii}
use Rattle.rules.specs.Names.{Bytes}
use Rattle.rules.specs.Refusals.{number_of}
use Rattle.rules.specs.Reports.{Finding, unseen, unread, agrees, denied, unjudged, remains, stops, quantity, refusedText}
use Rattle.rules.specs.Trees.{Con, Binding}
use Rattle.solve_finish.specs.Told.{IsSolved}
use Rattle.types.specs.Sets.{IsCons}
use Rattle.edition_report.specs.declared.pages.Outcome.{Outcome}
use Rattle.edition_report.specs.declared.pages.Outcome.TheVariants as outcome

-- accepted, and confirmed: the bindings and bounds that stand at the front of the list
pub record IsAgreed (s : List ℕ) (b n k : ℕ) (f : Finding) : Type 0 where
  pub bs : List (Binding ℕ)
  pub ns : List ℕ
  pub is : f ≡ agrees bs ns k
  pub solved : IsSolved s b n bs ns

-- the constraints that remain, which stand there
pub record IsLeft (s : List ℕ) (e k : ℕ) (f : Finding) : Type 0 where
  pub ds : List (Con ℕ)
  pub is : f ≡ remains ds k
  pub left : IsCons s 0 e ds

abbrev pub IsFinding : List ℕ → Outcome → Finding → Type 0
IsFinding s (outcome.Unseen u) f = f ≡ unseen u
IsFinding s (outcome.Unread e) f = f ≡ unread (number_of e.why) e.line e.column
IsFinding s (outcome.Agrees b n k) f = IsAgreed s b n k f
IsFinding s (outcome.Denied i) f = f ≡ denied i
IsFinding s (outcome.Unjudged r) f = f ≡ unjudged (number_of r)
IsFinding s (outcome.Remains e k) f = IsLeft s e k f
IsFinding s (outcome.Stops r k) f = f ≡ stops (number_of r) k

-- ══ First lines of pages with rows ══

abbrev pub acceptedText : ℕ → ℕ → ℕ → Bytes
acceptedText cs k new = ascii "accepted: " ++ (quantity cs (ascii " constraint") ++ (ascii ", " ++ (quantity k (ascii " round")
    ++ (ascii ", " ++ (quantity new (ascii " new name") ++ ascii "\n")))))

abbrev pub leftText : ℕ → Bytes
leftText k = refusedText 5 ++ (ascii " after " ++ (quantity k (ascii " round") ++ ascii "\n"))
