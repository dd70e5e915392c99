-- What is proved of the call that confirms. The functions of src/theorems promise these statements; the proofs stand in proofs/.
use Rattle.std.specs.Prelude.{◌≡◌, Bool, true, List, ◌++◌, map, ℕ, length}
use Rattle.rules.specs.Base.{Got, got, collect, sum_of}
use Rattle.rules.specs.Calls.{lentWork, setGiven, over, solved, unsolved, refusedAfter, solveCall, judgeCall}
use Rattle.rules.specs.Confirming.{confirmCall}
use Rattle.rules.specs.Meaning.{Solves}
use Rattle.rules.specs.Names.{table_of, numbersOf, is_held}
use Rattle.rules.specs.Numbers as numbers
use Rattle.rules.specs.Numbers.{number}
use Rattle.rules.specs.Trees.{var, Con, Binding, sizeBinding}
use Rattle.rules.specs.Writing.{words, writeBinding, writeBound}
use Rattle.solve.specs.declared.Solution.{Solution}
use Rattle.solve.specs.Told.{numberOutcome, solutionAs}
use Rattle.solve.specs.Theorems.{OneResult}
use Rattle.theorems_soundness.specs.Claims.{SolvedForm, pointed, bindingsIn, boundsIn}
use Rattle.solve_confirm.specs.Told.{ruledBy}

module _ (pool table set result work : List ℕ) where
  -- what is answered: the constraints that were read, the bindings and bounds that were written, in solved form; and with no premise, that every
  -- constraint of the set is true once all bindings are put in, at once and in exact arithmetic
  pub record ConfirmedAnswer (records bounds : ℕ) : Type 0 where
    pub cs : List (Con ℕ)
    pub bs : List (Binding ℕ)
    pub ns : List ℕ
    pub read : setGiven (table_of pool table) set ≡ got cs
    pub written : (confirmCall pool table set result work).result ≡ over (words (collect writeBinding bs ++ map (λ n. writeBound (var n)) ns)) result
    pub binding-records : sum_of sizeBinding bs ≡ records
    pub bound-records : length ns ≡ bounds
    pub form : SolvedForm (numbersOf (table_of pool table)) (is_held (table_of pool table)) bs ns
    pub all-true : Solves (numbersOf (table_of pool table)) cs bs ns

  -- the judge on what solving wrote, where it stands: an entry for each binding points at its type in the result buffer, and the bounds stand behind
  abbrev pub judgedInPlace : ℕ → ℕ → List ℕ → Got Bool
  judgedInPlace records bounds buffer =
      (judgeCall pool table set (pointed 0 (bindingsIn (solveCall pool table set result work).result records))
      (bindingsIn (solveCall pool table set result work).result records) (boundsIn (solveCall pool table set result work).result records bounds) buffer).answer

  -- the call by the two calls that it takes the place of
  pub record OneOfTwo : Type 0 where
    -- what `solve` accepts goes to the judge, with any work buffer that is long enough: accepted on its yes, 11 on its no, refused as it refuses
    pub judged : (records bounds rounds : ℕ) → (solveCall pool table set result work).answer ≡ solved records bounds rounds
        → (buffer : List ℕ) → lentWork buffer ≡ got tt
        → (confirmCall pool table set result work).answer ≡ ruledBy (judgedInPlace records bounds buffer) (solved records bounds rounds)
    -- so it answers just where `solve` accepts and the judge says yes, and then all is as `solve` leaves it
    pub answers : (records bounds rounds : ℕ) → (confirmCall pool table set result work).answer ≡ solved records bounds rounds
        → ((solveCall pool table set result work).answer ≡ solved records bounds rounds)
        × (((buffer : List ℕ) → lentWork buffer ≡ got tt → judgedInPlace records bounds buffer ≡ got true)
        × (confirmCall pool table set result work ≡ solveCall pool table set result work))
    -- and what `solve` doesn't accept is answered as by `solve`, what remains and all buffers too
    pub remains : (records rounds : ℕ) → (solveCall pool table set result work).answer ≡ unsolved records rounds
        → confirmCall pool table set result work ≡ solveCall pool table set result work
    pub refuses : (i rounds : ℕ) → (solveCall pool table set result work).answer ≡ refusedAfter i rounds
        → confirmCall pool table set result work ≡ solveCall pool table set result work

-- what is answered makes every given constraint true, with no premise
abbrev pub ConfirmedIsTrue : Type 0
ConfirmedIsTrue = (pool table set result work : List ℕ) (records bounds rounds : ℕ)
    → (confirmCall pool table set result work).answer ≡ solved records bounds rounds → ConfirmedAnswer pool table set result work records bounds

abbrev pub ConfirmsJustWhere : Type 0
ConfirmsJustWhere = (pool table set result work : List ℕ) → OneOfTwo pool table set result work

-- ══ The contract decides ══

-- the contract of `confirm` leaves no choice: two results that it allows coincide
abbrev pub ConfirmDetermined : Type 0
ConfirmDetermined = (pool table set result work : List ℕ) (p q : Solution) (a b c d : List ℕ)
    → solutionAs p a c ≡ confirmCall pool table set result work → solutionAs q b d ≡ confirmCall pool table set result work → OneResult p q a b c d

-- and the answer has the number of its outcome: 5 where constraints remain, 11 where the judge says no
abbrev pub ConfirmNumbered : Type 0
ConfirmNumbered = (pool table set result work : List ℕ) (p : Solution) (a c : List ℕ)
    → solutionAs p a c ≡ confirmCall pool table set result work
    → numberOutcome p.outcome ≡ number (numbers.solution (confirmCall pool table set result work))
