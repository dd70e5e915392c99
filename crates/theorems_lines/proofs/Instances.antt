-- Instances: kilometres, which an earlier line has, divided by hours. The line is answered, so by the theorem it runs to its end; and a line that
-- is answered, but whose reference is open, of which that is not promised.
use Rattle.std.specs.Prelude.{◌≡◌, refl, true, List, [], ◌∷◌, ◌++◌, ℕ}
use Rattle.std.proofs.Common.{ap, ◌∙◌, sym}
use Rattle.rules.specs.Base.{got}
use Rattle.rules.specs.Trees.{var, opened, dim}
use Rattle.rules.specs.Names.{table_of, numbersOf}
use Rattle.rules.specs.Steps.{LineStep, constant, reference, adds, divides, joins, lineGiven}
use Rattle.rules.specs.Lines.{checkLineCall}
use Rattle.rules.specs.Running.{notDimension, ran, fault, runLine}
use Rattle.rules.specs.CasesOfLines.{lines, pool, table, result, work, placed, types, earlier, lent, c, r, op, to, k, h}
use Rattle.theorems_lines.specs.Claims.{closedLine, RunsTo}
use Rattle.theorems_lines.proofs.Promise.{accepted-line, runs-to-its-end}

-- ══ Closed references ══

abbrev speed : List ℕ
speed = r 0 ++ c 1 ++ op 6

abbrev speedSteps : List (LineStep ℕ)
speedSteps = reference (dim (to k 1 ∷ [])) ∷ constant (dim (to h 1 ∷ [])) ∷ joins divides ∷ []

speed-read : lineGiven (table_of pool table) speed types earlier ≡ got speedSteps
unfolding lines pool table placed
speed-read = refl

speed-answered : (checkLineCall pool table speed types earlier lent result work).answer ≡ got 3
unfolding lines pool table result work placed
speed-answered = refl

speed-closed : closedLine speedSteps ≡ true
unfolding lines closedLine
speed-closed = refl

-- by the theorem, not by running it
speed-runs : RunsTo (numbersOf (table_of pool table)) (accepted-line pool table speed types earlier lent result work 3 speed-answered).ss
    (accepted-line pool table speed types earlier lent result work 3 speed-answered).type
speed-runs =
    let a = accepted-line pool table speed types earlier lent result work 3 speed-answered in
    let z : got a.ss ≡ got speedSteps = sym a.read ∙ speed-read in
    let y : a.ss ≡ speedSteps = cc in
    runs-to-its-end pool table speed types earlier lent result work 3 speed-answered (ap closedLine y ∙ speed-closed)

-- ══ Open references ══

-- x + kilometres is answered: x is bound to kilometres. Its run, which knows nothing of bindings, finds no dimension on the left
abbrev sum : List ℕ
sum = r 5 ++ c 0 ++ op 3

abbrev sumSteps : List (LineStep ℕ)
sumSteps = reference (opened (var 5)) ∷ constant (dim (to k 1 ∷ [])) ∷ joins adds ∷ []

sum-read : lineGiven (table_of pool table) sum types earlier ≡ got sumSteps
unfolding lines pool table placed
sum-read = refl

sum-answered : (checkLineCall pool table sum types earlier lent result work).answer ≡ got 2
unfolding lines pool table result work placed
sum-answered = refl

sum-stops : runLine (numbersOf (table_of pool table)) sumSteps ≡ fault notDimension
unfolding lines pool table
sum-stops = refl

-- so the promise is false without closed references
closed-needed : ¬ ((steps : List ℕ) (n : ℕ) (e : (checkLineCall pool table steps types earlier lent result work).answer ≡ got n)
    → RunsTo (numbersOf (table_of pool table)) (accepted-line pool table steps types earlier lent result work n e).ss
    (accepted-line pool table steps types earlier lent result work n e).type)
closed-needed claim =
    let a = accepted-line pool table sum types earlier lent result work 2 sum-answered in
    let z : got a.ss ≡ got sumSteps = sym a.read ∙ sum-read in
    let y : a.ss ≡ sumSteps = cc in
    let w = claim sum 2 sum-answered in
    let v : fault notDimension ≡ ran (w.left ∷ []) = sym (ap (runLine (numbersOf (table_of pool table))) y ∙ sum-stops) ∙ w.ends in
    cc
