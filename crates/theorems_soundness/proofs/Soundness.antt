-- What an accepted answer is worth, and what the judge's verdicts say. The words stand in Claims and in rules' Meaning, the proofs in the other files.
use Rattle.std.specs.Prelude.{◌≡◌, refl, Bool, true, false, List, [], ◌∷◌, ℕ}
use Rattle.rules.specs.Base.{got, bounded}
use Rattle.rules.specs.Trees.{Names, Con, Binding}
use Rattle.rules.specs.Writing.{head, kindIn}
use Rattle.rules.specs.Solving.{accepted, solve}
use Rattle.rules.specs.Meaning.{Solves, Premise}
use Rattle.rules.specs.Judging.{judge}
use Rattle.rules.specs.Names.{table_of, numbersOf}
use Rattle.rules.specs.Calls.{lentWork, solved, solveCall, Entry, judgeCall}
use Rattle.theorems_soundness.specs.Claims.{Ordered, Given, SolvedForm, Fails, YesOrLimits, Proposes, pointed, bindingsIn, boundsIn, SoundAnswer, JudgedSet}
use Rattle.theorems_soundness.proofs.Form as Form
use Rattle.theorems_soundness.proofs.Runs as Runs
use Rattle.theorems_soundness.proofs.Judged as Judged
use Rattle.theorems_soundness.proofs.Words as Words
use Rattle.theorems_soundness.proofs.Own as Own
use Rattle.theorems_soundness.specs.Examples.{names, held, k10, k10-bindings}
use Rattle.theorems_soundness.proofs.Instances.{ordered, k5, k5-bindings, k5-given, k5-accepted, k5-premise, k10-given, k10-accepted, k10-judged}

-- ══ An accepted answer ══

module _ {N : Type 0} (ν : Names N) (held : N → Bool) (order : Ordered ν held) (cs : List (Con N)) (given : Given ν held cs)
    (bs : List (Binding N)) (bounds : List N) (rounds : ℕ) (accepts : solve ν bounded cs ≡ accepted bs bounds rounds) where
  -- its bindings and bounds are in solved form
  pub solved-form : SolvedForm ν held bs bounds
  solved-form = Form.solved-form ν held order cs given bs bounds rounds accepts

  -- soundness: under its premise, putting all bindings in at once makes every given constraint true
  pub accepted-true : Premise ν cs bs → Solves ν cs bs bounds
  accepted-true premise = Runs.solves ν held order cs bs bounds given rounds accepts premise

  -- on the solver's own answer, under the premise of soundness, the judge says yes, 7 or 8
  pub own-answer : Premise ν cs bs → YesOrLimits (judge ν bounded bs bounds cs)
  own-answer premise = Judged.solution-judged ν bs bounds cs (accepted-true premise)

-- ══ The judge, whoever proposed the bindings ══

module _ {N : Type 0} (ν : Names N) (cs : List (Con N)) (bs : List (Binding N)) (bounds : List N) where
  -- yes is said only for a solution, in the sense of soundness
  pub yes-solves : judge ν bounded bs bounds cs ≡ got true → Solves ν cs bs bounds
  yes-solves says = Judged.yes-solves ν bs bounds cs says

  -- 'and no only where a constraint fails'
  pub no-fails : judge ν bounded bs bounds cs ≡ got false → Fails ν cs bs bounds
  no-fails says = Judged.no-fails ν bs bounds cs says

-- ══ The calls on words: what they check is what the theorems ask ══

pub solve-call : (pool table set result work : List ℕ) (records bounds rounds : ℕ)
    → (solveCall pool table set result work).answer ≡ solved records bounds rounds → SoundAnswer pool table set result work records bounds rounds
solve-call = Words.solve-call

module _ (pool table set : List ℕ) (entries : List Entry) (types bounds work : List ℕ) where
  pub judge-call-yes : (judgeCall pool table set entries types bounds work).answer ≡ got true
      → JudgedSet pool table set entries types bounds (Solves (numbersOf (table_of pool table)))
  judge-call-yes says = Words.judge-call-yes pool table set entries types bounds work says

  pub judge-call-no : (judgeCall pool table set entries types bounds work).answer ≡ got false
      → JudgedSet pool table set entries types bounds (Fails (numbersOf (table_of pool table)))
  judge-call-no says = Words.judge-call-no pool table set entries types bounds work says

-- what solving wrote, judged where it stands: an entry for each written binding points at its type in the result buffer, the bounds are the
-- records behind the bindings, and nothing is copied
module _ (pool table set result work : List ℕ) (records bounds rounds : ℕ)
    (accepts : (solveCall pool table set result work).answer ≡ solved records bounds rounds) where
  abbrev answer : SoundAnswer pool table set result work records bounds rounds
  answer = solve-call pool table set result work records bounds rounds accepts

  abbrev written : List ℕ
  written = bindingsIn (solveCall pool table set result work).result records

  abbrev behind : List ℕ
  behind = boundsIn (solveCall pool table set result work).result records bounds

  -- it can always be proposed to the judge
  pub own-proposed : (buffer : List ℕ) → lentWork buffer ≡ got tt → Proposes pool table set answer.bs answer.ns (pointed 0 written) written behind buffer
  own-proposed = Own.own-proposed pool table set result work records bounds rounds answer

  -- and under the premise of soundness the judge says yes, 7 or 8
  pub own-words : Premise (numbersOf (table_of pool table)) answer.cs answer.bs → (buffer : List ℕ) → lentWork buffer ≡ got tt
      → YesOrLimits (judgeCall pool table set (pointed 0 written) written behind buffer).answer
  own-words premise buffer lent = answer.judged premise (pointed 0 written) written behind buffer (own-proposed buffer lent)

-- ══ Instances ══

pub k5-solved : Solves names k5 k5-bindings []
k5-solved = accepted-true names held ordered k5 k5-given k5-bindings [] 1 k5-accepted k5-premise

-- K2's whole answer, (24,0,0,0)(4,0,0,0) with the lengths 2 and 1, is proposed by one entry: the variable 0, its type at the place 1
pub k2-entries : pointed 0 (head 24 2 ∷ 0 ∷ 0 ∷ 0 ∷ head 4 1 ∷ 0 ∷ 0 ∷ 0 ∷ []) ≡ record { variable = 0; place = 1 } ∷ []
unfolding pointed head kindIn
k2-entries = refl

pub k10-fails : Fails names k10 k10-bindings []
k10-fails = no-fails names k10 k10-bindings [] k10-judged

-- so soundness is false without its premise
pub premise-needed : ¬ ((cs : List (Con ℕ)) (bs : List (Binding ℕ)) (bounds : List ℕ) (rounds : ℕ) → Given names held cs
    → solve names bounded cs ≡ accepted bs bounds rounds → Solves names cs bs bounds)
premise-needed claim = k10-fails.fails (claim k10 k10-bindings [] 3 k10-given k10-accepted k10-fails.constraint k10-fails.given)
