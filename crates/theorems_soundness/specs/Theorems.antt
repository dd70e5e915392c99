-- What an accepted answer is worth, what the judge's verdicts say, and what adding's Violated is worth. The functions of src promise these
-- statements; their words stand in Claims, Excepted and in rules' Meaning, the proofs in proofs/.
use Rattle.std.specs.Prelude.{◌≡◌, Bool, true, false, List, [], ◌∷◌, ℕ}
use mathlib.Core.List.{Memᴰ}
use Rattle.rules.specs.Base.{got, bounded}
use Rattle.rules.specs.Trees.{Names, Con, Binding}
use Rattle.rules.specs.Plain.{plain}
use Rattle.rules.specs.Names.{table_of, numbersOf}
use Rattle.rules.specs.Writing.{head}
use Rattle.rules.specs.Adding.{violated, addTest}
use Rattle.rules.specs.Solving.{accepted, solve}
use Rattle.rules.specs.Meaning.{TrueUnder, Solves, Premise}
use Rattle.rules.specs.Judging.{judge}
use Rattle.rules.specs.Calls.{lentWork, solved, solveCall, addCall, Entry, judgeCall}
use Rattle.theorems_soundness.specs.Claims.{Ordered, Given, SolvedForm, Fails, YesOrLimits, Proposes, pointed, bindingsIn, boundsIn, SoundAnswer, JudgedSet}
use Rattle.theorems_soundness.specs.Excepted.{OtherFields, ViolatedLine}
use Rattle.theorems_soundness.specs.Examples.{names, held, k10, k10-bindings, fields, product, products, products-bindings}

-- ══ An accepted answer ══

-- its bindings and bounds are in solved form
abbrev pub AcceptedIsSolvedForm : Type 0 → Type 0
AcceptedIsSolvedForm N = (ν : Names N) (held : N → Bool) → Ordered ν held → (cs : List (Con N)) → Given ν held cs
    → (bs : List (Binding N)) (bounds : List N) (rounds : ℕ) → solve ν bounded cs ≡ accepted bs bounds rounds
    → SolvedForm ν held bs bounds

-- under its premise, putting all bindings in at once makes every given constraint true
abbrev pub AcceptedIsTrue : Type 0 → Type 0
AcceptedIsTrue N = (ν : Names N) (held : N → Bool) → Ordered ν held → (cs : List (Con N)) → Given ν held cs
    → (bs : List (Binding N)) (bounds : List N) (rounds : ℕ) → solve ν bounded cs ≡ accepted bs bounds rounds
    → Premise ν cs bs → Solves ν cs bs bounds

-- without its premise that is false:
pub record PremiseIsNeeded : Type 0 where
  -- K10, x y = x z then x = boolean, is a given set, it is accepted, and its answer doesn't make it true
  pub given : Given names held k10
  pub accepts : solve names bounded k10 ≡ accepted k10-bindings [] 3
  pub no-solution : ¬ (Solves names k10 k10-bindings [])
  -- so at these names not every accepted answer makes its set true
  pub needed : ¬ ((cs : List (Con ℕ)) (bs : List (Binding ℕ)) (bounds : List ℕ) (rounds : ℕ) → Given names held cs
      → solve names bounded cs ≡ accepted bs bounds rounds → Solves names cs bs bounds)

-- on the solver's own answer, under that premise, the judge says yes, 7 or 8
abbrev pub OwnAnswerIsConfirmed : Type 0 → Type 0
OwnAnswerIsConfirmed N = (ν : Names N) (held : N → Bool) → Ordered ν held → (cs : List (Con N)) → Given ν held cs
    → (bs : List (Binding N)) (bounds : List N) (rounds : ℕ) → solve ν bounded cs ≡ accepted bs bounds rounds
    → Premise ν cs bs → YesOrLimits (judge ν bounded bs bounds cs)

-- ══ The judge, whoever proposed the bindings ══

-- yes is said only where all constraints are true,
abbrev pub YesIsTrue : Type 0 → Type 0
YesIsTrue N = (ν : Names N) (cs : List (Con N)) (bs : List (Binding N)) (bounds : List N)
    → judge ν bounded bs bounds cs ≡ got true → Solves ν cs bs bounds

-- and no only where one fails
abbrev pub NoIsFailure : Type 0 → Type 0
NoIsFailure N = (ν : Names N) (cs : List (Con N)) (bs : List (Binding N)) (bounds : List N)
    → judge ν bounded bs bounds cs ≡ got false → Fails ν cs bs bounds

-- ══ The calls on words: what they check is what the theorems ask ══

abbrev pub AcceptedCallIsSound : Type 0
AcceptedCallIsSound = (pool table set result work : List ℕ) (records bounds rounds : ℕ)
    → (solveCall pool table set result work).answer ≡ solved records bounds rounds
    → SoundAnswer pool table set result work records bounds rounds

module _ (pool table set : List ℕ) (entries : List Entry) (types bounds work : List ℕ) where
  pub record Verdicts : Type 0 where
    pub yes : (judgeCall pool table set entries types bounds work).answer ≡ got true
        → JudgedSet pool table set entries types bounds (Solves (numbersOf (table_of pool table)))
    pub no : (judgeCall pool table set entries types bounds work).answer ≡ got false
        → JudgedSet pool table set entries types bounds (Fails (numbersOf (table_of pool table)))

abbrev pub JudgedCallsAreSound : Type 0
JudgedCallsAreSound = (pool table set : List ℕ) (entries : List Entry) (types bounds work : List ℕ)
    → Verdicts pool table set entries types bounds work

-- what solving wrote, judged where it stands: an entry for each written binding points at its type in the result buffer, the bounds are the
-- records behind the bindings, and nothing is copied
module _ (pool table set result work : List ℕ) (records bounds : ℕ) where
  abbrev written : List ℕ
  written = bindingsIn (solveCall pool table set result work).result records

  abbrev behind : List ℕ
  behind = boundsIn (solveCall pool table set result work).result records bounds

  pub record JudgedInPlace (cs : List (Con ℕ)) (bs : List (Binding ℕ)) (ns : List ℕ) : Type 0 where
    -- it can always be proposed to the judge
    pub proposed : (buffer : List ℕ) → lentWork buffer ≡ got tt → Proposes pool table set bs ns (pointed 0 written) written behind buffer
    -- and under the premise the judge says yes, 7 or 8
    pub confirmed : Premise (numbersOf (table_of pool table)) cs bs → (buffer : List ℕ) → lentWork buffer ≡ got tt
        → YesOrLimits (judgeCall pool table set (pointed 0 written) written behind buffer).answer

abbrev pub OwnWordsAreConfirmed : Type 0
OwnWordsAreConfirmed = (pool table set result work : List ℕ) (records bounds rounds : ℕ)
    → (solveCall pool table set result work).answer ≡ solved records bounds rounds
    → (a : SoundAnswer pool table set result work records bounds rounds) × JudgedInPlace pool table set result work records bounds a.cs a.bs a.ns

-- two bindings, (24,0,0,0)(4,0,0,0) with the lengths 2 and 1, are proposed by one entry: the variable 0, its type at the place 1
abbrev pub EntriesPointAtTypes : Type 0
EntriesPointAtTypes = pointed 0 (head 24 2 ∷ 0 ∷ 0 ∷ 0 ∷ head 4 1 ∷ 0 ∷ 0 ∷ 0 ∷ []) ≡ record { variable = 0; place = 1 } ∷ []

-- ══ A constraint that adding answers Violated ══

module _ {N : Type 0} (ν : Names N) where
  pub record Final (c : Con N) : Type 0 where
    -- whatever the bindings and bounds, and whoever proposed them: they don't make it true, except for one exception
    pub final : addTest ν c ≡ violated → (bs : List (Binding N)) (bounds : List N) → TrueUnder ν bs bounds c → OtherFields ν c
    -- the exception is exact: such an equality is answered Violated, and is true under all bindings and bounds
    pub exception-violated : OtherFields ν c → addTest ν c ≡ violated
    pub exception-true : OtherFields ν c → (bs : List (Binding N)) (bounds : List N) → TrueUnder ν bs bounds c
    -- it is about fields alone: reading (`plain`) changes neither type, and leaving out the fields of structs makes them equal
    pub exception-fields : (o : OtherFields ν c) → (plain o.left true ≡ o.left) × (plain o.right true ≡ o.right) × (plain o.left false ≡ plain o.right false)

abbrev pub ViolatedIsFinal : Type 0 → Type 0
ViolatedIsFinal N = (ν : Names N) (c : Con N) → Final ν c

-- so no accepted set holds one, under the premise,
abbrev pub NoneAccepted : Type 0 → Type 0
NoneAccepted N = (ν : Names N) (held : N → Bool) → Ordered ν held → (cs : List (Con N)) → Given ν held cs
    → (bs : List (Binding N)) (bounds : List N) (rounds : ℕ) → solve ν bounded cs ≡ accepted bs bounds rounds → Premise ν cs bs
    → (c : Con N) → Memᴰ c cs → addTest ν c ≡ violated → OtherFields ν c

-- nor does the judge say yes to a set that does
abbrev pub NoneJudged : Type 0 → Type 0
NoneJudged N = (ν : Names N) (cs : List (Con N)) (bs : List (Binding N)) (bounds : List N) → judge ν bounded bs bounds cs ≡ got true
    → (c : Con N) → Memᴰ c cs → addTest ν c ≡ violated → OtherFields ν c

-- on words: what the call answers Violated was read as a constraint, of which the same holds; and so no accepted answer of a set that holds it
module _ (pool table con : List ℕ) where
  pub record ViolatedWords : Type 0 where
    pub line : (buffer : List ℕ) (count records : ℕ) → (addCall pool table buffer count con).answer ≡ got (violated, records) → ViolatedLine pool table con
    pub accepts : (set result work : List ℕ) (records bounds rounds : ℕ)
        (l : ViolatedLine pool table con) (answer : SoundAnswer pool table set result work records bounds rounds)
        → Premise (numbersOf (table_of pool table)) answer.cs answer.bs → Memᴰ l.constraint answer.cs
        → OtherFields (numbersOf (table_of pool table)) l.constraint

abbrev pub ViolatedCallIsFinal : Type 0
ViolatedCallIsFinal = (pool table con : List ℕ) → ViolatedWords pool table con

-- the exception is real, and the premise is needed: both at the names of the examples
pub record ViolatedLimits : Type 0 where
  -- `P{} = P{f: boolean}` is answered Violated, solving accepts it in 1 round, the judge says yes, and it is the exception
  pub exception-violated : addTest names fields ≡ violated
  pub exception-accepted : solve names bounded (fields ∷ []) ≡ accepted [] [] 1
  pub exception-judged : judge names bounded [] [] (fields ∷ []) ≡ got true
  pub exception-met : OtherFields names fields
  pub exception : ¬ ((cs : List (Con ℕ)) (bs : List (Binding ℕ)) (bounds : List ℕ) (rounds : ℕ) → Given names held cs
      → solve names bounded cs ≡ accepted bs bounds rounds → Premise names cs bs → (c : Con ℕ) → Memᴰ c cs → ¬ (addTest names c ≡ violated))
  -- {x y = boolean, y = scalar} is accepted in 2 rounds with x y = boolean answered Violated; its premise doesn't hold, the judge says no, and so a
  -- constraint fails
  pub product-violated : addTest names product ≡ violated
  pub product-accepted : solve names bounded products ≡ accepted products-bindings [] 2
  pub product-outside : ¬ (Premise names products products-bindings)
  pub product-judged : judge names bounded products-bindings [] products ≡ got false
  pub product-fails : Fails names products products-bindings []
  pub premise : ¬ ((cs : List (Con ℕ)) (bs : List (Binding ℕ)) (bounds : List ℕ) (rounds : ℕ) → Given names held cs
      → solve names bounded cs ≡ accepted bs bounds rounds → (c : Con ℕ) → Memᴰ c cs → addTest names c ≡ violated → OtherFields names c)
