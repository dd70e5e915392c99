-- What the contract of the check of a line decides. The functions of src/theorems promise these statements; the proofs stand in
-- proofs/Determined.
use Rattle.std.specs.Prelude.{Result, ◌≡◌, List, ℕ}
use Rattle.rules.specs.Lines.{checkLineCall}
use Rattle.rules.specs.Numbers.{written, number}
use Rattle.rules.specs.declared.Refusal.{Refusal}
use Rattle.records_buffers.specs.Told.{writtenAs}
use Rattle.records_buffers.specs.Determined.{OneResult}
use Rattle.rules.specs.Refusals.{numberAnswer}

-- the contract of `check_line` leaves no choice: two results that it allows coincide, the answer and both buffers
abbrev pub CheckLineDetermined : Type 0
CheckLineDetermined = (pool table steps types lines names result work : List ℕ) (p q : Result ℕ Refusal) (a b c d : List ℕ)
    → writtenAs p a c ≡ checkLineCall pool table steps types lines names result work
    → writtenAs q b d ≡ checkLineCall pool table steps types lines names result work
    → OneResult p q a b c d

-- and the answer has the number of its outcome: 11 where the judge says no
abbrev pub CheckLineNumbered : Type 0
CheckLineNumbered = (pool table steps types lines names result work : List ℕ) (p : Result ℕ Refusal) (a c : List ℕ)
    → writtenAs p a c ≡ checkLineCall pool table steps types lines names result work
    → numberAnswer p ≡ number (written (checkLineCall pool table steps types lines names result work))
