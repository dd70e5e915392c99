-- What a line is answered depends on the names of a table, the lent ones and all others, by the order of their bytes alone.
use Rattle.std.specs.Prelude.{◌≡◌, ltb, leb, length, drop}
use Rattle.std.proofs.Math.Path.{refl, ap, ap₂, sym, fun_ext}
use Rattle.std.proofs.Common.{◌∙◌}
use Rattle.std.proofs.Math.Bool.{Bool}
use Rattle.std.proofs.Math.Option.{some}
use mathlib.Core.List.{List, [], ◌∷◌}
use Prim.Native.Nat.{ℕ, ◌*◌, Ordering}
use Rattle.std.proofs.Math.Decide.{ℕ_discrete}
use Rattle.rules.specs.Base.{Got, got, ◌>>=◌, ◌>>◌, need, orRefuse, and_then, all, each}
use Rattle.rules.specs.Trees.{Names, Ty}
use Rattle.rules.specs.Contents.{closed}
use Rattle.rules.specs.Names.{Table, table_of, tableGood, numbered, numbersOf, is_held, lentTable, tableGiven}
use Rattle.rules.specs.Writing.{Rec, writeTy}
use Rattle.rules.specs.Reading.{records, readTy}
use Rattle.rules.specs.WellFormed.{goodTy}
use Rattle.rules.specs.Calls.{type_at, lentResult, lentWork, lent, tableKept, writing}
use Rattle.laws.proofs.Checks.{first-passed}
use Rattle.laws.proofs.NameTable.{given-good}
use Rattle.rules.specs.Steps.{
  LineStep,
  constant,
  reference,
  StepWords,
  four,
  stepWords,
  StepKind,
  isConstant,
  isReference,
  isRaise,
  isChoose,
  isTwo,
  stepNumbers,
  stepKind,
  zeros,
  number_at,
  constantAt,
  referenceTo,
  raiseBy,
  step_of,
  stepGiven,
  whole,
  lineGiven,
}
use Rattle.rules.specs.Lines.{lineType, fresh, lineLent, lineShort, checkedLine, checkLineCall}
use Rattle.theorems_lines.specs.Claims.{SameOrder}

module _ (t t' : Table) (s : SameOrder t t') where
  names_same : numbersOf t ≡ numbersOf t'
  unfolding numbered
  names_same = ap (λ (o : ℕ → ℕ → Ordering). record { same = ℕ_discrete; order = o }) (fun_ext (λ i. fun_ext (λ j. s.order i j)))

  held_same : is_held t ≡ is_held t'
  held_same = fun_ext (λ i. ap (ltb i) s.as_many)

  type-same : type_at t ≡ type_at t'
  unfolding type_at
  type-same = fun_ext (λ rs. fun_ext (λ i. ap₂
      (λ (ν : Names ℕ) (h : ℕ → Bool). orRefuse 1 (and_then (readTy 64 (drop i rs)) (λ r. some r.0)) >>= λ ty. need (goodTy ν h 0 ty) 1
      >>= λ _. got ty) names_same held_same))

  kind-same : (rs : List Rec) (lines : List ℕ) (k : StepKind) (a b c : ℕ) → step_of t rs lines k a b c ≡ step_of t' rs lines k a b c
  unfolding step_of constantAt referenceTo raiseBy
  kind-same rs lines isConstant a b c = ap
      (λ (f : List Rec → ℕ → Got (Ty ℕ)). zeros (b ∷ c ∷ []) >> (f rs a >>= λ ty. need (closed ty) 1 >>= λ _. got (constant ty))) type-same
  kind-same rs lines isReference a b c = ap
      (λ (f : List Rec → ℕ → Got (Ty ℕ)). zeros (b ∷ c ∷ []) >> (orRefuse 1 (number_at lines a) >>= λ p. f rs p >>= λ ty. got (reference ty)))
      type-same
  kind-same rs lines isRaise a b c = refl
  kind-same rs lines isChoose a b c = refl
  kind-same rs lines (isTwo o) a b c = refl

  step_by : (rs : List Rec) (lines : List ℕ) (w : StepWords) → stepGiven t rs lines w ≡ stepGiven t' rs lines w
  unfolding stepGiven
  step_by rs lines (four k a b c) = ap (λ (f : StepKind → Got (LineStep ℕ)). orRefuse 1 (stepKind k stepNumbers) >>= f)
      (fun_ext (λ kind. kind-same rs lines kind a b c))

  step_same : (rs : List Rec) (lines : List ℕ) → stepGiven t rs lines ≡ stepGiven t' rs lines
  step_same rs lines = fun_ext (step_by rs lines)

  line_same : (steps types lines : List ℕ) → lineGiven t steps types lines ≡ lineGiven t' steps types lines
  unfolding lineGiven
  line_same steps types lines = ap (λ (f : List Rec → StepWords → Got (LineStep ℕ)). orRefuse 1 (stepWords steps)
      >>= λ ws. orRefuse 1 (records types) >>= λ rs. each (f rs) ws >>= λ ss. need (whole 0 ss) 1 >>= λ _. got ss)
      (fun_ext (λ rs. step_same rs lines))

  checked-same : tableGood t ≡ tableGood t' → (steps types lines names : List ℕ)
      → checkedLine t steps types lines names ≡ checkedLine t' steps types lines names
  unfolding checkedLine tableKept
  checked-same g steps types lines names =
      ap (λ (b : Bool). over b (lineGiven t steps types lines) (is_held t) (numbersOf t)) g
      ∙ ap (λ (m : Got (List (LineStep ℕ))). over (tableGood t') m (is_held t) (numbersOf t)) (line_same steps types lines)
      ∙ ap₂ (λ (h : ℕ → Bool) (ν : Names ℕ). over (tableGood t') (lineGiven t' steps types lines) h ν) held_same names_same
    where
      over : Bool → Got (List (LineStep ℕ)) → (ℕ → Bool) → Names ℕ → Got (List Rec)
      over b m h ν = lineShort steps types lines names >>= λ _. need b 1 >>= λ _. m >>= λ ss. need (fresh names ss) 4 >>= λ _. need (all h names) 3
          >>= λ _. lineType ν ss names >>= λ ty. got (writeTy ty)

-- the whole outcome, answer and buffers
module _ (pool table pool' table' : List ℕ) (given : tableGiven pool table ≡ got tt) (given' : tableGiven pool' table' ≡ got tt)
    (s : SameOrder (table_of pool table) (table_of pool' table')) where
  good : tableGood (table_of pool table) ≡ tableGood (table_of pool' table')
  good = (given-good given).good ∙ sym (given-good given').good

  room : lentTable pool table ≡ lentTable pool' table'
  unfolding tableGiven
  room = first-passed _ tt (lentTable pool table) given ∙ sym (first-passed _ tt (lentTable pool' table') given')

  pub order-alone : (steps types lines names result work : List ℕ)
      → checkLineCall pool table steps types lines names result work ≡ checkLineCall pool' table' steps types lines names result work
  unfolding checkLineCall lineLent lent
  order-alone steps types lines names result work =
      ap₂ (λ (r : Got (Unit {0})) (m : Got (List Rec)). writing
      (r >> lentResult result >> lentWork work >> need (leb (length steps) (length names * 4)) 10) m result work)
      room (checked-same (table_of pool table) (table_of pool' table') s good steps types lines names)
