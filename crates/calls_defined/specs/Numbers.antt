-- Which call has which number.
use Rattle.std.specs.Prelude.{cond, ℕ, List, [], ◌∷◌, Option, None, Some, ◌==◌}
use Rattle.calls_defined.specs.declared.numbers.Call.{Call}
use Rattle.calls_defined.specs.declared.numbers.Call.TheVariants.{
  CheckTable,
  NameOf,
  Enter,
  Compare,
  AddExponents,
  MultiplyExponents,
  NegateExponent,
  DivideExponents,
  MultiplyProducts,
  DivideProducts,
  InvertProduct,
  RaiseProduct,
  IsSet,
  IsType,
  IsScheme,
  IsBindings,
  Contains,
  Closed,
  Variables,
  Add,
  ReplaceInType,
  ReplaceInSet,
  Solve,
  Lent,
  Quantify,
  Generalise,
  Instantiate,
  Judge,
  Ceiling,
  SolveAll,
  CheckLine,
  Confirm,
}

-- what stands at a number in a table, if anything does
abbrev pub byNumber : {A : Type 0} → ℕ → List (ℕ × A) → Option A
byNumber n [] = None
byNumber n (x ∷ xs) = cond (n == x.0) (Some x.1) (byNumber n xs)

abbrev pub numbered : List (ℕ × Call)
numbered =
    (1, CheckTable)
    ∷ (2, NameOf)
    ∷ (3, Enter)
    ∷ (4, Compare)
    ∷ (5, AddExponents)
    ∷ (6, MultiplyExponents)
    ∷ (7, NegateExponent)
    ∷ (8, DivideExponents)
    ∷ (9, MultiplyProducts)
    ∷ (10, DivideProducts)
    ∷ (11, InvertProduct)
    ∷ (12, RaiseProduct)
    ∷ (13, IsSet)
    ∷ (14, IsType)
    ∷ (15, IsScheme)
    ∷ (16, IsBindings)
    ∷ (17, Contains)
    ∷ (18, Closed)
    ∷ (19, Variables)
    ∷ (20, Add)
    ∷ (21, ReplaceInType)
    ∷ (22, ReplaceInSet)
    ∷ (23, Solve)
    ∷ (24, Lent)
    ∷ (25, Quantify)
    ∷ (26, Generalise)
    ∷ (27, Instantiate)
    ∷ (28, Judge)
    ∷ (29, Ceiling)
    ∷ (30, SolveAll)
    ∷ (31, CheckLine)
    ∷ (32, Confirm)
    ∷ []

unfoldable pub callOf : ℕ → Option Call
callOf n = byNumber n numbered
