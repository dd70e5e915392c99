-- What each call comes to (docs/SERVE.md): the call's own definition of the rules on the words that were given, what is told of it in words,
-- and what all that is lent holds then.
use Rattle.std.specs.Prelude.{cond, min, ℕ, zero, suc, List, [], ◌∷◌, ◌++◌, length, take, drop, ◌==◌, slice_index}
use Rattle.std.proofs.lemmas.List.Edits.{sets}
use Rattle.rules.specs.Base.{Got, got, refused, collect}
use Rattle.rules.specs.Trees.{Product}
use Rattle.rules.specs.Products.{scalar}
use Rattle.rules.specs.Names.{Bytes, Entered, orderBytes, tableGiven, nameAsked, part_of, enter}
use Rattle.rules.specs.Values.{productValue, sumCall, timesCall, negationCall, quotientCall, multiplyCall, divideCall, inverseCall, raiseCall}
use Rattle.rules.specs.Calls.{
  Listed,
  Written,
  AddedTo,
  Solution,
  Judged,
  lent,
  setCall,
  typeCall,
  schemeCall,
  bindingsCall,
  containsCall,
  closedCall,
  variablesCall,
}
use Rattle.rules.specs.Calls.{addCall, replaceTypeCall, replaceSetCall, solveCall, quantifyCall, generaliseCall, instantiateCall, judgeCall}
use Rattle.rules.specs.Batches.{Batch, batchCall}
use Rattle.rules.specs.Ceiling.{ceilingCall}
use Rattle.rules.specs.Confirming.{confirmCall}
use Rattle.rules.specs.Lines.{checkLineCall}
use Rattle.judge_pairs.specs.Pairs.{entriesIn}
use Rattle.calls_defined.specs.Factors.{exponentAt, productAt, factorWords}
use Rattle.calls_defined.specs.Given.{nameIn}
use Rattle.calls_defined.specs.Saying.{word, saidAs, refusedAs, checkedAs, askedAs, numberAs, orderAs, powerAs}
use Rattle.calls_defined.specs.Saying.{countedAs, writtenAs, addedAs, solvedAs, ceilingAs, batchedAs}
use Rattle.calls_defined.specs.declared.Asked.{Asked}
use Rattle.calls_defined.specs.declared.numbers.Call.{Call}
use Rattle.calls_defined.specs.declared.numbers.Call.TheVariants.{
  CheckTable,
  NameOf,
  Enter,
  Compare,
  AddExponents,
  MultiplyExponents,
  NegateExponent,
  DivideExponents,
  MultiplyProducts,
  DivideProducts,
  InvertProduct,
  RaiseProduct,
  IsSet,
  IsType,
  IsScheme,
  IsBindings,
  Contains,
  Closed,
  Variables,
  Add,
  ReplaceInType,
  ReplaceInSet,
  Solve,
  Lent,
  Quantify,
  Generalise,
  Instantiate,
  Judge,
  Ceiling,
  SolveAll,
  CheckLine,
  Confirm,
}
use Rattle.calls_defined.specs.declared.told.Told.{Told}

-- ══ What a call leaves: what is told, and the buffers that it is lent to change ══

pub record Shown : Type 0 where
  pub told : Told
  pub result : List ℕ

pub record Done : Type 0 where
  pub told : Told
  pub result : List ℕ
  pub work : List ℕ

pub record Named : Type 0 where
  pub told : Told
  pub pool : List ℕ
  pub table : List ℕ
  pub result : List ℕ

pub record Served : Type 0 where
  pub told : Told
  pub pool : List ℕ
  pub table : List ℕ
  pub result : List ℕ
  pub work : List ℕ

abbrev pub shown : Told → List ℕ → Shown
shown t result = record { told = t; result = result }

abbrev pub done : Told → List ℕ → List ℕ → Done
done t result work = record { told = t; result = result; work = work }

abbrev pub named : Told → List ℕ → List ℕ → List ℕ → Named
named t pool table result = record { told = t; pool = pool; table = table; result = result }

abbrev pub served : Told → List ℕ → List ℕ → List ℕ → List ℕ → Served
served t pool table result work = record { told = t; pool = pool; table = table; result = result; work = work }

-- ══ Names ══

-- how many bytes the name has
abbrev pub nameAs : Got Bytes → Told
nameAs (got name) = saidAs 0 0 (length name)
nameAs (refused n) = refusedAs n 0 0

-- the bytes of the name with this number, a word each, as far as the result buffer goes
unfoldable pub naming : List ℕ → List ℕ → ℕ → List ℕ → Shown
naming pool table x result = shown (nameAs (nameAsked pool table x)) (sets result 0 (part_of (nameAsked pool table x)))

-- a place whose value is another one now, with this
abbrev pub change : ℕ → ℕ → ℕ → List ℕ
change i before after = cond (before == after) [] (i ∷ after ∷ [])

-- the places from i on, so many, where two lists differ, each with what stands there in the second
unfoldable pub changesFrom : List ℕ → List ℕ → ℕ → ℕ → List ℕ
changesFrom before after i zero = []
changesFrom before after i (suc n) = change i (slice_index before i) (slice_index after i) ++ changesFrom before after (suc i) n

-- the changed bytes of the pool, a word of ones, the changed words of the table; as far as the request's room for them goes
unfoldable pub changes : List ℕ → List ℕ → Entered → List ℕ
changes pool table e =
    changesFrom pool e.pool 0 (min (length pool) 9216)
    ++ 4_294_967_295
    ∷ changesFrom table e.table 0 (min (length table) 512)

unfoldable pub enteredAs : List ℕ → List ℕ → Entered → List ℕ → Named
enteredAs pool table e result = named (numberAs e.answer (length (changes pool table e))) e.pool e.table (sets result 0 (changes pool table e))

-- a name is entered; its number, and what that changed
unfoldable pub entering : List ℕ → List ℕ → List ℕ → List ℕ → Named
entering pool table b result = enteredAs pool table (enter pool table (nameIn b)) result

-- two names
unfoldable pub comparing : List ℕ → List ℕ → Told
comparing a b = orderAs (orderBytes (nameIn a) (nameIn b))

-- ══ Products ══

-- what is told of a product or, beside a refusal, of the scalar: all 64 places
abbrev pub productOr : Got (Product ℕ) → Product ℕ
productOr (got p) = p
productOr (refused n) = scalar

abbrev pub productAs : Got (Product ℕ) → Told
productAs (got p) = saidAs (word (length p)) 0 256
productAs (refused n) = refusedAs n 0 256

unfoldable pub productShown : Got (Product ℕ) → List ℕ → Shown
productShown m result = shown (productAs m) (sets result 0 (collect factorWords (productValue (productOr m)).factors))

-- ══ Lists that are written ══

abbrev pub listed : Listed → List ℕ → Done
listed l work = done (countedAs l.answer) l.result work

abbrev pub added : AddedTo → ℕ → List ℕ → Done
added s words work = done (addedAs s.answer words) s.buffer work

abbrev pub written : Written → Done
written w = done (writtenAs w.answer) w.result w.work

abbrev pub solution : Solution → Done
solution s = done (solvedAs s.answer) s.result s.work

-- ══ Whole sets beside solving ══

abbrev pub judged : Judged → List ℕ → Done
judged j result = done (askedAs j.answer) result j.work

-- several sets: the first n words of the result buffer are lent as the buffer of the answers, the others as the result buffer
abbrev pub batched : ℕ → Batch → Done
batched n s = done (batchedAs s.answer n) (s.answers ++ s.result) s.work

abbrev pub batchOf : ℕ → List ℕ → List ℕ → List ℕ → List ℕ → List ℕ → List ℕ → Done
batchOf n pool table a b result work = batched n (batchCall pool table a b (drop n result) (take n result) work)

-- ══ All calls ══

module _ (q : Asked) (pool table a b c d result work : List ℕ) where
  -- what is not lent to be changed stays
  abbrev says : Told → Served
  says t = served t pool table result work

  abbrev shows : Shown → Served
  shows s = served s.told pool table s.result work

  abbrev does : Done → Served
  does s = served s.told pool table s.result s.work

  abbrev enters : Named → Served
  enters s = served s.told s.pool s.table s.result work

  unfoldable pub dispatch : Call → Served
  dispatch CheckTable = says (checkedAs (tableGiven pool table))
  dispatch NameOf = shows (naming pool table q.x result)
  dispatch Enter = enters (entering pool table b result)
  dispatch Compare = says (comparing a b)
  dispatch AddExponents = says (powerAs (sumCall (exponentAt a 0) (exponentAt a 2)))
  dispatch MultiplyExponents = says (powerAs (timesCall (exponentAt a 0) (exponentAt a 2)))
  dispatch NegateExponent = says (powerAs (negationCall (exponentAt a 0)))
  dispatch DivideExponents = says (powerAs (quotientCall (exponentAt a 0) (exponentAt a 2)))
  dispatch MultiplyProducts = shows (productShown (multiplyCall pool table (productAt a q.x) (productAt b q.y)) result)
  dispatch DivideProducts = shows (productShown (divideCall pool table (productAt a q.x) (productAt b q.y)) result)
  dispatch InvertProduct = shows (productShown (inverseCall pool table (productAt a q.x)) result)
  dispatch RaiseProduct = shows (productShown (raiseCall pool table (productAt a q.x) (exponentAt b 0)) result)
  dispatch IsSet = says (checkedAs (setCall pool table a))
  dispatch IsType = says (checkedAs (typeCall pool table a))
  dispatch IsScheme = says (checkedAs (schemeCall pool table a))
  dispatch IsBindings = says (checkedAs (bindingsCall pool table a))
  dispatch Contains = says (askedAs (containsCall pool table a q.x (q.y == 1)))
  dispatch Closed = says (askedAs (closedCall pool table a))
  dispatch Variables = does (listed (variablesCall pool table a (q.y == 1) result) work)
  -- the set stands at the front of the result buffer before the call
  dispatch Add = does (added (addCall pool table (sets result 0 a) q.x b) (length a) work)
  dispatch ReplaceInType = does (written (replaceTypeCall pool table a b result work))
  dispatch ReplaceInSet = does (written (replaceSetCall pool table a b result work))
  dispatch Solve = does (solution (solveCall pool table a result work))
  dispatch Lent = says (checkedAs (lent pool table result work))
  dispatch Quantify = does (written (quantifyCall pool table a b c result work))
  dispatch Generalise = does (written (generaliseCall pool table a b result work))
  dispatch Instantiate = does (written (instantiateCall pool table a b result work))
  dispatch Judge = does (judged (judgeCall pool table a (entriesIn b) c d work) result)
  dispatch Ceiling = says (ceilingAs (ceilingCall pool table a))
  dispatch SolveAll = does (batchOf (min (min q.x 512) (length result)) pool table a b result work)
  dispatch CheckLine = does (written (checkLineCall pool table a b c d result work))
  dispatch Confirm = does (solution (confirmCall pool table a result work))
