-- What is answered and left where no rule applies to a state.
use Rattle.std.specs.Prelude.{◌≡◌, List, ◌++◌, map, ℕ, ◌+◌, ◌*◌, length}
use Rattle.std.proofs.lemmas.List.Edits.{sets}
use Rattle.rules.specs.Base.{got, keep, collect, to_list, is_none, sum_of}
use Rattle.rules.specs.Calls.{Solved, solved, unsolved, solvedOf, solvedWords, resultAfter, over}
use Rattle.rules.specs.Contents.{sort}
use Rattle.rules.specs.Rounds.{State}
use Rattle.rules.specs.Solving.{Answer, accepted, remaining, stopped, boundOf, finish}
use Rattle.rules.specs.Trees.{var, Con, Binding, sizeCon}
use Rattle.rules.specs.Writing.{Rec, words, writeCon, writeBinding, writeBound}
use Rattle.records.specs.Good.{numbers}
use Rattle.records.specs.Holds.{HoldsBounds}
use Rattle.types.specs.Binds.{IsBinds}
use Rattle.types.specs.Sets.{IsCons}
use Rattle.solve_finish.specs.declared.Finish.{Finish}
use Rattle.solve_finish.specs.declared.Finish.TheVariants.{Solved as Bound, Unsolved}

-- the constraints that are no bounds
abbrev pub others : List (Con ℕ) → List (Con ℕ)
others cs = keep (λ c. is_none (boundOf c)) cs

-- these constraints were written from `out` on, and r is the place past them
pub record Copied (d d' : List ℕ) (out r : ℕ) (cs : List (Con ℕ)) : Type 0 where
  pub many : r ≡ out + sum_of sizeCon cs
  pub buffer : d' ≡ sets d (out * 4) (words (collect writeCon cs))

abbrev pub boundRec : ℕ → Rec
boundRec n = writeBound (var n)

abbrev pub toldFinish : Finish → ℕ → Solved
toldFinish (Bound b n) k = solved b n k
toldFinish (Unsolved r) k = unsolved r k

-- bounds one after another, from a place up to another
pub record IsBounds (s : List ℕ) (at end : ℕ) (ns : List ℕ) : Type 0 where
  pub held : HoldsBounds s (map (λ n. var n) ns) at
  pub ends : end ≡ at + length ns

-- bindings in the records up to b, and n bounds behind them
pub record IsSolved (s : List ℕ) (b n : ℕ) (bs : List (Binding ℕ)) (ns : List ℕ) : Type 0 where
  pub binds : IsBinds s 0 b bs
  pub bounds : IsBounds s b (b + n) ns

-- the rows of an answer after k rounds stand at the front of a buffer, and f says how many they are
abbrev pub Rows : List ℕ → Finish → ℕ → Answer ℕ → Type 0
Rows s (Bound b n) k (accepted bs ns j) = (k ≡ j) × IsSolved s b n bs ns
Rows s (Bound b n) k (remaining cs j) = ⊥
Rows s (Bound b n) k (stopped i j) = ⊥
Rows s (Unsolved n) k (accepted bs ns j) = ⊥
Rows s (Unsolved n) k (remaining cs j) = (k ≡ j) × IsCons s 0 n cs
Rows s (Unsolved n) k (stopped i j) = ⊥

module _ (pool table : List ℕ) (st : State ℕ) where
  -- the bounds of a state
  abbrev pub bounds : List ℕ
  bounds = sort (numbers pool table) (collect (λ c. to_list (boundOf c)) st.cons)

  -- bindings, then bounds, in the result buffer, and how many bounds
  pub record Accepted (result result' : List ℕ) (b r : ℕ) : Type 0 where
    pub rows : IsSolved result' b r st.binds bounds
    pub many : r ≡ length bounds
    pub buffer : result' ≡ over (words (collect writeBinding st.binds ++ map boundRec bounds)) result

  -- as the rules finish after k rounds, whatever k is
  pub record Finished (result result' : List ℕ) (r : Finish) : Type 0 where
    pub answer : (k : ℕ) → toldFinish r k ≡ solvedOf (got (finish (numbers pool table) k st))
    pub rows : (k : ℕ) → Rows result' r k (finish (numbers pool table) k st)
    pub buffer : (k : ℕ) → result' ≡ resultAfter (solvedWords (got (finish (numbers pool table) k st))) result
