-- The call: whatever is lent, a set that is solved has passed the checks at entry.
use Rattle.std.specs.Prelude.{◌≡◌, Bool, false, ◌&&◌, List, [], ◌∷◌, ℕ, ◌≤◌, ◌<◌, leb, length}
use Rattle.std.proofs.Math.Path.{refl}
use Rattle.std.proofs.Common.{ap, arith, leb-true}
use Rattle.std.proofs.Math.Bool.{true}
use Rattle.std.proofs.Math.Option.{Option, none, some}
use Rattle.rules.specs.Base.{Got, got, refused, ◌>>=◌, ◌>>◌, need, orRefuse, bounded, all, collect}
use Rattle.rules.specs.Trees.{Con, opensCon}
use Rattle.rules.specs.Names.{Table, table_of, tableGood, numbersOf, is_held, lentTable}
use Rattle.rules.specs.Contents.{unmixed}
use Rattle.rules.specs.WellFormed.{goodCon}
use Rattle.rules.specs.Writing.{writeCon}
use Rattle.rules.specs.Reading.{readCon, read_all, records}
use Rattle.rules.specs.Solving.{Answer, accepted, remaining, stopped, solve}
use Rattle.rules.specs.Calls.{
  lent,
  lentResult,
  lentWork,
  shortLists,
  listGiven,
  tableKept,
  setGiven,
  apart,
  aloneGiven,
  Solved,
  refusedAfter,
  solvedOf,
  solvedSet,
  solveCall,
}
use Rattle.rules.specs.Ceiling.{Ceiling, variablesOf, ceilingFor, ceilingCall}
use Rattle.laws.proofs.Size.{words-length, set-length}
use Rattle.laws.specs.ReadLists.{Words}
use Rattle.laws.proofs.ReadLists.{con-read, all_read, taken}
use Rattle.laws.specs.Lists.{and_left, and_right}
use Rattle.laws.proofs.Lists.{got≢refused}
use Rattle.laws.specs.NameTable.{Good}
use Rattle.laws.proofs.Value.{its_own}
use Rattle.theorems_ending.proofs.Yields.{Yields, yields, refuses, next, weaken, also}
use Rattle.theorems_ending.specs.Counted.{roundsOf, roundsIn, Admitted}

need-yields : (b : Bool) (n : ℕ) → 0 < n → Yields (need b n) (λ u. b ≡ true)
need-yields true n h = yields refl
need-yields false n h = refuses h

or-refuse : {A : Type 0} (n : ℕ) (o : Option A) → 0 < n → Yields (orRefuse n o) (λ a. o ≡ some a)
or-refuse n none h = refuses h
or-refuse n (some a) h = yields refl

-- a set that was given is well formed, and has a record for each four words
pub set-admitted : (t : Table) (ws : List ℕ) → Words ws → length ws ≤ 8192 → Yields (setGiven t ws) (Admitted (numbersOf t) (is_held t))
unfolding setGiven listGiven
set-admitted t ws w h =
    next (or-refuse 1 (records ws) (omega arith)) (λ rs e.
    next (or-refuse 1 (read_all readCon (length rs) rs) (omega arith)) (λ cs i.
    next (need-yields (all (goodCon (numbersOf t) (is_held t) 0) cs) 1 (omega arith)) (λ u g.
    let back = (taken ws w).back rs e in
    let same : rs ≡ collect writeCon cs = all_read writeCon readCon con-read (length rs) rs cs back.1 i in
    yields (record { good = g; small = omega (arith, words-length rs, ap length back.0, ap length same, set-length cs) }))))

-- the buffers that are lent are long enough
lent-yields : (pool table result work : List ℕ) → Yields (lent pool table result work) (λ u. (8192 ≤ length pool) × (257 ≤ length table))
unfolding lent lentTable lentResult lentWork
lent-yields pool table result work =
    let a = leb 8192 (length pool) in
    let b = leb 257 (length table) in
    next (next (need-yields (a && b) 10 (omega arith)) (λ u e. weaken (need-yields (leb 8192 (length result)) 10 (omega arith)) (λ v i. e))) (λ u t.
    weaken (need-yields (leb 16384 (length work)) 10 (omega arith)) (λ v i.
    (leb-true 8192 (length pool) (and_left a b t), leb-true 257 (length table) (and_right a b t))))

pub rounds-told : (a : Answer ℕ) → roundsIn (solvedOf (got a)) ≡ roundsOf a
unfolding solvedOf
rounds-told (accepted bs ns k) = refl
rounds-told (remaining cs k) = refl
rounds-told (stopped n k) = refl

pub stop-told : (a : Answer ℕ) (n k : ℕ) → solvedOf (got a) ≡ refusedAfter n k → a ≡ stopped n k
unfolding solvedOf
stop-told (accepted bs ns j) n k e = cc
stop-told (remaining cs j) n k e = cc
stop-told (stopped m j) n k e = cc

-- what holds of refusals at entry, which have a number and no rounds, and of the answer for every set that passed the checks, holds of the answer of the call
module _ (pool table set result work : List ℕ) (small : Words set) (Q : Solved → Type 0) (refusal : (n : ℕ) → 0 < n → Q (refusedAfter n 0))
    (every : Good pool table → (cs : List (Con ℕ)) → setGiven (table_of pool table) set ≡ got cs
    → Admitted (numbersOf (table_of pool table)) (is_held (table_of pool table)) cs
    → Q (solvedOf (got (solve (numbersOf (table_of pool table)) bounded cs)))) where
  abbrev call : Got (Answer ℕ)
  call = lent pool table result work >> solvedSet (table_of pool table) set

  set-solved : 8192 ≤ length pool → 257 ≤ length table → Yields (solvedSet (table_of pool table) set) (λ a. Q (solvedOf (got a)))
  unfolding solvedSet shortLists all tableKept apart
  set-solved h k =
      let t = table_of pool table in
      next (need-yields (leb (length set) 8192 && true) 8 (omega arith)) (λ u e.
      next (need-yields (tableGood t) 1 (omega arith)) (λ v g.
      next (also (set-admitted t set small (leb-true (length set) 8192 (and_left (leb (length set) 8192) true e))) (its_own (setGiven t set))) (λ cs i.
      next (need-yields (unmixed (numbersOf t) (collect opensCon cs)) 4 (omega arith)) (λ w m.
      yields (every (record { bytes = h; words = k; good = g }) cs i.1 i.0)))))

  call-solved : Yields call (λ a. Q (solvedOf (got a)))
  call-solved = next (lent-yields pool table result work) (λ u l. set-solved l.0 l.1)

  pub call-answers : Q (solveCall pool table set result work).answer
  unfolding solveCall solvedOf
  call-answers = go call refl
    where
      go : (m : Got (Answer ℕ)) → call ≡ m → Q (solvedOf m)
      go (refused n) e = refusal n (call-solved.numbered n e)
      go (got a) e = call-solved.value.holds a e

-- ══ The call that gives the ceiling ══

-- what is known where it gives one
pub record CeilingOf (pool table set : List ℕ) (m : Ceiling) : Type 0 where
  pub cons : List (Con ℕ)
  pub good : Good pool table
  pub given : setGiven (table_of pool table) set ≡ got cons
  pub admitted : Admitted (numbersOf (table_of pool table)) (is_held (table_of pool table)) cons
  pub is : m ≡ ceilingFor (length (variablesOf (numbersOf (table_of pool table)) cons))

-- the checks before a list is read
alone-yields : (pool table ws : List ℕ) → Yields (aloneGiven pool table ws) (λ u. Good pool table × (length ws ≤ 8192))
unfolding aloneGiven lentTable shortLists tableKept all
alone-yields pool table ws =
    let a = leb 8192 (length pool) in
    let b = leb 257 (length table) in
    let d = leb (length ws) 8192 in
    next {P = λ u. ((a && b) ≡ true) × ((d && true) ≡ true)}
    (next (need-yields (a && b) 10 (omega arith)) (λ u e. weaken (need-yields (d && true) 8 (omega arith)) (λ v i. (e, i)))) (λ u p.
    weaken (need-yields (tableGood (table_of pool table)) 1 (omega arith)) (λ v g. (
      record { bytes = leb-true 8192 (length pool) (and_left a b p.0); words = leb-true 257 (length table) (and_right a b p.0); good = g },
      leb-true (length ws) 8192 (and_left d true p.1),
    )))

pub ceiling-of : (pool table set : List ℕ) → Words set → (m : Ceiling) → ceilingCall pool table set ≡ got m → CeilingOf pool table set m
unfolding ceilingCall
ceiling-of pool table set small = call.value.holds
  where
    call : Yields (ceilingCall pool table set) (CeilingOf pool table set)
    call =
        next (alone-yields pool table set) (λ u p.
        next (also (set-admitted (table_of pool table) set small p.1) (its_own (setGiven (table_of pool table) set))) (λ cs i.
        yields (record { cons = cs; good = p.0; given = i.1; admitted = i.0; is = refl })))

-- the checks of the two calls, in their order: where those of the first stop, so do those of the second
both-stop : {A B C : Type 0} (l r w s k : Got (Unit {0})) (m : Got A) (f : A → C) (g : A → Got B) (n : ℕ)
    → ((l >> s >> k) >>= λ _. m >>= λ a. got (f a)) ≡ refused n
    → (j : ℕ) × (((l >> r >> w) >>= λ _. s >>= λ _. k >>= λ _. m >>= g) ≡ refused j)
both-stop (refused i) r w s k m f g n e = (i, refl)
both-stop (got u) (refused i) w s k m f g n e = (i, refl)
both-stop (got u) (got v) (refused i) s k m f g n e = (i, refl)
both-stop (got u) (got v) (got x) (refused i) k m f g n e = (i, refl)
both-stop (got u) (got v) (got x) (got y) (refused i) m f g n e = (i, refl)
both-stop (got u) (got v) (got x) (got y) (got z) (refused i) f g n e = (i, refl)
both-stop (got u) (got v) (got x) (got y) (got z) (got a) f g n e = absurd (got≢refused e)

-- where it gives none, solving is refused at entry
pub no-ceiling : (pool table set result work : List ℕ) (n : ℕ) → ceilingCall pool table set ≡ refused n
    → roundsIn (solveCall pool table set result work).answer ≡ 0
unfolding solveCall solvedOf ceilingCall lent solvedSet aloneGiven
no-ceiling pool table set result work n e =
    let t = table_of pool table in
    let (j, q) = both-stop (lentTable pool table) (lentResult result) (lentWork work) (shortLists (set ∷ [])) (tableKept t) (setGiven t set)
    (λ cs. ceilingFor (length (variablesOf (numbersOf t) cs))) (λ cs. apart t (collect opensCon cs) >> got (solve (numbersOf t) bounded cs)) n e in
    rw q
