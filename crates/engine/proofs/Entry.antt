-- What the checks of a set say of the whole call, and the set as a value.
use Rattle.std.specs.Prelude.{Result, Ok, Err, IfOk, ◌≡◌, refl, List, [], ◌∷◌, ℕ, ◌/◌, length, replicate}
use Rattle.std.proofs.Common.{ap, sym, subst, ◌∙◌}
use Rattle.rules.specs.Base.{Got, got, refused, ◌>>=◌, collect}
use Rattle.rules.specs.Calls.{shortLists, tableKept, setGiven, apart, lent, resultAfter, workAfter}
use Rattle.rules.specs.Names.{Table, table_of, tableGiven, lentTable, numbersOf}
use Rattle.rules.specs.Refusals.{toldBy}
use Rattle.rules.specs.Trees.{Con, opensCon}
use Rattle.rules.specs.declared.Refusal.{Refusal}
use Rattle.rules.specs.declared.Refusal.TheVariants.{ShortBuffer}
use Rattle.rules.specs.Elimination.{Settled, setChecked, fitting, eliminated, eliminatedSet, eliminatedOf, eliminatedWords, eliminateCall}
use Rattle.laws.proofs.Lists.{bracket}
use Rattle.names.specs.Told.{unit_of}
use Rattle.names.specs.declared.tables.NameTable.{NameTable}
use Rattle.records.specs.Found.{Words32}
use Rattle.records.specs.Good.{Chain, GoodCon}
use Rattle.records.proofs.Whole.{set_is}
use Rattle.types.specs.Given.{call_over, constraints_in, entered}
use Rattle.types.specs.Sets.{IsCons, Cons, one-set}
use Rattle.types.specs.declared.GivenSet.{GivenSet}
use Rattle.types.proofs.Entering as entering
use Rattle.types.proofs.Entering.{made}
use Rattle.types.proofs.GivenLists.{set-row}
use Rattle.types.proofs.GivenSets.{Given}
use Rattle.engine.specs.Reducing.{reduction}
use Rattle.engine.specs.Told.{Answer, Answered, eliminationAs}

-- ══ The checks of this call ══

-- a row of checks, and what comes of it, bracketed to the right
to-right : {A B : Type 0} (s k : Got (Unit {0})) (m : Got A) (u : A → Got (Unit {0})) (g : A → Got B)
    → ((s >>= λ _. k >>= λ _. m >>= λ a. u a >>= λ _. got a) >>= g) ≡ (s >>= λ _. k >>= λ _. m >>= λ a. u a >>= λ _. g a)
to-right (refused i) k m u g = refl
to-right (got x) (refused i) m u g = refl
to-right (got x) (got y) (refused i) u g = refl
to-right (got x) (got y) (got a) u g = bracket (u a) (λ _. got a) g

-- what the engine makes of a set whose names are apart
abbrev settle : Table → List (Con ℕ) → Got (Settled ℕ)
settle t cs = fitting (numbersOf t) cs >>= λ ps. eliminated (numbersOf t) ps

module _ (ws : List ℕ) where
  at_once : (t : Table) → eliminatedSet t ws ≡ made settle t ws
  unfolding eliminatedSet setChecked
  at_once t = to-right (shortLists (ws ∷ [])) (tableKept t) (setGiven t ws) (λ cs. apart t (collect opensCon cs)) (settle t)

  module _ (names : Result NameTable Refusal) where
    over_once : call_over names eliminatedSet ws ≡ call_over names (made settle) ws
    over_once = go names
      where
        go : (r : Result NameTable Refusal) → call_over r eliminatedSet ws ≡ call_over r (made settle) ws
        go (Ok n) = at_once (table_of n.pool.now n.table.now)
        go (Err why) = refl

    pub came-in : (s : GivenSet) → names ≡ Ok s.names → got (constraints_in s) ≡ entered names ws
        → call_over names eliminatedSet ws ≡ reduction s.names.pool.now s.names.table.now (constraints_in s)
    came-in s i e = over_once ∙ entering.came-in settle ws names s i e

    pub kept_out : (n : ℕ) → refused n ≡ entered names ws → call_over names eliminatedSet ws ≡ refused n
    kept_out n e = over_once ∙ entering.kept_out settle ws names n e

    -- over the table that was tested it is what the call asks
    pub over_tested : (pool table : List ℕ) → lentTable pool table ≡ got tt → toldBy unit_of names ≡ tableGiven pool table
        → IfOk names (λ n. (n.pool.now ≡ pool) × (n.table.now ≡ table)) → call_over names eliminatedSet ws ≡ eliminatedSet (table_of pool table) ws
    over_tested pool table l e i =
        over_once ∙ ap (λ (f : List ℕ → Got (Settled ℕ)). f ws) (entering.over_tested settle pool table l names e i) ∙ sym (at_once (table_of pool table))

-- ══ The set as a value ══

module _ (ws : List ℕ) (w : Words32 ws) (s : GivenSet) (x : Given ws s) where
  abbrev pool : List ℕ
  pool = s.names.pool.now

  abbrev table : List ℕ
  table = s.names.table.now

  chain : Chain (GoodCon pool table 0 ws) (length ws / 4) (constraints_in s) 0
  chain = set_is pool table ws w (constraints_in s) x.is

  pub stands : IsCons ws 0 (length ws / 4) (constraints_in s)
  stands = let r = set-row pool table ws 0 (constraints_in s) chain in record { held = r.held; ends = r.ends }

  -- whichever constraints stand there, they are these
  module _ (set : List (Con ℕ)) (h : IsCons ws 0 (length ws / 4) set) where
    same-set : set ≡ constraints_in s
    same-set = ap (λ (c : Cons ws 0 (length ws / 4)). c.0) (one-set ws 0 (length ws / 4) (set, h) (constraints_in s, stands))

    pub set-held : Chain (GoodCon pool table 0 ws) (length ws / 4) set 0
    set-held = subst (λ (l : List (Con ℕ)). Chain (GoodCon pool table 0 ws) (length ws / 4) l 0) (sym same-set) chain

    pub reduced-set : {m : Got (Settled ℕ)} → m ≡ reduction pool table set → m ≡ reduction pool table (constraints_in s)
    reduced-set i = i ∙ ap (reduction pool table) same-set

-- ══ The call ══

pub answers-as : (a b : Got (Settled ℕ)) (result result' : List ℕ) (o : Answer) → a ≡ b → Answered b result result' o → Answered a result result' o
answers-as a b result result' o e h = rw e h

module _ (pool table ws result work : List ℕ) where
  pub call-short : lent pool table result work ≡ refused 10 → eliminationAs (Err ShortBuffer) result work ≡ eliminateCall pool table ws result work
  unfolding eliminateCall eliminatedOf eliminatedWords resultAfter workAfter
  call-short e = rw e

  pub called : (w result' work' : List ℕ) (o : Answer) → length w ≡ length work → lent pool table result work ≡ got tt
      → Answered (eliminatedSet (table_of pool table) ws) result result' o → work' ≡ replicate (length w) 0
      → eliminationAs o result' work' ≡ eliminateCall pool table ws result work
  unfolding eliminateCall workAfter
  called w result' work' o n e a z = rw (e, a.answer, a.buffer, z, n)
