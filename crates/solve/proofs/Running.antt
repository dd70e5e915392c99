-- What follows from the definitions of specs/Running: round after round: what is left to do is what solving answers.
use Rattle.std.proofs.Math.Path.{◌≡◌, refl, sym, ap, subst}
use Rattle.std.proofs.Common.{◌∙◌, add-one, arith}
use mathlib.Core.List.{List, []}
use Rattle.std.proofs.Math.Option.{Option, none, some}
use Prim.Native.Nat.{ℕ, zero, suc, ◌+◌, ◌*◌, ◌/◌, ◌≤◌}
use Rattle.std.proofs.Math.ListN.{length}
use Rattle.std.proofs.lemmas.List.Edits.{sets}
use Rattle.std.proofs.Math.Seq.{slice}
use Rattle.rules.specs.Base.{Got, got, refused, bounded, all, collect, sum_of}
use Rattle.rules.specs.Calls.{solvedOf, solvedWords, resultAfter}
use Rattle.rules.specs.Refusals.{number_of}
use Rattle.rules.specs.Rounds.{State, round}
use Rattle.rules.specs.Solving.{Answer, stopped, finish, after, enough, run, solve}
use Rattle.rules.specs.Trees.{Con, sizeCon}
use Rattle.rules.specs.Writing.{words, writeCon}
use Rattle.rules.specs.declared.Refusal.{Refusal}
use Rattle.laws.specs.NameTable.{Good}
use Rattle.records.specs.Good.{numbers, holding}
use Rattle.theorems_ending.proofs.Ending.{ends}
use Rattle.theorems_ending.proofs.Sets.{Admitted, start}
use Rattle.solve_round.specs.declared.After.{After}
use Rattle.solve_round.specs.declared.After.TheVariants.{Nowhere, Read, Written}
use Rattle.solve_round.specs.declared.Place.{Place}
use Rattle.replace.proofs.Kept.{cons-weaker}
use Rattle.replace.proofs.Written.{written-cons}
use Rattle.types.proofs.Puts.{set-words}
use Rattle.types.specs.Sets.{IsCons}
use Rattle.types.specs.Runs.{HoldsEach}
use Rattle.solve_round.specs.States.{Placed, Rounded, Stands}
use Rattle.std.specs.Prelude.{Result, Ok, Err}
use Rattle.solve_finish.specs.Told.{Finished}
use Rattle.solve_finish.specs.declared.Finish.{Finish}
use Rattle.solve.specs.declared.Solution.{Solution}
use Rattle.solve.specs.Told.{toldSolution, refusedAs, Answered}
use Rattle.solve.specs.Running.{Begun}

module _ (pool table : List ℕ) where
  -- copied to the front of a buffer it is a state
  pub begun-state : (ws d d' : List ℕ) (n : ℕ) (cs : List (Con ℕ)) → Begun pool table ws cs → n ≡ length ws / 4 → 8192 ≤ length d
      → d' ≡ sets d 0 (slice 0 (n * 4) ws)
      → Placed pool table d' (record { start = 0; stuck = 0; ends = record { constraints = n; bindings = n } }) (start cs)
  unfolding HoldsEach all
  begun-state ws d d' n cs b i room e =
      let m : 0 + sum_of sizeCon cs ≡ n = omega (arith, b.held.ends, i) in
      let h : IsCons ws 0 n cs = rw i b.held in
      let w : d' ≡ sets d 0 (words (collect writeCon cs)) = e ∙ ap (sets d 0) (set-words ws 0 n (cs, h) (omega (arith, i))) in
      let few : sum_of sizeCon cs ≤ 2048 = omega (arith, m, i, b.short) in
      let there : IsCons d' 0 n cs = rw m at (written-cons pool table d d' 0 cs w (omega (arith, few, room)) (cons-weaker pool table cs b.sound.good)) in
      record {
        held = record {
          cons = there;
          binds = record { held = tt; ends = omega arith };
          sound_cons = b.sound;
          sound_binds = record { good = refl; flat = omega arith };
          short = omega (arith, i, b.short);
        };
        front = record { passed = []; left = cs; are = refl; there = record { held = tt; ends = omega arith }; stay = there; idle = tt };
      }

  -- the answer of solving cs
  abbrev pub answer_of : List (Con ℕ) → Answer ℕ
  answer_of cs = solve (numbers pool table) bounded cs

  -- after k rounds: the state, and that the rounds which are left give the whole answer
  pub record Going (cs : List (Con ℕ)) (w : List ℕ) (p : Place) (k : ℕ) : Type 0 where
    pub left : ℕ
    pub state : State ℕ
    pub sum : left + k ≡ enough
    pub held : Placed pool table w p state
    pub same : run (numbers pool table) bounded left k state ≡ answer_of cs

  pub going-first : (cs : List (Con ℕ)) (w : List ℕ) (p : Place) → Placed pool table w p (start cs) → Going cs w p 0
  unfolding solve
  going-first cs w p h = record { left = enough; state = start cs; sum = omega arith; held = h; same = refl }

  module _ (good : Good pool table) (cs : List (Con ℕ)) (admitted : Admitted (numbers pool table) (holding pool table) cs) (w w' : List ℕ)
      (p : Place) (k : ℕ) (g : Going cs w p k) (r : Result After Refusal) (t : Rounded pool table w w' r (round (numbers pool table) bounded g.state)) where
    -- a turn, with the rounds left after it: the bound on rounds is never met
    record Turning : Type 0 where
      pub left : ℕ
      pub sum : suc (left + k) ≡ enough
      pub same : after (numbers pool table) (round (numbers pool table) bounded g.state) k g.state
          (λ s'. run (numbers pool table) bounded left (suc k) s') ≡ answer_of cs

    turning : Turning
    unfolding run
    turning = go g.left g.sum g.same
      where
        go : (f : ℕ) → f + k ≡ enough → run (numbers pool table) bounded f k g.state ≡ answer_of cs → Turning
        go zero s e = absurd ((ends good admitted).0 k (sym e))
        go (suc f) s e = record { left = f; sum = omega (arith, s); same = e }

    -- what is known by the case of the round
    abbrev Round : Got (Option (State ℕ)) → Type 0
    Round R = Rounded pool table w w' r R × (after (numbers pool table) R k g.state (λ s'. run (numbers pool table) bounded turning.left (suc k) s')
        ≡ answer_of cs)

    rounded : Round (round (numbers pool table) bounded g.state)
    rounded = (t, turning.same)

    -- a round was completed
    going-on : {a : After} → r ≡ Ok a → (a ≡ Nowhere → ⊥) → (v : List ℕ) (e : Place)
        → ((s : State ℕ) → Stands pool table w w' (Ok a) s → Placed pool table v e s) → Going cs v e (k + 1)
    unfolding after
    going-on {a} i n v e f = go (round (numbers pool table) bounded g.state) rounded
      where
        go : (R : Got (Option (State ℕ))) → Round R → Going cs v e (k + 1)
        go (refused j) (u, d) = absurd (subst (λ (x : Result After Refusal). Rounded pool table w w' x (refused j)) i u).says
        go (got none) (u, d) = absurd (n (let z : ◌≡◌ {A = Result After Refusal} (Ok a) (Ok Nowhere) = sym i ∙ u.says in cc))
        go (got (some s)) (u, d) = record {
          left = turning.left;
          state = s;
          sum = omega (arith, turning.sum);
          held = f s (subst (λ (x : Result After Refusal). Rounded pool table w w' x (got (some s))) i u).says;
          same = rw (add-one k) d;
        }

    -- and the state stands where it stood, or was written
    pub going-here : (e : Place) → r ≡ Ok (Read e) → Going cs w e (k + 1)
    going-here e i = going-on i (λ z. cc) w e (λ s h. h)

    pub going-written : (e : Place) → r ≡ Ok (Written e) → Going cs w' e (k + 1)
    going-written e i = going-on i (λ z. cc) w' e (λ s h. h)

    -- no rule applies
    pub going_end : r ≡ Ok Nowhere → answer_of cs ≡ finish (numbers pool table) k g.state
    unfolding after
    going_end i = go (round (numbers pool table) bounded g.state) rounded
      where
        go : (R : Got (Option (State ℕ))) → Round R → answer_of cs ≡ finish (numbers pool table) k g.state
        go (refused j) (u, e) = absurd (subst (λ (x : Result After Refusal). Rounded pool table w w' x (refused j)) i u).says
        go (got none) (u, e) = sym e
        go (got (some s)) (u, e) = absurd (subst (λ (x : Result After Refusal). Rounded pool table w w' x (got (some s))) i u).says

    -- a refused round isn't counted
    pub going-stop : (x : Refusal) → r ≡ Err x → answer_of cs ≡ stopped (number_of x) k
    unfolding after
    going-stop x i = go (round (numbers pool table) bounded g.state) rounded
      where
        go : (R : Got (Option (State ℕ))) → Round R → answer_of cs ≡ stopped (number_of x) k
        go (refused j) (u, e) = sym e ∙ ap (λ (y : ℕ). stopped y k) (sym (subst (λ (x : Result After Refusal). Rounded pool table w w' x (refused j)) i u).says)
        go (got none) (u, e) = absurd
            (let z : ◌≡◌ {A = Result After Refusal} (Err x) (Ok Nowhere) = sym i ∙ u.says in cc)
        go (got (some s)) (u, e) = absurd (subst (λ (x : Result After Refusal). Rounded pool table w w' x (got (some s))) i u).says

  -- ══ The answer ══

  pub finish-answers : (a : Answer ℕ) (st : State ℕ) (k : ℕ) (result₀ result result' : List ℕ) (f : Finish) (s : Solution) → result ≡ result₀
      → a ≡ finish (numbers pool table) k st → Finished pool table st result result' f → s ≡ record { outcome = Ok f; rounds = k }
      → Answered (got a) result₀ result' s
  finish-answers a st k result₀ result result' f s q e d i = record {
    stands = record { says = rw (i, e) (d.rows k) };
    answer = ap toldSolution i ∙ d.answer k ∙ sym (ap (λ (x : Answer ℕ). solvedOf (got x)) e);
    buffer = rw (← q, e) (d.buffer k);
  }

pub stop-answers : (a : Answer ℕ) (k : ℕ) (result₀ result : List ℕ) (x : Refusal) (s : Solution) → result ≡ result₀ → a ≡ stopped (number_of x) k
    → s ≡ refusedAs x k → Answered (got a) result₀ result s
unfolding solvedOf solvedWords resultAfter
stop-answers a k result₀ result x s q e i = record { stands = record { says = rw (e, i) (refl, refl) }; answer = rw (e, i); buffer = rw e q }
