-- Round after round: each completed round lowers a measure, so the rounds end.
use Rattle.std.proofs.Math.Path.{◌≡◌, refl, ap}
use Rattle.std.proofs.Common.{◌∙◌}
use mathlib.Core.List.{List, [], ◌∷◌}
use Rattle.std.proofs.Math.Option.{Option, none as nothing, some}
use Prim.Native.Nat.{ℕ, zero, suc, ◌+◌, ◌*◌, ◌≤◌, ◌<◌}
use native.Mathlib.Omega.{arith}
use Rattle.std.proofs.Math.ListN.{length}
use Rattle.rules.specs.Base.{Got, got, refused, bounded}
use Rattle.rules.specs.Trees.{Names, Con, Binding, orderAtom}
use Rattle.rules.specs.Rounds.{Step, bind, split, done, stuck, State, firstStep, perform, performed, round}
use Rattle.rules.specs.Solving.{Answer, accepted, stopped, finished, finish, after, run}
use Rattle.laws.specs.Order.{Lawful}
use Rattle.theorems_ending.proofs.Without.{without}
use Rattle.theorems_ending.proofs.Yields.{Yields}
use Rattle.theorems_ending.specs.Counted.{roundsOf, binds, bindingRounds}
use Rattle.theorems_ending.proofs.Weights.{weighAll}
use Rattle.theorems_ending.proofs.Stepping.{Maybe, present}
use Rattle.theorems_ending.proofs.Rounds.{turns, Over, First, Went, first-ok, perform-ok}

module _ {N : Type 0} where
  -- a bound on the rounds to come: a variable for each binding round, and what the constraints weigh
  abbrev pub measure : List N → State N → ℕ
  measure xs s = suc turns * length xs + weighAll s.cons

module _ {N : Type 0} (ν : Names N) (law : Lawful (orderAtom ν)) where
  -- what a round can come to
  data Rounded (xs : List N) (s : State N) : Type 0 where
    refuses : (n : ℕ) → 0 < n → round ν bounded s ≡ refused n → Rounded xs s
    ends : round ν bounded s ≡ got nothing → Rounded xs s
    goes : (v : Step N × List (Con N)) (s' : State N) → firstStep ν bounded s.cons ≡ got (some v) → round ν bounded s ≡ got (some s')
        → Went ν xs (weighAll s.cons) s.binds v.0 s' → Rounded xs s

  rounded : (xs : List N) (s : State N) → Over ν xs s → Rounded xs s
  unfolding round performed
  rounded xs s h = go (firstStep ν bounded s.cons) refl
    where
      first : Yields (firstStep ν bounded s.cons) (Maybe (First ν xs (weighAll s.cons)))
      first = first-ok ν law xs bounded s.cons h.ok

      chosen : {v : Step N × List (Con N)} → Maybe (First ν xs (weighAll s.cons)) (some v) → First ν xs (weighAll s.cons) v
      chosen (present c) = c

      after-step : (v : Step N × List (Con N)) → firstStep ν bounded s.cons ≡ got (some v)
          → Yields (perform ν bounded s.binds v.0 v.1) (Went ν xs (weighAll s.cons) s.binds v.0) → (m : Got (State N))
          → perform ν bounded s.binds v.0 v.1 ≡ m → Rounded xs s
      after-step v e y (refused n) q = refuses n (y.numbered n q) (rw (e, q))
      after-step v e y (got s') q = goes v s' e (rw (e, q)) (y.value.holds s' q)

      go : (m : Got (Option (Step N × List (Con N)))) → firstStep ν bounded s.cons ≡ m → Rounded xs s
      go (refused n) e = refuses n (first.numbered n e) (rw e)
      go (got nothing) e = ends (rw e)
      go (got (some v)) e =
          after-step v e (perform-ok ν law xs (weighAll s.cons) s.binds v.0 v.1 h.bound (chosen (first.value.holds (some v) e)))
          (perform ν bounded s.binds v.0 v.1) refl

  -- after a completed round: fewer variables by as many as it bound, and a lower measure
  record Falls (xs : List N) (s : State N) (b : ℕ) (s' : State N) : Type 0 where
    left : List N
    held : Over ν left s'
    falls : measure left s' < measure xs s
    fewer : b + length left ≤ length xs
    more : length s'.binds ≡ b + length s.binds

  falling : (xs : List N) (s : State N) (v : Step N) (s' : State N) → Over ν xs s → Went ν xs (weighAll s.cons) s.binds v s' → Falls xs s (binds v) s'
  falling xs s (bind x t) s' h w = record {
    left = without ν x xs;
    held = w.0;
    falls = omega (arith, w.0.light, w.1);
    fewer = omega (arith, w.1);
    more = omega (arith, w.2);
  }
  falling xs s (split new) s' h w = record { left = xs; held = w.0; falls = omega (arith, w.1); fewer = omega arith; more = ap length w.2 ∙ omega arith }
  falling xs s done s' h w = record { left = xs; held = w.0; falls = omega (arith, w.1); fewer = omega arith; more = ap length w.2 ∙ omega arith }
  falling xs s stuck s' h w = absurd w

  -- ══ An answer at the end ══

  -- what is said of an answer: at most so many rounds, not for want of fuel, and so many bindings where it accepts
  pub record Ended (most bindings : ℕ) (a : Answer N) : Type 0 where
    pub rounds : roundsOf a ≤ most
    pub fuelled : (k : ℕ) → a ≡ stopped 0 k → ⊥
    pub bound : (bs : List (Binding N)) (ns : List N) (k : ℕ) → a ≡ accepted bs ns k → length bs ≡ bindings

  finished-ended : (m k : ℕ) (cs : List (Con N)) (s : State N) → Ended (k + m) (length s.binds) (finished ν cs k s)
  unfolding finished
  finished-ended m k [] s = record {
    rounds = omega arith;
    fuelled = λ n q. cc;
    bound = λ bs ns n q. let z : bs ≡ s.binds = cc in ap length z;
  }
  finished-ended m k (c ∷ cs) s = record {
    rounds = omega arith;
    fuelled = λ n q. cc;
    bound = λ bs ns n q. absurd (cc);
  }

  -- with fuel above the measure
  pub run-ended : (f k : ℕ) (xs : List N) (s : State N) → Over ν xs s → measure xs s < f
      → Ended (k + measure xs s) (bindingRounds ν bounded f s + length s.binds) (run ν bounded f k s)
  unfolding run after finish bindingRounds
  run-ended zero k xs s h i = absurd (omega arith)
  run-ended (suc f) k xs s h i = go (rounded xs s h) (run-ended f (suc k))
    where
      Goal : Type 0
      Goal = Ended (k + measure xs s) (bindingRounds ν bounded (suc f) s + length s.binds) (run ν bounded (suc f) k s)

      go : Rounded xs s → ((ys : List N) (s' : State N) → Over ν ys s' → measure ys s' < f
          → Ended (suc k + measure ys s') (bindingRounds ν bounded f s' + length s'.binds) (run ν bounded f (suc k) s'))
          → Goal
      go (refuses n p e) r = rw e record {
        rounds = omega arith;
        fuelled = λ m q. let z : n ≡ 0 = cc in omega arith;
        bound = λ bs ns m q. absurd (cc);
      }
      go (ends e) r = rw e (let c = finished-ended (measure xs s) k _ s in record {
        rounds = c.rounds;
        fuelled = c.fuelled;
        bound = λ bs ns m q. c.bound bs ns m q ∙ omega arith;
      })
      go (goes v s' q e w) r =
          let d = falling xs s v.0 s' h w in
          let c = r d.left s' d.held (omega (arith, d.falls)) in
          rw (e, q) record {
            rounds = omega (arith, c.rounds, d.falls);
            fuelled = c.fuelled;
            bound = λ bs ns m p. c.bound bs ns m p ∙ omega (arith, d.more);
          }

  -- the answer is the same for every fuel above the measure
  pub run-same : (f g k : ℕ) (xs : List N) (s : State N) → Over ν xs s → measure xs s < f → measure xs s < g → run ν bounded f k s ≡ run ν bounded g k s
  unfolding run after
  run-same zero g k xs s h i j = absurd (omega arith)
  run-same (suc f) zero k xs s h i j = absurd (omega arith)
  run-same (suc f) (suc g) k xs s h i j = go (rounded xs s h) (run-same f g (suc k))
    where
      go : Rounded xs s → ((ys : List N) (s' : State N) → Over ν ys s' → measure ys s' < f → measure ys s' < g
          → run ν bounded f (suc k) s' ≡ run ν bounded g (suc k) s')
          → run ν bounded (suc f) k s ≡ run ν bounded (suc g) k s
      go (refuses n p e) r = rw e
      go (ends e) r = rw e
      go (goes v s' q e w) r =
          let d = falling xs s v.0 s' h w in
          rw e (r d.left s' d.held (omega (arith, d.falls)) (omega (arith, d.falls)))

  -- at most as many rounds bind as there are variables, whatever the fuel
  pub binding-bound : (f : ℕ) (xs : List N) (s : State N) → Over ν xs s → bindingRounds ν bounded f s ≤ length xs
  unfolding bindingRounds
  binding-bound zero xs s h = omega arith
  binding-bound (suc f) xs s h = go (rounded xs s h) (binding-bound f)
    where
      go : Rounded xs s → ((ys : List N) (s' : State N) → Over ν ys s' → bindingRounds ν bounded f s' ≤ length ys)
          → bindingRounds ν bounded (suc f) s ≤ length xs
      go (refuses n p e) r = rw e (omega arith)
      go (ends e) r = rw e (omega arith)
      go (goes v s' q e w) r =
          let d = falling xs s v.0 s' h w in
          rw (e, q) (omega (arith, d.fewer, r d.left s' d.held))
