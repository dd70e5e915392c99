-- The constraints before the one that is taken stay as they are, so that no rule applies to them in the next state either; except where a binding is put in.
use Rattle.std.specs.Prelude.{◌≡◌, refl, List, [], ◌++◌, ℕ, ◌+◌, ◌≤◌, Ok}
use Rattle.std.proofs.Common.{arith, ap, sym, subst, ◌∙◌}
use mathlib.Core.List.{append_assoc}
use Rattle.std.proofs.Math.Decide.{dec_le}
use Rattle.std.proofs.Math.Option.{some}
use Rattle.rules.specs.Base.{Got, got, refused, bounded, sum_of}
use Rattle.rules.specs.Rounds.{Step, bind, split, done, stuck, State, trySatisfy, sizeState, depthState}
use Rattle.rules.specs.Trees.{Ty, Con, sizeCon}
use Rattle.laws.proofs.Lists.{clash}
use Rattle.records.specs.Good.{numbers}
use Rattle.solve_step.specs.Stepped.{Stepped}
use Rattle.solve_step.specs.declared.Step as code
use Rattle.solve_step.specs.declared.Step.TheVariants.{Bind, Split, Done, Stuck}
use Rattle.types.specs.Sets.{IsCons}
use Rattle.solve_round.specs.declared.Ends.{Ends}
use Rattle.solve_round.specs.declared.Others.{Others}
use Rattle.solve_round.specs.States.{Front, Idle, stillStuck, StateHeld}
use Rattle.solve_round.specs.Parts.{after, appends, keeps, performs}
use Rattle.solve_round.proofs.Limits.{kept, long, deep}
use Rattle.solve_round.proofs.Performing.{nothing-there}
use Rattle.solve_round.proofs.Searching.{is-part}

-- a state that is kept is kept as it is
kept-is : (s st : State ℕ) → keeps s ≡ got (some st) → st ≡ s
kept-is s st e = go (dec_le (sizeState s) 2048) (dec_le (depthState s) 64)
  where
    go : Dec (sizeState s ≤ 2048) → Dec (depthState s ≤ 64) → st ≡ s
    go (no k) d = clash (sym (long s (omega arith)) ∙ e)
    go (yes k) (no d) = clash (sym (deep s (omega arith)) ∙ e)
    go (yes k) (yes d) = let z : got (some s) ≡ got (some st) = sym (kept s k d) ∙ e in cc

appended-is : (o : Others) (new : List (Con ℕ)) (st : State ℕ) → appends o new ≡ got (some st)
    → st.cons ≡ o.before.trees.0 ++ (o.behind.trees.0 ++ new)
appended-is o new st e = ap (λ (s : State ℕ). s.cons) (kept-is _ st e) ∙ append_assoc o.before.trees.0 o.behind.trees.0 new

module _ (pool table : List ℕ) (o : Others) (idle : Idle pool table o.before.trees.0) {k : ℕ} (long : k ≡ sum_of sizeCon o.before.trees.0)
    (w : List ℕ) (st : State ℕ) (ends : Ends) (h : StateHeld pool table w (record { start = 0; stuck = 0; ends = ends }) st) where
  before-stays : (more : List (Con ℕ)) → st.cons ≡ o.before.trees.0 ++ more → Front pool table w (record { start = 0; stuck = k; ends = ends }) st.cons
  before-stays more i =
      let p = is-part w 0 ends.constraints o.before.trees.0 more (subst (IsCons w 0 ends.constraints) i h.cons) in
      let z : 0 + sum_of sizeCon o.before.trees.0 ≡ k = omega (arith, long) in
      record {
        passed = o.before.trees.0;
        left = more;
        are = i;
        there = subst (λ (j : ℕ). IsCons w 0 j o.before.trees.0) z p.0;
        stay = subst (λ (j : ℕ). IsCons w j ends.constraints more) z p.1;
        idle = idle;
      }

  module _ (was d : List ℕ) (c : Con ℕ) (e : performs pool table o c ≡ got (some st)) where
    unbound : (r : code.Step) → ((x : ℕ) (t : Ty ℕ) → Stepped was d 0 (Ok r) (got (bind x t)) → ⊥)
        → Stepped was d 0 (Ok r) (trySatisfy (numbers pool table) bounded c) → Front pool table w (record { start = 0; stuck = k; ends = ends }) st.cons
    unbound r not-bind s = go (trySatisfy (numbers pool table) bounded c) s e
      where
        go : (R : Got (Step ℕ)) → Stepped was d 0 (Ok r) R → after pool table o R ≡ got (some st)
            → Front pool table w (record { start = 0; stuck = k; ends = ends }) st.cons
        go (got (bind x t)) s f = absurd (not-bind x t s)
        go (got (split new)) s f = before-stays _ (appended-is o new st f)
        go (got done) s f = before-stays _ (appended-is o [] st f)
        go (got stuck) s f = absurd (cc)
        go (refused l) s f = clash f

    pub still : (r : code.Step) → Stepped was d 0 (Ok r) (trySatisfy (numbers pool table) bounded c)
        → Front pool table w (record { start = 0; stuck = stillStuck r k; ends = ends }) st.cons
    still (Bind q) s = record { passed = []; left = st.cons; are = refl; there = nothing-there w 0; stay = h.cons; idle = tt }
    still (Split q) s = unbound (Split q) (λ x t s. let f = s.says.0 in cc) s
    still Done s = unbound Done (λ x t s. let f = s.says.0 in cc) s
    still Stuck s = unbound Stuck (λ x t s. let f = s.says.0 in cc) s
