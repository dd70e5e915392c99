-- What is left of the search decides.
use Rattle.std.proofs.Common.{refl, ap, sym, subst, ◌∙◌, arith, length, List, [], ℕ, ◌-◌, ◌≡◌, ◌≤◌}
use Rattle.rules.specs.Base.{sum_of}
use Rattle.rules.specs.Rounds.{depthState, sizeState, State}
use Rattle.rules.specs.Trees.{sizeCon}
use Rattle.types.specs.Binds.{IsBinds}
use Rattle.std.proofs.lemmas.Result.{err_from_is_err_and}
use Rattle.types.specs.declared.writer.Writer.{Writer}
use Rattle.types.specs.Sets.{IsCons}
use Rattle.types.specs.declared.Bindings.{Bindings}
use Rattle.solve_round.specs.States.{Idle}
use Rattle.solve_round.proofs.Fronts.{still}
use Rattle.types.specs.Shapes.{cons_of}
use Rattle.solve_round.proofs.Limits.{depth-is, size-is}
use Rattle.solve_round.proofs.Performing.{done-is, nothing-there, some-rule, stuck-is, took-refused}
use Rattle.solve_round.proofs.Searching.{start, ended, found, applied, is-taken, done-first, stops, on}
use Rattle.solve_round.proofs.Written.{rounded-as, wrote}
use Rattle.solve_round.proofs.inner.turn.Goals as goal

pub search-init : goal.search-init
search-init c =
    let o = c.args.state in
    let s = c.requires.sound in
    let few : sum_of sizeCon o.behind.trees.0 ≤ 2048 = omega (arith, s.short, s.joined_bindings, o.behind.trees.1.ends, o.bindings.trees.1.ends) in
    let front : IsCons o.behind.words.now o.before.at o.behind.at o.before.trees.0 =
    subst (λ (w : List ℕ). IsCons w o.before.at o.behind.at o.before.trees.0) s.same
    (subst (λ (k : ℕ). IsCons o.before.words.now o.before.at k o.before.trees.0) s.joined o.before.trees.1) in (
      refl,
      refl,
      start _ _ _ _ _ _ _ o.before.trees.0 o.behind.trees.0 refl s.idle s.sound.before s.sound.behind front o.behind.trees.1 few
          (ap cons_of c.into_iter-c-iterator.ensures.into_iter_gives),
    )

pub overflow_sub-c : goal.overflow_sub-c
overflow_sub-c c = omega (arith, (found _ _ _ _ _ _ _ _ _ c.search.invariant.2 c.in-Some.ensures.steps).passed.ends)

pub try_satisfy-requires-clause-good : goal.try_satisfy-requires-clause-good
try_satisfy-requires-clause-good c = (found _ _ _ _ _ _ _ _ _ c.search.invariant.2 c.in-Some.ensures.steps).good

pub try_satisfy-requires-clause-short : goal.try_satisfy-requires-clause-short
try_satisfy-requires-clause-short c = let f = found _ _ _ _ _ _ _ _ _ c.search.invariant.2 c.in-Some.ensures.steps in omega (arith, f.short)

pub returns-in_err-step : goal.returns-in_err-step
returns-in_err-step c =
    let f = found _ _ _ _ _ _ _ _ _ c.search.invariant.2 c.in-Some.ensures.steps in
    let p = err_from_is_err_and c.from_residual.result c.from_residual.ensures.1 in
    rw (p.1, p.2) (record {
      same = ap (λ (w : Writer). w.words.ghost_name) c.search.invariant.1;
      rounded = rounded-as (stops _ _ _ _ _ _ _ f (took-refused c.in_err-step.ensures)) (record { says = refl });
    })

pub search-preserved : goal.search-preserved
search-preserved c = (
  c.try_satisfy.auto.dst ∙ c.search.invariant.0,
  c.search.invariant.1,
  on _ _ _ _ _ _ _ (found _ _ _ _ _ _ _ _ _ c.search.invariant.2 c.in-Some.ensures.steps) (stuck-is c.in_ok-step.ensures c.in-Stuck.is),
)

pub without-rest-requires : goal.without-rest-requires
without-rest-requires c = let f = found _ _ _ _ _ _ _ _ _ c.search.invariant.2 c.in-Some.ensures.steps
    in (f.before, f.behind, record { passed = f.passed; stay = f.stay })

pub perform-requires : goal.perform-requires
perform-requires c =
    let f = found _ _ _ _ _ _ _ _ _ c.search.invariant.2 c.in-Some.ensures.steps in
    let r = c.without-rest.ensures f.before f.behind (record { passed = f.passed; stay = f.stay }) in
    let i = c.search.invariant.1 in
    let n = c.search.invariant.0 in
    let v = c.try_satisfy.auto.dst in
    record {
      taken = (_, is-taken _ _ _ _ _ _ _ f c.args.state c.requires.sound.sound.bindings r c.in_ok-step.ensures);
      new_room = omega (arith, v, n, c.requires.new_room);
      new_near = omega (arith, v, n, c.requires.new_near);
      front = ap (λ (w : Writer). w.at) i ∙ c.requires.front;
      room = omega (arith, ap (λ (w : Writer). length w.words.now) i, c.requires.room);
      near = omega (arith, ap (λ (w : Writer). length w.words.now) i, c.requires.near);
    }

pub returns-in-Done : goal.returns-in-Done
returns-in-Done c =
    let f = found _ _ _ _ _ _ _ _ _ c.search.invariant.2 c.in-Some.ensures.steps in
    let o = c.args.state in
    let s = c.requires.sound in
    let st : State ℕ = record { cons = f.behind; binds = o.bindings.trees.0 } in
    let few : sizeState st ≤ 2048 = omega (arith, f.stay.ends, o.bindings.trees.1.ends, s.joined_bindings, s.short, size-is st) in
    let flat : depthState st ≤ 64 = omega (arith, f.sound_behind.flat, s.sound.bindings.flat, depth-is st) in
    record {
      same = ap (λ (w : Writer). w.words.ghost_name) c.search.invariant.1;
      rounded = rounded-as (done-first _ _ _ _ _ _ _ f c.if-c-state.true (done-is c.in_ok-step.ensures c.in-Done.is) few flat) (record {
        says = record {
          held = record {
            cons = rw c.end-at.ensures f.stay;
            binds = subst (λ (w : List ℕ). IsBinds w o.behind.end o.bindings.end o.bindings.trees.0) s.same_bindings
                (subst (λ (k : ℕ). IsBinds o.bindings.words.now k o.bindings.end o.bindings.trees.0) s.joined_bindings o.bindings.trees.1);
            sound_cons = f.sound_behind;
            sound_binds = s.sound.bindings;
            short = s.short;
          };
          front = record {
            passed = [];
            left = f.behind;
            are = refl;
            there = nothing-there _ _;
            stay = rw c.end-at.ensures f.stay;
            idle = tt;
          };
        };
      });
    }

pub returns-in_default : goal.returns-in_default
returns-in_default c =
    let f = found _ _ _ _ _ _ _ _ _ c.search.invariant.2 c.in-Some.ensures.steps in
    let r = c.without-rest.ensures f.before f.behind (record { passed = f.passed; stay = f.stay }) in
    let n = c.perform.ensures _ (is-taken _ _ _ _ _ _ _ f c.args.state c.requires.sound.sound.bindings r c.in_ok-step.ensures) in
    let k : c.in-Some.c.at - c.args.state.before.at ≡ sum_of sizeCon c.without-rest.result.before.trees.0 =
    omega (arith, f.passed.ends, ap (sum_of sizeCon) r.before) in
    let idle = subst (Idle c.args.names.pool.now c.args.names.table.now) (sym r.before) f.idle in
    rw (c.written.ensures, c.still_stuck-stuck.ensures) (record {
      same = n.same ∙ ap (λ (w : Writer). w.words.ghost_name) c.search.invariant.1;
      rounded = rounded-as (applied _ _ _ _ _ _ _ f c.without-rest.result r.before r.behind (ap (λ (b : Bindings). b.trees.0) r.bindings)
          (some-rule c.in_ok-step.ensures c.in_default.not-Stuck))
          (wrote n.turned (λ st ends e held. still _ _ c.without-rest.result idle k _ st ends held _ _ _ e _ c.in_ok-step.ensures));
    })

pub returns : goal.returns
returns c =
    record {
      same = ap (λ (w : Writer). w.words.ghost_name) c.search.invariant.1;
      rounded = rounded-as (ended _ _ _ _ _ _ _ c.search.invariant.2 c.in-None.ensures.steps.0) (record { says = refl });
    }
