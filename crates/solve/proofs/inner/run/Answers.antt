-- `inner::run` meets its contract. The invariant: the rounds that are left give the whole answer.
use Rattle.std.proofs.Common.{refl, ap, subst, ◌∙◌, arith, List, ℕ, ◌≡◌, ◌≤◌, length, take, drop, ◌++◌, append-nil}
use Rattle.std.proofs.Math.Seq.{drop-length, take-length}
use Rattle.std.proofs.Math.Option.{Option}
use Rattle.std.specs.Prelude.{Ok, Result}
use Rattle.rules.specs.Rounds.{State}
use Rattle.rules.specs.Base.{Got}
use Rattle.rules.specs.declared.Refusal.{Refusal}
use Rattle.solve_round.specs.declared.After.{After}
use Rattle.solve_round.specs.declared.Place.{Place}
use Rattle.solve_round.specs.States.{Placed, Rounded}
use Rattle.solve.proofs.Running.{going-first, going-here, going-written, going_end, going-stop, finish-answers, stop-answers}
use Rattle.solve.proofs.inner.run.Goals as goal

-- a buffer that is lent on whole is all of its words
-- and it has all of them back
handed : (l k : List ℕ) → k ++ drop (length l) l ≡ k
handed l k = ap (λ (x : List ℕ). k ++ x) (drop-length l) ∙ append-nil k

module _ {pool table : List ℕ} where
  whole : {p : Place} {st : State ℕ} (l : List ℕ) → Placed pool table l p st → Placed pool table (take (length l) l) p st
  whole l h = rw (take-length l) h

  round-whole : {w : List ℕ} {r : Result After Refusal} {R : Got (Option (State ℕ))} (l : List ℕ) → Rounded pool table (take (length l) l) w r R
      → Rounded pool table l w r R
  round-whole {w} {r} {R} l t = subst (λ (x : List ℕ). Rounded pool table x w r R) (take-length l) t

whole-near : (l : List ℕ) → length l ≡ 8192 → length (take (length l) l) ≤ 4_000_000_000
whole-near l h = rw (take-length l) (omega (arith, h))

whole-room : (l : List ℕ) → length l ≡ 8192 → 8192 ≤ length (take (length l) l)
whole-room l h = rw (take-length l) (omega (arith, h))

pub begin-place-requires : goal.begin-place-requires
begin-place-requires c =
    let (cs, h) = c.requires.begun in
    record { short = h.short; room = whole-room c.split_at_mut-state.result.0.now (omega (arith, c.split_at_mut-state.ensures.front_len)) }

pub turns-init : goal.turns-init
turns-init c =
    let front = c.split_at_mut-state.result.0.now in
    let long : length front ≡ 8192 = omega (arith, c.split_at_mut-state.ensures.front_len) in
    let behind : length c.split_at_mut-next.result.0.now ≡ 8192 = omega (arith, c.split_at_mut-next.ensures.front_len) in (
      refl,
      rw (handed front c.begin-place.new.state) (c.begin-place.auto.state ∙ ap length (take-length front) ∙ long),
      behind,
      refl,
      λ cs h. rw (handed front c.begin-place.new.state) (going-first _ _ cs _ _ (c.begin-place.ensures _ _ cs h)),
    )

pub round-requires : goal.round-requires
round-requires c =
    let (cs, h) = c.requires.begun in
    let (r, s, n, w, i) = c.turns.invariant in
    let g = i cs h in
    record {
      standing = (g.state, whole c.turns.state.now g.held);
      state_near = whole-near c.turns.state.now s;
      new_room = omega (arith, w);
      new_near = omega (arith, w);
      room = whole-room c.turns.next.now n;
      near = whole-near c.turns.next.now n;
    }

pub overflow_add-rounds : goal.overflow_add-rounds
overflow_add-rounds c = let (cs, h) = c.requires.begun in omega (arith, (c.turns.invariant.4 cs h).sum)

pub turns-smaller-in-Ok-Read : goal.turns-smaller-in-Ok-Read
turns-smaller-in-Ok-Read c = let (cs, h) = c.requires.begun in omega (arith, (c.turns.invariant.4 cs h).sum)

pub turns-preserved-in-Ok-Read : goal.turns-preserved-in-Ok-Read
turns-preserved-in-Ok-Read c =
    let (r, s, n, w, i) = c.turns.invariant in
    let next = c.turns.next.now in (
      r,
      s,
      rw (handed next c.round.new.next) (c.round.auto.next ∙ ap length (take-length next) ∙ n),
      c.round.auto.new ∙ w,
      λ cs h.
          let g = i cs h in
          going-here _ _ c.args.names.good cs h.admitted _ _ _ _ g _
          (round-whole c.turns.state.now (c.round.ensures g.state (whole c.turns.state.now g.held))) _ (c.in-Ok-Read.is ∙ ap Ok c.in-Ok-Read.field-0-is),
    )

pub overflow_add-rounds-in-Ok-Written : goal.overflow_add-rounds-in-Ok-Written
overflow_add-rounds-in-Ok-Written c = let (cs, h) = c.requires.begun in omega (arith, (c.turns.invariant.4 cs h).sum)

pub turns-smaller : goal.turns-smaller
turns-smaller c = let (cs, h) = c.requires.begun in omega (arith, (c.turns.invariant.4 cs h).sum)

pub turns-preserved : goal.turns-preserved
turns-preserved c =
    let (r, s, n, w, i) = c.turns.invariant in
    let next = c.turns.next.now in (
      r,
      rw (c.swap.ensures.x_after, handed next c.round.new.next) (c.round.auto.next ∙ ap length (take-length next) ∙ n),
      rw c.swap.ensures.y_after s,
      c.round.auto.new ∙ w,
      λ cs h.
          let g = i cs h in
          rw (c.swap.ensures.x_after, handed next c.round.new.next)
          (going-written _ _ c.args.names.good cs h.admitted _ _ _ _ g _
          (round-whole c.turns.state.now (c.round.ensures g.state (whole c.turns.state.now g.held))) _
          (c.in-Ok-Written.is ∙ ap Ok c.in-Ok-Written.field-0-is)),
    )

pub finish-requires : goal.finish-requires
finish-requires c =
    let (cs, h) = c.requires.begun in
    let (r, s, n, w, i) = c.turns.invariant in
    let g = i cs h in
    record {
      standing = (g.state, whole c.turns.state.now g.held);
      near = whole-near c.turns.state.now s;
      state_room = whole-room c.turns.state.now s;
      room = omega (arith, ap length r, c.requires.result_room);
    }

pub returns-in-Ok-Nowhere : goal.returns-in-Ok-Nowhere
returns-in-Ok-Nowhere c =
    let (r, s, n, w, i) = c.turns.invariant in
    λ cs h.
    let g = i cs h in
    let t = going_end _ _ c.args.names.good cs h.admitted _ _ _ _ g _
    (round-whole c.turns.state.now (c.round.ensures g.state (whole c.turns.state.now g.held))) (c.in-Ok-Nowhere.is ∙ ap Ok c.in-Ok-Nowhere.field-0-is) in
    finish-answers _ _ _ g.state _ _ _ _ _ _ r t (c.finish.ensures g.state (whole c.turns.state.now g.held)) refl

pub returns-in-Err : goal.returns-in-Err
returns-in-Err c =
    let (r, s, n, w, i) = c.turns.invariant in
    λ cs h.
    let g = i cs h in
    stop-answers _ _ _ _ _ _ r (going-stop _ _ c.args.names.good cs h.admitted _ _ _ _ g _
    (round-whole c.turns.state.now (c.round.ensures g.state (whole c.turns.state.now g.held))) _ c.in-Err.is) c.stopped.ensures
