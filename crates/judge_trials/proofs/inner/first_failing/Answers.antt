use Rattle.std.proofs.Common.{refl, ap, ◌∙◌, arith}
use Rattle.std.proofs.lemmas.Result.{err_from_is_err_and}
use Rattle.types.proofs.OnSets.{alone, placed-alone}
use Rattle.judge_trials.proofs.Trials.{going_start, going_end, first-good, count-few, going-refused, going-no, going_on, same-look, plain-look}
use Rattle.judge_trials.proofs.inner.first_failing.Goals as goal

pub invariant_of-c-items : goal.invariant_of-c-items
invariant_of-c-items c = let (cs, h) = c.requires.constraints_stand in record { near = omega (arith, c.requires.few_records); trees = (cs, h.held) }

pub search-init : goal.search-init
search-init c = (
  refl,
  λ cs bs xs h l m.
      rw c.into_iter-c-iterator.ensures.into_iter_gives (rw (placed-alone c.args.set.now 0 _) (going_start _ _ _ bs xs cs h (search))),
)

pub is_true-requires-clause-good : goal.is_true-requires-clause-good
is_true-requires-clause-good c =
    let (cs, h) = c.requires.constraints_stand in
    let (bs, l) = c.requires.bindings_tabled in
    let (xs, m) = c.requires.bounds_marked in
    first-good _ _ _ bs xs cs (c.search.invariant.1 cs bs xs h l m) _ _ (ap alone c.in-Some.ensures.steps)

pub is_true-requires-clause-plain : goal.is_true-requires-clause-plain
is_true-requires-clause-plain c = let (bs, l) = c.requires.bindings_tabled in plain-look _ _ _ _ bs l (search)

pub returns-in_err-is_true : goal.returns-in_err-is_true
returns-in_err-is_true c = λ cs bs xs h l m.
    let p = err_from_is_err_and c.from_residual.result c.from_residual.ensures.1 in
    rw (p.1, p.2) (going-refused _ _ _ bs xs cs (c.search.invariant.1 cs bs xs h l m) _ _ (ap alone c.in-Some.ensures.steps)
    (c.is_true.ensures bs xs (same-look _ _ _ _ bs l (search)) m) c.in_err-is_true.was)

pub returns-then-not-branch : goal.returns-then-not-branch
returns-then-not-branch c = λ cs bs xs h l m.
    going-no _ _ _ bs xs cs (c.search.invariant.1 cs bs xs h l m) _ _ (ap alone c.in-Some.ensures.steps)
    (c.is_true.ensures bs xs (same-look _ _ _ _ bs l (search)) m) c.in_ok-is_true.was c.if-not-branch.true

pub overflow_add-before : goal.overflow_add-before
overflow_add-before c =
    let (cs, h) = c.requires.constraints_stand in
    let (bs, l) = c.requires.bindings_tabled in
    let (xs, m) = c.requires.bounds_marked in
    omega (arith, count-few _ _ _ bs xs cs (c.search.invariant.1 cs bs xs h l m) _ _ (ap alone c.in-Some.ensures.steps), c.requires.few_records)

pub search-preserved : goal.search-preserved
search-preserved c = (
  c.is_true.auto.work ∙ c.search.invariant.0,
  λ cs bs xs h l m.
      going_on _ _ _ bs xs cs (c.search.invariant.1 cs bs xs h l m) _ _ (ap alone c.in-Some.ensures.steps)
      (c.is_true.ensures bs xs (same-look _ _ _ _ bs l (search)) m) c.in_ok-is_true.was c.if-not-branch.false,
)

pub returns : goal.returns
returns c = λ cs bs xs h l m. going_end _ _ _ bs xs cs (c.search.invariant.1 cs bs xs h l m) (ap alone c.in-None.ensures.steps.0)
