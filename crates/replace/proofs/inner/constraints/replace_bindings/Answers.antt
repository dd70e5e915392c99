-- What is left to write decides.
use Rattle.std.proofs.lemmas.Result.{err_from_is_err_and}
use Rattle.rules.specs.WellFormed.{goodBinding}
use Rattle.laws.specs.Lists.{and_right}
use Rattle.replace.proofs.Each.{still-all, still-good, still-more, still-stops, still-ends}
use Rattle.replace.proofs.Walks.{told}
use Rattle.replace.proofs.inner.constraints.replace_bindings.Goals as goal

pub bindings-init : goal.bindings-init
bindings-init c =
    let a = c.args in
    rw c.into_iter-b-iterator.ensures.into_iter_gives (still-all _ _ _ a.out.now a.bs.trees.0 c.requires)

pub replace_binding-requires : goal.replace_binding-requires
unfolding goodBinding
replace_binding-requires c = and_right _ _ (still-good _ _ _ c.bindings.invariant _ _ (c.in-Some.ensures.steps))

pub bindings-preserved : goal.bindings-preserved
bindings-preserved c = still-more _ _ _ c.bindings.invariant _ _ (c.in-Some.ensures.steps) (told c.in_ok-replace_binding.was c.replace_binding.ensures)

pub returns-in_err-replace_binding : goal.returns-in_err-replace_binding
returns-in_err-replace_binding c =
    let k = err_from_is_err_and c.from_residual.result c.from_residual.ensures.1 in
    rw (k.1, k.2) (still-stops _ _ _ c.bindings.invariant _ _ (c.in-Some.ensures.steps) (told c.in_err-replace_binding.was c.replace_binding.ensures))

pub returns : goal.returns
returns c = still-ends _ _ _ c.bindings.invariant (c.in-None.ensures.steps.0)
