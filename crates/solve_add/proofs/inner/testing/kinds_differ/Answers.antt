use Rattle.std.proofs.Common.{sym, ◌∙◌}
use Rattle.std.proofs.Math.Bool.{and-false}
use Rattle.rules.specs.Adding.{solid, kindsDiffer}
use Rattle.solve_add.proofs.inner.testing.kinds_differ.Goals as goal
use Rattle.solve_add.proofs.inner.testing.kinds_differ.Goals.{
  then-not-is_solid-via-then-not-is_solid,
  then-not-is_solid-via-else-not-is_solid+then-not-is_solid-2,
}

pub returns-then-not-is_solid : goal.returns-then-not-is_solid
unfolding kindsDiffer
returns-then-not-is_solid c = elim c.then-not-is_solid.branch [
  | then-not-is_solid-via-then-not-is_solid w ↦ let e = sym c.is_solid.ensures ∙ w.if-not-is_solid.true in rw e
  | then-not-is_solid-via-else-not-is_solid+then-not-is_solid-2 w ↦
      let e = sym w.is_solid-else-not-is_solid.ensures ∙ w.if-not-is_solid-2.true in sym (rw (e, and-false (solid c.args.left.tree.0)))
]

pub returns : goal.returns
unfolding kindsDiffer
returns c =
    let e = sym c.if-not-is_solid.ensures in
    let f = sym c.if-not-is_solid-2.ensures in
    rw (e, f, c.kind.ensures, c.kind-2.ensures)
