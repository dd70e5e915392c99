-- `inner::lines_of` meets its contract. The invariant: the rows so far, and the constraints to come.
use mathlib.Core.Path.{◌≡◌, sym, ◌∙◌, ap, subst}
use mathlib.Core.List.{List}
use native.Mathlib.Omega.{arith}
use Rattle.laws.specs.Lists.{Every}
use Rattle.rules.specs.Trees.{Con}
use Prim.Native.Nat.{ℕ}
use Rattle.types.proofs.OnSets.{alone, placed-alone}
use Rattle.rules.specs.Elimination.{scalarOf}
use Rattle.engine_matrix.specs.Machine.{colsIn}
use Rattle.engine_rows.specs.Lines.{Plain}
use Rattle.engine_rows.proofs.OnLines.{Going, going_start, not-asked, not_scalar, too_many, scalar-next, going_on, going_end}
use Rattle.engine_rows.proofs.inner.lines_of.Goals as goal

pub lines-init : goal.lines-init
lines-init c =
    let a = c.args.constraints in
    let all : alone _ ≡ a.trees.0 = placed-alone a.words.now a.at a.trees.0 in
    rw c.into_iter-constraint-iterator.ensures.into_iter_gives (
      omega arith,
      subst (Every Plain) (sym all) c.requires.plain,
      λ names. subst (λ (cs : List (Con ℕ)). Going names (colsIn c.args.k) a.trees.0 cs 0 c.blank-grid.result) (sym all)
          (going_start names (colsIn c.args.k) a.trees.0 c.blank-grid.result),
    )

pub returns-in_default : goal.returns-in_default
returns-in_default c names =
    sym (not_scalar names _ _ _ _ _ (c.lines.invariant.2 names) _ _ (ap alone c.in-Some.ensures.steps)
    (ap scalarOf (sym c.demand.ensures) ∙ not-asked _ c.in_default.not-IsScalar))

pub returns-then-len-ge-ROWS : goal.returns-then-len-ge-ROWS
returns-then-len-ge-ROWS c names =
    sym (too_many names _ _ _ _ _ (c.lines.invariant.2 names) _ _ (ap alone c.in-Some.ensures.steps) (omega (arith, c.if-len-ge-ROWS.true)))

pub lines-preserved : goal.lines-preserved
lines-preserved c =
    let more = scalar-next _ _ _ c.in-IsScalar.product.factors.0 c.in-Some.ensures.steps c.in-IsScalar.ensures in (
      omega arith,
      (subst (Every Plain) more c.lines.invariant.1).1,
      λ names. going_on names _ _ _ _ _ (c.lines.invariant.2 names) _ _ more _ _ (omega (arith, c.if-len-ge-ROWS.false))
          (c.row_of.ensures names) c.with_row-grid.ensures,
    )

pub returns : goal.returns
returns c names =
    sym (going_end names _ _ _ _ _ (c.lines.invariant.2 names) (ap alone c.in-None.ensures.steps.0) c.lines.invariant.0)
