-- The invariant: what is in it, with the names of the records from i on.
use Rattle.std.specs.Prelude.{option_to_list}
use mathlib.Core.Path.{refl, sym, ap, ◌∙◌}
use mathlib.Core.List.{[], ◌++◌, append_assoc, append-nil}
use Prim.Native.Nat.{◌+◌}
use Rattle.queries.proofs.MarkLaws.{mark-none}
use Rattle.queries.specs.Marks.{Has}
use Rattle.engine_rows.specs.Columns.{basesView, basesIn}
use Rattle.engine_rows.proofs.Columns.{bases-none, bases-step}
use Rattle.engine_rows.proofs.inner.base_names.Goals as goal
use Rattle.engine_rows.proofs.inner.base_names.Goals.{in-Some, in_default}

pub loop-i-init : goal.loop-i-init
loop-i-init c = ([], c.new-found.ensures, refl)

pub loop-i-preserved : goal.loop-i-preserved
loop-i-preserved c =
    let a = c.args in
    let i = c.loop-i.i in
    let (ys, k, q) = c.loop-i.invariant in
    let now : Has c.match-base_at.found (ys ++ option_to_list c.base_at.result) = elim c.match-base_at.branch [
      | in-Some w ↦ rw (w.found-is, w.in-Some.is) (w.insert.ensures ys k)
      | in_default w ↦ rw (w.found-is, w.in_default.is) (mark-none _ ys k)
    ] in (
      ys ++ option_to_list c.base_at.result,
      now,
      ap (λ z. (ys ++ z) ++ basesIn a.s.now (i + 1) a.e) (c.base_at.ensures ∙ ap basesView c.view_at.ensures) ∙ append_assoc ys _ _
          ∙ ap (ys ++◌) (sym (bases-step a.s.now i a.e c.loop-i-test.true)) ∙ q,
    )

pub returns : goal.returns
returns c =
    let a = c.args in
    let (ys, k, q) = c.loop-i.invariant in
    let z = ap (ys ++◌) (bases-none a.s.now c.loop-i.i a.e c.loop-i-test.false) ∙ append-nil ys in
    rw (← (sym z ∙ q)) k
