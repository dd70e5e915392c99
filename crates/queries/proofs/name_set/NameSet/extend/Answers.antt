-- The invariant: what is in it, with the names of the records from i on.
use Rattle.std.specs.Prelude.{option_to_list}
use mathlib.Core.Path.{refl, sym, ap, ◌∙◌}
use Prim.Native.Nat.{◌+◌}
use mathlib.Core.List.{◌++◌, append_assoc, append-nil}
use Rattle.queries.specs.Scans.{choose, opensIn}
use Rattle.queries.proofs.ScanLaws.{opens-none, choose-none, names-step}
use Rattle.queries.specs.Marks.{Has}
use Rattle.queries.proofs.MarkLaws.{mark-none}
use Rattle.queries.proofs.name_set.NameSet.extend.Goals as goal
use Rattle.queries.proofs.name_set.NameSet.extend.Goals.{in-Some, in_default}

pub loop-i-init : goal.loop-i-init
loop-i-init c = λ xs k. (xs, k, refl)

pub loop-i-preserved : goal.loop-i-preserved
loop-i-preserved c =
    let a = c.args in
    let i = c.loop-i.i in
    λ xs h. let (ys, k, q) = c.loop-i.invariant xs h in
    let now : Has c.match-name_at.self (ys ++ option_to_list c.name_at.result) = elim c.match-name_at.branch [
      | in-Some w ↦ rw (w.self-is, w.in-Some.is) (w.insert.ensures ys k)
      | in_default w ↦ rw (w.self-is, w.in_default.is) (mark-none _ ys k)
    ] in (
      ys ++ option_to_list c.name_at.result,
      now,
      ap (λ z. (ys ++ z) ++ choose a.k (opensIn a.s.now (i + 1) a.e)) c.name_at.ensures ∙ append_assoc ys _ _
          ∙ ap (ys ++◌) (sym (names-step a.s.now i a.e c.loop-i-test.true a.k)) ∙ q,
    )

pub returns : goal.returns
returns c =
    let a = c.args in
    let i = c.loop-i.i in
    λ xs h. let (ys, k, q) = c.loop-i.invariant xs h in let z =
    ap (ys ++◌) (ap (choose a.k) (opens-none a.s.now i a.e c.loop-i-test.false) ∙ choose-none a.k) ∙ append-nil ys in rw (← (sym z ∙ q)) k
