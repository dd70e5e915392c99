-- `view_at` meets its contract.
use Rattle.records.specs.Places.{view-none, view-some}
use Rattle.records.specs.Views.{shape_of, view_of}
use mathlib.Core.Path.{sym, ap, ◌∙◌}
use Prim.Native.Nat.{ℕ, ◌+◌, ◌*◌}
use lib.ListN.{get_or}
use Rattle.records.proofs.seen.view_at.Goals as goal

pub returns-then-s-at : goal.returns-then-s-at
returns-then-s-at c = sym (view-none c.args.s.now c.args.at c.if-s-at.true)

pub returns : goal.returns
unfolding view_of
returns c =
    let s = c.args.s.now in
    let at = c.args.at in
    c.shape.ensures
    ∙ ap (λ (k : ℕ). shape_of k (get_or s (at * 4 + 1) 0) (get_or s (at * 4 + 2) 0) (get_or s (at * 4 + 3) 0)) c.kind_in.ensures
    ∙ sym (view-some s at c.if-s-at.false)
