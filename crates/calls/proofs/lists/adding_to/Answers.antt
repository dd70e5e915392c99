-- `adding_to` meets its contract.
use mathlib.Core.Path.{◌≡◌, ap, ◌∙◌}
use lib.ListN.{length}
use Prim.Native.Nat.{ℕ}
use mathlib.Core.List.{List}
use Rattle.rules.specs.Calls.{AddedTo, addCall}
use Rattle.calls_defined.specs.Saying.{addedAs}
use Rattle.calls.proofs.lists.adding_to.Goals as goal

pub returns : goal.returns
returns c =
    let a = c.args in
    let e : _ ≡ addCall _ _ _ _ _ = c.add.ensures ∙ ap (λ (l : List ℕ). addCall a.pool.now a.table.now l a.count a.con.now) c.fill.ensures in
    record { value = c.added.ensures ∙ ap (λ (x : AddedTo). addedAs x.answer (length a.a.now)) e; buffer_after = ap (λ (x : AddedTo). x.buffer) e }
