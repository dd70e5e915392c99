-- `inner::tables::quantify_name` meets its contract.
use mathlib.Core.Path.{ap, ◌∙◌}
use mathlib.Core.List.{List}
use Prim.Native.Nat.{ℕ, ◌+◌}
use lib.ListN.{set}
use Rattle.schemes_handed.proofs.inner.tables.quantify_name.Goals as goal

pub returns : goal.returns
returns c =
    let a = c.args in
    (c.put-2.ensures ∙ ap (λ (l : List ℕ). set l (256 + a.x) (a.x + 1)) c.put.ensures, c.put_one.ensures)
