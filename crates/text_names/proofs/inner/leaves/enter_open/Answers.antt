-- `inner::leaves::enter_open` meets its contract.
use Rattle.text_names.proofs.Effects.{head-above, ready-few, ready-count, ready_on}
use Rattle.text_names.proofs.Inside.{inside-column, inside-spelled}
use Rattle.text_names.proofs.Leaves.{open_done}
use mathlib.Core.List.{[]}
use native.Mathlib.Omega.{arith}
use Rattle.text_names.proofs.inner.leaves.enter_open.Goals as goal

pub count-now-requires : goal.count-now-requires
count-now-requires c =
    record { small = omega arith; few = ready-few c.requires }

pub read_named-x-requires : goal.read_named-x-requires
read_named-x-requires c =
    ready_on (inside-spelled _) c.mark-a.ensures.reads (ready_on inside-column c.next_sign-c.ensures (ready-count 1 _ c.requires c.count-now.ensures))

pub put_head-requires : goal.put_head-requires
put_head-requires c =
    head-above 1 _ c.requires c.count-now.ensures (c.read_named-x.ensures []).kept

pub returns : goal.returns
returns c =
    open_done c.args.par _ c.requires c.next_sign-c.ensures c.place_of.ensures c.count-now.ensures c.mark_of.ensures c.mark-a.ensures.reads
    (c.read_named-x.ensures _) c.open_view.ensures c.put_head.ensures
