-- `inner::leaves::enter_basic` meets its contract.
use Rattle.text_names.proofs.Stands.{count-above}
use Rattle.text_names.proofs.Leaves.{basic-done}
use Rattle.text_names.proofs.inner.leaves.enter_basic.Goals as goal

pub put_head-requires : goal.put_head-requires
put_head-requires c = count-above 1 _ c.requires.few c.count-stand.ensures

pub returns : goal.returns
returns c =
    λ pool table ready. basic-done _ _ ready c.next_sign-c.ensures c.place_of.ensures c.count-stand.ensures c.keyword-at.ensures c.put_head.ensures
