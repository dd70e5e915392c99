-- What is made holds nothing but zeros.
use Rattle.edition_status.specs.Sheets.{noBytes}
use Rattle.edition_status.proofs.front.Front.new.Goals as goal

pub returns : goal.returns
unfolding noBytes
returns c = c.in_ok-bytes.ensures.items_if_clones_equal (λ y same. same)
