-- Each name is noted.
use Rattle.std.proofs.Common.{refl}
use Rattle.judge_entries.specs.Entries.{told, notedBelow}
use Rattle.judge_entries.proofs.Counting.{noted-more}
use Rattle.judge_entries.proofs.inner.slots_of.Goals as goal

pub loop-v-init : goal.loop-v-init
unfolding notedBelow
loop-v-init c = refl

pub loop-v-preserved : goal.loop-v-preserved
loop-v-preserved c = noted-more (told c.args.entries.now) c.loop-v.v c.loop-v.places c.look_up.result c.loop-v.invariant c.look_up.ensures
