use Rattle.std.specs.Prelude.{◌-◌, ◌/◌, length}
use Rattle.text_write.proofs.inner.+write_lines.Given as goal

abbrev pub decreases-write_lines : goal.decreases-write_lines
decreases-write_lines g l = length l.set.now / 4 - l.at
