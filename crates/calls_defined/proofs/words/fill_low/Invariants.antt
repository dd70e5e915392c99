use Rattle.std.proofs.Common.{◌≡◌, map, drop}
use lib.Seq.{sets}
use Rattle.calls_defined.specs.Fills.{low_byte}
use Rattle.calls_defined.proofs.words.fill_low.Given as goal

-- what is left to store
abbrev pub invariant-loop-i : goal.invariant-loop-i
invariant-loop-i l = sets l.buffer l.i (drop l.i (map low_byte l.a)) ≡ sets l.initial.buffer 0 (map low_byte l.a)
