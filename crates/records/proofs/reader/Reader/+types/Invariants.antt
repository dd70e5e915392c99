use Rattle.std.proofs.Common.{◌+◌, ◌*◌, ◌^◌}
use Rattle.records.proofs.reader.Reader.+types.Given as goal

abbrev pub decreases-fields_end : goal.decreases-fields_end
decreases-fields_end l = l.deep * 2 ^ 34 + (l.n + 1)

abbrev pub decreases-type_end : goal.decreases-type_end
decreases-type_end l = l.deep * 2 ^ 34

abbrev pub decreases-types_end : goal.decreases-types_end
decreases-types_end l = l.deep * 2 ^ 34 + (l.n + 1)
