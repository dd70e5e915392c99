use Rattle.std.specs.Prelude.{◌+◌, ◌*◌}
use Rattle.rules.specs.Trees.{size, sizeTys, sizeFields}
use Rattle.text_write.proofs.terms.+types.Given as goal

abbrev pub decreases-write_fields : goal.decreases-write_fields
decreases-write_fields g l = 3 * sizeFields l.fields.trees.0 + 1

abbrev pub decreases-write_function : goal.decreases-write_function
decreases-write_function g l = 3 * (sizeTys l.parameters.trees.0 + size l.returned.tree.0) + 1

abbrev pub decreases-write_list : goal.decreases-write_list
decreases-write_list g l = 3 * size l.element.tree.0 + 1

abbrev pub decreases-write_struct : goal.decreases-write_struct
decreases-write_struct g l = 3 * (sizeTys l.arguments.trees.0 + sizeFields l.fields.trees.0) + 2

abbrev pub decreases-write_type : goal.decreases-write_type
decreases-write_type g l = 3 * size l.t.tree.0

abbrev pub decreases-write_types : goal.decreases-write_types
decreases-write_types g l = 3 * sizeTys l.types.trees.0 + 1
