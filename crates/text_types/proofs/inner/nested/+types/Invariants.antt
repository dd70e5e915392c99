use Rattle.rules.specs.Grammar.{type}
use Rattle.text_grammar.specs.Points.{left_at}
use Rattle.text_types.specs.Entering.{lentBy, SameBuffers}
use Rattle.text_types.proofs.Rows.{TysLoop, FieldsLoop}
use Prim.Native.Nat.{◌+◌, ◌*◌}
use Rattle.text_types.proofs.inner.nested.+types.Given as goal

abbrev pub decreases-enter_arguments : goal.decreases-enter_arguments
decreases-enter_arguments l = l.d * 8 + 6

abbrev pub decreases-enter_field : goal.decreases-enter_field
decreases-enter_field l = l.d * 8 + 4

abbrev pub decreases-enter_fields : goal.decreases-enter_fields
decreases-enter_fields l = l.d * 8 + 5

abbrev pub decreases-enter_function : goal.decreases-enter_function
decreases-enter_function l = l.d * 8 + 7

abbrev pub decreases-enter_list : goal.decreases-enter_list
decreases-enter_list l = l.d * 8 + 7

abbrev pub decreases-enter_members : goal.decreases-enter_members
decreases-enter_members l = l.d * 8 + 6

abbrev pub decreases-enter_params : goal.decreases-enter_params
decreases-enter_params l = l.d * 8 + 6

abbrev pub decreases-enter_structure : goal.decreases-enter_structure
decreases-enter_structure l = l.d * 8 + 7

abbrev pub decreases-enter_type : goal.decreases-enter_type
decreases-enter_type l = l.d * 8

abbrev pub decreases-enter_types : goal.decreases-enter_types
decreases-enter_types l = l.d * 8 + 5

abbrev pub invariant-enter_fields-loop-a : goal.invariant-enter_fields-loop-a
invariant-enter_fields-loop-a l =
    let start = l.initial.next in
    (FieldsLoop (type l.d) l.line start.here.at (lentBy l.initial.buffers start.here.stand) l.initial.n start.before l.next.here.at
    (lentBy l.buffers l.next.here.stand) l.n l.next.before) × SameBuffers l.initial.buffers l.buffers

abbrev pub decreases-enter_fields-loop-a : goal.decreases-enter_fields-loop-a
decreases-enter_fields-loop-a l = left_at l.line l.next.here.at

abbrev pub invariant-enter_types-loop-a : goal.invariant-enter_types-loop-a
invariant-enter_types-loop-a l =
    let start = l.initial.end in
    (TysLoop (type l.d) l.line start.at (lentBy l.initial.buffers start.stand) l.initial.n l.end.at (lentBy l.buffers l.end.stand) l.n)
    × SameBuffers l.initial.buffers l.buffers

abbrev pub decreases-enter_types-loop-a : goal.decreases-enter_types-loop-a
decreases-enter_types-loop-a l = left_at l.line l.end.at
