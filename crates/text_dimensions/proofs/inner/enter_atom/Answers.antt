-- `inner::enter_atom` meets its contract.
use Rattle.text_names.proofs.Effects.{ready_on}
use Rattle.text_names.proofs.Inside.{inside-column, inside-spelled}
use Rattle.text_dimensions.proofs.Atoms.{atom-done, no-atom}
use Rattle.text_dimensions.proofs.inner.enter_atom.Goals as goal

pub returns-then-kind-eq0 : goal.returns-then-kind-eq0
returns-then-kind-eq0 c =
    λ dst. rw c.refuse-at.ensures (no-atom c.requires 0 _ (rw c.byte_at-b.ensures at c.kind_for-kind.ensures) c.if-kind-eq0.true c.next_sign-c.ensures)

pub read_named-x-requires : goal.read_named-x-requires
read_named-x-requires c =
    ready_on (inside-spelled _) c.mark-a.ensures.reads (ready_on inside-column c.next_sign-c.ensures c.requires)

pub returns : goal.returns
returns c =
    let e = c.byte_at-b.ensures in
    λ dst. atom-done (rw e at c.kind_for-kind.ensures) c.if-kind-eq0.false c.next_sign-c.ensures (rw e at c.mark-a.ensures.reads) (c.read_named-x.ensures dst)
