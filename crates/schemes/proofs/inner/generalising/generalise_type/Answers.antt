-- `inner::generalising::generalise_type` meets its contract.
use Rattle.std.proofs.Common.{sym, arith}
use lib.Seq.{length-take-le}
use Rattle.schemes.proofs.Generalising.{names-known, listed-few, sorted-few, sorted-held, type-made}
use Rattle.schemes.proofs.Whole.{weak-sound}
use Rattle.schemes.proofs.inner.generalising.generalise_type.Goals as goal

pub list_names-k-requires : goal.list_names-k-requires
list_names-k-requires c =
    let a = c.args in
    record {
      every = names-known a.names.pool.now a.names.table.now a.names.good a.t.tree.0 a.bounds.listed.0 c.requires.ready a.t.words.now a.t.at a.t.tree.1 _
          c.end.ensures;
      room = omega arith;
    }

pub slice_bounds-sorted-end : goal.slice_bounds-sorted-end
slice_bounds-sorted-end c =
    let a = c.args in
    listed-few a.names.pool.now a.names.table.now a.names.good a.t.tree.0 a.bounds.listed.0 c.requires.ready a.t.words.now a.t.at a.t.tree.1 _
    c.end.ensures c.list_names-k.ensures c.list_names-k.auto.out

pub slice_bounds-handed-end : goal.slice_bounds-handed-end
slice_bounds-handed-end c =
    let a = c.args in
    let few = listed-few a.names.pool.now a.names.table.now a.names.good a.t.tree.0 a.bounds.listed.0 c.requires.ready a.t.words.now a.t.at a.t.tree.1 _
    c.end.ensures c.list_names-k.ensures c.list_names-k.auto.out in
    sym (length-take-le c.list_names-k.result c.list_names-k.new.out few)

pub invariant_of-handed : goal.invariant_of-handed
invariant_of-handed c =
    let a = c.args in
    record {
      few = sorted-few a.names.pool.now a.names.table.now a.names.good a.t.tree.0 a.bounds.listed.0 c.requires.ready a.t.words.now a.t.at a.t.tree.1 _
          c.end.ensures c.list_names-k.ensures c.list_names-k.auto.out;
      held = sorted-held a.names.pool.now a.names.table.now a.names.good a.t.tree.0 a.bounds.listed.0 c.requires.ready a.t.words.now a.t.at a.t.tree.1 _
          c.end.ensures c.list_names-k.ensures c.list_names-k.auto.out;
    }

pub quantify_at-requires-clause-sound : goal.quantify_at-requires-clause-sound
quantify_at-requires-clause-sound c =
    let a = c.args in
    weak-sound a.names.pool.now a.names.table.now a.t.tree.0 c.requires.ready.good c.requires.ready.flat

pub returns : goal.returns
returns c =
    let a = c.args in
    type-made a.names.pool.now a.names.table.now a.names.good a.t.tree.0 a.bounds.listed.0 c.requires.ready a.t.words.now a.t.at a.t.tree.1 _
    c.end.ensures c.list_names-k.ensures c.list_names-k.auto.out c.quantify_at.ensures
