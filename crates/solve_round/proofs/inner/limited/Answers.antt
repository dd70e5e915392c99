use Rattle.solve_round.proofs.Limits.{limit-long, limit-kept, limit-cons, limit-binds, limit-flat, cons-good, binds-good}
use Rattle.solve_round.proofs.inner.limited.Goals as goal

pub returns-then-ends-gt-RECORDS : goal.returns-then-ends-gt-RECORDS
returns-then-ends-gt-RECORDS c = λ st m k. limit-long _ _ _ _ st m c.if-ends-gt-RECORDS.true

pub returns-then-flat : goal.returns-then-flat
returns-then-flat c = λ st m k. limit-kept _ _ _ _ st m c.if-ends-gt-RECORDS.false (k c.if-flat.true)

pub constraints_flat-requires : goal.constraints_flat-requires
constraints_flat-requires c =
    let (st, m, k) = c.requires.made in
    cons-good _ _ _ _ st m c.if-ends-gt-RECORDS.false _ (search)

pub returns-then-not-constraints_flat : goal.returns-then-not-constraints_flat
returns-then-not-constraints_flat c = λ st m k.
    limit-cons _ _ _ _ st m c.if-ends-gt-RECORDS.false c.constraints_flat.ensures c.if-not-constraints_flat.true (search)

pub bindings_flat-requires : goal.bindings_flat-requires
bindings_flat-requires c =
    let (st, m, k) = c.requires.made in
    binds-good _ _ _ _ st m c.if-ends-gt-RECORDS.false _ (search)

pub returns-then-not-bindings_flat : goal.returns-then-not-bindings_flat
returns-then-not-bindings_flat c = λ st m k.
    limit-binds _ _ _ _ st m c.if-ends-gt-RECORDS.false c.bindings_flat.ensures c.if-not-bindings_flat.true (search)

pub returns : goal.returns
returns c = λ st m k.
    limit-flat _ _ _ _ st m c.if-ends-gt-RECORDS.false c.constraints_flat.ensures c.if-not-constraints_flat.false c.bindings_flat.ensures
    c.if-not-bindings_flat.false (search) (search)

pub invariant_of-constraints : goal.invariant_of-constraints
invariant_of-constraints c =
    let (st, m, k) = c.requires.made in
    record { near = m.near c.if-ends-gt-RECORDS.false; trees = (st.cons, m.cons c.if-ends-gt-RECORDS.false) }

pub invariant_of-bindings : goal.invariant_of-bindings
invariant_of-bindings c =
    let (st, m, k) = c.requires.made in
    record { near = m.near c.if-ends-gt-RECORDS.false; trees = (st.binds, m.binds c.if-ends-gt-RECORDS.false) }
