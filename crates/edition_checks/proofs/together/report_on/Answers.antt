-- The table is one without names, and the files are those that were given.
use Rattle.edition.proofs.Told.{plain-is}
use Rattle.edition_checks.specs.Given.{editionOf}
use Rattle.edition_checks.proofs.together.report_on.Goals as goal

pub returns-in-Ok-clause-told : goal.returns-in-Ok-clause-told
returns-in-Ok-clause-told g c =
    let told = c.in-Ok.ensures.told in
    let lent = rw (c.deref_mut.ensures.value, c.deref_mut-2.ensures.value, c.deref.ensures.value) at told in
    rw (c.in_ok-tables.ensures.pool, c.in_ok-tables.ensures.table, c.in_ok-files.ensures) at lent

pub returns-in-Ok-clause-plain : goal.returns-in-Ok-clause-plain
returns-in-Ok-clause-plain g c = λ plain.
    let told = c.in-Ok.ensures.told in
    let lent = rw (c.deref_mut.ensures.value, c.deref_mut-2.ensures.value, c.deref.ensures.value) at told in
    let given = rw (c.in_ok-tables.ensures.pool, c.in_ok-tables.ensures.table, c.in_ok-files.ensures) at lent in
    rw (plain, plain-is c.args.how.shown (editionOf c.args.given.now)) at given

pub returns-in-Ok-clause-counted : goal.returns-in-Ok-clause-counted
returns-in-Ok-clause-counted g c =
    let counted = c.in-Ok.ensures.counted in
    let lent = rw (c.deref_mut.ensures.value, c.deref_mut-2.ensures.value, c.deref.ensures.value) at counted in
    rw (c.in_ok-tables.ensures.pool, c.in_ok-tables.ensures.table, c.in_ok-files.ensures) at lent

pub returns-in-Ok-clause-truth : goal.returns-in-Ok-clause-truth
returns-in-Ok-clause-truth g c =
    let truth = c.in-Ok.ensures.truth in
    let lent = rw (c.deref_mut.ensures.value, c.deref_mut-2.ensures.value, c.deref.ensures.value) at truth in
    rw (c.in_ok-tables.ensures.pool, c.in_ok-tables.ensures.table, c.in_ok-files.ensures) at lent
