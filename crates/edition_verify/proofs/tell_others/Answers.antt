use Rattle.std.proofs.Common.{refl, arith}
use Rattle.rules.specs.Base.{collect}
use Rattle.laws.proofs.Numbers.{yes_counts}
use Rattle.edition.specs.Files.{files_of}
use Rattle.edition_verify.specs.Verifying.{otherText, othersIn}
use Rattle.edition_verify.proofs.Going.{all-told, all-counted, other-told}
use Rattle.edition_verify.proofs.tell_others.Goals as goal

pub loop-entry-preserved : goal.loop-entry-preserved
loop-entry-preserved c = rw (yes_counts _ c.from-others.ensures)
    (other-told (files_of c.args.files.now) c.args.entries.now c.args.out.now.items c.loop-entry.entry-index c.loop-entry.others
    c.entry-item.result c.loop-entry-test.true c.entry-item.is c.loop-entry.invariant c.in_ok-named.named c.in_ok-named.ensures.answer
    c.in_ok-named.ensures.told)

pub returns-clause-told : goal.returns-clause-told
unfolding collect
returns-clause-told c = all-told (collect (otherText (files_of c.args.files.now))) (othersIn (files_of c.args.files.now)) c.args.entries.now
    c.args.out.now.items c.loop-entry.entry-index c.loop-entry.others (omega (arith, c.loop-entry-test.false)) refl c.loop-entry.invariant

pub returns-clause-counted : goal.returns-clause-counted
returns-clause-counted c = all-counted (collect (otherText (files_of c.args.files.now))) (othersIn (files_of c.args.files.now)) c.args.entries.now
    c.args.out.now.items c.loop-entry.entry-index c.loop-entry.others (omega (arith, c.loop-entry-test.false)) refl c.loop-entry.invariant
