use Rattle.std.proofs.Common.{rules, eqb}
use lib.Pointwise.{pointwise}
use Rattle.edition_certificate_file.proofs.Kept.{kept-here, not-yet}
use Rattle.edition_certificate_file.proofs.is_kept.Goals as goal

pub returns-then-eq : goal.returns-then-eq
returns-then-eq c =
    kept-here (λ k. pointwise eqb k.name c.args.name.now) c.args.entries.now c.loop-entry.entry-index c.entry-item.result c.loop-entry-test.true
    c.entry-item.is (search rules)

pub loop-entry-preserved : goal.loop-entry-preserved
loop-entry-preserved c =
    not-yet (λ k. pointwise eqb k.name c.args.name.now) c.args.entries.now c.loop-entry.entry-index c.entry-item.result c.loop-entry-test.true
    c.entry-item.is (search rules) c.loop-entry.invariant
