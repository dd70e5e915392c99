use Rattle.std.proofs.Common.{refl, sym, ◌∙◌, arith}
use Rattle.rules.specs.Names.{sameBytes}
use Rattle.edition_certificate_file.specs.Files.{writtenName}
use Rattle.edition_verify.specs.Verifying.{Had, isNamed}
use Rattle.edition_verify.proofs.Going.{any-here, any-later, any-nowhere}
use Rattle.edition_verify.proofs.is_named.Goals as goal

pub returns-then-named : goal.returns-then-named
unfolding isNamed
returns-then-named c = any-here (λ (h : Had). sameBytes c.args.entry.now.name.items (writtenName h.0)) c.args.files.now c.loop-file.file-index _ _
    c.loop-file-test.true refl c.loop-file.invariant (sym c.in_ok-named.ensures ∙ c.if-named.true)

pub loop-file-preserved : goal.loop-file-preserved
unfolding isNamed
loop-file-preserved c = any-later (λ (h : Had). sameBytes c.args.entry.now.name.items (writtenName h.0)) c.args.files.now c.loop-file.file-index _ _
    c.loop-file-test.true refl c.loop-file.invariant (sym c.in_ok-named.ensures ∙ c.if-named.false)

pub returns : goal.returns
unfolding isNamed
returns c = any-nowhere (λ (h : Had). sameBytes c.args.entry.now.name.items (writtenName h.0)) c.args.files.now c.loop-file.file-index
    (omega (arith, c.loop-file-test.false)) c.loop-file.invariant
