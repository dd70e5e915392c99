use Rattle.std.proofs.Common.{List, refl, arith}
use Rattle.rules.specs.Base.{collect}
use Rattle.laws.proofs.Numbers.{yes_counts}
use Rattle.edition.specs.Files.{files_of}
use Rattle.edition.specs.declared.model.File.{File}
use Rattle.edition_verify.specs.Verifying.{YesIsTrue, fileText, verifiedIn}
use Rattle.edition_verify.proofs.Going.{every-more, every-one, all-told, all-counted, file-told}
use Rattle.edition_verify.proofs.tell_files.Goals as goal

pub loop-file-preserved : goal.loop-file-preserved
loop-file-preserved c = (
  rw (yes_counts _ c.from-verified.ensures) (file-told c.args.entries.now c.args.files.now c.args.out.now.items c.loop-file.file-index c.loop-file.verified _ _
      c.loop-file-test.true refl c.loop-file.invariant.0 c.in_ok-yes.yes c.in_ok-yes.ensures.answer c.in_ok-yes.ensures.told),
  every-more (YesIsTrue c.args.entries.now) c.args.files.now c.loop-file.file-index _ _ c.loop-file-test.true refl c.in_ok-yes.ensures.truth
      c.loop-file.invariant.1,
)

pub returns-clause-told : goal.returns-clause-told
unfolding collect
returns-clause-told c = all-told (λ (xs : List File). collect (fileText c.args.entries.now) (files_of xs))
    (λ (xs : List File). verifiedIn c.args.entries.now (files_of xs)) c.args.files.now c.args.out.now.items c.loop-file.file-index c.loop-file.verified
    (omega (arith, c.loop-file-test.false)) refl c.loop-file.invariant.0

pub returns-clause-counted : goal.returns-clause-counted
returns-clause-counted c = all-counted (λ (xs : List File). collect (fileText c.args.entries.now) (files_of xs))
    (λ (xs : List File). verifiedIn c.args.entries.now (files_of xs)) c.args.files.now c.args.out.now.items c.loop-file.file-index c.loop-file.verified
    (omega (arith, c.loop-file-test.false)) refl c.loop-file.invariant.0

pub returns-clause-truth : goal.returns-clause-truth
returns-clause-truth c = every-one (YesIsTrue c.args.entries.now) c.args.files.now c.loop-file.file-index (omega (arith, c.loop-file-test.false))
    c.loop-file.invariant.1
