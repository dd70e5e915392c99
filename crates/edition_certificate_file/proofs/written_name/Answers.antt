use Rattle.std.proofs.Common.{refl, [], ap, ◌∙◌, arith}
use Rattle.std.proofs.lemmas.List.{take_all}
use Rattle.rules.specs.Base.{collect}
use Rattle.edition_certificate_file.specs.Files.{writtenByte, writtenName}
use Rattle.edition_certificate_file.proofs.Written.{one-more}
use Rattle.edition_certificate_file.proofs.written_name.Goals as goal

pub loop-b-init : goal.loop-b-init
unfolding collect
loop-b-init c = c.new-out.ensures.items

pub loop-b-preserved : goal.loop-b-preserved
loop-b-preserved c = one-more writtenByte c.args.name.now [] c.loop-b.b-index 0 c.loop-b-test.true refl c.loop-b.invariant c.in_ok-put_byte.ensures

pub returns : goal.returns
unfolding writtenName
returns c = c.loop-b.invariant ∙ ap (collect writtenByte) (take_all c.loop-b.b-index c.args.name.now (omega (arith, c.loop-b-test.false)))
