use Rattle.std.proofs.Common.{sym}
use Rattle.std.proofs.lemmas.List.{append-nil}
use Rattle.rules.specs.Writing.{words}
use Rattle.edition_certificates.proofs.inner.Proposal.put.Goals as goal

pub returns-in_ok-push-in-Binds-2-clause-bounds : goal.returns-in_ok-push-in-Binds-2-clause-bounds
unfolding words
returns-in_ok-push-in-Binds-2-clause-bounds c = rw c.in-Binds.is (sym (append-nil c.args.self.now.bounds.items))
