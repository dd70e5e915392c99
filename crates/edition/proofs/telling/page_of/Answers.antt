-- `page_of` meets its contract.
use Rattle.edition.proofs.Pages.{tells}
use Rattle.edition.proofs.telling.page_of.Goals as goal

pub returns : goal.returns
returns c = λ p h. rw (c.constraints.ensures, c.names.ensures) (tells _ _ c.args.sheet.now.content _ p h)
