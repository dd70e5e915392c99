use Rattle.edition_html.proofs.Harmless.{text-harmless}
use Rattle.edition_html.proofs.no_markup.Goals as goal

pub returns : goal.returns
returns c = text-harmless
