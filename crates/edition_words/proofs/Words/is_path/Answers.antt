use Rattle.std.proofs.Common.{rules, tests, ap, not, ◌≡◌}
use Rattle.std.specs.List.{list_any}
use Rattle.std.specs.String.{string_bytes}
use Rattle.std.proofs.lemmas.Iterator.{YieldsList-from_slice}
use Rattle.std.proofs.lemmas.Iterator.Search.{any_from_yields_List}
use Rattle.edition_words.specs.Paths.{isOrSets}
use Rattle.edition_words.proofs.Words.is_path.Goals as goal

pub returns : goal.returns
returns c =
    let found : c.any.result ≡ list_any (λ r. isOrSets c.args.word.now (string_bytes r)) c.args.self.now.replaced.items =
    any_from_yields_List _ _ _ _ c.any.ensures.ran (YieldsList-from_slice c.args.self.now.replaced.items cc) (λ x b q k. search (rules, tests)) in
    ap not found
