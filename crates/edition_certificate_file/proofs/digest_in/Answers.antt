use Rattle.std.proofs.Common.{◌≡◌, rules, tests}
use Rattle.std.specs.List.{list_any}
use Rattle.std.specs.Char.{is_ascii_uppercase}
use Rattle.std.proofs.lemmas.Iterator.{YieldsList-from_slice}
use Rattle.std.proofs.lemmas.Iterator.Search.{any_from_yields_List}
use Rattle.edition_certificate_file.specs.Reading.{digestIn}
use Rattle.edition_certificate_file.proofs.digest_in.Goals as goal

pub returns : goal.returns
unfolding digestIn
returns c =
    let capital : c.any.result ≡ list_any is_ascii_uppercase c.in_ok-digits.digits.now =
    any_from_yields_List is_ascii_uppercase _ _ _ c.any.ensures.ran (YieldsList-from_slice c.in_ok-digits.digits.now cc)
    (λ x b q k. search (rules, tests)) in
    search rules
