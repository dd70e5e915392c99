use Rattle.std.proofs.Common.{◌≡◌, ◌∙◌, sym, Some, None}
use Rattle.std.specs.BTreeMap.{get}
use Rattle.edition_structs.specs.Told.{cmpKey}
use Rattle.edition_structs.proofs.Keys.{first_is, firsts_stay, firsts_more}
use Rattle.edition_structs.proofs.firsts.first_alike.Goals as goal

pub returns-in-Some : goal.returns-in-Some
returns-in-Some c =
    let held : Some c.in-Some.first ≡ get cmpKey c.args.firsts.now (c.args.written.name, c.args.written.arguments)
    = sym c.in-Some.is ∙ c.copied.ensures ∙ c.get.ensures.value in
    λ ss h. (first_is c.args.firsts.now c.args.written ss h _ held, firsts_stay c.args.firsts.now c.args.written ss h _ held)

pub returns : goal.returns
returns c =
    let free : None ≡ get cmpKey c.args.firsts.now (c.args.written.name, c.args.written.arguments)
    = sym c.in_default.is ∙ c.copied.ensures ∙ c.get.ensures.value in
    let more = c.in_ok-insert.ensures.updates.0 in
    λ ss h. (first_is c.args.firsts.now c.args.written ss h _ free, firsts_more c.args.firsts.now c.args.written ss h c.insert.new.self free more)
