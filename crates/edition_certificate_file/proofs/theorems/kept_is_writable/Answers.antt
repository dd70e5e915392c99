use Rattle.std.proofs.Common.{◌≡◌, length, rules}
use Rattle.edition_certificate_file.specs.Files.{keptOf}
use Rattle.edition_certificate_file.proofs.SheetLines.{kept-writable}
use Rattle.edition_certificate_file.proofs.theorems.kept_is_writable.Goals as goal

pub returns : goal.returns
returns c =
    let many : length c.args.entry.now.digest ≡ 32 = search rules in
    kept-writable (keptOf c.args.entry.now) many c.are_bytes.ensures
