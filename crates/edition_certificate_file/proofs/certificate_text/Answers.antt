use Rattle.std.proofs.Common.{◌≡◌, rules}
use Rattle.edition_certificate_file.specs.Files.{firstLine}
use Rattle.edition_certificate_file.proofs.Kept.{certificate-text}
use Rattle.edition_certificate_file.proofs.certificate_text.Goals as goal

pub returns : goal.returns
returns c =
    let first : c.extend_from_slice.new.self.items ≡ firstLine = search rules in
    certificate-text c.args.entries.now first c.in_ok-put_entries.ensures c.in_ok-put_last.ensures c.in_ok-extend_from_slice-2.ensures.items
