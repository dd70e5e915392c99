-- What is kept is writable: its name was made to stand on one line, and its lines were made of a page.
use Rattle.std.proofs.Common.{◌≡◌, refl, ap, ◌∙◌, true}
use Rattle.std.specs.Result.{is_ok}
use Rattle.edition_certificate_file.specs.Files.{keptOf}
use Rattle.edition_certificate_file.specs.Writable.{onOneLine, isIndented, writable}
use Rattle.edition_certificate_file.proofs.OneLine.{written-on-line}
use Rattle.edition_verify.specs.Verifying.{KeptOf}
use Rattle.edition_checks.proofs.LinesKept.{there, behind, still-writable}
use Rattle.edition_checks.proofs.keeping.Keeping.add.Goals as goal

pub returns-in-Err : goal.returns-in-Err
returns-in-Err c = (refl, rw (c.in-Err.is, c.in_ok-lines.ensures.is) at c.in_ok-kept.ensures)

pub returns-then-is_kept : goal.returns-then-is_kept
returns-then-is_kept c = record {
  entry = c.in-Ok.entry;
  kept = rw (c.in-Ok.is, c.in_ok-lines.ensures.is) at c.in_ok-kept.ensures;
  added = there c.in-Ok.entry c.deref.ensures.value c.deref-2.ensures.value c.is_kept.ensures c.if-is_kept.true;
}

pub invariant_of-self : goal.invariant_of-self
invariant_of-self c =
    let kept : KeptOf c.args.name.now c.args.text.now c.in_ok-lines.lines.items c.in-Ok.entry = rw c.in-Ok.is at c.in_ok-kept.ensures in
    let line : onOneLine c.in-Ok.entry.name.items ≡ true = ap onOneLine kept.named ∙ written-on-line c.args.name.now in
    let lines : isIndented c.in-Ok.entry.lines.items ≡ true = ap isIndented kept.given ∙ c.in_ok-lines.ensures.indented in
    let one : writable (keptOf c.in-Ok.entry) ≡ true = c.kept_is_writable.ensures line lines in
    record {
      writable = still-writable c.in-Ok.entry c.deref.ensures.value c.deref-2.ensures.value c.is_kept.ensures c.if-is_kept.false
          c.args.self.now.writable one (is_ok c.push.result) c.push.ensures.items;
    }

pub returns : goal.returns
returns c = record {
  entry = c.in-Ok.entry;
  kept = rw (c.in-Ok.is, c.in_ok-lines.ensures.is) at c.in_ok-kept.ensures;
  added = behind c.in-Ok.entry c.deref.ensures.value c.deref-2.ensures.value c.is_kept.ensures c.if-is_kept.false c.in_ok-push.ensures.items;
}
