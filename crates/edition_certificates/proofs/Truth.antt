-- A yes is the judge's, of what the lines say.
use Rattle.std.specs.Prelude.{◌≡◌, true, List, ℕ}
use Rattle.rules.specs.Base.{got, need, all}
use Rattle.rules.specs.Calls.{setCall, setGiven}
use Rattle.rules.specs.Names.{table_of}
use Rattle.laws.proofs.Checks.{need-passed}
use Rattle.laws.proofs.Lists.{bound-step}
use Rattle.records.specs.Found.{Words32}
use Rattle.judge_entries.proofs.Given.{parts}
use Rattle.judge_pairs.specs.Pairs.{entriesIn}
use Rattle.theorems_soundness.proofs.Soundness.{judge-call-yes}
use Rattle.edition_certificates.specs.Certificates.{proposes, pairsOf, boundsOf, boundNames, verified}
use Rattle.edition_certificates.specs.Theorems.{Verified}
use Rattle.edition_certificates.proofs.Standing.{lines-stand}
use Rattle.edition_certificates.proofs.Said.{bindings-are}
use Rattle.edition_certificates.proofs.Named.{names-are}

pub verified-true : (pool table set certificate : List ℕ) → Words32 certificate → verified pool table set certificate ≡ got true
    → Verified pool table set certificate
unfolding verified
verified-true pool table set certificate w e =
    let p = bound-step (setCall pool table certificate) _ true e in
    let d = bound-step (setGiven (table_of pool table) certificate) _ true p.2 in
    let n = bound-step (need (all proposes d.0) 12) _ true d.2 in
    let j = judge-call-yes pool table set (entriesIn (pairsOf 0 d.0)) certificate (boundsOf d.0) _ n.2 in
    let h = lines-stand pool table certificate w p.1 d.0 d.1 in
    let b = bindings-are pool table certificate w d.0 0 j.bs h.held (parts pool table certificate (entriesIn (pairsOf 0 d.0)) j.bs j.proposed).bound in
    let i = names-are (table_of pool table) (boundNames d.0) j.ns j.bounded-by in
    record {
      cs = j.cs;
      ds = d.0;
      read = j.read;
      certified = d.1;
      lines = need-passed (all proposes d.0) 12 n.1;
      solves = rw (b, i) at j.verdict;
    }
