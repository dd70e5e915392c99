-- What is said to a certificate, by what its checks found.
use Rattle.std.specs.Prelude.{◌≡◌, refl, List, ℕ, Some, None}
use Rattle.std.proofs.Common.{sym}
use Rattle.rules.specs.Base.{got, refused}
use Rattle.rules.specs.Calls.{aloneGiven, setCall, setGiven}
use Rattle.rules.specs.Names.{table_of}
use Rattle.laws.proofs.Checks.{passed}
use Rattle.edition_certificates.specs.Certificates.{judged, verified}
use Rattle.edition_certificates.specs.declared.inner.Proposal.{Proposal}
use Rattle.edition_certificates.specs.Proposals.{Proposed}

module _ (pool table set certificate : List ℕ) where
  pub no-set : (n : ℕ) → setCall pool table certificate ≡ refused n → refused n ≡ verified pool table set certificate
  unfolding verified
  no-set n e = sym (rw e refl)

  module _ (e : setCall pool table certificate ≡ got tt) where
    read : (ds : List _) × (setGiven (table_of pool table) certificate ≡ got ds)
    unfolding setCall
    read = let p = passed (aloneGiven pool table certificate) (setGiven (table_of pool table) certificate) e in (p.0, p.1.1)

    pub other-line : Proposed pool table certificate None → refused 12 ≡ verified pool table set certificate
    unfolding verified
    other-line h = sym (rw (e, read.1, h read.0 read.1) refl)

    pub is-judged : (p : Proposal) → Proposed pool table certificate (Some p)
        → judged pool table set certificate p.pairs.items p.bounds.items ≡ verified pool table set certificate
    unfolding verified
    is-judged p h = let k = h read.0 read.1 in sym (rw (e, read.1, k.lines, k.pairs, k.bounds) refl)
