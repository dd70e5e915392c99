-- What the lines of a certificate are told to propose, line after line.
use Rattle.std.specs.Prelude.{◌≡◌, true, false, List, ℕ, Option, Some, None}
use Rattle.rules.specs.Base.{got, all}
use Rattle.rules.specs.Calls.{setGiven}
use Rattle.rules.specs.Names.{table_of}
use Rattle.rules.specs.Trees.{Con}
use Rattle.edition_certificates.specs.Certificates.{pairsOf, boundsOf, proposes}
use Rattle.edition_certificates.specs.declared.inner.Proposal.{Proposal}

-- the pairs and bounds of lines that all propose something
pub record IsProposal (ds : List (Con ℕ)) (p : Proposal) : Type 0 where
  pub lines : all proposes ds ≡ true
  pub pairs : p.pairs.items ≡ pairsOf 0 ds
  pub bounds : p.bounds.items ≡ boundsOf ds

abbrev pub ProposedBy : List (Con ℕ) → Option Proposal → Type 0
ProposedBy ds None = all proposes ds ≡ false
ProposedBy ds (Some p) = IsProposal ds p

-- the same of the lines that the words of a certificate are
abbrev pub Proposed : List ℕ → List ℕ → List ℕ → Option Proposal → Type 0
Proposed pool table certificate p = (ds : List (Con ℕ)) → setGiven (table_of pool table) certificate ≡ got ds → ProposedBy ds p
