-- The lines of a certificate that is a well formed set stand in its words.
use Rattle.std.specs.Prelude.{◌≡◌, true, ◌&&◌, List, [], ◌∷◌, ℕ, ◌/◌, ◌≤◌, leb, length, Option, Result, IfOk}
use Rattle.std.proofs.Common.{ap, arith, subst}
use Rattle.std.proofs.lemmas.Result.{IfOk-weaker}
use borrow.Author.Tests.{leb-true}
use Rattle.rules.specs.Base.{got, ◌>>◌, all, sum_of}
use Rattle.rules.specs.Calls.{aloneGiven, shortLists, tableKept, setCall, setGiven}
use Rattle.rules.specs.Names.{table_of, lentTable}
use Rattle.rules.specs.Trees.{Con, sizeCon}
use Rattle.laws.proofs.Checks.{need-passed, first-passed, next-passed, passed}
use Rattle.laws.specs.Lists.{and_left}
use Rattle.records.specs.Found.{Words32}
use Rattle.records.proofs.Whole.{entry-good}
use Rattle.types.specs.Sets.{Cons, IsCons, one-set}
use Rattle.judge.proofs.Rest.{constraints-stand}
use Rattle.edition_certificates.specs.Proposals.{Proposed, ProposedBy}
use Rattle.edition_certificates.specs.declared.inner.Proposal.{Proposal}

module _ (pool table s : List ℕ) (w : Words32 s) (e : setCall pool table s ≡ got tt) where
  alone : aloneGiven pool table s ≡ got tt
  unfolding setCall
  alone = (passed (aloneGiven pool table s) (setGiven (table_of pool table) s) e).1.0

  pub short : length s ≤ 8192
  unfolding aloneGiven shortLists all
  short =
      let p = first-passed (tableKept (table_of pool table)) tt (lentTable pool table >> shortLists (s ∷ [])) alone in
      let q = next-passed (shortLists (s ∷ [])) tt (lentTable pool table) p in
      leb-true (length s) 8192 (and_left (leb (length s) 8192) true (need-passed (leb (length s) 8192 && true) 8 q))

  -- it is read as some lines
  pub read : (ds : List (Con ℕ)) × (setGiven (table_of pool table) s ≡ got ds)
  unfolding setCall
  read = let p = passed (aloneGiven pool table s) (setGiven (table_of pool table) s) e in (p.0, p.1.1)

  pub lines-stand : (ds : List (Con ℕ)) → setGiven (table_of pool table) s ≡ got ds → IsCons s 0 (length s / 4) ds
  lines-stand ds g = (constraints-stand pool table s [] ds []
      (record { good = entry-good pool table s alone; given = g; short = short; types-short = omega arith }) w).held

  -- whichever lines stand there, they are few, and those: what they propose, the certificate does
  module _ (ls : List (Con ℕ)) (h : IsCons s 0 (length s / 4) ls) where
    pub few : sum_of sizeCon ls ≤ 2048
    few = omega (arith, h.ends, short)

    same : (ds : List (Con ℕ)) → setGiven (table_of pool table) s ≡ got ds → ls ≡ ds
    same ds g = ap (λ (x : Cons s 0 (length s / 4)). x.0) (one-set s 0 (length s / 4) (ls, h) (ds, lines-stand ds g))

    pub proposed : {E : Type 0} (r : Result (Option Proposal) E) → IfOk r (ProposedBy ls) → IfOk r (Proposed pool table s)
    proposed r = IfOk-weaker r (ProposedBy ls) (Proposed pool table s) (λ p k ds g. subst (λ (cs : List (Con ℕ)). ProposedBy cs p) (same ds g) k)
