-- What solving left of a set, as the judge takes it; and the verdict on it.
use Rattle.std.specs.Prelude.{◌≡◌, refl, Bool, true, ◌&&◌, List, [], ◌∷◌, ℕ, ◌≤◌, leb, length, Result, Ok, Err, is_none}
use Rattle.std.specs.Prelude as std
use Rattle.std.proofs.Common.{subst, arith}
use borrow.Author.Tests.{le-leb}
use Rattle.rules.specs.Base.{Got, got, refused, need, bounded, collect}
use Rattle.rules.specs.Calls.{shortLists, tableKept, setGiven, apart, solvedSet}
use Rattle.rules.specs.Contents.{unmixed}
use Rattle.rules.specs.Names.{Table, table_of, numbersOf, is_held, lentTable}
use Rattle.rules.specs.Refusals.{toldBy, toldOption}
use Rattle.rules.specs.Solving.{Answer, accepted, remaining, stopped, solve}
use Rattle.rules.specs.Trees.{Names, Con, Binding, opensCon}
use Rattle.rules.specs.WellFormed.{goodBinding}
use Rattle.rules.specs.declared.Refusal.{Refusal}
use Rattle.laws.proofs.Checks.{need-passed, list-short}
use Rattle.laws.proofs.Given.{lent-long, kept-good, set-read}
use Rattle.laws.specs.Lists.{all-every}
use Rattle.laws.proofs.Lists.{is_all, bound-step}
use Rattle.laws.specs.NameTable.{Good}
use Rattle.records.specs.Found.{Words32}
use Rattle.records.specs.Good.{numbers, holding}
use Rattle.solve_finish.specs.Told.{IsSolved}
use Rattle.solve_finish.specs.declared.Finish.{Finish}
use Rattle.solve_finish.specs.declared.Finish.TheVariants as finish
use Rattle.solve.specs.declared.Solution.{Solution}
use Rattle.solve.specs.Told.{StandsBy, Stands}
use Rattle.theorems_soundness.specs.Claims.{Given}
use Rattle.theorems_soundness.proofs.Form.{solved-form}
use Rattle.theorems_soundness.proofs.Words.{numbers-ordered}
use Rattle.judge_trials.specs.Trials.{SetThere}
use Rattle.judge.specs.Found.{FoundThere, FoundJudged, JudgedAs, PlacedAs}
use Rattle.judge.proofs.Rest.{constraints-stand}

module _ (pool table set : List ℕ) where
  abbrev t : Table
  t = table_of pool table

  -- a set that passed the checks, and was accepted
  pub record Passed (bs : List (Binding ℕ)) (ns : List ℕ) (rounds : ℕ) : Type 0 where
    pub cs : List (Con ℕ)
    pub good : Good pool table
    pub short : length set ≤ 8192
    pub kept : tableKept t ≡ got tt
    pub read : setGiven t set ≡ got cs
    pub given : Given (numbersOf t) (is_held t) cs
    pub accepts : solve (numbersOf t) bounded cs ≡ accepted bs ns rounds

  pub passed : lentTable pool table ≡ got tt → (bs : List (Binding ℕ)) (ns : List ℕ) (k : ℕ) → solvedSet t set ≡ got (accepted bs ns k) → Passed bs ns k
  unfolding solvedSet apart
  passed h bs ns k e =
      let p = bound-step (shortLists (set ∷ [])) _ (accepted bs ns k) e in
      let q = bound-step (tableKept t) _ (accepted bs ns k) p.2 in
      let c = bound-step (setGiven t set) _ (accepted bs ns k) q.2 in
      let d = bound-step (need (unmixed (numbersOf t) (collect opensCon c.0)) 4) _ (accepted bs ns k) c.2 in
      let l = lent-long pool table tt h in
      record {
        cs = c.0;
        good = record { bytes = l.0; words = l.1; good = kept-good t q.0 q.1 };
        short = list-short set p.1;
        kept = q.1;
        read = c.1;
        given = record { well-formed = (set-read t set c.0 c.1).0; apart = need-passed (unmixed (numbersOf t) (collect opensCon c.0)) 4 d.1 };
        accepts = cc d.2;
      }

  -- an accepted answer to the set that the words are, whose rows stand in s
  pub record Own (s : List ℕ) (b n : ℕ) : Type 0 where
    pub bs : List (Binding ℕ)
    pub ns : List ℕ
    pub rounds : ℕ
    pub passes : Passed bs ns rounds
    pub is : solvedSet t set ≡ got (accepted bs ns rounds)
    pub found : FoundThere pool table s b n bs ns

  accepted-own : lentTable pool table ≡ got tt → (s : List ℕ) (b n : ℕ) → length s ≤ 8192 → (bs : List (Binding ℕ)) (ns : List ℕ) (k : ℕ)
      → solvedSet t set ≡ got (accepted bs ns k) → IsSolved s b n bs ns → Own s b n
  accepted-own h s b n long bs ns k e r =
      let p = passed h bs ns k e in
      let f = solved-form (numbersOf t) (is_held t) (numbers-ordered pool table p.good) p.cs p.given bs ns k p.accepts in
      record {
        bs = bs;
        ns = ns;
        rounds = k;
        passes = p;
        is = e;
        found = record {
          binds = r.binds;
          bounds = r.bounds.held;
          many = omega (arith, r.bounds.ends);
          good = is_all (goodBinding (numbers pool table) (holding pool table) 0) bs f.bindings-good;
          held = all-every (λ n. holding pool table n ≡ true) ns f.bounds-held;
          short = long;
        };
      }

  lent-good : Good pool table → lentTable pool table ≡ got tt
  unfolding lentTable
  lent-good g = rw (le-leb 8192 (length pool) g.bytes, le-leb 257 (length table) g.words) refl

  module _ (s : List ℕ) (solution : Solution) (h : Stands s solution (solvedSet t set)) where
    says : {o : Result Finish Refusal} → solution.outcome ≡ o → StandsBy s o solution.rounds (solvedSet t set)
    says i = subst (λ (o : Result Finish Refusal). StandsBy s o solution.rounds (solvedSet t set)) i h.says

    pub own : Good pool table → length s ≤ 8192 → {b n : ℕ} → solution.outcome ≡ Ok (finish.Solved b n) → Own s b n
    own g long {b} {n} i = go (solvedSet t set) refl (says i)
      where
        go : (m : Got (Answer ℕ)) → solvedSet t set ≡ m → StandsBy s (Ok (finish.Solved b n)) solution.rounds m → Own s b n
        go (refused j) e q = absurd q
        go (got (accepted bs ns k)) e q = accepted-own (lent-good g) s b n long bs ns k e q.1
        go (got (remaining ds k)) e q = absurd q
        go (got (stopped j k)) e q = absurd q

    abbrev Verdict : Names ℕ → List (Con ℕ) → Result (std.Option ℕ) Refusal → Type 0
    Verdict ν cs r = JudgedAs ν cs (solvedSet t set) (toldBy is_none r) × PlacedAs ν cs (solvedSet t set) (toldBy toldOption r)

  module _ {s : List ℕ} {b n : ℕ} (o : Own s b n) where
    abbrev p : Passed o.bs o.ns o.rounds
    p = o.passes

    pub stands : Words32 set → SetThere pool table set p.cs
    stands w = constraints-stand pool table set [] p.cs [] (record { good = p.good; given = p.read; short = p.short; types-short = omega arith }) w

    pub judged : {r : Result (std.Option ℕ) Refusal} → FoundJudged pool table o.bs o.ns p.cs r → (cs : List (Con ℕ)) → setGiven t set ≡ got cs
        → JudgedAs (numbers pool table) cs (solvedSet t set) (toldBy is_none r)
    judged f cs e = let z : p.cs ≡ cs = (let r = p.read in cc) in rw (o.is, ← z) f.verdict

    pub placed : {r : Result (std.Option ℕ) Refusal} → FoundJudged pool table o.bs o.ns p.cs r → (cs : List (Con ℕ)) → setGiven t set ≡ got cs
        → PlacedAs (numbers pool table) cs (solvedSet t set) (toldBy toldOption r)
    placed f cs e = let z : p.cs ≡ cs = (let r = p.read in cc) in rw (o.is, ← z) f.place
