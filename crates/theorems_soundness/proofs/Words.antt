-- The theorems for the calls on words: what a call checks is what the theorems ask.
use Rattle.std.proofs.Math.Path.{◌≡◌, refl, ap}
use Rattle.std.proofs.Common.{◌∙◌}
use Rattle.std.specs.Prelude.{Bool, false, List, [], ◌∷◌, ◌++◌, ℕ, length}
use Rattle.std.proofs.Math.Bool.{true}
use Rattle.rules.specs.Base.{Got, got, refused, ◌>>◌, need, bounded, collect, sum_of}
use Rattle.rules.specs.Trees.{Con, Binding, opensCon, sizeBinding}
use Rattle.rules.specs.Names.{Table, table_of, numbersOf, is_held, lentTable}
use Rattle.rules.specs.Contents.{unmixed}
use Rattle.rules.specs.Solving.{Answer, accepted, remaining, stopped, solve}
use Rattle.rules.specs.Meaning.{Solves, Premise}
use Rattle.rules.specs.Judging.{judge}
use Rattle.rules.specs.Calls.{
  lentResult,
  lentWork,
  lent,
  shortLists,
  shortNumbers,
  tableKept,
  setGiven,
  apart,
  opensBinding,
  resultAfter,
  solved,
  refusedAfter,
  solvedOf,
  solvedWords,
  solvedSet,
  solveCall,
  Entry,
  entriesGiven,
  risingBounds,
  judgedSet,
  judgeCall,
}
use Rattle.laws.proofs.Checks.{need-passed}
use Rattle.laws.proofs.NameTable.{held-apart}
use Rattle.laws.proofs.ByteOrder.{numbered-lawful}
use Rattle.laws.proofs.Given.{lent-long, kept-good, set-read}
use Rattle.laws.specs.NameTable.{Good}
use Rattle.laws.proofs.Lists.{bound-step}
use Rattle.theorems_soundness.specs.Claims.{Ordered, Given, Fails, Proposes, YesOrLimits, SoundAnswer, JudgedSet}
use Rattle.theorems_soundness.proofs.Form.{final, solved-form}
use Rattle.theorems_soundness.proofs.Runs.{answer-apart, solves}
use Rattle.theorems_soundness.proofs.Judged.{yes-solves, no-fails, solution-judged}

-- ══ Names ══

-- the numbers of a table that passed its checks
pub numbers-ordered : (pool table : List ℕ) → Good pool table → Ordered (numbersOf (table_of pool table)) (is_held (table_of pool table))
numbers-ordered pool table g = record { lawful = numbered-lawful _; tells = held-apart pool table g }

-- ══ Solving ══

module _ (pool table set : List ℕ) where
  abbrev t : Table
  t = table_of pool table

  -- a set that passed the checks, and was accepted
  record Passed (bs : List (Binding ℕ)) (ns : List ℕ) (k : ℕ) : Type 0 where
    cs : List (Con ℕ)
    short : shortLists (set ∷ []) ≡ got tt
    read : setGiven t set ≡ got cs
    kept : (u : Unit {0}) × (tableKept t ≡ got u)
    order : Ordered (numbersOf t) (is_held t)
    given : Given (numbersOf t) (is_held t) cs
    accepts : solve (numbersOf t) bounded cs ≡ accepted bs ns k

  accepted-set : (u : Unit {0}) → lentTable pool table ≡ got u → (bs : List (Binding ℕ)) (ns : List ℕ) (k : ℕ)
      → solvedSet t set ≡ got (accepted bs ns k) → Passed bs ns k
  unfolding solvedSet apart
  accepted-set u h bs ns k e =
      let a = bound-step (shortLists (set ∷ [])) _ (accepted bs ns k) e in
      let b = bound-step (tableKept t) _ (accepted bs ns k) a.2 in
      let c = bound-step (setGiven t set) _ (accepted bs ns k) b.2 in
      let d = bound-step (need (unmixed (numbersOf t) (collect opensCon c.0)) 4) _ (accepted bs ns k) c.2 in
      let l = lent-long pool table u h in
      record {
        cs = c.0;
        short = a.1;
        read = c.1;
        kept = (b.0, b.1);
        order = numbers-ordered pool table (record { bytes = l.0; words = l.1; good = kept-good t b.0 b.1 });
        given = record { well-formed = (set-read t set c.0 c.1).0; apart = need-passed (unmixed (numbersOf t) (collect opensCon c.0)) 4 d.1 };
        accepts = cc d.2;
      }

  -- the judge on the answer
  own-judged : (u : Unit {0}) → lentTable pool table ≡ got u → (bs : List (Binding ℕ)) (ns : List ℕ) (k : ℕ) (p : Passed bs ns k)
      → Premise (numbersOf t) p.cs bs → (entries : List Entry) (types bounds work : List ℕ) → Proposes pool table set bs ns entries types bounds work
      → YesOrLimits (judgeCall pool table set entries types bounds work).answer
  unfolding judgeCall judgedSet apart
  own-judged u h bs ns k p q entries types bounds work r =
      let m : unmixed (numbersOf t) (collect opensCon p.cs ++ collect opensBinding bs) ≡ true =
      answer-apart (numbersOf t) (is_held t) p.order p.cs bs ns p.given (final (numbersOf t) (is_held t) p.order p.cs p.given bs ns k p.accepts)
      in
      let s : Solves (numbersOf t) p.cs bs ns = solves (numbersOf t) (is_held t) p.order p.cs bs ns p.given k p.accepts q in
      rw (h, r.lent, r.short, p.kept.1, p.read, r.entries-read, r.bounds-read, m) (solution-judged (numbersOf t) bs ns p.cs s)

  pub solve-call : (result work : List ℕ) (records bounds rounds : ℕ) → (solveCall pool table set result work).answer ≡ solved records bounds rounds
      → SoundAnswer pool table set result work records bounds rounds
  unfolding solveCall solvedOf solvedWords resultAfter lent
  solve-call result work r b k e = go (lent pool table result work >> solvedSet t set) refl
    where
      go : (m : Got (Answer ℕ)) → (lent pool table result work >> solvedSet t set) ≡ m → SoundAnswer pool table set result work r b k
      go (refused n) i = let z : refusedAfter n 0 ≡ solved r b k = rw i at e in absurd (cc)
      go (got (remaining cs j)) i = let z : solvedOf (got (remaining cs j)) ≡ solved r b k = rw i at e in absurd (cc)
      go (got (stopped n j)) i = let z : refusedAfter n j ≡ solved r b k = rw i at e in absurd (cc)
      go (got (accepted bs ns j)) i =
          let z : solved (sum_of sizeBinding bs) (length ns) j ≡ solved r b k = rw i at e in
          let a = bound-step (lent pool table result work) _ (accepted bs ns j) i in
          let c = bound-step (lentTable pool table >> lentResult result) _ a.0 a.1 in
          let d = bound-step (lentTable pool table) _ c.0 c.1 in
          let s = accepted-set d.0 d.1 bs ns j a.2 in
          record {
            cs = s.cs;
            bs = bs;
            ns = ns;
            read = s.read;
            short = s.short;
            accepts = s.accepts ∙ ap (accepted bs ns) (cc);
            written = rw i;
            binding-records = cc;
            bound-records = cc;
            form = solved-form (numbersOf t) (is_held t) s.order s.cs s.given bs ns j s.accepts;
            sound = λ p. solves (numbersOf t) (is_held t) s.order s.cs bs ns s.given j s.accepts p;
            judged = own-judged d.0 d.1 bs ns j s;
          }

-- ══ The judge ══

module _ (pool table set : List ℕ) (entries : List Entry) (types bounds work : List ℕ) where
  said : (b : Bool) → (judgeCall pool table set entries types bounds work).answer ≡ got b
      → JudgedSet pool table set entries types bounds (λ cs bs ns. judge (numbersOf (table_of pool table)) bounded bs ns cs ≡ got b)
  unfolding judgeCall judgedSet
  said v e =
      let a = bound-step (lentTable pool table >> lentWork work) _ v e in
      let b = bound-step (shortLists (set ∷ types ∷ bounds ∷ []) >> shortNumbers entries) _ v a.2 in
      let c = bound-step (tableKept (table_of pool table)) _ v b.2 in
      let d = bound-step (setGiven (table_of pool table) set) _ v c.2 in
      let f = bound-step (entriesGiven (table_of pool table) entries types) _ v d.2 in
      let g = bound-step (risingBounds (table_of pool table) bounds) _ v f.2 in
      let h = bound-step (apart (table_of pool table) (collect opensCon d.0 ++ collect opensBinding f.0)) _ v g.2 in
      record { cs = d.0; bs = f.0; ns = g.0; read = d.1; proposed = f.1; bounded-by = g.1; verdict = h.2 }

  pub judge-call-yes : (judgeCall pool table set entries types bounds work).answer ≡ got true
      → JudgedSet pool table set entries types bounds (λ cs bs ns. Solves (numbersOf (table_of pool table)) cs bs ns)
  judge-call-yes e = let s = said true e
      in record {
        cs = s.cs;
        bs = s.bs;
        ns = s.ns;
        read = s.read;
        proposed = s.proposed;
        bounded-by = s.bounded-by;
        verdict = yes-solves (numbersOf (table_of pool table)) s.bs s.ns s.cs s.verdict;
      }

  pub judge-call-no : (judgeCall pool table set entries types bounds work).answer ≡ got false
      → JudgedSet pool table set entries types bounds (λ cs bs ns. Fails (numbersOf (table_of pool table)) cs bs ns)
  judge-call-no e = let s = said false e
      in record {
        cs = s.cs;
        bs = s.bs;
        ns = s.ns;
        read = s.read;
        proposed = s.proposed;
        bounded-by = s.bounded-by;
        verdict = no-fails (numbersOf (table_of pool table)) s.bs s.ns s.cs s.verdict;
      }
