-- The theorems on the words of a call: what the call checks is what the theorems on trees ask.
use Rattle.std.proofs.Math.Path.{◌≡◌, ap, sym, subst}
use Rattle.std.specs.Prelude.{refl, Bool, true, false, ℕ, ◌*◌, ◌≤◌, leb}
use Rattle.std.proofs.Common.{◌∙◌}
use Rattle.std.proofs.Math.Option.{some, get_or}
use mathlib.Core.List.{List, [], ◌∷◌}
use native.Mathlib.Omega.{arith}
use borrow.Author.Tests.{leb-true}
use Rattle.std.proofs.Math.ListN.{length}
use Rattle.rules.specs.Base.{Got, got, refused, ◌>>◌, need, orRefuse, bounded, all, collect, sum_of}
use Rattle.rules.specs.Trees.{var, Names, Ty, opened, Con, Binding, opensCon, sizeCon, opens}
use Rattle.rules.specs.Contents.{unmixed, closed}
use Rattle.rules.specs.Names.{Table, table_of, numbersOf, is_held, lentTable, tableGiven}
use Rattle.rules.specs.Replacing.{replaceTy, bindings}
use Rattle.rules.specs.Solving.{Answer, accepted, remaining, stopped, solve}
use Rattle.rules.specs.Judging.{judge}
use Rattle.rules.specs.Plain.{plain}
use Rattle.rules.specs.Meaning.{Solves}
use Rattle.rules.specs.WellFormed.{goodCon}
use Rattle.rules.specs.Writing.{Rec, words, writeTy}
use Rattle.rules.specs.Calls.{lentResult, lent, tableKept, differ, over, resultAfter, writing}
use Rattle.laws.proofs.Checks.{need-passed}
use Rattle.laws.specs.NameTable.{Good}
use Rattle.laws.proofs.NameTable.{given-good}
use Rattle.laws.proofs.Given.{or-some}
use Rattle.laws.specs.Lists.{and_left, and_right, All, Every}
use Rattle.laws.proofs.Lists.{bound-step, is_all}
use Rattle.laws.proofs.Ranges.{good-lowest}
use Rattle.laws.proofs.RuleCases.{is-nil}
use Rattle.theorems_soundness.specs.Claims.{Ordered, Given}
use Rattle.theorems_soundness.proofs.Words.{numbers-ordered}
use Rattle.theorems_soundness.proofs.Soundness.{solved-form, yes-solves}
use Rattle.theorems_soundness.proofs.Alike.{means-same}
use Rattle.rules.specs.Steps.{LineStep, constant, reference, raises, joins, chooses, whole, lineGiven}
use Rattle.rules.specs.Lines.{
  its,
  constraints,
  last_of,
  settled,
  agreed,
  settledSet,
  agreedSet,
  lineType,
  fresh,
  lineLent,
  lineShort,
  checkedLine,
  checkLineCall,
}
use Rattle.rules.specs.Running.{runLine}
use Rattle.theorems_lines.specs.Claims.{closed_step, closedLine, RunsTo, AcceptedLine}
use Rattle.theorems_lines.proofs.Read.{line_read, names_apart}
use Rattle.theorems_lines.specs.FormedSteps.{FormedStep}
use Rattle.theorems_lines.proofs.Formed.{Apart, constraints-formed}
use Rattle.theorems_lines.proofs.Stacks.{Ready, last-from, runs}

-- ══ Solver and judge ══

module _ {N : Type 0} where
  pub settled_is : (a : Answer N) (f : List (Binding N) × List N) → settled a ≡ got f → (k : ℕ) × (a ≡ accepted f.0 f.1 k)
  unfolding settled
  settled_is (accepted bs ns k) f e = let z : (bs, ns) ≡ f = cc in (k, ap (λ (g : List (Binding N) × List N). accepted g.0 g.1 k) z)
  settled_is (remaining cs k) f e = absurd (cc)
  settled_is (stopped n k) f e = absurd (cc)

pub agreed-is : (m : Got Bool) (u : Unit {0}) → agreed m ≡ got u → m ≡ got true
unfolding agreed
agreed-is (refused n) u e = absurd (cc)
agreed-is (got true) u e = refl
agreed-is (got false) u e = absurd (cc)

-- a set that was solved and judged
pub record Agreed {N : Type 0} (ν : Names N) (cs : List (Con N)) (bs : List (Binding N)) : Type 0 where
  pub ns : List N
  pub rounds : ℕ
  pub unmixed-set : unmixed ν (collect opensCon cs) ≡ true
  pub accepts : solve ν bounded cs ≡ accepted bs ns rounds
  pub says-yes : judge ν bounded bs ns cs ≡ got true

module _ {N : Type 0} (ν : Names N) where
  -- a set that was solved
  pub set-settled : (cs : List (Con N)) (f : List (Binding N) × List N) → settledSet ν cs ≡ got f
      → (k : ℕ) × (unmixed ν (collect opensCon cs) ≡ true) × (solve ν bounded cs ≡ accepted f.0 f.1 k)
  unfolding settledSet
  set-settled cs f e =
      let c = bound-step (need (leb (sum_of sizeCon cs) 2048) 8) _ f e in
      let d = bound-step (need (unmixed ν (collect opensCon cs)) 4) _ f c.2 in
      let s = settled_is (solve ν bounded cs) f d.2 in
      (s.0, need-passed (unmixed ν (collect opensCon cs)) 4 d.1, s.1)

  set-agreed : (cs : List (Con N)) (bs : List (Binding N)) → agreedSet ν cs ≡ got bs → Agreed ν cs bs
  unfolding agreedSet
  set-agreed cs bs e =
      let a = bound-step (settledSet ν cs) _ bs e in
      let b = bound-step (agreed (judge ν bounded a.0.0 a.0.1 cs)) _ bs a.2 in
      let s = set-settled cs a.0 a.1 in
      let z : a.0.0 ≡ bs = cc b.2 in
      subst (Agreed ν cs) z (record {
        ns = a.0.1;
        rounds = s.0;
        unmixed-set = s.1;
        accepts = s.2;
        says-yes = agreed-is (judge ν bounded a.0.0 a.0.1 cs) b.0 b.1;
      })

-- ══ On trees ══

module _ {N : Type 0} (ν : Names N) (held : N → Bool) (order : Ordered ν held) where
  step-ready : (s : LineStep N) → FormedStep ν held s → closed_step s ≡ true → Ready s
  unfolding closed
  step-ready (constant t) f c = is-nil (opens t) c
  step-ready (reference t) f c = is-nil (opens t) c
  step-ready (raises e) f c = good-lowest e f
  step-ready (joins o) f c = tt
  step-ready chooses f c = tt

  pub ready : (ss : List (LineStep N)) → Every (FormedStep ν held) ss → closedLine ss ≡ true → Every Ready ss
  unfolding closedLine all
  ready [] f c = tt
  ready (s ∷ ss) f c = (step-ready s f.0 (and_left (closed_step s) _ c), ready ss f.1 (and_right (closed_step s) _ c))

  -- a well formed line over held names that differ, solved and judged
  module _ (ss : List (LineStep N)) (names : List N) (formed : Every (FormedStep ν held) ss) (complete : whole 0 ss ≡ true)
      (long : length ss ≤ length names)
      (apart : Apart ν held order [] names) (bs : List (Binding N)) (agreed' : Agreed ν (constraints ν names [] ss) bs) where
    abbrev cs : List (Con N)
    cs = constraints ν names [] ss

    cons-good : All (λ c. goodCon ν held 0 c ≡ true) cs
    cons-good = constraints-formed ν held order ss names [] apart formed

    pub given : Given ν held cs
    given = record { well-formed = is_all (goodCon ν held 0) cs cons-good; apart = agreed'.unmixed-set }

    pub all_true : Solves ν cs bs agreed'.ns
    all_true = yes-solves ν cs bs agreed'.ns agreed'.says-yes

    pub line-runs : (v : N) (type : Ty N) → last_of names ss ≡ some v → replaceTy ν bounded (bindings ν bs) (its v) ≡ got type → closedLine ss ≡ true
        → RunsTo ν ss type
    unfolding runLine replaceTy
    line-runs v type l p c =
        let good = (solved-form ν held order cs given bs agreed'.ns agreed'.rounds agreed'.accepts).bindings-good in
        let e = runs ν held order bs agreed'.ns good ss names [] [] tt complete long (ready ss formed c)
        (λ d m. record { formed = cons-good d m; true-under = all_true d m }) in
        let i : some e.variable ≡ some v = sym e.last ∙ sym (last-from names ss) ∙ l in
        let j : e.variable ≡ v = cc in
        let k : got (get_or (bindings ν bs (var v)) (opened (var v))) ≡ got type = p in
        let q : get_or (bindings ν bs (var v)) (opened (var v)) ≡ type = cc in
        let r : get_or (bindings ν bs (var e.variable)) (opened (var e.variable)) ≡ type =
        ap (λ (x : N). get_or (bindings ν bs (var x)) (opened (var x))) j ∙ q in
        record { left = e.type; ends = e.left; same = means-same ν e.type type (sym e.matches.same ∙ ap (λ (t : Ty N). plain t false) r) }

-- ══ On words ══

lent-good : (pool table result work : List ℕ) (u w : Unit {0}) → lent pool table result work ≡ got u → tableKept (table_of pool table) ≡ got w → Good pool table
unfolding lent tableKept tableGiven
lent-good pool table result work u w e f =
    let a = bound-step (lentTable pool table >> lentResult result) _ u e in
    let b = bound-step (lentTable pool table) _ a.0 a.1 in
    given-good (rw (b.1, f))

module _ (pool table steps types lines names result work : List ℕ) where
  abbrev t : Table
  t = table_of pool table

  -- the row of checks, taken apart
  pub record Passed (rs : List Rec) : Type 0 where
    pub order : Ordered (numbersOf t) (is_held t)
    pub enough-names : length steps ≤ length names * 4
    pub ss : List (LineStep ℕ)
    pub read : lineGiven t steps types lines ≡ got ss
    pub differing : differ names ≡ true
    pub names-held : all (is_held t) names ≡ true
    pub type : Ty ℕ
    pub typed : lineType (numbersOf t) ss names ≡ got type
    pub written : writeTy type ≡ rs

  pub passed : (u : Unit {0}) (rs : List Rec) → lineLent pool table steps names result work ≡ got u → checkedLine t steps types lines names ≡ got rs → Passed rs
  unfolding lineLent checkedLine fresh
  passed u rs r e =
      let l = bound-step (lent pool table result work) _ u r in
      let a = bound-step (lineShort steps types lines names) _ rs e in
      let b = bound-step (tableKept t) _ rs a.2 in
      let c = bound-step (lineGiven t steps types lines) _ rs b.2 in
      let d = bound-step (need (fresh names c.0) 4) _ rs c.2 in
      let f = bound-step (need (all (is_held t) names) 3) _ rs d.2 in
      let g = bound-step (lineType (numbersOf t) c.0 names) _ rs f.2 in
      record {
        order = numbers-ordered pool table (lent-good pool table result work l.0 b.0 l.1 b.1);
        enough-names = leb-true (length steps) (length names * 4) (need-passed (leb (length steps) (length names * 4)) 10 l.2);
        ss = c.0;
        read = c.1;
        differing = and_left (differ names) _ (need-passed (fresh names c.0) 4 d.1);
        names-held = need-passed (all (is_held t) names) 3 f.1;
        type = g.0;
        typed = g.1;
        written = cc g.2;
      }

  wrote : (rs : List Rec) (ty : Ty ℕ) → (lineLent pool table steps names result work >> checkedLine t steps types lines names) ≡ got rs → writeTy ty ≡ rs
      → (checkLineCall pool table steps types lines names result work).result ≡ over (words (writeTy ty)) result
  unfolding checkLineCall writing resultAfter
  wrote rs ty e f = rw (e, f)

  pub accepted-line : (n : ℕ) → (checkLineCall pool table steps types lines names result work).answer ≡ got n
      → AcceptedLine pool table steps types lines names result work n
  unfolding checkLineCall writing lineType
  accepted-line n e =
      let a = bound-step (lineLent pool table steps names result work >> checkedLine t steps types lines names) _ n e in
      let b = bound-step (lineLent pool table steps names result work) _ a.0 a.1 in
      let p = passed b.0 a.0 b.1 b.2 in
      let c = bound-step (agreedSet (numbersOf t) (constraints (numbersOf t) names [] p.ss)) _ p.type p.typed in
      let d = bound-step (orRefuse 1 (last_of names p.ss)) _ p.type c.2 in
      let g = set-agreed (numbersOf t) (constraints (numbersOf t) names [] p.ss) c.0 c.1 in
      let r = line_read t p.order steps types lines p.ss p.read in
      let apart = names_apart t p.order names p.differing p.names-held in
      let long : length p.ss ≤ length names = few (length p.ss) (length names) (rw r.long at p.enough-names) in
      let last = or-some 1 (last_of names p.ss) d.0 d.1 in
      record {
        ss = p.ss;
        read = p.read;
        bs = c.0;
        ns = g.ns;
        rounds = g.rounds;
        accepts = g.accepts;
        says-yes = g.says-yes;
        solved = all_true (numbersOf t) (is_held t) p.order p.ss names r.formed r.complete long apart c.0 g;
        last = d.0;
        last_step = last;
        type = p.type;
        put-in = d.2;
        records = ap length p.written ∙ cc a.2;
        written = wrote a.0 p.type a.1 p.written;
        runs = line-runs (numbersOf t) (is_held t) p.order p.ss names r.formed r.complete long apart c.0 g d.0 p.type last d.2;
      }
    where
      few : (a b : ℕ) → a * 4 ≤ b * 4 → a ≤ b
      few a b h = omega arith
