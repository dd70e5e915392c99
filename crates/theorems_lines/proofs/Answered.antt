-- A closed line that passes the checks at entry and runs to its end is answered, or refused with 7 or 8.
use Rattle.std.specs.Prelude.{◌≡◌, Bool, false, ◌⊎◌, ℕ, ◌*◌, ◌≤◌, leb}
use Rattle.std.proofs.Math.Path.{refl, subst}
use Rattle.std.proofs.Common.{ap, sym}
use Rattle.std.proofs.Math.Bool.{true}
use Rattle.std.proofs.Math.Logic.{inl, inr}
use mathlib.Core.List.{List, []}
use borrow.Author.Tests.{leb-true}
use Rattle.std.proofs.Math.ListN.{length}
use Rattle.rules.specs.Base.{Got, got, refused, ◌>>=◌, bounded, all, collect, sum_of}
use Rattle.rules.specs.Trees.{Names, Ty, Con, Binding, opensCon, sizeCon}
use Rattle.rules.specs.Contents.{unmixed}
use Rattle.rules.specs.Names.{Table, table_of, numbersOf, is_held, tableGiven}
use Rattle.rules.specs.Solving.{Answer, stopped, solve}
use Rattle.rules.specs.Judging.{judge}
use Rattle.rules.specs.WellFormed.{goodCon}
use Rattle.rules.specs.Writing.{writeTy}
use Rattle.rules.specs.Calls.{lent, tableKept, differ, writing}
use Rattle.laws.proofs.ByteOrder.{atom-lawful}
use Rattle.laws.proofs.Checks.{need-passed}
use Rattle.laws.proofs.GoodProducts.{atom-tells}
use Rattle.laws.specs.NameTable.{Good}
use Rattle.laws.proofs.NameTable.{given-good}
use Rattle.laws.specs.Lists.{and_left, All, all_nil, Every, all-is}
use Rattle.laws.proofs.Lists.{bound-step, is_all}
use Rattle.theorems_soundness.specs.Claims.{Ordered, Once, YesOrLimits}
use Rattle.theorems_soundness.proofs.Words.{numbers-ordered}
use Rattle.theorems_ending.proofs.Ending.{ends}
use Rattle.rules.specs.Steps.{LineStep, whole, lineGiven}
use Rattle.rules.specs.Lines.{constraints, settled, settledSet, agreedSet, lineType, fresh, lineLent, lineShort, checkLineCall}
use Rattle.rules.specs.Running.{ran, runLine}
use Rattle.theorems_lines.specs.Claims.{closedLine, MeetsLimit}
use Rattle.theorems_lines.proofs.Read.{once, line_read, names_apart}
use Rattle.theorems_lines.specs.FormedSteps.{FormedStep}
use Rattle.theorems_lines.proofs.Stacks.{Ready}
use Rattle.theorems_lines.proofs.Words.{ready, set-settled}
use Rattle.theorems_lines.proofs.Beginning.{firsts, seconds, Lent}
use Rattle.theorems_lines.proofs.Lent.{flow-no-par, unmixed-set, flow, good-cs, last-there}
use Rattle.theorems_lines.proofs.NoEleven.{limit-met, answers, never-no}
use Rattle.theorems_lines.proofs.RunFlow.{Comes, accepts, limit, out, solves}
use Rattle.theorems_lines.proofs.RunBegins.{begins}
use Rattle.theorems_lines.proofs.OtherNames.{paired, firsts-paired, seconds-paired, lents, few, checked}

module _ {N : Type 0} (ν : Names N) (held : N → Bool) (ord : Ordered ν held) (ps : List (N × N)) (o : Once (firsts ps)) (o' : Once (seconds ps))
    (lent' : All (Lent ν held ord ps) ps)
    (ss : List (LineStep N)) (formed : Every (FormedStep ν held) ss) (rdy : Every Ready ss) where
  abbrev cs : List (Con N)
  cs = constraints ν (firsts ps) [] ss

  abbrev Come : Answer N → Type 0
  Come = Comes ν (atom-lawful ν ord.lawful) (atom-tells ν held 0 ord.tells)

  abbrev Limit : {A : Type 0} → Got A → Type 0
  Limit m = (m ≡ refused 7) ⊎ (m ≡ refused 8)

  come-settled : {a : Answer N} → Come a → ((k : ℕ) → a ≡ stopped 0 k → ⊥) → ((f : List (Binding N) × List N) × (settled a ≡ got f)) ⊎ Limit (settled a)
  unfolding settled
  come-settled (accepts bs ns k) h = inl ((bs, ns), refl)
  come-settled (limit n k (inl i)) h = inr (inl (ap refused i))
  come-settled (limit n k (inr i)) h = inr (inr (ap refused i))
  come-settled (out k) h = absurd (h k refl)

  set-comes : Come (solve ν bounded cs) → (leb (sum_of sizeCon cs) 2048 ≡ true → (k : ℕ) → solve ν bounded cs ≡ stopped 0 k → ⊥)
      → ((f : List (Binding N) × List N) × (settledSet ν cs ≡ got f)) ⊎ Limit (settledSet ν cs)
  unfolding settledSet
  set-comes c h = go (leb (sum_of sizeCon cs) 2048) refl
    where
      apart : unmixed ν (collect opensCon cs) ≡ true
      apart = unmixed-set ν (Lent ν held ord ps) (collect opensCon cs) (flow-no-par ν (Lent ν held ord ps) (flow ν held ord ps o o' lent' ss formed rdy)).0

      go : (b : Bool) → leb (sum_of sizeCon cs) 2048 ≡ b → ((f : List (Binding N) × List N) × (settledSet ν cs ≡ got f)) ⊎ Limit (settledSet ν cs)
      go false i = inr (inr (rw i))
      go true i = rw (i, apart) (come-settled c (h i))

  abbrev this : Got (Ty N)
  this = lineType ν ss (firsts ps)

  set-limit : Limit (settledSet ν cs) → Limit this
  unfolding lineType agreedSet
  set-limit (inl i) = inl (rw i)
  set-limit (inr i) = inr (rw i)

  pub type-comes : whole 0 ss ≡ true → length ss ≤ length (firsts ps) → Come (solve ν bounded cs)
      → (leb (sum_of sizeCon cs) 2048 ≡ true → (k : ℕ) → solve ν bounded cs ≡ stopped 0 k → ⊥)
      → ((ty : Ty N) × (this ≡ got ty)) ⊎ Limit this
  type-comes complete long c h = go (set-comes c h)
    where
      judged : (f : List (Binding N) × List N) → settledSet ν cs ≡ got f → YesOrLimits (judge ν bounded f.0 f.1 cs)
          → ((ty : Ty N) × (this ≡ got ty)) ⊎ Limit this
      judged f e (inl j) = let l = last-there ν held ord ps o o' lent' ss formed rdy f e j complete long
          in inl (_, answers ν held ord ps o o' lent' ss formed rdy f l.0 e j l.1)
      judged f e (inr j) = inr (limit-met ν held ord ps o o' lent' ss formed rdy f e j)

      go : ((f : List (Binding N) × List N) × (settledSet ν cs ≡ got f)) ⊎ Limit (settledSet ν cs) → ((ty : Ty N) × (this ≡ got ty)) ⊎ Limit this
      go (inl (f, e)) = let s = set-settled ν cs f e in judged f e (never-no ν held ord ps o o' lent' ss formed rdy f.0 f.1 s.0 s.1 s.2)
      go (inr i) = inr (set-limit i)

-- ══ On words ══

module _ (pool table steps types lines names result work : List ℕ) (given : tableGiven pool table ≡ got tt) (ss : List (LineStep ℕ))
    (read : lineGiven (table_of pool table) steps types lines ≡ got ss)
    (closed : closedLine ss ≡ true) (new : fresh names ss ≡ true) (known : all (is_held (table_of pool table)) names ≡ true) where
  abbrev t : Table
  t = table_of pool table

  abbrev ν : Names ℕ
  ν = numbersOf t

  good : Good pool table
  good = given-good given

  order : Ordered ν (is_held t)
  order = numbers-ordered pool table good

  differing : differ names ≡ true
  unfolding fresh
  differing = and_left (differ names) _ new

  line-type : (u : Unit {0}) → lineLent pool table steps names result work ≡ got u → (left : List (Ty ℕ)) → runLine ν ss ≡ ran left
      → ((ty : Ty ℕ) × (lineType ν ss names ≡ got ty)) ⊎ ((lineType ν ss names ≡ refused 7) ⊎ (lineType ν ss names ≡ refused 8))
  unfolding lineLent runLine
  line-type u room left runs =
      let r = line_read t order steps types lines ss read in
      let q = bound-step (lent pool table result work) _ u room in
      let many = leb-true (length steps) (length names * 4) (need-passed (leb (length steps) (length names * 4)) 10 q.2) in
      let ps = paired names names in
      let i : firsts ps ≡ names = firsts-paired names names refl in
      let j : seconds ps ≡ names = seconds-paired names names refl in
      let h = all-is (is_held t) names known in
      let l = lents t order ps names names h h (λ p m. m) in
      let o : Once (firsts ps) = subst Once (sym i) (once names differing) in
      let o' : Once (seconds ps) = subst Once (sym j) (once names differing) in
      let long : length ss ≤ length (firsts ps) = subst (λ (k : List ℕ). length ss ≤ length k) (sym i) (few (length ss) (length names) (rw r.long at many)) in
      let rdy = ready ν (is_held t) order ss r.formed closed in
      let f = begins ν (is_held t) order ss names [] [] left tt (names_apart t order names differing known) (all_nil _) rdy r.formed runs in
      let c = subst (λ (k : List ℕ). Comes ν (atom-lawful ν order.lawful) (atom-tells ν (is_held t) 0 order.tells)
      (solve ν bounded (constraints ν k [] ss))) (sym i)
      (solves ν (atom-lawful ν order.lawful) (atom-tells ν (is_held t) 0 order.tells) (constraints ν names [] ss) f) in
      let g = is_all (goodCon ν (is_held t) 0) (constraints ν (firsts ps) [] ss) (good-cs ν (is_held t) order ps o o' l ss r.formed rdy) in
      let a = type-comes ν (is_held t) order ps o o' l ss r.formed rdy r.complete long c
      (λ s. (ends good (record { good = g; small = leb-true (sum_of sizeCon (constraints ν (firsts ps) [] ss)) 2048 s })).0) in
      subst (λ (k : List ℕ). ((ty : Ty ℕ) × (lineType ν ss k ≡ got ty)) ⊎ ((lineType ν ss k ≡ refused 7) ⊎ (lineType ν ss k ≡ refused 8))) i a

  kept : tableKept t ≡ got tt
  unfolding tableKept
  kept = rw good.good

  -- once the checks at entry are passed, the call answers as the line's type does
  call-is : (u w : Unit {0}) → lineLent pool table steps names result work ≡ got u → lineShort steps types lines names ≡ got w → (m : Got (Ty ℕ))
      → lineType ν ss names ≡ m
      → (checkLineCall pool table steps types lines names result work).answer ≡ (m >>= λ ty. got (length (writeTy ty)))
  unfolding checkLineCall writing
  call-is u w room short m e = rw (room, checked pool table steps types lines result work ss read names new known, short, kept, e) (joined m)
    where
      joined : (m : Got (Ty ℕ)) → (m >>= (λ ty. got (writeTy ty)) >>= λ rs. got (length rs)) ≡ (m >>= λ ty. got (length (writeTy ty)))
      joined (got ty) = refl
      joined (refused n) = refl

  pub answered : (u w : Unit {0}) → lineLent pool table steps names result work ≡ got u → lineShort steps types lines names ≡ got w
      → (left : List (Ty ℕ)) → runLine ν ss ≡ ran left
      → ((n : ℕ) × ((checkLineCall pool table steps types lines names result work).answer ≡ got n))
      ⊎ MeetsLimit (checkLineCall pool table steps types lines names result work)
  answered u w room short left runs = go (line-type u room left runs)
    where
      go : ((ty : Ty ℕ) × (lineType ν ss names ≡ got ty)) ⊎ ((lineType ν ss names ≡ refused 7) ⊎ (lineType ν ss names ≡ refused 8))
          → ((n : ℕ) × ((checkLineCall pool table steps types lines names result work).answer ≡ got n))
          ⊎ MeetsLimit (checkLineCall pool table steps types lines names result work)
      go (inl (ty, e)) = inl (length (writeTy ty), call-is u w room short (got ty) e)
      go (inr (inl e)) = inr (inl (call-is u w room short (refused 7) e))
      go (inr (inr e)) = inr (inr (call-is u w room short (refused 8) e))
