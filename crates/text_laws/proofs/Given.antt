-- A set that passed the checks at entry: its constraints are well formed, nested at most 64 deep, and written they are its words again.
use Rattle.std.specs.Prelude.{◌≡◌, refl, true, ◌&&◌, List, [], ◌∷◌, ℕ, zero, suc, ◌*◌, ◌≤◌, leb, length}
use Rattle.std.proofs.Common.{sym, ap, ◌∙◌, arith, leb-true}
use Rattle.std.proofs.Math.Option.{Option, none, some}
use Rattle.rules.specs.Base.{got, ◌>>◌, need, orRefuse, all, collect, sum_of}
use Rattle.rules.specs.Trees.{Con, sizeCon, depthCon}
use Rattle.rules.specs.Names.{table_of, tableGood, numbersOf, is_held, lentTable}
use Rattle.rules.specs.WellFormed.{goodCon}
use Rattle.rules.specs.Writing.{Rec, rec, kindIn, lengthIn, words, writeCon}
use Rattle.rules.specs.Reading.{
  readTy,
  readCon,
  read_all,
  records,
  conTable,
  conKinds,
  lasting,
  readEqual,
  readIsDim,
  readHasField,
  next,
  scalarKinds,
  scalarTable,
  readScalar,
  readFactors,
}
use Rattle.rules.specs.Calls.{shortLists, listGiven, tableKept, setGiven, aloneGiven, setCall}
use Rattle.laws.specs.Lists.{Every, and_left, and_right}
use Rattle.laws.proofs.Lists.{bound-step, some≢none}
use Rattle.laws.proofs.Given.{or-some}
use Rattle.laws.specs.NameTable.{Good}
use Rattle.laws.proofs.Checks.{need-passed, first-passed, next-passed, passed}
use Rattle.laws.specs.Written.{Reads, nothing, given, picked, plain, lasting-read}
use Rattle.laws.proofs.Written.{then}
use Rattle.laws.specs.ReadLists.{Words}
use Rattle.laws.proofs.ReadLists.{con-read, all_read, taken}
use Rattle.laws.proofs.Depth.{depth-read}
use Rattle.laws.proofs.Size.{words-length, set-length}

-- ══ Constraints that were read are nested at most 64 deep ══

abbrev pub Deep : Con ℕ → Type 0
Deep c = depthCon c ≤ 64

any : {A : Type 0} (o : Option (A × List Rec)) → Reads o (λ a rest. Unit {0})
any o = record { holds = λ a rest e. tt }

-- a length that holds changes nothing of what was read
lasts : {A : Type 0} (P : A → Type 0) (n m : ℕ) (o : Option (A × List Rec)) → Reads o (λ a rest. P a) → Reads (lasting n m o) (λ a rest. P a)
lasts P n m o h = record { holds = λ a rest e. ((lasting-read n m o h).holds a rest e).0 }

scalar-deep : (s : List Rec) → Reads (next scalarKinds s) (λ c rest. Deep c)
unfolding depthCon
scalar-deep [] = nothing
scalar-deep (rec u a b c ∷ rs) = lasts Deep (lengthIn u) (suc (length rs)) (scalarKinds (kindIn u) a b c rs) (picked (kindIn u) rs (scalarTable a b c) (
  (λ e. plain (b ∷ c ∷ []) (readScalar a) rs (λ z. then (any (readFactors a rs)) (λ p s u. given (omega arith)))),
  tt,
))

con-deep : (s : List Rec) → Reads (readCon s) (λ c rest. Deep c)
unfolding readCon depthCon
con-deep [] = nothing
con-deep (rec u a b c ∷ rs) = lasts Deep (lengthIn u) (suc (length rs)) (conKinds (readTy 64) (kindIn u) a b c rs)
    (picked (kindIn u) rs (conTable (readTy 64) a b c) (
      (λ e. plain (a ∷ b ∷ c ∷ []) (readEqual (readTy 64)) rs (λ z. then (depth-read 64 rs) (λ l s h. then (depth-read 64 s) (λ r s' k. given (omega arith))))),
      (
        (λ e. plain (a ∷ b ∷ c ∷ []) (readIsDim (readTy 64)) rs (λ z. then (depth-read 64 rs) (λ t s h. given h))),
        (
          (λ e. plain (a ∷ b ∷ c ∷ []) (next scalarKinds) rs (λ z. scalar-deep rs)),
          (
            (λ e. plain (b ∷ c ∷ []) (readHasField (readTy 64) a) rs
                (λ z. then (depth-read 64 rs) (λ l s h. then (depth-read 64 s) (λ r s' k. given (omega arith))))),
            tt,
          ),
        ),
      ),
    ))

tail-deep : (c : Con ℕ) (o : Option (List (Con ℕ))) (cs : List (Con ℕ)) → Deep c → ((ds : List (Con ℕ)) → o ≡ some ds → Every Deep ds)
    → (elim o as (λ x. Option (List (Con ℕ))) [ none ↦ none | some vs ↦ some (c ∷ vs) ]) ≡ some cs → Every Deep cs
tail-deep c none cs h k e = absurd (some≢none (sym e))
tail-deep c (some ds) cs h k e = let z : cs ≡ c ∷ ds = cc in rw z (h, k ds refl)

step-deep : (n : ℕ) (x : Rec) (xs : List Rec) (cs : List (Con ℕ)) (o : Option (Con ℕ × List Rec)) → readCon (x ∷ xs) ≡ o
    → ((s : List Rec) (ds : List (Con ℕ)) → read_all readCon n s ≡ some ds → Every Deep ds)
    → read_all readCon (suc n) (x ∷ xs) ≡ some cs → Every Deep cs
unfolding read_all
step-deep n x xs cs none q k e = absurd (some≢none (sym (rw (q, read_all) at e)))
step-deep n x xs cs (some v) q k e = tail-deep v.0 (read_all readCon n v.1) cs ((con-deep (x ∷ xs)).holds v.0 v.1 q) (k v.1) (rw (q, read_all) at e)

all-deep : (n : ℕ) (s : List Rec) (cs : List (Con ℕ)) → read_all readCon n s ≡ some cs → Every Deep cs
unfolding read_all
all-deep zero [] cs e = let z : cs ≡ [] = cc in rw z tt
all-deep zero (x ∷ xs) cs e = absurd (some≢none (sym e))
all-deep (suc n) [] cs e = let z : cs ≡ [] = cc in rw z tt
all-deep (suc n) (x ∷ xs) cs e = step-deep n x xs cs (readCon (x ∷ xs)) refl (λ s ds. all-deep n s ds) e

-- ══ What was given ══

pub record Constraints (pool table set : List ℕ) (cs : List (Con ℕ)) : Type 0 where
  pub good : all (goodCon (numbersOf (table_of pool table)) (is_held (table_of pool table)) 0) cs ≡ true
  pub deep : Every Deep cs
  pub same : words (collect writeCon cs) ≡ set
  pub many : length set ≡ sum_of sizeCon cs * 4

pub constraints : (pool table set : List ℕ) (cs : List (Con ℕ)) → Words set → setGiven (table_of pool table) set ≡ got cs → Constraints pool table set cs
unfolding setGiven listGiven
constraints pool table set cs w e =
    let a = bound-step (orRefuse 1 (records set)) _ cs e in
    let rs = a.0 in
    let b = bound-step (orRefuse 1 (read_all readCon (length rs) rs)) _ cs a.2 in
    let ds = b.0 in
    let c = bound-step (need (all (goodCon (numbersOf (table_of pool table)) (is_held (table_of pool table)) 0) ds) 1) (λ u. got ds) cs b.2 in
    let z : ds ≡ cs = cc c.2 in
    let i : read_all readCon (length rs) rs ≡ some cs = or-some 1 (read_all readCon (length rs) rs) ds b.1 ∙ ap some z in
    let back = (taken set w).back rs (or-some 1 (records set) rs a.1) in
    let same : rs ≡ collect writeCon cs = all_read writeCon readCon con-read (length rs) rs cs back.1 i in
    record {
      good = rw z at (need-passed (all (goodCon (numbersOf (table_of pool table)) (is_held (table_of pool table)) 0) ds) 1 c.1);
      deep = all-deep (length rs) rs cs i;
      same = ap words (sym same) ∙ back.0;
      many = omega (arith, words-length rs, ap length back.0, ap length same, set-length cs);
    }

-- a well formed set: 10, 8 and 1 have passed
pub record SetGiven (pool table set : List ℕ) : Type 0 where
  pub table-good : Good pool table
  pub short : length set ≤ 8192
  pub cs : List (Con ℕ)
  pub given : setGiven (table_of pool table) set ≡ got cs

pub set_given : (pool table set : List ℕ) → setCall pool table set ≡ got tt → SetGiven pool table set
unfolding setCall aloneGiven lentTable shortLists tableKept all
set_given pool table set e =
    let p = passed (aloneGiven pool table set) (setGiven (table_of pool table) set) e in
    let t = table_of pool table in
    let before = first-passed (tableKept t) tt (lentTable pool table >> shortLists (set ∷ [])) p.1.0 in
    let kept = next-passed (tableKept t) tt (lentTable pool table >> shortLists (set ∷ [])) p.1.0 in
    let room = need-passed (leb 8192 (length pool) && leb 257 (length table)) 10 (first-passed (shortLists (set ∷ [])) tt (lentTable pool table) before) in
    let few = need-passed (leb (length set) 8192 && true) 8 (next-passed (shortLists (set ∷ [])) tt (lentTable pool table) before) in
    record {
      table-good = record {
        bytes = leb-true 8192 (length pool) (and_left (leb 8192 (length pool)) _ room);
        words = leb-true 257 (length table) (and_right (leb 8192 (length pool)) _ room);
        good = need-passed (tableGood t) 1 kept;
      };
      short = leb-true (length set) 8192 (and_left (leb (length set) 8192) true few);
      cs = p.0;
      given = p.1.1;
    }
