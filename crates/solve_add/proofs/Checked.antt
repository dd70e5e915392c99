-- The checks at entry, one after another.
use Rattle.std.specs.Prelude.{Result, Ok, Err, IfOk, ◌≡◌, refl, Bool, true, false, not, List, ◌∷◌, ℕ, ◌*◌, ◌≤◌, ◌<◌, leb, length, take}
use Rattle.std.proofs.Common.{sym, ap, ◌∙◌, arith, le-leb, length-take-le}
use Rattle.std.proofs.lemmas.Bool.{lt-leb}
use borrow.Author.Tests.{leb-true}
use Rattle.rules.specs.Base.{Got, got, refused, ◌>>=◌, ◌>>◌, need, all}
use Rattle.rules.specs.Calls.{lentResult, shortLists, tableKept, setGiven, only}
use Rattle.rules.specs.Names.{Table, table_of, tableGiven, lentTable}
use Rattle.rules.specs.Refusals.{toldBy}
use Rattle.rules.specs.Trees.{Con}
use Rattle.rules.specs.declared.Refusal.{Refusal}
use Rattle.laws.proofs.Checks.{need-passed, first-passed, next-passed}
use Rattle.std.proofs.lemmas.Bool.{not-true, not-false}
use Rattle.laws.proofs.Lists.{bracket, clash}
use Rattle.names.specs.Told.{unit_of}
use Rattle.names.specs.declared.tables.NameTable.{NameTable}
use Rattle.types.proofs.Tested.{kept, tested}
use Rattle.types.specs.Given.{over_table, set_over}
use Rattle.types.specs.Sets.{placed}
use Rattle.types.proofs.OnSets.{alone, placed-alone}
use Rattle.solve_add.specs.Entry.{one_over, passing, lentBuffer, oneGiven, checks}

-- what holds anyway holds where there is an answer
pub if-given : {A E P : Type 0} (r : Result A E) → P → IfOk r (λ a. P)
if-given (Ok a) p = p
if-given (Err e) p = tt

-- ══ One constraint ══

-- from the constraints of a set, one after another
pub one-of : {m : Got (List (Con ℕ))} {cs : List (Con ℕ)} (s : List ℕ) (at : ℕ) (xs : List (List ℕ × ℕ × Con ℕ)) → got cs ≡ m → xs ≡ placed s at cs
    → only (alone xs) ≡ (m >>= only)
one-of {cs = cs} s at xs e i = ap only (ap alone i ∙ placed-alone s at cs) ∙ ap (λ (x : Got (List (Con ℕ))). x >>= only) e

pub two-of : {m : Got (List (Con ℕ))} {cs : List (Con ℕ)} (s : List ℕ) (at : ℕ) {x y : List ℕ × ℕ × Con ℕ} {xs ys : List (List ℕ × ℕ × Con ℕ)} → got cs ≡ m
    → (y ∷ ys) ≡ xs → (x ∷ xs) ≡ placed s at cs → refused 1 ≡ (m >>= only)
unfolding only
two-of s at {x} {y} {xs} {ys} e i j = one-of s at (x ∷ y ∷ ys) e (ap (x ∷◌) i ∙ j)

-- ══ A table that was tested ══

over-kept : {A : Type 0} (pool table : List ℕ) → lentTable pool table ≡ got tt → (f : Table → Got A) (names : Result NameTable Refusal)
    → toldBy unit_of names ≡ tableGiven pool table → IfOk names (λ n. (n.pool.now ≡ pool) × (n.table.now ≡ table))
    → over_table names f ≡ (tableKept (table_of pool table) >> f (table_of pool table))
over-kept pool table l f = tested (λ t k. k >> f t) pool table l (λ names. over_table names f) (λ n. sym (rw (kept n))) (λ why. refl)

-- ══ The checks ══

-- a set that is refused, and one that passes
set-stops : {A B : Type 0} {k : ℕ} (a : Got (Unit {0})) (m : Got A) (o : Got B) → refused k ≡ (a >> m) → refused k ≡ (a >> (passing m >> o))
set-stops (got u) (got x) o e = clash e
set-stops (got u) (refused n) o e = cc
set-stops (refused n) m o e = cc

set-passes : {A : Type 0} {B : Type 0} {x : A} (a : Got (Unit {0})) (m : Got A) (n : Got B) → got x ≡ (a >> m) → (a >> n) ≡ (a >> (passing m >> n))
set-passes (got u) (got x) n e = refl
set-passes (got u) (refused k) n e = clash (sym e)
set-passes (refused k) m n e = refl

module _ (pool table buffer : List ℕ) where
  pub lent_met : (b : Bool) → need b 10 ≡ lentBuffer pool table buffer → not b ≡ false → lentBuffer pool table buffer ≡ got tt
  lent_met b e h = sym e ∙ ap (λ (c : Bool). need c 10) (not-false b h)

  table-met : lentBuffer pool table buffer ≡ got tt → lentTable pool table ≡ got tt
  table-met e = first-passed (lentResult buffer) tt (lentTable pool table) e

  pub room : lentBuffer pool table buffer ≡ got tt → 8192 ≤ length buffer
  unfolding lentResult
  room e = leb-true 8192 (length buffer) (need-passed (leb 8192 (length buffer)) 10 (next-passed (lentResult buffer) tt (lentTable pool table) e))

module _ (pool table buffer : List ℕ) (count : ℕ) (con : List ℕ) where
  pub lent-failed : (b : Bool) → need b 10 ≡ lentBuffer pool table buffer → not b ≡ true → refused 10 ≡ checks pool table buffer count con
  unfolding checks
  lent-failed b e h = sym (rw (sym e ∙ ap (λ (c : Bool). need c 10) (not-true b h)) refl)

  module _ (l : lentBuffer pool table buffer ≡ got tt) where
    pub count_long : 2048 < count → refused 8 ≡ checks pool table buffer count con
    unfolding checks
    count_long h = sym (rw (l, lt-leb count 2048 h) refl)

    pub con-long : count ≤ 2048 → 8192 < length con → refused 8 ≡ checks pool table buffer count con
    unfolding checks shortLists all
    con-long h k = sym (rw (l, le-leb count 2048 h, lt-leb (length con) 8192 k) refl)

    module _ (h : count ≤ 2048) (k : length con ≤ 8192) (names : Result NameTable Refusal) (told : toldBy unit_of names ≡ tableGiven pool table)
        (same : IfOk names (λ n. (n.pool.now ≡ pool) × (n.table.now ≡ table))) where
      abbrev part : List ℕ
      part = take (count * 4) buffer

      abbrev asked : Got (Unit {0})
      asked = tableKept (table_of pool table)

      checks-are : checks pool table buffer count con ≡ (asked >> (passing (setGiven (table_of pool table) part) >> oneGiven pool table con))
      unfolding checks shortLists all
      checks-are = rw (l, le-leb count 2048 h, le-leb (length con) 8192 k) refl

      part-over : set_over names part ≡ (asked >> setGiven (table_of pool table) part)
      unfolding shortLists all
      part-over =
          let short : leb (length part) 8192 ≡ true = le-leb (length part) 8192
          (omega (arith, length-take-le (count * 4) buffer (omega (arith, room pool table buffer l, h)), h)) in
          rw short (over-kept pool table (table-met pool table buffer l) (λ t. setGiven t part) names told same)

      con-over : one_over names con ≡ (asked >> oneGiven pool table con)
      unfolding shortLists all
      con-over =
          rw (le-leb (length con) 8192 k)
          (ap (λ (x : Got (List (Con ℕ))). x >>= only) (over-kept pool table (table-met pool table buffer l) (λ t. setGiven t con) names told same)
          ∙ bracket asked (λ _. setGiven (table_of pool table) con) only)

      pub set-refused : {n : ℕ} → refused n ≡ set_over names part → refused n ≡ checks pool table buffer count con
      set-refused e = set-stops asked (setGiven (table_of pool table) part) (oneGiven pool table con) (e ∙ part-over) ∙ sym checks-are

      pub set-passed : {cs : List (Con ℕ)} → got cs ≡ set_over names part → one_over names con ≡ checks pool table buffer count con
      set-passed e = con-over ∙ set-passes asked (setGiven (table_of pool table) part) (oneGiven pool table con) (e ∙ part-over) ∙ sym checks-are
