-- The check of 10, from the lengths of what is lent.
use Rattle.std.specs.Prelude.{◌≡◌, refl, Bool, true, false, not, ◌&&◌, List, ℕ, ◌≤◌, ◌<◌, length}
use Rattle.std.proofs.Math.Path.{sym, ap}
use Rattle.std.proofs.Common.{◌∙◌}
use borrow.Author.Tests.{le-leb, lt-leb, leb-true}
use Rattle.std.proofs.Math.Dec.{leb}
use Rattle.rules.specs.Base.{got, refused, ◌>>◌, need}
use Rattle.rules.specs.Calls.{lent, lentResult, lentWork}
use Rattle.rules.specs.Names.{lentTable}
use Rattle.std.proofs.lemmas.Bool.{not-true, not-false}
use Rattle.laws.proofs.Checks.{need-passed, first-passed, next-passed}

-- one test of the four that fails is enough
second : (a c d : Bool) → ((need (a && false) 10 >> need c 10) >> need d 10) ≡ refused 10
second true c d = refl
second false c d = refl

third : (a d : Bool) → ((need a 10 >> need false 10) >> need d 10) ≡ refused 10
third true d = refl
third false d = refl

module _ (pool table result work : List ℕ) where
  pub short-pool : length pool < 8192 → need false 10 ≡ lent pool table result work
  unfolding lent lentTable lentResult lentWork
  short-pool h = sym (rw (lt-leb 8192 (length pool) h))

  pub short-table : length table < 257 → need false 10 ≡ lent pool table result work
  unfolding lent lentTable lentResult lentWork
  short-table h = sym (rw (lt-leb 257 (length table) h) (second (leb 8192 (length pool)) (leb 8192 (length result)) (leb 16384 (length work))))

  pub short-result : length result < 8192 → need false 10 ≡ lent pool table result work
  unfolding lent lentTable lentResult lentWork
  short-result h = sym (rw (lt-leb 8192 (length result) h) (third (leb 8192 (length pool) && leb 257 (length table)) (leb 16384 (length work))))

  pub long_rest : 8192 ≤ length pool → 257 ≤ length table → 8192 ≤ length result → need (leb 16384 (length work)) 10 ≡ lent pool table result work
  unfolding lent lentTable lentResult lentWork
  long_rest p t r = sym (rw (le-leb 8192 (length pool) p, le-leb 257 (length table) t, le-leb 8192 (length result) r))

  -- what a caller knows who asked
  pub record Long : Type 0 where
    pub table-met : lentTable pool table ≡ got tt
    pub result-long : 8192 ≤ length result
    pub work-long : 16384 ≤ length work
    pub met : lent pool table result work ≡ got tt

  pub long : (b : Bool) → need b 10 ≡ lent pool table result work → not b ≡ false → Long
  unfolding lent lentResult lentWork
  long b e i =
      let g : lent pool table result work ≡ got tt = sym e ∙ ap (λ (c : Bool). need c 10) (not-false b i) in
      let f = first-passed (lentWork work) tt (lentTable pool table >> lentResult result) g in
      record {
        table-met = first-passed (lentResult result) tt (lentTable pool table) f;
        result-long = leb-true 8192 (length result) (need-passed (leb 8192 (length result)) 10 (next-passed (lentResult result) tt (lentTable pool table) f));
        work-long = leb-true 16384 (length work)
            (need-passed (leb 16384 (length work)) 10 (next-passed (lentWork work) tt (lentTable pool table >> lentResult result) g));
        met = g;
      }

  pub short : (b : Bool) → need b 10 ≡ lent pool table result work → not b ≡ true → lent pool table result work ≡ refused 10
  short b e i = sym e ∙ ap (λ (c : Bool). need c 10) (not-true b i)
