-- The checks of a batch, from the lengths of what is lent.
use Rattle.std.specs.Prelude.{Ok, ◌≡◌, refl, Bool, true, false, not, List, ℕ, ◌*◌, ◌≤◌, ◌<◌, leb, eqb, length, replicate}
use Rattle.std.proofs.Math.Bool.{and-false}
use Rattle.std.proofs.Math.Path.{sym, ap}
use Rattle.std.proofs.Common.{◌∙◌}
use borrow.Author.Tests.{le-leb, lt-leb, leb-true, eqb-true}
use Rattle.rules.specs.Base.{Got, got, refused, ◌>>=◌, ◌>>◌, need, sum_of}
use Rattle.rules.specs.Calls.{lentWork, workAfter, solvedSet}
use Rattle.rules.specs.Names.{lentTable, table_of}
use Rattle.std.proofs.lemmas.Bool.{not-true, not-false}
use Rattle.laws.proofs.Lists.{clash}
use Rattle.rules.specs.Batches.{batchLent, batchFits, batchCall, eachSolved, writtenOver}
use Rattle.solve_batch.specs.Told.{batchAs}
use Rattle.solve_batch.specs.Steps.{Begun, Finished}

module _ (pool table lengths result answers work : List ℕ) where
  pub short-pool : length pool < 8192 → need false 10 ≡ batchLent pool table lengths result answers work
  unfolding batchLent lentTable
  short-pool h = sym (rw (lt-leb 8192 (length pool) h))

  pub short-table : length table < 257 → need false 10 ≡ batchLent pool table lengths result answers work
  unfolding batchLent lentTable
  short-table h = sym (rw (lt-leb 257 (length table) h, and-false (leb 8192 (length pool))))

  module _ (p : 8192 ≤ length pool) (t : 257 ≤ length table) where
    pub short-result : length result < length lengths * 8192 → need false 10 ≡ batchLent pool table lengths result answers work
    unfolding batchLent lentTable
    short-result h = sym (rw (le-leb 8192 (length pool) p, le-leb 257 (length table) t, lt-leb (length lengths * 8192) (length result) h))

    module _ (r : length lengths * 8192 ≤ length result) where
      pub short-answers : length answers < length lengths * 4 → need false 10 ≡ batchLent pool table lengths result answers work
      unfolding batchLent lentTable
      short-answers h = sym (rw (
        le-leb 8192 (length pool) p,
        le-leb 257 (length table) t,
        le-leb (length lengths * 8192) (length result) r,
        lt-leb (length lengths * 4) (length answers) h,
      ))

      pub long_rest : length lengths * 4 ≤ length answers → need (leb 16384 (length work)) 10 ≡ batchLent pool table lengths result answers work
      unfolding batchLent lentTable lentWork
      long_rest a = sym (rw (
        le-leb 8192 (length pool) p,
        le-leb 257 (length table) t,
        le-leb (length lengths * 8192) (length result) r,
        le-leb (length lengths * 4) (length answers) a,
      ))

  -- what a caller knows who asked
  pub record Room : Type 0 where
    pub table-met : lentTable pool table ≡ got tt
    pub results : length lengths * 8192 ≤ length result
    pub answered : length lengths * 4 ≤ length answers
    pub works : 16384 ≤ length work
    pub met : batchLent pool table lengths result answers work ≡ got tt

  all-four : (x : Got (Unit {0})) (b c d : Bool) → (x >>= λ _. need b 10 >>= λ _. need c 10 >>= λ _. need d 10) ≡ got tt → (x ≡ got tt) × (b ≡ true)
      × (c ≡ true) × (d ≡ true)
  all-four (refused n) b c d e = clash e
  all-four (got tt) false c d e = clash e
  all-four (got tt) true false d e = clash e
  all-four (got tt) true true false e = clash e
  all-four (got tt) true true true e = (refl, refl, refl, refl)

  pub roomy : (b : Bool) → need b 10 ≡ batchLent pool table lengths result answers work → not b ≡ false → Room
  unfolding batchLent lentWork
  roomy b e i =
      let g : batchLent pool table lengths result answers work ≡ got tt = sym e ∙ ap (λ (c : Bool). need c 10) (not-false b i) in
      let f = all-four (lentTable pool table) (leb (length lengths * 8192) (length result)) (leb (length lengths * 4) (length answers))
      (leb 16384 (length work)) g in
      record {
        table-met = f.0;
        results = leb-true (length lengths * 8192) (length result) f.1;
        answered = leb-true (length lengths * 4) (length answers) f.2;
        works = leb-true 16384 (length work) f.3;
        met = g;
      }

  pub cramped : (b : Bool) → need b 10 ≡ batchLent pool table lengths result answers work → not b ≡ true
      → batchLent pool table lengths result answers work ≡ refused 10
  cramped b e i = sym e ∙ ap (λ (c : Bool). need c 10) (not-true b i)

-- ══ Do the lengths add up ══

module _ (words lengths : List ℕ) where
  pub too_many : 64 < length lengths → refused 8 ≡ batchFits words lengths
  unfolding batchFits
  too_many h = sym (rw (lt-leb (length lengths) 64 h))

  pub added : (b : Bool) → length lengths ≤ 64 → eqb (sum_of (λ n. n) lengths * 4) (length words) ≡ b → need b 1 ≡ batchFits words lengths
  unfolding batchFits
  added b h e = sym (rw (le-leb (length lengths) 64 h, e))

  fitted : (b c : Bool) → (need b 8 >> need c 1) ≡ got tt → (b ≡ true) × (c ≡ true)
  fitted false c e = clash e
  fitted true false e = clash e
  fitted true true e = (refl, refl)

  pub begun : (result answers work : List ℕ) → length lengths * 8192 ≤ length result → length lengths * 4 ≤ length answers → 16384 ≤ length work
      → batchFits words lengths ≡ got tt → Begun words lengths result answers work
  unfolding batchFits
  begun result answers work r a w e =
      let f = fitted (leb (length lengths) 64) (eqb (sum_of (λ n. n) lengths * 4) (length words)) e in
      record { few = leb-true (length lengths) 64 f.0; sums = eqb-true (sum_of (λ n. n) lengths * 4) (length words) f.1; results = r; answer = a; works = w }

-- ══ The call ══

module _ (pool table words lengths result answers work : List ℕ) where
  pub call-short : batchLent pool table lengths result answers work ≡ refused 10
      → record { answer = refused 10; result = result; answers = answers; work = work } ≡ batchCall pool table words lengths result answers work
  unfolding batchCall writtenOver workAfter
  call-short e = rw e

  pub call-unfit : (n : ℕ) (w work' : List ℕ) → length w ≡ length work → batchLent pool table lengths result answers work ≡ got tt
      → batchFits words lengths ≡ refused n → work' ≡ replicate (length w) 0
      → record { answer = refused n; result = result; answers = answers; work = work' } ≡ batchCall pool table words lengths result answers work
  unfolding batchCall writtenOver workAfter
  call-unfit n w work' l e f z = rw (e, f, z, l)

  pub called : (n : ℕ) (w result' answers' work' : List ℕ) → length w ≡ length work → batchLent pool table lengths result answers work ≡ got tt
      → batchFits words lengths ≡ got tt
      → Finished (λ ws. solvedSet (table_of pool table) ws) words lengths result result' answers answers' n → work' ≡ replicate (length w) 0
      → batchAs (Ok n) result' answers' work' ≡ batchCall pool table words lengths result answers work
  unfolding batchCall eachSolved writtenOver workAfter
  called n w result' answers' work' l e f d z = rw (e, f, d.many, d.buffer, d.told, z, l)
