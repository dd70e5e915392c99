-- What the call answers, from the count of the pass over the records.
use Rattle.std.specs.Prelude.{◌≡◌, refl, List, ℕ, ◌/◌, ◌≤◌, length, get_or}
use Rattle.std.proofs.Common.{arith}
use Rattle.rules.specs.Base.{Got, got, refused, ◌>>=◌, ◌>>◌, collect}
use Rattle.rules.specs.Trees.{opensCon}
use Rattle.rules.specs.Names.{table_of, names_of}
use Rattle.rules.specs.Calls.{aloneGiven, setGiven, setCall}
use Rattle.rules.specs.Ceiling.{Ceiling, variablesOf, ceilingFor, ceilingCall}
use Rattle.laws.proofs.ByteOrder.{numbered-lawful}
use Rattle.laws.proofs.NameTable.{good-laid, held_tells}
use Rattle.laws.proofs.Checks.{passed, stopped}
use Rattle.laws.proofs.Lists.{clash}
use Rattle.records.specs.Found.{Words32}
use Rattle.records.specs.Good.{numbers}
use Rattle.records.proofs.Whole.{entry-good, set_is}
use Rattle.queries.specs.declared.Kind.TheVariants.{Variables}
use Rattle.queries.proofs.GoodOpens.{names-held}
use Rattle.queries.proofs.Runs.{set-opens, set_known}
use Rattle.queries.specs.Scans.{choose, opensIn}
use Rattle.solve_ceiling.specs.Counting.{Distinct}
use Rattle.solve_ceiling.proofs.Counting.{counted-few, counted-all, distinct-sorted}

-- where a row of checks and a value give an answer, the checks alone pass
checked : {A B : Type 0} (a : Got (Unit {0})) (m : Got A) (f : A → B) (b : B) → (a >>= λ _. m >>= λ x. got (f x)) ≡ got b → (a >> m >> got (tt {0})) ≡ got tt
checked (got u) (got x) f b e = refl
checked (got u) (refused k) f b e = clash e
checked (refused k) m f b e = clash e

module _ (pool table ws : List ℕ) where
  pub ceiling-refused : (n : ℕ) → setCall pool table ws ≡ refused n → ceilingCall pool table ws ≡ refused n
  unfolding setCall ceilingCall
  ceiling-refused n e = stopped (aloneGiven pool table ws) (setGiven (table_of pool table) ws) _ n e

  pub ceiling-given : Words32 ws → setCall pool table ws ≡ got tt → (v : ℕ) → Distinct (choose Variables (opensIn ws 0 (length ws / 4))) v
      → ceilingCall pool table ws ≡ got (ceilingFor v)
  unfolding setCall ceilingCall variablesOf
  ceiling-given w e v d =
      let (cs, (a, g)) = passed (aloneGiven pool table ws) (setGiven (table_of pool table) ws) e in
      let good = entry-good pool table ws a in
      let chain = set_is pool table ws w cs g in
      let known = names-held pool table 0 (collect opensCon cs) (set_known pool table 0 ws cs 0 (length ws / 4) chain) Variables in
      let many = distinct-sorted (get_or table 0 0) (good-laid good).few (choose Variables (collect opensCon cs)) known (numbers pool table)
      (numbered-lawful (names_of (table_of pool table))) (held_tells good) v
      (rw (set-opens pool table 0 ws cs 0 (length ws / 4) chain) at d) in
      rw (a, g, many)

  -- 'with at most 256 names that is 1,579,264'
  pub ceiling-highest : Words32 ws → (m : Ceiling) → ceilingCall pool table ws ≡ got m → (m.variables ≤ 256) × (m.rounds ≤ 1_579_264)
  unfolding setCall ceilingCall
  ceiling-highest w m e =
      let (v, d) = counted-all (choose Variables (opensIn ws 0 (length ws / 4))) in
      let few = counted-few d.counted in
      let is : m ≡ ceilingFor v = cc (ceiling-given w (checked (aloneGiven pool table ws) (setGiven (table_of pool table) ws) _ m e) v d) in
      rw is (few, omega arith)
