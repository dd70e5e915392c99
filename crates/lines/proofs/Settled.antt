-- What solving leaves for the judge: bindings and bounds, well formed and at the front of a buffer; or a refusal.
use Rattle.std.proofs.Math.Path.{◌≡◌, refl, sym, ap, subst}
use Rattle.std.proofs.Common.{◌∙◌, arith, le-leb}
use Rattle.std.specs.Prelude.{Bool, true, false, List, ℕ, ◌/◌, ◌≤◌, leb, Result, Ok, Err}
use Rattle.std.proofs.Math.ListN.{length}
use Rattle.rules.specs.Base.{Got, got, refused, ◌>>=◌, ◌>>◌, bounded, collect, sum_of}
use Rattle.rules.specs.Trees.{Con, Binding, opensCon, sizeCon}
use Rattle.rules.specs.Contents.{unmixed}
use Rattle.rules.specs.WellFormed.{goodBinding}
use Rattle.rules.specs.Solving.{Answer, accepted, remaining, stopped, solve}
use Rattle.rules.specs.Judging.{judge}
use Rattle.rules.specs.Refusals.{number_of}
use Rattle.rules.specs.Names.{Bytes, table_of, names_of, numbered}
use Rattle.rules.specs.Writing.{Rec}
use Rattle.rules.specs.Lines.{settled, agreed, settledSet, agreedSet}
use Rattle.rules.specs.declared.Refusal.{Refusal}
use Rattle.rules.specs.declared.Refusal.TheVariants.{Mixed}
use Rattle.laws.specs.Lists.{all-every}
use Rattle.laws.proofs.Lists.{is_all}
use Rattle.laws.specs.NameTable.{Good}
use Rattle.theorems_soundness.proofs.Words.{numbers-ordered}
use Rattle.theorems_soundness.proofs.Form.{solved-form}
use Rattle.records.specs.Good.{numbers, holding}
use Rattle.queries.specs.Scans.{opensIn}
use Rattle.records_buffers.proofs.Handed.{made-refused}
use Rattle.records_buffers.specs.Told.{Made}
use Rattle.solve.specs.Told.{StandsBy, Stands}
use Rattle.solve_finish.specs.Told.{IsSolved}
use Rattle.solve_finish.specs.declared.Finish.{Finish}
use Rattle.solve.specs.declared.Solution.{Solution}
use Rattle.solve_finish.specs.declared.Finish.TheVariants as finish
use Rattle.judge.specs.Found.{FoundThere}
use Rattle.lines.specs.Standing.{SetStands}
use Rattle.lines.proofs.Standing.{set-opens}
use Rattle.lines.specs.Typed.{typeRecs, judgedType, setType}

-- ══ The outcomes of solving ══

-- it is accepted, and its rows stand in the list
pub record Accepts (a : Answer ℕ) (found : List ℕ) (b n : ℕ) : Type 0 where
  pub bs : List (Binding ℕ)
  pub ns : List ℕ
  pub rounds : ℕ
  pub is : a ≡ accepted bs ns rounds
  pub rows : IsSolved found b n bs ns

module _ (a : Answer ℕ) (found : List ℕ) (s : Solution) (h : Stands found s (got a)) where
  says : {o : Result Finish Refusal} → s.outcome ≡ o → StandsBy found o s.rounds (got a)
  says i = subst (λ (o : Result Finish Refusal). StandsBy found o s.rounds (got a)) i h.says

  pub accepts : {b n : ℕ} → s.outcome ≡ Ok (finish.Solved b n) → Accepts a found b n
  accepts {b} {n} i = go a refl (says i)
    where
      go : (x : Answer ℕ) → a ≡ x → StandsBy found (Ok (finish.Solved b n)) s.rounds (got x) → Accepts a found b n
      go (accepted bs ns k) e p = record { bs = bs; ns = ns; rounds = k; is = e; rows = p.1 }
      go (remaining cs k) e p = absurd p
      go (stopped j k) e p = absurd p

  pub remains : {n : ℕ} → s.outcome ≡ Ok (finish.Unsolved n) → settled a ≡ refused 5
  unfolding settled
  remains {n} i = go a (says i)
    where
      go : (x : Answer ℕ) → StandsBy found (Ok (finish.Unsolved n)) s.rounds (got x) → settled x ≡ refused 5
      go (accepted bs ns k) p = absurd p
      go (remaining cs k) p = refl
      go (stopped j k) p = absurd p

  pub stops : {r : Refusal} → s.outcome ≡ Err r → settled a ≡ refused (number_of r)
  unfolding settled
  stops {r} i = go a (says i)
    where
      go : (x : Answer ℕ) → StandsBy found (Err r) s.rounds (got x) → settled x ≡ refused (number_of r)
      go (accepted bs ns k) p = absurd p
      go (remaining cs k) p = absurd p
      go (stopped j k) p = ap refused (sym p.0)

-- ══ The type after each of them ══

-- a test between two steps
tested : {A B C : Type 0} (m : Got A) (j : A → Got (Unit {0})) (k : A → B) (g : B → Got C) → ((m >>= λ f. j f >> got (k f)) >>= g) ≡ (m >>= λ f. j f >> g (k f))
tested (refused n) j k g = refl
tested (got f) j k g = go (j f)
  where
    go : (u : Got (Unit {0})) → ((u >> got (k f)) >>= g) ≡ (u >> g (k f))
    go (got u) = refl
    go (refused n) = refl

module _ (pool table set : List ℕ) (cs : List (Con ℕ)) (h : SetStands pool table set cs) (v : ℕ) where
  small : leb (sum_of sizeCon cs) 2048 ≡ true
  small = le-leb (sum_of sizeCon cs) 2048 h.admitted.small

  -- what the check of 4 says
  abbrev pub Told : Bool → Type 0
  Told b = (names : List Bytes) → b ≡ unmixed (numbered names) (opensIn set 0 (length set / 4))

  told_is : {b : Bool} → Told b → unmixed (numbers pool table) (collect opensCon cs) ≡ b
  told_is {b} t = ap (unmixed (numbers pool table)) (sym (set-opens pool table set cs h)) ∙ sym (t (names_of (table_of pool table)))

  pub mixed-made : {b : Bool} → Told b → b ≡ false → (w : List ℕ) → Made (setType pool table cs v) w (Err Mixed)
  unfolding agreedSet settledSet
  mixed-made t i w = made-refused Mixed (rw (small, told_is t, i))

  module _ {b : Bool} (t : Told b) (i : b ≡ true) where
    after-solving : setType pool table cs v
        ≡ (settled (solve (numbers pool table) bounded cs) >>= λ f. agreed (judge (numbers pool table) bounded f.0 f.1 cs)
        >> typeRecs pool table f.0 v)
    unfolding agreedSet settledSet
    after-solving = rw (small, told_is t, i)
        (tested (settled (solve (numbers pool table) bounded cs)) (λ f. agreed (judge (numbers pool table) bounded f.0 f.1 cs)) (λ f. f.0)
        (λ bs. typeRecs pool table bs v))

    pub refused-settled : (w : List ℕ) (k : Refusal) → settled (solve (numbers pool table) bounded cs) ≡ refused (number_of k)
        → Made (setType pool table cs v) w (Err k)
    refused-settled w k e = made-refused k (after-solving ∙ rw e)

    module _ (good : Good pool table) {found : List ℕ} {b' n : ℕ} (a : Accepts (solve (numbers pool table) bounded cs) found b' n) where
      -- the judge can take what was found
      pub found-well : length found ≤ 8192 → FoundThere pool table found b' n a.bs a.ns
      found-well long =
          let f = solved-form (numbers pool table) (holding pool table) (numbers-ordered pool table good) cs
          (record { well-formed = h.admitted.good; apart = told_is t ∙ i }) a.bs a.ns a.rounds a.is in
          record {
            binds = a.rows.binds;
            bounds = a.rows.bounds.held;
            many = omega (arith, a.rows.bounds.ends);
            good = is_all (goodBinding (numbers pool table) (holding pool table) 0) a.bs f.bindings-good;
            held = all-every (λ n. holding pool table n ≡ true) a.ns f.bounds-held;
            short = long;
          }

      pub judged-settled : (w : List ℕ) (r : Result ℕ Refusal) → Made (judgedType pool table cs a.bs a.ns v) w r → Made (setType pool table cs v) w r
      unfolding settled
      judged-settled w r m = let e : judgedType pool table cs a.bs a.ns v ≡ setType pool table cs v = sym (after-solving ∙ rw a.is)
          in subst (λ (x : Got (List Rec)). Made x w r) e m
