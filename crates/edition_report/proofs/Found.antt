-- What follows from the definitions of specs/Found: what the code holds of a finding: rows of bindings, bounds and what remains stand at the front of a list.
use Rattle.std.specs.Prelude.{◌≡◌, refl, List, ◌++◌, ℕ, ◌+◌, ◌≤◌, length, Result, Ok, Err}
use Rattle.std.proofs.Common.{subst, arith, append_assoc}
use Rattle.std.proofs.Math.Option.{none, some}
use Rattle.rules.specs.Base.{Got, got, refused, collect}
use Rattle.rules.specs.Names.{Bytes}
use Rattle.rules.specs.Refusals.{number_of}
use Rattle.rules.specs.Reports.{Finding, agrees, remains, finding, findingText, bindingLine, boundLine, remainingLine}
use Rattle.rules.specs.Solving.{Answer, accepted, remaining, stopped}
use Rattle.rules.specs.Trees.{Names, Con, Binding}
use Rattle.rules.specs.declared.Refusal.{Refusal}
use Rattle.solve_finish.specs.declared.Finish.{Finish}
use Rattle.solve_finish.specs.declared.Finish.TheVariants as finish
use Rattle.judge.specs.Found.{PlacedAs}
use Rattle.solve.specs.Told.{StandsBy, Stands}
use Rattle.solve.specs.declared.Solution.{Solution}
use Rattle.edition_report.specs.Rows.{Row, RowsAt}
use Rattle.edition_report.proofs.OnRows.{chain-in, left-rows, solved-rows}
use Rattle.edition_report.specs.declared.pages.Outcome.TheVariants as outcome
use Rattle.edition_report.specs.Found.{IsFinding, acceptedText, leftText}

-- ══ What is found, by what solving answered and the verdict ══

module _ (s : List ℕ) (solution : Solution) (a : Got (Answer ℕ)) (h : Stands s solution a) (ν : Names ℕ) (cs : List (Con ℕ)) where
  says : {o : Result Finish Refusal} → solution.outcome ≡ o → StandsBy s o solution.rounds a
  says i = subst (λ (o : Result Finish Refusal). StandsBy s o solution.rounds a) i h.says

  module _ {b n : ℕ} (i : solution.outcome ≡ Ok (finish.Solved b n)) where
    pub found-agrees : PlacedAs ν cs a (got none) → IsFinding s (outcome.Agrees b n solution.rounds) (finding ν cs a)
    unfolding finding
    found-agrees f = go a (says i) f
      where
        go : (m : Got (Answer ℕ)) → StandsBy s (Ok (finish.Solved b n)) solution.rounds m → PlacedAs ν cs m (got none)
            → IsFinding s (outcome.Agrees b n solution.rounds) (finding ν cs m)
        go (refused j) q f = absurd q
        go (got (accepted bs ns k)) q f = rw (← f) (record { bs = bs; ns = ns; is = rw (← q.0) refl; solved = q.1 })
        go (got (remaining ds k)) q f = absurd q
        go (got (stopped j k)) q f = absurd q

    pub found-denied : (k : ℕ) → PlacedAs ν cs a (got (some k)) → IsFinding s (outcome.Denied k) (finding ν cs a)
    unfolding finding
    found-denied k f = go a (says i) f
      where
        go : (m : Got (Answer ℕ)) → StandsBy s (Ok (finish.Solved b n)) solution.rounds m → PlacedAs ν cs m (got (some k))
            → IsFinding s (outcome.Denied k) (finding ν cs m)
        go (refused j) q f = absurd q
        go (got (accepted bs ns j)) q f = rw (← f) refl
        go (got (remaining ds j)) q f = absurd q
        go (got (stopped i j)) q f = absurd q

    pub found-unjudged : (r : Refusal) → PlacedAs ν cs a (refused (number_of r)) → IsFinding s (outcome.Unjudged r) (finding ν cs a)
    unfolding finding
    found-unjudged r f = go a (says i) f
      where
        go : (m : Got (Answer ℕ)) → StandsBy s (Ok (finish.Solved b n)) solution.rounds m → PlacedAs ν cs m (refused (number_of r))
            → IsFinding s (outcome.Unjudged r) (finding ν cs m)
        go (refused j) q f = absurd q
        go (got (accepted bs ns j)) q f = rw (← f) refl
        go (got (remaining ds j)) q f = absurd q
        go (got (stopped i j)) q f = absurd q

  pub found-remains : {n : ℕ} → solution.outcome ≡ Ok (finish.Unsolved n) → IsFinding s (outcome.Remains n solution.rounds) (finding ν cs a)
  unfolding finding
  found-remains {n} i = go a (says i)
    where
      go : (m : Got (Answer ℕ)) → StandsBy s (Ok (finish.Unsolved n)) solution.rounds m → IsFinding s (outcome.Remains n solution.rounds) (finding ν cs m)
      go (refused j) q = absurd q
      go (got (accepted bs ns k)) q = absurd q
      go (got (remaining ds k)) q = record { ds = ds; is = rw (← q.0) refl; left = q.1 }
      go (got (stopped j k)) q = absurd q

  pub found-stops : {r : Refusal} → solution.outcome ≡ Err r → IsFinding s (outcome.Stops r solution.rounds) (finding ν cs a)
  unfolding finding
  found-stops {r} i = go a (says i)
    where
      go : (m : Got (Answer ℕ)) → StandsBy s (Err r) solution.rounds m → IsFinding s (outcome.Stops r solution.rounds) (finding ν cs m)
      go (refused j) q = rw (← q.0, ← q.1) refl
      go (got (accepted bs ns k)) q = absurd q
      go (got (remaining ds k)) q = absurd q
      go (got (stopped j k)) q = rw (← q.0, ← q.1) refl

-- whatever the verdict: rows of it stand there
module _ (s : List ℕ) (solution : Solution) (a : Got (Answer ℕ)) (h : Stands s solution a) where
  says-of : {o : Result Finish Refusal} → solution.outcome ≡ o → StandsBy s o solution.rounds a
  says-of i = subst (λ (o : Result Finish Refusal). StandsBy s o solution.rounds a) i h.says

  pub there-agrees : {b n : ℕ} → solution.outcome ≡ Ok (finish.Solved b n) → (f : Finding) × IsFinding s (outcome.Agrees b n solution.rounds) f
  there-agrees {b} {n} i = go a (says-of i)
    where
      go : (m : Got (Answer ℕ)) → StandsBy s (Ok (finish.Solved b n)) solution.rounds m → (f : Finding) × IsFinding s (outcome.Agrees b n solution.rounds) f
      go (refused j) q = absurd q
      go (got (accepted bs ns k)) q = (agrees bs ns solution.rounds, record { bs = bs; ns = ns; is = refl; solved = q.1 })
      go (got (remaining ds k)) q = absurd q
      go (got (stopped j k)) q = absurd q

  pub there-remains : {n : ℕ} → solution.outcome ≡ Ok (finish.Unsolved n) → (f : Finding) × IsFinding s (outcome.Remains n solution.rounds) f
  there-remains {n} i = go a (says-of i)
    where
      go : (m : Got (Answer ℕ)) → StandsBy s (Ok (finish.Unsolved n)) solution.rounds m → (f : Finding) × IsFinding s (outcome.Remains n solution.rounds) f
      go (refused j) q = absurd q
      go (got (accepted bs ns k)) q = absurd q
      go (got (remaining ds k)) q = (remains ds solution.rounds, record { ds = ds; is = refl; left = q.1 })
      go (got (stopped j k)) q = absurd q

-- ══ Rows of what is found ══

-- where bindings and bounds, or what remains, stand in a list that is short enough, so do their rows
pub solved-there : {s : List ℕ} {b n k : ℕ} → (f : Finding) × IsFinding s (outcome.Agrees b n k) f → (rs : List Row) × RowsAt s 0 (b + n) rs
solved-there {s} {b} {n} w = let h = w.1 in (_, solved-rows s b n h.bs h.ns h.solved)

pub left-there : {s : List ℕ} {e k : ℕ} → (f : Finding) × IsFinding s (outcome.Remains e k) f → (rs : List Row) × RowsAt s 0 e rs
left-there {s} {e} w = let h = w.1 in (_, left-rows s h.ds 0 e h.left)

pub solved-in : {s : List ℕ} {b n k : ℕ} → length s ≤ 4_000_000_000 → (f : Finding) × IsFinding s (outcome.Agrees b n k) f → b + n ≤ 4_000_000_000
solved-in {s} {b} {n} near w = let r = solved-there w in omega (arith, near, chain-in s r.0 0 (b + n) (omega arith) r.1.chain)

-- ══ Pages with rows, from their parts ══

module _ (names : ℕ → Bytes) (text : Bytes) (cs new : ℕ) where
  pub agrees-text : (bs : List (Binding ℕ)) (ns : List ℕ) (k : ℕ)
      → findingText names text cs new (agrees bs ns k) ≡ acceptedText cs k new ++ (collect (bindingLine names) bs ++ collect (boundLine names) ns)
  unfolding findingText
  agrees-text bs ns k = simp append_assoc

  pub remains-text : (ds : List (Con ℕ)) (k : ℕ) → findingText names text cs new (remains ds k) ≡ leftText k ++ collect (remainingLine names) ds
  unfolding findingText
  remains-text ds k = simp append_assoc
