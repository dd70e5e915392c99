-- What is found among the lines of a set, from the first test to the places that are written.
use Rattle.std.specs.Prelude.{Result, Ok, Err, Some, None, ◌≡◌, refl, Bool, true, false, List, [], map, ℕ, ◌-◌, ◌≤◌, length, take, drop, replicate}
use Rattle.std.proofs.Common.{ap, sym, ◌∙◌, arith}
use Rattle.std.proofs.Math.Option.{Option, some, none}
use Rattle.std.proofs.Math.Seq.{take-length, drop-length}
use Rattle.std.proofs.lemmas.List.{get_or-replicate, length-map}
use Rattle.rules.specs.Base.{Got, got, refused, ◌>>=◌, keep}
use Rattle.rules.specs.Calls.{resultAfter}
use Rattle.rules.specs.Conflicts.{Line, linesFrom, conflicting, leaveOut, conflictIn}
use Rattle.rules.specs.Refusals.{told, toldBy, number_of}
use Rattle.rules.specs.Trees.{Names, Con}
use Rattle.rules.specs.declared.Refusal.{Refusal}
use Rattle.queries.specs.Marks.{Filled}
use Rattle.queries.proofs.SortMarks.{over_none}
use Rattle.solve_conflict.specs.Standing.{line_place, standing, On, before, behind, run, LeftOut}
use Rattle.solve_conflict.specs.Told.{FoundAs}
use Rattle.solve_conflict.proofs.Marks.{stand-all}

-- ══ At first all stand ══

pub all-on : (n : ℕ) → n ≤ 2048 → On 0 n (replicate 2048 true)
all-on n le i a b = get_or-replicate 2048 i true false (omega (arith, b, le))

module _ (ν : Names ℕ) (cs : List (Con ℕ)) where
  abbrev lines : List (Line ℕ)
  lines = linesFrom 0 cs

  -- what follows the first test
  abbrev bySearch : Got (List (Line ℕ)) → Got (Option (List (Line ℕ)))
  bySearch m = m >>= λ ls. got (some ls)

  abbrev byTest : Got Bool → Got (Option (List (Line ℕ)))
  byTest m = m >>= λ r. elim r [ true ↦ bySearch (leaveOut ν 11 [] lines []) | false ↦ got none ]

  module _ (few : length cs ≤ 2048) (r : Result Bool Refusal) (tried : told r ≡ conflicting ν (standing (replicate 2048 true) 0 cs)) where
    first : told r ≡ conflicting ν lines
    first = tried ∙ ap (conflicting ν) (stand-all (replicate 2048 true) 0 cs (λ j a b. all-on (length cs) few j a (omega (arith, b))))

    pub find-refused : (res : List ℕ) (k : Refusal) → r ≡ Err k → FoundAs (conflictIn ν cs) res res (Err k)
    unfolding conflictIn resultAfter
    find-refused res k e =
        let z : conflictIn ν cs ≡ refused (number_of k) = ap byTest (sym first ∙ ap told e) in
        record { answer = rw z refl; buffer = rw z refl }

    pub find-none : (res : List ℕ) → r ≡ Ok false → FoundAs (conflictIn ν cs) res res (Ok None)
    unfolding conflictIn resultAfter
    find-none res e =
        let z : conflictIn ν cs ≡ got none = ap byTest (sym first ∙ ap told e) in
        record { answer = rw z refl; buffer = rw z (sym (over_none res)) }

    module _ (e : r ≡ Ok true) (n : ℕ) (counts : n ≡ length cs) (m : List Bool) (s : Result (Unit {0}) Refusal)
        (left : LeftOut cs ν 11 0 n (replicate 2048 true) m s) where
      searches : conflictIn ν cs ≡ bySearch (leaveOut ν 11 [] lines [])
      unfolding conflictIn
      searches = ap byTest (sym first ∙ ap told e)

      took : take n cs ≡ cs
      took = ap (λ (k : ℕ). take k cs) counts ∙ take-length cs

      whole : linesFrom 0 (run cs 0 n) ≡ lines
      whole = ap (linesFrom 0) (let k : n - 0 ≡ n = omega arith in ap (λ (j : ℕ). take j cs) k ∙ took)

      no-more : behind cs (replicate 2048 true) n ≡ []
      unfolding keep linesFrom
      no-more = ap (standing (replicate 2048 true) n) (ap (λ (k : ℕ). drop k cs) counts ∙ drop-length cs)

      no-less : before cs (replicate 2048 true) 0 ≡ []
      unfolding keep linesFrom
      no-less = refl

      kept : toldBy (λ u. standing m 0 cs) s ≡ leaveOut ν 11 [] lines []
      kept =
          ap (λ (xs : List (Con ℕ)). toldBy (λ u. standing m 0 xs) s) (sym took) ∙ left.answer
          ∙ ap (λ (xs : List (Line ℕ)). leaveOut ν 11 xs (linesFrom 0 (run cs 0 n)) (behind cs (replicate 2048 true) n)) no-less
          ∙ ap (λ (xs : List (Line ℕ)). leaveOut ν 11 [] xs (behind cs (replicate 2048 true) n)) whole
          ∙ ap (λ (xs : List (Line ℕ)). leaveOut ν 11 [] lines xs) no-more

      pub find-stopped : (res : List ℕ) (k : Refusal) → s ≡ Err k → FoundAs (conflictIn ν cs) res res (Err k)
      unfolding resultAfter
      find-stopped res k i =
          let z : conflictIn ν cs ≡ refused (number_of k) = searches ∙ ap bySearch (sym kept ∙ ap (toldBy (λ u. standing m 0 cs)) i) in
          record { answer = rw z refl; buffer = rw z refl }

      pub find-some : (res res' : List ℕ) (u : Unit {0}) (many : ℕ) → s ≡ Ok u → Filled (map line_place (standing m 0 cs)) many res res'
          → FoundAs (conflictIn ν cs) res res' (Ok (Some many))
      unfolding resultAfter
      find-some res res' u many i f =
          let z : conflictIn ν cs ≡ got (some (standing m 0 cs)) = searches ∙ ap bySearch (sym kept ∙ ap (toldBy (λ u. standing m 0 cs)) i) in
          let k : many ≡ length (standing m 0 cs) = f.many ∙ length-map (standing m 0 cs) line_place in
          record { answer = rw z (ap (λ (j : ℕ). got (some j)) k); buffer = rw z f.buffer }
