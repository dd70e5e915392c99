-- The part of a set that is under test: it stands at the front of the work buffer, ready to be solved; and what its answer says.
use Rattle.std.specs.Prelude.{Result, Ok, Err, ◌≡◌, refl, Bool, true, false, List, [], ◌∷◌, ◌++◌, ℕ, suc, ◌+◌, ◌*◌, ◌≤◌, length, get_or, take, drop, ◌/◌}
use Rattle.std.proofs.Common.{ap, sym, subst, ◌∙◌, arith, append-nil, take_at}
use Rattle.std.proofs.lemmas.List.Edits.{sets, sets-eq}
use Rattle.std.proofs.Math.ListN.{drop_of_length-le}
use Rattle.std.proofs.Math.Seq.{length-sets}
use Rattle.rules.specs.Base.{got, refused, bounded, all, keep, collect, sum_of, max_of}
use Rattle.rules.specs.Calls.{solved, unsolved, refusedAfter, solvedOf}
use Rattle.rules.specs.Choices.{wide}
use Rattle.rules.specs.Conflicts.{Line, linesFrom, remains, wideOf, conflicting}
use Rattle.rules.specs.Refusals.{number_of}
use Rattle.rules.specs.Solving.{Answer, accepted, remaining, stopped, solve}
use Rattle.rules.specs.declared.Refusal.{Refusal}
use Rattle.rules.specs.Trees.{Names, Con, sizeCon, depthCon}
use Rattle.rules.specs.WellFormed.{goodCon}
use Rattle.rules.specs.Writing.{words, writeCon}
use Rattle.laws.specs.Lists.{and_left, and_right}
use Rattle.laws.proofs.Lists.{and_both}
use Rattle.laws.proofs.Size.{set-length}
use Rattle.records.specs.Good.{numbers, holding}
use Rattle.laws.proofs.Size.{words-length}
use Rattle.replace.proofs.Kept.{cons-weaker}
use Rattle.replace.proofs.Written.{written-cons}
use Rattle.solve_finish.specs.declared.Finish.{Finish}
use Rattle.solve_finish.specs.declared.Finish.TheVariants as finish
use Rattle.solve.specs.declared.Solution.{Solution}
use Rattle.solve.specs.Told.{toldOutcome, toldSolution}
use Rattle.solve.specs.Running.{Begun}
use Rattle.types.specs.Sets.{con-some, IsCons}
use Rattle.types.specs.declared.writer.Writer.{Writer}
use Rattle.types.specs.Written.{Writes}
use Rattle.types.specs.Fine.{Fine}
use Rattle.solve_conflict.proofs.Steps.{part, part-first, part-narrow, part-not}

-- ══ A part of a fine set is fine ══

pub few : (cs : List (Con ℕ)) → length cs ≤ sum_of sizeCon cs
few [] = omega arith
few (c ∷ cs) = omega (arith, few cs, con-some c)

module _ (pool table : List ℕ) where
  abbrev good : Con ℕ → Bool
  good = goodCon (numbers pool table) (holding pool table) 0

  -- ds has passed wherever cs has
  record Less (ds cs : List (Con ℕ)) : Type 0 where
    passes : all good cs ≡ true → all good ds ≡ true
    small : sum_of sizeCon ds ≤ sum_of sizeCon cs
    flat : max_of depthCon ds ≤ max_of depthCon cs

  module _ (m : List Bool) where
    less : (i : ℕ) (cs : List (Con ℕ)) → Less (part m i cs) cs
    unfolding all keep linesFrom
    less i [] = record { passes = λ g. g; small = omega arith; flat = omega arith }
    less i (c ∷ cs) = go (get_or m i false) (wide c) refl refl (less (suc i) cs)
      where
        without : part m i (c ∷ cs) ≡ part m (suc i) cs → Less (part m (suc i) cs) cs → Less (part m i (c ∷ cs)) (c ∷ cs)
        without e l =
            rw e (record { passes = λ g. l.passes (and_right (good c) (all good cs) g); small = omega (arith, l.small); flat = omega (arith, l.flat) })

        go : (a b : Bool) → get_or m i false ≡ a → wide c ≡ b → Less (part m (suc i) cs) cs → Less (part m i (c ∷ cs)) (c ∷ cs)
        go true true e w l =
            rw (part-first m i c cs e w) (record {
              passes = λ g. and_both (and_left (good c) (all good cs) g) (l.passes (and_right (good c) (all good cs) g));
              small = omega (arith, l.small);
              flat = omega (arith, l.flat);
            })
        go true false e w l = without (part-narrow m i c cs e w) l
        go false b e w l = without (part-not m i c cs e) l

  module _ (m : List Bool) (cs : List (Con ℕ)) (f : Fine pool table cs) where
    pub fine-part : Fine pool table (part m 0 cs)
    fine-part = let l = less m 0 cs in record { good = l.passes f.good; small = omega (arith, l.small, f.small); flat = omega (arith, l.flat, f.flat) }

  -- ══ Ready to be solved ══

  module _ (ds : List (Con ℕ)) (f : Fine pool table ds) (w w' : Writer) (z : w.at ≡ 0) (h : Writes w w' (collect writeCon ds))
      (room : 8192 ≤ length w.words.now) where
    abbrev written : List ℕ
    written = words (collect writeCon ds)

    count : length (collect writeCon ds) ≡ sum_of sizeCon ds
    count = set-length ds

    long : length written ≡ sum_of sizeCon ds * 4
    long = words-length (collect writeCon ds) ∙ ap (λ (n : ℕ). n * 4) count

    pub ends : w'.at ≡ sum_of sizeCon ds
    ends = omega (arith, h.at, count, f.small, z)

    pub many : w'.at * 4 ≤ 8192
    many = omega (arith, ends, f.small)

    front : take (w'.at * 4) w'.words.now ≡ written
    front =
        let left = drop (0 + length written) w.words.now in
        let e : w'.words.now ≡ written ++ left =
        h.words (omega (arith, count, f.small, z)) ∙ ap (λ (k : ℕ). sets w.words.now (k * 4) written) z
        ∙ sets-eq written w.words.now 0 (omega (arith, long, f.small, room)) in
        ap (take (w'.at * 4)) e ∙ take_at written left (w'.at * 4) (omega (arith, long, ends))

    pub within : w'.at * 4 ≤ length w'.words.now
    within = omega (
      arith,
      many,
      ap length (h.words (omega (arith, count, f.small, z))) ∙ length-sets w.words.now (w.at * 4) written,
      room,
    )

    own : written ≡ sets written 0 written
    own = sym (sets-eq written written 0 (omega arith) ∙ ap (λ (x : List ℕ). written ++ x) (drop_of_length-le {A = ℕ} written (omega arith))
        ∙ append-nil written)

    pub ready : {k : ℕ} → k ≡ w'.at * 4 → Begun pool table (take k w'.words.now) ds
    ready j = rw (j, front) (record {
      held = let e : 0 + sum_of sizeCon ds ≡ length written / 4 = omega (arith, long) in
          subst (λ (k : ℕ). IsCons written 0 k ds) e
          (written-cons pool table written written 0 ds own (omega (arith, long)) (cons-weaker pool table ds f.good));
      sound = record { good = f.good; flat = f.flat };
      short = omega (arith, long, f.small);
      admitted = record { good = f.good; small = f.small };
    })

-- ══ What its answer says ══

solved≢unsolved : {b n k r j : ℕ} → solved b n k ≡ unsolved r j → ⊥
solved≢unsolved e = cc

solved≢refused : {b n k r j : ℕ} → solved b n k ≡ refusedAfter r j → ⊥
solved≢refused e = cc

unsolved≢refused : {k r i j : ℕ} → unsolved i k ≡ refusedAfter r j → ⊥
unsolved≢refused e = cc

accepted-no : (a : Answer ℕ) (b n k : ℕ) → solved b n k ≡ solvedOf (got a) → got false ≡ remains a
unfolding solvedOf remains
accepted-no (accepted bs ns j) b n k e = refl
accepted-no (remaining cs j) b n k e = absurd (solved≢unsolved e)
accepted-no (stopped i j) b n k e = absurd (solved≢refused e)

remaining-yes : (a : Answer ℕ) (r k : ℕ) → unsolved r k ≡ solvedOf (got a) → got true ≡ remains a
unfolding solvedOf remains
remaining-yes (accepted bs ns j) r k e = absurd (solved≢unsolved (sym e))
remaining-yes (remaining cs j) r k e = refl
remaining-yes (stopped i j) r k e = absurd (unsolved≢refused e)

stopped-as : (a : Answer ℕ) (n k : ℕ) → refusedAfter n k ≡ solvedOf (got a) → refused n ≡ remains a
unfolding solvedOf remains
stopped-as (accepted bs ns j) n k e = absurd (solved≢refused (sym e))
stopped-as (remaining cs j) n k e = absurd (unsolved≢refused (sym e))
stopped-as (stopped i j) n k e = cc

-- the answer of solving a part, as the code tells it
module _ (ν : Names ℕ) (ls : List (Line ℕ)) (s : Solution) (e : toldSolution s ≡ solvedOf (got (solve ν bounded (wideOf ls)))) where
  abbrev answer : Answer ℕ
  answer = solve ν bounded (wideOf ls)

  told-as : (o : Result Finish Refusal) → s.outcome ≡ o → toldOutcome o s.rounds ≡ solvedOf (got answer)
  told-as o i = sym (ap (λ (x : Result Finish Refusal). toldOutcome x s.rounds) i) ∙ e

  pub not-refused : (b n : ℕ) → s.outcome ≡ Ok (finish.Solved b n) → got false ≡ conflicting ν ls
  unfolding conflicting
  not-refused b n i = accepted-no answer b n s.rounds (told-as (Ok (finish.Solved b n)) i)

  pub is-refused : (n : ℕ) → s.outcome ≡ Ok (finish.Unsolved n) → got true ≡ conflicting ν ls
  unfolding conflicting
  is-refused n i = remaining-yes answer n s.rounds (told-as (Ok (finish.Unsolved n)) i)

  pub stops : (k : Refusal) → s.outcome ≡ Err k → refused (number_of k) ≡ conflicting ν ls
  unfolding conflicting
  stops k i = stopped-as answer (number_of k) s.rounds (told-as (Err k) i)
