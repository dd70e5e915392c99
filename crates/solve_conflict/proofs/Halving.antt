-- Leaving out lines of a run of places, as the rules do it.
use Rattle.std.specs.Prelude.{
  Result,
  Ok,
  Err,
  ◌≡◌,
  Bool,
  true,
  false,
  List,
  [],
  ◌++◌,
  ◌⊎◌,
  ℕ,
  zero,
  suc,
  ◌+◌,
  ◌-◌,
  ◌/◌,
  ◌≤◌,
  ◌<◌,
  leb,
  length,
  take,
  drop,
  get_or,
}
use Rattle.std.proofs.Common.{ap, ap₂, sym, ◌∙◌, arith, append-nil, inl, inr}
use Rattle.std.proofs.Math.Seq.{take-append_seam, drop-append_seam}
use borrow.Author.Tests.{le-leb, lt-leb}
use Rattle.rules.specs.Base.{Got, got, refused, ◌>>=◌}
use Rattle.rules.specs.Conflicts.{Line, linesFrom, conflicting, leaveOut}
use Rattle.rules.specs.Refusals.{told, toldBy, number_of}
use Rattle.rules.specs.Trees.{Names, Con}
use Rattle.rules.specs.declared.Refusal.{Refusal}
use Rattle.solve_conflict.specs.Standing.{standing, On, Outside, Switched, before, behind, run, LeftOut}
use Rattle.solve_conflict.proofs.Marks.{
  lines-both,
  lines-long,
  stand-all,
  stand-none,
  stand-alike,
  run-long,
  few-before,
  before-both,
  behind-both,
  run-both,
  whole-both,
}

-- ══ The rules' steps ══

module _ {N : Type 0} (ν : Names N) (kept ls rest : List (Line N)) where
  -- what follows a test, and a line count
  abbrev halved : ℕ → Got (List (Line N))
  halved d = leaveOut ν d kept (take (length ls / 2) ls) (drop (length ls / 2) ls ++ rest) >>= λ more. leaveOut ν d more (drop (length ls / 2) ls) rest

  abbrev byLength : ℕ → Bool → Got (List (Line N))
  byLength d b = elim b [ true ↦ got (kept ++ ls) | false ↦ halved d ]

  abbrev byTest : ℕ → Got Bool → Got (List (Line N))
  byTest d m = m >>= λ r. elim r [ true ↦ got kept | false ↦ byLength d (leb (length ls) 1) ]

  abbrev atLast : Got Bool → Got (List (Line N))
  atLast m = m >>= λ r. elim r [ true ↦ got kept | false ↦ got (kept ++ ls) ]

  pub out-all : (d : ℕ) → conflicting ν (kept ++ rest) ≡ got true → leaveOut ν d kept ls rest ≡ got kept
  unfolding leaveOut
  out-all zero e = ap atLast e
  out-all (suc d) e = ap (byTest d) e

  pub out-refused : (d n : ℕ) → conflicting ν (kept ++ rest) ≡ refused n → leaveOut ν d kept ls rest ≡ refused n
  unfolding leaveOut
  out-refused zero n e = ap atLast e
  out-refused (suc d) n e = ap (byTest d) e

  pub out-kept : (d : ℕ) → conflicting ν (kept ++ rest) ≡ got false → (d ≡ 0) ⊎ (length ls ≤ 1) → leaveOut ν d kept ls rest ≡ got (kept ++ ls)
  unfolding leaveOut
  out-kept zero e h = ap atLast e
  out-kept (suc d) e (inl z) = absurd (omega (arith, z))
  out-kept (suc d) e (inr k) = ap (byTest d) e ∙ ap (byLength d) (le-leb (length ls) 1 k)

  pub out-halves : (d : ℕ) → conflicting ν (kept ++ rest) ≡ got false → 1 < length ls → leaveOut ν (suc d) kept ls rest ≡ halved d
  unfolding leaveOut
  out-halves d e k = ap (byTest d) e ∙ ap (byLength d) (lt-leb (length ls) 1 k)

-- ══ A run of places ══

module _ (ν : Names ℕ) (cs : List (Con ℕ)) (from to : ℕ) (le : from ≤ to) (fits : to ≤ length cs) where
  abbrev lines : List (Line ℕ)
  lines = linesFrom from (run cs from to)

  lines-many : length lines ≡ to - from
  lines-many = lines-long from (run cs from to) ∙ run-long cs from to le fits

  in-run : (j : ℕ) → j < from + length (run cs from to) → j < to
  in-run j h = omega (arith, run-long cs from to le fits, le, h)

  -- what marks outside the run leave as it is
  module _ (m m' : List Bool) (same : Outside from to m m') where
    pub same-before : before cs m' from ≡ before cs m from
    same-before = stand-alike m m' 0 (take from cs) (λ j a b. same j (inl (omega (arith, b, few-before cs from to le fits))))

    pub same-behind : behind cs m' to ≡ behind cs m to
    same-behind = stand-alike m m' to (drop to cs) (λ j a b. same j (inr a))

  pub outside-then : (m m₁ m₂ : List Bool) → Outside from to m m₁ → Outside from to m₁ m₂ → Outside from to m m₂
  outside-then m m₁ m₂ p q j h = q j h ∙ p j h

  -- marks under which none of the run stands, or all of it
  module _ (m m' : List Bool) (same : Outside from to m m') where
    module _ (off : (i : ℕ) → from ≤ i → i < to → get_or m' i false ≡ false) where
      none-here : standing m' from (run cs from to) ≡ []
      none-here = stand-none m' from (run cs from to) (λ j a b. off j a (in-run j b))

      off-before : before cs m' to ≡ before cs m from
      off-before = before-both cs from to le fits m' ∙ ap₂ ◌++◌ (same-before m m' same) none-here ∙ append-nil (before cs m from)

      off-whole : standing m' 0 cs ≡ before cs m from ++ behind cs m to
      off-whole =
          whole-both cs m' to fits
          ∙ ap₂ ◌++◌ off-before (same-behind m m' same)

    module _ (on : On from to m') where
      all-here : standing m' from (run cs from to) ≡ lines
      all-here = stand-all m' from (run cs from to) (λ j a b. on j a (in-run j b))

      on-before : before cs m' to ≡ before cs m from ++ lines
      on-before = before-both cs from to le fits m' ∙ ap₂ ◌++◌ (same-before m m' same) all-here

  -- ══ The run is tried without ══

  module _ (m m₁ : List Bool) (s : Switched from to false m m₁) (r : Result Bool Refusal) (tried : told r ≡ conflicting ν (standing m₁ 0 cs)) where
    abbrev tested : Got Bool
    tested = conflicting ν (before cs m from ++ behind cs m to)

    was : told r ≡ tested
    was = tried ∙ ap (conflicting ν) (off-whole m m₁ s.outside s.inside)

    pub left-refused : (d : ℕ) (k : Refusal) → r ≡ Err k → LeftOut cs ν d from to m m₁ (Err k)
    left-refused d k e = record {
      answer = sym (out-refused ν (before cs m from) lines (behind cs m to) d (number_of k) (sym was ∙ ap told e));
      outside = s.outside;
      long = s.long;
    }

    pub left-none : (d : ℕ) → r ≡ Ok true → LeftOut cs ν d from to m m₁ (Ok tt)
    left-none d e = record {
      answer = ap got (off-before m m₁ s.outside s.inside) ∙ sym (out-all ν (before cs m from) lines (behind cs m to) d (sym was ∙ ap told e));
      outside = s.outside;
      long = s.long;
    }

    -- it is needed, and stands again
    module _ (e : r ≡ Ok false) (m₂ : List Bool) (t : Switched from to true m₁ m₂) where
      abbrev same : Outside from to m m₂
      same = outside-then m m₁ m₂ s.outside t.outside

      needed : tested ≡ got false
      needed = sym was ∙ ap told e

      pub left-all : (d : ℕ) → (d ≡ 0) ⊎ (to - from ≤ 1) → LeftOut cs ν d from to m m₂ (Ok tt)
      left-all d h = record {
        answer = ap got (on-before m m₂ same t.inside) ∙ sym (out-kept ν (before cs m from) lines (behind cs m to) d needed (few h));
        outside = same;
        long = t.long ∙ s.long;
      }
        where
          few : (d ≡ 0) ⊎ (to - from ≤ 1) → (d ≡ 0) ⊎ (length lines ≤ 1)
          few (inl z) = inl z
          few (inr k) = inr (omega (arith, lines-many, k))

      -- it is more than one line: its halves
      module _ (d : ℕ) (big : 1 < to - from) where
        abbrev half : ℕ
        half = (to - from) / 2

        abbrev middle : ℕ
        middle = from + half

        up : from ≤ middle
        up = omega arith

        down : middle ≤ to
        down = omega (arith, le)

        in-fits : middle ≤ length cs
        in-fits = omega (arith, down, fits)

        abbrev first : List (Line ℕ)
        first = linesFrom from (run cs from middle)

        abbrev second : List (Line ℕ)
        second = linesFrom middle (run cs middle to)

        lines-first : length (run cs from middle) ≡ half
        lines-first = omega (arith, run-long cs from middle up in-fits)

        two : lines ≡ first ++ second
        two =
            let e : from + length (run cs from middle) ≡ middle = omega (arith, lines-first) in
            ap (linesFrom from) (run-both cs from to le fits middle up down) ∙ lines-both from (run cs from middle) (run cs middle to)
            ∙ ap (λ (k : ℕ). first ++ linesFrom k (run cs middle to)) e

        count-first : length lines / 2 ≡ length first
        count-first = omega (arith, lines-many, lines-long from (run cs from middle), lines-first)

        take-first : take (length lines / 2) lines ≡ first
        take-first = ap₂ (λ (k : ℕ) (xs : List (Line ℕ)). take k xs) count-first two ∙ take-append_seam first second

        drop-first : drop (length lines / 2) lines ≡ second
        drop-first = ap₂ (λ (k : ℕ) (xs : List (Line ℕ)). drop k xs) count-first two ∙ drop-append_seam first second

        abbrev kept : List (Line ℕ)
        kept = before cs m from

        abbrev rest : List (Line ℕ)
        rest = behind cs m to

        steps : leaveOut ν (suc d) kept lines rest ≡ (leaveOut ν d kept first (second ++ rest) >>= λ more. leaveOut ν d more second rest)
        steps =
            out-halves ν kept lines rest d needed (omega (arith, lines-many, big))
            ∙ ap₂ (λ (xs ys : List (Line ℕ)). leaveOut ν d kept xs (ys ++ rest) >>= λ more. leaveOut ν d more ys rest) take-first drop-first

        -- the first half
        module _ (m₃ : List Bool) (r₁ : Result (Unit {0}) Refusal) (a : LeftOut cs ν d from middle m₂ m₃ r₁) where
          second-all : standing m₂ middle (run cs middle to) ≡ second
          second-all =
              stand-all m₂ middle (run cs middle to)
              (λ j p q. t.inside j (omega (arith, p)) (omega (arith, q, run-long cs middle to down fits, down)))

          second-rest : behind cs m₂ middle ≡ second ++ rest
          second-rest = behind-both cs middle to down fits m₂ ∙ ap₂ ◌++◌ second-all (same-behind m m₂ same)

          first-half : toldBy (λ u. before cs m₃ middle) r₁ ≡ leaveOut ν d kept first (second ++ rest)
          first-half = a.answer ∙ ap₂ (λ (xs ys : List (Line ℕ)). leaveOut ν d xs first ys) (same-before m m₂ same) second-rest

          same₃ : Outside from to m m₃
          same₃ j h = a.outside j (wider h) ∙ same j h
            where
              wider : (j < from) ⊎ (to ≤ j) → (j < from) ⊎ (middle ≤ j)
              wider (inl p) = inl p
              wider (inr p) = inr (omega (arith, p, down))

          pub left-first : (k : Refusal) → r₁ ≡ Err k → LeftOut cs ν (suc d) from to m m₃ (Err k)
          left-first k i =
              let e : leaveOut ν d kept first (second ++ rest) ≡ refused (number_of k) = sym first-half ∙ ap (toldBy (λ u. before cs m₃ middle)) i in
              record {
                answer = sym (steps ∙ ap (λ (x : Got (List (Line ℕ))). x >>= λ more. leaveOut ν d more second rest) e);
                outside = same₃;
                long = a.long ∙ t.long ∙ s.long;
              }

          pub left-both : (u : Unit {0}) → r₁ ≡ Ok u → (m₄ : List Bool) (r₂ : Result (Unit {0}) Refusal) → LeftOut cs ν d middle to m₃ m₄ r₂
              → LeftOut cs ν (suc d) from to m m₄ r₂
          left-both u i m₄ r₂ b =
              let e : leaveOut ν d kept first (second ++ rest) ≡ got (before cs m₃ middle) = sym first-half ∙ ap (toldBy (λ u. before cs m₃ middle)) i in
              record {
                answer = b.answer ∙ ap (λ (ys : List (Line ℕ)). leaveOut ν d (before cs m₃ middle) second ys) (same-behind m m₃ same₃)
                    ∙ sym (steps ∙ ap (λ (x : Got (List (Line ℕ))). x >>= λ more. leaveOut ν d more second rest) e);
                outside = λ j h. b.outside j (narrower j h) ∙ same₃ j h;
                long = b.long ∙ a.long ∙ t.long ∙ s.long;
              }
            where
              narrower : (j : ℕ) → (j < from) ⊎ (to ≤ j) → (j < middle) ⊎ (to ≤ j)
              narrower j (inl p) = inl (omega (arith, p))
              narrower j (inr p) = inr p

pub deeper : {ν : Names ℕ} {cs : List (Con ℕ)} {h d from to : ℕ} {m m' : List Bool} {r : Result (Unit {0}) Refusal} → h ≡ suc d
    → LeftOut cs ν (suc d) from to m m' r → LeftOut cs ν h from to m m' r
deeper e l = rw e l
