-- What an answer of the call is worth: it has passed the checks at entry, and comes from leaving out lines.
use Rattle.std.specs.Prelude.{◌≡◌, refl, Bool, true, false, List, [], ◌∷◌, ◌++◌, map, ℕ, suc, ◌≤◌, leb, length}
use Rattle.std.proofs.Common.{ap, sym, subst, ◌∙◌, arith, append-nil}
use Rattle.std.proofs.Math.Option.{Option, some, none}
use mathlib.Core.List.{Memᴰ}
use borrow.Author.Tests.{leb-true}
use Rattle.rules.specs.Base.{Got, got, ◌>>=◌, ◌>>◌, all, keep, collect}
use Rattle.rules.specs.Calls.{lent, lentResult, shortLists, tableKept, setGiven, apart, resultAfter}
use Rattle.rules.specs.Choices.{wide, ChoosingWide}
use Rattle.rules.specs.Conflicts.{Line, linesFrom, conflicting, leaveOut, conflictIn, conflictOf, manyOf, conflictCall}
use Rattle.rules.specs.Names.{Table, table_of, tableGood, numbersOf, is_held, lentTable}
use Rattle.rules.specs.Trees.{Names, Con, opensCon}
use Rattle.rules.specs.WellFormed.{goodCon}
use Rattle.laws.proofs.ByteOrder.{numbered-lawful}
use Rattle.laws.proofs.NameTable.{held-apart}
use Rattle.laws.proofs.Checks.{need-passed}
use Rattle.laws.proofs.Given.{lent-long, set-read}
use Rattle.laws.specs.Lists.{all-is, and_left}
use Rattle.laws.proofs.Lists.{bound-step, One, one-step, some≢none, map-to}
use Rattle.laws.specs.Order.{Lawful, Tells}
use Rattle.solve_conflict.specs.Theorems.{PartOf, ConflictTold, NoneTold, ConflictsAreTold, NoneOnlyWithChoice}
use Rattle.solve_conflict.proofs.Marks.{lines-long}
use Rattle.solve_conflict.proofs.Needed.{Good, Empty, Out, span, out-of, yes-empty, no-choice, conflict-of}

lines-cons : (i : ℕ) (cs : List (Con ℕ)) → map (λ (l : Line ℕ). l.1) (linesFrom i cs) ≡ cs
unfolding linesFrom
lines-cons i [] = refl
lines-cons i (c ∷ cs) = ap (c ∷◌) (lines-cons (suc i) cs)

module _ (pool table set result work : List ℕ) where
  abbrev t : Table
  t = table_of pool table

  abbrev ν : Names ℕ
  ν = numbersOf t

  abbrev held : ℕ → Bool
  held = is_held t

  abbrev room : Got (Unit {0})
  room = lent pool table result work

  -- a set that passed the checks at entry, and what was found in it
  record Passed (o : Option (List (Line ℕ))) : Type 0 where
    cs : List (Con ℕ)
    read : setGiven t set ≡ got cs
    lawful : Lawful ν.order
    tells : Tells (λ n. held n ≡ true) ν.order
    well : all (goodCon ν held 0) cs ≡ true
    few : length cs ≤ 2048
    found : conflictIn ν cs ≡ got o

  passed : (o : Option (List (Line ℕ))) → (room >> conflictOf t set) ≡ got o → Passed o
  unfolding lent conflictOf shortLists tableKept all
  passed o e =
      let a = bound-step room (λ u. conflictOf t set) o e in
      let b = bound-step (lentTable pool table >> lentResult result) _ a.0 a.1 in
      let c = bound-step (lentTable pool table) _ b.0 b.1 in
      let d = bound-step (shortLists (set ∷ [])) _ o a.2 in
      let f = bound-step (tableKept t) _ o d.2 in
      let g = bound-step (setGiven t set) _ o f.2 in
      let h = bound-step (apart t (collect opensCon g.0)) _ o g.2 in
      let l = lent-long pool table c.0 c.1 in
      let short : length set ≤ 8192 = leb-true (length set) 8192 (and_left (leb (length set) 8192) true (need-passed _ 8 d.1)) in
      let r = set-read t set g.0 g.1 in
      record {
        cs = g.0;
        read = g.1;
        lawful = numbered-lawful _;
        tells = held-apart pool table (record { bytes = l.0; words = l.1; good = need-passed (tableGood t) 1 f.1 });
        well = r.0;
        few = omega (arith, r.1, short);
        found = h.2;
      }

  module _ (o : Option (List (Line ℕ))) (p : Passed o) where
    abbrev lines : List (Line ℕ)
    lines = linesFrom 0 p.cs

    good-lines : Good ν held p.lawful p.tells lines
    good-lines l m =
        all-is (goodCon ν held 0) p.cs p.well l.1 (subst (λ (zs : List (Con ℕ)). Memᴰ l.1 zs) (lines-cons 0 p.cs) (map-to (λ (l : Line ℕ). l.1) lines l m))

    -- the first test
    none-left : o ≡ none → ChoosingWide ν.same (keep wide p.cs)
    unfolding conflictIn
    none-left i = go s.0 s.1 s.2
      where
        s : (r : Bool) × (conflicting ν lines ≡ got r) × (elim r [ true ↦ leaveOut ν 11 [] lines [] >>= λ ls. got (some ls) | false ↦ got none ] ≡ got o)
        s = bound-step (conflicting ν lines) (λ r. elim r [ true ↦ leaveOut ν 11 [] lines [] >>= λ ls. got (some ls) | false ↦ got none ]) o p.found

        go : (r : Bool) → conflicting ν lines ≡ got r → elim r [ true ↦ leaveOut ν 11 [] lines [] >>= λ ls. got (some ls) | false ↦ got none ] ≡ got o
            → ChoosingWide ν.same (keep wide p.cs)
        go true e h = let v = one-step (leaveOut ν 11 [] lines []) some o h in absurd (some≢none (v.is ∙ i))
        go false e h =
            subst (λ (zs : List (Con ℕ)). ChoosingWide ν.same (keep wide zs)) (lines-cons 0 p.cs) (no-choice ν held p.lawful p.tells lines good-lines e)

    some-left : (ls : List (Line ℕ)) → o ≡ some ls → Out ν held p.lawful p.tells [] lines [] ls
    unfolding conflictIn span
    some-left ls i = go s.0 s.1 s.2
      where
        s : (r : Bool) × (conflicting ν lines ≡ got r) × (elim r [ true ↦ leaveOut ν 11 [] lines [] >>= λ ls. got (some ls) | false ↦ got none ] ≡ got o)
        s = bound-step (conflicting ν lines) (λ r. elim r [ true ↦ leaveOut ν 11 [] lines [] >>= λ ls. got (some ls) | false ↦ got none ]) o p.found

        whole : lines ++ [] ≡ lines
        whole = append-nil lines

        go : (r : Bool) → conflicting ν lines ≡ got r → elim r [ true ↦ leaveOut ν 11 [] lines [] >>= λ ls. got (some ls) | false ↦ got none ] ≡ got o
            → Out ν held p.lawful p.tells [] lines [] ls
        go false e h = absurd (some≢none (let z : none ≡ o = cc in sym i ∙ sym z))
        go true e h =
            let v = one-step (leaveOut ν 11 [] lines []) some o h in
            let z : v.value ≡ ls = (let y : some v.value ≡ some ls = v.is ∙ i in cc) in
            let empty = yes-empty ν held p.lawful p.tells lines good-lines e in
            let many : length lines ≤ 2048 = omega (arith, lines-long 0 p.cs, p.few) in
            out-of ν held p.lawful p.tells 11 [] lines [] ls
            (λ l m. good-lines l (subst (λ (zs : List (Line ℕ)). Memᴰ l zs) whole m))
            (subst (λ (zs : List (Line ℕ)). Empty ν held p.lawful p.tells zs) (sym whole) empty)
            many (v.gave ∙ ap got z)

  told : (many : ℕ) → (conflictCall pool table set result work).answer ≡ got (some many) → ConflictTold pool table set result work many
  unfolding conflictCall resultAfter
  told many e = go v.value v.gave v.is
    where
      v : One (room >> conflictOf t set) (some many) manyOf
      v = one-step (room >> conflictOf t set) manyOf (some many) e

      go : (o : Option (List (Line ℕ))) → (room >> conflictOf t set) ≡ got o → manyOf o ≡ some many → ConflictTold pool table set result work many
      go none i h = absurd (some≢none (sym h))
      go (some ls) i h =
          let p = passed (some ls) i in
          let out = some-left (some ls) p ls refl in
          record {
            cs = p.cs;
            lines = ls;
            read = p.read;
            part = subst (λ (zs : List (Line ℕ)). PartOf zs (linesFrom 0 p.cs)) (sym out.is) out.part;
            written = rw i refl;
            counted = cc;
            conflict = conflict-of ν held p.lawful p.tells _ ls out;
          }

  none-told : (conflictCall pool table set result work).answer ≡ got none → NoneTold pool table set result work
  unfolding conflictCall
  none-told e = go v.value v.gave v.is
    where
      v : One (room >> conflictOf t set) none manyOf
      v = one-step (room >> conflictOf t set) manyOf none e

      go : (o : Option (List (Line ℕ))) → (room >> conflictOf t set) ≡ got o → manyOf o ≡ none → NoneTold pool table set result work
      go (some ls) i h = absurd (some≢none h)
      go none i h = let p = passed none i in record { cs = p.cs; read = p.read; choice = none-left none p refl }

pub conflicts-told : ConflictsAreTold
conflicts-told pool table set result work many e = told pool table set result work many e

pub only-with-choice : NoneOnlyWithChoice
only-with-choice pool table set result work e = none-told pool table set result work e
