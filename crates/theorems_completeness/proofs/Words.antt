-- The theorems for the call on words: a set that is solved has passed the checks at entry.
use Rattle.std.proofs.Math.Path.{◌≡◌, refl, ap, sym, subst}
use Rattle.std.proofs.Common.{◌∙◌, inl, arith}
use Rattle.std.specs.Prelude.{Bool, ◌&&◌, List, ℕ, ◌≤◌}
use Rattle.std.proofs.Math.Bool.{true}
use Rattle.std.proofs.Math.Logic.{inr}
use borrow.Author.Tests.{leb-true}
use Rattle.std.proofs.Math.Dec.{leb}
use Rattle.std.proofs.Math.ListN.{length}
use Rattle.rules.specs.Base.{Got, got, refused, ◌>>◌, need, bounded, all, collect, sum_of}
use Rattle.rules.specs.Trees.{Names, Con, Binding, opensCon, sizeBinding, sizeCon}
use Rattle.rules.specs.Names.{Table, table_of, tableGood, numbersOf, is_held, lentTable}
use Rattle.rules.specs.Contents.{unmixed}
use Rattle.rules.specs.Solving.{Answer, accepted, remaining, stopped, solve}
use Rattle.rules.specs.Choices.{dimensional, Choosing, wide, ChoosingWide}
use Rattle.rules.specs.WellFormed.{goodCon}
use Rattle.rules.specs.Calls.{
  lentResult,
  lentWork,
  lent,
  shortLists,
  tableKept,
  setGiven,
  apart,
  resultAfter,
  solved,
  unsolved,
  refusedAfter,
  solvedOf,
  solvedWords,
  solvedSet,
  solveCall,
}
use Rattle.laws.specs.Order.{Lawful, Tells}
use Rattle.laws.proofs.Checks.{need-passed}
use Rattle.laws.proofs.NameTable.{held-apart}
use Rattle.laws.proofs.ByteOrder.{numbered-lawful}
use Rattle.laws.proofs.Given.{lent-long, set-read}
use Rattle.laws.proofs.Refusing.{Refuses, given as fine, needs, onward}
use Rattle.laws.specs.Exact.{OfLimits}
use Rattle.laws.specs.Lists.{and_left}
use Rattle.laws.proofs.Lists.{got≢refused, bound-step}
use Rattle.theorems_completeness.specs.Claims.{◌⇔◌, DimensionSet, AllChoices, Excepted, Unsolved, Told, Complete, WideSet, AllWideChoices, WideComplete}
use Rattle.theorems_completeness.proofs.Trees.{
  only-limits,
  none_left,
  all-choices,
  some-choice,
  wide-sides,
  dims-only-limits,
  dims-none-left,
  dims-all-choices,
  dims-some-choice,
}

-- ══ The checks at entry ══

-- what the checks at entry say of a set that is solved
pub record Checked (pool table set : List ℕ) (cs : List (Con ℕ)) : Type 0 where
  pub lawful : Lawful (numbersOf (table_of pool table)).order
  pub tells : Tells (λ n. is_held (table_of pool table) n ≡ true) (numbersOf (table_of pool table)).order
  pub well-formed : all (goodCon (numbersOf (table_of pool table)) (is_held (table_of pool table)) 0) cs ≡ true
  pub few : length cs ≤ 2048

-- what is known of a set's solving, once the checks have passed: C, that there is a choice; All, what an accepted answer's bindings say of choices
pub record Known (pool table set : List ℕ) (cs : List (Con ℕ)) (C : Type 0) (All : List (Binding ℕ) → Type 0) : Type 0 where
  pub only : Checked pool table set cs → (n k : ℕ) → solve (numbersOf (table_of pool table)) bounded cs ≡ stopped n k → OfLimits n
  pub none : Checked pool table set cs → (rs : List (Con ℕ)) (k : ℕ) → solve (numbersOf (table_of pool table)) bounded cs ≡ remaining rs k → C → ⊥
  pub every : Checked pool table set cs → (bs : List (Binding ℕ)) (ns : List ℕ) (k : ℕ)
      → solve (numbersOf (table_of pool table)) bounded cs ≡ accepted bs ns k → All bs
  pub some : Checked pool table set cs → (bs : List (Binding ℕ)) → All bs → C

module _ (pool table set : List ℕ) (cs : List (Con ℕ)) (read : setGiven (table_of pool table) set ≡ got cs) where
  abbrev t : Table
  t = table_of pool table

  abbrev ν : Names ℕ
  ν = numbersOf t

  abbrev held : ℕ → Bool
  held = is_held t

  module _ (result work : List ℕ) where
    abbrev call : Got (Answer ℕ)
    call = lent pool table result work >> solvedSet t set

    lent-refuses : Refuses Excepted (lent pool table result work)
    unfolding lent lentTable lentResult lentWork
    lent-refuses =
        onward (onward (needs (leb 8192 (length pool) && leb 257 (length table)) 10 ten)
        (λ u e. needs (leb 8192 (length result)) 10 ten))
        (λ u e. needs (leb 16384 (length work)) 10 ten)
      where
        ten : Excepted 10
        ten = inr (inr (inr (inr refl)))

    set-refuses : Refuses Excepted (solvedSet t set)
    unfolding solvedSet shortLists tableKept apart all
    set-refuses =
        onward (needs (leb (length set) 8192 && true) 8 (inr (inr (inr (inl refl))))) (λ u e.
        onward (needs (tableGood t) 1 (inl refl)) (λ u e.
        onward (record { only = λ n e. absurd (got≢refused (sym read ∙ e)) }) (λ ds e.
        onward (needs (unmixed ν (collect opensCon ds)) 4 (inr (inl refl))) (λ u e. fine))))

    call-refuses : Refuses Excepted call
    call-refuses = onward lent-refuses (λ u e. set-refuses)

    record Passed (a : Answer ℕ) : Type 0 where
      checked : Checked pool table set cs
      is : a ≡ solve ν bounded cs

    passed : (a : Answer ℕ) → call ≡ got a → Passed a
    unfolding lent solvedSet shortLists tableKept apart all
    passed a e =
        let b = bound-step (lent pool table result work) _ a e in
        let c = bound-step (lentTable pool table >> lentResult result) _ b.0 b.1 in
        let d = bound-step (lentTable pool table) _ c.0 c.1 in
        let f = bound-step (need (leb (length set) 8192 && true) 8) _ a b.2 in
        let g = bound-step (need (tableGood t) 1) _ a f.2 in
        let h = bound-step (setGiven t set) _ a g.2 in
        let same : h.0 ≡ cs = let z : got h.0 ≡ got cs = sym h.1 ∙ read in cc in
        let i = bound-step (need (unmixed ν (collect opensCon h.0)) 4) _ a h.2 in
        let l = lent-long pool table d.0 d.1 in
        let short : length set ≤ 8192 = leb-true (length set) 8192
        (and_left (leb (length set) 8192) true (need-passed (leb (length set) 8192 && true) 8 f.1)) in
        let r = set-read t set cs read in
        record {
          checked = record {
            lawful = numbered-lawful _;
            tells = held-apart pool table (record { bytes = l.0; words = l.1; good = need-passed (tableGood t) 1 g.1 });
            well-formed = r.0;
            few = omega (arith, r.1);
          };
          is = let z : solve ν bounded h.0 ≡ a = cc i.2 in sym z ∙ ap (solve ν bounded) same;
        }

    -- ══ What the call answers ══

    excepted : (n : ℕ) → OfLimits n → Excepted n
    excepted n (inl e) = inr (inr (inl e))
    excepted n (inr e) = inr (inr (inr (inl e)))

    module _ (C : Type 0) (All : List (Binding ℕ) → Type 0) (known : Known pool table set cs C All) where
      stopped-excepted : (n k : ℕ) → call ≡ got (stopped n k) → Excepted n
      stopped-excepted n k e = let p = passed (stopped n k) e in excepted n (known.only p.checked n k (sym p.is))

      pub refusals : (n k : ℕ) → (solveCall pool table set result work).answer ≡ refusedAfter n k → Excepted n
      unfolding solveCall solvedOf
      refusals n k e = go call refl e
        where
          go : (m : Got (Answer ℕ)) → call ≡ m → solvedOf m ≡ refusedAfter n k → Excepted n
          go (refused j) i h = subst Excepted (cc) (call-refuses.only j i)
          go (got (accepted bs ns j)) i h = absurd (cc)
          go (got (remaining rs j)) i h = absurd (cc)
          go (got (stopped m j)) i h = subst Excepted (cc) (stopped-excepted m j i)

      pub five : ((n k : ℕ) → (solveCall pool table set result work).answer ≡ refusedAfter n k → Excepted n → ⊥)
          → Unsolved (solveCall pool table set result work).answer ⇔ (C → ⊥)
      unfolding solveCall solvedOf
      five none-of-these = go call refl none-of-these
        where
          go : (m : Got (Answer ℕ)) → call ≡ m → ((n k : ℕ) → solvedOf m ≡ refusedAfter n k → Excepted n → ⊥) → Unsolved (solvedOf m) ⇔ (C → ⊥)
          go (refused n) i f = absurd (f n 0 refl (call-refuses.only n i))
          go (got (accepted bs ns k)) i f =
              let p = passed (accepted bs ns k) i in
              (λ u. absurd u, λ n. absurd (n (known.some p.checked bs (known.every p.checked bs ns k (sym p.is)))))
          go (got (remaining rs k)) i f = let p = passed (remaining rs k) i in (λ u. known.none p.checked rs k (sym p.is), λ n. tt)
          go (got (stopped n k)) i f = absurd (f n k refl (stopped-excepted n k i))

      pub accepts : (r b k : ℕ) → (solveCall pool table set result work).answer ≡ solved r b k → Told pool table set result work All r b
      unfolding solveCall solvedOf solvedWords resultAfter
      accepts r b k e = go call refl
        where
          go : (m : Got (Answer ℕ)) → call ≡ m → Told pool table set result work All r b
          go (refused n) i = let z : refusedAfter n 0 ≡ solved r b k = rw i at e in absurd (cc)
          go (got (remaining rs j)) i = let z : unsolved (sum_of sizeCon rs) j ≡ solved r b k = rw i at e in absurd (cc)
          go (got (stopped n j)) i = let z : refusedAfter n j ≡ solved r b k = rw i at e in absurd (cc)
          go (got (accepted bs ns j)) i =
              let z : solved (sum_of sizeBinding bs) (length ns) j ≡ solved r b k = rw i at e in
              let p = passed (accepted bs ns j) i in
              record { bs = bs; ns = ns; written = rw i; binding-records = cc; bound-records = cc; choices = known.every p.checked bs ns j (sym p.is) }

-- ══ Sets of dimensions, and wide sets ══

module _ (pool table set : List ℕ) (cs : List (Con ℕ)) (read : setGiven (table_of pool table) set ≡ got cs) where
  module _ (dims : all dimensional cs ≡ true) (result work : List ℕ) where
    dimension-set : Checked pool table set cs → DimensionSet (numbersOf (table_of pool table)) (is_held (table_of pool table)) cs
    dimension-set p = record { well-formed = p.well-formed; dimensions = dims; few = p.few }

    of-dimensions : Known pool table set cs (Choosing (numbersOf (table_of pool table)).same cs) (AllChoices (numbersOf (table_of pool table)) cs)
    of-dimensions = record {
      only = λ p. dims-only-limits _ _ p.lawful p.tells cs (dimension-set p);
      none = λ p. dims-none-left _ _ p.lawful p.tells cs (dimension-set p);
      every = λ p. dims-all-choices _ _ p.lawful p.tells cs (dimension-set p);
      some = λ p. dims-some-choice _ _ p.lawful p.tells cs (dimension-set p);
    }

    pub complete : Complete pool table set result work cs
    complete = record {
      refusals = refusals pool table set cs read result work _ _ of-dimensions;
      five = five pool table set cs read result work _ _ of-dimensions;
      accepts = accepts pool table set cs read result work _ _ of-dimensions;
    }

  module _ (sides : all wide cs ≡ true) (result work : List ℕ) where
    wide-set : Checked pool table set cs → WideSet (numbersOf (table_of pool table)) (is_held (table_of pool table)) cs
    wide-set p = record { well-formed = p.well-formed; sides = sides }

    of-sides : Known pool table set cs (ChoosingWide (numbersOf (table_of pool table)).same cs) (AllWideChoices (numbersOf (table_of pool table)) cs)
    of-sides = record {
      only = λ p. only-limits _ _ true p.lawful p.tells cs p.well-formed (wide-sides _ _ cs (wide-set p));
      none = λ p. none_left _ _ true p.lawful p.tells cs p.well-formed (wide-sides _ _ cs (wide-set p));
      every = λ p. all-choices _ _ true p.lawful p.tells cs p.well-formed (wide-sides _ _ cs (wide-set p));
      some = λ p. some-choice _ _ true p.lawful p.tells cs p.well-formed (wide-sides _ _ cs (wide-set p));
    }

    pub wide-complete : WideComplete pool table set result work cs
    wide-complete = record {
      refusals = refusals pool table set cs read result work _ _ of-sides;
      five = five pool table set cs read result work _ _ of-sides;
      accepts = accepts pool table set cs read result work _ _ of-sides;
    }
