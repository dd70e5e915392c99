-- What the call answers, from what its parts leave behind.
use Rattle.std.specs.Prelude.{◌≡◌, ◌&&◌, List, ℕ, ◌+◌, ◌/◌, ◌≤◌, length, take, drop, Ok, Err}
use Rattle.std.proofs.Common.{◌∙◌, arith, take_at}
use borrow.Author.Tests.{leb-true}
use Rattle.std.proofs.Math.Dec.{leb}
use Rattle.std.proofs.lemmas.List.Edits.{sets, sets-eq}
use Rattle.rules.specs.Base.{got, refused, ◌>>◌, need}
use Rattle.rules.specs.Names.{table_of, tableGood, lentTable}
use Rattle.rules.specs.Refusals.{number_of}
use Rattle.rules.specs.Writing.{words}
use Rattle.rules.specs.Calls.{tableKept, resultAfter}
use Rattle.rules.specs.declared.Refusal.{Refusal}
use Rattle.laws.proofs.Answers.{over-is}
use Rattle.laws.proofs.Checks.{need-passed, first-passed, next-passed}
use Rattle.laws.specs.Lists.{and_left, and_right}
use Rattle.laws.specs.NameTable.{Good}
use Rattle.laws.proofs.Size.{words-length}
use Rattle.rules.specs.Rescue.{Piece, words_in, piecesIn, keptIn, placesIn, rescueGiven, rescueCall}
use Rattle.rescue.specs.Told.{rescuedAs, keptBytes, Walked, Noted, Took}
use Rattle.rescue.proofs.Steps.{bytes-length, torn-behind, torn-few}
use Rattle.rescue.specs.declared.Counts.{Counts}

-- what was filled from the front stands there
pub front : (d v : List ℕ) (n : ℕ) → length v ≡ n → n ≤ length d → take n (sets d 0 v) ≡ v
front d v n e h = rw (sets-eq v d 0 (omega arith)) (take_at v (drop (0 + length v) d) n e)

pub took : (ps : List Piece) (file kept kept' skipped first skipped' : List ℕ) (c : Counts) (m : ℕ) → Walked ps kept kept' skipped first c
    → Noted file c.skipped first skipped' m
    → Took ps file kept kept' skipped skipped' (record { kept = c.kept; skipped = m })
took ps file kept kept' skipped first skipped' c m w n =
    let b = torn-behind file skipped c.skipped ps first skipped' m w.few w.places n in
    record {
      bytes = w.bytes;
      places = b.0;
      many = w.many;
      few = b.1;
      fits = omega (arith, w.within);
      room = omega (arith, w.within, n.few, torn-few file);
    }

module _ (pool table file : List ℕ) where
  -- what the checks say
  pub record Given (k m : ℕ) : Type 0 where
    pub good : Good pool table
    pub short : length file / 16 ≤ 2048
    pub kept : 32_768 ≤ k
    pub skipped : 2_049 ≤ m

  pub given-good : (k m : ℕ) → rescueGiven pool table file k m ≡ got tt → Given k m
  unfolding rescueGiven lentTable tableKept
  given-good k m e =
      let lent = leb 8192 (length pool) && leb 257 (length table) in
      let room = leb 32_768 k && leb 2_049 m in
      let short = leb (length file / 16) 2_048 in
      let held = tableGood (table_of pool table) in
      let last = need held 1 in
      let e₁ = next-passed (need room 10 >> (need short 8 >> last)) tt (need lent 10) e in
      let e₂ = next-passed (need short 8 >> last) tt (need room 10) e₁ in
      let e₃ = next-passed last tt (need short 8) e₂ in
      let a = need-passed lent 10 (first-passed (need room 10 >> (need short 8 >> last)) tt (need lent 10) e) in
      let b = need-passed room 10 (first-passed (need short 8 >> last) tt (need room 10) e₁) in
      record {
        good = record {
          bytes = leb-true 8192 (length pool) (and_left (leb 8192 (length pool)) (leb 257 (length table)) a);
          words = leb-true 257 (length table) (and_right (leb 8192 (length pool)) (leb 257 (length table)) a);
          good = need-passed held 1 e₃;
        };
        short = leb-true (length file / 16) 2_048 (need-passed short 8 (first-passed last tt (need short 8) e₂));
        kept = leb-true 32_768 k (and_left (leb 32_768 k) (leb 2_049 m) b);
        skipped = leb-true 2_049 m (and_right (leb 32_768 k) (leb 2_049 m) b);
      }

  module _ (kept skipped : List ℕ) where
    pub rescue-refused : (r : Refusal) → rescueGiven pool table file (length kept) (length skipped) ≡ refused (number_of r)
        → rescuedAs (Err r) kept skipped ≡ rescueCall pool table file kept skipped
    unfolding rescueCall resultAfter
    rescue-refused r e = rw e

    pub rescue-given : (kept' skipped' : List ℕ) (r : Counts) → rescueGiven pool table file (length kept) (length skipped) ≡ got tt
        → Took (piecesIn (table_of pool table) (words_in file)) file kept kept' skipped skipped' r
        → rescuedAs (Ok r) kept' skipped' ≡ rescueCall pool table file kept skipped
    unfolding rescueCall resultAfter
    rescue-given kept' skipped' r e t =
        let ps = piecesIn (table_of pool table) (words_in file) in
        let g = given-good (length kept) (length skipped) e in
        let b = t.bytes ∙ over-is (keptBytes ps) kept (omega (arith, bytes-length (words (keptIn ps)), words-length (keptIn ps), t.many, t.fits, g.kept)) in
        let p = t.places ∙ over-is (placesIn ps file) skipped (omega (arith, t.few, t.room, g.skipped)) in
        rw (e, b, p, t.many, t.few)
