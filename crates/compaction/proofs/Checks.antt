-- The checks of compaction, set by set.
use Rattle.std.specs.Prelude.{◌≡◌, Bool, not, ◌&&◌, ℕ, ◌+◌, ◌*◌, ◌-◌, ◌/◌, ◌%◌, ◌≤◌, ◌<◌, length, take, drop, get_or}
use Rattle.std.proofs.Math.Path.{refl, sym, ap}
use Rattle.std.proofs.Common.{◌∙◌, arith, add-one, drop-cons, drop-drop, length-take-le}
use Rattle.std.proofs.Math.Bool.{true, false, and-false}
use mathlib.Core.List.{List, ◌∷◌}
use Rattle.std.proofs.Math.Dec.{eqb, leb}
use borrow.Author.Tests.{leb-true, le-leb, lt-leb, eq-eqb, ne_eqb, eqb-true, eqb-false, not-true, not-false}
use Rattle.std.proofs.Math.ListN.{drop_of_length-le, length-drop}
use Rattle.rules.specs.Base.{Got, got, refused, ◌>>=◌, ◌>>◌, need, all, sum_of}
use Rattle.rules.specs.Batches.{cutSets}
use Rattle.rules.specs.Calls.{setGiven, tableKept}
use Rattle.rules.specs.Names.{Table, table_of, tableGood, lentTable}
use Rattle.rules.specs.Reading.{readCon}
use Rattle.rules.specs.Trees.{Con}
use Rattle.laws.specs.Lists.{and_left, and_right}
use Rattle.laws.proofs.Lists.{clash}
use Rattle.laws.specs.NameTable.{Good}
use Rattle.records.specs.Found.{Words32}
use Rattle.records.specs.Good.{Chained, goodCon, GoodCon}
use Rattle.records.proofs.Given.{list-told, con-reader}
use Rattle.compaction.specs.Told.{metSet, metSets}
use Rattle.rules.specs.Compaction.{eachGiven, compactChecks}

-- ══ Few and short sets: 8 ══

abbrev short : ℕ → Bool
short n = leb n 2048

module _ (lengths : List ℕ) where
  pub few-not : 64 < length lengths → false ≡ (leb (length lengths) 64 && all (λ n. leb n 2048) lengths)
  few-not h = sym (ap (◌&& all (λ n. leb n 2048) lengths) (lt-leb (length lengths) 64 h))

  module _ (i : ℕ) (more : i < length lengths) where
    here : all short (drop i lengths) ≡ (short (get_or lengths i 0) && all short (drop (i + 1) lengths))
    unfolding all
    here = rw (add-one i) (ap (all short) (drop-cons lengths i 0 more))

    pub few-step : get_or lengths i 0 ≤ 2048 → all (λ n. leb n 2048) (drop (i + 1) lengths) ≡ all (λ n. leb n 2048) (drop i lengths)
    few-step h = sym (here ∙ ap (◌&& all short (drop (i + 1) lengths)) (le-leb (get_or lengths i 0) 2048 h))

    pub few-large : 2048 < get_or lengths i 0 → all (λ n. leb n 2048) (drop i lengths) ≡ all (λ n. leb n 2048) lengths
        → false ≡ (leb (length lengths) 64 && all (λ n. leb n 2048) lengths)
    few-large h e =
        let z : all short (drop i lengths) ≡ false = here ∙ ap (◌&& all short (drop (i + 1) lengths)) (lt-leb (get_or lengths i 0) 2048 h) in
        sym (ap (leb (length lengths) 64 &&◌) (sym e ∙ z) ∙ and-false (leb (length lengths) 64))

  pub few-end : (i : ℕ) → length lengths ≤ 64 → length lengths ≤ i → all (λ n. leb n 2048) (drop i lengths) ≡ all (λ n. leb n 2048) lengths
      → true ≡ (leb (length lengths) 64 && all (λ n. leb n 2048) lengths)
  unfolding all
  few-end i h k e = sym (rw (le-leb (length lengths) 64 h, ← e, drop_of_length-le lengths {i = i} k))

-- ══ Sets one after another: 1 ══

pub set-met : (pool table ws : List ℕ) → Words32 ws → length ws % 4 ≡ 0 → (b : Bool) → Chained (GoodCon pool table 0 ws) (length ws / 4) 0 b
    → need b 1 ≡ metSet (table_of pool table) ws
unfolding setGiven
set-met pool table ws w z b h =
    ap (λ (a : Bool). need (a && b) 1) (sym (eq-eqb (length ws % 4) 0 z))
    ∙ sym (list-told ws readCon (goodCon pool table 0) (GoodCon pool table 0 ws) (con-reader pool table ws w) b h)

eqb_same : (a b c d : ℕ) → (a ≡ b → c ≡ d) → (c ≡ d → a ≡ b) → eqb a b ≡ eqb c d
eqb_same a b c d f g = go (eqb a b) refl
  where
    go : (t : Bool) → eqb a b ≡ t → eqb a b ≡ eqb c d
    go true e = e ∙ sym (eq-eqb c d (f (eqb-true a b e)))
    go false e = e ∙ sym (ne_eqb c d (λ q. eqb-false a b e (g q)))

refused-both : (b : Bool) (m : Got (Unit {0})) → m ≡ refused 1 → (need b 1 >> m) ≡ refused 1
refused-both true m e = e
refused-both false m e = refl

module _ (t : Table) (n : ℕ) (ns ws : List ℕ) where
  abbrev sum : ℕ
  sum = sum_of (λ n. n) ns

  sum-rest : n * 4 ≤ length ws → eqb ((n + sum) * 4) (length ws) ≡ eqb (sum * 4) (length (drop (n * 4) ws))
  sum-rest h =
      let e = length-drop (n * 4) ws in
      eqb_same ((n + sum) * 4) (length ws) (sum * 4) (length (drop (n * 4) ws)) (λ q. omega arith) (λ q. omega arith)

  pub met-step : n * 4 ≤ length ws → metSet t (take (n * 4) ws) ≡ got tt → metSets t (n ∷ ns) ws ≡ metSets t ns (drop (n * 4) ws)
  unfolding eachGiven cutSets
  met-step h e = go (setGiven t (take (n * 4) ws)) e
    where
      go : (m : Got (List (Con ℕ))) → (m >> got tt) ≡ got (tt {0})
          → (need (eqb ((n + sum) * 4) (length ws)) 1 >> (m >> eachGiven t (cutSets ns (drop (n * 4) ws)))) ≡ metSets t ns (drop (n * 4) ws)
      go (got cs) e = ap (λ (b : Bool). need b 1 >> eachGiven t (cutSets ns (drop (n * 4) ws))) (sum-rest h)
      go (refused k) e = clash e

  pub met-bad : metSet t (take (n * 4) ws) ≡ refused 1 → metSets t (n ∷ ns) ws ≡ refused 1
  unfolding eachGiven cutSets
  met-bad e = go (setGiven t (take (n * 4) ws)) e
    where
      go : (m : Got (List (Con ℕ))) → (m >> got (tt {0})) ≡ refused 1
          → (need (eqb ((n + sum) * 4) (length ws)) 1 >> (m >> eachGiven t (cutSets ns (drop (n * 4) ws)))) ≡ refused 1
      go (got cs) e = clash (sym e)
      go (refused k) e = refused-both (eqb ((n + sum) * 4) (length ws)) (refused k) (cc)

  pub met-short : length ws < n * 4 → metSets t (n ∷ ns) ws ≡ refused 1
  met-short h = ap (λ (b : Bool). need b 1 >> eachGiven t (cutSets (n ∷ ns) ws)) (ne_eqb ((n + sum) * 4) (length ws) (λ q. omega arith))

-- after i sets, whose words end at `from`
module _ (t : Table) (lengths words : List ℕ) (i from : ℕ) where
  abbrev Left : Type 0
  Left = metSets t (drop i lengths) (drop from words) ≡ metSets t lengths words

  module _ (more : i < length lengths) (left : Left) where
    abbrev long : ℕ
    long = get_or lengths i 0 * 4

    here-is : metSets t (get_or lengths i 0 ∷ drop (i + 1) lengths) (drop from words) ≡ metSets t lengths words
    here-is = sym (ap (λ (ls : List ℕ). metSets t ls (drop from words))
        (drop-cons lengths i 0 more ∙ ap (λ (k : ℕ). get_or lengths i 0 ∷ drop k lengths) (sym (add-one i)))) ∙ left

    pub left-short : length words - from < long → refused 1 ≡ metSets t lengths words
    left-short h = sym (met-short t (get_or lengths i 0) (drop (i + 1) lengths) (drop from words) (omega (arith, length-drop from words))) ∙ here-is

    module _ (b : Bool) (e : need b 1 ≡ metSet t (take (from + long - from) (drop from words))) where
      met-here : need b 1 ≡ metSet t (take long (drop from words))
      met-here = e ∙ ap (λ (k : ℕ). metSet t (take k (drop from words))) (let q : from + long - from ≡ long = omega arith in q)

      pub left-bad : not b ≡ true → refused 1 ≡ metSets t lengths words
      left-bad h = sym (met-bad t (get_or lengths i 0) (drop (i + 1) lengths) (drop from words)
          (sym met-here ∙ ap (λ (c : Bool). need c 1) (not-true b h))) ∙ here-is

      pub left-next : not b ≡ false → long ≤ length words - from → metSets t (drop (i + 1) lengths) (drop (from + long) words) ≡ metSets t lengths words
      left-next h k =
          sym (ap (metSets t (drop (i + 1) lengths)) (drop-drop long from words))
          ∙ sym (met-step t (get_or lengths i 0) (drop (i + 1) lengths) (drop from words) (omega (arith, length-drop from words))
          (sym met-here ∙ ap (λ (c : Bool). need c 1) (not-false b h)))
          ∙ here-is

  pub left_end : length lengths ≤ i → from ≤ length words → Left → need (eqb from (length words)) 1 ≡ metSets t lengths words
  unfolding eachGiven cutSets
  left_end h k left =
      let e = length-drop from words in
      go (eqb from (length words)) refl ∙ sym (ap (λ (ls : List ℕ). metSets t ls (drop from words)) (drop_of_length-le lengths {i = i} h)) ∙ left
    where
      go : (b : Bool) → eqb from (length words) ≡ b → need (eqb from (length words)) 1 ≡ (need (eqb 0 (length (drop from words))) 1 >> got tt)
      go true e = rw (e, eq-eqb 0 (length (drop from words)) (let q = eqb-true from (length words) e in omega (arith, length-drop from words)))
      go false e = rw (e, ne_eqb 0 (length (drop from words)) (λ z. eqb-false from (length words) e (omega (arith, length-drop from words))))

-- a set is cut at whole records
pub whole-records : (words : List ℕ) (from n : ℕ) → n * 4 ≤ length words - from → length (take (from + n * 4 - from) (drop from words)) % 4 ≡ 0
whole-records words from n h = let e = length-take-le (from + n * 4 - from) (drop from words) (omega (arith, length-drop from words)) in omega (arith, e)

-- ══ The whole row of checks: 10, 8, 1 ══

module _ (pool table words lengths : List ℕ) where
  pub short-pool : length pool < 8192 → refused 10 ≡ compactChecks pool table words lengths
  unfolding compactChecks lentTable
  short-pool h = sym (rw (lt-leb 8192 (length pool) h))

  pub short-table : length table < 257 → refused 10 ≡ compactChecks pool table words lengths
  unfolding compactChecks lentTable
  short-table h = sym (rw (lt-leb 257 (length table) h, and-false (leb 8192 (length pool))))

  module _ (p : 8192 ≤ length pool) (t : 257 ≤ length table) (b : Bool) (e : b ≡ (leb (length lengths) 64 && all (λ n. leb n 2048) lengths)) where
    pub too_large : not b ≡ true → refused 8 ≡ compactChecks pool table words lengths
    unfolding compactChecks lentTable
    too_large h = sym (rw (le-leb 8192 (length pool) p, le-leb 257 (length table) t, sym e ∙ not-true b h))

    module _ (s : not b ≡ false) (g : Bool) (f : g ≡ tableGood (table_of pool table)) where
      pub bad-table : not g ≡ true → refused 1 ≡ compactChecks pool table words lengths
      unfolding compactChecks lentTable tableKept
      bad-table h = sym (rw (le-leb 8192 (length pool) p, le-leb 257 (length table) t, sym e ∙ not-false b s, sym f ∙ not-true g h))

      pub good-table : not g ≡ false → Good pool table
      good-table h = record { bytes = p; words = t; good = sym f ∙ not-false g h }

      pub checked : not g ≡ false → {m : Got (Unit {0})} → m ≡ metSets (table_of pool table) lengths words → m ≡ compactChecks pool table words lengths
      unfolding compactChecks lentTable tableKept
      checked h q = q ∙ sym (rw (le-leb 8192 (length pool) p, le-leb 257 (length table) t, sym e ∙ not-false b s, sym f ∙ not-false g h))

  pub checks-good : compactChecks pool table words lengths ≡ got tt → Good pool table
  unfolding compactChecks lentTable tableKept
  checks-good e =
      let lent = leb 8192 (length pool) && leb 257 (length table) in
      let few = leb (length lengths) 64 && all (λ n. leb n 2048) lengths in
      let l = go lent few (tableGood (table_of pool table)) (metSets (table_of pool table) lengths words) e in
      record {
        bytes = leb-true 8192 (length pool) (and_left (leb 8192 (length pool)) _ l.0);
        words = leb-true 257 (length table) (and_right (leb 8192 (length pool)) _ l.0);
        good = l.1;
      }
    where
      go : (a b c : Bool) (m : Got (Unit {0})) → (need a 10 >>= λ _. need b 8 >>= λ _. need c 1 >>= λ _. m) ≡ got tt → (a ≡ true) × (c ≡ true)
      go true true true m e = (refl, refl)
      go false b c m e = clash e
      go true false c m e = clash e
      go true true false m e = clash e

  pub checks-each : compactChecks pool table words lengths ≡ got tt → eachGiven (table_of pool table) (cutSets lengths words) ≡ got tt
  unfolding compactChecks
  checks-each e = go (lentTable pool table) (leb (length lengths) 64 && all (λ n. leb n 2048) lengths) (tableKept (table_of pool table))
      (eqb (sum_of (λ n. n) lengths * 4) (length words)) (eachGiven (table_of pool table) (cutSets lengths words)) e
    where
      go : (a : Got (Unit {0})) (b : Bool) (c : Got (Unit {0})) (d : Bool) (m : Got (Unit {0}))
          → (a >>= λ _. need b 8 >>= λ _. c >>= λ _. need d 1 >>= λ _. m) ≡ got tt → m ≡ got tt
      go (refused k) b c d m e = clash e
      go (got u) false c d m e = clash e
      go (got u) true (refused k) d m e = clash e
      go (got u) true (got v) false m e = clash e
      go (got u) true (got v) true m e = e

  -- the row of checks, met one by one
  pub checks-row : compactChecks pool table words lengths ≡ got tt → ((leb (length lengths) 64 && all (λ n. leb n 2048) lengths) ≡ true)
      × (eqb (sum_of (λ n. n) lengths * 4) (length words) ≡ true)
  unfolding compactChecks
  checks-row e = go (lentTable pool table) (leb (length lengths) 64 && all (λ n. leb n 2048) lengths) (tableKept (table_of pool table))
      (eqb (sum_of (λ n. n) lengths * 4) (length words)) (eachGiven (table_of pool table) (cutSets lengths words)) e
    where
      go : (a : Got (Unit {0})) (b : Bool) (c : Got (Unit {0})) (d : Bool) (m : Got (Unit {0}))
          → (a >>= λ _. need b 8 >>= λ _. c >>= λ _. need d 1 >>= λ _. m) ≡ got tt → (b ≡ true) × (d ≡ true)
      go (refused k) b c d m e = clash e
      go (got u) false c d m e = clash e
      go (got u) true (refused k) d m e = clash e
      go (got u) true (got v) false m e = clash e
      go (got u) true (got v) true m e = (refl, refl)

  pub checks-met : Good pool table → (leb (length lengths) 64 && all (λ n. leb n 2048) lengths) ≡ true → eqb (sum_of (λ n. n) lengths * 4) (length words) ≡ true
      → eachGiven (table_of pool table) (cutSets lengths words) ≡ got tt → compactChecks pool table words lengths ≡ got tt
  unfolding compactChecks lentTable tableKept
  checks-met g f s e = rw (le-leb 8192 (length pool) g.bytes, le-leb 257 (length table) g.words, f, g.good, s, e)
