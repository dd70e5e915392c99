-- Of the call itself: every byte string within the limits is answered, no test of a set answers 1 to what is kept, and a good file comes out the same.
use Rattle.std.specs.Prelude.{◌≡◌, List, ℕ, ◌/◌, ◌%◌, ◌≤◌}
use Rattle.std.proofs.Math.Path.{ap}
use Rattle.std.proofs.Common.{arith}
use borrow.Author.Tests.{le-leb}
use Rattle.std.proofs.Math.ListN.{length}
use Rattle.rules.specs.Base.{got, ◌>>◌, bounded, all, collect}
use Rattle.rules.specs.Names.{table_of, numbersOf, lentTable}
use Rattle.rules.specs.Trees.{Con, opensCon}
use Rattle.rules.specs.Solving.{solve}
use Rattle.rules.specs.Writing.{words}
use Rattle.rules.specs.Calls.{over, resultAfter, tableKept, shortLists, aloneGiven, apart, setGiven, setCall, solvedSet}
use Rattle.laws.specs.NameTable.{Good}
use Rattle.laws.proofs.Size.{words-length}
use Rattle.rules.specs.Rescue.{words_in, piecesIn, keptIn, placesIn, rescueGiven, rescueCall}
use Rattle.rescue.specs.Told.{keptBytes}
use Rattle.rescue.specs.Told.{Bytes}
use Rattle.rescue.proofs.Answers.{given-good}
use Rattle.rescue.specs.Told.{consIn}
use Rattle.rescue.proofs.Promise.{all-counted, kept_read, kept-well, good-same}
use Rattle.rescue.proofs.Steps.{bytes-length}

module _ (pool table file : List ℕ) where
  -- whatever the bytes are
  pub handled : (kept skipped : List ℕ) → Good pool table → 32_768 ≤ length kept → 2_049 ≤ length skipped → length file / 16 ≤ 2_048
      → (rescueCall pool table file kept skipped).answer
      ≡ got (length (keptIn (piecesIn (table_of pool table) (words_in file))), length (placesIn (piecesIn (table_of pool table) (words_in file)) file))
  unfolding rescueCall rescueGiven lentTable tableKept
  handled kept skipped g k m n = simp (le-leb _ _ g.bytes, le-leb _ _ g.words, le-leb _ _ k, le-leb _ _ m, le-leb _ _ n, g.good)

  -- 'what is kept is a well formed set'
  pub kept-passes : Bytes file → (k m : ℕ) → rescueGiven pool table file k m ≡ got tt
      → setCall pool table (words_in (keptBytes (piecesIn (table_of pool table) (words_in file)))) ≡ got tt
  unfolding setCall aloneGiven lentTable shortLists tableKept all
  kept-passes b k m e =
      let g = given-good pool table file k m e in
      let ps = piecesIn (table_of pool table) (words_in file) in
      let n : length (words_in (keptBytes ps)) ≤ 8192 = omega
      (arith, ap length (kept_read pool table file b), words-length (keptIn ps), all-counted pool table file b, g.short) in
      simp (le-leb _ _ g.good.bytes, le-leb _ _ g.good.words, le-leb _ _ n, g.good.good, kept-well pool table file b)

  -- 'a file that was good comes out the same, with an empty list'
  pub good-outcome : Bytes file → length file % 16 ≡ 0 → (cs : List (Con ℕ)) → setGiven (table_of pool table) (words_in file) ≡ got cs → (kept skipped : List ℕ)
      → rescueGiven pool table file (length kept) (length skipped) ≡ got tt
      → rescueCall pool table file kept skipped ≡ record { answer = got (length file / 16, 0); kept = over file kept; skipped = skipped }
  unfolding rescueCall resultAfter over
  good-outcome b m cs e kept skipped g =
      let ps = piecesIn (table_of pool table) (words_in file) in
      let (x, y) = good-same pool table file b m cs e in
      let n : length (keptIn ps) ≡ length file / 16 = omega (arith, ap length x, bytes-length (words (keptIn ps)), words-length (keptIn ps)) in
      rw (g, x, y, n)

  -- so `solve` gets past its tests of the list: past 8 and 1 there is only the check of 4, and the rules
  pub kept-solved : Bytes file → (k m : ℕ) → rescueGiven pool table file k m ≡ got tt
      → let ps = piecesIn (table_of pool table) (words_in file) in
      solvedSet (table_of pool table) (words_in (keptBytes ps))
      ≡ (apart (table_of pool table) (collect opensCon (consIn ps)) >> got (solve (numbersOf (table_of pool table)) bounded (consIn ps)))
  unfolding solvedSet shortLists tableKept all
  kept-solved b k m e =
      let g = given-good pool table file k m e in
      let ps = piecesIn (table_of pool table) (words_in file) in
      let n : length (words_in (keptBytes ps)) ≤ 8192 = omega
      (arith, ap length (kept_read pool table file b), words-length (keptIn ps), all-counted pool table file b, g.short) in
      simp (le-leb _ _ n, g.good.good, kept-well pool table file b)
