-- Reading text: the same sheet, read over two tables, is answered alike where neither reading meets 3.
use Rattle.std.specs.Prelude.{◌≡◌, false, length}
use Rattle.std.proofs.Math.Path.{refl, ap}
use Rattle.std.proofs.Common.{sym, ◌∙◌}
use mathlib.Core.List.{List, map}
use Prim.Native.Nat.{ℕ}
use Rattle.std.proofs.lemmas.List.{length-map}
use Rattle.rules.specs.Base.{Got, got, refused, ◌>>◌, collect, sum_of}
use Rattle.rules.specs.Trees.{sizeCon}
use Rattle.rules.specs.Names.{Bytes, table_of}
use Rattle.rules.specs.Writing.{writeCon}
use Rattle.rules.specs.Calls.{lent, tableKept, workAfter}
use Rattle.rules.specs.TextReading.{Sheet, sheetRead, wasRead, notRead, handed, fromEntry, sheetGiven, readTextCall}
use Rattle.rules.specs.Offices.{nameNo, mapCon, LentAlike, meetsThree, TextReadAlike}
use Rattle.laws.proofs.Lists.{got≢refused, clash, same-number}
use Rattle.laws.specs.NameTable.{Good}
use Rattle.laws.proofs.Size.{set-length}
use Rattle.theorems_offices.proofs.Both.{two-checks}
use Rattle.theorems_offices.proofs.Sizes.{size-cons}
use Rattle.theorems_offices.proofs.Writing.{set-written}
use Rattle.theorems_offices.proofs.Results.{nothing, fronts}
use Rattle.theorems_offices.proofs.Given.{kept-alike, lent_alike}
use Rattle.theorems_offices.proofs.Readings.{now, SheetsOut, three-at, three-at', refused-at, both-read, sheets-alike}

module _ {pool table pool' table' : List ℕ} (good : Good pool table) (good' : Good pool' table') where
  module _ (result result' work work' : List ℕ) where
    -- what is handed over of a sheet
    outcome : {x x' : Sheet} → SheetsOut (table_of pool table) (table_of pool' table') x x'
        → meetsThree (handed pool table result work x).answer ≡ false → meetsThree (handed pool' table' result' work' x').answer ≡ false
        → TextReadAlike (handed pool table result work x) (handed pool' table' result' work' x')
    outcome (three-at l c x) h h' = absurd (cc)
    outcome (three-at' x l c) h h' = absurd (cc)
    outcome (refused-at n l c) h h' = record { answer = refl; records = nothing (table_of pool table) (table_of pool' table') }
    outcome (both-read cs cs' s s' b r) h h' =
        let ν = nameNo (table_of s.pool s.table) in
        let ν' = nameNo (table_of s'.pool s'.table) in
        let e : map (mapCon ν) cs ≡ map (mapCon ν') cs' = now r in
        record {
          answer = same-counts (sym (size-cons ν cs) ∙ ap (sum_of sizeCon) e ∙ size-cons ν' cs')
              (sym (length-map cs (mapCon ν)) ∙ ap length e ∙ length-map cs' (mapCon ν'));
          records = fronts (table_of s.pool s.table) (table_of s'.pool s'.table) (collect writeCon cs) (collect writeCon cs') (sum_of sizeCon cs)
              (sum_of sizeCon cs') result result'
              (set-length cs) (set-length cs') (set-written (table_of s.pool s.table) (table_of s'.pool s'.table) cs cs' e);
        }
      where
        same-counts : {m m' n n' : ℕ} → m ≡ m' → n ≡ n' → wasRead m n 0 ≡ wasRead m' n' 0
        same-counts e f = rw (e, f)

  pub read-text : (text : Bytes) (result result' work work' : List ℕ) → LentAlike result result' work work'
      → meetsThree (readTextCall pool table text result work).answer ≡ false → meetsThree (readTextCall pool' table' text result' work').answer ≡ false
      → TextReadAlike (readTextCall pool table text result work) (readTextCall pool' table' text result' work')
  unfolding readTextCall sheetGiven
  read-text text result result' work work' r h h' =
      go (lent pool table result work >> tableKept (table_of pool table)) (lent pool' table' result' work' >> tableKept (table_of pool' table'))
      (two-checks (lent_alike good good' result result' work work' r) (kept-alike good good')) h h'
    where
      w : List ℕ
      w = workAfter (lent pool table result work) work

      w' : List ℕ
      w' = workAfter (lent pool' table' result' work') work'

      go : (m m' : Got (Unit {0})) → m ≡ m'
          → meetsThree (handed pool table result w (fromEntry m (sheetRead pool table text))).answer ≡ false
          → meetsThree (handed pool' table' result' w' (fromEntry m' (sheetRead pool' table' text))).answer ≡ false
          → TextReadAlike (handed pool table result w (fromEntry m (sheetRead pool table text)))
          (handed pool' table' result' w' (fromEntry m' (sheetRead pool' table' text)))
      go (got u) (got v) e k k' = outcome result result' w w' (sheets-alike good good' text) k k'
      go (got u) (refused n) e k k' = absurd (got≢refused e)
      go (refused n) (got v) e k k' = clash e
      go (refused n) (refused n') e k k' = record { answer = same-refusal (same-number e); records = nothing (table_of pool table) (table_of pool' table') }
        where
          same-refusal : {x y : ℕ} → x ≡ y → notRead x 0 0 ≡ notRead y 0 0
          same-refusal e = rw e
