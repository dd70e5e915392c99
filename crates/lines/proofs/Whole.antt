-- What follows from the definitions of specs/Whole: the whole call past the check of 10: from the steps in words to the type of the last one.
use Rattle.std.specs.Prelude.{Result, Ok, Err, IfOk, ◌≡◌, refl, List, [], ◌∷◌, ℕ, suc, ◌-◌, ◌*◌, ◌≤◌, ◌<◌, leb, length, get_or}
use Rattle.std.proofs.Common.{sym, subst, ◌∙◌, arith}
use Rattle.std.proofs.Math.Path.{ap}
use Rattle.std.proofs.Math.Bool.{true}
use Rattle.std.proofs.Math.Option.{some}
use borrow.Author.Tests.{leb-true, lt-leb}
use Rattle.std.proofs.Math.ListN.{replicate}
use Rattle.rules.specs.Base.{Got, got, refused, ◌>>=◌, ◌>>◌, need, bounded, all, sum_of}
use Rattle.rules.specs.Trees.{Con, sizeCon}
use Rattle.rules.specs.Names.{Table, table_of, numbersOf, is_held, lentTable, tableGiven}
use Rattle.rules.specs.Replacing.{replaceTy, bindings}
use Rattle.rules.specs.Refusals.{number_of, toldBy}
use Rattle.rules.specs.WellFormed.{goodCon}
use Rattle.rules.specs.Writing.{Rec, words, writeTy}
use Rattle.rules.specs.Calls.{tableKept, differ, lent, resultAfter}
use Rattle.rules.specs.Steps.{LineStep, whole, lineGiven}
use Rattle.rules.specs.Lines.{its, constraints, last_of, settledSet, agreedSet, lineType, fresh, lineLent, lineShort, checkedLine, checkLineCall}
use Rattle.rules.specs.declared.Refusal.{Refusal}
use Rattle.rules.specs.declared.Refusal.TheVariants.{TooLarge}
use Rattle.laws.proofs.Checks.{need-passed}
use Rattle.laws.specs.Lists.{and_left}
use Rattle.laws.proofs.Lists.{true≢false, bound-step, bracket, clash, is_all}
use Rattle.laws.specs.NameTable.{Good}
use Rattle.theorems_soundness.specs.Claims.{Ordered}
use Rattle.theorems_soundness.proofs.Words.{numbers-ordered}
use Rattle.theorems_lines.proofs.Formed.{constraints-formed}
use Rattle.theorems_lines.proofs.Read as theorems
use Rattle.theorems_lines.proofs.Read.{names_apart}
use Rattle.names.specs.Told.{unit_of}
use Rattle.names.specs.declared.tables.NameTable.{NameTable}
use Rattle.records.specs.Good.{numbers, holding}
use Rattle.records_buffers.proofs.OnLent.{Long, long}
use Rattle.records_buffers.proofs.Handed.{as_written, unwritten, made-refused}
use Rattle.records_buffers.specs.Told.{handed, Made}
use Rattle.types.proofs.Tested as tables
use Rattle.types.proofs.Tested.{as-refused}
use Rattle.lines_entry.specs.Entered.{lineEntered, entered_over}
use Rattle.lines_entry.proofs.Entered.{checked-entered}
use Rattle.laws.specs.Nesting.{Within}
use Rattle.lines.proofs.Nested.{constraints-flat, line-flat}
use Rattle.lines.specs.Typed.{setType}
use Rattle.lines.specs.Whole.{type_of, line_over, ν, held, LineHeld}

-- ══ The last step ══

some-step : (ss : List (LineStep ℕ)) → whole 0 ss ≡ true → 1 ≤ length ss
unfolding whole
some-step [] h = absurd (true≢false (sym h))
some-step (s ∷ ss) h = omega arith

last-is : (names : List ℕ) (ss : List (LineStep ℕ)) → length ss ≤ length names → 1 ≤ length ss → last_of names ss ≡ some (get_or names (length ss - 1) 0)
unfolding last_of
last-is names [] l h = absurd (omega arith)
last-is [] (s ∷ ss) l h = absurd (omega arith)
last-is (v ∷ vs) (s ∷ []) l h = refl
last-is (v ∷ vs) (s ∷ s' ∷ ss) l h =
    let z : length (s ∷ s' ∷ ss) - 1 ≡ suc (length (s' ∷ ss) - 1) = omega arith in
    last-is vs (s' ∷ ss) (omega arith) (omega arith) ∙ ap (λ (j : ℕ). some (get_or (v ∷ vs) j 0)) (sym z)

module _ (pool table names : List ℕ) where
  module _ (good : Good pool table) (ss : List (LineStep ℕ)) (h : LineHeld pool table names ss) where
    order : Ordered (ν pool table names) (held pool table names)
    order = numbers-ordered pool table good

    pub step-there : 1 ≤ length ss
    step-there = some-step ss h.complete

    -- its set
    abbrev cs : List (Con ℕ)
    cs = constraints (ν pool table names) names [] ss

    pub cs-good : all (goodCon (numbers pool table) (holding pool table) 0) cs ≡ true
    cs-good = is_all (goodCon (numbers pool table) (holding pool table) 0) cs
        (constraints-formed (ν pool table names) (held pool table names) order ss names []
        (names_apart (table_of pool table) order names h.differing h.held) h.formed)

    pub cs-flat : Within 64 cs
    cs-flat = constraints-flat (ν pool table names) ss names [] h.flat

    -- ══ Its type ══

    abbrev last : ℕ
    last = get_or names (length ss - 1) 0

    type-is : type_of pool table names ss ≡ setType pool table cs last
    unfolding lineType
    type-is = rw (last-is names ss h.enough step-there)
        (bracket (agreedSet (ν pool table names) cs) (λ bs. replaceTy (ν pool table names) bounded (bindings (ν pool table names) bs) (its last))
        (λ ty. got (writeTy ty)))

    pub type-made : (n : ℕ) → length ss ≡ n → (w : List ℕ) (r : Result ℕ Refusal) → Made (setType pool table cs (get_or names (n - 1) 0)) w r
        → Made (type_of pool table names ss) w r
    type-made n e w r m = subst (λ (x : Got (List Rec)). Made x w r)
        (ap (λ (k : ℕ). setType pool table cs (get_or names (k - 1) 0)) (sym e) ∙ sym type-is) m

    pub large-made : (w : List ℕ) → 2048 < sum_of sizeCon cs → Made (type_of pool table names ss) w (Err TooLarge)
    unfolding agreedSet settledSet
    large-made w l = made-refused TooLarge (type-is ∙ rw (lt-leb (sum_of sizeCon cs) 2048 l))

-- ══ The checks at entry ══

not-refused : {A B : Type 0} (l : Got (Unit {0})) (k : ℕ) (a : A) → (l >> refused k) ≡ got a → B
not-refused (refused i) k a e = clash e
not-refused (got x) k a e = clash e

module _ (steps types lines names : List ℕ) where
  module _ (n : NameTable) where
    abbrev over : Table
    over = table_of n.pool.now n.table.now

    -- what is known past them
    pub came : (ss : List (LineStep ℕ)) → length steps ≤ length names * 4
        → lineEntered over steps types lines names ≡ got ss → LineHeld n.pool.now n.table.now names ss
    unfolding lineEntered fresh
    came ss l i =
        let a = bound-step (lineShort steps types lines names) _ ss i in
        let b = bound-step (tableKept over) _ ss a.2 in
        let c = bound-step (lineGiven over steps types lines) _ ss b.2 in
        let d = bound-step (need (fresh names c.0) 4) _ ss c.2 in
        let f = bound-step (need (all (is_held over) names) 3) _ ss d.2 in
        let z : c.0 ≡ ss = cc f.2 in
        let e : lineGiven over steps types lines ≡ got ss = c.1 ∙ ap got z in
        let r = theorems.line_read over (numbers-ordered n.pool.now n.table.now n.good) steps types lines ss e in
        record {
          formed = r.formed;
          complete = r.complete;
          flat = line-flat over steps types lines ss e;
          differing = and_left (differ names) _ (need-passed (fresh names c.0) 4 d.1);
          held = need-passed (all (is_held over) names) 3 f.1;
          enough = omega (arith, r.long, l);
        }

    pub line_made : (ss : List (LineStep ℕ)) → lineEntered over steps types lines names ≡ got ss → (w : List ℕ) (r : Result ℕ Refusal)
        → Made (type_of n.pool.now n.table.now names ss) w r → Made (checkedLine over steps types lines names) w r
    line_made ss i w r m = subst (λ (x : Got (List Rec)). Made x w r) (sym (checked-entered over steps types lines names ∙ rw i)) m

  pub refused-line : (table : Result NameTable Refusal) (w : List ℕ) (k : Refusal) → entered_over table steps types lines names ≡ refused (number_of k)
      → Made (line_over table steps types lines names) w (Err k)
  refused-line (Ok n) w k e = made-refused k (checked-entered (over n) steps types lines names ∙ rw e)
  refused-line (Err why) w k e = made-refused k (as-refused (lineShort steps types lines names) (number_of k) (number_of why) (sym e))

  -- no line comes in over a table that was refused
  pub no-table : {A : Type 0} (table : Result NameTable Refusal) (why : Refusal) (ss : List (LineStep ℕ)) → table ≡ Err why
      → entered_over table steps types lines names ≡ got ss → A
  no-table table why ss i e = not-refused (lineShort steps types lines names) (number_of why) ss (rw i at e)

module _ (pool table steps types lines names : List ℕ) where
  abbrev t : Table
  t = table_of pool table

  abbrev past : Table → Got (Unit {0}) → Got (List Rec)
  past u k = lineShort steps types lines names >> (k >> (lineGiven u steps types lines >>= λ ss. need (fresh names ss) 4
      >> (need (all (is_held u) names) 3 >> (lineType (numbersOf u) ss names >>= λ ty. got (writeTy ty)))))

  -- over the table that was tested it is what the call asks
  pub tested : lentTable pool table ≡ got tt → (n : Result NameTable Refusal) → toldBy unit_of n ≡ tableGiven pool table
      → IfOk n (λ n. (n.pool.now ≡ pool) × (n.table.now ≡ table)) → line_over n steps types lines names ≡ checkedLine t steps types lines names
  unfolding checkedLine
  tested l = tables.tested past pool table l (λ n. line_over n steps types lines names) (λ n. refl) (λ why. refl)

  -- ══ The call ══

  module _ (result work : List ℕ) where
    pub record Room : Type 0 where
      pub lent-long : Long pool table result work
      pub enough : length steps ≤ length names * 4

    pub room-is : lineLent pool table steps names result work ≡ got tt → Room
    unfolding lineLent
    room-is e =
        let a = bound-step (lent pool table result work) _ tt e in
        record {
          lent-long = long pool table result work true (sym a.1) refl;
          enough = leb-true (length steps) (length names * 4) (need-passed (leb (length steps) (length names * 4)) 10 a.2);
        }

    pub call-short : lineLent pool table steps names result work ≡ refused 10
        → record { answer = refused 10; result = result; work = work } ≡ checkLineCall pool table steps types lines names result work
    unfolding checkLineCall
    call-short e = unwritten (lineLent pool table steps names result work) (checkedLine t steps types lines names) result work e

    pub called : (w : List ℕ) → length w ≡ length work → lineLent pool table steps names result work ≡ got tt
        → handed (checkedLine t steps types lines names) result w ≡ checkLineCall pool table steps types lines names result work
    unfolding checkLineCall
    called w n e =
        let m = checkedLine t steps types lines names in
        ap (λ (k : ℕ). record { answer = m >>= λ rs. got (length rs); result = resultAfter (m >>= λ rs. got (words rs)) result; work = replicate k 0 }) n
        ∙ as_written (lineLent pool table steps names result work) m result work e
