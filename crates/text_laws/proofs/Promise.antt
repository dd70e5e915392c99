-- What is promised of sheets, of the definitions: every well formed set is written, in 173 bytes a record, and read back to the same records;
-- a refused sheet changes nothing; the first bad line is told, and nothing behind it is looked at.
use Rattle.std.specs.Prelude.{◌≡◌, Bool, true, false, ℕ, suc, ◌+◌, ◌/◌, ◌≤◌, eqb, take, drop}
use Rattle.std.proofs.Math.Path.{refl, ap}
use Rattle.std.proofs.Common.{sym, ◌∙◌, arith, take_at}
use mathlib.Core.List.{List, [], ◌∷◌, ◌++◌, append_assoc, append-nil}
use borrow.Author.Tests.{le-leb}
use Rattle.std.proofs.Math.ListN.{length}
use Rattle.rules.specs.Base.{Got, got, refused, need, all, collect, sum_of}
use Rattle.rules.specs.Base as Base
use Rattle.rules.specs.Trees.{Con, sizeCon}
use Rattle.rules.specs.Names.{Bytes, table_of, numbersOf, is_held, lentTable}
use Rattle.rules.specs.WellFormed.{goodCon}
use Rattle.rules.specs.Calls.{lent, lentResult, lentWork, shortLists, tableKept, setCall, over, resultAfter, workAfter, listing}
use Rattle.laws.specs.Lists.{Every, and_left, and_right}
use Rattle.laws.proofs.Lists.{every-left, every-right}
use Rattle.laws.specs.NameTable.{Good}
use Rattle.laws.specs.ReadLists.{Words}
use Rattle.rules.specs.Grammar.{lines_of, inFront, skipFrom, signsAt, line}
use Rattle.rules.specs.TextReading.{
  Sofar,
  Told,
  told,
  refusedAt,
  meant,
  lineRead,
  Sheet,
  sheet,
  refusedIn,
  with,
  nextLine,
  lines_read,
  unread,
  sheetRead,
  notRead,
  handed,
  fromEntry,
  sheetGiven,
  readTextCall,
}
use Rattle.rules.specs.TextWriting.{conText, setText, namesIn, text_of, writeTextCall}
use Rattle.text_laws.specs.Spelling.{IsByte}
use Rattle.text_laws.proofs.Meanings as Meanings
use Rattle.text_laws.specs.Claims.{BackAgain, Unchanged, joined, RefusedText}
use Rattle.text_laws.proofs.LinesBack.{line-back}
use Rattle.text_laws.specs.Lengths.{NotFeed}
use Rattle.text_laws.proofs.Lengths.{con-flat, set-fits}
use Rattle.text_laws.proofs.Given.{Deep, Constraints, constraints, SetGiven, set_given}

-- ══ Written, and read back ══

-- a line ends at its line feed
pub first-line : (l rest : Bytes) → Every NotFeed l → lines_of (l ++ (10 ∷ rest)) ≡ l ∷ lines_of rest
unfolding lines_of
first-line [] rest h = refl
first-line (b ∷ l) rest h = rw (h.0, lines_of) (ap (inFront b) (first-line l rest h.1))

-- behind the last line feed stands an empty line
no_lines : (k : ℕ) (s : Sofar) → lines_read k (lines_of []) s ≡ sheet [] s
unfolding lines_read lines_of lineRead line signsAt skipFrom meant
no_lines k s = refl

module _ {pool table : List ℕ} (good : Good pool table) (bytes : Every IsByte pool) where
  abbrev isGood : Con ℕ → Bool
  isGood c = goodCon (numbersOf (table_of pool table)) (is_held (table_of pool table)) 0 c

  -- a written set is read back, from any line on; only the records are more
  pub set_back : (cs : List (Con ℕ)) → all isGood cs ≡ true → Every Deep cs → (k j r q : ℕ) → q ≡ r + sum_of sizeCon cs → q ≤ 2048
      → lines_read k (lines_of (setText (Meanings.name_of good) cs)) (Meanings.state good j r) ≡ sheet cs (Meanings.state good j q)
  unfolding setText collect all lines_read
  set_back [] g d k j r q e m = no_lines k (Meanings.state good j r) ∙ ap (λ (n : ℕ). sheet [] (Meanings.state good j n)) (omega arith)
  set_back (c ∷ cs) g d k j r q e m =
      let gc = and_left (isGood c) _ g in
      rw (
        append_assoc (conText (Meanings.name_of good) c) (10 ∷ []) (setText (Meanings.name_of good) cs),
        first-line (conText (Meanings.name_of good) c) (setText (Meanings.name_of good) cs) (con-flat good c gc),
      )
      (rw (line-back good bytes c gc d.0 j r (r + sizeCon c) refl (omega arith))
      (rw (set_back cs (and_right (isGood c) _ g) d.1 (suc k) j (r + sizeCon c) q (omega arith) m)))

-- every well formed set is written, in at most 173 bytes a record, and read back over the same table to the same records, with no new name
module _ (pool table set text result work : List ℕ) (formed : setCall pool table set ≡ got tt) (bytes : Every IsByte pool) (small : Words set)
    (room : 354304 ≤ length text) (results : 8192 ≤ length result) (works : 16384 ≤ length work) where
  abbrev given : SetGiven pool table set
  given = set_given pool table set formed

  abbrev good : Good pool table
  good = given.table-good

  abbrev cons : Constraints pool table set given.cs
  cons = constraints pool table set given.cs small given.given

  written-text : text_of pool table set text ≡ got (setText (namesIn (table_of pool table)) given.cs)
  unfolding text_of lentTable shortLists tableKept all
  written-text =
      rw (
        le-leb 8192 (length pool) good.bytes,
        le-leb 257 (length table) good.words,
        le-leb 354304 (length text) room,
        le-leb (length set) 8192 given.short,
        good.good,
        given.given,
      )

  read_again : sheetRead pool table (setText (namesIn (table_of pool table)) given.cs) ≡ sheet given.cs (Meanings.state good 0 (sum_of sizeCon given.cs))
  unfolding sheetRead
  read_again = set_back good bytes given.cs cons.good cons.deep 1 0 0 (sum_of sizeCon given.cs) (omega arith) (omega (arith, cons.many, given.short))

  all-lent : lent pool table result work ≡ got tt
  unfolding lent lentTable lentResult lentWork
  all-lent = rw (
    le-leb 8192 (length pool) good.bytes,
    le-leb 257 (length table) good.words,
    le-leb 8192 (length result) results,
    le-leb 16384 (length work) works,
  )

  many : sum_of sizeCon given.cs ≡ length set / 4
  many = omega (arith, cons.many)

  pub back-again : BackAgain pool table set text result work
  unfolding writeTextCall listing resultAfter readTextCall sheetGiven tableKept workAfter
  back-again = record {
    bytes = setText (namesIn (table_of pool table)) given.cs;
    cons = given.cs;
    given = given.given;
    written = rw written-text;
    short = omega (arith, set-fits good given.cs cons.good, many);
    again = rw (all-lent, good.good, read_again) (rw (many, cons.same));
  }

-- what was written stands at the front of the text buffer
pub front : (bytes text : Bytes) → take (length bytes) (over bytes text) ≡ bytes
unfolding over
front bytes text = take_at bytes (drop (length bytes) text) (length bytes) refl

-- ══ A refused sheet changes nothing ══

pub refused-unchanged : (pool table text result work : List ℕ) (n k c : ℕ) → (readTextCall pool table text result work).answer ≡ notRead n k c
    → Unchanged pool table result (readTextCall pool table text result work)
unfolding readTextCall
refused-unchanged pool table text result work n k c e = go (sheetGiven pool table text result work) e
  where
    go : (s : Sheet) → (handed pool table result (workAfter (lent pool table result work) work) s).answer ≡ notRead n k c
        → Unchanged pool table result (handed pool table result (workAfter (lent pool table result work) work) s)
    go (sheet cs s) e = absurd (cc)
    go (refusedIn n k c) e = record { pools = refl; tables = refl; results = refl }

-- ══ The first bad line ══

abbrev Lines : List Bytes → Type 0
Lines ls = Every (Every NotFeed) ls

front-flat : (b : ℕ) (ls : List Bytes) → NotFeed b → Lines ls → Lines (inFront b ls)
front-flat b [] h k = ((h, tt), tt)
front-flat b (l ∷ ls) h k = ((h, k.0), k.1)

-- the lines of a text have no line feed in them
lines-flat : (t : Bytes) → Lines (lines_of t)
unfolding lines_of
lines-flat [] = (tt, tt)
lines-flat (b ∷ t) = go (eqb b 10) refl (lines-flat t)
  where
    go : (u : Bool) → eqb b 10 ≡ u → Lines (lines_of t) → Lines (lines_of (b ∷ t))
    go true e h = rw (e, lines_of) (tt, h)
    go false e h = rw (e, lines_of) (front-flat b (lines_of t) e h)

joined-lines : (ls : List Bytes) (t : Bytes) → Lines ls → lines_of (joined ls ++ t) ≡ ls ++ lines_of t
unfolding joined
joined-lines [] t h = refl
joined-lines (l ∷ ls) t h = rw (append_assoc l (10 ∷ joined ls) t, first-line l (joined ls ++ t) h.0, joined-lines ls t h.1)

-- lines that are read, the line that is refused there, and lines behind it
pub record FirstBad (first : ℕ) (lines : List Bytes) (start : Sofar) (n k c : ℕ) : Type 0 where
  pub before : List Bytes
  pub bad : Bytes
  pub after : List Bytes
  pub parts : lines ≡ before ++ (bad ∷ after)
  pub number : k ≡ first + length before
  pub cons : List (Con ℕ)
  pub sofar : Sofar
  pub read-before : lines_read first before start ≡ sheet cons sofar
  pub refuses : lineRead bad sofar ≡ refusedAt n c

with-refused : (cs : List (Con ℕ)) (x : Sheet) (n k c : ℕ) → with cs x ≡ refusedIn n k c → x ≡ refusedIn n k c
with-refused cs (sheet ds s) n k c e = absurd (cc)
with-refused cs (refusedIn m l d) n k c e = e

first-bad : (ls : List Bytes) (first : ℕ) (start : Sofar) (n k c : ℕ) → lines_read first ls start ≡ refusedIn n k c → FirstBad first ls start n k c
unfolding lines_read
first-bad [] first start n k c e = absurd (cc)
first-bad (l ∷ ls) first start n k c e = go (lineRead l start) refl (λ s. first-bad ls (suc first) s n k c)
  where
    go : (t : Told (List (Con ℕ))) → lineRead l start ≡ t
        → ((s : Sofar) → lines_read (suc first) ls s ≡ refusedIn n k c → FirstBad (suc first) ls s n k c) → FirstBad first (l ∷ ls) start n k c
    go (refusedAt m d) q f =
        let w : refusedIn m first d ≡ refusedIn n k c = rw q at e in
        let z : first ≡ k = cc in
        record { before = []; bad = l; after = ls; parts = refl; number = omega arith; cons = []; sofar = start; read-before = refl; refuses = cc }
    go (told cs s) q f =
        let w : with cs (lines_read (suc first) ls s) ≡ refusedIn n k c = rw q at e in
        let g = f s (with-refused cs (lines_read (suc first) ls s) n k c w) in
        record {
          before = l ∷ g.before;
          bad = g.bad;
          after = g.after;
          parts = ap (λ (x : List Bytes). l ∷ x) g.parts;
          number = omega (arith, g.number);
          cons = cs ++ g.cons;
          sofar = g.sofar;
          read-before = rw q (rw g.read-before);
          refuses = g.refuses;
        }

-- ══ Lines that are read, and whatever stands behind them ══

with_none : (x : Sheet) → with [] x ≡ x
with_none (sheet ds s) = refl
with_none (refusedIn n k c) = refl

with-both : (cs ds : List (Con ℕ)) (x : Sheet) → with cs (with ds x) ≡ with (cs ++ ds) x
with-both cs ds (sheet es s) = ap (λ (l : List (Con ℕ)). sheet l s) (sym (append_assoc cs ds es))
with-both cs ds (refusedIn n k c) = refl

-- constraints in front, and what was read behind them
record Behind (cs : List (Con ℕ)) (s : Sofar) (ds : List (Con ℕ)) (x : Sheet) : Type 0 where
  rest : List (Con ℕ)
  is : x ≡ sheet rest s
  whole : cs ≡ ds ++ rest

with_read : (ds : List (Con ℕ)) (x : Sheet) (cs : List (Con ℕ)) (s : Sofar) → with ds x ≡ sheet cs s → Behind cs s ds x
with_read ds (sheet es t) cs s e = record { rest = es; is = cc; whole = cc }
with_read ds (refusedIn n k c) cs s e = absurd (cc)

-- lines that are read, and whatever lines behind them
pub read-on : (ls more : List Bytes) (first : ℕ) (start : Sofar) (cs : List (Con ℕ)) (s : Sofar) → lines_read first ls start ≡ sheet cs s
    → lines_read first (ls ++ more) start ≡ with cs (lines_read (first + length ls) more s)
unfolding lines_read
read-on [] more first start cs s e =
    let z : cs ≡ [] = cc in
    let y : start ≡ s = cc in
    let x : first ≡ first + 0 = omega arith in
    rw (z, y, with_none (lines_read (first + 0) more s)) (ap (λ (k : ℕ). lines_read k more s) x)
read-on (l ∷ ls) more first start cs s e = go (lineRead l start) refl (λ t ds. read-on ls more (suc first) t ds s)
  where
    go : (t : Told (List (Con ℕ))) → lineRead l start ≡ t
        → ((u : Sofar) (ds : List (Con ℕ)) → lines_read (suc first) ls u ≡ sheet ds s
        → lines_read (suc first) (ls ++ more) u ≡ with ds (lines_read (suc first + length ls) more s))
        → lines_read first ((l ∷ ls) ++ more) start ≡ with cs (lines_read (first + length (l ∷ ls)) more s)
    go (refusedAt m d) q f = let w : refusedIn m first d ≡ sheet cs s = rw q at e in absurd (cc)
    go (told ds u) q f =
        let b = with_read ds (lines_read (suc first) ls u) cs s (rw q at e) in
        let k : suc first + length ls ≡ first + suc (length ls) = omega arith in
        rw q (ap (with ds) (f u b.rest b.is) ∙ with-both ds b.rest (lines_read (suc first + length ls) more s)
        ∙ ap (λ (l : List (Con ℕ)). with l (lines_read (suc first + length ls) more s)) (sym b.whole) ∙ ap (λ (n : ℕ). with cs (lines_read n more s)) k)

module _ (pool table : List ℕ) (before : List Bytes) (flat : Lines before) (cs : List (Con ℕ)) (s : Sofar)
    (read : lines_read 1 before (unread pool table) ≡ sheet cs s) where
  as-text : sheetRead pool table (joined before) ≡ sheet cs s
  unfolding sheetRead
  as-text =
      ap (λ (t : Bytes). lines_read 1 (lines_of t) (unread pool table)) (sym (append-nil (joined before)))
      ∙ ap (λ (ls : List Bytes). lines_read 1 ls (unread pool table)) (joined-lines before [] flat)
      ∙ read-on before (lines_of []) 1 (unread pool table) cs s read
      ∙ ap (with cs) (no_lines (1 + length before) s)
      ∙ ap (λ (l : List (Con ℕ)). sheet l s) (append-nil cs)

  refused-there : (bad rest : Bytes) → Every NotFeed bad → (n c : ℕ) → lineRead bad s ≡ refusedAt n c
      → sheetRead pool table (joined before ++ (bad ++ (10 ∷ rest))) ≡ refusedIn n (1 + length before) c
  unfolding sheetRead lines_read
  refused-there bad rest h n c e =
      ap (λ (ls : List Bytes). lines_read 1 ls (unread pool table)) (joined-lines before (bad ++ (10 ∷ rest)) flat ∙ ap (before ++◌) (first-line bad rest h))
      ∙ read-on before (bad ∷ lines_of rest) 1 (unread pool table) cs s read
      ∙ ap (λ (t : Told (List (Con ℕ))). with cs (nextLine (1 + length before) t (λ s'. lines_read (suc (1 + length before)) (lines_of rest) s'))) e

pub refused-text : (pool table : List ℕ) (text : Bytes) (n k c : ℕ) → sheetRead pool table text ≡ refusedIn n k c → RefusedText pool table text n k c
unfolding sheetRead lines_read
refused-text pool table text n k c e =
    let f = first-bad (lines_of text) 1 (unread pool table) n k c e in
    let flat : Lines (f.before ++ (f.bad ∷ f.after)) = rw f.parts at (lines-flat text) in
    let front = every-left (Every NotFeed) f.before (f.bad ∷ f.after) flat in
    let line = (every-right (Every NotFeed) f.before (f.bad ∷ f.after) flat).0 in
    record {
      before = f.before;
      bad = f.bad;
      after = f.after;
      lines = f.parts;
      number = omega (arith, f.number);
      cons = f.cons;
      sofar = f.sofar;
      read-before = as-text pool table f.before front f.cons f.sofar f.read-before;
      refuses = f.refuses;
      whatever = λ rest.
          refused-there pool table f.before front f.cons f.sofar f.read-before f.bad rest line n c f.refuses ∙ ap (λ (m : ℕ). refusedIn n m c) (sym f.number);
    }

-- ══ For the call ══

handed-refused : (pool table result work : List ℕ) (s : Sheet) (n k c : ℕ) → (handed pool table result work s).answer ≡ notRead n k c → s ≡ refusedIn n k c
handed-refused pool table result work (sheet cs s) n k c e = absurd (cc)
handed-refused pool table result work (refusedIn m l d) n k c e = cc

in-a-line : (g : Got (Unit {0})) (s : Sheet) (n k c : ℕ) → fromEntry g s ≡ refusedIn n (suc k) c → s ≡ refusedIn n (suc k) c
in-a-line (got u) s n k c e = e
in-a-line (refused m) s n k c e = let z : 0 ≡ suc k = cc in absurd (omega arith)

-- line 0 is that of the checks at entry; any other is a line of the text
pub refused-line : (pool table text result work : List ℕ) (n k c : ℕ) → (readTextCall pool table text result work).answer ≡ notRead n (suc k) c
    → RefusedText pool table text n (suc k) c
unfolding readTextCall sheetGiven
refused-line pool table text result work n k c e =
    refused-text pool table text n (suc k) c
    (in-a-line (Base.◌>>◌ (lent pool table result work) (tableKept (table_of pool table))) (sheetRead pool table text) n k c
    (handed-refused pool table result (workAfter (lent pool table result work) work) (sheetGiven pool table text result work) n (suc k) c e))
