-- What reading a sheet leaves: constraints that are read back from their words, at most 2,048 of them; a table that is well formed, at most 256 new
-- names. Or a refusal at a line and a column of the text, or at its end.
use Rattle.std.specs.Prelude.{◌≡◌, refl, List, [], ◌∷◌, ℕ, suc, ◌+◌, ◌≤◌, ◌<◌, length, eqb, Bool, true, false, get_or}
use Rattle.std.proofs.Common.{sym, subst, arith, length-append}
use Rattle.rules.specs.Base.{got, need, all, collect, ◌>>=◌}
use Rattle.rules.specs.Calls.{listGiven, setGiven}
use Rattle.rules.specs.Names.{Bytes, Table, numbersOf, is_held}
use Rattle.rules.specs.Trees.{Con}
use Rattle.rules.specs.WellFormed.{goodCon}
use Rattle.rules.specs.Writing.{words, writeCon}
use Rattle.rules.specs.Grammar.{lines_of, inFront}
use Rattle.rules.specs.TextReading.{Sofar, Told, told, refusedAt, lineRead, Sheet, sheet, refusedIn, with, nextLine, lines_read, unread, sheetRead}
use Rattle.laws.specs.Lists.{Every}
use Rattle.laws.proofs.NameTable.{good-laid}
use Rattle.laws.proofs.Lists.{bound-step, every-as, every_append}
use Rattle.laws.specs.NameTable.{Good}
use Rattle.laws.specs.ReadLists.{Writable}
use Rattle.laws.proofs.ReadLists.{read_set, words_back}
use Rattle.text_laws.proofs.Entry.{entry}
use Rattle.text_columns.proofs.Told.{Stays, LineAt, line-tells}

-- ══ Line after line ══

-- what a sheet leaves of which n constraints were read before, whose lines are shorter than m and have numbers below j
abbrev SheetAt : (ℕ → Sofar → Type 0) → ℕ → ℕ → ℕ → Sheet → Type 0
SheetAt F n m j (sheet cs s) = Every Writable cs × F (n + length cs) s
SheetAt F n m j (refusedIn v l c) = (l < j) × (c ≤ m)

module _ (F : ℕ → Sofar → Type 0) (k : Stays F) where
  behind : (n m j : ℕ) (cs : List (Con ℕ)) → Every Writable cs → (x : Sheet) → SheetAt F (n + length cs) m j x → SheetAt F n m j (with cs x)
  behind n m j cs h (sheet ds s) i =
      (every_append Writable cs ds h i.0, subst (λ (a : ℕ). F a s) (omega (arith, length-append cs ds)) i.1)
  behind n m j cs h (refusedIn v l c) i = i

  lines-at : (n m i : ℕ) (ls : List Bytes) → Every (λ l. length l < m) ls → (s : Sofar) → F n s → SheetAt F n m (i + length ls) (lines_read i ls s)
  unfolding lines_read
  lines-at n m i [] h s f = (tt, subst (λ (a : ℕ). F a s) (omega arith) f)
  lines-at n m i (l ∷ ls) h s f = go (lineRead l s) (line-tells F k n l s f) (λ a s' g. lines-at a m (suc i) ls h.1 s' g)
    where
      go : (x : Told (List (Con ℕ))) → LineAt (suc (length l)) F n x
          → ((a : ℕ) (s' : Sofar) → F a s' → SheetAt F a m (suc i + length ls) (lines_read (suc i) ls s'))
          → SheetAt F n m (i + suc (length ls)) (nextLine i x (λ s'. lines_read (suc i) ls s'))
      go (told cs s') g r =
          let e : suc i + length ls ≡ i + suc (length ls) = omega arith in
          behind n m (i + suc (length ls)) cs g.0 (lines_read (suc i) ls s')
          (subst (λ (j : ℕ). SheetAt F (n + length cs) m j (lines_read (suc i) ls s')) e (r (n + length cs) s' g.1))
      go (refusedAt v c) g r = (omega arith, omega (arith, g, h.0))

-- ══ The lines of a text ══

-- each is at most as long as the text, and there is at most one more than the text has bytes
pub record Lines (n : ℕ) (ls : List Bytes) : Type 0 where
  pub short : Every (λ l. length l < suc n) ls
  pub few : length ls ≤ suc n

longer : (n : ℕ) (l : Bytes) → length l < suc n → length l < suc (suc n)
longer n l h = omega arith

in-front : (n b : ℕ) (ls : List Bytes) → Lines n ls → Lines (suc n) (inFront b ls)
in-front n b [] h = record { short = (omega arith, tt); few = omega arith }
in-front n b (l ∷ ls) h = record { short = (omega (arith, h.short.0), every-as (longer n) ls h.short.1); few = omega (arith, h.few) }

feed : (n : ℕ) (ls : List Bytes) → Lines n ls → Lines (suc n) ([] ∷ ls)
feed n ls h = record { short = (omega arith, every-as (longer n) ls h.short); few = omega (arith, h.few) }

pub lines-of : (bs : Bytes) → Lines (length bs) (lines_of bs)
unfolding lines_of
lines-of [] = record { short = (omega arith, tt); few = omega arith }
lines-of (b ∷ bs) = go (eqb b 10) refl (lines-of bs)
  where
    go : (u : Bool) → eqb b 10 ≡ u → Lines (length bs) (lines_of bs) → Lines (suc (length bs)) (lines_of (b ∷ bs))
    go true q h = rw (q, lines_of) (feed (length bs) (lines_of bs) h)
    go false q h = rw (q, lines_of) (in-front (length bs) b (lines_of bs) h)

module _ (F : ℕ → Sofar → Type 0) (k : Stays F) (pool table text : List ℕ) (f : F 0 (unread pool table)) where
  sheet-at : SheetAt F 0 (suc (length text)) (1 + length (lines_of text)) (sheetRead pool table text)
  unfolding sheetRead
  sheet-at = lines-at F k 0 (suc (length text)) 1 (lines_of text) (lines-of text).short (unread pool table) f

-- ══ Constraints, and places in the text ══

-- each constraint has a record, and records are at most 2,048
abbrev Counts : ℕ → Sofar → Type 0
Counts n s = (n ≤ s.records) × (s.records ≤ 2048)

counts-stay : Stays Counts
counts-stay = record {
  counts = λ n s k h i. (omega (arith, i.0), h);
  enters = λ n s b r q i. i;
  begins = λ n s h i. (omega (arith, i.0), h);
}

module _ (pool table text : List ℕ) where
  left : SheetAt Counts 0 (suc (length text)) (1 + length (lines_of text)) (sheetRead pool table text)
  left = sheet-at Counts counts-stay pool table text (omega arith, omega arith)

  left-of : {x : Sheet} → sheetRead pool table text ≡ x → SheetAt Counts 0 (suc (length text)) (1 + length (lines_of text)) x
  left-of e = subst (SheetAt Counts 0 (suc (length text)) (1 + length (lines_of text))) e left

  -- numerators that a word can hold, and types nested at most 64 deep
  pub read-writable : {cs : List (Con ℕ)} {s : Sofar} → sheetRead pool table text ≡ sheet cs s → Every Writable cs
  read-writable e = (left-of e).0

  pub read-few : {cs : List (Con ℕ)} {s : Sofar} → sheetRead pool table text ≡ sheet cs s → length cs ≤ 2048
  read-few e = let i = (left-of e).1 in omega (arith, i.0, i.1)

  pub refused-within : {n l c : ℕ} → sheetRead pool table text ≡ refusedIn n l c → (l ≤ length text + 1) × (c ≤ length text + 1)
  refused-within e = let i = left-of e in (omega (arith, i.0, (lines-of text).few), omega (arith, i.1))

-- ══ Read back ══

-- what is read from the words of a set is the set: over every table, where its numerators are in range and it is nested at most 64 deep
pub back-from : (t : Table) (cs : List (Con ℕ)) → Every Writable cs → (ds : List (Con ℕ)) → setGiven t (words (collect writeCon cs)) ≡ got ds → ds ≡ cs
unfolding setGiven listGiven
back-from t cs h ds e =
    let k : (need (all (goodCon (numbersOf t) (is_held t) 0) cs) 1 >>= λ _. got cs) ≡ got ds = rw (words_back (collect writeCon cs), read_set cs h) at e in
    let b = bound-step (need (all (goodCon (numbersOf t) (is_held t) 0) cs) 1) _ ds k in
    let z : cs ≡ ds = cc b.2 in
    sym z

-- so what is read from the words of a sheet that was read is the sheet
pub read-back : (pool table text : List ℕ) {cs : List (Con ℕ)} {s : Sofar} → sheetRead pool table text ≡ sheet cs s → (t : Table) (ds : List (Con ℕ))
    → setGiven t (words (collect writeCon cs)) ≡ got ds → ds ≡ cs
read-back pool table text {cs} e t ds h = back-from t cs (read-writable pool table text e) ds h

-- ══ The table ══

-- it is well formed, and new names are names that are held
abbrev Held : ℕ → Sofar → Type 0
Held n s = Good s.pool s.table × (s.fresh ≤ get_or s.table 0 0)

held-stays : Stays Held
held-stays = record {
  counts = λ n s k h i. i;
  enters = λ n s b r q i. let x = entry i.0 b in (x.good, omega (arith, i.1, (x.number r.0 r.1 q).1));
  begins = λ n s h i. i;
}

pub read-keeps-good : (pool table text : List ℕ) {cs : List (Con ℕ)} {s : Sofar} → Good pool table → sheetRead pool table text ≡ sheet cs s
    → Good s.pool s.table × (s.fresh ≤ 256)
read-keeps-good pool table text g e =
    let x = subst (SheetAt Held 0 (suc (length text)) (1 + length (lines_of text))) e (sheet-at Held held-stays pool table text (g, omega arith)) in
    (x.1.0, omega (arith, x.1.1, (good-laid x.1.0).few))
