-- A page of a report is the first line of its sheet and lines below it, whatever its file is called and holds.
use Rattle.std.specs.Prelude.{
  ◌≡◌,
  refl,
  Bool,
  true,
  false,
  ◌||◌,
  ◌&&◌,
  List,
  [],
  ◌∷◌,
  ◌++◌,
  map,
  ℕ,
  zero,
  suc,
  ◌-◌,
  eqb,
  leb,
  ltb,
  take,
  drop,
  replicate,
  length,
  get_or,
}
use Rattle.std.proofs.Common.{sym, ap, ◌∙◌, append-nil, append_assoc}
use Rattle.std.proofs.Math.Option as may
use Rattle.rules.specs.Base.{Got, got, refused, any, collect}
use Rattle.rules.specs.Conflicts.{Line}
use Rattle.rules.specs.Grammar.{ascii}
use Rattle.rules.specs.Names.{Bytes, Table, table_of}
use Rattle.rules.specs.Reports
use Rattle.rules.specs.TextWriting.{namesIn}
use Rattle.rules.specs.Trees.{var, Con, Binding, ◌≔◌}
use Rattle.rules.specs.declared.Unseen.{Unseen}
use Rattle.rules.specs.declared.Unseen.TheVariants.{NotOpened, NotRead, TooLong}
use Rattle.laws.proofs.Contents.{collect-append}
use Rattle.laws.specs.Lists.{Every}
use Rattle.laws.proofs.Lists.{every_append}
use Rattle.edition.specs.Theorems.{belowBlank, Flat, lineBelow, InLines, PagesInLines, WhysInLines}
use Rattle.edition.specs.Why.{conflictHead, unknownText, lineTold, whyLine, whyShown, conflictOn, whyText}
use Rattle.edition.proofs.Seen.{Seen, none, ◌&◌, lit, name-seen, digits-seen, open-seen, ty-seen, con-seen}

-- ══ What is shown ══

shown-seen : (bs : Bytes) → Seen (map Reports.shown bs)
unfolding Reports.shown any
shown-seen [] = none
shown-seen (b ∷ bs) = record { flat = rw (byte (ltb b 32) (eqb b 127) refl, (shown-seen bs).flat) refl }
  where
    byte : (u v : Bool) → ltb b 32 ≡ u → belowBlank (Reports.shownBy (u || v) b) ≡ false
    byte true v e = refl
    byte false true e = refl
    byte false false e = e

-- dots where the front of a line is cut
cut-seen : (t : Bool) → Seen (Reports.cut t)
unfolding any
cut-seen true = none
cut-seen false = lit "..." refl

blanks-seen : (n : ℕ) → Seen (replicate n 32)
unfolding any
blanks-seen zero = none
blanks-seen (suc n) = lit " " refl & blanks-seen n

rooms-seen : (bs : Bytes) → Seen (collect Reports.room bs)
unfolding collect Reports.room any
rooms-seen [] = none
rooms-seen (b ∷ bs) = room (leb 128 b && ltb b 192) & rooms-seen bs
  where
    room : (t : Bool) → Seen (Reports.roomBy t)
    room true = none
    room false = lit " " refl

quantity-seen : (n : ℕ) (what : Bytes) → Seen what → Seen (Reports.quantity n what)
unfolding Reports.quantity any
quantity-seen n what h = digits-seen 10 n & h & plural (eqb n 1)
  where
    plural : (t : Bool) → Seen (Reports.ending t)
    plural true = none
    plural false = lit "s" refl

every-at : (bs : List Bytes) (i : ℕ) → Every Flat bs → Flat (get_or bs i [])
unfolding any
every-at [] i h = refl
every-at (b ∷ bs) zero h = h.0
every-at (b ∷ bs) (suc i) h = every-at bs i h.1

reason-seen : (n : ℕ) → Seen (Reports.reason n)
unfolding Reports.reason Reports.reasons any
reason-seen n = record {
  flat = every-at Reports.reasons (n - 1)
      (refl, (refl, (refl, (refl, (refl, (refl, (refl, (refl, (refl, (refl, (refl, (refl, tt))))))))))));
}

refused-seen : (n : ℕ) → Seen (Reports.refusedText n)
unfolding Reports.refusedText any
refused-seen n = lit "not accepted (" refl & digits-seen 10 n & lit "): " refl & reason-seen n

-- ══ Lines ══

-- a line that is ended, and then the rest
record Ends (rest bs : Bytes) : Type 0 where
  line : Bytes
  seen : Seen line
  is : bs ≡ line ++ (ascii "\n" ++ rest)

feed : {rest : Bytes} → Ends rest (ascii "\n" ++ rest)
feed = record { line = []; seen = none; is = refl }

infixr 5 ◌▹◌
◌▹◌ : {w rest bs : Bytes} → Seen w → Ends rest bs → Ends rest (w ++ bs)
◌▹◌ {w} {rest} g h = record { line = w ++ h.line; seen = g & h.seen; is = ap (w ++◌) h.is ∙ sym (append_assoc w h.line (ascii "\n" ++ rest)) }

-- lines that begin with two blanks
record Below (bs : Bytes) : Type 0 where
  lines : List Bytes
  flat : Every Flat lines
  is : bs ≡ collect lineBelow lines

nothing : Below []
unfolding collect
nothing = record { lines = []; flat = tt; is = refl }

below : {bs : Bytes} → Ends [] bs → Below (ascii "  " ++ bs)
unfolding collect
below h = record { lines = h.line ∷ []; flat = (h.seen.flat, tt); is = ap (ascii "  " ++◌) h.is ∙ sym (append-nil (lineBelow h.line)) }

infixr 5 ◌⨾◌
◌⨾◌ : {a b : Bytes} → Below a → Below b → Below (a ++ b)
◌⨾◌ {a} {b} g h = record {
  lines = g.lines ++ h.lines;
  flat = every_append Flat g.lines h.lines g.flat h.flat;
  is = rw (g.is, h.is) (sym (collect-append lineBelow g.lines h.lines));
}

each-below : {A : Type 0} (f : A → Bytes) → ((a : A) → Below (f a)) → (xs : List A) → Below (collect f xs)
unfolding collect
each-below f h [] = nothing
each-below f h (x ∷ xs) = h x ⨾ each-below f h xs

part-below : (first : ℕ) (line : Bytes) → Below (Reports.partShown first line)
unfolding Reports.partShown
part-below first line = below (cut-seen (eqb first 0) ▹ shown-seen (take 120 (drop first line)) ▹ feed)

mark-below : (first before : ℕ) (line : Bytes) → Below (Reports.markShown first before line)
unfolding Reports.markShown any
mark-below first before line =
    below (blanks-seen (length (Reports.cut (eqb first 0))) ▹ rooms-seen (take before (drop first line)) ▹ lit "^" refl ▹ feed)

line-below : (column : ℕ) (line : Bytes) → Below (Reports.lineShown column line)
unfolding Reports.lineShown
line-below column line = part-below (Reports.firstShown column) line ⨾ mark-below (Reports.firstShown column) (column - 1 - Reports.firstShown column) line

-- ══ A page ══

module _ (name_of : ℕ → Bytes) (text : Bytes) (cs new : ℕ) where
  binding-below : (b : Binding ℕ) → Below (Reports.bindingLine name_of b)
  unfolding any
  binding-below (x ≔ t) = below (open-seen name_of (var x) ▹ lit " ~ " refl ▹ ty-seen name_of t ▹ feed)

  bound-below : (x : ℕ) → Below (Reports.boundLine name_of x)
  unfolding any
  bound-below x = below (name-seen (name_of x) ▹ lit ": DType" refl ▹ feed)

  left-below : (c : Con ℕ) → Below (Reports.remainingLine name_of c)
  left-below c = below (con-seen name_of c ▹ feed)

  -- the rest of the first line, and the lines below it
  record Told (bs : Bytes) : Type 0 where
    rest : Bytes
    ends : Ends rest bs
    others : Below rest

  told : {rest bs : Bytes} → Ends rest bs → Below rest → Told bs
  told {rest} e b = record { rest = rest; ends = e; others = b }

  unseen-told : (u : Unseen) → Told (Reports.unseenText u)
  unfolding Reports.unseenText any
  unseen-told NotOpened = told (lit "not accepted: the file can't be opened" refl ▹ feed) nothing
  unseen-told NotRead = told (lit "not accepted: the file can't be read" refl ▹ feed) nothing
  unseen-told TooLong = told (lit "not accepted: the file is longer than a sheet's 1,048,576 bytes" refl ▹ feed) nothing

  finding-told : (f : Reports.Finding) → Told (Reports.findingText name_of text cs new f)
  unfolding Reports.findingText any
  finding-told (Reports.unseen u) = unseen-told u
  finding-told (Reports.unread n l c) = told (refused-seen n ▹ feed) (line-below c (Reports.lineIn l text))
  finding-told (Reports.agrees bs ns k) = told
      (lit "accepted: " refl ▹ quantity-seen cs (ascii " constraint") (lit " constraint" refl) ▹ lit ", " refl ▹ quantity-seen k (ascii " round")
      (lit " round" refl)
      ▹ lit ", " refl ▹ quantity-seen new (ascii " new name") (lit " new name" refl) ▹ feed)
      (each-below (Reports.bindingLine name_of) binding-below bs ⨾ each-below (Reports.boundLine name_of) bound-below ns)
  finding-told (Reports.denied i) = told
      (lit "not accepted: it was solved, but the judge says no: a type that is no dimension stands in a product" refl ▹ feed)
      (part-below 0 (Reports.lineIn (Reports.constraintLine i text) text))
  finding-told (Reports.unjudged n) = told (refused-seen n ▹ lit ", by the judge" refl ▹ feed) nothing
  finding-told (Reports.remains ds k) = told
      (refused-seen 5 ▹ lit " after " refl ▹ quantity-seen k (ascii " round") (lit " round" refl) ▹ feed)
      (each-below (Reports.remainingLine name_of) left-below ds)
  finding-told (Reports.stops n k) = told (refused-seen n ▹ lit ", after " refl ▹ quantity-seen k (ascii " round") (lit " round" refl) ▹ feed) nothing

  place-seen : (f : Reports.Finding) → Seen (Reports.placeText text f)
  unfolding Reports.placeText any
  place-seen (Reports.unseen u) = none
  place-seen (Reports.unread n l c) = lit ":" refl & digits-seen 10 l & lit ":" refl & digits-seen 10 c
  place-seen (Reports.agrees bs ns k) = none
  place-seen (Reports.denied i) = lit ":" refl & digits-seen 10 (Reports.constraintLine i text)
  place-seen (Reports.unjudged n) = none
  place-seen (Reports.remains ds k) = none
  place-seen (Reports.stops n k) = none

  pub report-in-lines : (name : Bytes) (f : Reports.Finding) → InLines name (Reports.reportText name_of name text cs new f)
  unfolding Reports.reportText any
  report-in-lines name f =
      let t = finding-told f in
      let e = place-seen f ▹ lit ": " refl ▹ t.ends in
      record {
        told = e.line;
        below = t.others.lines;
        is = ap (map Reports.shown name ++◌) (rw (← t.others.is) e.is);
        first = (shown-seen name & e.seen).flat;
        others = t.others.flat;
      }

-- ══ The pages of an edition ══

page-in-lines : (t : Table) (p : Reports.Page) → InLines p.name (Reports.pageText t p)
unfolding Reports.pageText
page-in-lines t p = report-in-lines (namesIn t) p.text (Reports.constraintsIn p.content) p.new p.name (Reports.findingOf t p.content)

all-in-lines : (t : Table) (ps : List Reports.Page) → Every (λ p. InLines p.name (Reports.pageText t p)) ps
all-in-lines t [] = tt
all-in-lines t (p ∷ ps) = (page-in-lines t p, all-in-lines t ps)

pub pages-in-lines : PagesInLines
pages-in-lines pool table files = let e = Reports.editionGiven pool table files in all-in-lines (table_of e.pool e.table) e.pages

-- ══ Pages with their why ══

part-ends : (line : Bytes) → Ends [] (Reports.partShown 0 line)
unfolding Reports.partShown any
part-ends line = lit "  " refl ▹ cut-seen (eqb 0 0) ▹ shown-seen (take 120 (drop 0 line)) ▹ feed

head-below : Below conflictHead
unfolding conflictHead any
head-below = below (lit "these lines conflict, and without any one of them the others don't:" refl ▹ feed)

unknown-below : (n : ℕ) → Below (unknownText n)
unfolding unknownText any
unknown-below n = below (lit "looking for lines that conflict: " refl ▹ refused-seen n ▹ feed)

module _ (name text : Bytes) where
  line-told-below : (n : ℕ) → Below (lineTold name text n)
  unfolding any
  line-told-below n = below (shown-seen name ▹ (lit ":" refl & digits-seen 10 n & lit ":" refl) ▹ part-ends (Reports.lineIn n text))

  why-line-below : (k : ℕ) → Below (whyLine name text k)
  unfolding whyLine
  why-line-below k = line-told-below (Reports.constraintLine k text)

  why-below : (m : Got (may.Option (List (Line ℕ)))) → Below (whyShown name text m)
  why-below (got may.none) = nothing
  why-below (got (may.some ls)) = head-below ⨾ each-below (whyLine name text) why-line-below (map (λ l. l.0) ls)
  why-below (refused n) = unknown-below n

more-below : {name page bs : Bytes} → InLines name page → Below bs → InLines name (page ++ bs)
more-below {name} {page} {bs} h b = record {
  told = h.told;
  below = h.below ++ b.lines;
  is = rw (h.is, b.is, collect-append lineBelow h.below b.lines) (simp append_assoc);
  first = h.first;
  others = every_append Flat h.below b.lines h.others b.flat;
}

why-in-lines : (t : Table) (p : Reports.Page) → InLines p.name (Reports.pageText t p ++ whyText t p)
unfolding whyText
why-in-lines t p = more-below (page-in-lines t p) (why-below p.name p.text (conflictOn t p.content))

all-whys-in-lines : (t : Table) (ps : List Reports.Page) → Every (λ p. InLines p.name (Reports.pageText t p ++ whyText t p)) ps
all-whys-in-lines t [] = tt
all-whys-in-lines t (p ∷ ps) = (why-in-lines t p, all-whys-in-lines t ps)

pub whys-in-lines : WhysInLines
whys-in-lines pool table files = let e = Reports.editionGiven pool table files in all-whys-in-lines (table_of e.pool e.table) e.pages
