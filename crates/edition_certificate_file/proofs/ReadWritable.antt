-- What is read is writable: of each line, that what it leads to is.
use Rattle.std.proofs.Common.{
  ◌≡◌,
  refl,
  sym,
  ap,
  ◌∙◌,
  ◌++◌,
  ◌+◌,
  ◌-◌,
  Bool,
  true,
  false,
  not,
  if◌then◌else◌,
  ℕ,
  List,
  [],
  ◌∷◌,
  zero,
  suc,
  length,
  take,
  drop,
  map,
  eqb,
  arith,
  Result,
  Ok,
  Err,
  Option,
  Some,
  None,
}
use Rattle.std.specs.Prelude.{option_map, IfOk, Vec}
use Rattle.std.specs.declared.alloc.Global.{Global}
use Rattle.std.specs.List.{list_any, list_all, slice_split, onto_first, starts_with}
use Rattle.std.specs.Char.{is_ascii_uppercase}
use Rattle.std.proofs.lemmas.Bool.{and_parts, not-true, or_parts}
use Rattle.std.proofs.lemmas.List.Folds.{list_all-append}
use Rattle.std.proofs.lemmas.List.{map-append}
use Rattle.std.proofs.lemmas.List.Splits.{slice_split-cons_yes, slice_split-cons_no}
use Rattle.std.specs.Cmp.Lexicographic.{same_text}
use lib.Pointwise.{pointwise}
use Rattle.hex.specs.Hex.{decode_sized}
use Rattle.hex.specs.declared.error.FromHexError.{FromHexError}
use Rattle.hex.proofs.HexLemmas.{decode_sized-ok, decode_sized-twice, decode_of-ok}
use Rattle.rules.specs.Base.{any}
use Rattle.rules.specs.Grammar.{ascii}
use Rattle.rules.specs.Names.{Bytes, sameBytes, distinct}
use Rattle.laws.specs.Lists.{Every}
use Rattle.laws.proofs.Contents.{any_append}
use Rattle.laws.proofs.NameTable.{same-no}
use Rattle.edition_certificate_file.specs.declared.Entry.{Entry}
use Rattle.edition_certificate_file.specs.declared.Fault.{Fault}
use Rattle.edition_certificate_file.specs.declared.Fault.TheVariants.{Other, Torn}
use Rattle.edition_certificate_file.specs.Files.{Kept, firstLine, lastLine, keptsText}
use Rattle.edition_certificate_file.specs.Reading.{
  Place,
  between,
  ended,
  named,
  inside,
  Reached,
  decoded,
  allRead,
  betweenRead,
  digestIn,
  insideRead,
  lineRead,
  orLine,
  linesRead,
  endsLine,
  restRead,
  textRead,
  asWritten,
  otherwise,
  certificateRead,
  keptIn,
  isKept,
  lineFeed,
}
use Rattle.edition_certificate_file.specs.Theorems.{Written}
use Rattle.edition_certificate_file.specs.Writable.{onOneLine, isDigest, linesIn, beginsBlank, nameOf, writable, allWritable}
use Rattle.edition_certificate_file.proofs.Splitting.{Flat, asLine}
use Rattle.edition_certificate_file.proofs.Indented.{more-indented}
use Rattle.edition_certificate_file.proofs.SheetLines.{is-digest, sheet}
use Rattle.edition_certificate_file.proofs.Leads.{same-refl}

-- ══ What holds at each place ══

-- the sheets so far are writable
record Sound (ks : List Kept) : Type 0 where
  each : list_all writable ks ≡ true
  apart : distinct (map nameOf ks) ≡ true

record New (ks : List Kept) (name : Bytes) : Type 0 where
  line : Flat name
  new : isKept name ks ≡ false

abbrev There : List Kept → Place → Type 0
There ks between = Unit {0}
There ks ended = Unit {0}
There ks (named name) = New ks name
There ks (inside k) = New ks k.name × (writable k ≡ true)

abbrev Good : Reached → Type 0
Good r = Sound r.0 × There r.0 r.1

abbrev OnSome : Option Reached → Type 0
OnSome None = Unit {0}
OnSome (Some r) = Good r

none-apart : distinct [] ≡ true
unfolding distinct
none-apart = refl

-- ══ Between sheets ══

pub later : {X : Type 0} (p : X → Bool) (n : ℕ) (xs : List X) → list_any p xs ≡ false → list_any p (drop n xs) ≡ false
later p zero xs h = h
later p (suc n) [] h = h
later p (suc n) (x ∷ xs) h = later p n xs (or_parts (p x) (list_any p xs) h).1

between-good : (ks : List Kept) (line : Bytes) → Flat line → Sound ks → OnSome (lineRead (ks, between) line)
unfolding lineRead betweenRead
between-good ks line flat s = go (starts_with eqb line (ascii "sheet ")) (isKept (drop 6 line) ks) refl (pointwise eqb (lastLine (length ks)) line)
  where
    go : (t k : Bool) → isKept (drop 6 line) ks ≡ k → (l : Bool)
        → OnSome (option_map (λ place. (ks, place)) (if t then (if k then None else Some (named (drop 6 line))) else if l then Some ended else None))
    go true true e l = tt
    go true false e l = (s, record { line = later lineFeed 6 line flat; new = e })
    go false k e true = (s, tt)
    go false k e false = tt

-- ══ The line of a digest ══

abbrev Digests : Option (List ℕ) → Type 0
Digests None = Unit {0}
Digests (Some digest) = isDigest digest ≡ true

decoded-good : (text : Bytes) (r : Result (List ℕ) FromHexError) → decode_sized text 32 ≡ r → Digests (decoded r)
decoded-good text (Err f) e = tt
decoded-good text (Ok digest) e =
    let long = decode_sized-ok text 32 digest e in
    let parts = decode_of-ok text digest (sym (decode_sized-twice text 32 long) ∙ e) in
    is-digest digest (omega (arith, parts.2, long)) parts.3

digest-good : (line : Bytes) → Digests (digestIn line)
unfolding digestIn
digest-good line = go (not (starts_with eqb line (ascii "sha256 "))) (list_any is_ascii_uppercase (drop 7 line))
  where
    go : (t c : Bool) → Digests (if t then None else if c then None else decoded (decode_sized (drop 7 line) 32))
    go true c = tt
    go false true = tt
    go false false = decoded-good (drop 7 line) (decode_sized (drop 7 line) 32) refl

named-good : (ks : List Kept) (name line : Bytes) → Sound ks → New ks name → OnSome (lineRead (ks, named name) line)
unfolding lineRead writable
named-good ks name line s n = go (digestIn line) (digest-good line)
  where
    go : (o : Option (List ℕ)) → Digests o
        → OnSome (option_map (λ place. (ks, place)) (option_map (λ digest. inside (record { name = name; digest = digest; lines = [] })) o))
    go None h = tt
    go (Some digest) h = (s, (n, rw (n.line, h) refl))

-- ══ A sheet's end ══

other-name : (a b : Bytes) → pointwise eqb a b ≡ false → sameBytes a b ≡ false
other-name a b h = same-no a b (λ e. let z : true ≡ false = sym (same-refl b) ∙ rw e at h in cc z)

one-more : (ks : List Kept) (k : Kept) → distinct (map nameOf ks) ≡ true → isKept k.name ks ≡ false → distinct (map nameOf ks ++ k.name ∷ []) ≡ true
unfolding distinct any
one-more [] k d h = refl
one-more (j ∷ ks) k d h =
    let apart = and_parts (not (any (sameBytes j.name) (map nameOf ks))) _ d in
    let new = or_parts (pointwise eqb j.name k.name) _ h in
    rw (any_append (sameBytes j.name) (map nameOf ks) (k.name ∷ []), not-true _ apart.0, other-name j.name k.name new.0) (one-more ks k apart.1 new.1)

sound-more : (ks : List Kept) (k : Kept) → Sound ks → New ks k.name → writable k ≡ true → Sound (ks ++ k ∷ [])
sound-more ks k s n w = record {
  each = list_all-append writable ks (k ∷ []) ∙ rw (s.each, w) refl;
  apart = ap distinct (map-append nameOf ks (k ∷ [])) ∙ one-more ks k s.apart n.new;
}

line-more : (k : Kept) (line : Bytes) → writable k ≡ true → Flat line → beginsBlank line ≡ true
    → writable (record { name = k.name; digest = k.digest; lines = k.lines ++ asLine line }) ≡ true
unfolding writable
line-more k line w flat blank =
    let name = and_parts (onOneLine k.name) _ w in
    let rest = and_parts (isDigest k.digest) _ name.1 in
    rw (name.0, rest.0) (more-indented k.lines line rest.1 flat blank)

inside-good : (ks : List Kept) (k : Kept) (line : Bytes) → Flat line → Sound ks → New ks k.name → writable k ≡ true
    → OnSome (lineRead (ks, inside k) line)
unfolding lineRead insideRead
inside-good ks k line flat s n w = go (pointwise eqb line (ascii "end")) (starts_with eqb line (ascii "  ")) refl
  where
    go : (e b : Bool) → beginsBlank line ≡ b → OnSome (if e then Some (ks ++ k ∷ [], between)
        else if b then Some (ks, inside (record { name = k.name; digest = k.digest; lines = k.lines ++ asLine line })) else None)
    go true b h = (sound-more ks k s n w, tt)
    go false true h = (s, (n, line-more k line w flat h))
    go false false h = tt

-- ══ All lines ══

line-good : (r : Reached) (line : Bytes) → Flat line → Good r → OnSome (lineRead r line)
unfolding lineRead
line-good (ks, between) line flat g = between-good ks line flat g.0
line-good (ks, named name) line flat g = named-good ks name line g.0 g.1
line-good (ks, inside k) line flat g = inside-good ks k line flat g.0 g.1.0 g.1.1
line-good (ks, ended) line flat g = tt

abbrev OnKept : Result (List Kept) Fault → Type 0
OnKept (Ok ks) = Sound ks
OnKept (Err f) = Unit {0}

all-good : (r : Reached) → Good r → OnKept (allRead r)
all-good (ks, between) g = tt
all-good (ks, named name) g = tt
all-good (ks, inside k) g = tt
all-good (ks, ended) g = g.0

lines-good : (n : ℕ) (r : Reached) (lines : List Bytes) → Every Flat lines → Good r → OnKept (linesRead n r lines)
unfolding linesRead
lines-good n r [] flat g = all-good r g
lines-good n r (line ∷ lines) flat g = go (lineRead r line) (line-good r line flat.0 g) (λ next. lines-good (n + 1) next lines flat.1)
  where
    go : (o : Option Reached) → OnSome o → ((next : Reached) → Good next → OnKept (linesRead (n + 1) next lines))
        → OnKept (orLine n o (λ next. linesRead (n + 1) next lines))
    go None h f = tt
    go (Some next) h f = f next h

onto-flat : (b : ℕ) (lines : List Bytes) → lineFeed b ≡ false → Every Flat lines → Every Flat (onto_first b lines)
onto-flat b [] h flat = (rw h refl, tt)
onto-flat b (line ∷ lines) h flat = (rw h flat.0, flat.1)

pub cut-flat : (text : Bytes) → Every Flat (slice_split lineFeed text)
cut-flat [] = (refl, tt)
cut-flat (b ∷ text) = go (lineFeed b) refl (cut-flat text)
  where
    go : (t : Bool) → lineFeed b ≡ t → Every Flat (slice_split lineFeed text) → Every Flat (slice_split lineFeed (b ∷ text))
    go true e h = rw (slice_split-cons_yes lineFeed b text e) (refl, h)
    go false e h = rw (slice_split-cons_no lineFeed b text e) (onto-flat b (slice_split lineFeed text) e h)

-- ══ The whole text ══

rest-good : (rest : Bytes) → OnKept (restRead rest)
unfolding restRead
rest-good rest = go (endsLine rest)
  where
    go : (b : Bool) → OnKept (if b then linesRead 2 ([], between) (linesIn rest) else Err Torn)
    go true = lines-good 2 ([], between) (linesIn rest) (cut-flat (take (length rest - 1) rest)) (record { each = refl; apart = none-apart }, tt)
    go false = tt

text-good : (text : Bytes) → OnKept (textRead text)
unfolding textRead
text-good text = go (starts_with eqb text firstLine)
  where
    go : (b : Bool) → OnKept (if b then restRead (drop 28 text) else Err (otherwise text))
    go true = rest-good (drop 28 text)
    go false = tt

abbrev OnWritten : Bytes → Result (List Kept) Fault → Type 0
OnWritten text (Ok ks) = Written text ks
OnWritten text (Err f) = Unit {0}

sound-writable : (ks : List Kept) → Sound ks → allWritable ks ≡ true
unfolding allWritable
sound-writable ks s = rw (s.each, s.apart) refl

written-good : (text : Bytes) → OnWritten text (certificateRead text)
unfolding certificateRead
written-good text = go (textRead text) (text-good text)
  where
    same : (ks : List Kept) → Sound ks → (b : Bool) → pointwise eqb (keptsText ks) text ≡ b → OnWritten text (if b then Ok ks else Err Other)
    same ks s true e = (sym (same_text (keptsText ks) text (sym e)), sound-writable ks s)
    same ks s false e = tt

    go : (r : Result (List Kept) Fault) → OnKept r → OnWritten text (asWritten text r)
    go (Ok ks) s = same ks s (pointwise eqb (keptsText ks) text) refl
    go (Err f) s = tt

pub read-written : (text : Bytes) (ks : List Kept) → certificateRead text ≡ Ok ks → Written text ks
read-written text ks h = rw h at (written-good text)

-- what is read of sheets' text is these sheets only where they are writable
pub read-only-writable : {E : Type 0} (text : Bytes) (ks : List Kept) (r : Result (Result (Vec Entry Global) Fault) E)
    → IfOk r (λ x. keptIn x ≡ certificateRead text) → IfOk r (λ x. keptIn x ≡ Ok ks → allWritable ks ≡ true)
read-only-writable text ks (Ok x) h = λ same. (read-written text ks (sym h ∙ same)).1
read-only-writable text ks (Err e) h = tt

-- a sheet more, which is writable and whose name isn't there yet
pub more-writable : (ks : List Kept) (k : Kept) → allWritable ks ≡ true → isKept k.name ks ≡ false → writable k ≡ true
    → allWritable (ks ++ k ∷ []) ≡ true
unfolding allWritable
more-writable ks k all new w =
    let both = and_parts (list_all writable ks) _ all in
    let so-far : Sound ks = record { each = both.0; apart = both.1 } in
    sound-writable (ks ++ k ∷ []) (sound-more ks k so-far (record { line = (sheet k w).name; new = new }) w)

-- no sheet
pub none-writable : allWritable [] ≡ true
unfolding allWritable
none-writable = rw none-apart refl
