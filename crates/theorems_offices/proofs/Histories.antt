-- What an office was given, after any history of entries by both offices: numbers whose names are those that it entered.
use Rattle.std.specs.Prelude.{◌≡◌, refl, Bool, true, false, ◌&&◌, List, [], ◌∷◌, ◌++◌, map, ℕ, ◌<◌, leb, length, get_or}
use Rattle.std.proofs.Common.{ap, ap₂, sym, ◌∙◌, append-nil, append_assoc, arith, lt-ltb, leb-true, length-append}
use Rattle.std.proofs.Math.ListN.{get_or-append}
use Rattle.std.proofs.lemmas.List.{get_or_at}
use Rattle.rules.specs.Base.{Got, got, refused, all}
use Rattle.rules.specs.Names.{Bytes, Table, names_of, is_held, enterChecks, enterChecked, enterNew, Entered, enter}
use Rattle.rules.specs.Offices.{Name, named, nameNo, mapGot, Office, sameOffice, Entering, Shared, tableIn, entered, afterAll, namesBy, answered}
use Rattle.rules.specs.Offices.{answersTo, answerFor, noThree, hadRoom}
use Rattle.laws.specs.Lists.{and_left, and_right}
use Rattle.laws.proofs.Alike.{Alike, both, neither}
use Rattle.laws.proofs.Lists.{true≢false}
use Rattle.laws.specs.NameTable.{Good}
use Rattle.laws.proofs.NameTable.{good-given, held-is, new_is, good-laid, length-names}
use Rattle.laws.proofs.Entering.{Enters, Case, stopped, known, full, new, enter-case, names-with, good-with, pass-checks, Passed}

abbrev pub GoodIn : Shared → Type 0
GoodIn s = Good s.pool s.table

-- ══ Names stay ══

-- a later state has the same names under the same numbers, and perhaps more
pub record Grown (s s' : Shared) : Type 0 where
  pub good : GoodIn s'
  pub more : List Bytes
  pub names : names_of (tableIn s') ≡ names_of (tableIn s) ++ more

grown-same : (s : Shared) → GoodIn s → Grown s s
grown-same s g = record { good = g; more = []; names = sym (append-nil (names_of (tableIn s))) }

pub grown-entry : (s : Shared) → GoodIn s → (n : Bytes) → Grown s (entered s n)
unfolding entered
grown-entry s g n = go (enter-case s.pool s.table n)
  where
    go : Case s.pool s.table n → Grown s (entered s n)
    go (stopped k z e) = rw (entered, e) (grown-same s g)
    go (known i a e) = rw (entered, e) (grown-same s g)
    go (full h a m e) = rw (entered, e) (grown-same s g)
    go (new en e) = rw (entered, e) (record { good = good-with en; more = n ∷ []; names = names-with en })

grown-all : (es : List Entering) (s : Shared) → GoodIn s → Grown s (afterAll s es)
unfolding afterAll
grown-all [] s g = grown-same s g
grown-all (e ∷ es) s g =
    let a = grown-entry s g e.name in
    let b = grown-all es (entered s e.name) a.good in
    record {
      good = b.good;
      more = a.more ++ b.more;
      names = b.names ∙ ap (λ (ns : List Bytes). ns ++ b.more) a.names
          ∙ append_assoc (names_of (tableIn s)) a.more b.more;
    }

pub good-after : (es : List Entering) (s : Shared) → GoodIn s → GoodIn (afterAll s es)
good-after es s g = (grown-all es s g).good

-- ══ One entry ══

-- the number that a table has for a name
pub data NumberOf (t : Table) : ℕ → Name → Type 0 where
  number : (i : ℕ) (n : Bytes) → i < length (names_of t) → get_or (names_of t) i [] ≡ n → NumberOf t i (named n)

-- an answer that is such a number, or the refusal of the name
abbrev pub Stands : Table → Got ℕ → Got Name → Type 0
Stands t = Alike (NumberOf t)

stays : (s s' : Shared) → Grown s s' → (a : Got ℕ) (x : Got Name) → Stands (tableIn s) a x → Stands (tableIn s') a x
stays s s' g a x neither = neither
stays s s' g a x (both (number i n h e)) = both (number i n (rw (g.names, length-append (names_of (tableIn s)) g.more) (omega (arith, h)))
    (ap (λ (ns : List Bytes). get_or ns i []) g.names ∙ get_or-append (names_of (tableIn s)) g.more [] i h ∙ e))

name-held : (t : Table) (i : ℕ) (n : Bytes) → is_held t i ≡ true → get_or (names_of t) i [] ≡ n → nameNo t i ≡ named n
unfolding nameNo
name-held t i n h e = rw (h, e)

pub name-is : (s : Shared) → GoodIn s → (a : Got ℕ) (x : Got Name) → Stands (tableIn s) a x → mapGot (nameNo (tableIn s)) a ≡ x
name-is s g a x neither = refl
name-is s g a x (both (number i n h e)) = ap got
    (name-held (tableIn s) i n (held-is s.pool s.table i ∙ lt-ltb i (get_or s.table 0 0) (omega (arith, h, length-names (good-laid g)))) e)

new-number : (pool table : List ℕ) (n : Bytes) → Enters pool table n → mapGot (λ a. a.0) (enterNew pool table n).answer ≡ got (get_or table 0 0)
new-number pool table n en = ap (λ (r : Entered). mapGot (λ a. a.0) r.answer) (new_is (good-laid en.good) n)

-- a name of a length that is refused
entry-refused : (s : Shared) → GoodIn s → (n : Bytes) → (leb 1 (length n) && leb (length n) 48) ≡ false → answered s n ≡ refused 2
unfolding enter enterChecked enterChecks
entry-refused s g n e = rw (enter, enterChecked, good-given g, e)

entry-passed : (s : Shared) → GoodIn s → (n : Bytes) → (leb 1 (length n) && leb (length n) 48) ≡ true → noThree (answered s n) ≡ true
    → Stands (tableIn (entered s n)) (answered s n) (got (named n))
unfolding entered
entry-passed s g n t h = go (enter-case s.pool s.table n)
  where
    passed : Passed s.pool s.table n
    passed = record {
      good = g;
      long = leb-true 1 (length n) (and_left (leb 1 (length n)) _ t);
      short = leb-true (length n) 48 (and_right (leb 1 (length n)) _ t);
    }

    go : Case s.pool s.table n → Stands (tableIn (entered s n)) (answered s n) (got (named n))
    go (stopped k z e) = absurd (let y : ◌≡◌ {A = ℕ} 0 1 = cc (pass-checks s.pool s.table n passed) in omega arith)
    go (known i a e) = rw (entered, e) (both (number i n (omega (arith, a.held, length-names (good-laid g))) a.name))
    go (full q a m e) = absurd (true≢false (sym h ∙ ap (λ (r : Entered). noThree (mapGot (λ a. a.0) r.answer)) e))
    go (new en e) = rw (entered, e, new-number s.pool s.table n en)
        (both (number (get_or s.table 0 0) n (rw (names-with en, length-append (names_of (tableIn s)) (n ∷ [])) (omega (arith, length-names (good-laid g))))
        (ap (λ (ns : List Bytes). get_or ns (get_or s.table 0 0) []) (names-with en)
        ∙ get_or_at (names_of (tableIn s)) n [] [] (get_or s.table 0 0) (length-names (good-laid g)))))

pub entry-stands : (s : Shared) → GoodIn s → (n : Bytes) → noThree (answered s n) ≡ true → Stands (tableIn (entered s n)) (answered s n) (answerFor n)
entry-stands s g n h = go (leb 1 (length n) && leb (length n) 48) refl
  where
    go : (b : Bool) → (leb 1 (length n) && leb (length n) 48) ≡ b → Stands (tableIn (entered s n)) (answered s n) (answerFor n)
    go true e = rw e (entry-passed s g n e h)
    go false e = rw (e, entry-refused s g n e) neither

-- ══ A whole history ══

module _ (o : Office) (s : Shared) (e : Entering) (es : List Entering) where
  answers-own : sameOffice o e.by ≡ true → answersTo o s (e ∷ es) ≡ answered s e.name ∷ answersTo o (entered s e.name) es
  unfolding answersTo
  answers-own h = rw (answersTo, h)

  answers-other : sameOffice o e.by ≡ false → answersTo o s (e ∷ es) ≡ answersTo o (entered s e.name) es
  unfolding answersTo
  answers-other h = rw (answersTo, h)

  names-own : sameOffice o e.by ≡ true → namesBy o (e ∷ es) ≡ e.name ∷ namesBy o es
  unfolding namesBy
  names-own h = rw (namesBy, h)

  names-other : sameOffice o e.by ≡ false → namesBy o (e ∷ es) ≡ namesBy o es
  unfolding namesBy
  names-other h = rw (namesBy, h)

one_more : (o : Office) (s : Shared) (e : Entering) (es : List Entering) → GoodIn s → sameOffice o e.by ≡ true
    → (hadRoom (answersTo o (entered s e.name) es) ≡ true
    → map (mapGot (nameNo (tableIn (afterAll (entered s e.name) es)))) (answersTo o (entered s e.name) es) ≡ map answerFor (namesBy o es))
    → hadRoom (answersTo o s (e ∷ es)) ≡ true
    → map (mapGot (nameNo (tableIn (afterAll (entered s e.name) es)))) (answersTo o s (e ∷ es)) ≡ map answerFor (namesBy o (e ∷ es))
unfolding hadRoom all
one_more o s e es g q r h =
    let a = answered s e.name in
    let k : noThree a && all noThree (answersTo o (entered s e.name) es) ≡ true = rw (answers-own o s e es q) at h in
    let d = entry-stands s g e.name (and_left (noThree a) _ k) in
    let b = grown-all es (entered s e.name) (grown-entry s g e.name).good in
    let n = name-is (afterAll (entered s e.name) es) b.good a (answerFor e.name)
    (stays (entered s e.name) (afterAll (entered s e.name) es) b a (answerFor e.name) d) in
    rw (answers-own o s e es q, names-own o s e es q) (ap₂ (λ (x : Got Name) (xs : List (Got Name)). x ∷ xs) n (r (and_right (noThree a) _ k)))

-- what an office was answered, read with the names at the end, is what its names are answered
pub all_named : (o : Office) (es : List Entering) (s : Shared) → GoodIn s → hadRoom (answersTo o s es) ≡ true
    → map (mapGot (nameNo (tableIn (afterAll s es)))) (answersTo o s es) ≡ map answerFor (namesBy o es)
unfolding afterAll answersTo namesBy
all_named o [] s g h = refl
all_named o (e ∷ es) s g h = go (sameOffice o e.by) refl (all_named o es (entered s e.name) (grown-entry s g e.name).good)
  where
    go : (b : Bool) → sameOffice o e.by ≡ b
        → (hadRoom (answersTo o (entered s e.name) es) ≡ true
        → map (mapGot (nameNo (tableIn (afterAll (entered s e.name) es)))) (answersTo o (entered s e.name) es) ≡ map answerFor (namesBy o es))
        → map (mapGot (nameNo (tableIn (afterAll (entered s e.name) es)))) (answersTo o s (e ∷ es)) ≡ map answerFor (namesBy o (e ∷ es))
    go false q r = rw (answers-other o s e es q, names-other o s e es q) (r (rw (answers-other o s e es q) at h))
    go true q r = one_more o s e es g q r h
