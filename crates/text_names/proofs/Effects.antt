-- What follows from the definitions of specs/Effects: what a step of a sheet's meaning did to all that is lent, and steps in turn.
use Rattle.std.specs.Prelude.{◌≡◌, refl, Bool, true, false, List, [], ◌∷◌, ◌++◌, ℕ, suc, ◌+◌, ◌-◌, ◌*◌, ◌≤◌, ◌<◌, leb, length, drop, Err}
use Rattle.std.specs.Prelude.{Ok}
use Rattle.std.proofs.Common.{sym, ap, subst, ◌∙◌, append-nil, arith, leb-true, leb-false, le-leb, length-append}
use Rattle.std.proofs.lemmas.Bool.{lt-leb}
use Rattle.std.proofs.lemmas.List.Edits.{sets}
use Rattle.std.proofs.Math.Seq.{length-sets}
use Rattle.rules.specs.Names.{Bytes, table_of, names_of}
use Rattle.rules.specs.Refusals.{number_of}
use Rattle.rules.specs.Grammar.{here, beyond, read, Rule}
use Rattle.rules.specs.Writing.{Rec, words}
use Rattle.rules.specs.TextReading.{Sofar, Told, told, refusedAt, Step, onward, give, counted}
use Rattle.rules.specs.declared.Refusal.{Refusal}
use Rattle.rules.specs.declared.Refusal.TheVariants.{TooLarge}
use Rattle.laws.specs.NameTable.{Good}
use Rattle.laws.proofs.Size.{words_append, words-length}
use Rattle.records.proofs.Stores.{sets-append, sets-before}
use Rattle.records.specs.Views.{recOf}
use Rattle.records.specs.declared.View.{View}
use Rattle.text_grammar.specs.declared.inner.Point.TheVariants as point
use Rattle.text_grammar.specs.declared.inner.Point.{Point}
use Rattle.text_grammar.specs.Points.{Reads, PointIn, from, standing, columnAt}
use Rattle.text_grammar.proofs.Points.{NotAt}
use Rattle.text_grammar.proofs.Signs.{bad≢read}
use Rattle.text_names.specs.Stands.{Stand, not-both, place_of, Few, countIf, countOf, Above, headPut}
use Rattle.text_names.proofs.Stands.{same-going, same-refused}
use Rattle.text_names.specs.Stands as stand
use Rattle.text_names.specs.Effects.{Lent, lent, sofar, Room, Roomy, Halted, Ready, Kept, Did, Effect, NotBad, Done, kept_then}

-- ══ Steps in turn ══

-- a step from one known stand to another, and one that is refused
pub did : {B : Type 0} {m : Step B} {T : B → List Rec → Type 0} {x y : Lent} {k n k' n' : ℕ} → x.stand ≡ stand.Going k n → y.stand ≡ stand.Going k' n'
    → Did m T x y k n k' n' → Effect m T x y
did {B} {m} {T} {x} {y} {k} {n} {k'} {n'} e f d = record {
  does = λ i j i' j' p q. let v = same-going e p in let w = same-going f q in rw (← v.0, ← v.1, ← w.0, ← w.1) d;
  refuses = λ i j c r p q. absurd (not-both q f);
}

pub stops : {B : Type 0} {m : Step B} {T : B → List Rec → Type 0} {x y : Lent} {k n c : ℕ} {r : Refusal} → x.stand ≡ stand.Going k n
    → y.stand ≡ stand.Refused r c
    → m (sofar x k n) ≡ refusedAt (number_of r) (suc c) → Effect m T x y
stops {B} {m} {T} {x} {y} {k} {n} {c} {r} e f d = record {
  does = λ i j i' j' p q. absurd (not-both f q);
  refuses = λ i j c' r' p q. let v = same-going e p in let w = same-refused f q in rw (← v.0, ← v.1, ← w.0, ← w.1) d;
}

-- of a sheet that was refused before nothing is said
pub unmoved : {B : Type 0} {m : Step B} {T : B → List Rec → Type 0} {x y : Lent} {c : ℕ} {r : Refusal} → x.stand ≡ stand.Refused r c → Effect m T x y
unmoved e = record { does = λ i j i' j' p q. absurd (not-both e p); refuses = λ i j c r p q. absurd (not-both e p) }

-- records behind records
written_next : (d d₁ d₂ : List ℕ) (n m : ℕ) (rs qs : List Rec) → d₁ ≡ sets d (n * 4) (words rs) → m ≡ n + length rs → d₂ ≡ sets d₁ (m * 4) (words qs)
    → d₂ ≡ sets d (n * 4) (words (rs ++ qs))
written_next d d₁ d₂ n m rs qs e f g =
    let i : m * 4 ≡ n * 4 + length (words rs) = omega (arith, words-length rs) in
    g ∙ rw (e, i) (sym (sets-append (words rs) (words qs) d (n * 4))) ∙ ap (sets d (n * 4)) (sym (words_append rs qs))

module _ {A B : Type 0} (m : Step A) (f : A → Step B) {T : A → List Rec → Type 0} {W : B → List Rec → Type 0} {x y z : Lent} where
  -- a step, and then another by what was told
  pub then : Effect m T x y → Kept y z → ((a : A) (rs : List Rec) → T a rs → Effect (f a) (λ b qs. W b (rs ++ qs)) y z) → Effect (λ s. onward (m s) f) W x z
  then e k g = record { does = λ i n i' n' p q. done i n i' n' p q y.stand refl; refuses = λ i n c r p q. stopped i n c r p q y.stand refl }
    where
      done : (i n i' n' : ℕ) → x.stand ≡ stand.Going i n → z.stand ≡ stand.Going i' n' → (s : Stand) → y.stand ≡ s → Did (λ s. onward (m s) f) W x z i n i' n'
      done i n i' n' p q (Err stop) h = absurd (not-both (k.refused stop.why stop.at h) q)
      done i n i' n' p q (Ok tally) h =
          let a = e.does i n tally.names tally.records p h in
          let b = (g a.value a.records a.tells).does tally.names tally.records i' n' h q in
          record {
            value = b.value;
            records = a.records ++ b.records;
            is = ap (λ (t : Told A). onward t f) a.is ∙ b.is;
            tells = b.tells;
            written = written_next x.dst y.dst z.dst n tally.records a.records b.records a.written a.grown b.written;
            grown = omega (arith, a.grown, b.grown, length-append a.records b.records);
          }

      stopped : (i n c : ℕ) (r : Refusal) → x.stand ≡ stand.Going i n → z.stand ≡ stand.Refused r c → (s : Stand) → y.stand ≡ s
          → onward (m (sofar x i n)) f ≡ refusedAt (number_of r) (suc c)
      stopped i n c r p q (Err stop) h =
          let w = same-refused (k.refused stop.why stop.at h) q in
          ap (λ (t : Told A). onward t f) (e.refuses i n stop.at stop.why p h) ∙ rw (w.0, w.1)
      stopped i n c r p q (Ok tally) h =
          let a = e.does i n tally.names tally.records p h in
          ap (λ (t : Told A). onward t f) a.is ∙ (g a.value a.records a.tells).refuses tally.names tally.records c r h q

-- a step that does nothing
pub gives : {B : Type 0} {W : B → List Rec → Type 0} {x : Lent} (b : B) → W b [] → Effect (give b) W x x
unfolding words
gives {B} {W} {x} b h = record {
  does = λ i n i' n' p q. let w = same-going p q in rw (← w.0, ← w.1) (record {
    value = b;
    records = [];
    is = refl;
    tells = h;
    written = refl;
    grown = omega arith;
  });
  refuses = λ i n c r p q. absurd (not-both q p);
}

-- a value mapped
pub maps : {A B : Type 0} (m : Step A) (g : A → B) {T : A → List Rec → Type 0} {W : B → List Rec → Type 0} {x y : Lent} → Kept y y → Effect m T x y
    → ((a : A) (rs : List Rec) → T a rs → W (g a) rs)
    → Effect (λ s. onward (m s) (λ a. give (g a))) W x y
maps m g {T} {W} {x} {y} k e h = then m (λ a. give (g a)) e k (λ a rs t. gives (g a) (subst (W (g a)) (sym (append-nil rs)) (h a rs t)))

-- the same step, written in another way
pub alike : {B : Type 0} {m m' : Step B} {T : B → List Rec → Type 0} {x y : Lent} → ((s : Sofar) → m' s ≡ m s) → Effect m T x y → Effect m' T x y
alike {B} {m} {m'} {T} {x} {y} h e = record {
  does = λ i n i' n' p q. let d = e.does i n i' n' p q in record {
    value = d.value;
    records = d.records;
    is = h (sofar x i n)
        ∙ d.is;
    tells = d.tells;
    written = d.written;
    grown = d.grown;
  };
  refuses = λ i n c r p q. h (sofar x i n) ∙ e.refuses i n c r p q;
}

-- less is told
pub tells-less : {B : Type 0} {m : Step B} {T W : B → List Rec → Type 0} {x y : Lent} → ((b : B) (rs : List Rec) → T b rs → W b rs) → Effect m T x y
    → Effect m W x y
tells-less {B} {m} {T} {W} {x} {y} h e = record {
  does = λ i n i' n' p q. let d = e.does i n i' n' p q in record {
    value = d.value;
    records = d.records;
    is = d.is;
    tells = h d.value d.records d.tells;
    written = d.written;
    grown = d.grown;
  };
  refuses = e.refuses;
}

-- steps grouped to the left, as a chain of `>>` and `>>=` is
pub grouped : {A B C : Type 0} (m : Step A) (f : A → Step B) (g : B → Step C) (s : Sofar) → onward (onward (m s) f) g ≡ onward (m s) (λ a t. onward (f a t) g)
grouped m f g s = go (m s)
  where
    go : (t : Told _) → onward (onward t f) g ≡ onward t (λ a u. onward (f a u) g)
    go (told a u) = refl
    go (refusedAt n c) = refl

-- ══ What is kept ══

pub kept_same : {x : Lent} → Good x.pool x.table → Roomy x.table x.stand → Kept x x
kept_same {x} g h = record {
  good = g;
  more = [];
  names = sym (append-nil (names_of (table_of x.pool x.table)));
  held = omega arith;
  pool-long = refl;
  table-long = refl;
  dst-long = refl;
  pool-behind = refl;
  table-behind = refl;
  refused = λ r c e. e;
  above = λ k n k' n' p q. let w = same-going p q in omega arith;
  room = h;
}

pub roomy : {table : List ℕ} {k n : ℕ} → Room table k n → Roomy table (stand.Going k n)
roomy r i j e = let v = same-going refl e in record { names = omega (arith, r.names, v.0); records = omega (arith, r.records, v.1) }

pub kept-last : {x y : Lent} → Kept x y → Kept y y
kept-last k = kept_same k.good k.room

-- only the stand changed: to a refusal, if at all
pub kept-stopped : {pool table dst : List ℕ} {s s' : Stand} → Good pool table → Roomy table s
    → ((r : Refusal) (c : ℕ) → s ≡ stand.Refused r c → s' ≡ stand.Refused r c)
    → ((k n : ℕ) → s' ≡ stand.Going k n → s ≡ stand.Going k n) → Kept (lent pool table dst s) (lent pool table dst s')
kept-stopped {pool} {table} g h f i = record {
  good = g;
  more = [];
  names = sym (append-nil (names_of (table_of pool table)));
  held = omega arith;
  pool-long = refl;
  table-long = refl;
  dst-long = refl;
  pool-behind = refl;
  table-behind = refl;
  refused = f;
  above = λ k n k' n' p q. let w = same-going p (i k' n' q) in omega (arith, w.1);
  room = λ k n q. h k n (i k n q);
}

-- only the buffer was written to
pub kept-written : {x y : Lent} {d : List ℕ} → Kept x y → length d ≡ length y.dst → Kept x (lent y.pool y.table d y.stand)
kept-written k e = record {
  good = k.good;
  more = k.more;
  names = k.names;
  held = k.held;
  pool-long = k.pool-long;
  table-long = k.table-long;
  dst-long = e ∙ k.dst-long;
  pool-behind = k.pool-behind;
  table-behind = k.table-behind;
  refused = k.refused;
  above = k.above;
  room = k.room;
}

-- ══ Records that are counted ══

abbrev pub countedIn : ℕ → ℕ → Lent → Lent
countedIn k at x = lent x.pool x.table x.dst (countOf k at x.stand)

-- how counting ends where the sheet was going on
pub data Counts (k at f n : ℕ) : Stand → Type 0 where
  fits : n + k ≤ 2048 → Counts k at f n (stand.Going f (n + k))
  over : 2048 < n + k → Counts k at f n (stand.Refused TooLarge at)

pub counts : (k at f n : ℕ) (s : Stand) → s ≡ stand.Going f n → Counts k at f n (countOf k at s)
counts k at f n s e = subst (λ (t : Stand). Counts k at f n (countOf k at t)) (sym e) (go (leb (n + k) 2048) refl)
  where
    go : (b : Bool) → leb (n + k) 2048 ≡ b → Counts k at f n (countIf b at f (n + k))
    go true h = fits (leb-true (n + k) 2048 h)
    go false h = over (leb-false (n + k) 2048 h)

pub counted-fits : (k c : ℕ) (s : Sofar) → s.records + k ≤ 2048 → counted k c s ≡ told tt
    (record { pool = s.pool; table = s.table; fresh = s.fresh; records = s.records + k })
unfolding counted
counted-fits k c s h = rw (le-leb (s.records + k) 2048 h, counted)

pub counted-over : (k c : ℕ) (s : Sofar) → 2048 < s.records + k → counted k c s ≡ refusedAt 8 c
unfolding counted
counted-over k c s h = rw (lt-leb (s.records + k) 2048 h, counted)

pub record CountedTo (k at f n : ℕ) (x : Lent) (i j : ℕ) : Type 0 where
  pub is : counted k (suc at) (sofar x f n) ≡ told tt (sofar x i j)
  pub fresh : i ≡ f
  pub records : j ≡ n + k
  pub few : j ≤ 2048

module _ (k at f n : ℕ) (x : Lent) (e : x.stand ≡ stand.Going f n) where
  pub counted-going : (i j : ℕ) → countOf k at x.stand ≡ stand.Going i j → CountedTo k at f n x i j
  counted-going i j h = go (countOf k at x.stand) h (counts k at f n x.stand e)
    where
      go : (s : Stand) → s ≡ stand.Going i j → Counts k at f n s → CountedTo k at f n x i j
      go _ q (fits l) =
          let w = same-going refl q in
          rw (← w.0, ← w.1) (record { is = counted-fits k (suc at) (sofar x f n) l; fresh = refl; records = refl; few = l })
      go _ q (over l) = absurd (not-both refl q)

  pub counted-refused : (c : ℕ) (r : Refusal) → countOf k at x.stand ≡ stand.Refused r c → counted k (suc at) (sofar x f n) ≡ refusedAt (number_of r) (suc c)
  counted-refused c r h = go (countOf k at x.stand) h (counts k at f n x.stand e)
    where
      go : (s : Stand) → s ≡ stand.Refused r c → Counts k at f n s → counted k (suc at) (sofar x f n) ≡ refusedAt (number_of r) (suc c)
      go _ q (fits l) = absurd (not-both q refl)
      go _ q (over l) = let w = same-refused q refl in counted-over k (suc at) (sofar x f n) l ∙ rw (w.0, w.1)

pub kept-counted : {x : Lent} (k at : ℕ) → Good x.pool x.table → Roomy x.table x.stand → Kept x (countedIn k at x)
kept-counted {x} k at g h = record {
  good = g;
  more = [];
  names = sym (append-nil (names_of (table_of x.pool x.table)));
  held = omega arith;
  pool-long = refl;
  table-long = refl;
  dst-long = refl;
  pool-behind = refl;
  table-behind = refl;
  refused = λ r c e. ap (countOf k at) e;
  above = λ i n i' n' p q. let w = counted-going k at i n x p i' n' q in omega (arith, w.records);
  room = λ i n q. go i n q x.stand refl;
}
  where
    go : (i n : ℕ) → countOf k at x.stand ≡ stand.Going i n → (s : Stand) → x.stand ≡ s → Room x.table i n
    go i n q (Err stop) p = absurd (not-both (ap (countOf k at) p) q)
    go i n q (Ok tally) p = let w = counted-going k at tally.names tally.records x p i n q in let r = h tally.names tally.records p in
        record { names = omega (arith, w.fresh, r.names); records = w.few }

-- ══ A record before its parts ══

head-before : (d : List ℕ) (n : ℕ) (r : Rec) (rs : List Rec) → sets (sets d ((n + 1) * 4) (words rs)) (n * 4) (words (r ∷ [])) ≡ sets d (n * 4) (words (r ∷ rs))
head-before d n r rs =
    let i : (n + 1) * 4 ≡ n * 4 + length (words (r ∷ [])) = omega (arith, words-length (r ∷ [])) in
    rw i (sets-before (words (r ∷ [])) (words rs) d (n * 4)) ∙ ap (sets d (n * 4)) (sym (words_append (r ∷ []) rs))

head-written : (v : View) (d d₁ d₂ : List ℕ) (n l m : ℕ) (rs : List Rec) → l ≡ n + 1 → d₁ ≡ sets d (l * 4) (words rs) → m ≡ l + length rs
    → d₂ ≡ sets d₁ (n * 4) (words (recOf v (m - n) ∷ [])) → d₂ ≡ sets d (n * 4) (words (recOf v (suc (length rs)) ∷ rs))
head-written v d d₁ d₂ n l m rs a b g h =
    let o : m - n ≡ suc (length rs) = omega arith in
    let i : d₁ ≡ sets d ((n + 1) * 4) (words rs) = b ∙ ap (λ (j : ℕ). sets d (j * 4) (words rs)) a in
    h ∙ ap (λ (j : ℕ). sets d₁ (n * 4) (words (recOf v j ∷ []))) o ∙ ap (λ (e : List ℕ). sets e (n * 4) (words (recOf v (suc (length rs)) ∷ []))) i
    ∙ head-before d n (recOf v (suc (length rs))) rs

module _ {B : Type 0} (v : View) (at : ℕ) (m : Step B) {T W : B → List Rec → Type 0} {x y : Lent} where
  -- a record is counted, its parts are written behind it, and then the record itself, as long as all of it
  pub headed : Kept (countedIn 1 at x) y → Effect m T (countedIn 1 at x) y → ((b : B) (rs : List Rec) → T b rs → W b (recOf v (suc (length rs)) ∷ rs))
      → (d : List ℕ) → d ≡ headPut v x.stand y.stand y.dst → Effect (λ s. onward (counted 1 (suc at) s) (λ u. m)) W x (lent y.pool y.table d y.stand)
  headed k e h d g = record {
    does = λ i n i' n' p q. done i n i' n' p q (countOf 1 at x.stand) refl;
    refuses = λ i n c r p q. stopped i n c r p q (countOf 1 at x.stand) refl;
  }
    where
      put : (i n i' n' : ℕ) → x.stand ≡ stand.Going i n → y.stand ≡ stand.Going i' n' → d ≡ sets y.dst (n * 4) (words (recOf v (n' - n) ∷ []))
      put i n i' n' p q = g ∙ rw (p, q)

      done : (i n i' n' : ℕ) → x.stand ≡ stand.Going i n → y.stand ≡ stand.Going i' n' → (s : Stand) → countOf 1 at x.stand ≡ s
          → Did (λ s. onward (counted 1 (suc at) s) (λ u. m)) W x (lent y.pool y.table d y.stand) i n i' n'
      done i n i' n' p q (Err stop) f = absurd (not-both (k.refused stop.why stop.at f) q)
      done i n i' n' p q (Ok tally) f =
          let w = counted-going 1 at i n x p tally.names tally.records f in
          let a = e.does tally.names tally.records i' n' f q in
          record {
            value = a.value;
            records = recOf v (suc (length a.records)) ∷ a.records;
            is = ap (λ (t : Told (Unit {0})). onward t (λ u. m)) w.is ∙ a.is;
            tells = h a.value a.records a.tells;
            written = head-written v x.dst y.dst d n tally.records n' a.records w.records a.written a.grown (put i n i' n' p q);
            grown = omega (arith, a.grown, w.records);
          }

      stopped : (i n c : ℕ) (r : Refusal) → x.stand ≡ stand.Going i n → y.stand ≡ stand.Refused r c → (s : Stand) → countOf 1 at x.stand ≡ s
          → onward (counted 1 (suc at) (sofar x i n)) (λ u. m) ≡ refusedAt (number_of r) (suc c)
      stopped i n c r p q (Err stop) f =
          let w = same-refused (k.refused stop.why stop.at f) q in
          ap (λ (t : Told (Unit {0})). onward t (λ u. m)) (counted-refused 1 at i n x p stop.at stop.why f) ∙ rw (w.0, w.1)
      stopped i n c r p q (Ok tally) f =
          let w = counted-going 1 at i n x p tally.names tally.records f in
          ap (λ (t : Told (Unit {0})). onward t (λ u. m)) w.is ∙ e.refuses tally.names tally.records c r f q

pub head-long : (v : View) (s r : Stand) (d : List ℕ) → length (headPut v s r d) ≡ length d
head-long v (Ok tally) (Ok tally') d = length-sets d (tally.records * 4) (words (recOf v (tally'.records - tally.records) ∷ []))
head-long v (Ok tally) (Err stop) d = refl
head-long v (Err stop) s d = refl

pub kept_above : {x y : Lent} → Kept x y → Above x.stand y.stand
kept_above k i n i' n' p q = (k.above i n i' n' p q, (k.room i' n' q).records)

-- what is not refused now was not refused before
pub not-bad : {A : Type 0} {P : A → Type 0} {line : Bytes} {p r : Point} {R : Rule A} → Reads line p R P r → NotBad r → NotBad p
not-bad {A} {P} {line} {p} {r} {R} x = go p r x.is
  where
    go : (p r : Point) → from line p R ≡ standing line r x.value → NotBad r → NotBad p
    go (point.At i) r e n = tt
    go point.Deep r e n = tt
    go (point.Bad q) (point.At j) e n = bad≢read e
    go (point.Bad q) point.Deep e n = bad≢read e
    go (point.Bad q) (point.Bad j) e n = n

-- a rule that from a place never goes behind a type nested 65 deep
pub record Inside {A : Type 0} (R : Rule A) : Type 0 where
  pub stays : (c : ℕ) (bs : Bytes) (a : A) → R (here c bs) ≡ read a beyond → ⊥

pub halted-on : {A : Type 0} {P : A → Type 0} {line : Bytes} {p r : Point} {s : Stand} {R : Rule A} → Inside R → Reads line p R P r → Halted p s → Halted r s
halted-on {A} {P} {line} {p} {r} {s} {R} i x h k n e = go p r x.is e (λ q. h k n q)
  where
    go : (p r : Point) → from line p R ≡ standing line r x.value → r ≡ point.Deep → (p ≡ point.Deep → s ≡ stand.Going k n → ⊥) → s ≡ stand.Going k n → ⊥
    go (point.At j) r y f g = λ t. i.stays (suc j) (drop j line) x.value (y ∙ ap (λ (w : Point). standing line w x.value) f)
    go point.Deep r y f g = g refl
    go (point.Bad q) r y f g = λ t. bad≢read (y ∙ ap (λ (w : Point). standing line w x.value) f)

pub halted-counted : {p : Point} {s : Stand} (k at : ℕ) → Halted p s → Halted p (countOf k at s)
halted-counted {p} {s} k at h i n e q = go s (λ f m g. h f m e g) q
  where
    go : (s : Stand) → ((f m : ℕ) → s ≡ stand.Going f m → ⊥) → countOf k at s ≡ stand.Going i n → ⊥
    go (Ok tally) g q = g tally.names tally.records refl
    go (Err stop) g q = not-both refl q

module _ {line : Bytes} {p : Point} {pool table : List ℕ} {s s₁ : Stand} (k at : ℕ) (h : Ready line p pool table s) (e : s₁ ≡ countOf k at s) where
  pub kept-count : (dst : List ℕ) → Kept (lent pool table dst s) (lent pool table dst s₁)
  kept-count dst = rw e (kept-counted k at h.good h.room)

  pub ready-count : Ready line p pool table s₁
  ready-count = record { within = h.within; good = h.good; room = (kept-count []).room; halted = rw e (halted-counted k at h.halted) }

  -- a record that was counted has its place below those of its parts
  pub head-above : {dst : List ℕ} {y : Lent} → Kept (lent pool table dst s₁) y → Above s y.stand
  head-above {dst} o = kept_above (kept_then (kept-count dst) o)

-- where a sheet goes on, there are not too many records
pub ready-few : {line : Bytes} {p : Point} {pool table : List ℕ} {s : Stand} → Ready line p pool table s → Few s
ready-few h = λ k n e. (h.room k n e).records

pub ready_on : {A : Type 0} {P : A → Type 0} {line : Bytes} {p r : Point} {pool table : List ℕ} {s : Stand} {R : Rule A} → Inside R → Reads line p R P r
    → Ready line p pool table s
    → Ready line r pool table s
ready_on i y h = record { within = y.within; good = h.good; room = h.room; halted = halted-on i y h.halted }

pub ready-kept : {line : Bytes} {r : Point} {x y : Lent} → Kept x y → PointIn line r → Halted r y.stand → Ready line r y.pool y.table y.stand
ready-kept k w h = record { within = w; good = k.good; room = k.room; halted = h }

pub ready-next : {A B : Type 0} {line : Bytes} {R : Rule A} {f : A → Step B} {T : B → List Rec → Type 0} {p r : Point} {x y : Lent} → Done line R f T p x r y
    → Ready line r y.pool y.table y.stand
ready-next d = ready-kept d.kept d.reads.within d.halted

-- the place of a sign: where the sheet goes on and the line is not refused, its column is one more
pub at_sign : {B : Type 0} {m : Step B} {T : B → List Rec → Type 0} {x y : Lent} (c : Point) {k : ℕ} → k ≡ columnAt c → NotBad c → Halted c x.stand
    → (k ≡ suc (place_of c) → Effect m T x y) → Effect m T x y
at_sign (point.At i) e n h f = f e
at_sign point.Deep e n h f = record { does = λ i j i' j' p q. absurd (h i j refl p); refuses = λ i j c r p q. absurd (h i j refl p) }
at_sign (point.Bad q) e n h f = absurd n

-- a sheet that doesn't go on: the line is only read on
pub reads_on : {A B : Type 0} {P : A → Type 0} {T : B → List Rec → Type 0} {line : Bytes} {p r : Point} {x : Lent} {R : Rule A} (f : A → Step B)
    → Good x.pool x.table
    → ((k n : ℕ) → x.stand ≡ stand.Going k n → ⊥) → Reads line p R P r → Done line R f T p x r x
reads_on {A} {B} {P} {T} {line} {p} {r} {x} {R} f g h y = record {
  reads = record {
    within = y.within;
    onward = y.onward;
    value = y.value;
    is = y.is;
    holds = λ n. record { does = λ i j i' j' q t. absurd (h i j q); refuses = λ i j d v q t. absurd (h i j q) };
  };
  kept = kept_same g (λ k n q. absurd (h k n q));
  halted = λ k n e q. h k n q;
}

pub only-reads : {A B : Type 0} {P : A → Type 0} {T : B → List Rec → Type 0} {line : Bytes} {p r : Point} {x : Lent} {R : Rule A} {w : Refusal} {c : ℕ}
    (f : A → Step B) → Good x.pool x.table
    → x.stand ≡ stand.Refused w c → Reads line p R P r → Done line R f T p x r x
only-reads f g e y = reads_on f g (λ k n q. not-both e q) y

-- nothing fits: the line is refused, whatever was done
pub ends-bad : {A B : Type 0} {P : A → Type 0} {T : B → List Rec → Type 0} {line : Bytes} {p : Point} {x y : Lent} {R : Rule A} {q : ℕ} (f : A → Step B)
    → Kept x y → Reads line p R P (point.Bad q)
    → Done line R f T p x (point.Bad q) y
ends-bad f k y = record {
  reads = record { within = y.within; onward = y.onward; value = y.value; is = y.is; holds = λ n. absurd n };
  kept = k;
  halted = λ i n h p. cc;
}

-- where no place was read to nothing is done: behind a type nested 65 deep the sheet is refused
pub elsewhere : {A B : Type 0} {P : A → Type 0} {T : B → List Rec → Type 0} {line : Bytes} {x : Lent} {R : Rule A} (p : Point) (f : A → Step B)
    → Ready line p x.pool x.table x.stand
    → NotAt p → Reads line p R P p → Done line R f T p x p x
elsewhere (point.At i) f h n y = absurd (n i refl)
elsewhere point.Deep f h n y = reads_on f h.good (λ k m e. h.halted k m refl e) y
elsewhere (point.Bad q) f h n y = ends-bad f (kept_same h.good h.room) y

pub not-past : {i : ℕ} {s : Stand} → Halted (point.At i) s
not-past k n h p = cc
