-- Reading text over two tables: the steps of two readings, side by side. Both go on, to values that are alike; both are refused, alike; or one meets 3.
use Rattle.std.specs.Prelude.{◌≡◌, refl, Bool, true, false, not, List, [], ◌++◌, ℕ, ◌+◌, eqb, leb, length, get_or}
use Rattle.std.proofs.Common.{sym, ap, ap₂, ◌∙◌, subst, arith, lt-ltb, ltb-true, eqb-true, length-append}
use Rattle.std.proofs.Math.ListN.{get_or-append}
use Rattle.rules.specs.Base.{Got, got, refused}
use Rattle.rules.specs.Names.{Bytes, Table, table_of, names_of, is_held, enterChecks, Entered, enter}
use Rattle.rules.specs.declared.Was.{Was}
use Rattle.rules.specs.Grammar.{NameAt}
use Rattle.rules.specs.TextReading.{Sofar, Told, told, refusedAt, Step, onward, give, placed, counted, enterName, entered, named}
use Rattle.rules.specs.Offices.{Name, nameNo, mapGot, Shared, answered, answerFor, noThree}
use Rattle.rules.specs.Offices as offices
use Rattle.laws.specs.NameTable.{Good}
use Rattle.laws.proofs.Alike as alike
use Rattle.laws.proofs.NameTable.{good-given, held-is, good-laid, length-names}
use Rattle.theorems_offices.proofs.Histories.{grown-entry, NumberOf, Stands, number, name-is, entry-stands}

-- ══ Tables that grow ══

-- what has a name still has it
pub record Grows (t u : Table) : Type 0 where
  pub same : (i : ℕ) → is_held t i ≡ true → nameNo u i ≡ nameNo t i
  pub held : (i : ℕ) → is_held t i ≡ true → is_held u i ≡ true

pub grows-same : (t : Table) → Grows t t
grows-same t = record { same = λ i h. refl; held = λ i h. h }

pub grows-on : {t u v : Table} → Grows t u → Grows u v → Grows t v
grows-on g h = record { same = λ i k. h.same i (g.held i k) ∙ g.same i k; held = λ i k. h.held i (g.held i k) }

module _ {pool table pool' table' : List ℕ} (good : Good pool table) (good' : Good pool' table') (more : List Bytes)
    (names : names_of (table_of pool' table') ≡ names_of (table_of pool table) ++ more) where
  held-more : (i : ℕ) → is_held (table_of pool table) i ≡ true → is_held (table_of pool' table') i ≡ true
  held-more i h =
      let k = ltb-true i (get_or table 0 0) (sym (held-is pool table i) ∙ h) in
      held-is pool' table' i ∙ lt-ltb i (get_or table' 0 0)
      (omega (
        arith,
        k,
        length-names (good-laid good),
        length-names (good-laid good'),
        ap length names,
        length-append (names_of (table_of pool table)) more,
      ))

  pub grows-more : Grows (table_of pool table) (table_of pool' table')
  unfolding nameNo
  grows-more = record {
    same = λ i h.
        let k = ltb-true i (get_or table 0 0) (sym (held-is pool table i) ∙ h) in
        let e : get_or (names_of (table_of pool' table')) i [] ≡ get_or (names_of (table_of pool table)) i [] = ap
        (λ (ns : List Bytes). get_or ns i []) names
        ∙ get_or-append (names_of (table_of pool table)) more [] i (omega (arith, k, length-names (good-laid good))) in
        rw (h, held-more i h, e);
    held = held-more;
  }

-- ══ Two readings ══

-- both tables have grown
pub record Onward (t t' u u' : Table) : Type 0 where
  pub here : Grows t u
  pub there : Grows t' u'

pub further : {t t' u u' v v' : Table} → Onward t t' u u' → Onward u u' v v' → Onward t t' v v'
further k l = record { here = grows-on k.here l.here; there = grows-on k.there l.there }

pub still : (t t' : Table) → Onward t t' t t'
still t t' = record { here = grows-same t; there = grows-same t' }

-- two states of the readings, behind two tables
pub record Behind (t t' : Table) (s s' : Sofar) : Type 0 where
  pub good : Good s.pool s.table
  pub good' : Good s'.pool s'.table
  pub grown : Onward t t' (table_of s.pool s.table) (table_of s'.pool s'.table)
  pub records : s.records ≡ s'.records

-- how values of the two readings belong together, over the tables that they have reached
abbrev pub Related : Type 0 → Type 0 → Type 1
Related A B = Table → Table → A → B → Type 0

-- what two steps came to
pub data Out {A B : Type 0} (R : Related A B) (t t' : Table) : Told A → Told B → Type 0 where
  three : (c : ℕ) (x : Told B) → Out R t t' (refusedAt 3 c) x
  three' : (x : Told A) (c : ℕ) → Out R t t' x (refusedAt 3 c)
  refusal : (n c : ℕ) → Out R t t' (refusedAt n c) (refusedAt n c)
  both : (a : A) (b : B) (s s' : Sofar) → Behind t t' s s' → R (table_of s.pool s.table) (table_of s'.pool s'.table) a b → Out R t t' (told a s) (told b s')

pub record Beside {A B : Type 0} (R : Related A B) (t t' : Table) (m : Step A) (m' : Step B) : Type 0 where
  pub at : (s s' : Sofar) → Behind t t' s s' → Out R t t' (m s) (m' s')

back-to : {A B : Type 0} {R : Related A B} {t t' u u' : Table} → Onward t t' u u' → {x : Told A} {x' : Told B} → Out R u u' x x' → Out R t t' x x'
back-to k (three c x) = three c x
back-to k (three' x c) = three' x c
back-to k (refusal n c) = refusal n c
back-to k (both a b s s' h r) =
    both a b s s' (record { good = h.good; good' = h.good'; grown = further k h.grown; records = h.records }) r

pub in-turn : {A A' B B' : Type 0} {R : Related A A'} {Q : Related B B'} {t t' : Table} {m : Step A} {m' : Step A'} {f : A → Step B} {f' : A' → Step B'}
    → Beside R t t' m m' → ((u u' : Table) → Onward t t' u u' → (a : A) (a' : A') → R u u' a a' → Beside Q u u' (f a) (f' a'))
    → Beside Q t t' (λ s. onward (m s) f) (λ s. onward (m' s) f')
in-turn {A} {A'} {B} {B'} {R} {Q} {t} {t'} {m} {m'} {f} {f'} x k = record { at = λ s s' h. go (x.at s s' h) }
  where
    go : {y : Told A} {y' : Told A'} → Out R t t' y y' → Out Q t t' (onward y f) (onward y' f')
    go (three c y) = three c (onward y f')
    go (three' y c) = three' (onward y f) c
    go (refusal n c) = refusal n c
    go (both a a' s s' h r) = back-to h.grown ((k (table_of s.pool s.table) (table_of s'.pool s'.table) h.grown a a' r).at s s'
        (record { good = h.good; good' = h.good'; grown = still (table_of s.pool s.table) (table_of s'.pool s'.table); records = h.records }))

-- a value that both have, wherever they are
pub gives : {A B : Type 0} {R : Related A B} {t t' : Table} (a : A) (b : B) → ((u u' : Table) → Onward t t' u u' → R u u' a b) → Beside R t t' (give a) (give b)
gives a b r = record { at = λ s s' h. both a b s s' h (r (table_of s.pool s.table) (table_of s'.pool s'.table) h.grown) }

-- ══ Steps that hold no names ══

-- values that hold no names
abbrev pub Equal : {A : Type 0} → Related A A
Equal t t' a b = a ≡ b

abbrev pub Nothing : Related (Unit {0}) (Unit {0})
Nothing t t' a b = Unit {0}

abbrev with-records : Sofar → ℕ → Sofar
with-records s k = record { pool = s.pool; table = s.table; fresh = s.fresh; records = s.records + k }

pub counted-alike : {t t' : Table} (k k' c : ℕ) → k ≡ k' → Beside Nothing t t' (counted k c) (counted k' c)
unfolding counted
counted-alike {t} {t'} k k' c e = record { at = go }
  where
    by : (s s' : Sofar) (b : Bool) → Behind t t' s s' → leb (s.records + k) 2048 ≡ b → leb (s'.records + k') 2048 ≡ b
        → Out Nothing t t' (counted k c s) (counted k' c s')
    by s s' true h i i' = rw (counted, i, i')
        (both tt tt (with-records s k) (with-records s' k')
        (record { good = h.good; good' = h.good'; grown = h.grown; records = ap₂ (λ (m n : ℕ). m + n) h.records e }) tt)
    by s s' false h i i' = rw (counted, i, i') (refusal 8 c)

    go : (s s' : Sofar) → Behind t t' s s' → Out Nothing t t' (counted k c s) (counted k' c s')
    go s s' h = by s s' (leb (s.records + k) 2048) h refl (rw (h.records, e))

pub placed-same : {A : Type 0} {t t' : Table} (c : ℕ) (m : Got A) → Beside Equal t t' (placed c m) (placed c m)
placed-same c (got a) = record { at = λ s s' h. both a a s s' h refl }
placed-same c (refused n) = record { at = λ s s' h. refusal n c }

-- ══ A name ══

-- the same name, which stays under its number
pub record OneName (t t' : Table) (x x' : ℕ) : Type 0 where
  pub same : nameNo t x ≡ nameNo t' x'
  pub held : is_held t x ≡ true
  pub held' : is_held t' x' ≡ true

pub one-later : {t t' u u' : Table} {x x' : ℕ} → Onward t t' u u' → OneName t t' x x' → OneName u u' x x'
one-later {x} {x'} k n = record {
  same = k.here.same x n.held ∙ n.same ∙ sym (k.there.same x' n.held');
  held = k.here.held x n.held;
  held' = k.there.held x' n.held';
}

abbrev shared : Sofar → Shared
shared s = record { pool = s.pool; table = s.table }

-- before the first line the table is well formed, so entering is that of a name alone
is-enter : (s : Sofar) → Good s.pool s.table → (n : Bytes) → enterName s.pool s.table n ≡ enter s.pool s.table n
unfolding enterName enter enterChecks
is-enter s g n = rw (good-given g)

-- ══ One name, entered in both ══

-- what an entry told, over the table that it left: no room, or what its name is answered
pub data Tells (t : Table) (x : Got Name) : Got (ℕ × Was) → Type 0 where
  room : Tells t x (refused 3)
  answer : (a : Got (ℕ × Was)) → Stands t (mapGot (λ r. r.0) a) x → Tells t x a

entry-tells : (s : Sofar) → Good s.pool s.table → (n : Bytes) (a : Got (ℕ × Was)) → (enter s.pool s.table n).answer ≡ a
    → Tells (table_of (enter s.pool s.table n).pool (enter s.pool s.table n).table) (answerFor n) a
unfolding offices.entered
entry-tells s g n a i = go a (eqs i) (λ k. entry-stands (shared s) g n k)
  where
    t : Table
    t = table_of (enter s.pool s.table n).pool (enter s.pool s.table n).table

    eqs : (enter s.pool s.table n).answer ≡ a → answered (shared s) n ≡ mapGot (λ r. r.0) a
    eqs i = ap (mapGot (λ r. r.0)) i

    go : (a : Got (ℕ × Was)) → answered (shared s) n ≡ mapGot (λ r. r.0) a
        → (noThree (answered (shared s) n) ≡ true → Stands t (answered (shared s) n) (answerFor n))
        → Tells t (answerFor n) a
    go (got r) e k = answer (got r) (subst (λ (b : Got ℕ). Stands t b (answerFor n)) e (k (ap noThree e)))
    go (refused m) e k = by (eqb m 3) refl
      where
        by : (b : Bool) → eqb m 3 ≡ b → Tells t (answerFor n) (refused m)
        by true q = rw (eqb-true m 3 q) room
        by false q = answer (refused m) (subst (λ (b : Got ℕ). Stands t b (answerFor n)) e (k (ap noThree e ∙ ap not q)))

-- a number that was told has that name
is-named : {pool table : List ℕ} → Good pool table → (i : ℕ) (m : Bytes) → NumberOf (table_of pool table) i (offices.named m)
    → (nameNo (table_of pool table) i ≡ offices.named m) × (is_held (table_of pool table) i ≡ true)
is-named {pool} {table} g i m (number j n l q) = (
  inside (name-is (record { pool = pool; table = table }) g (got j) (got (offices.named n)) (alike.both (number j n l q))),
  held-is pool table j
      ∙ lt-ltb j (get_or table 0 0) (omega (arith, l, length-names (good-laid g))),
)
  where
    inside : {x y : Name} → got x ≡ got y → x ≡ y
    inside e = cc

same-name : {pool table pool' table' : List ℕ} → Good pool table → Good pool' table' → (i i' : ℕ) (x : Name)
    → NumberOf (table_of pool table) i x → NumberOf (table_of pool' table') i' x
    → OneName (table_of pool table) (table_of pool' table') i i'
same-name g g' i i' x (number j m l q) v' =
    let a = is-named g j m (number j m l q) in
    let a' = is-named g' i' m v' in
    record { same = a.0 ∙ sym a'.0; held = a.1; held' = a'.1 }

-- two entries of one name
module _ {t t' : Table} (c : ℕ) (s s' : Sofar) (n : Bytes) (h : Behind t t' s s') where
  abbrev e : Entered
  e = enter s.pool s.table n

  abbrev e' : Entered
  e' = enter s'.pool s'.table n

  grows-entered : (r : Sofar) → Good r.pool r.table → Grows (table_of r.pool r.table) (table_of (enter r.pool r.table n).pool (enter r.pool r.table n).table)
  unfolding offices.entered
  grows-entered r g = let w = grown-entry (shared r) g n in grows-more g w.good w.more w.names

  good-entered : (r : Sofar) → Good r.pool r.table → Good (enter r.pool r.table n).pool (enter r.pool r.table n).table
  unfolding offices.entered
  good-entered r g = (grown-entry (shared r) g n).good

  pub both-told : (x : Got Name) (a a' : Got (ℕ × Was)) → Tells (table_of e.pool e.table) x a → Tells (table_of e'.pool e'.table) x a'
      → Out OneName t t' (entered c s e a) (entered c s' e' a')
  both-told x a a' room w' = three c (entered c s' e' a')
  both-told x a a' w room = three' (entered c s e a) c
  both-told x a a' (answer b v) (answer b' v') = pair x b b' v v'
    where
      numbers : (r r' : ℕ × Was) (m : Name) → NumberOf (table_of e.pool e.table) r.0 m → NumberOf (table_of e'.pool e'.table) r'.0 m
          → Out OneName t t' (entered c s e (got r)) (entered c s' e' (got r'))
      numbers r r' m v v' = both r.0 r'.0 _ _ (record {
        good = good-entered s h.good;
        good' = good-entered s' h.good';
        grown = further h.grown (record { here = grows-entered s h.good; there = grows-entered s' h.good' });
        records = h.records;
      }) (same-name (good-entered s h.good) (good-entered s' h.good') r.0 r'.0 m v v')

      pair : (y : Got Name) (a a' : Got (ℕ × Was)) → Stands (table_of e.pool e.table) (mapGot (λ r. r.0) a) y
          → Stands (table_of e'.pool e'.table) (mapGot (λ r. r.0) a') y → Out OneName t t' (entered c s e a) (entered c s' e' a')
      pair (got m) (got r) (got r') (alike.both v) (alike.both v') = numbers r r' m v v'
      pair (refused k) (refused k') (refused k'') alike.neither alike.neither = refusal k c
      pair (got m) (got r) (refused k) v w = elim w [ ]
      pair (got m) (refused k) a' v w = elim v [ ]
      pair (refused k) (got r) a' v w = elim v [ ]
      pair (refused k) (refused k') (got r') v w = elim w [ ]

pub named-alike : {t t' : Table} (n : NameAt) → Beside OneName t t' (named n) (named n)
unfolding named
named-alike n = record {
  at = λ s s' h. rw (is-enter s h.good n.bytes, is-enter s' h.good' n.bytes)
      (both-told n.column s s' n.bytes h (answerFor n.bytes) (enter s.pool s.table n.bytes).answer (enter s'.pool s'.table n.bytes).answer
      (entry-tells s h.good n.bytes (enter s.pool s.table n.bytes).answer refl) (entry-tells s' h.good' n.bytes (enter s'.pool s'.table n.bytes).answer refl));
}
