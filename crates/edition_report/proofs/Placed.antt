-- The line that is told of a constraint is the one that it was read from.
use Rattle.std.specs.Prelude.{◌≡◌, refl, Bool, true, false, not, List, [], ◌∷◌, ◌++◌, ℕ, zero, suc, ◌+◌, ◌-◌, eqb, drop, get_or}
use Rattle.std.proofs.Common.{sym, ap, subst, ◌∙◌, arith}
use Rattle.std.proofs.Math.Option.{Option, none, some}
use Rattle.rules.specs.Base.{is_none}
use Rattle.rules.specs.Grammar.{
  Place,
  here,
  beyond,
  Parsed,
  read,
  bad,
  isBlank,
  skipFrom,
  skip,
  pass,
  sign,
  ifSign,
  either,
  hasField,
  typed,
  ended,
  constraint,
  signsAt,
  line,
  ConAt,
  lines_of,
}
use Rattle.rules.specs.Names.{Bytes}
use Rattle.rules.specs.Reports.{someAt, holdsSome, lineIn, lineBy, lineHolding, constraintLine}
use Rattle.rules.specs.TextReading.{
  Sofar,
  Told,
  told,
  refusedAt,
  conOf,
  give,
  onward,
  meant,
  lineRead,
  Sheet,
  sheet,
  refusedIn,
  with,
  nextLine,
  lines_read,
  sheetRead,
  unread,
}
use Rattle.rules.specs.Trees.{Con}
use Rattle.edition_report.specs.Theorems.{LinesAreTheirs}

-- ══ Does a line that was read hold a constraint? ══

read-one : {A : Type 0} {a b : A} {p q : Place} → read a p ≡ read b q → a ≡ b
read-one e = cc e

never-bad : {A B : Type 0} {a : A} {p : Place} {c : ℕ} → bad c ≡ read a p → B
never-bad e = let z : ◌≡◌ {A = ℕ} 0 1 = cc e in absurd (omega (arith, z))

constraint-some : (p : Place) (o : Option ConAt) (q : Place) → constraint p ≡ read o q → is_none o ≡ false
unfolding constraint
constraint-some p o q e = go (ifSign "H" hasField typed p) e
  where
    close : (c : ConAt) (m : Parsed (Unit {0})) → pass m (λ u r. read (some c) r) ≡ read o q → is_none o ≡ false
    close c (bad k) e = never-bad e
    close c (read u r) e = ap is_none (sym (read-one e))

    go : (m : Parsed ConAt) → pass m (λ c r. pass (ended r) (λ u r'. read (some c) r')) ≡ read o q → is_none o ≡ false
    go (bad k) e = never-bad e
    go (read c r) e = close c (ended r) e

comment-none : (p : Place) (o : Option ConAt) (q : Place) → pass (sign "--" p) (λ u r. read none r) ≡ read o q → is_none o ≡ true
comment-none p o q e = go (sign "--" p) e
  where
    go : (m : Parsed (Unit {0})) → pass m (λ u r. read none r) ≡ read o q → is_none o ≡ true
    go (bad k) e = never-bad e
    go (read u r) e = ap is_none (sym (read-one e))

-- what skipping stops at is no blank
stops-at : (c : ℕ) (bs : Bytes) (d b : ℕ) (t : Bytes) → skipFrom c bs ≡ here d (b ∷ t) → isBlank b ≡ false
unfolding skipFrom
stops-at c [] d b t e = let z : [] ≡ b ∷ t = cc e in let y : ◌≡◌ {A = ℕ} 0 1 = cc z in absurd (omega (arith, y))
stops-at c (x ∷ bs) d b t e = go (isBlank x) refl (stops-at (suc c) bs d b t) e
  where
    go : (u : Bool) → isBlank x ≡ u → (skipFrom (suc c) bs ≡ here d (b ∷ t) → isBlank b ≡ false)
        → elim u [ true ↦ skipFrom (suc c) bs | false ↦ here c (x ∷ bs) ] ≡ here d (b ∷ t) → isBlank b ≡ false
    go true i f e = f e
    go false i f e = let z : x ≡ b = cc e in ap isBlank (sym z) ∙ i

stays : (c b : ℕ) (t : Bytes) → isBlank b ≡ false → skip (here c (b ∷ t)) ≡ here c (b ∷ t)
unfolding skip skipFrom
stays c b t h = rw (h, skipFrom) refl

held-by : (p : Place) (h : (c b : ℕ) (t : Bytes) → p ≡ here c (b ∷ t) → isBlank b ≡ false) (o : Option ConAt) (q : Place) → signsAt p ≡ read o q
    → someAt p ≡ not (is_none o)
unfolding signsAt
held-by (here c []) h o q e = ap (λ (o : Option ConAt). not (is_none o)) (read-one e)
held-by beyond h o q e = ap (λ (o : Option ConAt). not (is_none o)) (read-one e)
held-by (here c (b ∷ t)) h o q e = go (eqb b 45) refl (rw (stays c b t (h c b t refl)) at e)
  where
    go : (u : Bool) → eqb b 45 ≡ u → either u (λ p. pass (sign "--" p) (λ a r. read none r)) constraint (here c (b ∷ t)) ≡ read o q
        → not (eqb b 45) ≡ not (is_none o)
    go true i e = ap not (i ∙ sym (comment-none (here c (b ∷ t)) o q e))
    go false i e = ap not (i ∙ sym (constraint-some (here c (b ∷ t)) o q e))

line-held : (l : Bytes) (o : Option ConAt) (q : Place) → line l ≡ read o q → holdsSome l ≡ not (is_none o)
unfolding line holdsSome
line-held l o q e = held-by (skipFrom 1 l) (λ c b t i. stops-at 1 l c b t i) o q e

-- ══ Line after line ══

-- from the line j of these on, which has the number n, the constraint was read
record From (ls : List Bytes) (k n : ℕ) (c : Con ℕ) : Type 0 where
  j : ℕ
  is : n ≡ k + j
  before : Sofar
  after : Sofar
  reads : lineRead (get_or ls j []) before ≡ told (c ∷ []) after

one-on : (l : Bytes) (ls : List Bytes) (k n : ℕ) (c : Con ℕ) → From ls (suc k) n c → From (l ∷ ls) k n c
one-on l ls k n c f = record { j = suc f.j; is = let e = f.is in omega (arith, e); before = f.before; after = f.after; reads = f.reads }

-- a sheet of which one begins with these constraints
record Began (cs ds : List (Con ℕ)) (x : Sheet) (s' : Sofar) : Type 0 where
  rest : List (Con ℕ)
  is : cs ≡ ds ++ rest
  others : x ≡ sheet rest s'

began : (ds : List (Con ℕ)) (x : Sheet) (cs : List (Con ℕ)) (s' : Sofar) → with ds x ≡ sheet cs s' → Began cs ds x s'
began ds (sheet es s) cs s' e =
    let y : ds ++ es ≡ cs = cc e in
    let z : s ≡ s' = cc e in
    record { rest = es; is = sym y; others = ap (sheet es) z }
began ds (refusedIn n k c) cs s' e = let z : ◌≡◌ {A = ℕ} 0 1 = cc e in absurd (omega (arith, z))

line-reads : (l : Bytes) (s : Sofar) (a : ConAt) (p : Place) (x : Con ℕ) (s' : Sofar) → line l ≡ read (some a) p → conOf a s ≡ told x s'
    → lineRead l s ≡ told (x ∷ []) s'
unfolding lineRead meant
line-reads l s a p x s' q r = ap (λ (m : Parsed (Option ConAt)). meant m s) q ∙ ap (λ (m : Told (Con ℕ)). onward m (λ d. give (d ∷ []))) r

module _ (l : Bytes) (ls : List Bytes) (k : ℕ) (c : Con ℕ) (s' : Sofar)
    (again : (s : Sofar) (cs : List (Con ℕ)) → lines_read (suc k) ls s ≡ sheet cs s' → (i : ℕ) → drop i cs ≡ c ∷ drop (suc i) cs
    → From ls (suc k) (lineHolding i (suc k) ls) c) where
  abbrev next : ℕ → ℕ
  next j = lineHolding j (suc k) ls

  at-place : (s s1 : Sofar) (x : Con ℕ) (rest : List (Con ℕ)) → lineRead l s ≡ told (x ∷ []) s1 → lines_read (suc k) ls s1 ≡ sheet rest s'
      → (i : ℕ) → drop i (x ∷ rest) ≡ c ∷ drop (suc i) (x ∷ rest) → From (l ∷ ls) k (lineBy true i k next) c
  at-place s s1 x rest r q zero d =
      let z : x ≡ c = cc d in
      record { j = 0; is = omega arith; before = s; after = s1; reads = rw (← z) r }
  at-place s s1 x rest r q (suc i) d = one-on l ls k (next i) c (again s1 rest q i d)

  line-from : (s : Sofar) (cs : List (Con ℕ)) → nextLine k (meant (line l) s) (λ x. lines_read (suc k) ls x) ≡ sheet cs s'
      → (i : ℕ) → drop i cs ≡ c ∷ drop (suc i) cs → From (l ∷ ls) k (lineBy (holdsSome l) i k next) c
  unfolding meant
  line-from s cs e i d = go (line l) refl e
    where
      some-read : (a : ConAt) (p : Place) → line l ≡ read (some a) p → (m : Told (Con ℕ)) → conOf a s ≡ m
          → nextLine k (onward m (λ x. give (x ∷ []))) (λ x. lines_read (suc k) ls x) ≡ sheet cs s' → From (l ∷ ls) k (lineBy (holdsSome l) i k next) c
      some-read a p q (refusedAt n col) r e = let z : ◌≡◌ {A = ℕ} 0 1 = cc e in absurd (omega (arith, z))
      some-read a p q (told x s1) r e =
          let b = began (x ∷ []) (lines_read (suc k) ls s1) cs s' e in
          rw (line-held l (some a) p q)
          (at-place s s1 x b.rest (line-reads l s a p x s1 q r) b.others i (subst (λ (es : List (Con ℕ)). drop i es ≡ c ∷ drop (suc i) es) b.is d))

      go : (m : Parsed (Option ConAt)) → line l ≡ m → nextLine k (meant m s) (λ x. lines_read (suc k) ls x) ≡ sheet cs s'
          → From (l ∷ ls) k (lineBy (holdsSome l) i k next) c
      go (bad col) q e = let z : ◌≡◌ {A = ℕ} 0 1 = cc e in absurd (omega (arith, z))
      go (read none p) q e =
          let b = began [] (lines_read (suc k) ls s) cs s' e in
          rw (line-held l none p q) (one-on l ls k (next i) c (again s cs (b.others ∙ ap (λ (es : List (Con ℕ)). sheet es s') (sym b.is)) i d))
      go (read (some a) p) q e = some-read a p q (conOf a s) refl e

no-line : (i : ℕ) (c : Con ℕ) (cs : List (Con ℕ)) → [] ≡ cs → drop i cs ≡ c ∷ drop (suc i) cs → ⊥
no-line i c cs z d = empty i (subst (λ (es : List (Con ℕ)). drop i es ≡ c ∷ drop (suc i) es) (sym z) d)
  where
    empty : (i : ℕ) → drop i [] ≡ c ∷ drop (suc i) [] → ⊥
    empty zero y = let w : ◌≡◌ {A = ℕ} 0 1 = cc y in omega (arith, w)
    empty (suc i) y = let w : ◌≡◌ {A = ℕ} 0 1 = cc y in omega (arith, w)

read-from : (ls : List Bytes) (k : ℕ) (c : Con ℕ) (s' : Sofar) (s : Sofar) (cs : List (Con ℕ)) → lines_read k ls s ≡ sheet cs s'
    → (i : ℕ) → drop i cs ≡ c ∷ drop (suc i) cs → From ls k (lineHolding i k ls) c
unfolding lines_read lineRead lineHolding
read-from [] k c s' s cs e i d = let z : [] ≡ cs = cc e in absurd (no-line i c cs z d)
read-from (l ∷ ls) k c s' s cs e i d = line-from l ls k c s' (read-from ls (suc k) c s') s cs e i d

pub lines-theirs : LinesAreTheirs
unfolding sheetRead constraintLine lineIn
lines-theirs pool table text cs s' e i c d =
    let f = read-from (lines_of text) 1 c s' (unread pool table) cs e i d in
    let z : lineHolding i 1 (lines_of text) - 1 ≡ f.j = let q = f.is in omega (arith, q) in
    record { before = f.before; after = f.after; is = rw z f.reads }
