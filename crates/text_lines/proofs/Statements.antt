-- What follows from the definitions of specs/Statements: a line by its parts: a constraint's record is counted at the line's first sign, and written when
-- its types are there.
use Rattle.std.proofs.Math.Path.{◌≡◌, ap, ap₂, subst}
use Rattle.std.specs.Prelude.{refl, Bool, true, false, ℕ, suc, ◌+◌, ◌≤◌, ◌<◌, eqb, length, get_or, Err, Ok}
use Rattle.std.proofs.Common.{sym, ◌∙◌, true≢false, arith, length-append, drop_of_length-le, drop-cons}
use mathlib.Core.List.{List, [], ◌∷◌, ◌++◌, append-nil}
use Rattle.std.proofs.Math.Option.{Option, none, some}
use Prim.Native.Char.{Char}
use Rattle.rules.specs.Base.{collect}
use Rattle.rules.specs.Names.{Bytes}
use Rattle.rules.specs.Refusals.{number_of}
use Rattle.rules.specs.Trees.{Ty, dim, Product, Con, equal, isDim, is_scalar, hasField, sizeCon}
use Rattle.rules.specs.Writing.{Rec, rec, head, writeTy, writeTys, writeFields, writeProduct, writeCon}
use Rattle.rules.specs.Grammar.{Place, here, beyond, Parsed, read, bad, Rule, ascii, sign, spell, spellFrom, skip, column, columnOf, pick, chosen}
use Rattle.rules.specs.Grammar.{choose, ifSign, end_at, ended, NameAt, name}
use Rattle.rules.specs.Grammar.{FactorAt, TyAt, open_at, basicAt, dimAt, fn_at, listAt, struct_at, deepAt, type, ConAt, equalAt, isDimAt, isScalarAt}
use Rattle.rules.specs.Grammar.{hasFieldAt, afterType, afterDimension, typed, constraint, signsAt, give, ◌>>=◌, ◌>>◌}
use Rattle.rules.specs.Grammar as Grammar
use Rattle.rules.specs.TextReading.{Sofar, Told, told, refusedAt, onward, counted, named, productOf, ty_of, tys_of, fields_of, conOf, meant, lineRead}
use Rattle.rules.specs.TextReading as TextReading
use Rattle.rules.specs.declared.Refusal.{Refusal}
use Rattle.rules.specs.declared.Refusal.TheVariants.{NotGrammar}
use Rattle.laws.proofs.Size.{size-ty}
use Rattle.records.specs.declared.View.{View}
use Rattle.records.specs.declared.View.TheVariants as view
use Rattle.text_scan.specs.Scanned.{place_in}
use Rattle.text_grammar.specs.declared.inner.Point.TheVariants as point
use Rattle.text_grammar.specs.Points.{Reads, PointIn, Any, standing, marked, columnAt, beginsAt}
use Rattle.text_grammar.proofs.Points.{NotAt, in-turn, given, if-sign, if-no-sign, spell-end}
use Rattle.text_grammar.specs.declared.inner.Point.{Point}
use Rattle.text_grammar.proofs.Points.{spell-other, spell-there}
use Rattle.text_grammar.specs.Factors.{byte_of, refusedFrom}
use Rattle.text_grammar.proofs.Factors.{pick_other, choose-this, choose-none}
use Rattle.text_grammar.specs.Signs.{spelled}
use Rattle.text_names.specs.Stands.{place_of, headPut, Stand}
use Rattle.text_names.proofs.Stands.{same-refused}
use Rattle.text_names.specs.Effects.{Lent, lent, sofar, Halted, Ready, Kept, Did, Effect, Writes, Done, NotBad}
use Rattle.text_names.proofs.Effects.{not-bad, then, gives, maps, alike, grouped}
use Rattle.text_names.specs.Effects.{kept_then}
use Rattle.text_names.proofs.Effects.{kept_same, kept-last, kept-counted, countedIn, Inside, halted-on}
use Rattle.text_names.specs.Naming.{NumberTold}
use Rattle.text_names.proofs.Inside.{inside-spelled, inside-column}
use Rattle.text_names.specs.Stands as stand
use Rattle.text_types.proofs.Parts.{Behind, head-by, kept-headed}
use Rattle.text_types.proofs.Rows.{none-halted}
use Rattle.text_lines.proofs.Shapes.{isDimension, type-dimension}
use Rattle.text_lines.specs.Statements.{end_of, meantOf, LineTold, stated, LineDone}

-- ══ The records of a constraint ══

equal-behind : (t u : Ty ℕ) (rs qs : List Rec) → rs ≡ writeTy t → qs ≡ writeTy u → Behind view.Equal writeCon (equal t u) (rs ++ qs)
unfolding writeCon sizeCon
equal-behind t u rs qs e f h =
    ap₂ (λ (a b : List Rec). rec (head 20 (suc (length (a ++ b)))) 0 0 0 ∷ (a ++ b)) e f
    ∙ ap (λ (n : ℕ). rec (head 20 (suc n)) 0 0 0 ∷ (writeTy t ++ writeTy u)) (length-append (writeTy t) (writeTy u) ∙ ap₂ ◌+◌ (size-ty t) (size-ty u))

dim-behind : (t : Ty ℕ) (rs : List Rec) → rs ≡ writeTy t → Behind view.IsDim writeCon (isDim t) rs
unfolding writeCon sizeCon
dim-behind t rs e h =
    ap (λ (a : List Rec). rec (head 21 (suc (length a))) 0 0 0 ∷ a) e ∙ ap (λ (n : ℕ). rec (head 21 (suc n)) 0 0 0 ∷ writeTy t) (size-ty t)

scalar-behind : (p : Product ℕ) (rs : List Rec) → rs ≡ writeProduct p → Behind view.IsScalar writeCon (is_scalar p) rs
unfolding writeCon sizeCon writeTy writeTys writeFields
scalar-behind p rs e h =
    ap (λ (a : List Rec). rec (head 22 (suc (length a))) 0 0 0 ∷ a) e ∙ ap (λ (n : ℕ). rec (head 22 (suc n)) 0 0 0 ∷ writeProduct p) (size-ty (dim p))

field-behind : (v : ℕ) (t u : Ty ℕ) (rs qs : List Rec) → rs ≡ writeTy t → qs ≡ writeTy u → Behind (view.HasField v) writeCon (hasField v t u) (rs ++ qs)
unfolding writeCon sizeCon
field-behind v t u rs qs e f h =
    ap₂ (λ (a b : List Rec). rec (head 23 (suc (length (a ++ b)))) v 0 0 ∷ (a ++ b)) e f
    ∙ ap (λ (n : ℕ). rec (head 23 (suc n)) v 0 0 ∷ (writeTy t ++ writeTy u)) (length-append (writeTy t) (writeTy u) ∙ ap₂ ◌+◌ (size-ty t) (size-ty u))

-- ══ What a constraint does ══

module _ {x y : Lent} (q : Point) {k : ℕ} (hk : k ≡ columnAt q) (n : NotBad q) (h : Halted q x.stand) (l : TyAt) (ky : Kept (countedIn 1 (place_of q) x) y)
    (el : Effect (ty_of l) (Writes writeTy) (countedIn 1 (place_of q) x) y) where
  equal-effect : {z : Lent} (r : TyAt) → Kept y z → Effect (ty_of r) (Writes writeTy) y z → (d : List ℕ) → d ≡ headPut view.Equal x.stand z.stand z.dst
      → Effect (conOf (equalAt k l r)) (Writes writeCon) x (lent z.pool z.table d z.stand)
  unfolding conOf
  equal-effect r kz er d g =
      alike (grouped (counted 1 k) (λ u. ty_of l) (λ t s. onward (ty_of r s) (λ u. TextReading.give (equal t u))))
      (head-by view.Equal writeCon q _ hk n h (kept_then ky kz)
      (then (ty_of l) (λ t s. onward (ty_of r s) (λ u. TextReading.give (equal t u))) el kz
      (λ t rs ht. maps (ty_of r) (equal t) (kept-last kz) er (λ u qs hu. equal-behind t u rs qs ht hu))) d g)

  dim-effect : (d : List ℕ) → d ≡ headPut view.IsDim x.stand y.stand y.dst → Effect (conOf (isDimAt k l)) (Writes writeCon) x (lent y.pool y.table d y.stand)
  unfolding conOf
  dim-effect d g =
      alike (grouped (counted 1 k) (λ u. ty_of l) (λ u. TextReading.give (isDim u)))
      (head-by view.IsDim writeCon q _ hk n h ky (maps (ty_of l) isDim (kept-last ky) el (λ u rs hu. dim-behind u rs hu)) d g)

-- a dimension's records are those of its product
product-told : (m : Told (Product ℕ)) (t : Ty ℕ) (s : Sofar) → onward m (λ p. TextReading.give (dim p)) ≡ told t s
    → (p : Product ℕ) × ((m ≡ told p s) × (t ≡ dim p))
product-told (told p s₁) t s e = let a : dim p ≡ t = cc in let b : s₁ ≡ s = cc in (p, (ap (told p) b, sym a))
product-told (refusedAt n c) t s e = absurd (cc)

product-refused : (m : Told (Product ℕ)) (n c : ℕ) → onward m (λ p. TextReading.give (dim p)) ≡ refusedAt n c → m ≡ refusedAt n c
product-refused (told p s) n c e = absurd (cc)
product-refused (refusedAt i j) n c e = let a : i ≡ n = cc in let b : j ≡ c = cc in ap₂ refusedAt a b

product-did : {x y : Lent} {i n i' n' : ℕ} (c : ℕ) (fs : List FactorAt) (e : ℕ) → Did (ty_of (dimAt c fs e)) (Writes writeTy) x y i n i' n'
    → Did (productOf c fs e) (Writes writeProduct) x y i n i' n'
unfolding ty_of tys_of fields_of writeTy writeTys writeFields
product-did {x} {y} {i} {n} {i'} {n'} c fs e o =
    let w = product-told (productOf c fs e (sofar x i n)) o.value (sofar y i' n') o.is in
    record { value = w.0; records = o.records; is = w.1.0; tells = o.tells ∙ ap writeTy w.1.1; written = o.written; grown = o.grown }

product-effect : {x y : Lent} (c : ℕ) (fs : List FactorAt) (e : ℕ) → Effect (ty_of (dimAt c fs e)) (Writes writeTy) x y
    → Effect (productOf c fs e) (Writes writeProduct) x y
unfolding ty_of tys_of fields_of
product-effect {x} {y} c fs e o = record {
  does = λ i n i' n' p q. product-did c fs e (o.does i n i' n' p q);
  refuses = λ i n k r p q. product-refused (productOf c fs e (sofar x i n)) (number_of r) (suc k) (o.refuses i n k r p q);
}

module _ {x y : Lent} (q : Point) {k : ℕ} (hk : k ≡ columnAt q) (n : NotBad q) (h : Halted q x.stand) (ky : Kept (countedIn 1 (place_of q) x) y) where
  scalar-effect : (c : ℕ) (fs : List FactorAt) (e : ℕ) → Effect (ty_of (dimAt c fs e)) (Writes writeTy) (countedIn 1 (place_of q) x) y
      → (d : List ℕ) → d ≡ headPut view.IsScalar x.stand y.stand y.dst → Effect (conOf (isScalarAt k c fs e)) (Writes writeCon) x
      (lent y.pool y.table d y.stand)
  unfolding conOf
  scalar-effect c fs e o d g =
      alike (grouped (counted 1 k) (λ u. productOf c fs e) (λ p. TextReading.give (is_scalar p)))
      (head-by view.IsScalar writeCon q _ hk n h ky (maps (productOf c fs e) is_scalar (kept-last ky) (product-effect c fs e o)
      (λ p rs hp. scalar-behind p rs hp)) d g)

-- ══ What follows a type ══

-- the rules behind a type l
abbrev after : ℕ → TyAt → List (Char × Rule ConAt)
after c l = afterType c l (afterDimension c l)

abbrev equalRule : ℕ → TyAt → Rule ConAt
equalRule c l = (sign "~" >> type 64) >>= λ r. give (equalAt c l r)

abbrev dimRule : ℕ → TyAt → Rule ConAt
dimRule c l = (sign ":" >> sign "DType") >> give (isDimAt c l)

abbrev scalarRule : ℕ → ℕ → List FactorAt → ℕ → Rule ConAt
scalarRule c d fs e = (sign "=" >> sign "Scalar") >> give (isScalarAt c d fs e)

no_byte : (c : ℕ) (l : TyAt) (i : ℕ) → pick 0 (after c l) (here i []) ≡ bad i
no_byte c (open_at d o) i = refl
no_byte c (basicAt d b) i = refl
no_byte c (dimAt d fs e) i = refl
no_byte c (fn_at d ps r) i = refl
no_byte c (listAt d t) i = refl
no_byte c (struct_at d n as' fs) i = refl
no_byte c (deepAt d) i = refl

not-dimension : (b c : ℕ) (l : TyAt) → (b ≡ 61 → isDimension l ≡ false) → (p : Place) → pick b (afterDimension c l) p ≡ bad (columnOf p)
not-dimension b c (open_at d o) h p = refl
not-dimension b c (basicAt d a) h p = refl
not-dimension b c (dimAt d fs e) h p = ap (λ (R : Rule ConAt). R p) (pick_other b ("=", scalarRule c d fs e) [] (λ g. true≢false (h g)))
not-dimension b c (fn_at d ps r) h p = refl
not-dimension b c (listAt d t) h p = refl
not-dimension b c (struct_at d n as' fs) h p = refl
not-dimension b c (deepAt d) h p = refl

nothing-after : (b c : ℕ) (l : TyAt) → (b ≡ 126 → ⊥) → (b ≡ 58 → ⊥) → (b ≡ 61 → isDimension l ≡ false) → (p : Place) → pick b (after c l) p ≡ bad (columnOf p)
nothing-after b c l f g h p =
    ap (λ (R : Rule ConAt). R p) (pick_other b ("~", equalRule c l) ((":", dimRule c l) ∷ afterDimension c l) f
    ∙ pick_other b (":", dimRule c l) (afterDimension c l) g)
    ∙ not-dimension b c l h p

-- a byte stands in the line
byte-stands : (line : Bytes) (e : Point) {b : ℕ} → byte_of line e ≡ b → 0 < b → NotBad e
byte-stands line (point.At i) f h = tt
byte-stands line point.Deep f h = tt
byte-stands line (point.Bad q) f h = absurd (omega arith)

-- where the sheet is refused, no record is written
head-none : (v : View) (s r : Stand) (d : List ℕ) → ((k n : ℕ) → r ≡ stand.Going k n → ⊥) → d ≡ headPut v s r d
head-none v (Ok tally) (Ok tally') d h = absurd (h tally'.names tally'.records refl)
head-none v (Ok tally) (Err stop) d h = refl
head-none v (Err stop) r d h = refl

-- only behind a dimension
scalar-reads : {line : Bytes} {e b r : Point} {Q : ConAt → Type 0} (c : ℕ) (l : TyAt) → isDimension l ≡ true → byte_of line e ≡ 61
    → Reads line e (marked 61) Any b
    → Reads line b (spelled (ascii "Scalar")) Any r → ((d : ℕ) (fs : List FactorAt) (j : ℕ) → l ≡ dimAt d fs j → Q (isScalarAt c d fs j))
    → Reads line e (chosen (isDimAt c l) (after c l)) Q r
scalar-reads c (dimAt d fs j) h be x y f =
    choose-this (isDimAt c (dimAt d fs j)) (after c (dimAt d fs j)) (no_byte c (dimAt d fs j)) (scalarRule c d fs j) 61 (omega arith) be refl
    (in-turn (sign "=" >> sign "Scalar") (λ w. give (isScalarAt c d fs j)) (in-turn (sign "=") (λ u. sign "Scalar") x (λ u hu. y))
    (λ w hw. given (isScalarAt c d fs j) y.within (f d fs j refl)))
scalar-reads c (open_at d o) h be x y f = absurd (true≢false (sym h))
scalar-reads c (basicAt d a) h be x y f = absurd (true≢false (sym h))
scalar-reads c (fn_at d ps o) h be x y f = absurd (true≢false (sym h))
scalar-reads c (listAt d t) h be x y f = absurd (true≢false (sym h))
scalar-reads c (struct_at d n as' fs) h be x y f = absurd (true≢false (sym h))
scalar-reads c (deepAt d) h be x y f = absurd (true≢false (sym h))

-- ══ The three statements that begin with a type ══

module _ {line : Bytes} {p q a e : Point} {x y : Lent} (h : Ready line p x.pool x.table x.stand) (x1 : Reads line p column (λ (k : ℕ). k ≡ columnAt q) q)
    (x2 : Done line (type 64) ty_of (Writes writeTy) q (countedIn 1 (place_of q) x) a y) (x3 : Reads line a column (λ (k : ℕ). k ≡ columnAt e) e) where
  -- a type, and the rule that the byte behind it decides on
  behind-type : {r : Point} {Q : ConAt → Type 0} → ((c : ℕ) (l : TyAt) → c ≡ columnAt q
      → (NotBad a → Effect (ty_of l) (Writes writeTy) (countedIn 1 (place_of q) x) y)
      → (NotBad a → isDimension l ≡ beginsAt line q 91) → Reads line e (chosen (isDimAt c l) (after c l)) Q r) → Reads line p typed Q r
  unfolding typed
  behind-type f =
      in-turn column (λ c. type 64 >>= λ l. choose (isDimAt c l) (after c l)) x1
      (λ c hc. in-turn (type 64) (λ l. choose (isDimAt c l) (after c l)) (type-dimension 63 x2.reads)
      (λ l hl. in-turn column (λ k. chosen (isDimAt c l) (after c l)) x3 (λ k hk. f c l hc hl.0 hl.1)))

  hq : Halted q x.stand
  hq = halted-on inside-column x1 h.halted

  kx : Kept x (countedIn 1 (place_of q) x)
  kx = kept-counted 1 (place_of q) h.good h.room

  -- 'type "~" type'
  pub equal-done : {b r : Point} {z : Lent} → byte_of line e ≡ 126 → Reads line e (marked 126) Any b → Done line (type 64) ty_of (Writes writeTy) b y r z
      → (d : List ℕ) → d ≡ headPut view.Equal x.stand z.stand z.dst → Done line typed conOf (Writes writeCon) p x r (lent z.pool z.table d z.stand)
  equal-done be x4 x5 d g =
      let na = not-bad x3 (byte-stands line e be (omega arith)) in
      record {
        reads = behind-type (λ c l hc hl hd. choose-this (isDimAt c l) (after c l) (no_byte c l) (equalRule c l) 126 (omega arith) be refl
            (in-turn (sign "~" >> type 64) (λ r. give (equalAt c l r)) (in-turn (sign "~") (λ u. type 64) x4 (λ u hu. x5.reads))
            (λ r hr. given (equalAt c l r) x5.reads.within (λ n. equal-effect q hc (not-bad x2.reads na) hq l x2.kept (hl na) r x5.kept (hr n) d g))));
        kept = kept-headed view.Equal (place_of q) kx (kept_then x2.kept x5.kept) d g;
        halted = x5.halted;
      }

  -- 'type ":" "DType"'
  pub dim-done : {b r : Point} → byte_of line e ≡ 58 → Reads line e (marked 58) Any b → Reads line b (spelled (ascii "DType")) Any r
      → (d : List ℕ) → d ≡ headPut view.IsDim x.stand y.stand y.dst → Done line typed conOf (Writes writeCon) p x r (lent y.pool y.table d y.stand)
  dim-done be x4 x5 d g =
      let na = not-bad x3 (byte-stands line e be (omega arith)) in
      record {
        reads = behind-type (λ c l hc hl hd. choose-this (isDimAt c l) (after c l) (no_byte c l) (dimRule c l) 58 (omega arith) be refl
            (in-turn (sign ":" >> sign "DType") (λ w. give (isDimAt c l)) (in-turn (sign ":") (λ u. sign "DType") x4 (λ u hu. x5))
            (λ w hw. given (isDimAt c l) x5.within (λ n. dim-effect q hc (not-bad x2.reads na) hq l x2.kept (hl na) d g))));
        kept = kept-headed view.IsDim (place_of q) kx x2.kept d g;
        halted = halted-on (inside-spelled _) x5 (halted-on (inside-spelled _) x4 (halted-on inside-column x3 x2.halted));
      }

  -- 'dimension "=" "Scalar"'
  pub scalar-done : {b r : Point} → byte_of line e ≡ 61 → true ≡ beginsAt line q 91 → Reads line e (marked 61) Any b
      → Reads line b (spelled (ascii "Scalar")) Any r
      → (d : List ℕ) → d ≡ headPut view.IsScalar x.stand y.stand y.dst → Done line typed conOf (Writes writeCon) p x r (lent y.pool y.table d y.stand)
  scalar-done be bq x4 x5 d g =
      let na = not-bad x3 (byte-stands line e be (omega arith)) in
      record {
        reads = behind-type (λ c l hc hl hd. scalar-reads c l (hd na ∙ sym bq) be x4 x5 (λ i fs j f n.
            scalar-effect q hc (not-bad x2.reads na) hq x2.kept i fs j (subst
            (λ (t : TyAt). Effect (ty_of t) (Writes writeTy) (countedIn 1 (place_of q) x) y) f (hl na)) d g));
        kept = kept-headed view.IsScalar (place_of q) kx x2.kept d g;
        halted = halted-on (inside-spelled _) x5 (halted-on (inside-spelled _) x4 (halted-on inside-column x3 x2.halted));
      }

  he : Halted e y.stand
  he = halted-on inside-column x3 x2.halted

  past_effect : (e : Point) → Halted e y.stand → NotBad (refusedFrom e) → (c : ℕ) (l : TyAt) → c ≡ columnAt q → NotBad q
      → Effect (ty_of l) (Writes writeTy) (countedIn 1 (place_of q) x) y
      → Effect (conOf (isDimAt c l)) (Writes writeCon) x y
  past_effect (point.At i) o n c l hc nq hl = absurd n
  past_effect point.Deep o n c l hc nq hl = dim-effect q hc nq hq l x2.kept hl y.dst (head-none view.IsDim x.stand y.stand y.dst (λ k m f. o k m refl f))
  past_effect (point.Bad i) o n c l hc nq hl = absurd n

  refused-stands : (e : Point) → NotBad (refusedFrom e) → NotBad e
  refused-stands (point.At i) n = tt
  refused-stands point.Deep n = tt
  refused-stands (point.Bad i) n = n

  -- nothing fits
  pub none_done : (byte_of line e ≡ 126 → ⊥) → (byte_of line e ≡ 58 → ⊥) → (byte_of line e ≡ 61 → false ≡ beginsAt line q 91)
      → Done line typed conOf (Writes writeCon) p x (refusedFrom e) y
  none_done f g o = record {
    reads = behind-type (λ c l hc hl hd. choose-none (isDimAt c l) (after c l) (no_byte c l) line e
        (nothing-after (byte_of line e) c l f g (λ b. hd (not-bad x3 (byte-stands line e b (omega arith))) ∙ sym (o b)))
        (λ n. let na = not-bad x3 (refused-stands e n) in past_effect e he n c l hc (not-bad x2.reads na) (hl na)));
    kept = kept_then kx x2.kept;
    halted = none-halted e he;
  }

-- ══ A field that a type has ══

abbrev closing : ℕ → TyAt → NameAt → Rule ConAt
closing c l i = sign "," >> (type 64 >>= λ t. sign ")" >> give (hasFieldAt c l i t))

abbrev fieldThen : ℕ → TyAt → Rule ConAt
fieldThen c l = sign "," >> (sign "\"" >> (name >>= λ i. spell (ascii "\"") >> closing c l i))

hasfield-read : {line : Bytes} {p q a b c d e f g i j r : Point} {T U : TyAt → Type 0} {N : NameAt → Type 0} {Q : ConAt → Type 0}
    → Reads line p column (λ (k : ℕ). k ≡ columnAt q) q
    → Reads line q (spelled (ascii "HasField")) Any a → Reads line a (marked 40) Any b → Reads line b (type 64) T c → Reads line c (marked 44) Any d
    → Reads line d (marked 34) Any e
    → Reads line e name N f → Reads line f (spell (ascii "\"")) Any g → Reads line g (marked 44) Any i → Reads line i (type 64) U j
    → Reads line j (marked 41) Any r
    → ((k : ℕ) (l : TyAt) (o : NameAt) (t : TyAt) → k ≡ columnAt q → T l → N o → U t → Q (hasFieldAt k l o t)) → Reads line p Grammar.hasField Q r
unfolding Grammar.hasField
hasfield-read x1 x2 x3 x4 x5 x6 x7 x8 x9 x10 x11 h =
    in-turn column (λ c. sign "HasField" >> (sign "(" >> (type 64 >>= λ l. fieldThen c l))) x1
    (λ c hc. in-turn (sign "HasField") (λ u. sign "(" >> (type 64 >>= λ l. fieldThen c l)) x2
    (λ u hu. in-turn (sign "(") (λ u. type 64 >>= λ l. fieldThen c l) x3
    (λ u hu. in-turn (type 64) (λ l. fieldThen c l) x4
    (λ l hl. in-turn (sign ",") (λ u. sign "\"" >> (name >>= λ i. spell (ascii "\"") >> closing c l i)) x5
    (λ u hu. in-turn (sign "\"") (λ u. name >>= λ i. spell (ascii "\"") >> closing c l i) x6
    (λ u hu. in-turn name (λ i. spell (ascii "\"") >> closing c l i) x7
    (λ i hi. in-turn (spell (ascii "\"")) (λ u. closing c l i) x8
    (λ u hu. in-turn (sign ",") (λ u. type 64 >>= λ t. sign ")" >> give (hasFieldAt c l i t)) x9
    (λ u hu. in-turn (type 64) (λ t. sign ")" >> give (hasFieldAt c l i t)) x10
    (λ t ht. in-turn (sign ")") (λ u. give (hasFieldAt c l i t)) x11 (λ u hu. given (hasFieldAt c l i t) x11.within (h c l i t hc hl hi ht))))))))))))

module _ {x y y₁ z : Lent} (q : Point) {k v : ℕ} (hk : k ≡ columnAt q) (n : NotBad q) (h : Halted q x.stand) where
  hasfield-effect : (l : TyAt) (i : NameAt) (t : TyAt) → Kept (countedIn 1 (place_of q) x) y → Effect (ty_of l) (Writes writeTy) (countedIn 1 (place_of q) x) y
      → Kept y y₁ → Effect (named i) (NumberTold y₁.table v) y y₁ → Kept y₁ z → Effect (ty_of t) (Writes writeTy) y₁ z
      → (d : List ℕ) → d ≡ headPut (view.HasField v) x.stand z.stand z.dst
      → Effect (conOf (hasFieldAt k l i t)) (Writes writeCon) x (lent z.pool z.table d z.stand)
  unfolding conOf
  hasfield-effect l i t ky el k1 ei kz et d g =
      let k2 = kept_then k1 kz in
      alike (grouped (counted 1 k) (λ u. ty_of l) (λ u s. onward (named i s) (λ w s. onward (ty_of t s) (λ o. TextReading.give (hasField w u o)))))
      (head-by (view.HasField v) writeCon q _ hk n h (kept_then ky k2)
      (then (ty_of l) (λ u s. onward (named i s) (λ w s. onward (ty_of t s) (λ o. TextReading.give (hasField w u o)))) el k2 (λ u rs hu.
      then (named i) (λ w s. onward (ty_of t s) (λ o. TextReading.give (hasField w u o))) ei kz (λ w os hw.
      maps (ty_of t) (hasField w u) (kept-last kz) et (λ o qs ho.
      subst (λ (m : List Rec). Behind (view.HasField v) writeCon (hasField w u o) (rs ++ (m ++ qs))) (sym hw.none)
      (subst (λ (j : ℕ). Behind (view.HasField v) writeCon (hasField j u o) (rs ++ qs)) (sym hw.is) (field-behind v u o rs qs hu ho)))))) d g)

-- '"HasField" "(" type "," '"' name '"' "," type ")"'
pub hasfield-done : {line : Bytes} {x y y₁ z : Lent} {p q a b c d e f g i j r : Point} {v : ℕ} → Ready line p x.pool x.table x.stand
    → Reads line p column (λ (k : ℕ). k ≡ columnAt q) q
    → Reads line q (spelled (ascii "HasField")) Any a → Reads line a (marked 40) Any b
    → Done line (type 64) ty_of (Writes writeTy) b (countedIn 1 (place_of q) x) c y
    → Reads line c (marked 44) Any d → Reads line d (marked 34) Any e → Done line name named (NumberTold y₁.table v) e y f y₁
    → Reads line f (spell (ascii "\"")) Any g
    → Reads line g (marked 44) Any i → Done line (type 64) ty_of (Writes writeTy) i y₁ j z → Reads line j (marked 41) Any r
    → (o : List ℕ) → o ≡ headPut (view.HasField v) x.stand z.stand z.dst
    → Done line Grammar.hasField conOf (Writes writeCon) p x r (lent z.pool z.table o z.stand)
hasfield-done {q = q} {v = v} h x1 x2 x3 x4 x5 x6 x7 x8 x9 x10 x11 o w = record {
  reads = hasfield-read x1 x2 x3 x4.reads x5 x6 x7.reads x8 x9 x10.reads x11 (λ k l u t hk hl hu ht n.
      let nj = not-bad x11 n in
      let nf = not-bad x8 (not-bad x9 (not-bad x10.reads nj)) in
      let nc = not-bad x5 (not-bad x6 (not-bad x7.reads nf)) in
      hasfield-effect q hk (not-bad x2 (not-bad x3 (not-bad x4.reads nc))) (halted-on inside-column x1 h.halted) l u t x4.kept (hl nc) x7.kept
      (hu nf) x10.kept (ht nj) o w);
  kept = kept-headed (view.HasField v) (place_of q) (kept-counted 1 (place_of q) h.good h.room) (kept_then x4.kept (kept_then x7.kept x10.kept)) o w;
  halted = halted-on (inside-spelled _) x11 x10.halted;
}

-- ══ The quote behind a name, and the end of a line ══

module _ {line : Bytes} {i : ℕ} where
  pub quote-there : i < length line → get_or line i 0 ≡ 34 → Reads line (point.At i) (spell (ascii "\"")) Any (point.At (i + 1))
  quote-there h e = record { within = omega arith; onward = omega arith; value = tt; is = spell-there line i 34 h e; holds = tt }

  pub quote-other : i < length line → (get_or line i 0 ≡ 34 → ⊥) → Reads line (point.At i) (spell (ascii "\"")) Any (point.Bad i)
  quote-other h e = record { within = tt; onward = omega arith; value = tt; is = spell-other line i 34 h e; holds = tt }

  pub quote-end : length line ≤ i → Reads line (point.At i) (spell (ascii "\"")) Any (point.Bad i)
  quote-end h = record { within = tt; onward = omega arith; value = tt; is = spell-end line i 34 h; holds = tt }

pub quote-past : spell (ascii "\"") beyond ≡ read tt beyond
unfolding spell
quote-past = refl

quote-in : (c : ℕ) (bs : Bytes) (a : Unit {0}) → spell (ascii "\"") (here c bs) ≡ read a beyond → ⊥
unfolding spell spellFrom
quote-in c [] a e = cc
quote-in c (b ∷ bs) a e = go (eqb b 34) e
  where
    go : (t : Bool) → ◌≡◌ {A = Parsed (Unit {0})} (elim t [ true ↦ read tt (here (suc c) bs) | false ↦ bad c ]) (read a beyond) → ⊥
    go true f = cc
    go false f = cc

pub inside-quote : Inside (spell (ascii "\""))
inside-quote = record { stays = quote-in }

module _ {line : Bytes} {i : ℕ} where
  pub end-other : i < length line → end_of line (point.At i) (point.Bad i)
  end-other h = record { within = tt; onward = omega arith; value = tt; is = rw (drop-cons line i 0 h); holds = tt }

pub end_read : {line : Bytes} {p e r : Point} → Reads line p column (λ (k : ℕ). k ≡ columnAt e) e → end_of line e r → Reads line p ended Any r
end_read x y = in-turn column (λ c. end_at) x (λ c hc. y)

end-in : (c : ℕ) (bs : Bytes) (a : Unit {0}) → end_at (here c bs) ≡ read a beyond → ⊥
end-in c [] a e = cc
end-in c (b ∷ bs) a e = cc

-- ══ A line: a constraint, a comment, or blanks ══

one_told : (c : Con ℕ) (rs : List Rec) → rs ≡ writeCon c → LineTold 1 (c ∷ []) rs
unfolding collect
one_told c rs e = record { counted = refl; written = e ∙ sym (append-nil (writeCon c)) }

none_told : LineTold 0 [] []
unfolding collect
none_told = record { counted = refl; written = refl }

pub stated-field : {line : Bytes} {p r : Point} {x y : Lent} → true ≡ beginsAt line p 72 → Done line Grammar.hasField conOf (Writes writeCon) p x r y
    → Done line stated conOf (Writes writeCon) p x r y
stated-field e o = record { reads = if-sign "H" Grammar.hasField typed e o.reads; kept = o.kept; halted = o.halted }

pub stated-type : {line : Bytes} {p r : Point} {x y : Lent} → false ≡ beginsAt line p 72 → Done line typed conOf (Writes writeCon) p x r y
    → Done line stated conOf (Writes writeCon) p x r y
stated-type e o = record { reads = if-no-sign "H" Grammar.hasField typed e o.reads; kept = o.kept; halted = o.halted }

pub constraint-done : {line : Bytes} {p a e r : Point} {x y : Lent} → Done line stated conOf (Writes writeCon) p x a y
    → Reads line a column (λ (k : ℕ). k ≡ columnAt e) e → end_of line e r
    → Done line constraint meantOf (LineTold 1) p x r y
unfolding constraint
constraint-done o x z = record {
  reads =
      in-turn stated (λ c. ended >> give (some c)) o.reads
      (λ c hc. in-turn ended (λ u. give (some c)) (end_read x z)
      (λ u hu. given (some c) z.within (λ n. maps (conOf c) (λ d. d ∷ []) (kept-last o.kept) (hc (not-bad x (not-bad z n))) (λ d rs hd. one_told d rs hd))));
  kept = o.kept;
  halted = halted-on (record { stays = end-in }) z (halted-on inside-column x o.halted);
}

signs-here : (line : Bytes) (i : ℕ) → i < length line → signsAt (place_in line i) ≡ ifSign "-" (sign "--" >> give none) constraint (place_in line i)
unfolding signsAt
signs-here line i h = rw (drop-cons line i 0 h)

signs-at : {P : Option ConAt → Type 0} {line : Bytes} {i : ℕ} {r : Point} → i < length line
    → Reads line (point.At i) (ifSign "-" (sign "--" >> give none) constraint) P r → Reads line (point.At i) signsAt P r
signs-at {line = line} {i = i} h x = record { within = x.within; onward = x.onward; value = x.value; is = signs-here line i h ∙ x.is; holds = x.holds }

module _ {line : Bytes} {i : ℕ} (h : i < length line) where
  -- 'whose first sign is "--"'
  pub comment-done : {r : Point} {x : Lent} → Ready line (point.At i) x.pool x.table x.stand → true ≡ beginsAt line (point.At i) 45
      → Reads line (point.At i) (spelled (ascii "--")) Any r
      → Done line signsAt meantOf (LineTold 0) (point.At i) x r x
  comment-done k e y = record {
    reads = signs-at h (if-sign "-" (sign "--" >> give none) constraint e
        (in-turn (sign "--") (λ u. give none) y (λ u hu. given none y.within (λ n. gives [] none_told))));
    kept = kept_same k.good k.room;
    halted = halted-on (inside-spelled _) y k.halted;
  }

  pub signs-done : {r : Point} {x y : Lent} → false ≡ beginsAt line (point.At i) 45 → Done line constraint meantOf (LineTold 1) (point.At i) x r y
      → Done line signsAt meantOf (LineTold 1) (point.At i) x r y
  signs-done e o = record { reads = signs-at h (if-no-sign "-" (sign "--" >> give none) constraint e o.reads); kept = o.kept; halted = o.halted }

-- is there nothing at a point?
abbrev pub Over : Bytes → Point → Type 0
Over line (point.At i) = length line ≤ i
Over line point.Deep = Unit {0}
Over line (point.Bad q) = Unit {0}

pub over-no-place : (line : Bytes) (p : Point) → NotAt p → Over line p
over-no-place line (point.At i) n = absurd (n i refl)
over-no-place line point.Deep n = tt
over-no-place line (point.Bad q) n = tt

blank-reads : {P : Option ConAt → Type 0} (line : Bytes) (p : Point) → PointIn line p → Over line p → P none → Reads line p signsAt P p
unfolding signsAt
blank-reads line (point.At i) w h u = record { within = w; onward = omega arith; value = none; is = rw (drop_of_length-le line {i = i} h); holds = u }
blank-reads line point.Deep w h u = record { within = tt; onward = omega arith; value = none; is = refl; holds = u }
blank-reads line (point.Bad q) w h u = record { within = tt; onward = omega arith; value = none; is = refl; holds = u }

-- 'a line with nothing but blanks'
pub blank-done : {line : Bytes} {p : Point} {x : Lent} → Ready line p x.pool x.table x.stand → Over line p → Done line signsAt meantOf (LineTold 0) p x p x
blank-done {line} {p} k h = record { reads = blank-reads line p k.within h (λ n. gives [] none_told); kept = kept_same k.good k.room; halted = k.halted }

-- a line is read from its first sign
record Whole (line : Bytes) (P : Option ConAt → Type 0) (r : Point) : Type 0 where
  value : Option ConAt
  is : Grammar.line line ≡ standing line r value
  holds : P value

whole-line : {line : Bytes} {q r : Point} {P : Option ConAt → Type 0} → Reads line (point.At 0) column (λ (k : ℕ). k ≡ columnAt q) q
    → Reads line q signsAt P r → Whole line P r
unfolding Grammar.line skip
whole-line x o = let w = in-turn column (λ c. signsAt) x (λ c hc. o) in record { value = w.value; is = w.is; holds = w.holds }

meant_is : (line : Bytes) (r : Point) (v : Option ConAt) → NotBad r → (s : Sofar) → meant (standing line r v) s ≡ meantOf v s
unfolding meant
meant_is line (point.At i) none n s = refl
meant_is line (point.At i) (some c) n s = refl
meant_is line point.Deep none n s = refl
meant_is line point.Deep (some c) n s = refl
meant_is line (point.Bad q) v n s = absurd n

module _ {line : Bytes} {q : Point} {x y : Lent} {n : ℕ} (x1 : Reads line (point.At 0) column (λ (k : ℕ). k ≡ columnAt q) q) where
  pub line-done : {r : Point} → Done line signsAt meantOf (LineTold n) q x r y → NotBad r → LineDone line x y n
  unfolding lineRead
  line-done {r} o h =
      let w = whole-line x1 o.reads in
      record { kept = o.kept; effect = alike (λ s. ap (λ (m : Parsed (Option ConAt)). meant m s) w.is ∙ meant_is line r w.value h s) (w.holds h) }

  -- 12, whatever was refused in the line
  pub line-bad : {j k m : ℕ} (i : ℕ) → Done line signsAt meantOf (LineTold n) q x (point.Bad j) y → x.stand ≡ stand.Going k m
      → LineDone line x (lent y.pool y.table y.dst (stand.Refused NotGrammar j)) i
  unfolding lineRead meant
  line-bad {j} {k} {m} i o g = record {
    kept = record {
      good = o.kept.good;
      more = o.kept.more;
      names = o.kept.names;
      held = o.kept.held;
      pool-long = o.kept.pool-long;
      table-long = o.kept.table-long;
      dst-long = o.kept.dst-long;
      pool-behind = o.kept.pool-behind;
      table-behind = o.kept.table-behind;
      refused = λ r c e. absurd (cc);
      above = λ a b a' b' e f. absurd (cc);
      room = λ a b f. absurd (cc);
    };
    effect = record {
      does = λ a b a' b' e f. absurd (cc);
      refuses = λ a b c r e f.
          let w = same-refused refl f in
          ap (λ (p : Parsed (Option ConAt)). meant p (sofar x a b)) (whole-line x1 o.reads).is
          ∙ ap₂ (λ (t : Refusal) (l : ℕ). refusedAt (number_of t) (suc l)) w.0 w.1;
    };
  }

-- of a line that is refused nothing more is told
pub line_refused : {line : Bytes} {x y : Lent} {r : Refusal} {c n : ℕ} (i : ℕ) → y.stand ≡ stand.Refused r c → LineDone line x y n → LineDone line x y i
line_refused i e o = record {
  kept = o.kept;
  effect = record { does = λ a b a' b' p q. absurd (cc); refuses = o.effect.refuses };
}
