-- What follows from the definitions of specs/Rows: types and fields in a row, turn by turn; parts that may be left out; and the type that a first byte
-- decides on.
use Rattle.std.specs.Prelude as code
use Rattle.std.specs.Prelude.{◌≡◌, refl, true, false, List, ℕ, suc, ◌+◌, ◌-◌, ◌≤◌, ◌<◌, min}
use Rattle.std.proofs.Common.{sym, ap, ap₂, subst, true≢false, arith, ne_eqb}
use Rattle.std.proofs.Math.Option.{none}
use Rattle.rules.specs.Names.{Bytes}
use Rattle.rules.specs.Refusals.{number_of}
use Rattle.rules.specs.Trees.{Ty}
use Rattle.rules.specs.Writing.{Rec, writeTy}
use Rattle.rules.specs.Grammar.{Rule, column, TyAt, deepAt, TysAt, FieldsAt, moreTys, tys, moreFields, fields, type}
use Rattle.rules.specs.TextReading.{Step, refusedAt, ty_of, tys_of, fields_of}
use Rattle.rules.specs.declared.Refusal.{Refusal}
use Rattle.rules.specs.declared.Refusal.TheVariants.{Malformed}
use Rattle.text_grammar.specs.declared.inner.Point.TheVariants as point
use Rattle.text_grammar.specs.declared.inner.Point.{Point}
use Rattle.text_grammar.specs.Points.{Reads, MarkRead, Any, marked, columnAt, beginsAt, left_at}
use Rattle.text_grammar.specs.Factors.{byte_of, refusedFrom}
use Rattle.text_grammar.specs.Types.{fieldRule}
use Rattle.text_grammar.proofs.Types.{Onto, onto-here, tys-go, tys-less, tys-end, tys-read, fields_go, fields-less, fields-end, fields_read}
use Rattle.text_grammar.specs.Types.{paramsThere, typesThere, fieldsThere}
use Rattle.text_grammar.proofs.Types.{with_params, without-params, with-types, without-types, with-fields}
use Rattle.text_grammar.proofs.Types.{without-fields}
use Rattle.text_grammar.specs.Choice.{ruled, deepRuled, among, heads}
use Rattle.text_grammar.proofs.Choice.{deep-there, deep_none, by-none, deep-by, type-by}
use Rattle.text_names.specs.Stands.{place_of, Stand}
use Rattle.text_names.proofs.Stands.{same-refused}
use Rattle.text_names.specs.Effects.{Lent, lent, Halted, Ready, Kept, Effect, Writes, Done, NotBad, kept_then}
use Rattle.text_names.proofs.Effects.{not-bad, kept_same, kept-last, halted-on}
use Rattle.text_names.proofs.Inside.{inside-spelled}
use Rattle.text_types.specs.Parts.{TysTold}
use Rattle.text_types.proofs.Parts.{tys-none, tys-more}
use Rattle.text_types.specs.Members.{nameBefore, fieldStep, FieldTold, FieldsTold, stoppedAt}
use Rattle.text_types.proofs.Members.{fields-none, fields-more, kept_if, never_on}

-- ══ Types in a row ══

-- what the types ts did from x on, of which n were counted before
pub record TysFrom (n : ℕ) (x : Lent) (r : Point) (z : Lent × ℕ) (ts : TysAt) : Type 0 where
  pub kept : Kept x z.0
  pub effect : NotBad r → Effect (tys_of ts) (TysTold n z.1) x z.0

-- the types were read from p, x and n up to q, y and m
pub record TysLoop (ty : Rule TyAt) (line : Bytes) (p : Point) (x : Lent) (n : ℕ) (q : Point) (y : Lent) (m : ℕ) : Type 0 where
  pub onto : Onto (moreTys ty) line p (TysFrom n x) q (TysFrom m y)
  pub ready : Ready line q y.pool y.table y.stand
  pub kept : Kept x y
  pub few : m ≤ 4096

pub tys-start : {line : Bytes} {p : Point} {x : Lent} {n : ℕ} (ty : Rule TyAt) → Ready line p x.pool x.table x.stand → n ≤ 4096 → TysLoop ty line p x n p x n
tys-start {line} {p} {x} {n} ty h f = record { onto = onto-here (moreTys ty) (TysFrom n x) h.within; ready = h; kept = kept_same h.good h.room; few = f }

module _ {ty : Rule TyAt} {line : Bytes} {p q : Point} {x y : Lent} {n m : ℕ} (l : TysLoop ty line p x n q y m) where
  pub tys-turn : {a b : Point} {z : Lent} → true ≡ beginsAt line q 44 → MarkRead line q 44 a → Done line ty ty_of (Writes writeTy) a y b z
      → TysLoop ty line p x n b z (min (m + 1) 4096)
  tys-turn {z = z} e k o = record {
    onto = tys-go ty l.onto (TysFrom (min (m + 1) 4096) z) e k o.reads (λ r w t ts i ht hr hs. record {
      kept = kept_then o.kept hs.kept;
      effect = λ nr. tys-more t ts (ht (not-bad hr nr)) hs.kept (hs.effect nr);
    });
    ready = record { within = o.reads.within; good = o.kept.good; room = o.kept.room; halted = o.halted };
    kept = kept_then l.kept o.kept;
    few = omega arith;
  }

  pub tys-fall : {a b : Point} {z : Lent} → true ≡ beginsAt line q 44 → MarkRead line q 44 a → Done line ty ty_of (Writes writeTy) a y b z
      → left_at line b < left_at line q
  tys-fall e k o = tys-less ty l.onto e k o.reads

-- the first type, and the others
pub tys-done : {line : Bytes} {p f q : Point} {w x y : Lent} {m : ℕ} (ty : Rule TyAt) → Done line ty ty_of (Writes writeTy) p w f x
    → TysLoop ty line f x 1 q y m → false ≡ beginsAt line q 44
    → Done line (tys ty) tys_of (TysTold 0 m) p w q y
tys-done {y = y} {m = m} ty o l e = record {
  reads = tys-read ty o.reads (tys-end ty l.onto (y, m) e (record { kept = kept-last l.kept; effect = λ n. tys-none l.few }))
      (λ t ts i ht hr hs n. tys-more t ts (ht (not-bad hr n)) hs.kept (hs.effect n));
  kept = kept_then o.kept l.kept;
  halted = l.ready.halted;
}

-- ══ Fields in a row ══

-- what the fields fs did from x on, behind a field named b, of which n were counted before
pub record FieldsFrom (n : ℕ) (b : code.Option ℕ) (x : Lent) (r : Point) (z : Lent × ℕ) (fs : FieldsAt) : Type 0 where
  pub kept : Kept x z.0
  pub effect : NotBad r → Effect (fields_of fs (nameBefore b)) (FieldsTold n z.1) x z.0

-- the fields were read from p, x, n and b up to q, y, m and c
pub record FieldsLoop (ty : Rule TyAt) (line : Bytes) (p : Point) (x : Lent) (n : ℕ) (b : code.Option ℕ) (q : Point) (y : Lent) (m : ℕ)
    (c : code.Option ℕ) : Type 0 where
  pub onto : Onto (moreFields ty) line p (FieldsFrom n b x) q (FieldsFrom m c y)
  pub ready : Ready line q y.pool y.table y.stand
  pub kept : Kept x y
  pub few : m ≤ 4096

pub fields-start : {line : Bytes} {p : Point} {x : Lent} {n : ℕ} {b : code.Option ℕ} (ty : Rule TyAt) → Ready line p x.pool x.table x.stand → n ≤ 4096
    → FieldsLoop ty line p x n b p x n b
fields-start {line} {p} {x} {n} {b} ty h f =
    record { onto = onto-here (moreFields ty) (FieldsFrom n b x) h.within; ready = h; kept = kept_same h.good h.room; few = f }

module _ {ty : Rule TyAt} {line : Bytes} {p q : Point} {x y : Lent} {n m : ℕ} {b c : code.Option ℕ} (l : FieldsLoop ty line p x n b q y m c) where
  pub fields-turn : {a i : Point} {z : Lent} {d : code.Option ℕ} → true ≡ beginsAt line q 44 → MarkRead line q 44 a
      → Done line (fieldRule ty) (fieldStep (nameBefore c)) (FieldTold d) a y i z → FieldsLoop ty line p x n b i z (min (m + 1) 4096) d
  fields-turn {z = z} {d = d} e k o = record {
    onto = fields_go ty l.onto (FieldsFrom (min (m + 1) 4096) d z) e k o.reads (λ r w i t fs j hf hr hs. record {
      kept = kept_then o.kept hs.kept;
      effect = λ nr. fields-more (nameBefore c) i t fs (hf (not-bad hr nr)) hs.kept (hs.effect nr);
    });
    ready = record { within = o.reads.within; good = o.kept.good; room = o.kept.room; halted = o.halted };
    kept = kept_then l.kept o.kept;
    few = omega arith;
  }

  pub fields-fall : {a i : Point} {z : Lent} {d : code.Option ℕ} → true ≡ beginsAt line q 44 → MarkRead line q 44 a
      → Done line (fieldRule ty) (fieldStep (nameBefore c)) (FieldTold d) a y i z → left_at line i < left_at line q
  fields-fall e k o = fields-less ty l.onto e k o.reads

pub fields-done : {line : Bytes} {p f q : Point} {w x y : Lent} {m : ℕ} {b c : code.Option ℕ} (ty : Rule TyAt)
    → Done line (fieldRule ty) (fieldStep none) (FieldTold b) p w f x
    → FieldsLoop ty line f x 1 b q y m c → false ≡ beginsAt line q 44 → Done line (fields ty) (λ fs. fields_of fs none) (FieldsTold 0 m) p w q y
fields-done {y = y} {m = m} {c = c} ty o l e = record {
  reads = fields_read ty o.reads (fields-end ty l.onto (y, m) e (record { kept = kept-last l.kept; effect = λ n. fields-none (nameBefore c) l.few }))
      (λ i t fs j hf hr hs n. fields-more none i t fs (hf (not-bad hr n)) hs.kept (hs.effect n));
  kept = kept_then o.kept l.kept;
  halted = l.ready.halted;
}

-- ══ Parts that may be left out ══

module _ (ty : Rule TyAt) {line : Bytes} {p : Point} {x : Lent} where
  pub some-params : {r : Point} {y : Lent} {n : ℕ} → false ≡ beginsAt line p 41 → Done line (tys ty) tys_of (TysTold 0 n) p x r y
      → Done line (paramsThere ty) tys_of (TysTold 0 n) p x r y
  some-params e o = record { reads = with_params ty e o.reads; kept = o.kept; halted = o.halted }

  pub no-params : Ready line p x.pool x.table x.stand → true ≡ beginsAt line p 41 → Done line (paramsThere ty) tys_of (TysTold 0 0) p x p x
  no-params h e = record { reads = without-params ty h.within e (λ n. tys-none (omega arith)); kept = kept_same h.good h.room; halted = h.halted }

  pub some-types : {a b r : Point} {y : Lent} {n : ℕ} → true ≡ beginsAt line p 60 → Reads line p (marked 60) Any a
      → Done line (tys ty) tys_of (TysTold 0 n) a x b y → Reads line b (marked 62) Any r
      → Done line (typesThere ty) tys_of (TysTold 0 n) p x r y
  some-types e k o c = record {
    reads = with-types ty e k o.reads c (λ ts h n. h (not-bad c n));
    kept = o.kept;
    halted = halted-on (inside-spelled _) c o.halted;
  }

  pub no-types : Ready line p x.pool x.table x.stand → false ≡ beginsAt line p 60 → Done line (typesThere ty) tys_of (TysTold 0 0) p x p x
  no-types h e = record { reads = without-types ty h.within e (λ n. tys-none (omega arith)); kept = kept_same h.good h.room; halted = h.halted }

  pub some-fields : {a b r : Point} {y : Lent} {n : ℕ} → true ≡ beginsAt line p 123 → Reads line p (marked 123) Any a
      → Done line (fields ty) (λ fs. fields_of fs none) (FieldsTold 0 n) a x b y
      → Reads line b (marked 125) Any r → Done line (fieldsThere ty) (λ fs. fields_of fs none) (FieldsTold 0 n) p x r y
  some-fields e k o c = record {
    reads = with-fields ty e k o.reads c (λ fs h n. h (not-bad c n));
    kept = o.kept;
    halted = halted-on (inside-spelled _) c o.halted;
  }

  pub no_fields : Ready line p x.pool x.table x.stand → false ≡ beginsAt line p 123
      → Done line (fieldsThere ty) (λ fs. fields_of fs none) (FieldsTold 0 0) p x p x
  no_fields h e = record { reads = without-fields ty h.within e (λ n. fields-none none (omega arith)); kept = kept_same h.good h.room; halted = h.halted }

-- ══ The rule that a first byte decides on ══

-- a rule that reads what another reads does what the other does
pub done-by : {A B : Type 0} {R S : Rule A} {f : A → Step B} {T : B → List Rec → Type 0} {line : Bytes} {p q r : Point} {x y : Lent}
    → (Reads line q R (λ a. NotBad r → Effect (f a) T x y) r → Reads line p S (λ a. NotBad r → Effect (f a) T x y) r) → Done line R f T q x r y
    → Done line S f T p x r y
done-by g d = record { reads = g d.reads; kept = d.kept; halted = d.halted }

-- a byte with which no type begins, and the last one with which one does
pub no-head : (b : ℕ) → (b ≡ 63 → ⊥) → (b ≡ 33 → ⊥) → (b ≡ 91 → ⊥) → (b ≡ 66 → ⊥) → (b ≡ 83 → ⊥) → (b ≡ 68 → ⊥) → (b ≡ 70 → ⊥) → (b ≡ 76 → ⊥) → (b ≡ 64 → ⊥)
    → among b heads ≡ false
no-head b h1 h2 h3 h4 h5 h6 h7 h8 h9 =
    rw (ne_eqb b 63 h1, ne_eqb b 33 h2, ne_eqb b 91 h3, ne_eqb b 66 h4, ne_eqb b 83 h5, ne_eqb b 68 h6, ne_eqb b 70 h7, ne_eqb b 76 h8, ne_eqb b 64 h9)

-- where nothing fits, nothing is done
none-effect : {B : Type 0} {T : B → List Rec → Type 0} {x : Lent} (m : Step B) (q : Point) → Halted q x.stand → NotBad (refusedFrom q) → Effect m T x x
none-effect m (point.At i) h n = absurd n
none-effect m point.Deep h n = record { does = λ k l k' l' p q. absurd (h k l refl p); refuses = λ k l c r p q. absurd (h k l refl p) }
none-effect m (point.Bad i) h n = absurd n

pub none-halted : {s : Stand} (q : Point) → Halted q s → Halted (refusedFrom q) s
none-halted (point.At i) h = λ k n e f. cc
none-halted point.Deep h = h
none-halted (point.Bad i) h = λ k n e f. cc

module _ {T : Ty ℕ → List Rec → Type 0} {line : Bytes} {q : Point} {x : Lent} (h : Ready line q x.pool x.table x.stand) where
  pub no-type : (d : ℕ) → among (byte_of line q) heads ≡ false → Done line (ruled d) ty_of T q x (refusedFrom q) x
  no-type d e = record { reads = by-none d e (none-effect (ty_of (deepAt 0)) q h.halted); kept = kept_same h.good h.room; halted = none-halted q h.halted }

  pub no-deep : false ≡ among (byte_of line q) heads → Done line deepRuled ty_of T q x (refusedFrom q) x
  no-deep e = record { reads = deep_none (sym e) (none-effect (ty_of (deepAt 0)) q h.halted); kept = kept_same h.good h.room; halted = none-halted q h.halted }

-- a type nested too deep is 1 at its first byte
deep-effect : {T : Ty ℕ → List Rec → Type 0} {x : Lent} (i : ℕ) → Effect (ty_of (deepAt (suc i))) T x
    (lent x.pool x.table x.dst (stoppedAt Malformed i x.stand))
unfolding ty_of tys_of fields_of
deep-effect {x = x} i = record {
  does = λ k n k' n' p q. absurd (never_on Malformed i x.stand k' n' q);
  refuses = λ k n c r p q.
      let o = ap (stoppedAt Malformed i) p in
      let w = same-refused o q in
      ap₂ (λ (v : Refusal) (j : ℕ). refusedAt (number_of v) (suc j)) w.0 w.1;
}

pub deep-type : {T : Ty ℕ → List Rec → Type 0} {line : Bytes} (q : Point) {x : Lent} → Ready line q x.pool x.table x.stand → true ≡ among (byte_of line q) heads
    → Done line deepRuled ty_of T q x point.Deep (lent x.pool x.table x.dst (stoppedAt Malformed (place_of q) x.stand))
deep-type (point.At i) {x} h e = record {
  reads = deep-there (sym e) (λ n. deep-effect i);
  kept = kept_if false Malformed i (kept_same h.good h.room);
  halted = λ k n a b. never_on Malformed i x.stand k n b;
}
deep-type point.Deep h e = absurd (true≢false e)
deep-type (point.Bad i) h e = absurd (true≢false e)

pub type-zero : {f : TyAt → Step (Ty ℕ)} {T : Ty ℕ → List Rec → Type 0} {line : Bytes} {p q r : Point} {x y : Lent} (d : ℕ) → d ≡ 0
    → Reads line p column (λ (k : ℕ). k ≡ columnAt q) q
    → Done line deepRuled f T q x r y → Done line (type d) f T p x r y
type-zero {f} {T} {line} {p} {q} {r} {x} {y} d e k o = subst (λ (i : ℕ). Done line (type i) f T p x r y) (sym e) (done-by (deep-by k) o)

pub type-some : {f : TyAt → Step (Ty ℕ)} {T : Ty ℕ → List Rec → Type 0} {line : Bytes} {p q r : Point} {x y : Lent} (d : ℕ) → (d ≡ 0 → ⊥)
    → Reads line p column (λ (k : ℕ). k ≡ columnAt q) q
    → Done line (ruled (d - 1)) f T q x r y → Done line (type d) f T p x r y
type-some {f} {T} {line} {p} {q} {r} {x} {y} d n k o =
    let e : suc (d - 1) ≡ d = omega (arith, n) in
    subst (λ (i : ℕ). Done line (type i) f T p x r y) e (done-by (type-by (d - 1) k) o)
