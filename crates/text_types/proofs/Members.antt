-- What follows from the definitions of specs/Members: the fields of a structure, and a structure by its parts.
use Rattle.std.specs.Prelude as code
use Rattle.std.specs.Prelude.{◌≡◌, refl, Bool, true, false, ℕ, suc, ◌+◌, ◌≤◌, ◌<◌, min, length, get_or, Err, Ok}
use Rattle.std.proofs.Common.{sym, ap, ap₂, ◌∙◌, arith, length-append}
use Rattle.std.proofs.Math.Path.{subst}
use mathlib.Core.List.{List, [], ◌∷◌, ◌++◌}
use Rattle.std.proofs.Math.Option.{Option, none, some}
use Rattle.rules.specs.Base.{need}
use Rattle.rules.specs.Names.{Bytes}
use Rattle.rules.specs.Refusals.{number_of}
use Rattle.rules.specs.WellFormed.{is_lt}
use Rattle.rules.specs.Trees.{Ty, struct, Tys, Fields, noFields, field, size, sizeTys, sizeFields, count, countFields}
use Rattle.rules.specs.Writing.{Rec, rec, head, words, writeTy, writeTys, writeFields}
use Rattle.rules.specs.Grammar.{Parsed, read, bad, pass, Rule, column, NameAt, name, nameFrom, whole, TyAt, FieldsAt, noneAt, field_at, structure}
use Rattle.rules.specs.Grammar as Grammar
use Rattle.rules.specs.TextReading.{Sofar, Told, told, refusedAt, Step, onward, give, placed, counted, named, namesSofar, rises, ty_of, tys_of, fields_of}
use Rattle.rules.specs.declared.Refusal.{Refusal}
use Rattle.rules.specs.declared.Refusal.TheVariants.{Malformed}
use Rattle.laws.proofs.Size.{size-ty, size-tys, size-fields}
use Rattle.records.specs.Views.{recOf}
use Rattle.records.specs.declared.View.TheVariants as view
use Rattle.text_grammar.specs.declared.inner.Point.TheVariants as point
use Rattle.text_grammar.specs.declared.inner.Point.{Point}
use Rattle.text_grammar.specs.Points.{Reads, Any, from, standing, marked, columnAt}
use Rattle.text_grammar.proofs.Points.{in-turn}
use Rattle.text_grammar.specs.Types.{typesThere, fieldsThere, fieldRule}
use Rattle.text_grammar.proofs.Types.{field-read, structure-read}
use Rattle.text_names.specs.Stands.{place_of, countOf, headPut, Stand}
use Rattle.text_names.proofs.Stands.{same-going, same-refused}
use Rattle.text_names.specs.Effects.{Lent, lent, sofar, Halted, Ready, Kept, Effect, Writes, Done, NotBad}
use Rattle.text_names.proofs.Effects.{not-bad, then, gives, maps, alike, tells-less}
use Rattle.text_names.specs.Effects.{kept_then}
use Rattle.text_names.proofs.Effects.{grouped, kept_same, kept-last, kept-counted, countedIn, halted-on, at_sign}
use Rattle.text_names.specs.Naming.{NumberTold}
use Rattle.text_names.proofs.Inside.{inside-column}
use Rattle.text_names.specs.Stands as stand
use Rattle.text_types.specs.Parts.{TysTold}
use Rattle.text_types.proofs.Parts.{Behind, halted-kept, head_at, head-by, kept-headed, fields-long, tys_long}
use Rattle.text_types.specs.Members.{nameBefore, Risen, stoppedAt, keptIf, fieldRecs, typed, countedTy, risenTy, fieldStep, FieldTold, FieldsTold}

pub never_on : (r : Refusal) (at : ℕ) (s : Stand) (i n : ℕ) → stoppedAt r at s ≡ stand.Going i n → ⊥
never_on r at (Ok tally) i n q = cc
never_on r at (Err stop) i n q = cc

-- only the stand has changed, from what goes on to a refusal
pub kept_if : {x : Lent} (ok : Bool) (r : Refusal) (at : ℕ) → Kept x x → Kept x (lent x.pool x.table x.dst (keptIf ok r at x.stand))
kept_if true r at k = k
kept_if {x} false r at k = record {
  good = k.good;
  more = k.more;
  names = k.names;
  held = k.held;
  pool-long = refl;
  table-long = refl;
  dst-long = refl;
  pool-behind = refl;
  table-behind = refl;
  refused = λ w c e. ap (stoppedAt r at) e;
  above = λ i n i' n' p q. absurd (never_on r at x.stand i' n' q);
  room = λ i n q. absurd (never_on r at x.stand i n q);
}

pub halted-if : {q : Point} (ok : Bool) (r : Refusal) (at : ℕ) (s : Stand) → Halted q s → Halted q (keptIf ok r at s)
halted-if true r at s h = h
halted-if false r at (Ok tally) h = λ i j e g. h tally.names tally.records e refl
halted-if false r at (Err stop) h = λ i j e g. cc

-- ══ Tests between steps ══

-- nothing is written
abbrev pub Nothing : {B : Type 0} → B → List Rec → Type 0
Nothing b rs = rs ≡ []

-- a test of the names held: it passes, or is 1 at a place
tested : {x : Lent} (f : Sofar → Bool) (at : ℕ) (ok : Bool) → ((k n : ℕ) → ok ≡ f (sofar x k n))
    → Effect (λ s. placed (suc at) (need (f s) 1) s) Nothing x (lent x.pool x.table x.dst (keptIf ok Malformed at x.stand))
unfolding words
tested {x} f at true e = record {
  does = λ k n k' n' p q.
      let w = same-going p q in
      record {
        value = tt;
        records = [];
        is = ap (λ (t : Bool). placed (suc at) (need t 1) (sofar x k n)) (sym (e k n)) ∙ ap₂ (λ (i j : ℕ). told tt (sofar x i j)) w.0 w.1;
        tells = refl;
        written = refl;
        grown = omega arith;
      };
  refuses = λ k n c r p q. absurd (cc);
}
tested {x} f at false e = record {
  does = λ k n k' n' p q. let o = ap (stoppedAt Malformed at) p in absurd (cc);
  refuses = λ k n c r p q.
      let o = ap (stoppedAt Malformed at) p in
      let w = same-refused o q in
      ap (λ (t : Bool). placed (suc at) (need t 1) (sofar x k n)) (sym (e k n)) ∙ ap₂ (λ (v : Refusal) (i : ℕ). refusedAt (number_of v) (suc i)) w.0 w.1;
}

pub rises-effect : {x : Lent} (b : code.Option ℕ) (v : ℕ) (ok : Bool) (at : ℕ) → Risen x.pool x.table b v ok → v < get_or x.table 0 0
    → Effect (rises (nameBefore b) v (suc at)) Nothing x (lent x.pool x.table x.dst (keptIf ok Malformed at x.stand))
rises-effect {x} code.None v ok at e h = subst (λ (t : Bool). Effect (give tt) Nothing x (lent x.pool x.table x.dst (keptIf t Malformed at x.stand)))
    (sym (e h)) (gives tt refl)
rises-effect {x} (code.Some y) v ok at e h = tested (λ s. is_lt ((namesSofar s).order y v)) at ok (λ k n. e h)

-- a name has the column where it begins
name-column : {P : NameAt → Type 0} {line : Bytes} {q r : Point} → Reads line q name P r → Reads line q name (λ i. P i × (NotBad r → i.column ≡ columnAt q)) r
unfolding name
name-column {P} {line} {q} {r} x = record { within = x.within; onward = x.onward; value = x.value; is = x.is; holds = (x.holds, go q r x.is) }
  where
    read_is : (m : Parsed Bytes) (c : ℕ) (v : NameAt) (p : Grammar.Place) → pass m (λ n. Grammar.give (record { column = c; bytes = n })) ≡ read v p
        → v.column ≡ c
    read_is (read n o) c v p e = let z : record { column = c; bytes = n } ≡ v = cc in sym (ap (λ (i : NameAt). i.column) z)
    read_is (bad k) c v p e = absurd (cc)

    past_is : (v : NameAt) (p : Grammar.Place) → read (record { column = 0; bytes = [] }) Grammar.beyond ≡ read v p → v.column ≡ 0
    past_is v p e = let z : record { column = 0; bytes = [] } ≡ v = cc in sym (ap (λ (i : NameAt). i.column) z)

    go : (q r : Point) → from line q name ≡ standing line r x.value → NotBad r → x.value.column ≡ columnAt q
    go (point.At i) (point.At j) e n = read_is (nameFrom whole (suc i) _) (suc i) x.value _ e
    go (point.At i) point.Deep e n = read_is (nameFrom whole (suc i) _) (suc i) x.value _ e
    go point.Deep (point.At j) e n = past_is x.value _ e
    go point.Deep point.Deep e n = past_is x.value _ e
    go (point.Bad k) (point.At j) e n = absurd (cc)
    go (point.Bad k) point.Deep e n = absurd (cc)
    go q (point.Bad j) e n = absurd n

-- ══ One field ══

typed-behind : (x : ℕ) (u : Ty ℕ) (rs : List Rec) → rs ≡ writeTy u → recOf (view.Field x) (suc (length rs)) ∷ rs ≡ fieldRecs (x, u)
typed-behind x u rs e = ap₂ (λ (n : ℕ) (l : List Rec). rec (head 9 (suc n)) x 0 0 ∷ l) (ap length e ∙ size-ty u) e

-- how the sheet stands behind the test of a name
abbrev pub tested_in : Bool → ℕ → Lent → Lent
tested_in ok at x = lent x.pool x.table x.dst (keptIf ok Malformed at x.stand)

module _ {y z : Lent} (b : code.Option ℕ) (q : Point) (i : NameAt) (t : TyAt) {v : ℕ} {ok : Bool} where
  -- a field whose name was entered, up to the record that is written when its type is there
  named-field : i.column ≡ columnAt q → NotBad q → Halted q y.stand → Kept y y → Risen y.pool y.table b v ok → v < get_or y.table 0 0
      → Kept (countedIn 1 (place_of q) (tested_in ok (place_of q) y)) z
      → Effect (ty_of t) (Writes writeTy) (countedIn 1 (place_of q) (tested_in ok (place_of q) y)) z
      → (d : List ℕ) → d ≡ headPut (view.Field v) (keptIf ok Malformed (place_of q) y.stand) z.stand z.dst
      → Effect (risenTy (nameBefore b) i.column v t) (λ xu rs. (xu.0 ≡ v) × (rs ≡ fieldRecs xu)) y (lent z.pool z.table d z.stand)
  named-field e n h k ris hv kz f d g =
      let kp = kept_if {x = y} ok Malformed (place_of q) k in
      let kc = kept-counted {x = tested_in ok (place_of q) y} 1 (place_of q) kp.good kp.room in
      let one : Effect (rises (nameBefore b) v i.column) Nothing y (tested_in ok (place_of q) y) =
      at_sign q e n h (λ c. subst (λ (j : ℕ). Effect (rises (nameBefore b) v j) Nothing y (tested_in ok (place_of q) y)) (sym c)
      (rises-effect b v ok (place_of q) ris hv)) in
      then (rises (nameBefore b) v i.column) (λ u. countedTy i.column v t) one (kept-headed (view.Field v) (place_of q) kc kz d g)
      (λ u rs hu. subst (λ (l : List Rec). Effect (countedTy i.column v t) (λ xu qs. (xu.0 ≡ v) × (l ++ qs ≡ fieldRecs xu)) (tested_in ok (place_of q) y)
      (lent z.pool z.table d z.stand)) (sym hu)
      (head_at (view.Field v) q (typed v t) e n (halted-if ok Malformed (place_of q) y.stand h) kz
      (maps (ty_of t) (λ u. (v, u)) {W = λ xu qs. (xu.0 ≡ v) × (qs ≡ writeTy xu.1)} (kept-last kz) f (λ u qs hs. (refl, hs)))
      (λ xu qs w l. (w.0, ap (λ (a : ℕ). recOf (view.Field a) (suc (length qs)) ∷ qs) (sym w.0) ∙ typed-behind xu.0 xu.1 qs w.1)) d g))

field_told : {b : code.Option ℕ} {v : ℕ} (xu : ℕ × Ty ℕ) (rs qs : List Rec) → b ≡ code.Some v → rs ≡ [] → xu.0 ≡ v → qs ≡ fieldRecs xu
    → FieldTold b xu (rs ++ qs)
field_told xu rs qs hb hn e f = record { name = hb ∙ ap (λ (a : ℕ). code.Some a) (sym e); written = ap (λ (l : List Rec). l ++ qs) hn ∙ f }

module _ (ty : Rule TyAt) (b : code.Option ℕ) {line : Bytes} {x x₁ y : Lent} {p q a c r : Point} {v : ℕ} {ok : Bool} where
  pub field-done : Ready line p x.pool x.table x.stand → Reads line p column (λ (k : ℕ). k ≡ columnAt q) q
      → Done line name named (NumberTold x₁.table v) q x a x₁ → Risen x₁.pool x₁.table b v ok → Reads line a (marked 58) Any c
      → Done line ty ty_of (Writes writeTy) c (countedIn 1 (place_of q) (tested_in ok (place_of q) x₁)) r y → {b' : code.Option ℕ}
      → (v < get_or y.table 0 0 → b' ≡ code.Some v)
      → (d : List ℕ) → d ≡ headPut (view.Field v) (keptIf ok Malformed (place_of q) x₁.stand) y.stand y.dst
      → Done line (fieldRule ty) (fieldStep (nameBefore b)) (FieldTold b') p x r (lent y.pool y.table d y.stand)
  field-done h x1 x2 ris x3 x4 {b'} hb d g =
      let k1 = kept-last x2.kept in
      let kp = kept_if {x = x₁} ok Malformed (place_of q) k1 in
      let kc = kept-counted {x = tested_in ok (place_of q) x₁} 1 (place_of q) kp.good kp.room in
      let kz = kept_then kp (kept-headed (view.Field v) (place_of q) kc x4.kept d g) in
      let hq = halted-on inside-column x1 h.halted in
      record {
        reads = field-read ty (in-turn column (λ k. name) x1 (λ k hk. name-column x2.reads)) x3 x4.reads (λ i t hi ht n.
            let na = not-bad x3 (not-bad x4.reads n) in
            let nq = not-bad x2.reads na in
            then (named i) (λ w. risenTy (nameBefore b) i.column w t) (hi.0 na) kz (λ w rs hw.
            let hv : v < get_or x₁.table 0 0 = omega (arith, hw.is, hw.held) in
            subst (λ (j : ℕ). Effect (risenTy (nameBefore b) i.column j t) (λ xu qs. FieldTold b' xu (rs ++ qs)) x₁ (lent y.pool y.table d y.stand)) (sym hw.is)
            (tells-less (λ xu qs w. field_told xu rs qs (hb (omega (arith, kz.held))) hw.none w.0 w.1)
            (named-field b q i t (hi.1 na) nq (halted-kept x2.kept hq) k1 ris hv x4.kept (ht n) d g))));
        kept = kept_then x2.kept kz;
        halted = x4.halted;
      }

pub ready-tested : {line : Bytes} {q : Point} {pool table : List ℕ} {s s₁ : Stand} (ok : Bool) (at : ℕ) → Ready line q pool table s
    → s₁ ≡ keptIf ok Malformed at s → Ready line q pool table s₁
ready-tested {line} {q} {pool} {table} {s} {s₁} ok at h e =
    let k = kept_if {x = lent pool table [] s} ok Malformed at (kept_same h.good h.room) in
    subst (Ready line q pool table) (sym e) (record { within = h.within; good = h.good; room = k.room; halted = halted-if ok Malformed at s h.halted })

-- the same by what the code knows of the test and the count
module _ (ty : Rule TyAt) (b : code.Option ℕ) {line : Bytes} {x x₁ y : Lent} {p q a c r : Point} {v at : ℕ} {ok : Bool} {tested counted : Stand} where
  pub field-by : Ready line p x.pool x.table x.stand → Reads line p column (λ (k : ℕ). k ≡ columnAt q) q
      → Done line name named (NumberTold x₁.table v) q x a x₁ → at ≡ place_of q → Risen x₁.pool x₁.table b v ok → tested ≡ keptIf ok Malformed at x₁.stand
      → counted ≡ countOf 1 at tested → Reads line a (marked 58) Any c → Done line ty ty_of (Writes writeTy) c (lent x₁.pool x₁.table x₁.dst counted) r y
      → (d : List ℕ) → d ≡ headPut (view.Field v) tested y.stand y.dst
      → Done line (fieldRule ty) (fieldStep (nameBefore b)) (FieldTold (code.Some v)) p x r (lent y.pool y.table d y.stand)
  field-by h x1 x2 e ris f k x3 x4 d g =
      let o = f ∙ ap (λ (i : ℕ). keptIf ok Malformed i x₁.stand) e in
      field-done ty b h x1 x2 ris x3
      (subst (λ (u : Stand). Done line ty ty_of (Writes writeTy) c (lent x₁.pool x₁.table x₁.dst u) r y) (k ∙ ap₂ (countOf 1) e o) x4)
      (λ h. refl) d (g ∙ ap (λ (u : Stand). headPut (view.Field v) u y.stand y.dst) o)

-- ══ Fields, one after another ══

pub fields-none : {n : ℕ} {x : Lent} (y : Option ℕ) → n ≤ 4096 → Effect (fields_of noneAt y) (FieldsTold n n) x x
unfolding ty_of tys_of fields_of writeTy writeTys writeFields countFields
fields-none y h = gives noFields (record { written = refl; counted = omega arith })

abbrev rest_of : FieldsAt → ℕ × Ty ℕ → Step (Fields ℕ)
rest_of fs xu = λ s. onward (fields_of fs (some xu.0) s) (λ gs. give (field xu.0 xu.1 gs))

-- one field, and then the others
field-first : (y : Option ℕ) (i : NameAt) (t : TyAt) (fs : FieldsAt) (s : Sofar) → fields_of (field_at i t fs) y s ≡ onward (fieldStep y (i, t) s) (rest_of fs)
unfolding ty_of tys_of fields_of
field-first y i t fs s = first (named i s)
  where
    fourth : (x : ℕ) (m : Told (Ty ℕ)) → onward m (λ u. rest_of fs (x, u)) ≡ onward (onward m (λ u. give {A = ℕ × Ty ℕ} (x, u))) (rest_of fs)
    fourth x (told u s) = refl
    fourth x (refusedAt n k) = refl

    third : (x : ℕ) (m : Told (Unit {0})) → onward (onward m (λ u. ty_of t)) (λ u. rest_of fs (x, u)) ≡ onward (onward m (λ u. typed x t)) (rest_of fs)
    third x (told u s) = fourth x (ty_of t s)
    third x (refusedAt n k) = refl

    second : (x : ℕ) (m : Told (Unit {0})) → onward (onward (onward m (λ u. counted 1 i.column)) (λ u. ty_of t)) (λ u. rest_of fs (x, u)) ≡ onward
        (onward m (λ u. countedTy i.column x t)) (rest_of fs)
    second x (told u s) = third x (counted 1 i.column s)
    second x (refusedAt n k) = refl

    first : (m : Told ℕ) → onward m (λ x s. onward (onward (onward (rises y x i.column s) (λ u. counted 1 i.column)) (λ u. ty_of t))
        (λ u. rest_of fs (x, u))) ≡ onward (onward m (λ x. risenTy y i.column x t)) (rest_of fs)
    first (told x s) = second x (rises y x i.column s)
    first (refusedAt n k) = refl

fields_told : {n m : ℕ} (xu : ℕ × Ty ℕ) (rs qs : List Rec) (gs : Fields ℕ) → rs ≡ fieldRecs xu → FieldsTold (min (n + 1) 4096) m gs qs
    → FieldsTold n m (field xu.0 xu.1 gs) (rs ++ qs)
unfolding writeTy writeTys writeFields countFields
fields_told xu rs qs gs e g = record { written = ap₂ ◌++◌ e g.written; counted = omega (arith, g.counted) }

pub fields-more : {n m : ℕ} {b : code.Option ℕ} {x z o : Lent} (y : Option ℕ) (i : NameAt) (t : TyAt) (fs : FieldsAt)
    → Effect (fieldStep y (i, t)) (FieldTold b) x z
    → Kept z o
    → Effect (fields_of fs (nameBefore b)) (FieldsTold (min (n + 1) 4096) m) z o → Effect (fields_of (field_at i t fs) y) (FieldsTold n m) x o
fields-more {n} {m} {b} {x} {z} {o} y i t fs e k f =
    alike (field-first y i t fs)
    (then (fieldStep y (i, t)) (rest_of fs) e k (λ xu rs h.
    maps (fields_of fs (some xu.0)) (field xu.0 xu.1) (kept-last k)
    (subst (λ (a : Option ℕ). Effect (fields_of fs a) (FieldsTold (min (n + 1) 4096) m) z o) (ap nameBefore h.name) f)
    (λ gs qs g. fields_told xu rs qs gs h.written g)))

-- ══ A structure ══

struct-behind : (v n m : ℕ) (us : Tys ℕ) (gs : Fields ℕ) (rs qs : List Rec) → TysTold 0 n us rs → FieldsTold 0 m gs qs
    → Behind (view.Struct v n m) writeTy (struct v us gs) (rs ++ qs)
unfolding writeTy writeTys writeFields size sizeTys sizeFields
struct-behind v n m us gs rs qs t g h =
    let f : count us ≤ length rs = subst (λ (l : List Rec). count us ≤ length l) (sym t.written) (tys_long us) in
    let k : countFields gs ≤ length qs = subst (λ (l : List Rec). countFields gs ≤ length l) (sym g.written) (fields-long gs) in
    let c : n ≡ count us = omega (arith, t.counted, f, length-append rs qs) in
    let d : m ≡ countFields gs = omega (arith, g.counted, k, length-append rs qs) in
    let l : length (rs ++ qs) ≡ sizeTys us + sizeFields gs = length-append rs qs
    ∙ ap₂ ◌+◌ (ap length t.written ∙ size-tys us) (ap length g.written ∙ size-fields gs) in
    ap (λ (i : ℕ). rec (head 8 (suc i)) v n m ∷ (rs ++ qs)) l
    ∙ ap₂ (λ (a b : ℕ). rec (head 8 (suc (sizeTys us + sizeFields gs))) v a b ∷ (rs ++ qs)) c d
    ∙ ap₂ (λ (a b : List Rec). rec (head 8 (suc (sizeTys us + sizeFields gs))) v (count us) (countFields gs) ∷ (a ++ b)) t.written g.written

module _ (ty : Rule TyAt) {line : Bytes} {x x₁ x₂ y : Lent} where
  pub structure-done : {p q a b c r : Point} {v n m : ℕ} → Ready line p x.pool x.table x.stand → Reads line p column (λ (k : ℕ). k ≡ columnAt q) q
      → Reads line q (marked 64) Any a
      → Done line name named (NumberTold x₁.table v) a (countedIn 1 (place_of q) x) b x₁ → Done line (typesThere ty) tys_of (TysTold 0 n) b x₁ c x₂
      → Done line (fieldsThere ty) (λ fs. fields_of fs none) (FieldsTold 0 m) c x₂ r y
      → (d : List ℕ) → d ≡ headPut (view.Struct v n m) x.stand y.stand y.dst
      → Done line (structure ty) ty_of (Writes writeTy) p x r (lent y.pool y.table d y.stand)
  unfolding ty_of tys_of fields_of
  structure-done {p} {q} {a} {b} {c} {r} {v} {n} {m} h x1 x2 x3 x4 x5 d g =
      let k2 = x5.kept in
      let k1 = kept_then x4.kept k2 in
      let k0 = kept_then x3.kept k1 in
      record {
        reads = structure-read ty x1 x2 x3.reads x4.reads x5.reads (λ k i ts fs hk hi ht hf o.
            let nc = not-bad x5.reads o in
            let nb = not-bad x4.reads nc in
            alike (grouped (counted 1 k) (λ u. named i) (λ w s. onward (tys_of ts s) (λ us s. onward (fields_of fs none s) (λ gs. give (struct w us gs)))))
            (head-by (view.Struct v n m) writeTy q _ hk (not-bad x2 (not-bad x3.reads nb)) (halted-on inside-column x1 h.halted) k0
            (then (named i) (λ w s. onward (tys_of ts s) (λ us s. onward (fields_of fs none s) (λ gs. give (struct w us gs)))) (hi nb) k1 (λ w os hw.
            then (tys_of ts) (λ us s. onward (fields_of fs none s) (λ gs. give (struct w us gs))) (ht nc) k2 (λ us rs hs.
            maps (fields_of fs none) (struct w us) (kept-last k2) (hf o) (λ gs qs hg.
            subst (λ (l : List Rec). Behind (view.Struct v n m) writeTy (struct w us gs) (l ++ (rs ++ qs))) (sym hw.none)
            (subst (λ (j : ℕ). Behind (view.Struct v n m) writeTy (struct j us gs) (rs ++ qs)) (sym hw.is) (struct-behind v n m us gs rs qs hs hg)))))) d g));
        kept = kept-headed (view.Struct v n m) (place_of q) (kept-counted 1 (place_of q) h.good h.room) k0 d g;
        halted = x5.halted;
      }
