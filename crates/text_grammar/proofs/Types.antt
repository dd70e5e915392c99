-- What follows from the definitions of specs/Types: types from point to point, whatever the rule for the types inside, and what is known of a type by what
-- is known of its parts.
use Rattle.std.specs.Prelude.{◌≡◌, refl, true, false}
use Rattle.std.proofs.Common.{◌∙◌, arith}
use Prim.Native.Nat.{ℕ, zero, suc, ◌≤◌, ◌<◌}
use Rattle.rules.specs.Names.{Bytes}
use Rattle.rules.specs.Grammar.{Place, beyond, Parsed, read, bad, pass, Rule, give, ascii, sign, column, left, NameAt, name, TyAt, TysAt}
use Rattle.rules.specs.Grammar.{nilAt, consAt, FieldsAt, noneAt, field_at, fn_at, listAt, struct_at, moreTys, tys, function, listed, fieldName}
use Rattle.rules.specs.Grammar.{moreFields, fields, structure, ◌>>=◌, ◌>>◌}
use Rattle.text_scan.specs.Scanned.{place_in}
use Rattle.text_grammar.specs.declared.inner.Point.{Point}
use Rattle.text_grammar.specs.Points.{Reads, from, PointIn, MarkRead, Any, marked, left_at, columnAt, beginsAt}
use Rattle.text_grammar.proofs.Points.{in-turn, given, if-sign, if-no-sign}
use Rattle.text_grammar.proofs.Factors.{begun, left_there}
use Rattle.text_grammar.specs.Signs.{spelled}
use Rattle.text_grammar.specs.declared.inner.Point.TheVariants as point
use Rattle.text_grammar.specs.Types.{paramsThere, types_in, typesThere, fieldsIn, fieldsThere, withName, fieldRule}

-- ══ The same rule, and whatever follows ══

-- a rule that is the same everywhere reads the same
from-same : {A : Type 0} {R S : Rule A} (line : Bytes) (p : Point) → ((q : Place) → R q ≡ S q) → from line p R ≡ from line p S
from-same line (point.At i) f = f (place_in line i)
from-same line point.Deep f = f beyond
from-same line (point.Bad q) f = refl

same-rule : {A : Type 0} {P : A → Type 0} {R S : Rule A} {line : Bytes} {p r : Point} → ((q : Place) → R q ≡ S q) → Reads line p S P r → Reads line p R P r
same-rule {A} {P} {R} {S} {line} {p} {r} f x = record { within = x.within; onward = x.onward; value = x.value; is = from-same line p f ∙ x.is; holds = x.holds }

-- all that follow, whatever bounds their number
abbrev pub Whatever : {B : Type 0} → (ℕ → Rule B) → Bytes → Point → (B → Type 0) → Point → Type 0
Whatever M line p P r = (n : ℕ) → left_at line p ≤ n → Reads line p (M n) P r

-- whatever follows at q follows from p: P and Q say what is known of what is read from p and from q, by where it ends (r) and what there is then (z)
pub record Onto {B Z : Type 0} (M : ℕ → Rule B) (line : Bytes) (p : Point) (P : Point → Z → B → Type 0) (q : Point) (Q : Point → Z → B → Type 0) : Type 0 where
  pub within : PointIn line q
  pub follows : (r : Point) (z : Z) → Whatever M line q (Q r z) r → Whatever M line p (P r z) r

pub onto-here : {B Z : Type 0} (M : ℕ → Rule B) {line : Bytes} {p : Point} (P : Point → Z → B → Type 0) → PointIn line p → Onto M line p P p P
onto-here M P i = record { within = i; follows = λ r z f. f }

module _ (ty : Rule TyAt) where
  -- ══ Types, one after another ══

  abbrev nextTy : ℕ → Rule TysAt
  nextTy n = sign "," >> (ty >>= λ t. moreTys ty n >>= λ ts. give (consAt t ts))

  module _ {Z : Type 0} {line : Bytes} {p q : Point} {P Q : Point → Z → TysAt → Type 0} (m : Onto (moreTys ty) line p P q Q) where
    one-ty : {a b : Point} {T : TyAt → Type 0} {U W : TysAt → Type 0} → true ≡ beginsAt line q 44 → MarkRead line q 44 a → Reads line a ty T b
        → (r : Point) → ((t : TyAt) (ts : TysAt) (n : ℕ) → T t → Reads line b (moreTys ty n) W r → W ts → U (consAt t ts)) → Whatever (moreTys ty) line b W r
        → Whatever (moreTys ty) line q U r
    unfolding moreTys
    one-ty e x y r f k zero h = absurd (omega (arith, begun line 44 q m.within e))
    one-ty e x y r f k (suc n) h =
        let z = k n (omega (arith, y.onward, x.less, begun line 44 q m.within e)) in
        if-sign "," (nextTy n) (give nilAt) e
        (in-turn (sign ",") (λ u. ty >>= λ t. moreTys ty n >>= λ ts. give (consAt t ts)) x.reads
        (λ u hu. in-turn ty (λ t. moreTys ty n >>= λ ts. give (consAt t ts)) y
        (λ t ht. in-turn (moreTys ty n) (λ ts. give (consAt t ts)) z (λ ts hs. given (consAt t ts) z.within (f t ts n ht z hs)))))

    -- one type more was read
    pub tys-go : {a b : Point} {T : TyAt → Type 0} (W : Point → Z → TysAt → Type 0) → true ≡ beginsAt line q 44 → MarkRead line q 44 a → Reads line a ty T b
        → ((r : Point) (z : Z) (t : TyAt) (ts : TysAt) (n : ℕ) → T t → Reads line b (moreTys ty n) (W r z) r → W r z ts → Q r z (consAt t ts))
        → Onto (moreTys ty) line p P b W
    tys-go W e x y f = record { within = y.within; follows = λ r z k. m.follows r z (one-ty e x y r (f r z) k) }

    pub tys-less : {a b : Point} {T : TyAt → Type 0} → true ≡ beginsAt line q 44 → MarkRead line q 44 a → Reads line a ty T b → left_at line b < left_at line q
    tys-less e x y = omega (arith, y.onward, x.less, begun line 44 q m.within e)

    no-ty : {U : TysAt → Type 0} → false ≡ beginsAt line q 44 → U nilAt → Whatever (moreTys ty) line q U q
    unfolding moreTys
    no-ty e u zero h = given nilAt m.within u
    no-ty e u (suc n) h = if-no-sign "," (nextTy n) (give nilAt) e (given nilAt m.within u)

    pub tys-end : (z : Z) → false ≡ beginsAt line q 44 → Q q z nilAt → Whatever (moreTys ty) line p (P q z) q
    tys-end z e u = m.follows q z (no-ty e u)

  pub tys-read : {line : Bytes} {p f r : Point} {T : TyAt → Type 0} {U Q : TysAt → Type 0} → Reads line p ty T f → Whatever (moreTys ty) line f U r
      → ((t : TyAt) (ts : TysAt) (n : ℕ) → T t → Reads line f (moreTys ty n) U r → U ts → Q (consAt t ts)) → Reads line p (tys ty) Q r
  tys-read {line} {p} {f} {r} x y k =
      in-turn ty (λ t. left >>= λ n. moreTys ty n >>= λ ts. give (consAt t ts)) x
      (λ t ht. in-turn left (λ n. moreTys ty n >>= λ ts. give (consAt t ts)) (left_there line f x.within)
      (λ n hn. let z = y n hn in in-turn (moreTys ty n) (λ ts. give (consAt t ts)) z (λ ts hs. given (consAt t ts) z.within (k t ts n ht z hs))))

  -- ══ Lists and functions ══

  pub listed-read : {line : Bytes} {p s a b c r : Point} {T Q : TyAt → Type 0} → Reads line p column (λ (k : ℕ). k ≡ columnAt s) s
      → Reads line s (spelled (ascii "List")) Any a
      → Reads line a (marked 60) Any b → Reads line b ty T c → Reads line c (marked 62) Any r
      → ((k : ℕ) (t : TyAt) → k ≡ columnAt s → T t → Q (listAt k t)) → Reads line p (listed ty) Q r
  unfolding listed
  listed-read x1 x2 x3 x4 x5 f =
      in-turn column (λ c. sign "List" >> (sign "<" >> (ty >>= λ t. sign ">" >> give (listAt c t)))) x1
      (λ c hc. in-turn (sign "List") (λ u. sign "<" >> (ty >>= λ t. sign ">" >> give (listAt c t))) x2
      (λ u hu. in-turn (sign "<") (λ v. ty >>= λ t. sign ">" >> give (listAt c t)) x3
      (λ v hv. in-turn ty (λ t. sign ">" >> give (listAt c t)) x4
      (λ t ht. in-turn (sign ">") (λ w. give (listAt c t)) x5 (λ w hw. given (listAt c t) x5.within (f c t hc ht))))))

  abbrev result_of : ℕ → TysAt → Rule TyAt
  result_of c ps = ty >>= λ r. sign "]" >> give (fn_at c ps r)

  pub function-read : {line : Bytes} {p s a b c d e f g r : Point} {U : TysAt → Type 0} {T Q : TyAt → Type 0}
      → Reads line p column (λ (k : ℕ). k ≡ columnAt s) s → Reads line s (spelled (ascii "Fn")) Any a
      → Reads line a (marked 91) Any b → Reads line b (marked 40) Any c → Reads line c (paramsThere ty) U d → Reads line d (marked 41) Any e
      → Reads line e (spelled (ascii "->")) Any f → Reads line f ty T g → Reads line g (marked 93) Any r
      → ((k : ℕ) (ps : TysAt) (t : TyAt) → k ≡ columnAt s → U ps → T t → Q (fn_at k ps t)) → Reads line p (function ty) Q r
  unfolding function
  function-read x1 x2 x3 x4 x5 x6 x7 x8 x9 q =
      in-turn column (λ c. sign "Fn" >> (sign "[" >> (sign "(" >> (paramsThere ty >>= λ ps. sign ")" >> (sign "->" >> result_of c ps))))) x1
      (λ c hc. in-turn (sign "Fn") (λ u. sign "[" >> (sign "(" >> (paramsThere ty >>= λ ps. sign ")" >> (sign "->" >> result_of c ps)))) x2
      (λ u hu. in-turn (sign "[") (λ v. sign "(" >> (paramsThere ty >>= λ ps. sign ")" >> (sign "->" >> result_of c ps))) x3
      (λ v hv. in-turn (sign "(") (λ w. paramsThere ty >>= λ ps. sign ")" >> (sign "->" >> result_of c ps)) x4
      (λ w hw. in-turn (paramsThere ty) (λ ps. sign ")" >> (sign "->" >> result_of c ps)) x5
      (λ ps hp. in-turn (sign ")") (λ y. sign "->" >> result_of c ps) x6
      (λ y hy. in-turn (sign "->") (λ z. result_of c ps) x7
      (λ z hz. in-turn ty (λ r. sign "]" >> give (fn_at c ps r)) x8
      (λ r hr. in-turn (sign "]") (λ o. give (fn_at c ps r)) x9 (λ o ho. given (fn_at c ps r) x9.within (q c ps r hc hp hr))))))))))

  -- ══ Parameters, types and fields that may be there ══

  module _ {line : Bytes} {p : Point} {U : TysAt → Type 0} where
    pub with_params : {r : Point} → false ≡ beginsAt line p 41 → Reads line p (tys ty) U r → Reads line p (paramsThere ty) U r
    with_params e x = if-no-sign ")" (give nilAt) (tys ty) e x

    pub without-params : PointIn line p → true ≡ beginsAt line p 41 → U nilAt → Reads line p (paramsThere ty) U p
    without-params i e u = if-sign ")" (give nilAt) (tys ty) e (given nilAt i u)

    pub with-types : {a b r : Point} {T : TysAt → Type 0} → true ≡ beginsAt line p 60 → Reads line p (marked 60) Any a → Reads line a (tys ty) T b
        → Reads line b (marked 62) Any r
        → ((ts : TysAt) → T ts → U ts) → Reads line p (typesThere ty) U r
    with-types e x y z f =
        if-sign "<" (types_in ty) (give nilAt) e
        (in-turn (sign "<" >> tys ty) (λ ts. sign ">" >> give ts) (in-turn (sign "<") (λ u. tys ty) x (λ u hu. y))
        (λ ts ht. in-turn (sign ">") (λ w. give ts) z (λ w hw. given ts z.within (f ts ht))))

    pub without-types : PointIn line p → false ≡ beginsAt line p 60 → U nilAt → Reads line p (typesThere ty) U p
    without-types i e u = if-no-sign "<" (types_in ty) (give nilAt) e (given nilAt i u)

  module _ {line : Bytes} {p : Point} {U : FieldsAt → Type 0} where
    pub with-fields : {a b r : Point} {T : FieldsAt → Type 0} → true ≡ beginsAt line p 123 → Reads line p (marked 123) Any a → Reads line a (fields ty) T b
        → Reads line b (marked 125) Any r
        → ((fs : FieldsAt) → T fs → U fs) → Reads line p (fieldsThere ty) U r
    with-fields e x y z f =
        if-sign "{" (fieldsIn ty) (give noneAt) e
        (in-turn (sign "{" >> fields ty) (λ fs. sign "}" >> give fs) (in-turn (sign "{") (λ u. fields ty) x (λ u hu. y))
        (λ fs hf. in-turn (sign "}") (λ w. give fs) z (λ w hw. given fs z.within (f fs hf))))

    pub without-fields : PointIn line p → false ≡ beginsAt line p 123 → U noneAt → Reads line p (fieldsThere ty) U p
    without-fields i e u = if-no-sign "{" (fieldsIn ty) (give noneAt) e (given noneAt i u)

  -- ══ A structure and a field ══

  pub structure-read : {line : Bytes} {p s a b c r : Point} {N : NameAt → Type 0} {U : TysAt → Type 0} {W : FieldsAt → Type 0} {Q : TyAt → Type 0}
      → Reads line p column (λ (k : ℕ). k ≡ columnAt s) s → Reads line s (marked 64) Any a → Reads line a name N b
      → Reads line b (typesThere ty) U c → Reads line c (fieldsThere ty) W r
      → ((k : ℕ) (n : NameAt) (ts : TysAt) (fs : FieldsAt) → k ≡ columnAt s → N n → U ts → W fs → Q (struct_at k n ts fs)) → Reads line p (structure ty) Q r
  unfolding structure
  structure-read x1 x2 x3 x4 x5 f =
      in-turn column (λ c. sign "@" >> (name >>= λ n. typesThere ty >>= λ ts. fieldsThere ty >>= λ fs. give (struct_at c n ts fs))) x1
      (λ c hc. in-turn (sign "@") (λ u. name >>= λ n. typesThere ty >>= λ ts. fieldsThere ty >>= λ fs. give (struct_at c n ts fs)) x2
      (λ u hu. in-turn name (λ n. typesThere ty >>= λ ts. fieldsThere ty >>= λ fs. give (struct_at c n ts fs)) x3
      (λ n hn. in-turn (typesThere ty) (λ ts. fieldsThere ty >>= λ fs. give (struct_at c n ts fs)) x4
      (λ ts ht. in-turn (fieldsThere ty) (λ fs. give (struct_at c n ts fs)) x5 (λ fs hf. given (struct_at c n ts fs) x5.within (f c n ts fs hc hn ht hf))))))

  pub field-read : {line : Bytes} {p x c r : Point} {N : NameAt → Type 0} {T : TyAt → Type 0} {Q : NameAt × TyAt → Type 0}
      → Reads line p fieldName N x → Reads line x (marked 58) Any c → Reads line c ty T r → ((i : NameAt) (t : TyAt) → N i → T t → Q (i, t))
      → Reads line p (fieldRule ty) Q r
  field-read x1 x2 x3 f =
      in-turn fieldName (λ i. sign ":" >> withName ty i) x1
      (λ i hi. in-turn (sign ":") (λ u. withName ty i) x2
      (λ u hu. in-turn ty (λ t. give {A = NameAt × TyAt} (i, t)) x3 (λ t ht. given (i, t) x3.within (f i t hi ht))))

  module _ {B : Type 0} (K : NameAt → TyAt → Rule B) where
    -- what follows a field follows its type
    field-on : (q : Place) → (fieldName >>= λ i. sign ":" >> (ty >>= λ t. K i t)) q ≡ (fieldRule ty >>= λ it. K it.0 it.1) q
    field-on q = first (fieldName q)
      where
        third : (i : NameAt) (m : Parsed TyAt) → pass m (K i) ≡ pass (pass m (λ t. give {A = NameAt × TyAt} (i, t))) (λ it. K it.0 it.1)
        third i (read t q) = refl
        third i (bad c) = refl

        second : (i : NameAt) (m : Parsed (Unit {0})) → pass m (λ u. ty >>= λ t. K i t) ≡ pass (pass m (λ u. withName ty i)) (λ it. K it.0 it.1)
        second i (read u q) = third i (ty q)
        second i (bad c) = refl

        first : (m : Parsed NameAt) → pass m (λ i. sign ":" >> (ty >>= λ t. K i t)) ≡ pass (pass m (λ i. sign ":" >> withName ty i)) (λ it. K it.0 it.1)
        first (read i q) = second i (sign ":" q)
        first (bad c) = refl

    field-then : {line : Bytes} {p b r : Point} {F : NameAt × TyAt → Type 0} {Q : B → Type 0} → Reads line p (fieldRule ty) F b
        → ((i : NameAt) (t : TyAt) → F (i, t) → Reads line b (K i t) Q r) → Reads line p (fieldName >>= λ i. sign ":" >> (ty >>= λ t. K i t)) Q r
    field-then x k = same-rule field-on (in-turn (fieldRule ty) (λ it. K it.0 it.1) x (λ it h. k it.0 it.1 h))

  -- ══ Fields, one after another ══

  abbrev moreOf : ℕ → NameAt → TyAt → Rule FieldsAt
  moreOf n i t = moreFields ty n >>= λ fs. give (field_at i t fs)

  abbrev nextField : ℕ → Rule FieldsAt
  nextField n = sign "," >> (fieldName >>= λ i. sign ":" >> (ty >>= λ t. moreOf n i t))

  module _ {Z : Type 0} {line : Bytes} {p q : Point} {P Q : Point → Z → FieldsAt → Type 0} (m : Onto (moreFields ty) line p P q Q) where
    one_field : {a b : Point} {F : NameAt × TyAt → Type 0} {U W : FieldsAt → Type 0} → true ≡ beginsAt line q 44 → MarkRead line q 44 a
        → Reads line a (fieldRule ty) F b
        → (r : Point) → ((i : NameAt) (t : TyAt) (fs : FieldsAt) (n : ℕ) → F (i, t) → Reads line b (moreFields ty n) W r → W fs → U (field_at i t fs))
        → Whatever (moreFields ty) line b W r → Whatever (moreFields ty) line q U r
    unfolding moreFields
    one_field e x y r f k zero h = absurd (omega (arith, begun line 44 q m.within e))
    one_field e x y r f k (suc n) h =
        let z = k n (omega (arith, y.onward, x.less, begun line 44 q m.within e)) in
        if-sign "," (nextField n) (give noneAt) e
        (in-turn (sign ",") (λ u. fieldName >>= λ i. sign ":" >> (ty >>= λ t. moreOf n i t)) x.reads
        (λ u hu. field-then (moreOf n) y
        (λ i t hf. in-turn (moreFields ty n) (λ fs. give (field_at i t fs)) z (λ fs hs. given (field_at i t fs) z.within (f i t fs n hf z hs)))))

    -- one field more was read
    pub fields_go : {a b : Point} {F : NameAt × TyAt → Type 0} (W : Point → Z → FieldsAt → Type 0) → true ≡ beginsAt line q 44 → MarkRead line q 44 a
        → Reads line a (fieldRule ty) F b
        → ((r : Point) (z : Z) (i : NameAt) (t : TyAt) (fs : FieldsAt) (n : ℕ) → F (i, t) → Reads line b (moreFields ty n) (W r z) r → W r z fs
        → Q r z (field_at i t fs))
        → Onto (moreFields ty) line p P b W
    fields_go W e x y f = record { within = y.within; follows = λ r z k. m.follows r z (one_field e x y r (f r z) k) }

    pub fields-less : {a b : Point} {F : NameAt × TyAt → Type 0} → true ≡ beginsAt line q 44 → MarkRead line q 44 a → Reads line a (fieldRule ty) F b
        → left_at line b < left_at line q
    fields-less e x y = omega (arith, y.onward, x.less, begun line 44 q m.within e)

    no_field : {U : FieldsAt → Type 0} → false ≡ beginsAt line q 44 → U noneAt → Whatever (moreFields ty) line q U q
    unfolding moreFields
    no_field e u zero h = given noneAt m.within u
    no_field e u (suc n) h = if-no-sign "," (nextField n) (give noneAt) e (given noneAt m.within u)

    pub fields-end : (z : Z) → false ≡ beginsAt line q 44 → Q q z noneAt → Whatever (moreFields ty) line p (P q z) q
    fields-end z e u = m.follows q z (no_field e u)

  pub fields_read : {line : Bytes} {p f r : Point} {F : NameAt × TyAt → Type 0} {W Q : FieldsAt → Type 0} → Reads line p (fieldRule ty) F f
      → Whatever (moreFields ty) line f W r
      → ((i : NameAt) (t : TyAt) (fs : FieldsAt) (n : ℕ) → F (i, t) → Reads line f (moreFields ty n) W r → W fs → Q (field_at i t fs))
      → Reads line p (fields ty) Q r
  fields_read {line} {p} {f} {r} x y k =
      field-then (λ i t. left >>= λ n. moreFields ty n >>= λ fs. give (field_at i t fs)) x
      (λ i t h. in-turn left (λ n. moreFields ty n >>= λ fs. give (field_at i t fs)) (left_there line f x.within)
      (λ n hn. let z = y n hn in in-turn (moreFields ty n) (λ fs. give (field_at i t fs)) z (λ fs hs. given (field_at i t fs) z.within (k i t fs n h z hs))))
