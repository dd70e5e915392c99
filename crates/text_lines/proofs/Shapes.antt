-- Which types are dimensions, by their first byte.
use Rattle.std.specs.Prelude.{◌≡◌, refl, Bool, true, false, List, [], ◌∷◌, ℕ, suc, eqb}
use Rattle.std.proofs.Common.{sym, ap, subst, ◌∙◌, eqb-true}
use Prim.Native.Char.{Char, code}
use Rattle.rules.specs.Names.{Bytes}
use Rattle.rules.specs.Trees.{Open, var, par, boolean, string, datetime}
use Rattle.rules.specs.Grammar.{Place, here, beyond, Parsed, read, bad, pass, Rule, give, sign, mark, skip, column, pick, chosen, name, NameAt, TyAt}
use Rattle.rules.specs.Grammar.{open_at, basicAt, dimAt, fn_at, listAt, struct_at, deepAt, opened, keyword, dimension, function, listed, structure}
use Rattle.rules.specs.Grammar.{types, type, ◌>>=◌, ◌>>◌}
use Rattle.text_scan.specs.Scanned.{place_in}
use Rattle.text_grammar.specs.declared.inner.Point.TheVariants as point
use Rattle.text_grammar.specs.declared.inner.Point.{Point}
use Rattle.text_grammar.specs.Points.{Reads, from, standing, begins, beginsAt}
use Rattle.text_grammar.specs.Types.{paramsThere, typesThere, fieldsThere}
use Rattle.text_grammar.specs.Factors.{factorsThere}
use Rattle.text_names.specs.Effects.{NotBad}

abbrev pub isDimension : TyAt → Bool
isDimension (open_at c o) = false
isDimension (basicAt c b) = false
isDimension (dimAt c fs e) = true
isDimension (fn_at c ps r) = false
isDimension (listAt c t) = false
isDimension (struct_at c n as' fs) = false
isDimension (deepAt c) = false

-- ══ What a rule reads ══

-- whatever a rule reads is a dimension, or none is
record Shaped (t : Bool) (R : Rule TyAt) : Type 0 where
  shape : (p q : Place) (v : TyAt) → R p ≡ read v q → isDimension v ≡ t

shaped-then : {A : Type 0} {t : Bool} (R : Rule A) (K : A → Rule TyAt) → ((a : A) → Shaped t (K a)) → Shaped t (λ p. pass (R p) K)
shaped-then {A} {t} R K k = record { shape = λ p q v e. go (R p) q v e }
  where
    go : (m : Parsed A) (q : Place) (v : TyAt) → pass m K ≡ read v q → isDimension v ≡ t
    go (read a p) q v e = (k a).shape p q v e
    go (bad d) q v e = absurd (cc)

shaped-give : {t : Bool} (v : TyAt) → isDimension v ≡ t → Shaped t (give v)
shaped-give v h = record { shape = λ p q w e. let z : v ≡ w = cc in ap isDimension (sym z) ∙ h }

open-shape : (x : Char) (f : NameAt → Open NameAt) → Shaped false (opened x f)
open-shape x f =
    shaped-then column (λ c. mark x >> (name >>= λ n. give (open_at c (f n))))
    (λ c. shaped-then (mark x) (λ u. name >>= λ n. give (open_at c (f n)))
    (λ u. shaped-then name (λ n. give (open_at c (f n))) (λ n. shaped-give (open_at c (f n)) refl)))

bool-shape : Shaped false (keyword "Bool" boolean)
bool-shape = shaped-then column (λ c. sign "Bool" >> give (basicAt c boolean))
    (λ c. shaped-then (sign "Bool") (λ u. give (basicAt c boolean)) (λ u. shaped-give (basicAt c boolean) refl))

string-shape : Shaped false (keyword "String" string)
string-shape = shaped-then column (λ c. sign "String" >> give (basicAt c string))
    (λ c. shaped-then (sign "String") (λ u. give (basicAt c string)) (λ u. shaped-give (basicAt c string) refl))

datetime-shape : Shaped false (keyword "DateTime" datetime)
datetime-shape = shaped-then column (λ c. sign "DateTime" >> give (basicAt c datetime))
    (λ c. shaped-then (sign "DateTime") (λ u. give (basicAt c datetime)) (λ u. shaped-give (basicAt c datetime) refl))

dimension-shape : Shaped true dimension
unfolding dimension
dimension-shape =
    shaped-then column (λ c. sign "[" >> (factorsThere >>= λ fs. column >>= λ e. sign "]" >> give (dimAt c fs e)))
    (λ c. shaped-then (sign "[") (λ u. factorsThere >>= λ fs. column >>= λ e. sign "]" >> give (dimAt c fs e))
    (λ u. shaped-then factorsThere (λ fs. column >>= λ e. sign "]" >> give (dimAt c fs e))
    (λ fs. shaped-then column (λ e. sign "]" >> give (dimAt c fs e))
    (λ e. shaped-then (sign "]") (λ w. give (dimAt c fs e)) (λ w. shaped-give (dimAt c fs e) refl)))))

module _ (ty : Rule TyAt) where
  list-shape : Shaped false (listed ty)
  unfolding listed
  list-shape =
      shaped-then column (λ c. sign "List" >> (sign "<" >> (ty >>= λ t. sign ">" >> give (listAt c t))))
      (λ c. shaped-then (sign "List") (λ u. sign "<" >> (ty >>= λ t. sign ">" >> give (listAt c t)))
      (λ u. shaped-then (sign "<") (λ v. ty >>= λ t. sign ">" >> give (listAt c t))
      (λ v. shaped-then ty (λ t. sign ">" >> give (listAt c t)) (λ t. shaped-then (sign ">") (λ w. give (listAt c t)) (λ w. shaped-give (listAt c t) refl)))))

  function-shape : Shaped false (function ty)
  unfolding function
  function-shape =
      shaped-then column (λ c. sign "Fn" >> (sign "[" >> (sign "(" >> (paramsThere ty >>= λ ps. sign ")" >>
      (sign "->" >> (ty >>= λ r. sign "]" >> give (fn_at c ps r)))))))
      (λ c. shaped-then (sign "Fn") (λ u. sign "[" >> (sign "(" >> (paramsThere ty >>= λ ps. sign ")" >>
      (sign "->" >> (ty >>= λ r. sign "]" >> give (fn_at c ps r))))))
      (λ u. shaped-then (sign "[") (λ u. sign "(" >> (paramsThere ty >>= λ ps. sign ")" >> (sign "->" >> (ty >>= λ r. sign "]" >> give (fn_at c ps r)))))
      (λ u. shaped-then (sign "(") (λ u. paramsThere ty >>= λ ps. sign ")" >> (sign "->" >> (ty >>= λ r. sign "]" >> give (fn_at c ps r))))
      (λ u. shaped-then (paramsThere ty) (λ ps. sign ")" >> (sign "->" >> (ty >>= λ r. sign "]" >> give (fn_at c ps r))))
      (λ ps. shaped-then (sign ")") (λ u. sign "->" >> (ty >>= λ r. sign "]" >> give (fn_at c ps r)))
      (λ u. shaped-then (sign "->") (λ u. ty >>= λ r. sign "]" >> give (fn_at c ps r))
      (λ u. shaped-then ty (λ r. sign "]" >> give (fn_at c ps r)) (λ r. shaped-then (sign "]") (λ u. give (fn_at c ps r))
      (λ u. shaped-give (fn_at c ps r) refl)))))))))

  structure-shape : Shaped false (structure ty)
  unfolding structure
  structure-shape =
      shaped-then column (λ c. sign "@" >> (name >>= λ n. typesThere ty >>= λ ts. fieldsThere ty >>= λ fs. give (struct_at c n ts fs)))
      (λ c. shaped-then (sign "@") (λ u. name >>= λ n. typesThere ty >>= λ ts. fieldsThere ty >>= λ fs. give (struct_at c n ts fs))
      (λ u. shaped-then name (λ n. typesThere ty >>= λ ts. fieldsThere ty >>= λ fs. give (struct_at c n ts fs))
      (λ n. shaped-then (typesThere ty) (λ ts. fieldsThere ty >>= λ fs. give (struct_at c n ts fs))
      (λ ts. shaped-then (fieldsThere ty) (λ fs. give (struct_at c n ts fs)) (λ fs. shaped-give (struct_at c n ts fs) refl)))))

-- ══ By the first byte ══

-- each rule of a list, by the byte that it is for
data Each : List (Char × Rule TyAt) → Type 0 where
  none : Each []
  one : {xs : List (Char × Rule TyAt)} (c : Char) (R : Rule TyAt) → Shaped (eqb (code c) 91) R → Each xs → Each ((c, R) ∷ xs)

picked : (b : ℕ) (xs : List (Char × Rule TyAt)) → Each xs → Shaped (eqb b 91) (pick b xs)
picked b [] none = record { shape = λ p q v e. absurd (cc) }
picked b (x ∷ xs) (one c R s f) = go (eqb b (code c)) refl (picked b xs f)
  where
    go : (t : Bool) → eqb b (code c) ≡ t → Shaped (eqb b 91) (pick b xs) → Shaped (eqb b 91) (elim t [ true ↦ R | false ↦ pick b xs ])
    go true e g = subst (λ (k : ℕ). Shaped (eqb k 91) R) (sym (eqb-true b (code c) e)) s
    go false e g = g

types-shape : (d b : ℕ) → Shaped (eqb b 91) (pick b (types (type d)))
types-shape d b =
    picked b (types (type d))
    (one "?" _ (open-shape "?" var) (one "!" _ (open-shape "!" par) (one "[" _ dimension-shape
    (one "B" _ bool-shape (one "S" _ string-shape (one "D" _ datetime-shape
    (one "F" _ (function-shape (type d)) (one "L" _ (list-shape (type d)) (one "@" _ (structure-shape (type d)) none)))))))))

-- a type is a dimension where it begins with "["
type-shape : (d : ℕ) (p q : Place) (v : TyAt) → chosen (deepAt 0) (types (type d)) p ≡ read v q → isDimension v ≡ begins p 91
unfolding begins
type-shape d (here c []) q v e = absurd (cc)
type-shape d (here c (b ∷ bs)) q v e = (types-shape d b).shape (here c (b ∷ bs)) q v e
type-shape d beyond q v e = let z : deepAt 0 ≡ v = cc in sym (ap isDimension z)

pub type-dimension : {P : TyAt → Type 0} {line : Bytes} {q r : Point} (d : ℕ) → Reads line q (type (suc d)) P r
    → Reads line q (type (suc d)) (λ l. P l × (NotBad r → isDimension l ≡ beginsAt line q 91)) r
unfolding type skip begins
type-dimension {P} {line} {q} {r} d x = record { within = x.within; onward = x.onward; value = x.value; is = x.is; holds = (x.holds, go q r x.is) }
  where
    go : (q r : Point) → from line q (λ p. chosen (deepAt 0) (types (type d)) (skip p)) ≡ standing line r x.value → NotBad r
        → isDimension x.value ≡ beginsAt line q 91
    go (point.At i) (point.At j) e n = type-shape d (skip (place_in line i)) _ x.value e
    go (point.At i) point.Deep e n = type-shape d (skip (place_in line i)) _ x.value e
    go point.Deep (point.At j) e n = type-shape d beyond _ x.value e
    go point.Deep point.Deep e n = type-shape d beyond _ x.value e
    go (point.Bad k) (point.At j) e n = absurd (cc)
    go (point.Bad k) point.Deep e n = absurd (cc)
    go q (point.Bad j) e n = absurd n
