-- Every written line is read back as its constraint.
use Rattle.std.specs.Prelude.{◌≡◌, Bool, true, ◌&&◌, List, [], ◌∷◌, ◌++◌, ℕ, suc, ◌+◌, ◌≤◌}
use Rattle.std.proofs.Math.Path.{refl}
use Rattle.std.proofs.Common.{append-nil, arith}
use Rattle.std.proofs.Math.Option.{Option, some}
use borrow.Author.Tests.{ltb-true}
use Rattle.rules.specs.Trees.{
  var,
  quant,
  par,
  boolean,
  string,
  datetime,
  Product,
  Ty,
  opened,
  basic,
  dim,
  fn,
  struct,
  list,
  Con,
  equal,
  isDim,
  is_scalar,
  hasField,
  sizeCon,
  depth,
  depthCon,
}
use Rattle.rules.specs.Names.{Bytes, table_of, numbersOf, is_held}
use Rattle.rules.specs.WellFormed.{goodOpen, goodTy, goodCon}
use Rattle.laws.specs.Lists.{Every, and_left, and_right}
use Rattle.laws.specs.NameTable.{Good}
use Rattle.rules.specs.Grammar.{
  here,
  Parsed,
  read,
  pass,
  give,
  ◌>>◌,
  isBlank,
  is_plain,
  isDigit,
  skipFrom,
  skip,
  spellFrom,
  spell,
  ended,
  nameFrom,
  type,
  TyAt,
  typed,
  constraint,
  signsAt,
  line,
  ConAt,
  isDimAt,
  equalAt,
}
use Rattle.rules.specs.Grammar as G
use Rattle.rules.specs.TextReading.{told, meant, lineRead}
use Rattle.rules.specs.TextWriting.{nameText, openText, dimensionText, tyText, conText}
use Rattle.text_laws.specs.Spelling.{IsByte}
use Rattle.text_laws.proofs.Spelling.{Finds, found, then}
use Rattle.text_laws.proofs.Meanings as Meanings
use Rattle.text_laws.proofs.ReadBack.{Stops, as', blank-type, name-found, dimension-found}
use Rattle.text_laws.proofs.TypesBack.{paren-stops, ty-found, begins-dimension}

-- ══ What follows a type in a line ══

nil-stops : Stops []
unfolding nameFrom skip skipFrom
nil-stops = record { ends = λ c. refl; no_arguments = λ c. refl; no_fields = λ c. refl }

tilde-stops : (rest : Bytes) → Stops (32 ∷ 126 ∷ rest)
unfolding nameFrom is_plain isDigit skip skipFrom isBlank
tilde-stops rest = record { ends = λ c. refl; no_arguments = λ c. refl; no_fields = λ c. refl }

colon-stops : (rest : Bytes) → Stops (58 ∷ rest)
unfolding nameFrom is_plain isDigit skip skipFrom isBlank
colon-stops rest = record { ends = λ c. refl; no_arguments = λ c. refl; no_fields = λ c. refl }

comma-stops : (rest : Bytes) → Stops (44 ∷ rest)
unfolding nameFrom is_plain isDigit skip skipFrom isBlank
comma-stops rest = record { ends = λ c. refl; no_arguments = λ c. refl; no_fields = λ c. refl }

-- a name in quotes ends at the quote
quote-ends : (rest : Bytes) (c : ℕ) → nameFrom G.whole c (34 ∷ rest) ≡ read [] (here c (34 ∷ rest))
unfolding nameFrom is_plain isDigit
quote-ends rest c = refl

module _ {pool table : List ℕ} (good : Good pool table) (bytes : Every IsByte pool) where
  abbrev name_of : ℕ → Bytes
  name_of x = Meanings.name_of good x

  abbrev isGood : Ty ℕ → Bool
  isGood t = goodTy (numbersOf (table_of pool table)) (is_held (table_of pool table)) 0 t

  -- a line that begins with a type is no comment, no blank line, no has-field
  line-typed : (t : Ty ℕ) → isGood t ≡ true → (rest : Bytes)
      → line (tyText name_of t ++ rest) ≡ pass (typed (here 1 (tyText name_of t ++ rest))) (λ c. ended >> give (some c))
  unfolding goodTy goodOpen line signsAt constraint skip skipFrom isBlank tyText openText dimensionText
  line-typed (opened (var x)) g rest = refl
  line-typed (opened (quant i)) g rest = absurd (omega (arith, ltb-true i 0 g))
  line-typed (opened (par x)) g rest = refl
  line-typed (basic boolean) g rest = refl
  line-typed (basic string) g rest = refl
  line-typed (basic datetime) g rest = refl
  line-typed (dim p) g rest = refl
  line-typed (fn ps r) g rest = refl
  line-typed (struct n as' fs) g rest = refl
  line-typed (list t) g rest = refl

  skip-type : (t : Ty ℕ) → isGood t ≡ true → (c : ℕ) (rest : Bytes) → skip (here c (tyText name_of t ++ rest)) ≡ here c (tyText name_of t ++ rest)
  unfolding goodTy goodOpen skip skipFrom isBlank tyText openText dimensionText
  skip-type (opened (var x)) g c rest = refl
  skip-type (opened (quant i)) g c rest = absurd (omega (arith, ltb-true i 0 g))
  skip-type (opened (par x)) g c rest = refl
  skip-type (basic boolean) g c rest = refl
  skip-type (basic string) g c rest = refl
  skip-type (basic datetime) g c rest = refl
  skip-type (dim p) g c rest = refl
  skip-type (fn ps r) g c rest = refl
  skip-type (struct n as' fs) g c rest = refl
  skip-type (list t) g c rest = refl

  -- ══ A line for each kind of constraint ══

  -- a line in which a constraint was found that means this one
  pub record Line (c : Con ℕ) (o : Option ConAt) : Type 0 where
    pub con : ConAt
    pub is : o ≡ some con
    pub means : Meanings.ConMeans good c con

  abbrev LineFound : Con ℕ → Type 0
  LineFound c = Finds (line (conText name_of c)) (Line c) []

  -- a type at the end of a line
  last_found : (t : Ty ℕ) → isGood t ≡ true → depth t ≤ 64 → (c : ℕ) → Finds (type 64 (here c (tyText name_of t))) (Meanings.TyMeans good t) []
  last_found t g h c = rw append-nil at (ty-found good bytes t 63 g h c [] nil-stops)

  -- a constraint that begins with a type, and then nothing
  whole-line : (c : Con ℕ) (t : Ty ℕ) (rest : Bytes) → isGood t ≡ true → conText name_of c ≡ tyText name_of t ++ rest
      → Finds (typed (here 1 (tyText name_of t ++ rest))) (Meanings.ConMeans good c) [] → LineFound c
  unfolding skip skipFrom
  whole-line c t rest g e h = rw (e, line-typed t g rest) (then _ h (λ w b m. found (record { con = w; is = refl; means = m })))

  equal-found : (l r : Ty ℕ) → isGood l ≡ true → isGood r ≡ true → depth l ≤ 64 → depth r ≤ 64
      → Finds (typed (here 1 (tyText name_of l ++ (32 ∷ 126 ∷ 32 ∷ tyText name_of r)))) (Meanings.ConMeans good (equal l r)) []
  unfolding typed skip skipFrom isBlank spell spellFrom
  equal-found l r g k h i =
      rw (skip-type l g 1 (32 ∷ 126 ∷ 32 ∷ tyText name_of r))
      (then _ (ty-found good bytes l 63 g h 1 (32 ∷ 126 ∷ 32 ∷ tyText name_of r) (tilde-stops (32 ∷ tyText name_of r))) (λ v b m.
      rw (blank-type 64 (suc (suc b)) (tyText name_of r))
      (then _ (last_found r k i (suc (suc (suc b)))) (λ w e n. found (Meanings.equal-means good 1 l r v w m n)))))

  isDim-found : (t : Ty ℕ) → isGood t ≡ true → depth t ≤ 64
      → Finds (typed (here 1 (tyText name_of t ++ (58 ∷ 32 ∷ 68 ∷ 84 ∷ 121 ∷ 112 ∷ 101 ∷ [])))) (Meanings.ConMeans good (isDim t)) []
  unfolding typed skip skipFrom isBlank spell spellFrom
  isDim-found t g h =
      rw (skip-type t g 1 (58 ∷ 32 ∷ 68 ∷ 84 ∷ 121 ∷ 112 ∷ 101 ∷ []))
      (then _ (ty-found good bytes t 63 g h 1 (58 ∷ 32 ∷ 68 ∷ 84 ∷ 121 ∷ 112 ∷ 101 ∷ []) (colon-stops (32 ∷ 68 ∷ 84 ∷ 121 ∷ 112 ∷ 101 ∷ [])))
      (λ w b m.
      found (Meanings.isDim-means good 1 t w m)))

  abbrev scalar : Bytes
  scalar = 32 ∷ 61 ∷ 32 ∷ 83 ∷ 99 ∷ 97 ∷ 108 ∷ 97 ∷ 114 ∷ []

  begins-scalar : (p : Product ℕ) → type 64 (here 1 (tyText name_of (dim p) ++ scalar)) ≡ G.dimension (here 1 (dimensionText name_of p ++ scalar))
  unfolding tyText
  begins-scalar p = begins-dimension good bytes 63 1 p scalar

  isScalar-found : (p : Product ℕ) → Meanings.GoodDim good p → isGood (dim p) ≡ true
      → Finds (typed (here 1 (tyText name_of (dim p) ++ scalar))) (Meanings.ConMeans good (is_scalar p)) []
  unfolding typed skip skipFrom isBlank spell spellFrom
  isScalar-found p d g =
      rw (skip-type (dim p) g 1 scalar) (rw (begins-scalar p) (then _ (dimension-found good bytes p d.each 1 scalar) (λ w b h.
      rw h.is (found (Meanings.isScalar-means good 1 h.start h.end p h.factors h.means d.in_order d.few)))))

  -- 'HasField(', a type, a name in quotes, a type, ')'
  abbrev asked : Bytes → Bytes → Bytes → Bytes
  asked s n t = 72 ∷ 97 ∷ 115 ∷ 70 ∷ 105 ∷ 101 ∷ 108 ∷ 100 ∷ 40 ∷ (s ++ (44 ∷ 32 ∷ 34 ∷ (n ++ (34 ∷ 44 ∷ 32 ∷ (t ++ (41 ∷ []))))))

  hasField-found : (x : ℕ) (s t : Ty ℕ) → Meanings.Held good x → isGood s ≡ true → isGood t ≡ true → depth s ≤ 64 → depth t ≤ 64
      → Finds (G.hasField (here 1 (asked (tyText name_of s) (nameText (name_of x)) (tyText name_of t)))) (Meanings.ConMeans good (hasField x s t)) []
  unfolding G.hasField skip skipFrom isBlank spell spellFrom
  hasField-found x s t l g k h i =
      then _ (ty-found good bytes s 63 g h 10 (44 ∷ 32 ∷ 34 ∷ (nameText (name_of x) ++ (34 ∷ 44 ∷ 32 ∷ (tyText name_of t ++ (41 ∷ [])))))
      (comma-stops (32 ∷ 34 ∷ (nameText (name_of x) ++ (34 ∷ 44 ∷ 32 ∷ (tyText name_of t ++ (41 ∷ []))))))) (λ v b m.
      then _ (name-found good bytes x (suc (suc (suc b))) (34 ∷ 44 ∷ 32 ∷ (tyText name_of t ++ (41 ∷ []))) l
      (quote-ends (44 ∷ 32 ∷ (tyText name_of t ++ (41 ∷ []))))) (λ n e j.
      rw (blank-type 64 (suc (suc e)) (tyText name_of t ++ (41 ∷ [])))
      (then _ (ty-found good bytes t 63 k i (suc (suc (suc e))) (41 ∷ []) (paren-stops []).stops) (λ w o q.
      found (Meanings.hasField-means good 1 x s t n v w l j m q)))))

  line-asked : (s n t : Bytes) → line (asked s n t) ≡ pass (G.hasField (here 1 (asked s n t))) (λ c. ended >> give (some c))
  unfolding line signsAt constraint skip skipFrom isBlank
  line-asked s n t = refl

  -- ══ All lines ══

  pub con-found : (c : Con ℕ) → goodCon (numbersOf (table_of pool table)) (is_held (table_of pool table)) 0 c ≡ true → depthCon c ≤ 64 → LineFound c
  unfolding goodCon goodTy depthCon conText tyText skip skipFrom
  con-found (equal l r) g h =
      let gl = and_left (isGood l) _ g in
      whole-line (equal l r) l (32 ∷ 126 ∷ 32 ∷ tyText name_of r) gl refl (equal-found l r gl (and_right (isGood l) _ g) (omega arith) (omega arith))
  con-found (isDim t) g h = whole-line (isDim t) t (58 ∷ 32 ∷ 68 ∷ 84 ∷ 121 ∷ 112 ∷ 101 ∷ []) g refl (isDim-found t g h)
  con-found (is_scalar p) g h = whole-line (is_scalar p) (dim p) scalar g refl (isScalar-found p (Meanings.good-dim good p g) g)
  con-found (hasField x s t) g h =
      let k = and_left (is_held (table_of pool table) x && isGood s) _ g in
      rw (line-asked (tyText name_of s) (nameText (name_of x)) (tyText name_of t))
      (then _ (hasField-found x s t (Meanings.held good x (and_left (is_held (table_of pool table) x) _ k))
      (and_right (is_held (table_of pool table) x) _ k) (and_right (is_held (table_of pool table) x && isGood s) _ g) (omega arith) (omega arith))
      (λ w b m. found (record { con = w; is = refl; means = m })))

  -- a written line is read as its constraint; only the records are more
  pub line-back : (c : Con ℕ) → goodCon (numbersOf (table_of pool table)) (is_held (table_of pool table)) 0 c ≡ true → depthCon c ≤ 64 → (j r q : ℕ)
      → q ≡ r + sizeCon c → q ≤ 2048
      → lineRead (conText name_of c) (Meanings.state good j r) ≡ told (c ∷ []) (Meanings.state good j q)
  unfolding lineRead meant
  line-back c g h j r q e m =
      let f = con-found c g h in
      rw (f.is, f.fits.is) (rw (f.fits.means j r q e m))
