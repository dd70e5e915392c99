-- What was read of a written line means what was written: names are known, powers are reduced, factors come in order, and only records are counted.
use Rattle.std.specs.Prelude.{◌≡◌, true, not, ◌&&◌, ℤ, length, get_or, take, drop}
use Rattle.std.proofs.Math.Path.{refl, ap}
use Rattle.std.proofs.Common.{sym, ◌∙◌, arith}
use mathlib.Core.List.{List, [], ◌∷◌, ◌++◌, append_assoc, append-nil, map}
use Rattle.std.proofs.Math.Option.{Option, none, some}
use Prim.Native.Nat.{ℕ, zero, suc, ◌+◌, ◌-◌, ◌≤◌, ◌<◌, Ordering}
use borrow.Author.Tests.{le-leb, leb-true, ltb-true}
use Rattle.std.proofs.Math.ListN.{length-append}
use Rattle.rules.specs.Base.{got, bounded, all, is_none}
use Rattle.rules.specs.Exponents.{Exp, frac, in_range, goodExp, goodStored, isZero}
use Rattle.rules.specs.Trees.{
  Open,
  Atom,
  Factor,
  ◌↑◌,
  Product,
  Names,
  Basic,
  Ty,
  opened,
  basic,
  dim,
  fn,
  struct,
  list,
  Tys,
  nil,
  cons,
  Fields,
  noFields,
  field,
  Con,
  equal,
  isDim,
  is_scalar,
  hasField,
  size,
  sizeTys,
  sizeFields,
  sizeCon,
  orderAtom,
}
use Rattle.rules.specs.Products.{put, mergeOne, merge, multiply}
use Rattle.rules.specs.Names.{Bytes, names_of, table_of, numbersOf, is_held, number_of, unchanged, enterChecked, enterKnown}
use Rattle.rules.specs.WellFormed.{is_lt, atomOf, rising, goodFactor, goodProduct}
use Rattle.rules.specs.declared.Was.TheVariants.{Known}
use Rattle.std.proofs.lemmas.Bool.{not-true}
use Rattle.laws.specs.Lists.{Every, and_left, and_right, all-is, all-every}
use Rattle.laws.proofs.Lists.{every-right}
use Rattle.laws.specs.NameTable.{Good, start_at}
use Rattle.laws.proofs.NameTable.{placed, name-is, part_length, held-is, search-none, search-any}
use Rattle.laws.proofs.NameTable.{search-found, good-laid, length-names, distinct-same, good-distinct}
use Rattle.laws.proofs.Fractions.{lowest-terms}
use Rattle.laws.proofs.Ranges.{good-lowest}
use Rattle.laws.specs.Sorted.{Sorted}
use Rattle.laws.proofs.Sorted.{sorted}
use Rattle.laws.proofs.ByteOrder.{atom-lawful, numbered-lawful}
use Rattle.rules.specs.Grammar.{
  NameAt,
  PowerAt,
  FactorAt,
  TyAt,
  open_at,
  basicAt,
  dimAt,
  fn_at,
  listAt,
  struct_at,
  TysAt,
  nilAt,
  consAt,
  FieldsAt,
  noneAt,
  field_at,
  ConAt,
  equalAt,
  isDimAt,
  isScalarAt,
  hasFieldAt,
}
use Rattle.rules.specs.TextReading.{
  Sofar,
  told,
  counted,
  enterName,
  named,
  openNamed,
  atomNamed,
  powerOf,
  multiplied,
  factorsOf,
  productOf,
  rises,
  ty_of,
  tys_of,
  fields_of,
  conOf,
}
use Rattle.rules.specs.TextWriting.{namesIn}
use Rattle.text_laws.specs.Spelling.{IsByte}
use Rattle.text_laws.proofs.Spelling.{IsPower}

every_take : (n : ℕ) (l : Bytes) → Every IsByte l → Every IsByte (take n l)
every_take zero l h = tt
every_take (suc n) [] h = tt
every_take (suc n) (b ∷ l) h = (h.0, every_take n l h.1)

every_drop : (n : ℕ) (l : Bytes) → Every IsByte l → Every IsByte (drop n l)
every_drop zero l h = h
every_drop (suc n) [] h = tt
every_drop (suc n) (b ∷ l) h = every_drop n l h.1

-- ══ Factors in order ══

module _ {N : Type 0} (ν : Names N) where
  -- all of a product stand before an atom
  abbrev pub Behind : Product N → Atom N → Type 0
  Behind p b = Every (λ f. orderAtom ν (atomOf f) b ≡ Ordering.lt) p

  pub behind : (p : Product N) (b : Atom N) (d : Exp) (q : Product N) → Sorted ν (p ++ (b ↑ d ∷ q)) → Behind p b
  behind [] b d q h = tt
  behind (a ↑ e ∷ p) b d q h = ((every-right (λ f. orderAtom ν a (atomOf f) ≡ Ordering.lt) p (b ↑ d ∷ q) h.0).0, behind p b d q h.1)

  merge-last : (p : Product N) (b : Atom N) (d : Exp) → Behind p b → merge ν bounded p (b ↑ d ∷ []) ≡ got (p ++ (b ↑ d ∷ []))
  unfolding merge mergeOne
  merge-last [] b d h = refl
  merge-last (a ↑ e ∷ p) b d h = rw (h.0, mergeOne) (rw (merge-last p b d h.1))

  multiply-last : (p : Product N) (b : Atom N) (d : Exp) → Behind p b → length p < 64 → multiply ν bounded p (b ↑ d ∷ []) ≡ got (p ++ (b ↑ d ∷ []))
  unfolding multiply
  multiply-last p b d h k = rw (merge-last p b d h, le-leb (length (p ++ (b ↑ d ∷ []))) 64 (simp length-append (omega arith)))

-- what was written of a stored power is taken as it is
power-kept : (p : PowerAt) (n : ℤ) (d : ℕ) → IsPower n d p → goodStored (frac n d) ≡ true → powerOf p ≡ got (frac n d)
unfolding powerOf goodStored goodExp
power-kept p n d w g =
    let h = and_right (not (isZero (frac n d))) _ g in
    let i = and_left (in_range (frac n d)) _ h in
    let t = good-lowest (frac n d) h in
    rw (w.num, w.den, i, (lowest-terms n d t).own)

put-kept : (a : Atom ℕ) (n : ℤ) (d : ℕ) → goodStored (frac n d) ≡ true → put a (frac n d) [] ≡ a ↑ frac n d ∷ []
unfolding goodStored
put-kept a n d g = rw (not-true (isZero (frac n d)) (and_left (not (isZero (frac n d))) _ g), put)

-- the number of a held name
module _ {pool table : List ℕ} (good : Good pool table) where
  abbrev names : List Bytes
  names = names_of (table_of pool table)

  number-back : (i : ℕ) → i < length names → number_of 0 (get_or names i []) names ≡ some i
  number-back i h = go (number_of 0 (get_or names i []) names) refl
    where
      go : (o : Option ℕ) → number_of 0 (get_or names i []) names ≡ o → number_of 0 (get_or names i []) names ≡ some i
      go none e = absurd (search-none (get_or names i []) names (search-any 0 (get_or names i []) names ∙ ap (λ (o : Option ℕ). not (is_none o)) e) i h refl)
      go (some j) e =
          let f = search-found 0 j (get_or names i []) names e in
          let z : j ≡ f.place = omega (arith, f.counted) in
          let y : f.place ≡ i = distinct-same names (good-distinct good) f.place i f.held h f.name in
          e ∙ ap some (z ∙ y)

module _ {pool table : List ℕ} (good : Good pool table) where
  -- a number that is held
  abbrev pub Held : ℕ → Type 0
  Held x = x < get_or table 0 0

  pub held : (x : ℕ) → is_held (table_of pool table) x ≡ true → Held x
  held x h = ltb-true x (get_or table 0 0) (sym (held-is pool table x) ∙ h)

  abbrev pub name_of : ℕ → Bytes
  name_of x = namesIn (table_of pool table) x

  -- a sheet over this table, with j new names and r records
  abbrev pub state : ℕ → ℕ → Sofar
  state j r = record { pool = pool; table = table; fresh = j; records = r }

  pub held_bytes : Every IsByte pool → (x : ℕ) → Held x → Every IsByte (name_of x)
  held_bytes b x h = rw (name-is (good-laid good) x h)
      (every_take (get_or table (suc x) 0 - start_at table x) (drop (start_at table x) pool) (every_drop (start_at table x) pool b))

  pub name-length : (x : ℕ) → Held x → (1 ≤ length (name_of x)) × (length (name_of x) ≤ 48)
  name-length x h =
      let p = placed (good-laid good) x h in
      let l : length (name_of x) ≡ get_or table (suc x) 0 - start_at table x = ap length (name-is (good-laid good) x h) ∙ part_length (good-laid good) x h in
      (omega (arith, p.rises), omega (arith, p.short))

  enter-known : (x : ℕ) → Held x → enterName pool table (name_of x) ≡ unchanged pool table (got (x, Known))
  unfolding enterName enterChecked enterKnown
  enter-known x h =
      let l = name-length x h in
      rw (le-leb 1 (length (name_of x)) l.0, le-leb (length (name_of x)) 48 l.1, number-back good x (omega (arith, length-names (good-laid good))))

  -- a held name is known: nothing changes
  pub known : (x : ℕ) → Held x → (m : NameAt) → m.bytes ≡ name_of x → (j r : ℕ) → named m (state j r) ≡ told x (state j r)
  unfolding named
  known x h m e j r = rw (e, enter-known x h) (ap (λ (k : ℕ). told x (state k r)) (omega arith))

  pub counts : (k c j r q : ℕ) → q ≡ r + k → q ≤ 2048 → counted k c (state j r) ≡ told tt (state j q)
  unfolding counted
  counts k c j r q e h = rw (le-leb (r + k) 2048 (omega arith), counted) (ap (λ (n : ℕ). told tt (state j n)) (sym e))

  abbrev ν : Names ℕ
  ν = numbersOf (table_of pool table)

  pub record GoodDim (p : Product ℕ) : Type 0 where
    pub each : Every (λ f. goodFactor ν (is_held (table_of pool table)) 0 f ≡ true) p
    pub in_order : Sorted ν p
    pub few : length p ≤ 64

  pub good-dim : (p : Product ℕ) → goodProduct ν (is_held (table_of pool table)) 0 p ≡ true → GoodDim p
  unfolding goodProduct
  good-dim p g =
      let h = and_left (all (goodFactor ν (is_held (table_of pool table)) 0) p && rising (orderAtom ν) (map atomOf p)) _ g in
      record {
        each = all-every (λ f. goodFactor ν (is_held (table_of pool table)) 0 f ≡ true) p
            (all-is (goodFactor ν (is_held (table_of pool table)) 0) p (and_left (all (goodFactor ν (is_held (table_of pool table)) 0) p) _ h));
        in_order = sorted ν (atom-lawful ν (numbered-lawful (names_of (table_of pool table)))) p
            (and_right (all (goodFactor ν (is_held (table_of pool table)) 0) p) _ h);
        few = leb-true (length p) 64 (and_right (all (goodFactor ν (is_held (table_of pool table)) 0) p && rising (orderAtom ν) (map atomOf p)) _ g);
      }

  -- ══ What was read means this ══

  abbrev pub OpenMeans : Open ℕ → Open NameAt → Type 0
  OpenMeans o w = (j r : ℕ) → openNamed w (state j r) ≡ told o (state j r)

  abbrev pub AtomMeans : Atom ℕ → Atom NameAt → Type 0
  AtomMeans a w = (j r : ℕ) → atomNamed w (state j r) ≡ told a (state j r)

  abbrev pub FactorMeans : Factor ℕ → FactorAt → Type 0
  FactorMeans (a ↑ e) w = (p : Product ℕ) (j r : ℕ) → Behind ν p a → length p < 64 → multiplied p w (state j r) ≡ told (p ++ (a ↑ e ∷ [])) (state j r)

  -- factors behind those of p
  abbrev pub FactorsMean : Product ℕ → List FactorAt → Type 0
  FactorsMean q ws = (p : Product ℕ) (j r : ℕ) → Sorted ν (p ++ q) → length (p ++ q) ≤ 64 → factorsOf ws p (state j r) ≡ told (p ++ q) (state j r)

  abbrev pub TyMeans : Ty ℕ → TyAt → Type 0
  TyMeans t w = (j r q : ℕ) → q ≡ r + size t → q ≤ 2048 → ty_of w (state j r) ≡ told t (state j q)

  abbrev pub TysMean : Tys ℕ → TysAt → Type 0
  TysMean ts ws = (j r q : ℕ) → q ≡ r + sizeTys ts → q ≤ 2048 → tys_of ws (state j r) ≡ told ts (state j q)

  abbrev RisesTo : Option ℕ → ℕ → Type 0
  RisesTo none n = Unit {0}
  RisesTo (some m) n = is_lt (ν.order m n) ≡ true

  -- the names of fields rise, behind the name of a field before
  abbrev pub Rises : Option ℕ → Fields ℕ → Type 0
  Rises y noFields = Unit {0}
  Rises y (field n t fs) = RisesTo y n × Rises (some n) fs

  abbrev pub FieldsMean : Fields ℕ → FieldsAt → Type 0
  FieldsMean fs ws = (y : Option ℕ) → Rises y fs → (j r q : ℕ) → q ≡ r + sizeFields fs → q ≤ 2048 → fields_of ws y (state j r) ≡ told fs (state j q)

  abbrev pub ConMeans : Con ℕ → ConAt → Type 0
  ConMeans c w = (j r q : ℕ) → q ≡ r + sizeCon c → q ≤ 2048 → conOf w (state j r) ≡ told c (state j q)

  -- ══ Part by part ══

  pub factor-means : (a : Atom ℕ) (n : ℤ) (d : ℕ) (w : FactorAt) → AtomMeans a w.atom → IsPower n d w.power → goodStored (frac n d) ≡ true
      → FactorMeans (a ↑ frac n d) w
  unfolding multiplied
  factor-means a n d w h k g p j r b l = rw (h j r, power-kept w.power n d k g) (rw (put-kept a n d g, multiply-last ν p a (frac n d) b l))

  pub no-factors : FactorsMean [] []
  unfolding factorsOf
  no-factors p j r s l = rw (append-nil p)

  pub more-factors : (f : Factor ℕ) (q : Product ℕ) (w : FactorAt) (ws : List FactorAt) → FactorMeans f w → FactorsMean q ws → FactorsMean (f ∷ q) (w ∷ ws)
  unfolding factorsOf
  more-factors (a ↑ e) q w ws h k p j r s l =
      rw (h p j r (behind ν p a e q s) (omega (arith, simp length-append at l))) ((rw append_assoc at (k (p ++ (a ↑ e ∷ [])) j r)) s l)

  pub dimension-means : (c e : ℕ) (p : Product ℕ) (ws : List FactorAt) → FactorsMean p ws → Sorted ν p → length p ≤ 64 → (j r q : ℕ)
      → q ≡ r + suc (length p) → q ≤ 2048
      → productOf c ws e (state j r) ≡ told p (state j q)
  unfolding productOf
  dimension-means c e p ws h s l j r q k m = rw (counts 1 c j r (r + 1) refl (omega arith), h [] j (r + 1) s l)
      (rw (counts (length p) e j (r + 1) q (omega arith) m))

  -- ══ Types ══

  pub open-means : (c : ℕ) (o : Open ℕ) (w : Open NameAt) → OpenMeans o w → TyMeans (opened o) (open_at c w)
  unfolding ty_of size
  open-means c o w h j r q e m = rw (counts 1 c j r q e m, h j q)

  pub list-means : (c : ℕ) (t : Ty ℕ) (w : TyAt) → TyMeans t w → TyMeans (list t) (listAt c w)
  unfolding ty_of size
  list-means c t w h j r q e m = rw (counts 1 c j r (r + 1) refl (omega arith), h j (r + 1) q (omega arith) m)

  pub fn-means : (c : ℕ) (ps : Tys ℕ) (t : Ty ℕ) (vs : TysAt) (w : TyAt) → TysMean ps vs → TyMeans t w → TyMeans (fn ps t) (fn_at c vs w)
  unfolding ty_of size
  fn-means c ps t vs w g h j r q e m =
      rw (counts 1 c j r (r + 1) refl (omega arith), g j (r + 1) (r + 1 + sizeTys ps) refl (omega arith)) (rw (h j (r + 1 + sizeTys ps) q (omega arith) m))

  pub struct-means : (c x : ℕ) (as' : Tys ℕ) (fs : Fields ℕ) (m : NameAt) (vs : TysAt) (ws : FieldsAt) → Held x → m.bytes ≡ name_of x
      → TysMean as' vs → FieldsMean fs ws → Rises none fs
      → TyMeans (struct x as' fs) (struct_at c m vs ws)
  unfolding ty_of size
  struct-means c x as' fs n vs ws b i g h k j r q e m =
      rw (counts 1 c j r (r + 1) refl (omega arith), known x b n i j (r + 1)) (rw (g j (r + 1) (r + 1 + sizeTys as') refl (omega arith))
      (rw (h none k j (r + 1 + sizeTys as') q (omega arith) m)))

  pub cons-means : (t : Ty ℕ) (ts : Tys ℕ) (w : TyAt) (ws : TysAt) → TyMeans t w → TysMean ts ws → TysMean (cons t ts) (consAt w ws)
  unfolding ty_of size
  cons-means t ts w ws g h j r q e m = rw (g j r (r + size t) refl (omega arith)) (rw (h j (r + size t) q (omega arith) m))

  rises-pass : (y : Option ℕ) (n c : ℕ) → RisesTo y n → (j r : ℕ) → rises y n c (state j r) ≡ told tt (state j r)
  rises-pass none n c h j r = refl
  rises-pass (some m) n c h j r = rw h

  pub field-means : (n : ℕ) (t : Ty ℕ) (fs : Fields ℕ) (m : NameAt) (w : TyAt) (ws : FieldsAt) → Held n → m.bytes ≡ name_of n → TyMeans t w
      → FieldsMean fs ws → FieldsMean (field n t fs) (field_at m w ws)
  unfolding ty_of size
  field-means n t fs x w ws b i g h y k j r q e m =
      rw (known n b x i j r) (rw (rises-pass y n x.column k.0 j r, counts 1 x.column j r (r + 1) refl (omega arith))
      (rw (g j (r + 1) (r + 1 + size t) refl (omega arith)) (rw (h (some n) k.1 j (r + 1 + size t) q (omega arith) m))))

  -- ══ Constraints ══

  pub equal-means : (c : ℕ) (l r : Ty ℕ) (v w : TyAt) → TyMeans l v → TyMeans r w → ConMeans (equal l r) (equalAt c v w)
  unfolding conOf sizeCon
  equal-means c l t v w g h j r q e m =
      rw (counts 1 c j r (r + 1) refl (omega arith), g j (r + 1) (r + 1 + size l) refl (omega arith)) (rw (h j (r + 1 + size l) q (omega arith) m))

  pub isDim-means : (c : ℕ) (t : Ty ℕ) (w : TyAt) → TyMeans t w → ConMeans (isDim t) (isDimAt c w)
  unfolding conOf sizeCon
  isDim-means c t w h j r q e m = rw (counts 1 c j r (r + 1) refl (omega arith), h j (r + 1) q (omega arith) m)

  pub isScalar-means : (c d e : ℕ) (p : Product ℕ) (ws : List FactorAt) → FactorsMean p ws → Sorted ν p → length p ≤ 64
      → ConMeans (is_scalar p) (isScalarAt c d ws e)
  unfolding conOf sizeCon size
  isScalar-means c d e p ws h s l j r q k m = rw (counts 1 c j r (r + 1) refl (omega arith), dimension-means d e p ws h s l j (r + 1) q (omega arith) m)

  pub hasField-means : (c x : ℕ) (s t : Ty ℕ) (n : NameAt) (v w : TyAt) → Held x → n.bytes ≡ name_of x → TyMeans s v → TyMeans t w
      → ConMeans (hasField x s t) (hasFieldAt c v n w)
  unfolding conOf sizeCon
  hasField-means c x s t n v w b i g h j r q e m =
      rw (counts 1 c j r (r + 1) refl (omega arith), g j (r + 1) (r + 1 + size s) refl (omega arith))
      (rw (known x b n i j (r + 1 + size s), h j (r + 1 + size s) q (omega arith) m))

  pub dim-means : (c e : ℕ) (p : Product ℕ) (ws : List FactorAt) → FactorsMean p ws → Sorted ν p → length p ≤ 64 → TyMeans (dim p) (dimAt c ws e)
  unfolding ty_of size
  dim-means c e p ws h s l j r q k m = rw (dimension-means c e p ws h s l j r q k m)

  pub basic-means : (c : ℕ) (b : Basic) → TyMeans (basic b) (basicAt c b)
  unfolding ty_of size
  basic-means c b j r q e m = rw (counts 1 c j r q e m)

  pub nil-means : TysMean nil nilAt
  unfolding ty_of size
  nil-means j r q e m = ap (λ (n : ℕ). told nil (state j n)) (omega arith)

  pub none-means : FieldsMean noFields noneAt
  unfolding ty_of size
  none-means y k j r q e m = ap (λ (n : ℕ). told noFields (state j n)) (omega arith)
