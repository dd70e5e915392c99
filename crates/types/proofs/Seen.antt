-- What the first record of a type says of its tree, and where its parts stand.
use Rattle.std.specs.Prelude.{◌≡◌, List, [], ◌∷◌, ℕ, zero, suc, ◌+◌, ◌-◌, ◌<◌, ◌≤◌, refl, length}
use Rattle.std.proofs.Common.{arith, ap, ap₂, sym, subst, ◌∙◌}
use Rattle.std.proofs.Math.Option.{none}
use Rattle.rules.specs.Exponents.{frac}
use Rattle.rules.specs.Trees as tree
use Rattle.rules.specs.Trees.{
  ◌↑◌,
  Product,
  Ty,
  opened,
  basic,
  dim,
  fn,
  struct,
  list,
  Tys,
  nil,
  cons,
  Fields,
  noFields,
  field,
  size,
  sizeTys,
  count,
  countFields,
}
use Rattle.rules.specs.Views.{asVar, productOf}
use Rattle.rules.specs.Writing.{twos, signed}
use Rattle.records.specs.Views.{viewAt, longAt}
use Rattle.records.specs.Places.{seen-in}
use Rattle.records.specs.Holds.{openOf, atomOf, viewAtom, basicOf, HoldsFactor, HoldsFactors, HoldsProduct, Holds, HoldsTys, HoldsFields}
use Rattle.records.proofs.Holds.{holds-long}
use Rattle.records.specs.ByView.{ends-in}
use Rattle.records.proofs.ByView.{Arms, by-view, factor-by-view, in_reach}
use Rattle.records.specs.declared.Open as names
use Rattle.records.specs.declared.Atom as atoms
use Rattle.records.specs.declared.Basic as basics
use Rattle.records.specs.declared.View.{View}
use Rattle.records.specs.declared.View.TheVariants as view
use Rattle.records.specs.Parsed.{only, only-tys, only-fields}
use Rattle.types.specs.Once.{ATree, Trees, FieldTrees, Factors, one-tree, one-list, one-product}

module _ (s : List ℕ) where
  -- the record at a place says v, and a type stands there: what it is
  abbrev pub Seen : ℕ → View → Ty ℕ → Type 0
  Seen at (view.Opened o) t = t ≡ opened (openOf o)
  Seen at (view.Basic b) t = t ≡ basic (basicOf b)
  Seen at (view.Dim n) t = (p : Factors s (at + 1) n) × (t ≡ dim p.0)
  Seen at (view.Function n) t = (ps : Trees s (at + 1) n) × (r : ATree s (at + 1 + sizeTys ps.0)) × (t ≡ fn ps.0 r.0)
  Seen at (view.Struct x n m) t = (as' : Trees s (at + 1) n) × (fs : FieldTrees s (at + 1 + sizeTys as'.0) m) × (t ≡ struct x as'.0 fs.0)
  Seen at view.List t = (u : ATree s (at + 1)) × (t ≡ list u.0)
  Seen at (view.Field x) t = ⊥
  Seen at (view.Factor f n d) t = ⊥
  Seen at view.Equal t = ⊥
  Seen at view.IsDim t = ⊥
  Seen at view.IsScalar t = ⊥
  Seen at (view.HasField x) t = ⊥
  Seen at (view.Binding x) t = ⊥
  Seen at (view.Bound o) t = ⊥
  Seen at (view.Scheme n) t = ⊥
  Seen at view.Concrete t = ⊥
  Seen at view.Bad t = ⊥

  arms : (at : ℕ) (v : View) → Arms s (Seen at v) at v
  arms at (view.Opened o) = refl
  arms at (view.Basic b) = refl
  arms at (view.Dim n) = λ p l h. ((p, record { held = h; many = l }), refl)
  arms at (view.Function n) = λ ps r c h k. ((ps, record { held = h; many = c }), (r, k), refl)
  arms at (view.Struct x n m) = λ as' fs c d h k. ((as', record { held = h; many = c }), (fs, record { held = k; many = d }), refl)
  arms at view.List = λ t h. ((t, h), refl)
  arms at (view.Field x) = tt
  arms at (view.Factor f n d) = tt
  arms at view.Equal = tt
  arms at view.IsDim = tt
  arms at view.IsScalar = tt
  arms at (view.HasField x) = tt
  arms at (view.Binding x) = tt
  arms at (view.Bound o) = tt
  arms at (view.Scheme n) = tt
  arms at view.Concrete = tt
  arms at view.Bad = tt

  pub seen-as : (at : ℕ) (h : ATree s at) {v : View} → viewAt s at ≡ v → Seen at v h.0
  seen-as at h {v} e = by-view s (Seen at v) h.0 at h.1 e (arms at v)

  -- so it is none of the other views
  pub no-other : (at : ℕ) (h : ATree s at) (v : View) → v ≡ viewAt s at → ((o : names.Open) → v ≡ view.Opened o → ⊥)
      → ((b : basics.Basic) → v ≡ view.Basic b → ⊥) → ((n : ℕ) → v ≡ view.Dim n → ⊥) → ((n : ℕ) → v ≡ view.Function n → ⊥)
      → ((x n m : ℕ) → v ≡ view.Struct x n m → ⊥) → (v ≡ view.List → ⊥) → ⊥
  no-other at h v q a b c d e f = go v (seen-as at h (sym q)) a b c d e f
    where
      go : (v : View) → Seen at v h.0 → ((o : names.Open) → v ≡ view.Opened o → ⊥) → ((b : basics.Basic) → v ≡ view.Basic b → ⊥)
          → ((n : ℕ) → v ≡ view.Dim n → ⊥) → ((n : ℕ) → v ≡ view.Function n → ⊥) → ((x n m : ℕ) → v ≡ view.Struct x n m → ⊥) → (v ≡ view.List → ⊥) → ⊥
      go (view.Opened o) y a b c d e f = a o refl
      go (view.Basic x) y a b c d e f = b x refl
      go (view.Dim n) y a b c d e f = c n refl
      go (view.Function n) y a b c d e f = d n refl
      go (view.Struct x n m) y a b c d e f = e x n m refl
      go view.List y a b c d e f = f refl
      go (view.Field x) y a b c d e f = y
      go (view.Factor g n k) y a b c d e f = y
      go view.Equal y a b c d e f = y
      go view.IsDim y a b c d e f = y
      go view.IsScalar y a b c d e f = y
      go (view.HasField x) y a b c d e f = y
      go (view.Binding x) y a b c d e f = y
      go (view.Bound o) y a b c d e f = y
      go (view.Scheme n) y a b c d e f = y
      go view.Concrete y a b c d e f = y
      go view.Bad y a b c d e f = y

  -- a type that doesn't begin with an open name is no variable
  pub no-variable : (at : ℕ) (h : ATree s at) → ((o : names.Open) → viewAt s at ≡ view.Opened o → ⊥) → none ≡ asVar h.0
  unfolding Holds
  no-variable at (opened o, k) n = absurd (n _ k.0)
  no-variable at (basic b, k) n = refl
  no-variable at (dim p, k) n = refl
  no-variable at (fn ps r, k) n = refl
  no-variable at (struct x as' fs, k) n = refl
  no-variable at (list t, k) n = refl

  -- and one that doesn't begin with the record of a product is no dimension
  pub no-dimension : (at : ℕ) (h : ATree s at) → ((n : ℕ) → viewAt s at ≡ view.Dim n → ⊥) → none ≡ productOf h.0
  unfolding Holds HoldsProduct
  no-dimension at (opened o, k) n = refl
  no-dimension at (basic b, k) n = refl
  no-dimension at (dim p, k) n = absurd (n _ k.0)
  no-dimension at (fn ps r, k) n = refl
  no-dimension at (struct x as' fs, k) n = refl
  no-dimension at (list t, k) n = refl

  -- the first of some types, and those after it
  pub record First (at : ℕ) (n : ℕ) (ts : Tys ℕ) : Type 0 where
    pub first : ATree s at
    pub rest : Trees s (at + size first.0) n
    pub is : ts ≡ cons first.0 rest.0

  pub none_left : (at n : ℕ) (h : Trees s at n) → n ≡ 0 → h.0 ≡ nil
  unfolding count
  none_left at n (nil, k) e = refl
  none_left at n (cons t ts, k) e = absurd (omega (arith, k.many))

  pub first_here : (at n : ℕ) (h : Trees s at (suc n)) → First at n h.0
  unfolding count HoldsTys
  first_here at n (nil, k) = absurd (omega (arith, k.many))
  first_here at n (cons t ts, k) = record { first = (t, k.held.0); rest = (ts, record { held = k.held.1; many = omega (arith, k.many) }); is = refl }

  -- whichever trees stand at those places, they are the parts
  pub none-are : (at n : ℕ) (h : Trees s at n) → n ≡ 0 → nil ≡ h.0
  none-are at n h e = sym (none_left at n h e)

  some_of : (at n m : ℕ) (h : Trees s at m) → suc n ≡ m → First at n h.0
  some_of at n m h e = first_here at n (h.0, record { held = h.1.held; many = h.1.many ∙ sym e })

  pub first_tree : (at m : ℕ) → Trees s at m → (m ≡ 0 → ⊥) → ATree s at
  first_tree at zero h z = absurd (z refl)
  first_tree at (suc n) h z = (first_here at n h).first

  pub rest_trees : (at m e : ℕ) → Trees s at m → (m ≡ 0 → ⊥) → (t : ATree s at) → e ≡ at + size t.0 → Trees s e (m - 1)
  rest_trees at m e h z t q =
      let f = some_of at (m - 1) m h (omega arith) in
      let same : t.0 ≡ f.first.0 = only s t.0 f.first.0 at t.1 f.first.1 in
      subst (λ (i : ℕ). Trees s i (m - 1)) (sym (q ∙ ap (λ (x : Ty ℕ). at + size x) same)) f.rest

  pub both-are : (at m e : ℕ) (h : Trees s at m) → (m ≡ 0 → ⊥) → (u : ATree s at) → e ≡ at + size u.0 → (t : ATree s at) (ts : Trees s e (m - 1))
      → cons t.0 ts.0 ≡ h.0
  both-are at m e h z u q t ts =
      let f = some_of at (m - 1) m h (omega arith) in
      let same : t.0 ≡ f.first.0 = only s t.0 f.first.0 at t.1 f.first.1 in
      let place : e ≡ at + size f.first.0 = q ∙ ap (λ (x : Ty ℕ). at + size x) (only s u.0 f.first.0 at u.1 f.first.1) in
      let k : HoldsTys s ts.0 (at + size f.first.0) = subst (HoldsTys s ts.0) place ts.1.held in
      let these : ts.0 ≡ f.rest.0 = only-tys s ts.0 f.rest.0 (at + size f.first.0) (ts.1.many ∙ sym f.rest.1.many) k f.rest.1.held in
      ap₂ cons same these ∙ sym f.is

  -- ══ Fields and factors ══

  -- the first of some fields, and those after it
  record FirstField (at n : ℕ) (fs : Fields ℕ) : Type 0 where
    pub name : ℕ
    pub first : ATree s (at + 1)
    pub rest : FieldTrees s (at + 1 + size first.0) n
    pub shows : viewAt s at ≡ view.Field name
    pub is : fs ≡ field name first.0 rest.0

  field-of : (at n : ℕ) (h : FieldTrees s at (suc n)) → FirstField at n h.0
  unfolding countFields HoldsFields
  field-of at n (noFields, k) = absurd (omega (arith, k.many))
  field-of at n (field x t fs, k) = record {
    name = x;
    first = (t, k.held.1);
    rest = (fs, record { held = k.held.2; many = omega (arith, k.many) });
    shows = k.held.0;
    is = refl;
  }

  some-field : (at m : ℕ) (h : FieldTrees s at m) → (m ≡ 0 → ⊥) → FirstField at (m - 1) h.0
  some-field at m h z = field-of at (m - 1) (h.0, record { held = h.1.held; many = omega (arith, h.1.many) })

  pub no-fields : (at m : ℕ) (h : FieldTrees s at m) → m ≡ 0 → noFields ≡ h.0
  unfolding countFields
  no-fields at m (noFields, k) e = refl
  no-fields at m (field x t fs, k) e = absurd (omega (arith, k.many))

  module _ (at m : ℕ) (h : FieldTrees s at m) (z : m ≡ 0 → ⊥) where
    abbrev this-field : FirstField at (m - 1) h.0
    this-field = some-field at m h z

    pub field-there : {v : View} → v ≡ viewAt s at → ((x : ℕ) → v ≡ view.Field x → ⊥) → ⊥
    field-there e n = n this-field.name (e ∙ this-field.shows)

    pub field-near : length s ≤ 4_000_000_000 → at < 1_000_000_000
    field-near n = omega (arith, ends-in s this-field.first.0 (at + 1) this-field.first.1)

    pub field_tree : ATree s (at + 1)
    field_tree = this-field.first

    pub rest_fields : {e : ℕ} (t : ATree s (at + 1)) → e ≡ at + 1 + size t.0 → FieldTrees s e (m - 1)
    rest_fields t q =
        let same : t.0 ≡ this-field.first.0 = only s t.0 this-field.first.0 (at + 1) t.1 this-field.first.1 in
        subst (λ (i : ℕ). FieldTrees s i (m - 1)) (sym (q ∙ ap (λ (x : Ty ℕ). at + 1 + size x) same)) this-field.rest

    pub fields-are : {x e : ℕ} → viewAt s at ≡ view.Field x → (u : ATree s (at + 1)) → e ≡ at + 1 + size u.0
        → (t : ATree s (at + 1)) (fs : FieldTrees s e (m - 1)) → field x t.0 fs.0 ≡ h.0
    fields-are {x} {e} v u q t fs =
        let f = this-field in
        let named : view.Field x ≡ view.Field f.name = sym v ∙ f.shows in
        let name : x ≡ f.name = cc in
        let same : t.0 ≡ f.first.0 = only s t.0 f.first.0 (at + 1) t.1 f.first.1 in
        let place : e ≡ at + 1 + size f.first.0 = q ∙ ap (λ (x : Ty ℕ). at + 1 + size x) (only s u.0 f.first.0 (at + 1) u.1 f.first.1) in
        let k : HoldsFields s fs.0 (at + 1 + size f.first.0) = subst (HoldsFields s fs.0) place fs.1.held in
        let these : fs.0 ≡ f.rest.0 = only-fields s fs.0 f.rest.0 (at + 1 + size f.first.0) (fs.1.many ∙ sym f.rest.1.many) k f.rest.1.held in
        ap (λ (y : ℕ). field y t.0 fs.0) name ∙ ap₂ (field f.name) same these ∙ sym f.is

  -- the first of some factors, and those after it
  record FirstFactor (at n : ℕ) (p : Product ℕ) : Type 0 where
    pub first : tree.Factor ℕ
    pub rest : Factors s (at + 1) n
    pub held : HoldsFactor s first at
    pub is : p ≡ first ∷ rest.0

  some-factor : (at m : ℕ) (h : Factors s at m) → (m ≡ 0 → ⊥) → FirstFactor at (m - 1) h.0
  unfolding HoldsFactors
  some-factor at m ([], k) z = absurd (z (sym k.many))
  some-factor at m (f ∷ p, k) z = record { first = f; rest = (p, record { held = k.held.1; many = omega (arith, k.many) }); held = k.held.0; is = refl }

  pub no-factors : (at m : ℕ) (h : Factors s at m) → m ≡ 0 → [] ≡ h.0
  no-factors at m ([], k) e = refl
  no-factors at m (f ∷ p, k) e = absurd (omega (arith, k.many))

  module _ (at m : ℕ) (h : Factors s at m) (z : m ≡ 0 → ⊥) where
    abbrev this-factor : FirstFactor at (m - 1) h.0
    this-factor = some-factor at m h z

    pub factor-there : {v : View} → v ≡ viewAt s at → ((a : atoms.Atom) (x y : ℕ) → v ≡ view.Factor a x y → ⊥) → ⊥
    factor-there e n = go this-factor.first this-factor.held
      where
        go : (f : tree.Factor ℕ) → HoldsFactor s f at → ⊥
        go (a ↑ frac x d) k = n (viewAtom a) (twos x) d (e ∙ k.0)

    pub factor-near : length s ≤ 4_000_000_000 → at < 1_000_000_000
    factor-near n = go this-factor.first this-factor.held
      where
        go : (f : tree.Factor ℕ) → HoldsFactor s f at → at < 1_000_000_000
        go (a ↑ frac x d) k = omega (arith, seen-in s at k.0 tt)

    pub rest_factors : Factors s (at + 1) (m - 1)
    rest_factors = this-factor.rest

    pub factors-are : {a : atoms.Atom} {x d : ℕ} → viewAt s at ≡ view.Factor a x d → (p : Factors s (at + 1) (m - 1))
        → (atomOf a ↑ frac (signed x) d) ∷ p.0 ≡ h.0
    factors-are {a} {x} {d} v p =
        let f = this-factor in
        let first : f.first ≡ atomOf a ↑ frac (signed x) d = factor-by-view s (λ f. f ≡ atomOf a ↑ frac (signed x) d) f.first at f.held v refl in
        ap₂ ◌∷◌ (sym first) (ap (λ (q : Factors s (at + 1) (m - 1)). q.0) (one-product s (at + 1) (m - 1) p f.rest)) ∙ sym f.is

  -- ══ The parts that a first record says ══

  pub near-next : (at : ℕ) → ATree s at → length s ≤ 4_000_000_000 → at < 1_000_000_000
  near-next at h n = omega (arith, in_reach s h.0 at h.1)

  module _ (at : ℕ) (h : ATree s at) where
    pub factors-of : {n : ℕ} → viewAt s at ≡ view.Dim n → Factors s (at + 1) n
    factors-of e = (seen-as at h e).0

    pub dim-is : {n : ℕ} (e : viewAt s at ≡ view.Dim n) (p : Factors s (at + 1) n) → dim p.0 ≡ h.0
    dim-is {n} e p = ap (λ (q : Factors s (at + 1) n). dim q.0) (one-product s (at + 1) n p (seen-as at h e).0) ∙ sym (seen-as at h e).1

    pub element-of : viewAt s at ≡ view.List → ATree s (at + 1)
    element-of e = (seen-as at h e).0

    pub list-is : (e : viewAt s at ≡ view.List) (t : ATree s (at + 1)) → list t.0 ≡ h.0
    list-is e t = ap (λ (q : ATree s (at + 1)). list q.0) (one-tree s (at + 1) t (seen-as at h e).0) ∙ sym (seen-as at h e).1

    pub parameters-of : {n : ℕ} → viewAt s at ≡ view.Function n → Trees s (at + 1) n
    parameters-of e = (seen-as at h e).0

    pub return-of : {n i : ℕ} → viewAt s at ≡ view.Function n → (ps : Trees s (at + 1) n) → i ≡ at + 1 + sizeTys ps.0 → ATree s i
    return-of {n} e ps q =
        let x = seen-as at h e in
        subst (ATree s) (sym (q ∙ ap (λ (z : Trees s (at + 1) n). at + 1 + sizeTys z.0) (one-list s (at + 1) n ps x.0))) x.1

    pub function-is : {n i : ℕ} (e : viewAt s at ≡ view.Function n) (qs : Trees s (at + 1) n) → i ≡ at + 1 + sizeTys qs.0
        → (ps : Trees s (at + 1) n) (r : ATree s i) → fn ps.0 r.0 ≡ h.0
    function-is {n} {i} e qs q ps r =
        let x = seen-as at h e in
        let a : ps ≡ x.0 = one-list s (at + 1) n ps x.0 in
        let b : i ≡ at + 1 + sizeTys x.0.0 = q ∙ ap (λ (z : Trees s (at + 1) n). at + 1 + sizeTys z.0) (one-list s (at + 1) n qs x.0) in
        let k : Holds s r.0 (at + 1 + sizeTys x.0.0) = subst (Holds s r.0) b r.1 in
        let d : r.0 ≡ x.1.0 = only s r.0 x.1.0 (at + 1 + sizeTys x.0.0) k x.1.1 in
        ap₂ fn (ap (λ (z : Trees s (at + 1) n). z.0) a) d ∙ sym x.2

    pub arguments-of : {x n m : ℕ} → viewAt s at ≡ view.Struct x n m → Trees s (at + 1) n
    arguments-of e = (seen-as at h e).0

    pub fields-of : {x n m i : ℕ} → viewAt s at ≡ view.Struct x n m → (as' : Trees s (at + 1) n) → i ≡ at + 1 + sizeTys as'.0 → FieldTrees s i m
    fields-of {x} {n} {m} e as' q =
        let y = seen-as at h e in
        subst (λ (j : ℕ). FieldTrees s j m) (sym (q ∙ ap (λ (z : Trees s (at + 1) n). at + 1 + sizeTys z.0) (one-list s (at + 1) n as' y.0))) y.1

    pub struct-is : {x n m i : ℕ} (e : viewAt s at ≡ view.Struct x n m) (qs : Trees s (at + 1) n) → i ≡ at + 1 + sizeTys qs.0
        → (as' : Trees s (at + 1) n) (fs : FieldTrees s i m) → struct x as'.0 fs.0 ≡ h.0
    struct-is {x} {n} {m} {i} e qs q as' fs =
        let y = seen-as at h e in
        let a : as' ≡ y.0 = one-list s (at + 1) n as' y.0 in
        let b : i ≡ at + 1 + sizeTys y.0.0 = q ∙ ap (λ (z : Trees s (at + 1) n). at + 1 + sizeTys z.0) (one-list s (at + 1) n qs y.0) in
        let k : HoldsFields s fs.0 (at + 1 + sizeTys y.0.0) = subst (HoldsFields s fs.0) b fs.1.held in
        let d : fs.0 ≡ y.1.0 = only-fields s fs.0 y.1.0 (at + 1 + sizeTys y.0.0) (fs.1.many ∙ sym y.1.1.many) k y.1.1.held in
        ap₂ (struct x) (ap (λ (z : Trees s (at + 1) n). z.0) a) d ∙ sym y.2

  -- ══ Going past some types ══

  -- n types are left from `at` on, and they end there
  pub record Behind (at n end : ℕ) : Type 0 where
    pub rest : Trees s at n
    pub is : at + sizeTys rest.0 ≡ end

  pub behind-start : (at n : ℕ) (h : Trees s at n) → Behind at (n - 0) (at + sizeTys h.0)
  behind-start at n h = subst (λ (m : ℕ). Behind at m (at + sizeTys h.0)) (sym zero-less) (record { rest = h; is = refl })
    where
      zero-less : n - 0 ≡ n
      zero-less = omega arith

  pub behind-step : (at n m e i : ℕ) → Behind at n e → 0 < n → m ≡ n - 1 → i ≡ longAt s at → Behind (at + i) m e
  unfolding sizeTys
  behind-step at n m e i b p w q =
      let f = some_of at (n - 1) n b.rest (omega arith) in
      let l : i ≡ size f.first.0 = q ∙ holds-long s f.first.0 at f.first.1 in
      let k : at + (size f.first.0 + sizeTys f.rest.0) ≡ e = ap (λ (ts : Tys ℕ). at + sizeTys ts) (sym f.is) ∙ b.is in
      let r : Behind (at + size f.first.0) (n - 1) e = record { rest = f.rest; is = omega (arith, k) } in
      subst (λ (j : ℕ). Behind (at + j) m e) (sym l) (subst (λ (j : ℕ). Behind (at + size f.first.0) j e) (sym w) r)

  pub behind-near : (at n e i : ℕ) → Behind at n e → 0 < n → i ≡ longAt s at → length s ≤ 4_000_000_000 → at + i ≤ 1_000_000_000
  behind-near at n e i b p q k =
      let f = some_of at (n - 1) n b.rest (omega arith) in
      omega (arith, q, holds-long s f.first.0 at f.first.1, ends-in s f.first.0 at f.first.1)

  pub behind-end : (at n e : ℕ) → Behind at n e → n ≡ 0 → at ≡ e
  unfolding sizeTys
  behind-end at n e b z = omega (arith, ap sizeTys (none_left at n b.rest z), b.is)
