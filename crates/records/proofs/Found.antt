-- What follows from the definitions of specs/Found: what is read at a place is held there.
use Rattle.std.specs.Prelude.{◌≡◌, get_or}
use Rattle.std.proofs.Math.Path.{refl, ap, subst}
use Rattle.std.proofs.Common.{sym, add-zero}
use mathlib.Core.List.{List, [], ◌∷◌}
use Prim.Native.Nat.{ℕ, zero, suc, ◌+◌, ◌*◌, ◌/◌, ◌≤◌, ◌<◌, max}
use native.Mathlib.Omega.{arith}
use Rattle.std.proofs.Math.ListN.{length}
use Rattle.rules.specs.Base.{all}
use Rattle.rules.specs.Trees as tree
use Rattle.rules.specs.Trees.{
  Product,
  Ty,
  opened,
  basic,
  Tys,
  Fields,
  Con,
  equal,
  isDim,
  is_scalar,
  hasField,
  Binding,
  ◌≔◌,
  size,
  sizeTys,
  sizeFields,
  sizeCon,
  sizeBinding,
  depth,
  depthTys,
  depthFields,
  depthCon,
  depthBinding,
  count,
  countFields,
}
use Rattle.rules.specs.Writing.{Rec, rec, kindIn, twos, signed}
use Rattle.rules.specs.Reading.{
  Reader,
  pass,
  give,
  next,
  factorTable,
  factorKinds,
  readFactors,
  readTys,
  readFields,
  readField,
  fieldTable,
  fieldKinds,
  readDim,
  readFn,
  readStruct,
  readList,
  typeTable,
  typeKinds,
  readTy,
  readCon,
  conTable,
  conKinds,
  scalarTable,
  scalarKinds,
  readBinding,
  bindingTable,
  bindingKinds,
}
use Rattle.laws.specs.Written.{Reads, nothing, given, picked}
use Rattle.laws.proofs.Written.{then, unsigned}
use Rattle.laws.specs.Written as laws
use Rattle.records.specs.Views.{plain, shape_of, from}
use Rattle.records.specs.Places.{◌&◌, first}
use Rattle.records.specs.Holds.{
  Shows,
  Long,
  HoldsFactor,
  HoldsFactors,
  HoldsProduct,
  Holds,
  HoldsTys,
  HoldsFields,
  HoldsCon,
  HoldsBinding,
  BodyCon,
  BodyBinding,
}
use Rattle.records.proofs.Holds.{BodyFactor, body-factor, Body, body-holds, body-con, body-binding}
use Rattle.records.specs.ByView.{ends-in, factors-in}
use Rattle.records.proofs.ByView.{body-in, con-body-in, binding-body-in}
use Rattle.records.specs.declared.View.TheVariants as view
use Rattle.records.specs.Found.{Words32, here, long-found, by_next}

-- a part that was read from `at` on is held there, and nested at most d deep
pub record FoundPart {A : Type 0} (holds : List ℕ → A → ℕ → Type 0) (long depths : A → ℕ) (s : List ℕ) (d at : ℕ) (a : A) (rest : List Rec) : Type 0 where
  pub held : holds s a at
  pub place : rest ≡ from s (at + long a)
  pub deep : depths a ≤ d

module _ (s : List ℕ) where
  pub record FoundFactors (n at : ℕ) (p : Product ℕ) (rest : List Rec) : Type 0 where
    pub held : HoldsFactors s p at
    pub many : length p ≡ n
    pub place : rest ≡ from s (at + n)

  pub record Found (d at : ℕ) (t : Ty ℕ) (rest : List Rec) : Type 0 where
    pub held : Holds s t at
    pub place : rest ≡ from s (at + size t)
    pub deep : depth t ≤ d

  -- except for the length that its first record says
  record FoundBody (d at : ℕ) (t : Ty ℕ) (rest : List Rec) : Type 0 where
    held : Body s t at
    place : rest ≡ from s (at + size t)
    deep : depth t ≤ d

  pub record FoundTys (d n at : ℕ) (ts : Tys ℕ) (rest : List Rec) : Type 0 where
    pub held : HoldsTys s ts at
    pub many : count ts ≡ n
    pub place : rest ≡ from s (at + sizeTys ts)
    pub deep : depthTys ts ≤ d

  pub record FoundFields (d n at : ℕ) (fs : Fields ℕ) (rest : List Rec) : Type 0 where
    pub held : HoldsFields s fs at
    pub many : countFields fs ≡ n
    pub place : rest ≡ from s (at + sizeFields fs)
    pub deep : depthFields fs ≤ d

  module _ (w : Words32 s) where
    -- the numerator's word of the record at a place
    small : (at k a b c : ℕ) (rs : List Rec) → from s at ≡ rec k a b c ∷ rs → twos (signed b) ≡ b
    small at k a b c rs e =
        let f : rec _ _ (get_or s (at * 4 + 2) 0) _ ≡ rec k a b c = (first s at (rec k a b c) rs e).this in
        let q : get_or s (at * 4 + 2) 0 ≡ b = cc in
        unsigned b (subst (λ (x : ℕ). x < 4_294_967_296) q (w.word (at * 4 + 2)))

    factor-shape : (at k a b c : ℕ) (rs : List Rec) → from s at ≡ rec k a b c ∷ rs
        → Reads (factorKinds (kindIn k) a b c rs) (λ f rest. BodyFactor s f at × (rest ≡ from s (at + 1)))
    unfolding shape_of plain all
    factor-shape at k a b c rs e =
        let x = small at k a b c rs e in
        picked (kindIn k) rs (factorTable a b c) (
        (λ q. let (u, v) = here s at k a b c rs e (rw (q, x)) in given ((u, ap signed x), v))
        & (λ q. let (u, v) = here s at k a b c rs e (rw (q, x)) in given ((u, ap signed x), v))
        & (λ q. let (u, v) = here s at k a b c rs e (rw (q, x)) in given ((u, ap signed x), v))
        & (λ q. let (u, v) = here s at k a b c rs e (rw (q, x)) in given ((u, ap signed x), v))
        & tt)

    factor-found : (at : ℕ) (l : List Rec) → from s at ≡ l → Reads (next factorKinds l) (λ f rest. HoldsFactor s f at × (rest ≡ from s (at + 1)))
    factor-found at [] e = nothing
    factor-found at (rec k a b c ∷ rs) e =
        by_next s factorKinds k a b c rs (factor-shape at k a b c rs e) (λ f rest i l.
        let n : at + 1 ≤ length s / 4 = omega (arith, (first s at (rec k a b c) rs e).inside) in
        (body-factor s f at i.0 (long-found s at k a b c 1 rs rest e l i.1 n), i.1))

    pub factors-found : (n at : ℕ) → Reads (readFactors n (from s at)) (FoundFactors n at)
    unfolding readFactors HoldsFactors
    factors-found zero at = given (record { held = tt; many = refl; place = rw (add-zero at) })
    factors-found (suc n) at =
        let q : at + 1 + n ≡ at + suc n = omega arith in
        then (factor-found at (from s at) refl) (λ f rest i.
        rw i.1 (then (factors-found n (at + 1)) (λ p rest' j.
        given (record { held = (i.0, j.held); many = ap suc j.many; place = rw (← q) j.place }))))

    -- a reader of types that finds what is held
    abbrev Finds : Reader (Ty ℕ) → ℕ → Type 0
    Finds ty d = (at : ℕ) → Reads (ty (from s at)) (Found d at)

    module _ (ty : Reader (Ty ℕ)) (d : ℕ) (r : Finds ty d) where
      tys-finds : (n at : ℕ) → Reads (readTys ty n (from s at)) (FoundTys d n at)
      unfolding readTys Holds sizeTys depthTys count
      tys-finds zero at = given (record { held = tt; many = refl; place = rw (add-zero at); deep = omega arith })
      tys-finds (suc n) at =
          then (r at) (λ t rest i.
          rw i.place (then (tys-finds n (at + size t)) (λ ts rest' j.
          let q : at + size t + sizeTys ts ≡ at + (size t + sizeTys ts) = omega arith in
          given (record {
            held = (i.held, j.held);
            many = ap suc j.many;
            place = rw (← q) j.place;
            deep = omega (arith, i.deep, j.deep);
          }))))

      -- a field: its name, and its type
      record FoundField (at : ℕ) (f : ℕ × Ty ℕ) (rest : List Rec) : Type 0 where
        shows : Shows s at (view.Field f.0)
        held : Holds s f.1 (at + 1)
        long : Long s at (suc (size f.1))
        place : rest ≡ from s (at + suc (size f.1))
        deep : depth f.1 ≤ d

      field_found : (at : ℕ) (l : List Rec) → from s at ≡ l → Reads (next (fieldKinds ty) l) (FoundField at)
      unfolding shape_of plain all
      field_found at [] e = nothing
      field_found at (rec k a b c ∷ rs) e =
          by_next s {P = λ f rest. Shows s at (view.Field f.0) × Found d (at + 1) f.1 rest} (fieldKinds ty) k a b c rs
          (picked (kindIn k) rs (fieldTable ty a b c) ((λ q. laws.plain (b ∷ c ∷ []) (readField ty a) rs (λ z.
          let (u, v) = here s at k a b c rs e (rw (q, z.0, z.1.0)) in
          rw v (then (r (at + 1)) (λ t rest i. given (u, i))))) & tt))
          (λ f rest i l.
          let q : at + 1 + size f.1 ≡ at + suc (size f.1) = omega arith in
          let p : rest ≡ from s (at + suc (size f.1)) = rw (← q) i.1.place in
          record {
            shows = i.0;
            held = i.1.held;
            long = long-found s at k a b c (suc (size f.1)) rs rest e l p (omega (arith, ends-in s f.1 (at + 1) i.1.held));
            place = p;
            deep =
                i.1.deep;
          })

      fields-finds : (n at : ℕ) → Reads (readFields ty n (from s at)) (FoundFields d n at)
      unfolding readFields Holds sizeFields depthFields countFields
      fields-finds zero at = given (record { held = tt; many = refl; place = rw (add-zero at); deep = omega arith })
      fields-finds (suc n) at =
          then (field_found at (from s at) refl) (λ f rest i.
          rw i.place (then (fields-finds n (at + suc (size f.1))) (λ fs rest'' k.
          let u : at + suc (size f.1) ≡ at + 1 + size f.1 = omega arith in
          let q : at + suc (size f.1) + sizeFields fs ≡ at + suc (size f.1 + sizeFields fs) = omega arith in
          given (record {
            held = (i.shows, i.held, subst (HoldsFields s fs) u k.held, i.long);
            many = ap suc k.many;
            place = rw (← q) k.place;
            deep = omega (arith, i.deep, k.deep);
          }))))

      fn-found : (at a : ℕ) → Shows s at (view.Function a) → Reads (readFn ty a (from s (at + 1))) (FoundBody (suc d) at)
      unfolding Body size depth
      fn-found at a h =
          then (tys-finds a (at + 1)) (λ ps rest i.
          rw i.place (then (r (at + 1 + sizeTys ps)) (λ t rest' j.
          let q : at + 1 + sizeTys ps + size t ≡ at + suc (sizeTys ps + size t) = omega arith in
          given (record {
            held = (rw i.many h, i.held, j.held);
            place = rw (← q) j.place;
            deep = omega (arith, i.deep, j.deep);
          }))))

      struct-found : (at a b c : ℕ) → Shows s at (view.Struct a b c) → Reads (readStruct ty a b c (from s (at + 1))) (FoundBody (suc d) at)
      unfolding Body size depth
      struct-found at a b c h =
          then (tys-finds b (at + 1)) (λ as' rest i.
          rw i.place (then (fields-finds c (at + 1 + sizeTys as')) (λ fs rest' j.
          let q : at + 1 + sizeTys as' + sizeFields fs ≡ at + suc (sizeTys as' + sizeFields fs) = omega arith in
          given (record {
            held = (rw (i.many, j.many) h, i.held, j.held);
            place = rw (← q) j.place;
            deep = omega (arith, i.deep, j.deep);
          }))))

      list-found : (at : ℕ) → Shows s at view.List → Reads (readList ty (from s (at + 1))) (FoundBody (suc d) at)
      unfolding Body size depth
      list-found at h =
          then (r (at + 1)) (λ t rest i.
          let q : at + 1 + size t ≡ at + suc (size t) = omega arith in
          given (record { held = (h, i.held); place = rw (← q) i.place; deep = omega (arith, i.deep) }))

    dim-found : (d at a : ℕ) → Shows s at (view.Dim a) → Reads (readDim a (from s (at + 1))) (FoundBody (suc d) at)
    unfolding Body size depth
    dim-found d at a h =
        then (factors-found a (at + 1)) (λ p rest i.
        let q : at + 1 + a ≡ at + suc a = omega arith in
        given (record { held = (rw i.many h, i.held); place = rw (i.many, ← q) i.place; deep = omega arith }))

    leaf-found : (t : Ty ℕ) (d at : ℕ) (rs : List Rec) → Body s t at → size t ≡ 1 → depth t ≡ 1 → rs ≡ from s (at + 1)
        → Reads (give t rs) (FoundBody (suc d) at)
    leaf-found t d at rs h e k q = given (record { held = h; place = rw e q; deep = omega arith })

    first-shape : (d at : ℕ) → Finds (readTy d) d → (k a b c : ℕ) (rs : List Rec) → from s at ≡ rec k a b c ∷ rs
        → Reads (typeKinds (readTy d) (kindIn k) a b c rs) (FoundBody (suc d) at)
    unfolding shape_of plain all Body size depth
    first-shape d at r k a b c rs e = picked (kindIn k) rs (typeTable (readTy d) a b c) (
        (λ q. laws.plain (b ∷ c ∷ []) (give (opened (tree.var a))) rs
        (λ z. let (u, v) = here s at k a b c rs e (rw (q, z.0, z.1.0)) in leaf-found (opened (tree.var a)) d at rs u refl refl v))
        & (λ q. laws.plain (b ∷ c ∷ []) (give (opened (tree.par a))) rs
        (λ z. let (u, v) = here s at k a b c rs e (rw (q, z.0, z.1.0)) in leaf-found (opened (tree.par a)) d at rs u refl refl v))
        & (λ q. laws.plain (b ∷ c ∷ []) (give (opened (tree.quant a))) rs
        (λ z. let (u, v) = here s at k a b c rs e (rw (q, z.0, z.1.0)) in leaf-found (opened (tree.quant a)) d at rs u refl refl v))
        & (λ q. laws.plain (b ∷ c ∷ []) (readDim a) rs (λ z. let (u, v) = here s at k a b c rs e (rw (q, z.0, z.1.0)) in rw v (dim-found d at a u)))
        & (λ q. laws.plain (a ∷ b ∷ c ∷ []) (give (basic tree.boolean)) rs
        (λ z. let (u, v) = here s at k a b c rs e (rw (q, z.0, z.1.0, z.1.1.0)) in leaf-found (basic tree.boolean) d at rs u refl refl v))
        & (λ q. laws.plain (a ∷ b ∷ c ∷ []) (give (basic tree.string)) rs
        (λ z. let (u, v) = here s at k a b c rs e (rw (q, z.0, z.1.0, z.1.1.0)) in leaf-found (basic tree.string) d at rs u refl refl v))
        & (λ q. laws.plain (a ∷ b ∷ c ∷ []) (give (basic tree.datetime)) rs
        (λ z. let (u, v) = here s at k a b c rs e (rw (q, z.0, z.1.0, z.1.1.0)) in leaf-found (basic tree.datetime) d at rs u refl refl v))
        & (λ q. laws.plain (b ∷ c ∷ []) (readFn (readTy d) a) rs
        (λ z. let (u, v) = here s at k a b c rs e (rw (q, z.0, z.1.0)) in rw v (fn-found (readTy d) d r at a u)))
        & (λ q. let (u, v) = here s at k a b c rs e (rw q) in rw v (struct-found (readTy d) d r at a b c u))
        & (λ q. laws.plain (a ∷ b ∷ c ∷ []) (readList (readTy d)) rs
        (λ z. let (u, v) = here s at k a b c rs e (rw (q, z.0, z.1.0, z.1.1.0)) in rw v (list-found (readTy d) d r at u)))
        & tt)

    first_found : (d at : ℕ) → Finds (readTy d) d → (l : List Rec) → from s at ≡ l → Reads (next (typeKinds (readTy d)) l) (Found (suc d) at)
    first_found d at r [] e = nothing
    first_found d at r (rec k a b c ∷ rs) e = by_next s (typeKinds (readTy d)) k a b c rs (first-shape d at r k a b c rs e) (λ t rest i l.
        let n = long-found s at k a b c (size t) rs rest e l i.place (body-in s t at i.held) in
        record { held = body-holds s t at i.held n; place = i.place; deep = i.deep })

    pub found : (d at : ℕ) → Reads (readTy d (from s at)) (Found d at)
    unfolding readTy
    found zero at = nothing
    found (suc d) at = first_found d at (found d) (from s at) refl

    abbrev pub FoundCon : ℕ → Con ℕ → List Rec → Type 0
    FoundCon at c rest = FoundPart HoldsCon sizeCon depthCon s 64 at c rest

    abbrev pub FoundBinding : ℕ → Binding ℕ → List Rec → Type 0
    FoundBinding at b rest = FoundPart HoldsBinding sizeBinding depthBinding s 64 at b rest

    -- except for the length that their first record says
    abbrev ConBody : ℕ → Con ℕ → List Rec → Type 0
    ConBody at c rest = FoundPart BodyCon sizeCon depthCon s 64 at c rest

    abbrev BindingBody : ℕ → Binding ℕ → List Rec → Type 0
    BindingBody at b rest = FoundPart BodyBinding sizeBinding depthBinding s 64 at b rest

    -- two types after a record
    two-found : {A : Type 0} (at : ℕ) (f : Ty ℕ → Ty ℕ → A) (P : A → List Rec → Type 0)
        → ((l r : Ty ℕ) (rest : List Rec) → Holds s l (at + 1) → Holds s r (at + 1 + size l) → max (depth l) (depth r) ≤ 64
        → rest ≡ from s (at + suc (size l + size r)) → P (f l r) rest)
        → Reads (pass (readTy 64 (from s (at + 1))) (λ l s'. pass (readTy 64 s') (λ r. give (f l r)))) P
    two-found at f P k =
        then (found 64 (at + 1)) (λ l rest i.
        rw i.place (then (found 64 (at + 1 + size l)) (λ r rest' j.
        let q : at + 1 + size l + size r ≡ at + suc (size l + size r) = omega arith in
        given (k l r rest' i.held j.held (omega (arith, i.deep, j.deep)) (rw (← q) j.place)))))

    -- one type after a record
    one_found : {A : Type 0} (at : ℕ) (f : Ty ℕ → A) (P : A → List Rec → Type 0)
        → ((t : Ty ℕ) (rest : List Rec) → Holds s t (at + 1) → depth t ≤ 64 → rest ≡ from s (at + suc (size t)) → P (f t) rest)
        → Reads (pass (readTy 64 (from s (at + 1))) (λ t. give (f t))) P
    one_found at f P k =
        then (found 64 (at + 1)) (λ t rest i.
        let q : at + 1 + size t ≡ at + suc (size t) = omega arith in
        given (k t rest i.held i.deep (rw (← q) i.place)))

    abbrev scalar : ℕ → Reader (Con ℕ)
    scalar a = λ s. pass (readFactors a s) (λ p. give (is_scalar p))

    -- the product of an equal-scalar, except for the length that its first record says
    record ScalarBody (at : ℕ) (c : Con ℕ) (rest : List Rec) : Type 0 where
      product : Product ℕ
      is : c ≡ is_scalar product
      shows : Shows s at (view.Dim (length product))
      held : HoldsFactors s product (at + 1)
      place : rest ≡ from s (at + suc (length product))

    scalar-factors : (at a : ℕ) → Shows s at (view.Dim a) → Reads (scalar a (from s (at + 1))) (ScalarBody at)
    scalar-factors at a u =
        let n : at + 1 + a ≡ at + suc a = omega arith in
        then (factors-found a (at + 1)) (λ p rest i.
        given (record { product = p; is = refl; shows = rw i.many u; held = i.held; place = rw (i.many, ← n) i.place }))

    scalar-shape : (at k a b c : ℕ) (rs : List Rec) → from s at ≡ rec k a b c ∷ rs → Reads (scalarKinds (kindIn k) a b c rs) (ScalarBody at)
    unfolding shape_of plain all
    scalar-shape at k a b c rs e =
        picked (kindIn k) rs (scalarTable a b c) (
        (λ q. laws.plain (b ∷ c ∷ []) (scalar a) rs (λ z.
        let (u, v) = here s at k a b c rs e (rw (q, z.0, z.1.0)) in
        rw v (scalar-factors at a u)))
        & tt)

    scalar-whole : (at : ℕ) (x : Con ℕ) (p : Product ℕ) (rest : List Rec) → x ≡ is_scalar p → Shows s at view.IsScalar → HoldsProduct s p (at + 1)
        → rest ≡ from s (at + 1 + suc (length p)) → ConBody at x rest
    unfolding BodyCon sizeCon size depthCon
    scalar-whole at x p rest e h g q =
        let n : at + 1 + suc (length p) ≡ at + suc (suc (length p)) = omega arith in
        rw e (record { held = (h, g); place = rw (← n) q; deep = omega arith })

    scalar-found : (at : ℕ) (l : List Rec) → Shows s at view.IsScalar → from s (at + 1) ≡ l → Reads (next scalarKinds l) (ConBody at)
    unfolding HoldsProduct
    scalar-found at [] h e = nothing
    scalar-found at (rec k a b c ∷ rs) h e = by_next s scalarKinds k a b c rs (scalar-shape (at + 1) k a b c rs e) (λ x rest i l.
        let p = i.product in
        let m : at + 1 < length s / 4 = (first s (at + 1) (rec k a b c) rs e).inside in
        let w : at + 1 + suc (length p) ≤ length s / 4 = omega (arith, factors-in s p (at + 1 + 1) (omega arith) i.held) in
        scalar-whole at x p rest i.is h (i.shows, i.held, long-found s (at + 1) k a b c (suc (length p)) rs rest e l i.place w) i.place)

    abbrev two : (Ty ℕ → Ty ℕ → Con ℕ) → Reader (Con ℕ)
    two f = λ s. pass (readTy 64 s) (λ l s'. pass (readTy 64 s') (λ r. give (f l r)))

    abbrev dimension : Reader (Con ℕ)
    dimension = λ s. pass (readTy 64 s) (λ t. give (isDim t))

    con-shape : (at k a b c : ℕ) (rs : List Rec) → from s at ≡ rec k a b c ∷ rs → Reads (conKinds (readTy 64) (kindIn k) a b c rs) (ConBody at)
    unfolding shape_of plain all BodyCon sizeCon depthCon
    con-shape at k a b c rs e = picked (kindIn k) rs (conTable (readTy 64) a b c) (
        (λ q. laws.plain (a ∷ b ∷ c ∷ []) (two equal) rs (λ z. let (u, v) = here s at k a b c rs e (rw (q, z.0, z.1.0, z.1.1.0)) in
        rw v (two-found at equal (ConBody at) (λ l r rest x y i n. record { held = (u, x, y); place = n; deep = i }))))
        & (λ q. laws.plain (a ∷ b ∷ c ∷ []) dimension rs (λ z. let (u, v) = here s at k a b c rs e (rw (q, z.0, z.1.0, z.1.1.0)) in
        rw v (one_found at isDim (ConBody at) (λ t rest x i n. record { held = (u, x); place = n; deep = i }))))
        & (λ q. laws.plain (a ∷ b ∷ c ∷ []) (next scalarKinds) rs (λ z. let (u, v) = here s at k a b c rs e (rw (q, z.0, z.1.0, z.1.1.0)) in
        scalar-found at rs u (sym v)))
        & (λ q. laws.plain (b ∷ c ∷ []) (two (hasField a)) rs (λ z. let (u, v) = here s at k a b c rs e (rw (q, z.0, z.1.0)) in
        rw v (two-found at (hasField a) (ConBody at) (λ l r rest x y i n. record { held = (u, x, y); place = n; deep = i }))))
        & tt)

    con-first : (at : ℕ) (l : List Rec) → from s at ≡ l → Reads (next (conKinds (readTy 64)) l) (FoundCon at)
    con-first at [] e = nothing
    con-first at (rec k a b c ∷ rs) e = by_next s (conKinds (readTy 64)) k a b c rs (con-shape at k a b c rs e) (λ x rest i l.
        let n = long-found s at k a b c (sizeCon x) rs rest e l i.place (con-body-in s x at i.held) in
        record { held = body-con s x at i.held n; place = i.place; deep = i.deep })

    pub con-found : (at : ℕ) → Reads (readCon (from s at)) (FoundCon at)
    unfolding readCon
    con-found at = con-first at (from s at) refl

    abbrev bound : ℕ → Reader (Binding ℕ)
    bound a = λ s. pass (readTy 64 s) (λ t. give (a ≔ t))

    binding-shape : (at k a b c : ℕ) (rs : List Rec) → from s at ≡ rec k a b c ∷ rs → Reads (bindingKinds (kindIn k) a b c rs) (BindingBody at)
    unfolding shape_of plain all BodyBinding sizeBinding depthBinding
    binding-shape at k a b c rs e = picked (kindIn k) rs (bindingTable a b c) (
        (λ q. laws.plain (b ∷ c ∷ []) (bound a) rs (λ z. let (u, v) = here s at k a b c rs e (rw (q, z.0, z.1.0)) in
        rw v (one_found at (λ t. a ≔ t) (BindingBody at) (λ t rest x i n. record { held = (u, x); place = n; deep = i }))))
        & tt)

    binding-first : (at : ℕ) (l : List Rec) → from s at ≡ l → Reads (next bindingKinds l) (FoundBinding at)
    binding-first at [] e = nothing
    binding-first at (rec k a b c ∷ rs) e = by_next s bindingKinds k a b c rs (binding-shape at k a b c rs e) (λ x rest i l.
        let n = long-found s at k a b c (sizeBinding x) rs rest e l i.place (binding-body-in s x at i.held) in
        record { held = body-binding s x at i.held n; place = i.place; deep = i.deep })

    pub binding-found : (at : ℕ) → Reads (readBinding (from s at)) (FoundBinding at)
    unfolding readBinding
    binding-found at = binding-first at (from s at) refl
