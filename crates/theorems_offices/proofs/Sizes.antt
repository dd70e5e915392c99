-- Open names, sizes and depths of trees with other names in them.
use Rattle.std.specs.Prelude.{◌≡◌, List, [], ◌∷◌, map}
use Rattle.std.proofs.Math.Path.{refl}
use Rattle.std.proofs.lemmas.List.{map-append}
use Rattle.std.proofs.Math.ListN.{length-map}
use Rattle.rules.specs.Base.{collect, sum_of, max_of}
use Rattle.rules.specs.Trees.{free, base, Factor, ◌↑◌, Product, Ty, opened, basic, dim, fn, struct, list, Tys, nil, cons, Fields, noFields, field, Con}
use Rattle.rules.specs.Trees.{
  equal,
  isDim,
  is_scalar,
  hasField,
  Binding,
  ◌≔◌,
  openOfFactor,
  opens,
  opensTys,
  opensFields,
  size,
  sizeTys,
  sizeFields,
  depth,
  depthTys,
  depthFields,
  count,
  opensCon,
  sizeCon,
  depthCon,
  sizeBinding,
  depthBinding,
}
use Rattle.rules.specs.Rounds.{State, sizeState, depthState}
use Rattle.rules.specs.Calls.{opensBinding}
use Rattle.rules.specs.Offices.{mapOpen, mapFactor, mapTy, map_tys, mapFields, mapCon, mapBinding}
use Rattle.theorems_offices.proofs.Over.{collect-over}

module _ {N M : Type 0} (f : N → M) where
  -- ══ Open names ══

  factor-opens : (x : Factor N) → openOfFactor (mapFactor f x) ≡ map (mapOpen f) (openOfFactor x)
  factor-opens (free o ↑ e) = refl
  factor-opens (base n ↑ e) = refl

  pub product-opens : (p : Product N) → collect openOfFactor (map (mapFactor f) p) ≡ map (mapOpen f) (collect openOfFactor p)
  product-opens p = collect-over (mapFactor f) (mapOpen f) openOfFactor openOfFactor factor-opens p

  mutual
    unfolding opens mapTy

    pub opens-map : (t : Ty N) → opens (mapTy f t) ≡ map (mapOpen f) (opens t)
    opens-map (opened o) = refl
    opens-map (basic b) = refl
    opens-map (dim p) = product-opens p
    opens-map (fn ps r) = rw (opens-tys ps, opens-map r, map-append)
    opens-map (struct n as' fs) = rw (opens-tys as', opens-fields fs, map-append)
    opens-map (list t) = opens-map t

    pub opens-tys : (ts : Tys N) → opensTys (map_tys f ts) ≡ map (mapOpen f) (opensTys ts)
    opens-tys nil = refl
    opens-tys (cons t ts) = rw (opens-map t, opens-tys ts, map-append)

    pub opens-fields : (fs : Fields N) → opensFields (mapFields f fs) ≡ map (mapOpen f) (opensFields fs)
    opens-fields noFields = refl
    opens-fields (field n t fs) = rw (opens-map t, opens-fields fs, map-append)

  pub opens-con : (c : Con N) → opensCon (mapCon f c) ≡ map (mapOpen f) (opensCon c)
  unfolding opensCon mapCon opens mapTy
  opens-con (equal s t) = rw (opens-map s, opens-map t, map-append)
  opens-con (isDim t) = opens-map t
  opens-con (is_scalar p) = product-opens p
  opens-con (hasField n s t) = rw (opens-map s, opens-map t, map-append)

  pub opens-binding : (b : Binding N) → opensBinding (mapBinding f b) ≡ map (mapOpen f) (opensBinding b)
  unfolding opensBinding mapBinding
  opens-binding (x ≔ t) = rw (opens-map t)

  mutual
    unfolding size mapTy

    pub size-map : (t : Ty N) → size (mapTy f t) ≡ size t
    size-map (opened o) = refl
    size-map (basic b) = refl
    size-map (dim p) = rw length-map
    size-map (fn ps r) = rw (size-tys ps, size-map r)
    size-map (struct n as' fs) = rw (size-tys as', size-fields fs)
    size-map (list t) = rw (size-map t)

    size-tys : (ts : Tys N) → sizeTys (map_tys f ts) ≡ sizeTys ts
    size-tys nil = refl
    size-tys (cons t ts) = rw (size-map t, size-tys ts)

    size-fields : (fs : Fields N) → sizeFields (mapFields f fs) ≡ sizeFields fs
    size-fields noFields = refl
    size-fields (field n t fs) = rw (size-map t, size-fields fs)

  mutual
    unfolding depth mapTy

    pub depth-map : (t : Ty N) → depth (mapTy f t) ≡ depth t
    depth-map (opened o) = refl
    depth-map (basic b) = refl
    depth-map (dim p) = refl
    depth-map (fn ps r) = rw (depth-tys ps, depth-map r)
    depth-map (struct n as' fs) = rw (depth-tys as', depth-fields fs)
    depth-map (list t) = rw (depth-map t)

    depth-tys : (ts : Tys N) → depthTys (map_tys f ts) ≡ depthTys ts
    depth-tys nil = refl
    depth-tys (cons t ts) = rw (depth-map t, depth-tys ts)

    depth-fields : (fs : Fields N) → depthFields (mapFields f fs) ≡ depthFields fs
    depth-fields noFields = refl
    depth-fields (field n t fs) = rw (depth-map t, depth-fields fs)

  -- ══ Sizes and depths of constraints, bindings and states ══

  pub count_map : (ts : Tys N) → count (map_tys f ts) ≡ count ts
  unfolding count mapTy
  count_map nil = refl
  count_map (cons t ts) = rw (count_map ts)

  pub size-con : (c : Con N) → sizeCon (mapCon f c) ≡ sizeCon c
  unfolding sizeCon mapCon size
  size-con (equal s t) = rw (size-map s, size-map t)
  size-con (isDim t) = rw (size-map t)
  size-con (is_scalar p) = rw length-map
  size-con (hasField n s t) = rw (size-map s, size-map t)

  pub depth-con : (c : Con N) → depthCon (mapCon f c) ≡ depthCon c
  unfolding depthCon mapCon
  depth-con (equal s t) = rw (depth-map s, depth-map t)
  depth-con (isDim t) = depth-map t
  depth-con (is_scalar p) = refl
  depth-con (hasField n s t) = rw (depth-map s, depth-map t)

  pub size-binding : (b : Binding N) → sizeBinding (mapBinding f b) ≡ sizeBinding b
  unfolding sizeBinding mapBinding
  size-binding (x ≔ t) = rw (size-map t)

  depth-binding : (b : Binding N) → depthBinding (mapBinding f b) ≡ depthBinding b
  unfolding depthBinding mapBinding
  depth-binding (x ≔ t) = depth-map t

  pub size-cons : (cs : List (Con N)) → sum_of sizeCon (map (mapCon f) cs) ≡ sum_of sizeCon cs
  size-cons [] = refl
  size-cons (c ∷ cs) = rw (size-con c, size-cons cs)

  pub size-bindings : (bs : List (Binding N)) → sum_of sizeBinding (map (mapBinding f) bs) ≡ sum_of sizeBinding bs
  size-bindings [] = refl
  size-bindings (b ∷ bs) = rw (size-binding b, size-bindings bs)

  depth-cons : (cs : List (Con N)) → max_of depthCon (map (mapCon f) cs) ≡ max_of depthCon cs
  depth-cons [] = refl
  depth-cons (c ∷ cs) = rw (depth-con c, depth-cons cs)

  depth-bindings : (bs : List (Binding N)) → max_of depthBinding (map (mapBinding f) bs) ≡ max_of depthBinding bs
  depth-bindings [] = refl
  depth-bindings (b ∷ bs) = rw (depth-binding b, depth-bindings bs)

  abbrev pub mapState : State N → State M
  mapState s = record { cons = map (mapCon f) s.cons; binds = map (mapBinding f) s.binds }

  pub size-state : (s : State N) → sizeState (mapState s) ≡ sizeState s
  unfolding sizeState
  size-state s = rw (size-cons s.cons, size-bindings s.binds)

  pub depth-state : (s : State N) → depthState (mapState s) ≡ depthState s
  unfolding depthState
  depth-state s = rw (depth-cons s.cons, depth-bindings s.binds)
