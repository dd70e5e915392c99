-- A rule and a round with other names in the constraints and bindings: the same step, with other names in what comes out.
use Rattle.std.specs.Prelude.{◌≡◌, Bool, not, ◌&&◌}
use Rattle.std.proofs.Math.Path.{refl}
use Rattle.std.proofs.Math.Bool.{true, false}
use Rattle.std.proofs.Math.Option.{Option, none, some}
use mathlib.Core.List.{List, [], ◌∷◌, ◌++◌, map, map-append}
use Rattle.std.proofs.Math.Dec.{eqb}
use Rattle.rules.specs.Base.{Got, Limits, is_yes, ◌or_else◌, only_if, collect}
use Rattle.rules.specs.Exponents.{Exp, neg, quotient}
use Rattle.rules.specs.Trees.{Open, var, quant, par, free, base, Factor, ◌↑◌, Product, Names, Ty, opened, basic, dim, fn}
use Rattle.rules.specs.Trees.{struct, list, Tys, nil, cons, Fields, Con, equal, isDim, is_scalar, hasField, Binding, ◌≔◌, ty-dec, count, openOfFactor}
use Rattle.rules.specs.Views.{productOf, fn_of, struct_of, list_of, variable, asVar, asPower}
use Rattle.rules.specs.Contents.{closed, contains, fieldIn, namesIn}
use Rattle.rules.specs.Replacing.{bindings}
use Rattle.rules.specs.Rounds.{Step, bind, split, done, stuck, State, pairs, asProducts, variableLeft, functions, lists, bindTo, firstRules, structs}
use Rattle.rules.specs.Rounds.{
  dimensions,
  by_kind,
  orTry,
  dimensionParts,
  otherSide,
  fieldStep,
  trySatisfy,
  taken,
  sizeState,
  depthState,
  limited,
  firstStep,
  perform,
  performed,
  round,
}
use Rattle.rules.specs.Offices.{Keeps, mapOpen, mapFactor, mapTy, map_tys, mapCon, mapBinding, mapOption}
use Rattle.theorems_offices.proofs.Over.{Over, next, gives, same_over, sized-over, each_over}
use Rattle.theorems_offices.proofs.Options.{only-map, then_map, or_map, get_d_map}
use Rattle.theorems_offices.proofs.Products.{divide-map}
use Rattle.theorems_offices.proofs.Sizes.{product-opens, count_map, mapState, size-state, depth-state}
use Rattle.theorems_offices.proofs.Contents.{names_in, closed-map, same_map, ty_same, contains-map, field_in}
use Rattle.theorems_offices.proofs.Views.{map_fn, mapStruct, as-var, as-power, open-seen, seen}
use Rattle.theorems_offices.proofs.Replacing.{con-map, binding-map, looks-map}

-- ══ Steps, which name nothing else ══

module _ {N M : Type 0} (f : N → M) where
  abbrev pub map_step : Step N → Step M
  map_step (bind x t) = bind (f x) (mapTy f t)
  map_step (split cs) = split (map (mapCon f) cs)
  map_step done = done
  map_step stuck = stuck

  pairs-map : (ts us : Tys N) → pairs (map_tys f ts) (map_tys f us) ≡ map (mapCon f) (pairs ts us)
  unfolding pairs mapTy mapCon
  pairs-map nil us = refl
  pairs-map (cons t ts) nil = refl
  pairs-map (cons t ts) (cons u us) = rw (pairs-map ts us)

  as-products : (x : Option N) (d : Product N) → asProducts (mapOption f x) (map (mapFactor f) d) ≡ map_step (asProducts x d)
  unfolding asProducts mapCon mapTy
  as-products none d = refl
  as-products (some x) d = refl

  variable-left : (x : Option N) (d : Option (Product N)) → variableLeft (mapOption f x) (mapOption (map (mapFactor f)) d) ≡ map_step (variableLeft x d)
  unfolding variableLeft
  variable-left x none = refl
  variable-left x (some d) = as-products x d

  functions-map : (ps : Tys N) (r : Ty N) (o : Option (Tys N × Ty N))
      → functions (map_tys f ps) (mapTy f r) (mapOption (map_fn f) o) ≡ map_step (functions ps r o)
  unfolding functions mapCon
  functions-map ps r none = refl
  functions-map ps r (some v) = go (eqb (count ps) (count v.0)) refl
    where
      go : (b : Bool) → eqb (count ps) (count v.0) ≡ b → functions (map_tys f ps) (mapTy f r) (some (map_fn f v)) ≡ map_step (functions ps r (some v))
      go true e = rw (functions, count_map f ps, count_map f v.0, e, pairs-map ps v.0)
      go false e = rw (functions, count_map f ps, count_map f v.0, e)

  lists-map : (t : Ty N) (o : Option (Ty N)) → lists (mapTy f t) (mapOption (mapTy f) o) ≡ map_step (lists t o)
  unfolding lists mapCon
  lists-map t none = refl
  lists-map t (some u) = refl

  parts-map : (xs : List N) → map (λ x. isDim (opened (var x))) (map f xs) ≡ map (mapCon f) (map (λ x. isDim (opened (var x))) xs)
  unfolding mapCon mapTy
  parts-map [] = refl
  parts-map (x ∷ xs) = rw (parts-map xs)

  dimension-parts : (o : Option (Product N)) → dimensionParts (mapOption (map (mapFactor f)) o) ≡ map_step (dimensionParts o)
  unfolding dimensionParts
  dimension-parts none = refl
  dimension-parts (some p) = rw (product-opens f p, names_in f (collect openOfFactor p), parts-map (namesIn (collect openOfFactor p)))

  other-side : (l : Limits) (k : Exp) (x : Factor N) → Over (mapFactor f) (otherSide l k x) (otherSide l k (mapFactor f x))
  unfolding otherSide
  other-side l k (a ↑ j) = next (same_over (quotient l (neg j) k)) (λ e e' i. gives (rw i))

  abbrev pub mapTaken : Step N × List (Con N) → Step M × List (Con M)
  mapTaken v = (map_step v.0, map (mapCon f) v.1)

  taken-map : (s : Step N) (c : Con N) (cs : List (Con N)) (more : Unit {0} → Got (Option (Step N × List (Con N))))
      (more' : Unit {0} → Got (Option (Step M × List (Con M))))
      → Over (mapOption mapTaken) (more tt) (more' tt)
      → Over (mapOption mapTaken) (taken s c cs more) (taken (map_step s) (mapCon f c) (map (mapCon f) cs) more')
  unfolding taken
  taken-map (bind x t) c cs more more' h = gives refl
  taken-map (split new) c cs more more' h = gives refl
  taken-map done c cs more more' h = gives refl
  taken-map stuck c cs more more' h = next h
      (λ r r' i. rw i (gives (then_map mapTaken mapTaken r (λ v. some (v.0, c ∷ v.1)) (λ v. some (v.0, mapCon f c ∷ v.1)) (λ v. refl))))

  pub limited-map : (l : Limits) (s : State N) → Over (mapState f) (limited l s) (limited l (mapState f s))
  unfolding limited
  limited-map l s = rw (size-state f s, depth-state f s) (sized-over (mapState f) l (sizeState s) (depthState s) s)

-- ══ The rules, where names are compared ══

module _ {N M : Type 0} (ν : Names N) (μ : Names M) (f : N → M) (keeps : Keeps ν μ f) where
  bind_to : (x : Option N) (t : Ty N) → bindTo μ (mapOption f x) (mapTy f t) ≡ mapOption (map_step f) (bindTo ν x t)
  unfolding bindTo
  bind_to none t = refl
  bind_to (some x) t = rw (contains-map ν μ f keeps x t) (only-map (map_step f) (not (contains ν x t)) (bind x t))

  equal-records : (s t : Ty N) → only_if (is_yes (ty-dec μ (mapTy f s) (mapTy f t))) done ≡ mapOption (map_step f) (only_if (is_yes (ty-dec ν s t)) done)
  equal-records s t = rw (ty_same ν μ f keeps s t) (only-map (map_step f) (is_yes (ty-dec ν s t)) done)

  five : (a b c d e : Option (Step N))
      → (mapOption (map_step f) a or_else mapOption (map_step f) b or_else mapOption (map_step f) c or_else mapOption (map_step f) d or_else
      mapOption (map_step f) e) ≡ mapOption (map_step f) (a or_else b or_else c or_else d or_else e)
  five a b c d e = rw (
    or_map (map_step f) d e,
    or_map (map_step f) c (d or_else e),
    or_map (map_step f) b (c or_else d or_else e),
    or_map (map_step f) a (b or_else c or_else d or_else e),
  )

  first-rules : (s t : Ty N) → firstRules μ (mapTy f s) (mapTy f t) ≡ mapOption (map_step f) (firstRules ν s t)
  unfolding firstRules
  first-rules s t =
      rw (
        equal-records s t,
        as-var f s,
        as-var f t,
        as-power f s,
        as-power f t,
        bind_to (asVar s) t,
        bind_to (asVar t) s,
        bind_to (asPower s) t,
        bind_to (asPower t) s,
      )
      (five (only_if (is_yes (ty-dec ν s t)) done) (bindTo ν (asVar s) t) (bindTo ν (asVar t) s) (bindTo ν (asPower s) t) (bindTo ν (asPower t) s))

  structs-map : (n : N) (as' : Tys N) (o : Option (N × Tys N × Fields N))
      → structs μ (f n) (map_tys f as') (mapOption (mapStruct f) o) ≡ map_step f (structs ν n as' o)
  unfolding structs
  structs-map n as' none = refl
  structs-map n as' (some v) = go (is_yes (ν.same n v.0) && eqb (count as') (count v.1)) refl
    where
      go : (b : Bool) → (is_yes (ν.same n v.0) && eqb (count as') (count v.1)) ≡ b
          → structs μ (f n) (map_tys f as') (some (mapStruct f v)) ≡ map_step f (structs ν n as' (some v))
      go true e = rw (structs, same_map ν μ f keeps n v.0, count_map f as', count_map f v.1, e, pairs-map f as' v.1)
      go false e = rw (structs, same_map ν μ f keeps n v.0, count_map f as', count_map f v.1, e)

  field_step : (n : N) (s t : Ty N) → fieldStep μ (f n) (mapTy f s) (mapTy f t) ≡ mapOption (map_step f) (fieldStep ν n s t)
  unfolding fieldStep mapCon
  field_step n s t =
      rw (closed-map f s, only-map (mapTy f) (closed s) s)
      (then_map (mapTy f) (map_step f) (only_if (closed s) s) _ _ (λ c. rw ((seen f c).struct-of)
      (then_map (mapStruct f) (map_step f) (struct_of c) _ _ (λ v. rw (field_in ν μ f keeps n v.2)
      (then_map (mapTy f) (map_step f) (fieldIn ν n v.2) _ _ (λ u. refl))))))

-- ══ One rule of a constraint ══

module _ {N M : Type 0} (ν : Names N) (μ : Names M) (f : N → M) (keeps : Keeps ν μ f) (l : Limits) where
  dimensions-map : (d : Product N) (o : Option (Product N)) (x : Option N)
      → Over (map_step f) (dimensions ν l d o x) (dimensions μ l (map (mapFactor f) d) (mapOption (map (mapFactor f)) o) (mapOption f x))
  unfolding dimensions mapCon
  dimensions-map d (some e) x = next (divide-map ν μ f keeps l d e) (λ q q' i. gives (rw i))
  dimensions-map d none x = gives (as-products f x d)

  by-kind : (s t : Ty N) → Over (map_step f) (by_kind ν l s t) (by_kind μ l (mapTy f s) (mapTy f t))
  unfolding by_kind mapTy
  by-kind (opened o) u = gives (rw ((open-seen f o).variable-of, (seen f u).product-of) (variable-left f (variable o) (productOf u)))
  by-kind (basic b) u = gives refl
  by-kind (dim d) u = rw ((seen f u).product-of, as-var f u) (dimensions-map d (productOf u) (asVar u))
  by-kind (fn ps r) u = gives (rw ((seen f u).fn-of) (functions-map f ps r (fn_of u)))
  by-kind (struct n as' fs) u = gives (rw ((seen f u).struct-of) (structs-map ν μ f keeps n as' (struct_of u)))
  by-kind (list t) u = gives (rw ((seen f u).list-of) (lists-map f t (list_of u)))

  or-try : (o : Option (Step N)) (g : Got (Step N)) (h : Got (Step M)) → Over (map_step f) g h
      → Over (map_step f) (orTry o g) (orTry (mapOption (map_step f) o) h)
  or-try none g h r = r
  or-try (some s) g h r = gives refl

  pub try-map : (c : Con N) → Over (map_step f) (trySatisfy ν l c) (trySatisfy μ l (mapCon f c))
  unfolding trySatisfy mapCon mapTy
  try-map (equal s t) = rw (first-rules ν μ f keeps s t) (or-try (firstRules ν s t) (by_kind ν l s t) (by_kind μ l (mapTy f s) (mapTy f t)) (by-kind s t))
  try-map (isDim t) = gives (rw ((seen f t).product-of) (dimension-parts f (productOf t)))
  try-map (is_scalar []) = gives refl
  try-map (is_scalar (free (var x) ↑ k ∷ p)) = next (each_over (mapFactor f) (mapFactor f) (otherSide l k) (otherSide l k) (other-side f l k) p)
      (λ q q' i. gives (rw i))
  try-map (is_scalar (free (quant i) ↑ k ∷ p)) = gives refl
  try-map (is_scalar (free (par x) ↑ k ∷ p)) = gives refl
  try-map (is_scalar (base n ↑ k ∷ p)) = gives refl
  try-map (hasField n s t) = gives (rw (field_step ν μ f keeps n s t) (get_d_map (map_step f) (fieldStep ν n s t) stuck))

  -- ══ A round ══

  first-map : (cs : List (Con N)) → Over (mapOption (mapTaken f)) (firstStep ν l cs) (firstStep μ l (map (mapCon f) cs))
  unfolding firstStep
  first-map [] = gives refl
  first-map (c ∷ cs) = next (try-map c) (λ s s' i. rw i (taken-map f s c cs (λ _. firstStep ν l cs) (λ _. firstStep μ l (map (mapCon f) cs)) (first-map cs)))

  bound_map : (x : N) (t : Ty N) (o : Open N) → bindings μ (f x ≔ mapTy f t ∷ []) (mapOpen f o) ≡ mapOption (mapTy f) (bindings ν (x ≔ t ∷ []) o)
  unfolding mapBinding
  bound_map x t o = looks-map ν μ f keeps (x ≔ t ∷ []) o

  appended : (b : List (Binding N)) (x : N) (t : Ty N) → map (mapBinding f) b ++ (f x ≔ mapTy f t ∷ []) ≡ map (mapBinding f) (b ++ (x ≔ t ∷ []))
  unfolding mapBinding
  appended b x t = rw map-append

  perform-map : (bs : List (Binding N)) (s : Step N) (cs : List (Con N))
      → Over (mapState f) (perform ν l bs s cs) (perform μ l (map (mapBinding f) bs) (map_step f s) (map (mapCon f) cs))
  unfolding perform
  perform-map bs (bind x t) cs =
      next (each_over (mapCon f) (mapCon f) _ _ (con-map ν μ f keeps l (bindings ν (x ≔ t ∷ [])) (bindings μ (f x ≔ mapTy f t ∷ [])) (bound_map x t))
      cs) (λ c c' i. rw i
      (next (each_over (mapBinding f) (mapBinding f) _ _
      (binding-map ν μ f keeps l (bindings ν (x ≔ t ∷ [])) (bindings μ (f x ≔ mapTy f t ∷ [])) (bound_map x t)) bs)
      (λ b b' j. rw (j, appended b x t)
      (limited-map f l (record { cons = c; binds = b ++ (x ≔ t ∷ []) })))))
  perform-map bs (split new) cs = rw (← map-append (mapCon f) cs new) (limited-map f l (record { cons = cs ++ new; binds = bs }))
  perform-map bs done cs = limited-map f l (record { cons = cs; binds = bs })
  perform-map bs stuck cs = gives refl

  performed-map : (bs : List (Binding N)) (o : Option (Step N × List (Con N)))
      → Over (mapOption (mapState f)) (performed ν l bs o) (performed μ l (map (mapBinding f) bs) (mapOption (mapTaken f) o))
  unfolding performed
  performed-map bs none = gives refl
  performed-map bs (some v) = next (perform-map bs v.0 v.1) (λ s s' i. gives (rw i))

  pub round-map : (s : State N) → Over (mapOption (mapState f)) (round ν l s) (round μ l (mapState f s))
  unfolding round
  round-map s = next (first-map s.cons) (λ v v' i. rw i (performed-map s.binds v))
