-- A line with other names in it, lent ones too: the same answer with other names in it, where the order of names is kept (the law of offices).
use Rattle.std.specs.Prelude.{◌≡◌, Bool, ◌&&◌}
use Rattle.std.proofs.Math.Path.{refl, ap, sym}
use Rattle.std.proofs.Common.{ap₂, ◌∙◌}
use Rattle.std.proofs.Math.Bool.{true, false}
use Rattle.std.proofs.Math.Option.{Option, none, some}
use mathlib.Core.List.{List, [], ◌∷◌, ◌++◌, map, map-append}
use Prim.Native.Nat.{ℕ, suc, ◌-◌, Ordering}
use Rattle.std.proofs.Math.Dec.{leb}
use Rattle.rules.specs.Base.{Got, got, refused, ◌>>=◌, need, orRefuse, bounded, collect, sum_of}
use Rattle.rules.specs.Exponents.{Exp, one, neg, isZero}
use Rattle.rules.specs.Trees.{
  var,
  free,
  base,
  Factor,
  ◌↑◌,
  Names,
  Ty,
  opened,
  basic,
  dim,
  fn,
  struct,
  list,
  Tys,
  nil,
  cons,
  Fields,
  noFields,
  field,
  Con,
  Binding,
  opensCon,
  sizeCon,
}
use Rattle.rules.specs.Contents.{unmixed}
use Rattle.rules.specs.Products.{put}
use Rattle.rules.specs.Replacing.{bindings}
use Rattle.rules.specs.Solving.{Answer, accepted, remaining, stopped, solve}
use Rattle.rules.specs.Judging.{judge}
use Rattle.rules.specs.Offices.{Keeps, mapOpen, mapFactor, mapTy, map_tys, mapFields, mapCon, mapBinding, mapAnswer, mapOption}
use Rattle.theorems_offices.proofs.Over.{Over, next, gives, collect-over}
use Rattle.theorems_offices.proofs.Sizes.{opens-con, size-cons}
use Rattle.theorems_offices.proofs.Contents.{name-map, unmixed-map}
use Rattle.theorems_offices.proofs.Replacing.{ty-map, looks-map}
use Rattle.theorems_offices.proofs.Solving.{solve-map}
use Rattle.theorems_offices.proofs.Judging.{judge-map}
use Rattle.rules.specs.Steps.{
  adds,
  subtracts,
  multiplies,
  divides,
  compares,
  LineStep,
  constant,
  reference,
  raises,
  joins,
  chooses,
  Deed,
  gives as given,
  raised,
  joined,
  chosen,
  operands,
  takes,
  whole,
}
use Rattle.rules.specs.Lines.{
  its,
  twoFactors,
  issuedByTwo,
  issued,
  constraints,
  last_of,
  settled,
  agreed,
  settledSet,
  agreedSet,
  lineType,
  namesOfFactor,
  namesOfTy,
  namesOfTys,
  namesOfFields,
  namesOfStep,
}

module _ {N M : Type 0} (f : N → M) where
  -- ══ Steps, and the stack ══

  abbrev pub map_step : LineStep N → LineStep M
  map_step (constant t) = constant (mapTy f t)
  map_step (reference t) = reference (mapTy f t)
  map_step (raises e) = raises e
  map_step (joins o) = joins o
  map_step chooses = chooses

  abbrev mapDeed : Deed N N → Deed M M
  mapDeed (given t) = given (mapTy f t)
  mapDeed (raised e x) = raised e (f x)
  mapDeed (joined o l r) = joined o (f l) (f r)
  mapDeed (chosen c l r) = chosen (f c) (f l) (f r)

  takes-map : (s : LineStep N) (st : List N) → takes (map_step s) (map f st) ≡ mapOption (λ d. (mapDeed d.0, map f d.1)) (takes s st)
  unfolding takes
  takes-map (constant t) st = refl
  takes-map (reference t) st = refl
  takes-map (raises e) [] = refl
  takes-map (raises e) (x ∷ st) = refl
  takes-map (joins o) [] = refl
  takes-map (joins o) (r ∷ []) = refl
  takes-map (joins o) (r ∷ l ∷ st) = refl
  takes-map chooses [] = refl
  takes-map chooses (r ∷ []) = refl
  takes-map chooses (r ∷ l ∷ []) = refl
  takes-map chooses (r ∷ l ∷ c ∷ st) = refl

  operands-map : (s : LineStep N) → operands (map_step s) ≡ operands s
  operands-map (constant t) = refl
  operands-map (reference t) = refl
  operands-map (raises e) = refl
  operands-map (joins o) = refl
  operands-map chooses = refl

  pub whole-map : (n : ℕ) (ss : List (LineStep N)) → whole n (map map_step ss) ≡ whole n ss
  unfolding whole
  whole-map n [] = refl
  whole-map n (s ∷ ss) = rw (operands-map s) (ap (λ (b : Bool). leb (operands s) n && b) (whole-map (suc (n - operands s)) ss))

  last-map : (vs : List N) (ss : List (LineStep N)) → last_of (map f vs) (map map_step ss) ≡ mapOption f (last_of vs ss)
  unfolding last_of
  last-map vs [] = refl
  last-map [] (s ∷ ss) = refl
  last-map (v ∷ vs) (s ∷ []) = refl
  last-map (v ∷ vs) (s ∷ s' ∷ ss) = last-map vs (s' ∷ ss)

  -- ══ The names of types ══

  factor-names : (a : Factor N) → namesOfFactor (mapFactor f a) ≡ map f (namesOfFactor a)
  factor-names (free o ↑ e) = name-map f o
  factor-names (base n ↑ e) = refl

  mutual
    unfolding namesOfTy mapTy

    ty-names : (t : Ty N) → namesOfTy (mapTy f t) ≡ map f (namesOfTy t)
    ty-names (opened o) = name-map f o
    ty-names (basic b) = refl
    ty-names (dim p) = collect-over (mapFactor f) f namesOfFactor namesOfFactor factor-names p
    ty-names (fn ps r) = rw (tys-names ps, ty-names r, map-append)
    ty-names (struct n as' fs) = rw (tys-names as', fields-names fs, map-append f (namesOfTys as'))
    ty-names (list t) = ty-names t

    tys-names : (ts : Tys N) → namesOfTys (map_tys f ts) ≡ map f (namesOfTys ts)
    tys-names nil = refl
    tys-names (cons t ts) = rw (ty-names t, tys-names ts, map-append)

    fields-names : (fs : Fields N) → namesOfFields (mapFields f fs) ≡ map f (namesOfFields fs)
    fields-names noFields = refl
    fields-names (field n t fs) = rw (ty-names t, fields-names fs, map-append f (namesOfTy t))

  pub step-names : (s : LineStep N) → namesOfStep (map_step s) ≡ map f (namesOfStep s)
  unfolding namesOfStep
  step-names (constant t) = ty-names t
  step-names (reference t) = ty-names t
  step-names (raises e) = refl
  step-names (joins o) = refl
  step-names chooses = refl

-- ══ The constraints, and the answer ══

module _ {N M : Type 0} (ν : Names N) (μ : Names M) (f : N → M) (keeps : Keeps ν μ f) where
  two-map : (l r : N) (e : Exp) → twoFactors μ (f l) (f r) e ≡ map (mapFactor f) (twoFactors ν l r e)
  unfolding twoFactors
  two-map l r e = go (ν.order l r) refl
    where
      go : (o : Ordering) → ν.order l r ≡ o → twoFactors μ (f l) (f r) e ≡ map (mapFactor f) (twoFactors ν l r e)
      go Ordering.lt i = rw (keeps.ordered l r ∙ i, i, twoFactors)
      go Ordering.eq i = rw (keeps.ordered l r ∙ i, i, twoFactors)
      go Ordering.gt i = rw (keeps.ordered l r ∙ i, i, twoFactors)

  put_map : (x : N) (e : Exp) → put (free (var (f x))) e [] ≡ map (mapFactor f) (put (free (var x)) e [])
  put_map x e = go (isZero e) refl
    where
      go : (z : Bool) → isZero e ≡ z → put (free (var (f x))) e [] ≡ map (mapFactor f) (put (free (var x)) e [])
      go true i = rw (i, put)
      go false i = rw (i, put)

  issued-map : (v : N) (d : Deed N N) → issued μ (f v) (mapDeed f d) ≡ map (mapCon f) (issued ν v d)
  unfolding issued issuedByTwo mapCon mapTy
  issued-map v (given t) = refl
  issued-map v (raised e x) = rw (put_map x e)
  issued-map v (joined adds l r) = refl
  issued-map v (joined subtracts l r) = refl
  issued-map v (joined multiplies l r) = rw (two-map l r one)
  issued-map v (joined divides l r) = rw (two-map l r (neg one))
  issued-map v (joined compares l r) = refl
  issued-map v (chosen c l r) = refl

  constraints-map : (ss : List (LineStep N)) (vs st : List N)
      → constraints μ (map f vs) (map f st) (map (map_step f) ss) ≡ map (mapCon f) (constraints ν vs st ss)
  unfolding constraints
  constraints-map [] vs st = refl
  constraints-map (s ∷ ss) [] st = refl
  constraints-map (s ∷ ss) (v ∷ vs) st = go (takes s st) refl (λ rest. constraints-map ss vs (v ∷ rest))
    where
      go : (d : Option (Deed N N × List N)) → takes s st ≡ d
          → ((rest : List N) → constraints μ (map f vs) (map f (v ∷ rest)) (map (map_step f) ss) ≡ map (mapCon f) (constraints ν vs (v ∷ rest) ss))
          → constraints μ (map f (v ∷ vs)) (map f st) (map (map_step f) (s ∷ ss)) ≡ map (mapCon f) (constraints ν (v ∷ vs) st (s ∷ ss))
      go none e more = rw (takes-map f s st ∙ ap (mapOption (λ d. (mapDeed f d.0, map f d.1))) e, e, constraints)
      go (some d) e more = rw (takes-map f s st ∙ ap (mapOption (λ d. (mapDeed f d.0, map f d.1))) e, e, constraints)
          (ap₂ (λ (xs ys : List (Con M)). xs ++ ys) (issued-map v d.0) (more d.1)
          ∙ sym (map-append (mapCon f) (issued ν v d.0) (constraints ν vs (v ∷ d.1) ss)))

  -- ══ The set, solved and judged ══

  -- bindings and bounds with other names in them
  abbrev mapFound : List (Binding N) × List N → List (Binding M) × List M
  mapFound g = (map (mapBinding f) g.0, map f g.1)

  settled-map : (a : Answer N) → Over mapFound (settled a) (settled (mapAnswer f a))
  unfolding settled mapAnswer
  settled-map (accepted bs ns k) = gives refl
  settled-map (remaining cs k) = record { is = refl }
  settled-map (stopped n k) = record { is = refl }

  set-map : (cs : List (Con N)) → Over mapFound (settledSet ν cs) (settledSet μ (map (mapCon f) cs))
  unfolding settledSet
  set-map cs =
      rw (
        size-cons f cs,
        collect-over (mapCon f) (mapOpen f) opensCon opensCon (opens-con f) cs,
        unmixed-map ν μ f keeps (collect opensCon cs),
        solve-map ν μ f keeps bounded cs,
      )
      (go (leb (sum_of sizeCon cs) 2048) (unmixed ν (collect opensCon cs)))
    where
      go : (b c : Bool) → Over mapFound (need b 8 >>= λ _. need c 4 >>= λ _. settled (solve ν bounded cs))
          (need b 8 >>= λ _. need c 4 >>= λ _. settled (mapAnswer f (solve ν bounded cs)))
      go false c = record { is = refl }
      go true false = record { is = refl }
      go true true = settled-map (solve ν bounded cs)

  agreed-map : (cs : List (Con N)) → Over (map (mapBinding f)) (agreedSet ν cs) (agreedSet μ (map (mapCon f) cs))
  unfolding agreedSet
  agreed-map cs = next (set-map cs) (λ g h i. rw (i, judge-map ν μ f keeps bounded g.0 g.1 cs) (go (agreed (judge ν bounded g.0 g.1 cs)) g.0))
    where
      go : (m : Got (Unit {0})) (bs : List (Binding N)) → Over (map (mapBinding f)) (m >>= λ _. got bs) (m >>= λ _. got (map (mapBinding f) bs))
      go (got u) bs = gives refl
      go (refused n) bs = record { is = refl }

  last-over : (vs : List N) (ss : List (LineStep N)) → Over f (orRefuse 1 (last_of vs ss)) (orRefuse 1 (last_of (map f vs) (map (map_step f) ss)))
  last-over vs ss = rw (last-map f vs ss) (go (last_of vs ss))
    where
      go : (o : Option N) → Over f (orRefuse 1 o) (orRefuse 1 (mapOption f o))
      go none = record { is = refl }
      go (some x) = gives refl

  pub type-map : (ss : List (LineStep N)) (names : List N) → Over (mapTy f) (lineType ν ss names) (lineType μ (map (map_step f) ss) (map f names))
  unfolding lineType mapTy
  type-map ss names =
      rw (constraints-map ss names [])
      (next (agreed-map (constraints ν names [] ss))
      (λ bs bs' i. next (last-over names ss)
      (λ v v' j. rw (i, j) (ty-map ν μ f keeps bounded (bindings ν bs) (bindings μ (map (mapBinding f) bs)) (looks-map ν μ f keeps bs) (its v)))))
