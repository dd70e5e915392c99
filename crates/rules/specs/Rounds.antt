-- Which rule applies to a constraint, and one round.
use Rattle.std.specs.Prelude.{true, false, not, ◌&&◌, List, [], ◌∷◌, ◌++◌, map, ℕ, ◌+◌, max, eqb}
use Rattle.std.proofs.Math.Option.{Option, none, some, get_or}
use Rattle.rules.specs.Base.{Got, got, ◌>>=◌, Limits, sized, is_yes, ◌or_else◌, only_if, and_then, each, collect, sum_of, max_of}
use Rattle.rules.specs.Exponents.{Exp, neg, quotient}
use Rattle.rules.specs.Trees.{
  var,
  quant,
  par,
  free,
  base,
  Factor,
  ◌↑◌,
  Product,
  Names,
  Ty,
  opened,
  basic,
  dim,
  fn,
  struct,
  list,
  Tys,
  nil,
  cons,
  Fields,
  Con,
  equal,
  isDim,
  is_scalar,
  hasField,
  Binding,
  ◌≔◌,
  ty-dec,
  count,
  openOfFactor,
  sizeCon,
  depthCon,
  sizeBinding,
  depthBinding,
}
use Rattle.rules.specs.Views.{productOf, fn_of, struct_of, list_of, variable, asVar, asPower}
use Rattle.rules.specs.Contents.{closed, contains, fieldIn, namesIn}
use Rattle.rules.specs.Products.{just, divide}
use Rattle.rules.specs.Replacing.{replaceCon, replaceBinding, bindings}

-- what a rule does with a constraint: bind a variable, put others in its place, take it away, or no rule applies
pub data Step (N : Type 0) : Type 0 where
  bind : N → Ty N → Step N
  split : List (Con N) → Step N
  done : Step N
  stuck : Step N

-- the constraints and the bindings, in their order
pub record State (N : Type 0) : Type 0 where
  pub cons : List (Con N)
  pub binds : List (Binding N)

-- ══ Equal: the first rule that fits ══

module _ {N : Type 0} where
  -- types pairwise, in order
  unfoldable pub pairs : Tys N → Tys N → List (Con N)
  pairs nil us = []
  pairs (cons t ts) nil = []
  pairs (cons t ts) (cons u us) = equal t u ∷ pairs ts us

  -- 7: 'the variable as a product, first, equal to that dimension'
  unfoldable pub asProducts : Option N → Product N → Step N
  asProducts none d = stuck
  asProducts (some x) d = split (equal (dim (just (var x))) (dim d) ∷ [])

  -- 7, with the variable on the left
  unfoldable pub variableLeft : Option N → Option (Product N) → Step N
  variableLeft x none = stuck
  variableLeft x (some d) = asProducts x d

  -- 4: functions of equal count: returns, then parameters
  unfoldable pub functions : Tys N → Ty N → Option (Tys N × Ty N) → Step N
  functions ps r none = stuck
  functions ps r (some f) = elim (eqb (count ps) (count f.0)) [ true ↦ split (equal r f.1 ∷ pairs ps f.0) | false ↦ stuck ]

  -- 5: lists: elements
  unfoldable pub lists : Ty N → Option (Ty N) → Step N
  lists t none = stuck
  lists t (some u) = split (equal t u ∷ [])

module _ {N : Type 0} (ν : Names N) where
  -- 'variable x not contained in the other side: bind x'
  unfoldable pub bindTo : Option N → Ty N → Option (Step N)
  bindTo x t = and_then x (λ y. only_if (not (contains ν y t)) (bind y t))

  -- 1: equal records; 2: left, else right, is a variable; 3: as 2, for the product of a variable to the power 1
  unfoldable pub firstRules : Ty N → Ty N → Option (Step N)
  firstRules l r =
      only_if (is_yes (ty-dec ν l r)) done
      or_else bindTo (asVar l) r
      or_else bindTo (asVar r) l
      or_else bindTo (asPower l) r
      or_else bindTo (asPower r) l

  -- 6: structs of one name and argument count: arguments in order
  unfoldable pub structs : N → Tys N → Option (N × Tys N × Fields N) → Step N
  structs n as' none = stuck
  structs n as' (some s) = elim (is_yes (ν.same n s.0) && eqb (count as') (count s.1)) [ true ↦ split (pairs as' s.1) | false ↦ stuck ]

module _ {N : Type 0} (ν : Names N) (l : Limits) where
  -- 8: 'two dimensions: equal-scalar of left divided by right'; 7, with the variable on the right
  unfoldable pub dimensions : Product N → Option (Product N) → Option N → Got (Step N)
  dimensions d (some e) x = divide ν l d e >>= λ q. got (split (is_scalar q ∷ []))
  dimensions d none x = got (asProducts x d)

  -- the rules 4 to 8, by the kind of the left side
  unfoldable pub by_kind : Ty N → Ty N → Got (Step N)
  by_kind (opened o) u = got (variableLeft (variable o) (productOf u))
  by_kind (basic b) u = got stuck
  by_kind (dim d) u = dimensions d (productOf u) (asVar u)
  by_kind (fn ps r) u = got (functions ps r (fn_of u))
  by_kind (struct n as' fs) u = got (structs ν n as' (struct_of u))
  by_kind (list t) u = got (lists t (list_of u))

-- ══ Every constraint ══

module _ {N : Type 0} where
  abbrev pub orTry : Option (Step N) → Got (Step N) → Got (Step N)
  orTry (some r) g = got r
  orTry none g = g

  -- 'one is-dimension of a variable for each variable or parameter named in it, in stored order'
  unfoldable pub dimensionParts : Option (Product N) → Step N
  dimensionParts none = stuck
  dimensionParts (some p) = split (map (λ x. isDim (opened (var x))) (namesIn (collect openOfFactor p)))

  -- 'the other factors with -j/k for each power j'
  unfoldable pub otherSide : Limits → Exp → Factor N → Got (Factor N)
  otherSide l k (a ↑ j) = quotient l (neg j) k >>= λ e. got (a ↑ e)

module _ {N : Type 0} (ν : Names N) where
  -- 'has-field on a closed struct with that field: stored type equal to the asked type'
  unfoldable pub fieldStep : N → Ty N → Ty N → Option (Step N)
  fieldStep n s t = and_then (only_if (closed s) s) (λ c. and_then (struct_of c) (λ v. and_then (fieldIn ν n v.2) (λ u. some (split (equal u t ∷ [])))))

module _ {N : Type 0} (ν : Names N) (l : Limits) where
  -- what the first rule that fits does
  unfoldable pub trySatisfy : Con N → Got (Step N)
  trySatisfy (equal s t) = orTry (firstRules ν s t) (by_kind ν l s t)
  trySatisfy (isDim t) = got (dimensionParts (productOf t))
  trySatisfy (is_scalar []) = got done
  trySatisfy (is_scalar (free (var x) ↑ k ∷ p)) = each (otherSide l k) p >>= λ q. got (bind x (dim q))
  trySatisfy (is_scalar (free (quant i) ↑ k ∷ p)) = got stuck
  trySatisfy (is_scalar (free (par x) ↑ k ∷ p)) = got stuck
  trySatisfy (is_scalar (base n ↑ k ∷ p)) = got stuck
  trySatisfy (hasField n s t) = got (get_or (fieldStep ν n s t) stuck)

-- ══ A round ══

module _ {N : Type 0} where
  -- a step with the constraints beside it; where no rule applies, the search goes on
  unfoldable pub taken : Step N → Con N → List (Con N) → (Unit {0} → Got (Option (Step N × List (Con N)))) → Got (Option (Step N × List (Con N)))
  taken (bind x t) c cs more = got (some (bind x t, cs))
  taken (split new) c cs more = got (some (split new, cs))
  taken done c cs more = got (some (done, cs))
  taken stuck c cs more = more tt >>= λ r. got (and_then r (λ v. some (v.0, c ∷ v.1)))

  unfoldable pub sizeState : State N → ℕ
  sizeState s = sum_of sizeCon s.cons + sum_of sizeBinding s.binds

  unfoldable pub depthState : State N → ℕ
  depthState s = max (max_of depthCon s.cons) (max_of depthBinding s.binds)

  -- 'constraints and bindings together over 2,048 records, or a type nested over 64, is 8'
  unfoldable pub limited : Limits → State N → Got (State N)
  limited l s = sized l (sizeState s) (depthState s) s

module _ {N : Type 0} (ν : Names N) (l : Limits) where
  -- 'the first constraint to which a rule applies': what the rule does, and the other constraints
  unfoldable pub firstStep : List (Con N) → Got (Option (Step N × List (Con N)))
  firstStep [] = got none
  firstStep (c ∷ cs) = trySatisfy ν l c >>= λ s. taken s c cs (λ _. firstStep cs)

  -- 'appends its new constraints, replaces in all constraints in order, then in all older bindings in order, then appends the new binding'
  unfoldable pub perform : List (Binding N) → Step N → List (Con N) → Got (State N)
  perform bs (bind x t) cs = do
    cs' ← each (replaceCon ν l (bindings ν (x ≔ t ∷ []))) cs
    bs' ← each (replaceBinding ν l (bindings ν (x ≔ t ∷ []))) bs
    limited l (record { cons = cs'; binds = bs' ++ (x ≔ t ∷ []) })
  perform bs (split new) cs = limited l (record { cons = cs ++ new; binds = bs })
  perform bs done cs = limited l (record { cons = cs; binds = bs })
  perform bs stuck cs = got (record { cons = cs; binds = bs })

  unfoldable pub performed : List (Binding N) → Option (Step N × List (Con N)) → Got (Option (State N))
  performed bs none = got none
  performed bs (some v) = perform bs v.0 v.1 >>= λ s'. got (some s')

  -- one round: none where no rule applies
  unfoldable pub round : State N → Got (Option (State N))
  round s = firstStep s.cons >>= λ f. performed s.binds f
