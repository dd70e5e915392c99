-- What follows from the definitions of specs/Nesting: what a rule puts in the place of a constraint, or binds, is nested no deeper than the constraint: so
-- only a binding that is put in makes a state deeper.
use Rattle.std.specs.Prelude.{◌≡◌, Bool, true, false, ◌++◌, ℕ, ◌+◌, ◌≤◌, max, leb}
use Rattle.std.proofs.Math.Path.{refl, ap}
use Rattle.std.proofs.Common.{sym, inl, inr, arith, le-leb}
use Rattle.std.proofs.Math.Option.{Option, none, some, get_or}
use mathlib.Core.List.{List, [], ◌∷◌, Memᴰ}
use Rattle.rules.specs.Base.{Got, got, allow, Limits, bounded, exact, refused, ◌>>=◌, is_yes, each, max_of}
use Rattle.rules.specs.Contents.{fieldIn}
use Rattle.rules.specs.Products.{single}
use Rattle.rules.specs.Replacing.{Look, replaceProduct, replaceDim, replaceTy, replaceTys, replaceFields, replaceCon, replaceBinding, find, bindings}
use Rattle.rules.specs.Rounds.{Step, bind, split, done, State, pairs, trySatisfy, sizeState, depthState, limited, firstStep, perform}
use Rattle.rules.specs.Trees.{
  Open,
  var,
  quant,
  par,
  Product,
  Names,
  Ty,
  opened,
  basic,
  dim,
  fn,
  struct,
  list,
  Tys,
  nil,
  cons,
  Fields,
  noFields,
  field,
  Con,
  equal,
  isDim,
  is_scalar,
  hasField,
  Binding,
  ◌≔◌,
  depth,
  depthTys,
  depthFields,
  depthCon,
  depthBinding,
}
use Rattle.laws.specs.Lists.{Every, All, all-every}
use Rattle.laws.proofs.Lists.{alone, some≢none, every_append, every-all, every-as}
use Rattle.laws.specs.RuleCases.{parts}
use Rattle.laws.proofs.RuleCases.{
  Sides,
  Rule,
  none-applies,
  equal-records,
  binds,
  two-functions,
  two-lists,
  two-structs,
  as-product,
  two-dimensions,
  dimension,
  no-factor,
  first-factor,
  closed-struct,
  part_of,
  rule,
}
use Rattle.laws.proofs.Value.{Gives, gives, next, its_own}
use Rattle.laws.proofs.Turns.{found}
use Rattle.laws.specs.Nesting.{Within, Shallow, counting}

-- ══ The greatest of a list ══

module _ {A : Type 0} (f : A → ℕ) where
  pub most : (xs : List A) (d : ℕ) → Every (λ x. f x ≤ d) xs → max_of f xs ≤ d
  most [] d h = omega arith
  most (x ∷ xs) d h = let k = most xs d h.1 in omega (arith, h.0)

  pub max_both : (xs ys : List A) → max_of f (xs ++ ys) ≡ max (max_of f xs) (max_of f ys)
  max_both [] ys = omega arith
  max_both (x ∷ xs) ys = omega (arith, max_both xs ys)

  pub each_below : (xs : List A) (d : ℕ) → max_of f xs ≤ d → Every (λ x. f x ≤ d) xs
  each_below [] d h = tt
  each_below (x ∷ xs) d h = (omega arith, each_below xs d (omega arith))

-- ══ A rule ══

module _ {N : Type 0} where
  pairs-within : (d : ℕ) (ts us : Tys N) → depthTys ts ≤ d → depthTys us ≤ d → Within d (pairs ts us)
  unfolding pairs depth depthCon
  pairs-within d nil us h k = tt
  pairs-within d (cons t ts) nil h k = tt
  pairs-within d (cons t ts) (cons u us) h k = (omega arith, pairs-within d ts us (omega arith) (omega arith))

  field-within : (ν : Names N) (n : N) (fs : Fields N) (u : Ty N) → fieldIn ν n fs ≡ some u → depth u ≤ depthFields fs
  unfolding fieldIn depth
  field-within ν n noFields u e = absurd (some≢none (sym e))
  field-within ν n (field m t fs) u e = go (is_yes (ν.same n m)) refl (field-within ν n fs u)
    where
      go : (b : Bool) → is_yes (ν.same n m) ≡ b → (fieldIn ν n fs ≡ some u → depth u ≤ depthFields fs) → depth u ≤ max (depth t) (depthFields fs)
      go true i r = let z : some t ≡ some u = rw (i, fieldIn) at e in let y : t ≡ u = cc in rw (sym y) (omega arith)
      go false i r = let z = r (rw (i, fieldIn) at e) in omega arith

  sides-within : (c : Con N) (side t : Ty N) → Sides c side t → depth t ≤ depthCon c
  unfolding depthCon
  sides-within c side t (inl i) = rw i (omega arith)
  sides-within c side t (inr i) = rw i (omega arith)

module _ {N : Type 0} (ν : Names N) (l : Limits) where
  pub rule-within : (c : Con N) (s : Step N) → Rule ν l c s → Shallow (depthCon c) s
  unfolding depthCon depth
  rule-within c s (none-applies e) = rw e tt
  rule-within c s (equal-records t i e) = rw e tt
  rule-within c s (binds x side t i r n e) = rw e (sides-within c side t i)
  rule-within c s (two-functions ps qs r q n i e) =
      let h : depthCon c ≡ max (depth (fn ps r)) (depth (fn qs q)) = ap depthCon i in
      rw e (omega (arith, h), pairs-within (depthCon c) ps qs (omega (arith, h)) (omega (arith, h)))
  rule-within c s (two-lists t u i e) = let h : depthCon c ≡ max (depth (list t)) (depth (list u)) = ap depthCon i in rw e (omega (arith, h), tt)
  rule-within c s (two-structs n as' bs fs gs k i e) =
      let h : depthCon c ≡ max (depth (struct n as' fs)) (depth (struct n bs gs)) = ap depthCon i in
      rw e (pairs-within (depthCon c) as' bs (omega (arith, h)) (omega (arith, h)))
  rule-within c s (as-product x d i m e) = let h : 1 ≤ depthCon c = sides-within c (opened (var x)) (dim d) i in rw e (omega (arith, h), tt)
  rule-within c s (two-dimensions d e q k i j) = let h : depthCon c ≡ 1 = ap depthCon i in rw j (omega (arith, h), tt)
  rule-within c s (dimension p i e) =
      let h : depthCon c ≡ 1 = ap depthCon i in
      rw e (all-every (λ d. depthCon d ≤ depthCon c) (parts p) (λ d m. let o = part_of p d m in rw o.1 (omega (arith, h))))
  rule-within c s (no-factor i e) = rw e tt
  rule-within c s (first-factor x k p q n i e) = let h : depthCon c ≡ 1 = ap depthCon i in rw e (omega (arith, h))
  rule-within c s (closed-struct n m as' fs t u o f i e) =
      let k = field-within ν n fs u f in
      let h : depthCon c ≡ max (depth (struct m as' fs)) (depth t) = ap depthCon i in
      rw e (omega (arith, h, k), tt)

  -- what a step puts in the place of a constraint, or binds, is nested no deeper than the constraint
  pub step-within : (c : Con N) (s : Step N) → trySatisfy ν l c ≡ got s → Shallow (depthCon c) s
  step-within c s e = rule-within c s (rule ν l c s e)

-- ══ Replacing ══

-- the types that are put in are nested at most 1 + k deep: then nothing that is made is more than k deeper
module _ {N : Type 0} (ν : Names N) (l : Limits) (look : Look N) (k : ℕ) (low : (o : Open N) (t : Ty N) → look o ≡ some t → depth t ≤ 1 + k) where
  put-deep : (m : Option (Ty N)) (t : Ty N) → depth t ≡ 1 → ((u : Ty N) → m ≡ some u → depth u ≤ 1 + k) → depth (get_or m t) ≤ 1 + k
  put-deep none t e f = omega (arith, e)
  put-deep (some u) t e f = f u refl

  dim_deep : (m : Option (Open N)) (p : Product N) → Gives (replaceDim ν l look m p) (λ u. depth u ≤ 1 + k)
  unfolding replaceDim depth
  dim_deep (some o) p = gives (put-deep (look o) (dim p) refl (low o))
  dim_deep none p = next (its_own (replaceProduct ν l look p)) (λ r h. gives (omega arith))

  mutual
    unfolding replaceTy depth

    pub ty-deep : (t : Ty N) → Gives (replaceTy ν l look t) (λ u. depth u ≤ depth t + k)
    ty-deep (opened o) = gives (put-deep (look o) (opened o) refl (low o))
    ty-deep (basic b) = gives (omega arith)
    ty-deep (dim p) = dim_deep (single p) p
    ty-deep (fn ps r) = next (tys_deep ps) (λ qs i. next (ty-deep r) (λ u j. gives (omega arith)))
    ty-deep (struct n as' fs) = next (tys_deep as') (λ qs i. next (fields_deep fs) (λ gs j. gives (omega arith)))
    ty-deep (list t) = next (ty-deep t) (λ u i. gives (omega arith))

    tys_deep : (ts : Tys N) → Gives (replaceTys ν l look ts) (λ us. depthTys us ≤ depthTys ts + k)
    tys_deep nil = gives (omega arith)
    tys_deep (cons t ts) = next (ty-deep t) (λ u i. next (tys_deep ts) (λ us j. gives (omega arith)))

    fields_deep : (fs : Fields N) → Gives (replaceFields ν l look fs) (λ gs. depthFields gs ≤ depthFields fs + k)
    fields_deep noFields = gives (omega arith)
    fields_deep (field n t fs) = next (ty-deep t) (λ u i. next (fields_deep fs) (λ gs j. gives (omega arith)))

  pub con-deep : (c : Con N) → Gives (replaceCon ν l look c) (λ d. depthCon d ≤ depthCon c + k)
  unfolding replaceCon depthCon
  con-deep (equal s t) = next (ty-deep s) (λ u i. next (ty-deep t) (λ v j. gives (omega arith)))
  con-deep (isDim t) = next (ty-deep t) (λ u i. gives (omega arith))
  con-deep (is_scalar p) = next (its_own (replaceProduct ν l look p)) (λ r h. gives (omega arith))
  con-deep (hasField n s t) = next (ty-deep s) (λ u i. next (ty-deep t) (λ v j. gives (omega arith)))

  pub binding-deep : (b : Binding N) → Gives (replaceBinding ν l look b) (λ c. depthBinding c ≤ depthBinding b + k)
  unfolding replaceBinding depthBinding
  binding-deep (x ≔ t) = next (ty-deep t) (λ u i. gives (omega arith))

each-deep : {A : Type 0} (f : A → Got A) (deep : A → ℕ) (k : ℕ) → ((a : A) → Gives (f a) (λ b. deep b ≤ deep a + k)) → (xs : List A)
    → Gives (each f xs) (λ ys. max_of deep ys ≤ max_of deep xs + k)
unfolding each
each-deep f deep k h [] = gives (omega arith)
each-deep f deep k h (x ∷ xs) = next (h x) (λ y i. next (each-deep f deep k h xs) (λ ys j. gives (omega arith)))

-- a variable bound to a type nested at most 1 + k deep
module _ {N : Type 0} (ν : Names N) (l : Limits) (x : N) (t : Ty N) (k : ℕ) (low : depth t ≤ 1 + k) where
  found-deep : (o : Open N) (u : Ty N) → bindings ν (x ≔ t ∷ []) o ≡ some u → depth u ≤ 1 + k
  unfolding bindings find
  found-deep (var y) u e = go (is_yes (ν.same y x)) refl
    where
      go : (b : Bool) → is_yes (ν.same y x) ≡ b → depth u ≤ 1 + k
      go true i = let z : some t ≡ some u = rw (i, find) at e in let q : t ≡ u = cc in rw (sym q) low
      go false i = let z : none ≡ some u = rw (i, find) at e in absurd (some≢none (sym z))
  found-deep (quant i) u e = absurd (some≢none (sym e))
  found-deep (par y) u e = absurd (some≢none (sym e))

  pub cons-deep : (cs : List (Con N)) → Gives (each (replaceCon ν l (bindings ν (x ≔ t ∷ []))) cs) (λ ds. max_of depthCon ds ≤ max_of depthCon cs + k)
  cons-deep cs = each-deep (replaceCon ν l (bindings ν (x ≔ t ∷ []))) depthCon k (con-deep ν l (bindings ν (x ≔ t ∷ [])) k found-deep) cs

  pub bindings-deep : (bs : List (Binding N))
      → Gives (each (replaceBinding ν l (bindings ν (x ≔ t ∷ []))) bs) (λ cs. max_of depthBinding cs ≤ max_of depthBinding bs + k)
  bindings-deep bs = each-deep (replaceBinding ν l (bindings ν (x ≔ t ∷ []))) depthBinding k (binding-deep ν l (bindings ν (x ≔ t ∷ [])) k found-deep) bs

-- ══ A round ══

same-given : {A B : Type 0} (m : Got A) (f g : A → Got B) → ((a : A) → m ≡ got a → f a ≡ g a) → (m >>= f) ≡ (m >>= g)
same-given (got a) f g h = h a refl
same-given (refused n) f g h = refl

module _ {N : Type 0} where
  pub counted : (l : Limits) (s : State N) → depthState s ≤ 64 → limited l s ≡ counting l s
  unfolding limited
  counted exact s h = refl
  counted bounded s h = rw (le-leb (depthState s) 64 h) (alone (allow (leb (sizeState s) 2048) 8 s))

module _ {N : Type 0} (ν : Names N) (l : Limits) (s : State N) (flat : depthState s ≤ 64) where
  con-flat : (c : Con N) → Memᴰ c s.cons → depthCon c ≤ 64
  unfolding depthState
  con-flat c m = every-all (λ c. depthCon c ≤ 64) s.cons (each_below depthCon s.cons 64 (omega (arith, flat))) c m

  rest-flat : (rest : List (Con N)) → All (λ c. Memᴰ c s.cons) rest → Within 64 rest
  rest-flat rest h = all-every (λ c. depthCon c ≤ 64) rest (λ c m. con-flat c (h c m))

  -- after a split, and where a constraint is taken away, the count of records alone can break the limits
  pub split-counted : (new rest : List (Con N)) → firstStep ν l s.cons ≡ got (some (split new, rest))
      → perform ν l s.binds (split new) rest ≡ counting l (record { cons = rest ++ new; binds = s.binds })
  unfolding perform depthState
  split-counted new rest e =
      let f = found ν l s.cons (split new, rest) e in
      let k = con-flat f.con f.given in
      let w = every-as {P = λ c. depthCon c ≤ depthCon f.con} {Q = λ c. depthCon c ≤ 64} (λ c h. omega (arith, h, k)) new
      (step-within ν l f.con (split new) f.tried) in
      let d = most depthCon (rest ++ new) 64 (every_append (λ c. depthCon c ≤ 64) rest new (rest-flat rest f.kept) w) in
      counted l (record { cons = rest ++ new; binds = s.binds }) (omega (arith, flat, d))

  pub done-counted : (rest : List (Con N)) → firstStep ν l s.cons ≡ got (some (done, rest))
      → perform ν l s.binds done rest ≡ counting l (record { cons = rest; binds = s.binds })
  unfolding perform depthState
  done-counted rest e =
      let f = found ν l s.cons (done, rest) e in
      let d = most depthCon rest 64 (rest-flat rest f.kept) in
      counted l (record { cons = rest; binds = s.binds }) (omega (arith, flat, d))

  -- and after a binding to a type nested 1 deep: a variable, a parameter, a basic type, a dimension
  pub bound-counted : (x : N) (t : Ty N) (rest : List (Con N)) → depth t ≤ 1 → firstStep ν l s.cons ≡ got (some (bind x t, rest))
      → perform ν l s.binds (bind x t) rest
      ≡ (each (replaceCon ν l (bindings ν (x ≔ t ∷ []))) rest >>= λ cs. each (replaceBinding ν l (bindings ν (x ≔ t ∷ []))) s.binds
      >>= λ bs. counting l (record { cons = cs; binds = bs ++ (x ≔ t ∷ []) }))
  unfolding perform depthState depthBinding
  bound-counted x t rest low e =
      let f = found ν l s.cons (bind x t, rest) e in
      let r = most depthCon rest 64 (rest-flat rest f.kept) in
      same-given (each (replaceCon ν l (bindings ν (x ≔ t ∷ []))) rest)
      (λ cs. each (replaceBinding ν l (bindings ν (x ≔ t ∷ []))) s.binds >>= λ bs. limited l (record { cons = cs; binds = bs ++ (x ≔ t ∷ []) }))
      (λ cs. each (replaceBinding ν l (bindings ν (x ≔ t ∷ []))) s.binds >>= λ bs. counting l (record { cons = cs; binds = bs ++ (x ≔ t ∷ []) }))
      (λ cs i.
      same-given (each (replaceBinding ν l (bindings ν (x ≔ t ∷ []))) s.binds) (λ bs. limited l (record { cons = cs; binds = bs ++ (x ≔ t ∷ []) }))
      (λ bs. counting l (record { cons = cs; binds = bs ++ (x ≔ t ∷ []) })) (λ bs j.
      let u = (cons-deep ν l x t 0 low rest).holds cs i in
      let v = (bindings-deep ν l x t 0 low s.binds).holds bs j in
      let w = max_both depthBinding bs (x ≔ t ∷ []) in
      counted l (record { cons = cs; binds = bs ++ (x ≔ t ∷ []) }) (omega (arith, flat, r, u, v, w, low))))
