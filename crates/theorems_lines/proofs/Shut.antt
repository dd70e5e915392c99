-- Closed constraints: no rule binds a variable of one, what is put in its place is closed, and replacing leaves it as it is.
use Rattle.std.specs.Prelude.{◌≡◌, ◌⊎◌}
use Rattle.std.proofs.Math.Option.{none}
use Rattle.std.proofs.Common.{inl, inr}
use mathlib.Core.List.Memᴰ
use mathlib.Core.List.{List, [], ◌∷◌, ◌++◌, Memᴰ}
use Rattle.rules.specs.Base.{got, bounded, Limits, collect}
use Rattle.rules.specs.Exponents.{Exp}
use Rattle.rules.specs.Trees.{
  Open,
  var,
  par,
  free,
  ◌↑◌,
  Product,
  Names,
  Ty,
  opened,
  dim,
  fn,
  struct,
  list,
  Tys,
  nil,
  cons,
  Con,
  equal,
  isDim,
  is_scalar,
  hasField,
  opens,
  opensTys,
  opensFields,
  opensCon,
  openOfFactor,
}
use Rattle.rules.specs.Products.{inverse}
use Rattle.rules.specs.Replacing.{Look, replaceTy, replaceCon, replaceProduct}
use Rattle.rules.specs.Rounds.{Step, pairs}
use Rattle.laws.specs.Lists.{All, all_nil, all_cons, in_head, all-every}
use Rattle.laws.proofs.Lists.{all_append}
use Rattle.laws.specs.RuleCases.{After}
use Rattle.laws.proofs.RuleCases.{
  Reads,
  Sides,
  Rule,
  none-applies,
  equal-records,
  binds,
  two-functions,
  two-lists,
  two-structs,
  as-product,
  two-dimensions,
  dimension,
  no-factor,
  first-factor,
  closed-struct,
  part_of,
}
use Rattle.laws.specs.ExactProducts.{mergeE}
use Rattle.laws.proofs.ExactProducts.{divide-value}
use Rattle.laws.proofs.Occurs.{each_opens, opens-each, merge_on, inverse-on, field-occurs}
use Rattle.laws.proofs.Untouched.{Unbound, ty_same, factors-same}

module _ {N : Type 0} where
  -- ══ Closed types and constraints ══

  -- no open name
  abbrev pub Never : Open N → Type 0
  Never o = ⊥

  abbrev pub Shut : Ty N → Type 0
  Shut t = All Never (opens t)

  pub scalar-shut : Shut (dim [])
  unfolding opens collect
  scalar-shut = all_nil _

  abbrev pub ShutCon : Con N → Type 0
  ShutCon c = All Never (opensCon c)

  pub shut-left : (xs ys : List (Open N)) → All Never (xs ++ ys) → All Never xs
  shut-left xs ys h o m = h o (Memᴰ.append_left ys m)

  pub shut-right : (xs ys : List (Open N)) → All Never (xs ++ ys) → All Never ys
  shut-right xs ys h o m = h o (Memᴰ.append_right xs m)

  sides-shut : (c : Con N) (s t : Ty N) → Sides c s t → ShutCon c → Shut s × Shut t
  unfolding opensCon
  sides-shut c s t (inl i) h = let g : All Never (opens s ++ opens t) = rw i at h in (shut-left (opens s) (opens t) g, shut-right (opens s) (opens t) g)
  sides-shut c s t (inr i) h = let g : All Never (opens t ++ opens s) = rw i at h in (shut-right (opens t) (opens s) g, shut-left (opens t) (opens s) g)

  pub equal-shut : (s t : Ty N) → Shut s → Shut t → ShutCon (equal s t)
  unfolding opensCon
  equal-shut s t h k = all_append Never (opens s) h k

  pairs-shut : (ts us : Tys N) → All Never (opensTys ts) → All Never (opensTys us) → All ShutCon (pairs ts us)
  unfolding pairs opens
  pairs-shut nil us h k = all_nil ShutCon
  pairs-shut (cons t ts) nil h k = all_nil ShutCon
  pairs-shut (cons t ts) (cons u us) h k =
      all_cons ShutCon (equal-shut t u (shut-left (opens t) (opensTys ts) h) (shut-left (opens u) (opensTys us) k))
      (pairs-shut ts us (shut-right (opens t) (opensTys ts) h) (shut-right (opens u) (opensTys us) k))

  reads-open : (x : N) (side : Ty N) → Reads x side → Shut side → ⊥
  unfolding opens collect
  reads-open x side (inl e) h = (rw e at h) (var x) in_head
  reads-open x side (inr e) h = (rw e at h) (var x) in_head

  shut-dim : (p : Product N) → ShutCon (isDim (dim p)) → Shut (dim p)
  unfolding opensCon
  shut-dim p h = h

  scalar-open : (x : N) (k : Exp) (p : Product N) → ShutCon (is_scalar (free (var x) ↑ k ∷ p)) → ⊥
  unfolding opensCon opens collect
  scalar-open x k p h = h (var x) in_head

module _ {N : Type 0} (ν : Names N) where
  quotient-shut : (d e q : Product N) → Shut (dim d) → Shut (dim e) → q ≡ mergeE ν d (inverse e) → Shut (dim q)
  unfolding opens
  quotient-shut d e q h k i = rw i (each_opens Never (mergeE ν d (inverse e))
      (merge_on Never ν d (inverse e) (opens-each Never d h) (inverse-on Never ν e (opens-each Never e k))))

  -- ══ A rule ══

  -- what a rule does with a closed constraint
  pub shut-rule : (c : Con N) (s : Step N) → Rule ν bounded c s → ShutCon c → After (All ShutCon) (λ x t. ⊥) s
  unfolding opensCon opens
  shut-rule c s (none-applies e) h = rw e tt
  shut-rule c s (equal-records t i e) h = rw e tt
  shut-rule c s (binds x side t i r n e) h = absurd (reads-open x side r (sides-shut c side t i h).0)
  shut-rule c s (two-functions ps qs r q n i e) h =
      let g = sides-shut c (fn ps r) (fn qs q) (inl i) h in
      rw e (all_cons ShutCon (equal-shut r q (shut-right (opensTys ps) (opens r) g.0) (shut-right (opensTys qs) (opens q) g.1))
      (pairs-shut ps qs (shut-left (opensTys ps) (opens r) g.0) (shut-left (opensTys qs) (opens q) g.1)))
  shut-rule c s (two-lists t u i e) h = let g = sides-shut c (list t) (list u) (inl i) h in rw e (all_cons ShutCon (equal-shut t u g.0 g.1) (all_nil ShutCon))
  shut-rule c s (two-structs n as' bs fs gs k i e) h =
      let g = sides-shut c (struct n as' fs) (struct n bs gs) (inl i) h in
      rw e (pairs-shut as' bs (shut-left (opensTys as') (opensFields fs) g.0) (shut-left (opensTys bs) (opensFields gs) g.1))
  shut-rule c s (as-product x d i m e) h = absurd ((sides-shut c (opened (var x)) (dim d) i h).0 (var x) in_head)
  shut-rule c s (two-dimensions d e q k i j) h =
      let g = sides-shut c (dim d) (dim e) (inl i) h in
      rw j (all_cons ShutCon (quotient-shut d e q g.0 g.1 (divide-value ν d e q k)) (all_nil ShutCon))
  shut-rule c s (dimension p i e) h = rw e (λ d m. absurd (gone d (part_of p d m)))
    where
      g : All Never (opens (dim p))
      g = shut-dim p (rw i at h)

      gone : (d : Con N) → (y : N) × (d ≡ isDim (opened (var y))) × (Memᴰ (var y) (opens (dim p)) ⊎ Memᴰ (par y) (opens (dim p))) → ⊥
      gone d (y, k, inl n) = g (var y) n
      gone d (y, k, inr n) = g (par y) n
  shut-rule c s (no-factor i e) h = rw e tt
  shut-rule c s (first-factor x k p q n i e) h = absurd (scalar-open x k p (rw i at h))
  shut-rule c s (closed-struct n m as' fs t u o f i e) h =
      let g : All Never (opens (struct m as' fs) ++ opens t) = rw i at h in
      rw e (all_cons ShutCon (equal-shut u t
      (λ w k. shut-right (opensTys as') (opensFields fs) (shut-left (opens (struct m as' fs)) (opens t) g) w (field-occurs ν n fs u f w k))
      (shut-right (opens (struct m as' fs)) (opens t) g)) (all_nil ShutCon))

  -- ══ Replacing ══

  module _ (l : Limits) (look : Look N) where
    unbound : (os : List (Open N)) → All Never os → Unbound look os
    unbound os h = all-every (λ o. look o ≡ none) os (λ o m. absurd (h o m))

    pub shut-same : (t : Ty N) → Shut t → replaceTy ν l look t ≡ got t
    shut-same t h = ty_same ν l look t (unbound (opens t) h)

    pub shut-con : (c : Con N) → ShutCon c → replaceCon ν l look c ≡ got c
    unfolding replaceCon replaceProduct opensCon opens
    shut-con (equal s t) h = rw (shut-same s (shut-left (opens s) (opens t) h), shut-same t (shut-right (opens s) (opens t) h))
    shut-con (isDim t) h = rw (shut-same t h)
    shut-con (is_scalar p) h = rw (factors-same ν l look p p (unbound (collect openOfFactor p) h))
    shut-con (hasField n s t) h = rw (shut-same s (shut-left (opens s) (opens t) h), shut-same t (shut-right (opens s) (opens t) h))
