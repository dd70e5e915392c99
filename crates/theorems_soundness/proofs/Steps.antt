-- Each rule leads from open names that are as they should be to such names again.
use Rattle.std.proofs.Math.Path.{◌≡◌}
use Rattle.std.specs.Prelude.{refl, Bool, ◌⊎◌, ℕ}
use Rattle.std.proofs.Common.{sym, inl, inr}
use Rattle.std.proofs.Math.Bool.{true}
use mathlib.Core.List.Memᴰ
use mathlib.Core.List.{List, [], ◌∷◌, ◌++◌, Memᴰ}
use Prim.Native.Nat.{Ordering}
use Rattle.rules.specs.Base.{bounded, collect}
use Rattle.rules.specs.Trees.{
  Open,
  var,
  quant,
  par,
  free,
  base,
  ◌↑◌,
  Product,
  Names,
  Ty,
  opened,
  dim,
  fn,
  struct,
  list,
  Tys,
  nil,
  cons,
  Con,
  equal,
  isDim,
  is_scalar,
  hasField,
  orderAtom,
  opens,
  opensTys,
  opensFields,
  openOfFactor,
  opensCon,
}
use Rattle.rules.specs.Products.{just, inverse}
use Rattle.rules.specs.Rounds.{Step, pairs}
use Rattle.rules.specs.WellFormed.{goodProduct, goodCon}
use Rattle.rules.specs.Meaning.{inProducts, inProductsTys, inProductsFields, productsOf}
use Rattle.laws.specs.Order.{Lawful}
use Rattle.laws.proofs.Order.{self}
use Rattle.laws.specs.Sorted.{Before}
use Rattle.laws.specs.ExactProducts.{mergeE}
use Rattle.laws.proofs.ExactProducts.{divide-value}
use Rattle.laws.proofs.GoodProducts.{good-product}
use Rattle.laws.specs.Lists.{All, all_nil, all_cons, in_head}
use Rattle.laws.proofs.Lists.{all_append}
use Rattle.laws.specs.RuleCases.{After}
use Rattle.laws.proofs.RuleCases.{
  Reads,
  Sides,
  Rule,
  none-applies,
  equal-records,
  binds,
  two-functions,
  two-lists,
  two-structs,
  as-product,
  two-dimensions,
  dimension,
  no-factor,
  first-factor,
  closed-struct,
  part_of,
  not-contained,
}
use Rattle.laws.proofs.Occurs.{each_opens, opens-each, merge_on, inverse-on, other-opens, products-occur, field-occurs}

-- ══ Open names as they should be ══

module _ {N : Type 0} (Parameter : N → Type 0) (keys : List N) where
  -- an open name of a constraint: a variable is no parameter's name and isn't bound
  abbrev pub OpenOk : Open N → Type 0
  OpenOk (var x) = (¬ (Parameter x)) × (¬ (Memᴰ x keys))
  OpenOk (quant i) = Unit {0}
  OpenOk (par x) = Parameter x

  -- in an is-dimension, a parameter's name may stand as a variable
  abbrev pub DimOk : Open N → Type 0
  DimOk (var x) = ¬ (Memᴰ x keys)
  DimOk (quant i) = Unit {0}
  DimOk (par x) = Parameter x

  abbrev pub okFor : Con N → Open N → Type 0
  okFor (equal s t) = OpenOk
  okFor (isDim t) = DimOk
  okFor (is_scalar p) = OpenOk
  okFor (hasField n s t) = OpenOk

  abbrev pub ConOk : Con N → Type 0
  ConOk c = All (okFor c) (opensCon c)

  -- a variable that is being bound, and its type
  pub record BindOk (x : N) (t : Ty N) : Type 0 where
    pub variable : OpenOk (var x)
    pub type : All OpenOk (opens t)
    pub apart : Memᴰ (var x) (opens t) → ⊥

module _ {N : Type 0} where
  -- ══ The sides of an equality, and pairs ══

  -- the two sides of an equality, whichever open names are taken of types and of constraints
  sides-on : (inTy : Ty N → List (Open N)) (inCon : Con N → List (Open N)) → ((s t : Ty N) → inCon (equal s t) ≡ inTy s ++ inTy t)
      → (P : Open N → Type 0) (c : Con N) (s t : Ty N) → Sides c s t → All P (inCon c) → All P (inTy s) × All P (inTy t)
  sides-on inTy inCon both P c s t (inl i) h = let g : All P (inTy s ++ inTy t) = rw (i, both s t) at h
      in (λ o m. g o (Memᴰ.append_left (inTy t) m), λ o m. g o (Memᴰ.append_right (inTy s) m))
  sides-on inTy inCon both P c s t (inr i) h = let g : All P (inTy t ++ inTy s) = rw (i, both t s) at h
      in (λ o m. g o (Memᴰ.append_right (inTy t) m), λ o m. g o (Memᴰ.append_left (inTy s) m))

  pub sides-in : (P : Open N → Type 0) (c : Con N) (s t : Ty N) → Sides c s t → All P (productsOf c) → All P (inProducts s) × All P (inProducts t)
  unfolding productsOf
  sides-in = sides-on inProducts productsOf (λ s t. refl)

  both-sides : (P : Open N → Type 0) (s t : Ty N) → All P (opens s) → All P (opens t) → All P (opensCon (equal s t))
  unfolding opensCon
  both-sides P s t h k = all_append P (opens s) h k

  sides-equal : (Parameter : N → Type 0) (keys : List N) (c : Con N) (s t : Ty N) → Sides c s t → ConOk Parameter keys c
      → All (OpenOk Parameter keys) (opens s) × All (OpenOk Parameter keys) (opens t)
  unfolding opensCon
  sides-equal Parameter keys c s t i h = sides-on opens opensCon (λ s t. refl) (OpenOk Parameter keys) c s t i (of-equality c s t i h)
    where
      of-equality : (c : Con N) (s t : Ty N) → Sides c s t → ConOk Parameter keys c → All (OpenOk Parameter keys) (opensCon c)
      of-equality c s t (inl i) h = rw i (rw i at h)
      of-equality c s t (inr i) h = rw i (rw i at h)

  -- the pairs of two rows, of whose types something holds that holds of an equality where it holds of its sides
  pairs-on : (R : Con N → Type 0) (T : Ty N → Type 0) (Ts : Tys N → Type 0) → ((t : Ty N) (ts : Tys N) → Ts (cons t ts) → T t × Ts ts)
      → ((s t : Ty N) → T s → T t → R (equal s t)) → (ts us : Tys N) → Ts ts → Ts us → All R (pairs ts us)
  unfolding pairs
  pairs-on R T Ts apart pair nil us h k = all_nil R
  pairs-on R T Ts apart pair (cons t ts) nil h k = all_nil R
  pairs-on R T Ts apart pair (cons t ts) (cons u us) h k =
      let a = apart t ts h in
      let b = apart u us k in
      all_cons R (pair t u a.0 b.0) (pairs-on R T Ts apart pair ts us a.1 b.1)

module _ {N : Type 0} (ν : Names N) (law : Lawful (orderAtom ν)) (held : N → Bool) (q : ℕ) where
  -- ══ Each rule, for all open names ══

  -- the first variable of a product stands nowhere else in it
  before-apart : (a : Open N) (p : Product N) → Before ν (free a) p → Memᴰ a (collect openOfFactor p) → ⊥
  unfolding collect
  before-apart a [] h m = Memᴰ.not-nil m
  before-apart a (base n ↑ e ∷ p) h m = before-apart a p h.1 m
  before-apart a (free o ↑ e ∷ p) h m = go (Memᴰ.cases_cons m) (before-apart a p h.1)
    where
      go : (a ≡ o) ⊎ Memᴰ a (collect openOfFactor p) → (Memᴰ a (collect openOfFactor p) → ⊥) → ⊥
      go (inl i) r =
          let s : orderAtom ν (free a) (free o) ≡ Ordering.eq = rw (sym i) (self law (free a)) in
          absurd (cc h.0)
      go (inr i) r = r i

  module _ (Parameter : N → Type 0) (keys : List N) (unbound : (y : N) → Parameter y → ¬ (Memᴰ y keys)) where
    abbrev Ok : Open N → Type 0
    Ok = OpenOk Parameter keys

    abbrev OkCon : Con N → Type 0
    OkCon = ConOk Parameter keys

    pairs-ok : (ts us : Tys N) → All Ok (opensTys ts) → All Ok (opensTys us) → All OkCon (pairs ts us)
    unfolding opens
    pairs-ok = pairs-on OkCon (λ t. All Ok (opens t)) (λ ts. All Ok (opensTys ts))
        (λ t ts h. (λ o m. h o (Memᴰ.append_left (opensTys ts) m), λ o m. h o (Memᴰ.append_right (opens t) m))) (both-sides Ok)

    pub rule-open : (c : Con N) (s : Step N) → Rule ν bounded c s → goodCon ν held q c ≡ true → OkCon c → After (All OkCon) (BindOk Parameter keys) s
    unfolding opens opensCon goodCon collect
    rule-open c s (none-applies e) g h = rw e tt
    rule-open c s (equal-records t i e) g h = rw e tt
    rule-open c s (binds x side t i r n e) g h =
        let k = sides-equal Parameter keys c side t i h in
        rw e (record { variable = read x side r k.0; type = k.1; apart = not-contained ν x t n })
      where
        read : (x : N) (side : Ty N) → Reads x side → All Ok (opens side) → Ok (var x)
        read x side (inl j) k = k (var x) (rw j in_head)
        read x side (inr j) k = k (var x) (rw j in_head)
    rule-open c s (two-functions ps qs r r' n i e) g h =
        let k = sides-equal Parameter keys c (fn ps r) (fn qs r') (inl i) h in
        rw e (all_cons OkCon (both-sides Ok r r' (λ o m. k.0 o (Memᴰ.append_right (opensTys ps) m)) (λ o m. k.1 o (Memᴰ.append_right (opensTys qs) m)))
        (pairs-ok ps qs (λ o m. k.0 o (Memᴰ.append_left (opens r) m)) (λ o m. k.1 o (Memᴰ.append_left (opens r') m))))
    rule-open c s (two-lists t u i e) g h = let k = sides-equal Parameter keys c (list t) (list u) (inl i) h
        in rw e (all_cons OkCon (both-sides Ok t u k.0 k.1) (all_nil OkCon))
    rule-open c s (two-structs n as' bs fs gs j i e) g h =
        let k = sides-equal Parameter keys c (struct n as' fs) (struct n bs gs) (inl i) h in
        rw e (pairs-ok as' bs (λ o m. k.0 o (Memᴰ.append_left (opensFields fs) m)) (λ o m. k.1 o (Memᴰ.append_left (opensFields gs) m)))
    rule-open c s (as-product x d i j e) g h =
        let k = sides-equal Parameter keys c (opened (var x)) (dim d) i h in
        rw e (all_cons OkCon (both-sides Ok (dim (just (var x))) (dim d) k.0 k.1) (all_nil OkCon))
    rule-open c s (two-dimensions d e r j i z) g h =
        let k = sides-equal Parameter keys c (dim d) (dim e) (inl i) h in
        let w : r ≡ mergeE ν d (inverse e) = divide-value ν d e r j in
        rw z (all_cons OkCon (rw w (each_opens Ok (mergeE ν d (inverse e))
        (merge_on Ok ν d (inverse e) (opens-each Ok d k.0) (inverse-on Ok ν e (opens-each Ok e k.1))))) (all_nil OkCon))
    rule-open c s (dimension p i e) g h =
        let k : OkCon (isDim (dim p)) = rw i at h in
        rw e (λ d m. let o = part_of p d m in rw o.1 (all_cons (DimOk Parameter keys) (named o.0 k o.2) (all_nil (DimOk Parameter keys))))
      where
        named : {os : List (Open N)} (y : N) → All (DimOk Parameter keys) os → Memᴰ (var y) os ⊎ Memᴰ (par y) os → DimOk Parameter keys (var y)
        named y k (inl m) = k (var y) m
        named y k (inr m) = unbound y (k (par y) m)
    rule-open c s (no-factor i e) g h = rw e tt
    rule-open c s (first-factor x j p r n i e) g h =
        let k : OkCon (is_scalar (free (var x) ↑ j ∷ p)) = rw i at h in
        let b : goodProduct ν held q (free (var x) ↑ j ∷ p) ≡ true = rw i at g in
        let w = other-opens bounded j p r n in
        rw e (record {
          variable = k (var x) in_head;
          type = rw w (λ o m. k o (Memᴰ.tail m));
          apart = rw w (before-apart (var x) p (good-product ν law held q (free (var x) ↑ j ∷ p) b).in_order.0);
        })
    rule-open c s (closed-struct n m as' fs t u o f i e) g h =
        let k : OkCon (hasField n (struct m as' fs) t) = rw i at h in
        rw e (all_cons OkCon (both-sides Ok u t
        (λ v j. absurd (Memᴰ.not-nil (rw o at (Memᴰ.append_right (opensTys as') (field-occurs ν n fs u f v j)))))
        (λ v j. k v (Memᴰ.append_right (opensTys as' ++ opensFields fs) j))) (all_nil OkCon))

  -- ══ Each rule, for the names in dimension products ══

  -- what stands in dimension products stood there before
  module _ (P : Open N → Type 0) where
    abbrev InOk : Con N → Type 0
    InOk d = All P (productsOf d)

    both-in : (s t : Ty N) → All P (inProducts s) → All P (inProducts t) → InOk (equal s t)
    unfolding productsOf
    both-in s t h k = all_append P (inProducts s) h k

    pairs-in : (ts us : Tys N) → All P (inProductsTys ts) → All P (inProductsTys us) → All InOk (pairs ts us)
    unfolding inProducts
    pairs-in = pairs-on InOk (λ t. All P (inProducts t)) (λ ts. All P (inProductsTys ts))
        (λ t ts h. (λ o m. h o (Memᴰ.append_left (inProductsTys ts) m), λ o m. h o (Memᴰ.append_right (inProducts t) m))) both-in

    pub rule-in : (c : Con N) (s : Step N) → Rule ν bounded c s → InOk c → After (All InOk) (λ x t. All P (inProducts t)) s
    unfolding opens inProducts productsOf collect
    rule-in c s (none-applies e) h = rw e tt
    rule-in c s (equal-records t i e) h = rw e tt
    rule-in c s (binds x side t i r n e) h = rw e (sides-in P c side t i h).1
    rule-in c s (two-functions ps qs r r' n i e) h =
        let k = sides-in P c (fn ps r) (fn qs r') (inl i) h in
        rw e (all_cons InOk (both-in r r' (λ o m. k.0 o (Memᴰ.append_right (inProductsTys ps) m)) (λ o m. k.1 o (Memᴰ.append_right (inProductsTys qs) m)))
        (pairs-in ps qs (λ o m. k.0 o (Memᴰ.append_left (inProducts r) m)) (λ o m. k.1 o (Memᴰ.append_left (inProducts r') m))))
    rule-in c s (two-lists t u i e) h = let k = sides-in P c (list t) (list u) (inl i) h in rw e (all_cons InOk (both-in t u k.0 k.1) (all_nil InOk))
    rule-in c s (two-structs n as' bs fs gs j i e) h =
        let k = sides-in P c (struct n as' fs) (struct n bs gs) (inl i) h in
        rw e (pairs-in as' bs (λ o m. k.0 o (Memᴰ.append_left (inProductsFields fs) m)) (λ o m. k.1 o (Memᴰ.append_left (inProductsFields gs) m)))
    rule-in c s (as-product x d i j e) h =
        let k = sides-in P c (opened (var x)) (dim d) i h in
        rw e (all_cons InOk (both-in (dim (just (var x))) (dim d) (all_cons P (k.1 (var x) j) (all_nil P)) k.1) (all_nil InOk))
    rule-in c s (two-dimensions d e r j i z) h =
        let k = sides-in P c (dim d) (dim e) (inl i) h in
        let w : r ≡ mergeE ν d (inverse e) = divide-value ν d e r j in
        rw z (all_cons InOk (rw w (each_opens P (mergeE ν d (inverse e))
        (merge_on P ν d (inverse e) (opens-each P d k.0) (inverse-on P ν e (opens-each P e k.1))))) (all_nil InOk))
    rule-in c s (dimension p i e) h = rw e (λ d m. let o = part_of p d m in rw o.1 (all_nil P))
    rule-in c s (no-factor i e) h = rw e tt
    rule-in c s (first-factor x j p r n i e) h =
        let k : InOk (is_scalar (free (var x) ↑ j ∷ p)) = rw i at h in
        rw e (rw (other-opens bounded j p r n) (λ o m. k o (Memᴰ.tail m)))
    rule-in c s (closed-struct n m as' fs t u o f i e) h =
        let k : InOk (hasField n (struct m as' fs) t) = rw i at h in
        rw e (all_cons InOk (both-in u t
        (λ v j. absurd (Memᴰ.not-nil (rw o at (Memᴰ.append_right (opensTys as') (field-occurs ν n fs u f v (products-occur u v j))))))
        (λ v j. k v (Memᴰ.append_right (inProducts (struct m as' fs)) j))) (all_nil InOk))
