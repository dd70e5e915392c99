-- A variable of each of two sets that go side by side is replaced by one closed type: they go on side by side, or both are refused alike.
use Rattle.std.specs.Prelude.{◌≡◌, Bool, ◌⊎◌, leb, length}
use Rattle.std.proofs.Math.Path.{refl, ap}
use Rattle.std.proofs.Common.{◌∙◌, sym, inl, inr}
use Rattle.std.proofs.Math.Bool.{true, false}
use Rattle.std.proofs.Math.Option.{none, some}
use mathlib.Core.List.Memᴰ
use mathlib.Core.List.{List, [], ◌∷◌, Memᴰ}
use Prim.Native.Nat.{suc, Ordering}
use Rattle.rules.specs.Base.{Got, got, refused, ◌>>=◌, bounded, is_yes, each, collect, within, allow}
use Rattle.rules.specs.Exponents.{Exp, Exp-dec, one, nought, neg, sum, ranged}
use Rattle.rules.specs.Trees.{Open, var, Atom, free, base, ◌↑◌, Product, Names, Ty, opened, dim, Con, equal, ◌≔◌, orderAtom, orderOpen, opens, openOfFactor}
use Rattle.rules.specs.Products.{just, single, inverse, merge, mergeOne, multiply, divide, raise}
use Rattle.rules.specs.Replacing.{Look, asProduct, replaceTy, replaceDim, replaceProduct, replaceFactors, replaceCon, find, bindings}
use Rattle.rules.specs.Rules.{rules}
use Rattle.laws.proofs.Alike.{Alike, both, neither, onward}
use Rattle.laws.specs.Order.{Lawful}
use Rattle.laws.proofs.Order.{self, after}
use Rattle.laws.specs.Fractions.{Lowest}
use Rattle.laws.proofs.Fractions.{one-lowest, plus-neg}
use Rattle.laws.proofs.Sorted.{merge-nil}
use Rattle.laws.specs.Lists.{All, all_cons, in_head, all-every}
use Rattle.laws.proofs.Lists.{alone, is-no, bound-step, allow-same, is-yes}
use Rattle.laws.specs.ExactProducts.{mergeE, raiseE}
use Rattle.laws.proofs.ExactProducts.{multiply-value, raise-value}
use Rattle.laws.proofs.Occurs.{each_opens, opens-each, merge_on, raise-on, as-product-is}
use Rattle.laws.proofs.Untouched.{Unbound, ty_same, factors-same}
use Rattle.rules.specs.Lines.{twoFactors}
use Rattle.theorems_lines.proofs.Shut.{Never, Shut, shut-same, shut-con}
use Rattle.theorems_lines.proofs.Flow.{
  Side,
  shut,
  pair,
  Term,
  side,
  half,
  two,
  Line,
  closed,
  dimension,
  equality,
  Differs,
  Flow,
  end,
  beside,
  define,
}

nought-ranged : ranged bounded nought ≡ got nought
unfolding rules
nought-ranged = refl

open-shut : {N : Type 0} (o : Open N) → Shut (opened o) → ⊥
unfolding opens
open-shut o h = h o in_head

pub same-order : {N : Type 0} (ν : Names N) → Lawful (orderAtom ν) → (a b : N) → a ≡ b → ν.order a b ≡ Ordering.eq
unfolding orderAtom orderOpen
same-order ν law a b e = ap (ν.order a) (sym e) ∙ self law (base a)

module _ {N : Type 0} (ν : Names N) (law : Lawful (orderAtom ν)) where
  -- ══ A factor that is taken out ══

  cancels : (e : Exp) → Lowest e → sum bounded e (neg e) ≡ got nought
  unfolding sum
  cancels e low = ap (ranged bounded) (plus-neg e low) ∙ nought-ranged

  merged-out : (a : Atom N) (i : Exp) (p : Product N) → Lowest i → merge ν bounded (a ↑ i ∷ p) (a ↑ neg i ∷ []) ≡ got p
  unfolding merge mergeOne
  merged-out a i p low = rw (self law a, mergeOne) (rw (cancels i low, merge-nil ν bounded p))

  left_out : (a : Atom N) (i : Exp) (p : Product N) → Lowest i → divide ν bounded (a ↑ i ∷ p) (a ↑ i ∷ []) ≡ within bounded (length p) 64 p
  unfolding divide multiply inverse
  left_out a i p low = rw (merged-out a i p low)

  behind-out : (b a : Atom N) (j i : Exp) → orderAtom ν b a ≡ Ordering.lt → Lowest i → divide ν bounded (b ↑ j ∷ a ↑ i ∷ []) (a ↑ i ∷ []) ≡ got (b ↑ j ∷ [])
  unfolding divide multiply inverse merge mergeOne
  behind-out b a j i o low = rw (o, mergeOne) (rw (merged-out a i [] low))

  -- a variable goes before base dimensions
  front-put : (y : N) (j : Exp) (p : Product N) → Shut (dim p)
      → multiply ν bounded (free (var y) ↑ j ∷ []) p ≡ within bounded (suc (length p)) 64 (free (var y) ↑ j ∷ p)
  unfolding multiply merge mergeOne orderAtom opens collect
  front-put y j [] h = refl
  front-put y j (free o ↑ e ∷ p) h = absurd (h o in_head)
  front-put y j (base n ↑ e ∷ p) h = refl

  -- ══ Closed products ══

  pub dimension-shut : (t : Ty N) (d : Product N) → Shut t → asProduct t ≡ got d → Shut (dim d)
  dimension-shut t d h e = go (as-product-is t d e)
    where
      go : (t ≡ dim d) ⊎ ((o : Open N) × (t ≡ opened o) × (d ≡ just o)) → Shut (dim d)
      go (inl i) = rw (← i) h
      go (inr (o, i, j)) = absurd (open-shut o (rw i at h))

  pub power-shut : (d r : Product N) (e : Exp) → Shut (dim d) → raise ν bounded d e ≡ got r → Shut (dim r)
  unfolding opens
  power-shut d r e h i = rw (raise-value ν d e r i) (each_opens Never (raiseE d e) (raise-on Never ν d e (opens-each Never d h)))

  product-shut : (p q r : Product N) → Shut (dim p) → Shut (dim q) → multiply ν bounded p q ≡ got r → Shut (dim r)
  unfolding opens
  product-shut p q r h k i = rw (multiply-value ν p q r i)
      (each_opens Never (mergeE ν p q) (merge_on Never ν p q (opens-each Never p h) (opens-each Never q k)))

  module _ (t : Ty N) (ts : Shut t) where
    -- ══ A bound factor ══

    -- what becomes of x^e beside base dimensions, and of x^i beside y^j: nothing of x is left in it
    abbrev pub besideBase : Exp → Product N → Got (Product N)
    besideBase e p = asProduct t >>= λ d. within bounded (length p) 64 p >>= λ left. raise ν bounded d e >>= λ more. multiply ν bounded left more

    abbrev pub besideOne : N → Exp → Exp → Got (Product N)
    besideOne y j i = asProduct t >>= λ d. raise ν bounded d i >>= λ more. within bounded (suc (length more)) 64 (free (var y) ↑ j ∷ more)

    unfoldable pub halfGot : Exp → Product N → Got (Ty N)
    halfGot e [] = elim (is_yes (Exp-dec e one)) [ true ↦ got t | false ↦ (besideBase e [] >>= λ q. got (dim q)) ]
    halfGot e (f ∷ p) = besideBase e (f ∷ p) >>= λ q. got (dim q)

    module _ (look : Look N) where
      base-replaced : (x : N) (e : Exp) (p : Product N) → Lowest e → Shut (dim p) → look (var x) ≡ some t
          → replaceFactors ν bounded look (free (var x) ↑ e ∷ p) (free (var x) ↑ e ∷ p) ≡ besideBase e p
      unfolding replaceFactors opens
      base-replaced x e p low h i = rw (i, replaceFactors) (go (asProduct t))
        where
          rest : (r : Got (Product N)) → (r >>= λ acc. replaceFactors ν bounded look p acc) ≡ r
          rest (got acc) = factors-same ν bounded look p acc (all-every (λ o. look o ≡ none) (collect openOfFactor p) (λ o m. absurd (h o m)))
          rest (refused n) = refl

          steps : (d : Product N) (w : Got (Product N)) (m : Got (Product N))
              → (w >>= λ left. m >>= λ more. multiply ν bounded left more >>= λ acc. replaceFactors ν bounded look p acc)
              ≡ (w >>= λ left. m >>= λ more. multiply ν bounded left more)
          steps d (refused n) m = refl
          steps d (got left) (refused n) = refl
          steps d (got left) (got more) = rest (multiply ν bounded left more)

          go : (m : Got (Product N))
              → (m >>= λ d. divide ν bounded (free (var x) ↑ e ∷ p) (free (var x) ↑ e ∷ []) >>= λ left. raise ν bounded d e
              >>= λ more. multiply ν bounded left more >>= λ acc. replaceFactors ν bounded look p acc)
              ≡ (m >>= λ d. within bounded (length p) 64 p >>= λ left. raise ν bounded d e >>= λ more. multiply ν bounded left more)
          go (refused n) = refl
          go (got d) = rw (left_out (free (var x)) e p low) (steps d (within bounded (length p) 64 p) (raise ν bounded d e))

      module _ (x y : N) (i j : Exp) (low : Lowest i) (hx : look (var x) ≡ some t) (hy : look (var y) ≡ none) where
        one-put : (d : Product N) → Shut (dim d) → (m : Got (Product N)) → raise ν bounded d i ≡ m
            → (m >>= λ more. multiply ν bounded (free (var y) ↑ j ∷ []) more) ≡ (m >>= λ more. within bounded (suc (length more)) 64 (free (var y) ↑ j ∷ more))
        one-put d h (refused n) e = refl
        one-put d h (got more) e = front-put y j more (power-shut d more i h e)

        second-done : (d : Product N) (m : Got (Product N))
            → (m >>= λ more. multiply ν bounded (free (var y) ↑ j ∷ []) more >>= λ acc. replaceFactors ν bounded look (free (var y) ↑ j ∷ []) acc)
            ≡ (m >>= λ more. multiply ν bounded (free (var y) ↑ j ∷ []) more)
        unfolding replaceFactors
        second-done d (refused n) = refl
        second-done d (got more) = rw (hy, replaceFactors) (alone (multiply ν bounded (free (var y) ↑ j ∷ []) more))

        all_done : (m : Got (Product N))
            → (m >>= λ more. multiply ν bounded (free (var y) ↑ j ∷ []) more >>= λ acc. got acc)
            ≡ (m >>= λ more. multiply ν bounded (free (var y) ↑ j ∷ []) more)
        all_done (refused n) = refl
        all_done (got more) = alone (multiply ν bounded (free (var y) ↑ j ∷ []) more)

        -- before y, or behind it
        first-replaced : replaceFactors ν bounded look (free (var x) ↑ i ∷ free (var y) ↑ j ∷ []) (free (var x) ↑ i ∷ free (var y) ↑ j ∷ []) ≡ besideOne y j i
        unfolding replaceFactors
        first-replaced = rw (hx, replaceFactors) (go (asProduct t) refl)
          where
            go : (m : Got (Product N)) → asProduct t ≡ m
                → (m >>= λ d. divide ν bounded (free (var x) ↑ i ∷ free (var y) ↑ j ∷ []) (free (var x) ↑ i ∷ []) >>= λ left. raise ν bounded d i
                >>= λ more. multiply ν bounded left more >>= λ acc. replaceFactors ν bounded look (free (var y) ↑ j ∷ []) acc)
                ≡ (m >>= λ d. raise ν bounded d i >>= λ more. within bounded (suc (length more)) 64 (free (var y) ↑ j ∷ more))
            go (refused n) e = refl
            go (got d) e = rw (left_out (free (var x)) i (free (var y) ↑ j ∷ []) low)
                (second-done d (raise ν bounded d i) ∙ one-put d (dimension-shut t d ts e) (raise ν bounded d i) refl)

        second-replaced : orderAtom ν (free (var y)) (free (var x)) ≡ Ordering.lt
            → replaceFactors ν bounded look (free (var y) ↑ j ∷ free (var x) ↑ i ∷ []) (free (var y) ↑ j ∷ free (var x) ↑ i ∷ []) ≡ besideOne y j i
        unfolding replaceFactors
        second-replaced o = rw (hy, replaceFactors) (rw (hx, replaceFactors) (go (asProduct t) refl))
          where
            go : (m : Got (Product N)) → asProduct t ≡ m
                → (m >>= λ d. divide ν bounded (free (var y) ↑ j ∷ free (var x) ↑ i ∷ []) (free (var x) ↑ i ∷ []) >>= λ left. raise ν bounded d i
                >>= λ more. multiply ν bounded left more >>= λ acc. got acc)
                ≡ (m >>= λ d. raise ν bounded d i >>= λ more. within bounded (suc (length more)) 64 (free (var y) ↑ j ∷ more))
            go (refused n) e = refl
            go (got d) e = rw (behind-out (free (var y)) (free (var x)) j i o low)
                (all_done (raise ν bounded d i) ∙ one-put d (dimension-shut t d ts e) (raise ν bounded d i) refl)

      -- x^e beside base dimensions, as a type: to the power 1 and alone it becomes t itself
      pub half-put : (x : N) (e : Exp) (p : Product N) → Lowest e → Shut (dim p) → look (var x) ≡ some t
          → replaceTy ν bounded look (dim (free (var x) ↑ e ∷ p)) ≡ halfGot e p
      unfolding replaceTy replaceDim replaceProduct single halfGot
      half-put x e [] low h i = go (is_yes (Exp-dec e one)) refl
        where
          go : (b : Bool) → is_yes (Exp-dec e one) ≡ b → replaceTy ν bounded look (dim (free (var x) ↑ e ∷ [])) ≡ halfGot e []
          go true k = rw (k, single, halfGot) (rw i)
          go false k = rw (k, single, halfGot) (rw (base-replaced x e [] low h i))
      half-put x e (f ∷ p) low h i = rw (base-replaced x e (f ∷ p) low h i)

      -- two variables, of which one is bound
      module _ (l r : N) (e : Exp) (low : Lowest e) (differ : ¬ (ν.order l r ≡ Ordering.eq)) where
        pub left-put : look (var l) ≡ some t → look (var r) ≡ none
            → replaceTy ν bounded look (dim (twoFactors ν l r e)) ≡ (besideOne r e one >>= λ q. got (dim q))
        unfolding replaceTy replaceDim replaceProduct single twoFactors orderAtom orderOpen
        left-put hl hr = go (ν.order l r) refl
          where
            go : (o : Ordering) → ν.order l r ≡ o → replaceTy ν bounded look (dim (twoFactors ν l r e)) ≡ (besideOne r e one >>= λ q. got (dim q))
            go Ordering.lt i = rw (i, twoFactors) (rw (first-replaced l r one e one-lowest hl hr))
            go Ordering.eq i = absurd (differ i)
            go Ordering.gt i = rw (i, twoFactors) (rw (second-replaced l r one e one-lowest hl hr (after law (free (var l)) (free (var r)) i)))

        pub right-put : look (var r) ≡ some t → look (var l) ≡ none
            → replaceTy ν bounded look (dim (twoFactors ν l r e)) ≡ (besideOne l one e >>= λ q. got (dim q))
        unfolding replaceTy replaceDim replaceProduct single twoFactors orderAtom orderOpen
        right-put hr hl = go (ν.order l r) refl
          where
            go : (o : Ordering) → ν.order l r ≡ o → replaceTy ν bounded look (dim (twoFactors ν l r e)) ≡ (besideOne l one e >>= λ q. got (dim q))
            go Ordering.lt i = rw (i, twoFactors) (rw (second-replaced r l e one low hr hl i))
            go Ordering.eq i = absurd (differ i)
            go Ordering.gt i = rw (i, twoFactors) (rw (first-replaced r l e one low hr hl))

        pub none-put : look (var l) ≡ none → look (var r) ≡ none → replaceTy ν bounded look (dim (twoFactors ν l r e)) ≡ got (dim (twoFactors ν l r e))
        unfolding opens collect twoFactors
        none-put hl hr = ty_same ν bounded look (dim (twoFactors ν l r e)) (go (ν.order l r) refl)
          where
            go : (o : Ordering) → ν.order l r ≡ o → Unbound look (opens (dim (twoFactors ν l r e)))
            go Ordering.lt i = rw (i, twoFactors) (hl, (hr, tt))
            go Ordering.eq i = absurd (differ i)
            go Ordering.gt i = rw (i, twoFactors) (hr, (hl, tt))

    -- ══ What is left is closed ══

    base-shut : (e : Exp) (p q : Product N) → Shut (dim p) → besideBase e p ≡ got q → Shut (dim q)
    base-shut e p q h i =
        let a = bound-step (asProduct t) _ q i in
        let b = bound-step (within bounded (length p) 64 p) _ q a.2 in
        let c = bound-step (raise ν bounded a.0 e) _ q b.2 in
        let z : p ≡ b.0 = allow-same (leb (length p) 64) 8 p b.0 b.1 in
        product-shut b.0 c.0 q (rw (← z) h) (power-shut a.0 c.0 e (dimension-shut t a.0 ts a.1) c.1) c.2

    module _ {K : List (N × N)} where
      as-dim : (m : Got (Product N)) → ((q : Product N) → m ≡ got q → Shut (dim q)) → Alike (Term ν K) (m >>= λ q. got (dim q)) (m >>= λ q. got (dim q))
      as-dim (refused n) h = neither
      as-dim (got q) h = both (side (shut (dim q) (h q refl)))

      half-alike : (e : Exp) (p : Product N) → Shut (dim p) → Alike (Term ν K) (halfGot e p) (halfGot e p)
      unfolding halfGot
      half-alike e [] h = go (is_yes (Exp-dec e one)) refl
        where
          go : (b : Bool) → is_yes (Exp-dec e one) ≡ b → Alike (Term ν K) (halfGot e []) (halfGot e [])
          go true k = rw (k, halfGot) (both (side (shut t ts)))
          go false k = rw (k, halfGot) (as-dim (besideBase e []) (λ q i. base-shut e [] q h i))
      half-alike e (f ∷ p) h = as-dim (besideBase e (f ∷ p)) (λ q i. base-shut e (f ∷ p) q h i)

      one_alike : (y y' : N) (j i : Exp) → Memᴰ (y, y') K → Lowest j
          → Alike (Term ν K) (besideOne y j i >>= λ q. got (dim q)) (besideOne y' j i >>= λ q. got (dim q))
      one_alike y y' j i k low = go (asProduct t) refl
        where
          more : (p : Product N) → Shut (dim p) → (b : Bool)
              → Alike (Term ν K) (allow b 8 (free (var y) ↑ j ∷ p) >>= λ q. got (dim q)) (allow b 8 (free (var y') ↑ j ∷ p) >>= λ q. got (dim q))
          more p h true = both (half y y' j p k low h)
          more p h false = neither

          power : (d : Product N) → Shut (dim d) → (m : Got (Product N)) → raise ν bounded d i ≡ m
              → Alike (Term ν K) (m >>= (λ p. within bounded (suc (length p)) 64 (free (var y) ↑ j ∷ p)) >>= λ q. got (dim q))
              (m >>= (λ p. within bounded (suc (length p)) 64 (free (var y') ↑ j ∷ p)) >>= λ q. got (dim q))
          power d h (refused n) e = neither
          power d h (got p) e = more p (power-shut d p i h e) (leb (suc (length p)) 64)

          go : (m : Got (Product N)) → asProduct t ≡ m
              → Alike (Term ν K) (m >>= (λ d. raise ν bounded d i >>= λ p. within bounded (suc (length p)) 64 (free (var y) ↑ j ∷ p))
              >>= λ q. got (dim q)) (m >>= (λ d. raise ν bounded d i >>= λ p. within bounded (suc (length p)) 64 (free (var y') ↑ j ∷ p))
              >>= λ q. got (dim q))
          go (refused n) e = neither
          go (got d) e = power d (dimension-shut t d ts e) (raise ν bounded d i) refl

    -- ══ Side by side ══

    as-terms : {K : List (N × N)} {m n : Got (Ty N)} → Alike (Side ν K) m n → Alike (Term ν K) m n
    as-terms (neither {n = n}) = neither
    as-terms (both r) = both (side r)

    pub at_bound : (v x : N) → x ≡ v → bindings ν (v ≔ t ∷ []) (var x) ≡ some t
    unfolding bindings find
    at_bound v x e = rw (is-yes (ν.same x v) e, find)

    pub at_other : (v x : N) → ¬ (x ≡ v) → bindings ν (v ≔ t ∷ []) (var x) ≡ none
    unfolding bindings find
    at_other v x e = rw (is-no (ν.same x v) e, find)

    pub open-put : (look : Look N) (x : N) → look (var x) ≡ some t → replaceTy ν bounded look (opened (var x)) ≡ got t
    unfolding replaceTy
    open-put look x i = rw i

    pub open_stays : (look : Look N) (x : N) → look (var x) ≡ none → replaceTy ν bounded look (opened (var x)) ≡ got (opened (var x))
    unfolding replaceTy
    open_stays look x i = rw i

    pub half-stays : (look : Look N) (x : N) (e : Exp) (p : Product N) → Shut (dim p) → look (var x) ≡ none
        → replaceTy ν bounded look (dim (free (var x) ↑ e ∷ p)) ≡ got (dim (free (var x) ↑ e ∷ p))
    unfolding opens collect
    half-stays look x e p h i = ty_same ν bounded look (dim (free (var x) ↑ e ∷ p))
        (i, all-every (λ o. look o ≡ none) (collect openOfFactor p) (λ o m. absurd (h o m)))

    -- ══ Two sets, side by side ══

    module _ (v v' : N) where
      abbrev σ : Look N
      σ = bindings ν (v ≔ t ∷ [])

      abbrev σ' : Look N
      σ' = bindings ν (v' ≔ t ∷ [])

      -- the pair that is replaced, or one that stays
      abbrev Which : List (N × N) → N → N → Type 0
      Which K x x' = ((x ≡ v) × (x' ≡ v')) ⊎ (Memᴰ (x, x') K × (¬ (x ≡ v)) × (¬ (x' ≡ v')))

      -- K is M without the pair that is replaced
      pub record Without (M K : List (N × N)) : Type 0 where
        pub here : Memᴰ (v, v') M
        pub splits : (x x' : N) → Memᴰ (x, x') M → Which K x x'
        pub within' : All (λ p. Memᴰ p M) K

      module _ {M K : List (N × N)} (w : Without M K) where
        side-put : {s s' : Ty N} → Side ν M s s' → Alike (Side ν K) (replaceTy ν bounded σ s) (replaceTy ν bounded σ' s')
        side-put (shut u h) = rw (shut-same ν bounded σ u h, shut-same ν bounded σ' u h) (both (shut u h))
        side-put (pair x x' m) = go (w.splits x x' m)
          where
            go : Which K x x' → Alike (Side ν K) (replaceTy ν bounded σ (opened (var x))) (replaceTy ν bounded σ' (opened (var x')))
            go (inl (e, e')) = rw (open-put σ x (at_bound v x e), open-put σ' x' (at_bound v' x' e')) (both (shut t ts))
            go (inr (k, d, d')) = rw (open_stays σ x (at_other v x d), open_stays σ' x' (at_other v' x' d')) (both (pair x x' k))

        term-put : {s s' : Ty N} → Term ν M s s' → Alike (Term ν K) (replaceTy ν bounded σ s) (replaceTy ν bounded σ' s')
        term-put (side s) = as-terms (side-put s)
        term-put (half x x' e p m low h) = go (w.splits x x' m)
          where
            go : Which K x x' → Alike (Term ν K) (replaceTy ν bounded σ (dim (free (var x) ↑ e ∷ p))) (replaceTy ν bounded σ' (dim (free (var x') ↑ e ∷ p)))
            go (inl (i, i')) = rw (half-put σ x e p low h (at_bound v x i), half-put σ' x' e p low h (at_bound v' x' i')) (half-alike e p h)
            go (inr (k, d, d')) = rw (half-stays σ x e p h (at_other v x d), half-stays σ' x' e p h (at_other v' x' d')) (both (half x x' e p k low h))
        term-put (two l l' r r' e m n d d' low) = go (w.splits l l' m) (w.splits r r' n)
          where
            same_name : (a b c : N) → a ≡ c → b ≡ c → ν.order a b ≡ Ordering.eq
            same_name a b c i j = same-order ν law a b (i ∙ sym j)

            go : Which K l l' → Which K r r'
                → Alike (Term ν K) (replaceTy ν bounded σ (dim (twoFactors ν l r e))) (replaceTy ν bounded σ' (dim (twoFactors ν l' r' e)))
            go (inl (i, i')) (inl (j, j')) = absurd (d (same_name l r v i j))
            go (inl (i, i')) (inr (k, f, f')) =
                rw (left-put σ l r e low d (at_bound v l i) (at_other v r f), left-put σ' l' r' e low d' (at_bound v' l' i') (at_other v' r' f'))
                (one_alike r r' e one k low)
            go (inr (k, f, f')) (inl (j, j')) =
                rw (right-put σ l r e low d (at_bound v r j) (at_other v l f), right-put σ' l' r' e low d' (at_bound v' r' j') (at_other v' l' f'))
                (one_alike l l' one e k one-lowest)
            go (inr (k, f, f')) (inr (k', g, g')) =
                rw (none-put σ l r e low d (at_other v l f) (at_other v r g), none-put σ' l' r' e low d' (at_other v' l' f') (at_other v' r' g'))
                (both (two l l' r r' e k k' d d' low))

        line-put : {c c' : Con N} → Line ν M c c' → Alike (Line ν K) (replaceCon ν bounded σ c) (replaceCon ν bounded σ' c')
        unfolding replaceCon
        line-put (closed c h) = rw (shut-con ν bounded σ c h, shut-con ν bounded σ' c h) (both (closed c h))
        line-put (dimension s) = onward _ _ (side-put s) (λ a b r. both (dimension r))
        line-put (equality s u) = onward _ _ (side-put s) (λ a b r. onward _ _ (side-put u) (λ a' b' r'. both (equality r r')))

      wide : {K : List (N × N)} {p : N × N} (y y' : N) → Which K y y' → Which (p ∷ K) y y'
      wide y y' (inl i) = inl i
      wide y y' (inr (m, d, d')) = inr (Memᴰ.tail m, d, d')

      -- a further pair is defined
      wider : {M K : List (N × N)} (x x' : N) → Without M K → All (Differs ν x x') M → Without ((x, x') ∷ M) ((x, x') ∷ K)
      wider {M} {K} x x' w d = record {
        here = Memᴰ.tail w.here;
        splits = λ y y' m. go y y' (Memᴰ.cases_cons m);
        within' = all_cons _ in_head (λ p m. Memᴰ.tail (w.within' p m));
      }
        where
          go : (y y' : N) → (◌≡◌ {A = N × N} (y, y') (x, x')) ⊎ Memᴰ (y, y') M → Which ((x, x') ∷ K) y y'
          go y y' (inl e) = inr (
            Memᴰ.head e,
            (λ i. (d (v, v') w.here).0 (sym i ∙ ap (λ (p : N × N). p.0) e)),
            (λ i. (d (v, v') w.here).1 (sym i ∙ ap (λ (p : N × N). p.1) e)),
          )
          go y y' (inr m) = wide y y' (w.splits y y' m)

      pub flow-put : {P : N × N → Type 0} {M K : List (N × N)} {cs cs' : List (Con N)} → Without M K → Flow ν P M cs cs'
          → Alike (Flow ν P K) (each (replaceCon ν bounded σ) cs) (each (replaceCon ν bounded σ') cs')
      unfolding each replaceCon
      flow-put w end = both end
      flow-put w (beside c f) = onward _ _ (line-put w c) (λ a b r. onward _ _ (flow-put w f) (λ as' bs q. both (beside r q)))
      flow-put {P} {M} {K} w (define x x' {t = s} {t' = s'} {cs = cs} {cs' = cs'} p d u f) =
          rw (open_stays σ x (at_other v x (λ i. (d (v, v') w.here).0 (sym i))), open_stays σ' x' (at_other v' x' (λ i. (d (v, v') w.here).1 (sym i))))
          (go (term-put w u) (flow-put (wider x x' w d) f))
        where
          go : {m m' : Got (Ty N)} {n n' : Got (List (Con N))} → Alike (Term ν K) m m' → Alike (Flow ν P ((x, x') ∷ K)) n n'
              → Alike (Flow ν P K) (m >>= (λ a. got (equal (opened (var x)) a)) >>= λ c. n >>= λ cs. got (c ∷ cs))
              (m' >>= (λ a. got (equal (opened (var x')) a)) >>= λ c. n' >>= λ cs. got (c ∷ cs))
          go (neither {n = n}) f = neither
          go (both r) (neither {n = n}) = neither
          go (both r) (both q) = both (define x x' p (λ y m. d y (w.within' y m)) r q)
