-- Putting products in for the atoms of a product, in exact arithmetic: it keeps products, powers and inverses, and it is what replacing does.
use Rattle.std.specs.Prelude.{◌≡◌, Bool}
use Rattle.std.proofs.Math.Path.{refl, ap, ap₂, sym}
use Rattle.std.proofs.Common.{◌∙◌}
use Rattle.std.proofs.Math.Bool.{true, false}
use Rattle.std.proofs.Math.Option.{Option, none, some}
use mathlib.Core.List.Memᴰ
use mathlib.Core.List.{[], ◌∷◌}
use Prim.Native.Nat.{Ordering}
use Rattle.rules.specs.Base.{Got, got, refused, ◌>>=◌, exact, each, collect}
use Rattle.rules.specs.Exponents.{Exp, one, isZero, neg, plus, mul, inverted, quotient, times}
use Rattle.rules.specs.Trees.{Open, Atom, free, base, Factor, ◌↑◌, Product, Names, Ty, orderAtom, openOfFactor}
use Rattle.rules.specs.Products.{put, inverse, divide, multiply, raise}
use Rattle.rules.specs.Replacing.{Look, asProduct, replaceFactors, replaceProduct}
use Rattle.rules.specs.Rounds.{otherSide}
use Rattle.laws.specs.Order.{Lawful, Tells}
use Rattle.laws.specs.Fractions.{Lowest}
use Rattle.laws.proofs.Fractions.{
  neg-lowest,
  one-lowest,
  mul-in-lowest,
  plus-in-lowest,
  inverted-lowest,
  mul-comm',
  mul-assoc',
  mul-one',
  mul-inverted,
  zero-is-nought,
  neg-zero,
}
use Rattle.laws.specs.Sorted.{Before}
use Rattle.laws.specs.ExactProducts.{mergeE, mergeOneE, raiseE}
use Rattle.laws.proofs.ExactProducts.{merge-scalar, scalar-merge, multiply-exact, divide-exact, raise-exact}
use Rattle.laws.specs.Powers.{Sound, Proper}
use Rattle.laws.proofs.Powers.{
  merge-proper,
  raise-proper,
  inverse-proper,
  scalar-proper,
  merge-assoc,
  merge-comm,
  raise-merge,
  merge-inverse,
  raise-one,
  raise-nought,
  raise-plus,
  raise-mul,
  raise-neg,
  inverse-merge,
}
use Rattle.laws.specs.Lists.{All, in_head, Every}
use Rattle.laws.proofs.Lists.{each-parts}

module _ {N : Type 0} (ν : Names N) (v : Atom N → Product N) where
  -- a product with v's products put in for its atoms
  unfoldable pub valued : Product N → Product N
  valued [] = []
  valued (a ↑ e ∷ p) = mergeE ν (raiseE (v a) e) (valued p)

module _ {N : Type 0} where
  -- what an atom stands for under bindings: a bound dimension, or itself
  unfoldable pub orSelf : Got (Product N) → Atom N → Product N
  orSelf (got d) a = d
  orSelf (refused n) a = a ↑ one ∷ []

  unfoldable pub meantBy : Option (Ty N) → Atom N → Product N
  meantBy none a = a ↑ one ∷ []
  meantBy (some t) a = orSelf (asProduct t) a

  unfoldable pub value_of : Look N → Atom N → Product N
  value_of look (base n) = base n ↑ one ∷ []
  value_of look (free o) = meantBy (look o) (free o)

module _ {N : Type 0} (ν : Names N) where
  -- what replacing multiplies by: o^-e d^e for each bound o
  unfoldable pub changedBy : Got (Product N) → Open N → Exp → Product N → Product N
  changedBy (refused n) o e rest = rest
  changedBy (got d) o e rest = mergeE ν (mergeE ν (free o ↑ neg e ∷ []) (raiseE d e)) rest

  unfoldable pub changedAt : Option (Ty N) → Open N → Exp → Product N → Product N
  changedAt none o e rest = rest
  changedAt (some t) o e rest = changedBy (asProduct t) o e rest

  unfoldable pub change : Look N → Product N → Product N
  change look [] = []
  change look (base n ↑ e ∷ p) = change look p
  change look (free o ↑ e ∷ p) = changedAt (look o) o e (change look p)

module _ {N : Type 0} (ν : Names N) (Held : Atom N → Type 0) where
  -- a type that is a dimension, or counts as one
  pub record Dimension (t : Ty N) : Type 0 where
    pub product : Product N
    pub is : asProduct t ≡ got product
    pub proper : Proper ν Held product

  -- what an open name of a product is bound to is a dimension
  pub record Fit (look : Look N) (o : Open N) : Type 0 where
    pub bound : (t : Ty N) → look o ≡ some t → Dimension t

  abbrev pub Fits : Look N → Product N → Type 0
  Fits look [] = Unit {0}
  Fits look (base n ↑ e ∷ p) = Fits look p
  Fits look (free o ↑ e ∷ p) = Fit look o × Fits look p

module _ {N : Type 0} (ν : Names N) {Held : Atom N → Type 0} (law : Lawful (orderAtom ν)) (tells : Tells Held (orderAtom ν)) where
  module _ (a b c : Product N) (ha : Proper ν Held a) (hb : Proper ν Held b) (hc : Proper ν Held c) where
    front : mergeE ν b (mergeE ν a c) ≡ mergeE ν a (mergeE ν b c)
    front =
        sym (merge-assoc ν law tells b a c hb ha hc)
        ∙ ap (λ (x : Product N). mergeE ν x c) (merge-comm ν law tells b a hb ha)
        ∙ merge-assoc ν law tells a b c ha hb hc

    pub exchange : (d : Product N) → Proper ν Held d → mergeE ν (mergeE ν a b) (mergeE ν c d) ≡ mergeE ν (mergeE ν a c) (mergeE ν b d)
    exchange d hd =
        merge-assoc ν law tells a b (mergeE ν c d) ha hb (merge-proper ν law tells c d hc hd)
        ∙ ap (mergeE ν a) (sym (merge-assoc ν law tells b c d hb hc hd) ∙ ap (λ (x : Product N). mergeE ν x d) (merge-comm ν law tells b c hb hc)
        ∙ merge-assoc ν law tells c b d hc hb hd)
        ∙ sym (merge-assoc ν law tells a c (mergeE ν b d) ha hc (merge-proper ν law tells b d hb hd))

  pub one-proper : (a : Atom N) (e : Exp) → Sound Held (a ↑ e) → Proper ν Held (a ↑ e ∷ [])
  one-proper a e h = record { in_order = (tt, tt); each = (h, tt) }

  pub rest-proper : (a : Atom N) (e : Exp) (p : Product N) → Proper ν Held (a ↑ e ∷ p) → Proper ν Held p
  rest-proper a e p h = record { in_order = h.in_order.1; each = h.each.1 }

  neg-sound : (a : Atom N) (e : Exp) → Sound Held (a ↑ e) → Sound Held (a ↑ neg e)
  neg-sound a e h = (h.0, neg-lowest e h.1, neg-zero e ∙ h.2)

  pub one-sound : (a : Atom N) → Held a → Sound Held (a ↑ one)
  one-sound a h = (h, one-lowest, refl)

  -- ══ Putting in is a homomorphism ══

  module _ (v : Atom N → Product N) (vp : (a : Atom N) → Held a → Proper ν Held (v a)) where
    power-proper : (a : Atom N) (e : Exp) → Sound Held (a ↑ e) → Proper ν Held (raiseE (v a) e)
    power-proper a e h = raise-proper ν law tells (v a) e (vp a h.0) h.1

    pub valued-proper : (p : Product N) → Every (Sound Held) p → Proper ν Held (valued ν v p)
    unfolding valued
    valued-proper [] h = scalar-proper ν law tells
    valued-proper (a ↑ e ∷ p) h = merge-proper ν law tells (raiseE (v a) e) (valued ν v p) (power-proper a e h.0) (valued-proper p h.1)

    valued-put : (a : Atom N) (s : Exp) (r : Product N) → Held a → Lowest s → valued ν v (put a s r) ≡ mergeE ν (raiseE (v a) s) (valued ν v r)
    unfolding valued
    valued-put a s r h k = go (isZero s) refl
      where
        go : (b : Bool) → isZero s ≡ b → valued ν v (put a s r) ≡ mergeE ν (raiseE (v a) s) (valued ν v r)
        go true z =
            rw (z, put)
            (sym (ap (λ (x : Product N). mergeE ν x (valued ν v r))
            (ap (raiseE (v a)) (zero-is-nought s k z) ∙ raise-nought ν law tells (v a) (vp a h)) ∙ scalar-merge ν (valued ν v r)))
        go false z = rw (z, put)

    valued_one : (a : Atom N) (e : Exp) (p : Product N) (m : Product N → Product N) → Sound Held (a ↑ e) → Every (Sound Held) p
        → ((q : Product N) → Every (Sound Held) q → valued ν v (m q) ≡ mergeE ν (valued ν v p) (valued ν v q))
        → (q : Product N) → Every (Sound Held) q → valued ν v (mergeOneE ν a e p m q) ≡ mergeE ν (valued ν v (a ↑ e ∷ p)) (valued ν v q)
    unfolding valued mergeOneE
    valued_one a e p m h i f [] k = sym (merge-scalar ν (valued ν v (a ↑ e ∷ p)))
    valued_one a e p m h i f (b ↑ d ∷ q) k = go (orderAtom ν a b) refl (valued_one a e p m h i f q k.1)
      where
        A : Product N
        A = raiseE (v a) e

        D : Product N
        D = raiseE (v b) d

        hA : Proper ν Held A
        hA = power-proper a e h

        hD : Proper ν Held D
        hD = power-proper b d k.0

        hp : Proper ν Held (valued ν v p)
        hp = valued-proper p i

        hq : Proper ν Held (valued ν v q)
        hq = valued-proper q k.1

        both : a ≡ b → mergeE ν (raiseE (v a) (plus e d)) (valued ν v (m q)) ≡ mergeE ν (mergeE ν A (valued ν v p)) (mergeE ν D (valued ν v q))
        both t =
            ap₂ (mergeE ν) (raise-plus ν law tells (v a) (vp a h.0) e d h.1 k.0.1 ∙ ap (λ (x : Atom N). mergeE ν A (raiseE (v x) d)) t) (f q k.1)
            ∙ exchange A D (valued ν v p) hA hD hp (valued ν v q) hq

        go : (o : Ordering) → orderAtom ν a b ≡ o → valued ν v (mergeOneE ν a e p m q) ≡ mergeE ν (valued ν v (a ↑ e ∷ p)) (valued ν v q)
            → valued ν v (mergeOneE ν a e p m (b ↑ d ∷ q)) ≡ mergeE ν (valued ν v (a ↑ e ∷ p)) (valued ν v (b ↑ d ∷ q))
        go Ordering.lt o r =
            rw (o, mergeOneE)
            (ap (mergeE ν A) (f (b ↑ d ∷ q) k)
            ∙ sym (merge-assoc ν law tells A (valued ν v p) (mergeE ν D (valued ν v q)) hA hp (merge-proper ν law tells D (valued ν v q) hD hq)))
        go Ordering.eq o r =
            rw (o, mergeOneE) (valued-put a (plus e d) (m q) h.0 (plus-in-lowest e d h.1 k.0.1) ∙ both (tells.same a b h.0 k.0.0 o))
        go Ordering.gt o r =
            rw (o, mergeOneE) (ap (mergeE ν D) r ∙ front (mergeE ν A (valued ν v p)) D (valued ν v q) (merge-proper ν law tells A (valued ν v p) hA hp) hD hq)

    pub valued-merge : (p q : Product N) → Every (Sound Held) p → Every (Sound Held) q → valued ν v (mergeE ν p q) ≡ mergeE ν (valued ν v p) (valued ν v q)
    unfolding valued mergeE
    valued-merge [] q h k = refl
    valued-merge (a ↑ e ∷ p) q h k = valued_one a e p (mergeE ν p) h.0 h.1 (λ r x. valued-merge p r h.1 x) q k

    pub valued-raise : (p : Product N) (k : Exp) → Every (Sound Held) p → Lowest k → valued ν v (raiseE p k) ≡ raiseE (valued ν v p) k
    unfolding valued raiseE
    valued-raise [] k h l = refl
    valued-raise (a ↑ e ∷ p) k h l =
        valued-put a (mul e k) (raiseE p k) h.0.0 (mul-in-lowest e k h.0.1 l)
        ∙ ap₂ (mergeE ν) (raise-mul ν law tells (v a) (vp a h.0.0) e k h.0.1 l) (valued-raise p k h.1 l)
        ∙ sym (raise-merge ν law tells (raiseE (v a) e) (valued ν v p) (power-proper a e h.0) (valued-proper p h.1) k l)

    pub valued-inverse : (p : Product N) → Every (Sound Held) p → valued ν v (inverse p) ≡ inverse (valued ν v p)
    unfolding valued inverse
    valued-inverse [] h = refl
    valued-inverse (a ↑ e ∷ p) h =
        ap₂ (mergeE ν) (raise-neg ν law tells (v a) (vp a h.0.0) e h.0.1) (valued-inverse p h.1)
        ∙ sym (inverse-merge ν law tells (raiseE (v a) e) (valued ν v p) (power-proper a e h.0) (valued-proper p h.1))

    pub valued-just : (a : Atom N) → Held a → valued ν v (a ↑ one ∷ []) ≡ v a
    unfolding valued
    valued-just a h = merge-scalar ν (raiseE (v a) one) ∙ raise-one ν law tells (v a) (vp a h)

    -- a quotient that is worth nothing: both parts are worth the same
    pub valued-divided : (p q : Product N) → Every (Sound Held) p → Proper ν Held q → valued ν v (mergeE ν p (inverse q)) ≡ [] → valued ν v p ≡ valued ν v q
    valued-divided p q h k e =
        let P = valued ν v p in
        let Q = valued ν v q in
        let hP = valued-proper p h in
        let hQ = valued-proper q k.each in
        let hI = inverse-proper ν law tells Q hQ in
        let nothing : mergeE ν P (inverse Q) ≡ [] = sym
        (valued-merge p (inverse q) h (inverse-proper ν law tells q k).each ∙ ap (mergeE ν P) (valued-inverse q k.each)) ∙ e in
        sym (merge-scalar ν P)
        ∙ ap (mergeE ν P) (sym (merge-comm ν law tells (inverse Q) Q hI hQ ∙ merge-inverse ν law tells Q hQ))
        ∙ sym (merge-assoc ν law tells P (inverse Q) Q hP hI hQ)
        ∙ ap (λ (x : Product N). mergeE ν x Q) nothing
        ∙ scalar-merge ν Q

  -- ══ What replacing does ══

  module _ (look : Look N) where
    pub change-proper : (p : Product N) → Every (Sound Held) p → Fits ν Held look p → Proper ν Held (change ν look p)
    unfolding change changedAt changedBy
    change-proper [] h f = scalar-proper ν law tells
    change-proper (base n ↑ e ∷ p) h f = change-proper p h.1 f
    change-proper (free o ↑ e ∷ p) h f = go (look o) refl (change-proper p h.1 f.1)
      where
        changed : (t : Ty N) → Dimension ν Held t → Proper ν Held (change ν look p) → Proper ν Held (changedBy ν (asProduct t) o e (change ν look p))
        changed t d r =
            rw (d.is, changedBy)
            (merge-proper ν law tells _ _
            (merge-proper ν law tells _ _ (one-proper (free o) (neg e) (neg-sound (free o) e h.0)) (raise-proper ν law tells d.product e d.proper h.0.1)) r)

        go : (t : Option (Ty N)) → look o ≡ t → Proper ν Held (change ν look p) → Proper ν Held (changedAt ν t o e (change ν look p))
        go none i r = r
        go (some t) i r = changed t (f.0.bound t i) r

    replace-changes : (p acc : Product N) → Every (Sound Held) p → Fits ν Held look p → Proper ν Held acc
        → replaceFactors ν exact look p acc ≡ got (mergeE ν acc (change ν look p))
    unfolding replaceFactors change changedAt changedBy inverse
    replace-changes [] acc h f k = ap got (sym (merge-scalar ν acc))
    replace-changes (base n ↑ e ∷ p) acc h f k = replace-changes p acc h.1 f k
    replace-changes (free o ↑ e ∷ p) acc h f k = go (look o) refl (λ acc' k'. replace-changes p acc' h.1 f.1 k')
      where
        rest : Proper ν Held (change ν look p)
        rest = change-proper p h.1 f.1

        step : (t : Ty N) (d : Dimension ν Held t)
            → ((acc' : Product N) → Proper ν Held acc' → replaceFactors ν exact look p acc' ≡ got (mergeE ν acc' (change ν look p)))
            → (asProduct t >>= λ d. divide ν exact acc (free o ↑ e ∷ []) >>= λ left. raise ν exact d e >>= λ more. multiply ν exact left more
            >>= λ acc'. replaceFactors ν exact look p acc')
            ≡ got (mergeE ν acc (changedBy ν (asProduct t) o e (change ν look p)))
        step t d r =
            let out : Proper ν Held (free o ↑ neg e ∷ []) = one-proper (free o) (neg e) (neg-sound (free o) e h.0) in
            let inn : Proper ν Held (raiseE d.product e) = raise-proper ν law tells d.product e d.proper h.0.1 in
            let left : Proper ν Held (mergeE ν acc (free o ↑ neg e ∷ [])) = merge-proper ν law tells acc _ k out in
            rw (d.is, divide-exact ν acc (free o ↑ e ∷ []), raise-exact ν d.product e, multiply-exact, changedBy, inverse)
            (r _ (merge-proper ν law tells _ _ left inn)
            ∙ ap got
            (ap (λ (x : Product N). mergeE ν x (change ν look p)) (merge-assoc ν law tells acc (free o ↑ neg e ∷ []) (raiseE d.product e) k out inn)
            ∙ merge-assoc ν law tells acc (mergeE ν (free o ↑ neg e ∷ []) (raiseE d.product e)) (change ν look p) k
            (merge-proper ν law tells _ _ out inn) rest))

        go : (t : Option (Ty N)) → look o ≡ t
            → ((acc' : Product N) → Proper ν Held acc' → replaceFactors ν exact look p acc' ≡ got (mergeE ν acc' (change ν look p)))
            → replaceFactors ν exact look (free o ↑ e ∷ p) acc ≡ got (mergeE ν acc (change ν look (free o ↑ e ∷ p)))
        go none i r = rw (i, replaceFactors, change) (r acc k)
        go (some t) i r = rw (i, replaceFactors, change) (step t (f.0.bound t i) r)

    -- the values of atoms are proper where the bound dimensions are
    pub record Proper-look : Type 0 where
      pub dimensions : (o : Open N) (t : Ty N) (d : Product N) → look o ≡ some t → asProduct t ≡ got d → Proper ν Held d

    pub value-proper : Proper-look → (a : Atom N) → Held a → Proper ν Held (value_of look a)
    unfolding value_of meantBy orSelf
    value-proper b (base n) h = one-proper (base n) one (one-sound (base n) h)
    value-proper b (free o) h = go (look o) refl
      where
        more : (t : Ty N) → look o ≡ some t → (r : Got (Product N)) → asProduct t ≡ r → Proper ν Held (orSelf r (free o))
        more t i (got d) j = b.dimensions o t d i j
        more t i (refused n) j = one-proper (free o) one (one-sound (free o) h)

        go : (t : Option (Ty N)) → look o ≡ t → Proper ν Held (meantBy t (free o))
        go none i = one-proper (free o) one (one-sound (free o) h)
        go (some t) i = more t i (asProduct t) refl

  cons-merge : (a : Atom N) (e : Exp) (p : Product N) → Before ν a p → mergeE ν (a ↑ e ∷ []) p ≡ a ↑ e ∷ p
  unfolding mergeE mergeOneE
  cons-merge a e [] h = refl
  cons-merge a e (b ↑ d ∷ q) h = rw (h.0, mergeOneE)

  raise-just : (a : Atom N) (e : Exp) → Sound Held (a ↑ e) → raiseE (a ↑ one ∷ []) e ≡ a ↑ e ∷ []
  unfolding raiseE
  raise-just a e h = ap (λ (x : Exp). put a x []) (mul-comm' one e ∙ mul-one' e h.1) ∙ rw (h.2, put)

  -- a factor that stays, and one that goes
  module _ (a : Atom N) (e : Exp) (p W Δ : Product N) (h : Proper ν Held (a ↑ e ∷ p)) (k : Proper ν Held Δ) (i : W ≡ mergeE ν p Δ) where
    stays : mergeE ν (raiseE (a ↑ one ∷ []) e) W ≡ mergeE ν (a ↑ e ∷ p) Δ
    stays =
        ap₂ (mergeE ν) (raise-just a e h.each.0) i
        ∙ sym (merge-assoc ν law tells (a ↑ e ∷ []) p Δ (one-proper a e h.each.0) (rest-proper a e p h) k)
        ∙ ap (λ (x : Product N). mergeE ν x Δ) (cons-merge a e p h.in_order.0)

    goes : (D : Product N) → Proper ν Held D → mergeE ν D W ≡ mergeE ν (a ↑ e ∷ p) (mergeE ν (mergeE ν (a ↑ neg e ∷ []) D) Δ)
    unfolding inverse
    goes D j =
        let one' = one-proper a e h.each.0 in
        let out = one-proper a (neg e) (neg-sound a e h.each.0) in
        sym (
        ap (λ (x : Product N). mergeE ν x (mergeE ν (mergeE ν (a ↑ neg e ∷ []) D) Δ)) (sym (cons-merge a e p h.in_order.0))
        ∙ exchange (a ↑ e ∷ []) p (mergeE ν (a ↑ neg e ∷ []) D) one' (rest-proper a e p h) (merge-proper ν law tells _ D out j) Δ k
        ∙ ap₂ (mergeE ν)
        (sym (merge-assoc ν law tells (a ↑ e ∷ []) (a ↑ neg e ∷ []) D one' out j)
        ∙ ap (λ (x : Product N). mergeE ν x D) (merge-inverse ν law tells (a ↑ e ∷ []) one')
        ∙ scalar-merge ν D)
        (sym i)
        )

  module _ (look : Look N) where
    -- the product of the bound dimensions, and replacing
    valued-changes : (p : Product N) → Proper ν Held p → Fits ν Held look p → valued ν (value_of look) p ≡ mergeE ν p (change ν look p)
    unfolding valued change changedAt changedBy value_of meantBy orSelf mergeE
    valued-changes [] h f = refl
    valued-changes (base n ↑ e ∷ p) h f =
        stays (base n) e p (valued ν (value_of look) p) (change ν look p) h (change-proper look p h.each.1 f) (valued-changes p (rest-proper (base n) e p h) f)
    valued-changes (free o ↑ e ∷ p) h f = go (look o) refl (valued-changes p (rest-proper (free o) e p h) f.1)
      where
        rest : Proper ν Held (change ν look p)
        rest = change-proper look p h.each.1 f.1

        bound : (t : Ty N) → Dimension ν Held t → valued ν (value_of look) p ≡ mergeE ν p (change ν look p)
            → mergeE ν (raiseE (orSelf (asProduct t) (free o)) e) (valued ν (value_of look) p)
            ≡ mergeE ν (free o ↑ e ∷ p) (changedBy ν (asProduct t) o e (change ν look p))
        bound t d r = rw (d.is, orSelf, changedBy)
            (goes (free o) e p (valued ν (value_of look) p) (change ν look p) h rest r (raiseE d.product e)
            (raise-proper ν law tells d.product e d.proper h.each.0.1))

        go : (t : Option (Ty N)) → look o ≡ t → valued ν (value_of look) p ≡ mergeE ν p (change ν look p)
            → mergeE ν (raiseE (meantBy t (free o)) e) (valued ν (value_of look) p) ≡ mergeE ν (free o ↑ e ∷ p) (changedAt ν t o e (change ν look p))
        go none i r = stays (free o) e p (valued ν (value_of look) p) (change ν look p) h rest r
        go (some t) i r = bound t (f.0.bound t i) r

    pub replace-exact : (p : Product N) → Proper ν Held p → Fits ν Held look p → replaceProduct ν exact look p ≡ got (valued ν (value_of look) p)
    unfolding replaceProduct
    replace-exact p h f = replace-changes look p p h.each f h ∙ ap got (sym (valued-changes p h f))

    -- replacing by bindings that v makes true keeps the worth under v
    module _ (v : Atom N → Product N) (vp : (a : Atom N) → Held a → Proper ν Held (v a)) where
      -- what is bound to a dimension is worth it
      abbrev Kept : Open N → Type 0
      Kept o = (t : Ty N) (d : Product N) → look o ≡ some t → asProduct t ≡ got d → valued ν v d ≡ v (free o)

      change-worth : (p : Product N) → Every (Sound Held) p → Fits ν Held look p → All Kept (collect openOfFactor p) → valued ν v (change ν look p) ≡ []
      unfolding valued change changedAt changedBy inverse collect
      change-worth [] h f kept = refl
      change-worth (base n ↑ e ∷ p) h f kept = change-worth p h.1 f kept
      change-worth (free o ↑ e ∷ p) h f kept = go (look o) refl (change-worth p h.1 f.1 (λ u m. kept u (Memᴰ.tail m)))
        where
          rest : Proper ν Held (change ν look p)
          rest = change-proper look p h.1 f.1

          bound : (t : Ty N) → look o ≡ some t → Dimension ν Held t → valued ν v (change ν look p) ≡ []
              → valued ν v (changedBy ν (asProduct t) o e (change ν look p)) ≡ []
          bound t i d r =
              let X = raiseE (v (free o)) e in
              let hX : Proper ν Held X = raise-proper ν law tells (v (free o)) e (vp (free o) h.0.0) h.0.1 in
              let hI = inverse-proper ν law tells X hX in
              let out = one-proper (free o) (neg e) (neg-sound (free o) e h.0) in
              let inn = raise-proper ν law tells d.product e d.proper h.0.1 in
              rw (d.is, changedBy)
              (valued-merge v vp (mergeE ν (free o ↑ neg e ∷ []) (raiseE d.product e)) (change ν look p) (merge-proper ν law tells _ _ out inn).each rest.each
              ∙ ap₂ (mergeE ν)
              (valued-merge v vp (free o ↑ neg e ∷ []) (raiseE d.product e) out.each inn.each
              ∙ ap₂ (mergeE ν)
              (merge-scalar ν (raiseE (v (free o)) (neg e)) ∙ raise-neg ν law tells (v (free o)) (vp (free o) h.0.0) e h.0.1)
              (valued-raise v vp d.product e d.proper.each h.0.1 ∙ ap (λ (x : Product N). raiseE x e) (kept o in_head t d.product i d.is))
              ∙ merge-comm ν law tells (inverse X) X hI hX
              ∙ merge-inverse ν law tells X hX)
              r
              ∙ scalar-merge ν [])

          go : (t : Option (Ty N)) → look o ≡ t → valued ν v (change ν look p) ≡ [] → valued ν v (changedAt ν t o e (change ν look p)) ≡ []
          go none i r = r
          go (some t) i r = bound t i (f.0.bound t i) r

      pub replace-worth : (p q : Product N) → Proper ν Held p → Fits ν Held look p → All Kept (collect openOfFactor p)
          → replaceProduct ν exact look p ≡ got q → valued ν v q ≡ valued ν v p
      unfolding replaceProduct
      replace-worth p q h f kept e =
          let i : mergeE ν p (change ν look p) ≡ q = let j : got (mergeE ν p (change ν look p)) ≡ got q = sym (replace-changes look p p h.each f h) ∙ e in cc in
          ap (valued ν v) (sym i)
          ∙ valued-merge v vp p (change ν look p) h.each (change-proper look p h.each f).each
          ∙ ap (mergeE ν (valued ν v p)) (change-worth p h.each f kept)
          ∙ merge-scalar ν (valued ν v p)

  -- ══ The other side of an equal-scalar ══

  other-is : (k i : Exp) → inverted k ≡ some i → (a : Atom N) (j : Exp) (f : Factor N) → otherSide exact k (a ↑ j) ≡ got f → f ≡ a ↑ mul (neg j) i
  unfolding otherSide quotient times
  other-is k i n a j f e = let z : got (a ↑ mul (neg j) i) ≡ got f = rw n at e in cc

  -- each power j becomes -j/k: raised to k again, that is the inverse
  pub other-raised : (k i : Exp) → Lowest k → inverted k ≡ some i → (p q : Product N) → Every (Sound Held) p → each (otherSide exact k) p ≡ got q
      → raiseE q k ≡ inverse p
  unfolding each raiseE inverse
  other-raised k i l n [] q h e = let z : [] ≡ q = cc in rw (sym z)
  other-raised k i l n (a ↑ j ∷ p) q h e =
      let t = each-parts (otherSide exact k) (a ↑ j) p q e in
      let first : t.first ≡ a ↑ mul (neg j) i = other-is k i n a j t.first t.gave in
      let power : mul (mul (neg j) i) k ≡ neg j =
      mul-assoc' (neg j) i k (neg-lowest j h.0.1) (inverted-lowest k i l n) l
      ∙ ap (mul (neg j)) (mul-comm' i k ∙ mul-inverted k i l n) ∙ mul-one' (neg j) (neg-lowest j h.0.1) in
      ap (λ (x : Product N). raiseE x k) (sym t.both ∙ ap (λ (f : Factor N). f ∷ t.second) first)
      ∙ ap (λ (x : Exp). put a x (raiseE t.second k)) power
      ∙ rw (neg-zero j ∙ h.0.2, put) (ap (λ (x : Product N). a ↑ neg j ∷ x) (other-raised k i l n p t.second h.1 t.then))
