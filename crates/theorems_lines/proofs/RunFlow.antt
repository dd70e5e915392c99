-- The set of a closed line that runs to its end: each variable will be bound to the type that the run has for its step, and every constraint comes out
-- true. Replacing keeps it so, or meets 7 or 8.
use Rattle.std.specs.Prelude.{◌≡◌, Bool, ◌⊎◌, leb, length}
use Rattle.std.proofs.Math.Path.{refl, ap, sym, subst}
use Rattle.std.proofs.Common.{ap₂, ◌∙◌, inl, inr}
use Rattle.std.proofs.Math.Bool.{true, false}
use Rattle.std.proofs.Math.Option.{Option, none, some}
use mathlib.Core.List.Memᴰ
use mathlib.Core.List.{List, [], ◌∷◌, Memᴰ, ◌++◌}
use Prim.Native.Nat.{Ordering}
use Prim.Native.Nat.{ℕ, zero, suc}
use Rattle.rules.specs.Base.{Got, got, refused, ◌>>=◌, bounded, exact, is_yes, each, keep, within, allow, sized}
use Rattle.rules.specs.Exponents.{Exp, Exp-dec, one}
use Rattle.rules.specs.Trees.{var, Atom, free, ◌↑◌, Product, Names, Ty, opened, dim, Con, equal, isDim, Binding, ◌≔◌, orderAtom, opens, opensCon}
use Rattle.rules.specs.Plain.{plain}
use Rattle.rules.specs.Products.{multiply, raise}
use Rattle.rules.specs.Replacing.{Look, asProduct, replaceTy, replaceCon, replaceBinding, bindings}
use Rattle.rules.specs.Rounds.{bind, done, State, trySatisfy, taken, sizeState, depthState, limited, firstStep, perform, performed, round}
use Rattle.rules.specs.Solving.{Answer, accepted, stopped, finished, finish, after, run, solve, enough}
use Rattle.laws.specs.Order.{Lawful, Tells}
use Rattle.laws.specs.Exact.{OfLimits, Below}
use Rattle.laws.proofs.Exact.{multiply-below, raise-below}
use Rattle.laws.specs.ExactProducts.{mergeE, raiseE}
use Rattle.laws.proofs.ExactProducts.{scalar-merge, multiply-exact, raise-exact}
use Rattle.laws.specs.Fractions.{Lowest}
use Rattle.laws.proofs.Fractions.{one-lowest}
use Rattle.laws.specs.Powers.{Proper}
use Rattle.laws.proofs.Powers.{raise-one, raise-proper, merge-comm}
use Rattle.laws.specs.Lists.{All, all_nil, all_cons, in_head}
use Rattle.laws.proofs.Lists.{all_append, yes-is, got≢refused}
use Rattle.laws.proofs.Occurs.{each_opens, opens-each, raise-on}
use Rattle.theorems_soundness.specs.Claims.{type_of}
use Rattle.rules.specs.Lines.{twoFactors}
use Rattle.theorems_lines.proofs.Shut.{Never, Shut, equal-shut, shut-same, shut-con}
use Rattle.theorems_lines.proofs.Truly.{Truly, Parts, try-true}
use Rattle.theorems_lines.proofs.Lockstep.{defines}
use Rattle.theorems_lines.proofs.Putting.{
  halfGot,
  besideBase,
  besideOne,
  half-put,
  half-stays,
  left-put,
  right-put,
  none-put,
  at_bound,
  at_other,
  open-put,
  open_stays,
  same-order,
}

-- ══ A value, or 7 or 8 ══

pub data Fares {A : Type 0} (R : A → Type 0) : Got A → Type 0 where
  meets : (n : ℕ) → OfLimits n → Fares R (refused n)
  fine : {a : A} → R a → Fares R (got a)

pub onward : {A B : Type 0} {R : A → Type 0} {S : B → Type 0} {m : Got A} {f : A → Got B} → Fares R m → ((a : A) → R a → Fares S (f a)) → Fares S (m >>= f)
onward (meets n l) s = meets n l
onward (fine {a} r) s = s a r

fares : {A : Type 0} (m n : Got A) (v : A) → Below m n → n ≡ got v → Fares (λ a. a ≡ v) m
fares (got a) n v b e = let i : got a ≡ got v = sym (b.gives a refl) ∙ e in let j : a ≡ v = cc in fine j
fares (refused k) n v b e = go (b.refuses k refl)
  where
    go : (n ≡ refused k) ⊎ OfLimits k → Fares (λ a. a ≡ v) (refused k)
    go (inl i) = absurd (got≢refused (sym e ∙ i))
    go (inr i) = meets k i

allowed : {A : Type 0} (b : Bool) (a : A) → Fares (λ c. c ≡ a) (allow b 8 a)
allowed true a = fine refl
allowed false a = meets 8 (inr refl)

module _ {N : Type 0} (ν : Names N) (law : Lawful (orderAtom ν)) {Held : Atom N → Type 0} (tells : Tells Held (orderAtom ν)) where
  -- ══ Constraints and the types that their variables will have ══

  pub data RSide (K : List (N × Ty N)) : Ty N → Ty N → Type 0 where
    shut : (t : Ty N) → Shut t → RSide K t t
    pair : (x : N) (t : Ty N) → Memᴰ (x, t) K → RSide K (opened (var x)) t

  pub data RTerm (K : List (N × Ty N)) : Ty N → Ty N → Type 0 where
    side : {s t : Ty N} → RSide K s t → RTerm K s t
    half : (x : N) (e : Exp) (p d : Product N) → Memᴰ (x, dim d) K → Lowest e → Shut (dim p) → Proper ν Held p → Proper ν Held d
        → RTerm K (dim (free (var x) ↑ e ∷ p)) (dim (mergeE ν p (raiseE d e)))
    two : (l r : N) (e : Exp) (p q : Product N) → Memᴰ (l, dim p) K → Memᴰ (r, dim q) K → ¬ (ν.order l r ≡ Ordering.eq) → Lowest e → Proper ν Held p
        → Proper ν Held q → RTerm K (dim (twoFactors ν l r e)) (dim (mergeE ν p (raiseE q e)))

  pub data RLine (K : List (N × Ty N)) : Con N → Type 0 where
    truly : (c : Con N) → Truly c → RLine K c
    dimension : {s : Ty N} (d : Product N) → RSide K s (dim d) → RLine K (isDim s)
    equality : {s t u w : Ty N} → RSide K s u → RSide K t w → plain u false ≡ plain w false → RLine K (equal s t)

  abbrev pub Other : N → N × Ty N → Type 0
  Other v p = ¬ (p.0 ≡ v)

  pub data RFlow : List (N × Ty N) → List (Con N) → Type 0 where
    end : {K : List (N × Ty N)} → RFlow K []
    beside : {K : List (N × Ty N)} {c : Con N} {cs : List (Con N)} → RLine K c → RFlow K cs → RFlow K (c ∷ cs)
    define : {K : List (N × Ty N)} (v : N) (u : Ty N) {t : Ty N} {cs : List (Con N)} → Shut u → All (Other v) K → RTerm K t u → RFlow ((v, u) ∷ K) cs
        → RFlow K (equal (opened (var v)) t ∷ cs)

  -- ══ Replacing a variable by its type ══

  raised : (p : Product N) (e : Exp) → Fares (λ r. r ≡ raiseE p e) (raise ν bounded p e)
  raised p e = fares (raise ν bounded p e) (raise ν exact p e) (raiseE p e) (raise-below ν p e) (raise-exact ν p e)

  multiplied : (p q : Product N) → Fares (λ r. r ≡ mergeE ν p q) (multiply ν bounded p q)
  multiplied p q = fares (multiply ν bounded p q) (multiply ν exact p q) (mergeE ν p q) (multiply-below ν p q) (multiply-exact ν p q)

  as-dim : (t : Ty N) (d : Product N) → t ≡ dim d → asProduct t ≡ got d
  unfolding asProduct
  as-dim t d e = rw e

  raised-shut : (d : Product N) (e : Exp) → Shut (dim d) → Shut (dim (raiseE d e))
  unfolding opens
  raised-shut d e k = each_opens Never (raiseE d e) (raise-on Never ν d e (opens-each Never d k))

  module _ (t : Ty N) (ts : Shut t) (d : Product N) (is : t ≡ dim d) (dp : Proper ν Held d) where
    base-fares : (e : Exp) (p : Product N) → Fares (λ q. q ≡ mergeE ν p (raiseE d e)) (besideBase ν law t ts e p)
    base-fares e p =
        rw (as-dim t d is)
        (onward (allowed (leb (length p) 64) p)
        (λ left i. onward (raised d e)
        (λ more j. subst (λ (z : Product N). Fares (λ q. q ≡ z) (multiply ν bounded left more)) (ap₂ (mergeE ν) i j) (multiplied left more))))

    half-fares : (e : Exp) (p : Product N) → Fares (λ u. u ≡ dim (mergeE ν p (raiseE d e))) (halfGot ν law t ts e p)
    unfolding halfGot
    half-fares e [] = go (is_yes (Exp-dec e one)) refl
      where
        go : (b : Bool) → is_yes (Exp-dec e one) ≡ b → Fares (λ u. u ≡ dim (mergeE ν [] (raiseE d e))) (halfGot ν law t ts e [])
        go true i = rw (i, halfGot) (fine
            (is ∙ ap dim (sym (scalar-merge ν (raiseE d e) ∙ ap (raiseE d) (yes-is (Exp-dec e one) i) ∙ raise-one ν law tells d dp))))
        go false i = rw (i, halfGot) (onward (base-fares e []) (λ q j. fine (ap dim j)))
    half-fares e (f ∷ p) = onward (base-fares e (f ∷ p)) (λ q j. fine (ap dim j))

    one-fares : (y : N) (j i : Exp) → Fares (λ q. q ≡ free (var y) ↑ j ∷ raiseE d i) (besideOne ν law t ts y j i)
    one-fares y j i = rw (as-dim t d is)
        (onward (raised d i) (λ more k. subst
        (λ (z : Product N). Fares (λ q. q ≡ free (var y) ↑ j ∷ z) (within bounded (suc (length more)) 64 (free (var y) ↑ j ∷ more))) k
        (allowed (leb (suc (length more)) 64) (free (var y) ↑ j ∷ more))))

  -- ══ The variable that is bound, taken out ══

  module _ (t : Ty N) (ts : Shut t) (v : N) where
    abbrev σ : Look N
    σ = bindings ν (v ≔ t ∷ [])

    abbrev Which : List (N × Ty N) → N → Ty N → Type 0
    Which K x u = ((x ≡ v) × (u ≡ t)) ⊎ (Memᴰ (x, u) K × (¬ (x ≡ v)))

    pub record Without (M K : List (N × Ty N)) : Type 0 where
      pub here : Memᴰ (v, t) M
      pub splits : (x : N) (u : Ty N) → Memᴰ (x, u) M → Which K x u
      pub within' : All (λ p. Memᴰ p M) K

    module _ {K : List (N × Ty N)} where
      as-terms : {u : Ty N} {m : Got (Ty N)} → Fares (λ s'. RSide K s' u) m → Fares (λ s'. RTerm K s' u) m
      as-terms (meets n l) = meets n l
      as-terms (fine r) = fine (side r)

      as-closed : {u : Ty N} {m : Got (Ty N)} → Shut u → Fares (λ s'. s' ≡ u) m → Fares (λ s'. RTerm K s' u) m
      as-closed h (meets n l) = meets n l
      as-closed {u} h (fine e) = fine (subst (λ (z : Ty N). RTerm K z u) (sym e) (side (shut u h)))

      -- what is left of two variables when one is replaced
      left-half : (l r : N) (e : Exp) (p q g : Product N) → Memᴰ (r, dim q) K → Lowest e → Shut (dim p) → Proper ν Held p → Proper ν Held q
          → g ≡ free (var r) ↑ e ∷ raiseE p one → RTerm K (dim g) (dim (mergeE ν p (raiseE q e)))
      left-half l r e p q g k low h pp qp z =
          let y : raiseE p one ≡ p = raise-one ν law tells p pp in
          subst (λ (x : Product N). RTerm K (dim x) (dim (mergeE ν p (raiseE q e)))) (sym (z ∙ ap (λ (x : Product N). free (var r) ↑ e ∷ x) y))
          (half r e p q k low h pp qp)

      right-half : (l r : N) (e : Exp) (p q g : Product N) → Memᴰ (l, dim p) K → Lowest e → Shut (dim q) → Proper ν Held p → Proper ν Held q
          → g ≡ free (var l) ↑ one ∷ raiseE q e → RTerm K (dim g) (dim (mergeE ν p (raiseE q e)))
      right-half l r e p q g k low h pp qp z =
          let rp = raise-proper ν law tells q e qp low in
          let y : mergeE ν (raiseE q e) (raiseE p one) ≡ mergeE ν p (raiseE q e) = ap (mergeE ν (raiseE q e)) (raise-one ν law tells p pp)
          ∙ merge-comm ν law tells (raiseE q e) p rp pp in
          subst (λ (x : Product N). RTerm K (dim x) (dim (mergeE ν p (raiseE q e)))) (sym z)
          (subst (λ (x : Product N). RTerm K (dim (free (var l) ↑ one ∷ raiseE q e)) (dim x)) y
          (half l one (raiseE q e) p k one-lowest (raised-shut q e h) rp pp))

    module _ {M K : List (N × Ty N)} (w : Without M K) where
      side-put : {s u : Ty N} → RSide M s u → Fares (λ s'. RSide K s' u) (replaceTy ν bounded σ s)
      side-put (shut u h) = rw (shut-same ν bounded σ u h) (fine (shut u h))
      side-put (pair x u m) = go (w.splits x u m)
        where
          go : Which K x u → Fares (λ s'. RSide K s' u) (replaceTy ν bounded σ (opened (var x)))
          go (inl (i, j)) = rw (open-put ν law t ts σ x (at_bound ν law t ts v x i))
              (subst (λ (z : Ty N). Fares (λ s'. RSide K s' z) (got t)) (sym j) (fine (shut t ts)))
          go (inr (k, d)) = rw (open_stays ν law t ts σ x (at_other ν law t ts v x d)) (fine (pair x u k))

      term-put : {s u : Ty N} → Shut u → RTerm M s u → Fares (λ s'. RTerm K s' u) (replaceTy ν bounded σ s)
      term-put us (side s) = as-terms (side-put s)
      term-put us (half x e p d m low h pp dp) = go (w.splits x (dim d) m)
        where
          go : Which K x (dim d) → Fares (λ s'. RTerm K s' (dim (mergeE ν p (raiseE d e)))) (replaceTy ν bounded σ (dim (free (var x) ↑ e ∷ p)))
          go (inl (i, j)) =
              rw (half-put ν law t ts σ x e p low h (at_bound ν law t ts v x i))
              (as-closed us (half-fares t ts d (sym j) dp e p))
          go (inr (k, n)) = rw (half-stays ν law t ts σ x e p h (at_other ν law t ts v x n)) (fine (half x e p d k low h pp dp))
      term-put us (two l r e p q m n o low pp qp) = go (w.splits l (dim p) m) (w.splits r (dim q) n)
        where
          go : Which K l (dim p) → Which K r (dim q)
              → Fares (λ s'. RTerm K s' (dim (mergeE ν p (raiseE q e)))) (replaceTy ν bounded σ (dim (twoFactors ν l r e)))
          go (inl (i, j)) (inl (i', j')) = absurd (o (same-order ν law l r (i ∙ sym i')))
          go (inl (i, j)) (inr (k, x)) =
              rw (left-put ν law t ts σ l r e low o (at_bound ν law t ts v l i) (at_other ν law t ts v r x))
              (onward (one-fares t ts p (sym j) pp r e one) (λ g z. fine (left-half l r e p q g k low (subst Shut (sym j) ts) pp qp z)))
          go (inr (k, x)) (inl (i, j)) =
              rw (right-put ν law t ts σ l r e low o (at_bound ν law t ts v r i) (at_other ν law t ts v l x))
              (onward (one-fares t ts q (sym j) qp l one e) (λ g z. fine (right-half l r e p q g k low (subst Shut (sym j) ts) pp qp z)))
          go (inr (k, x)) (inr (k', x')) = rw (none-put ν law t ts σ l r e low o (at_other ν law t ts v l x) (at_other ν law t ts v r x'))
              (fine (two l r e p q k k' o low pp qp))

      line-put : {c : Con N} → RLine M c → Fares (RLine K) (replaceCon ν bounded σ c)
      unfolding replaceCon
      line-put (truly c h) = rw (shut-con ν bounded σ c h.closed) (fine (truly c h))
      line-put (dimension d s) = onward (side-put s) (λ s' r. fine (dimension d r))
      line-put (equality s t e) = onward (side-put s) (λ s' r. onward (side-put t) (λ t' q. fine (equality r q e)))

    wide : {K : List (N × Ty N)} {p : N × Ty N} (y : N) (z : Ty N) → Which K y z → Which (p ∷ K) y z
    wide y z (inl i) = inl i
    wide y z (inr (m, d)) = inr (Memᴰ.tail m, d)

    wider : {M K : List (N × Ty N)} (x : N) (u : Ty N) → Without M K → All (Other x) M → Without ((x, u) ∷ M) ((x, u) ∷ K)
    wider {M} {K} x u w d = record {
      here = Memᴰ.tail w.here;
      splits = λ y z m. go y z (Memᴰ.cases_cons m);
      within' = all_cons _ in_head (λ p m. Memᴰ.tail (w.within' p m));
    }
      where
        go : (y : N) (z : Ty N) → (◌≡◌ {A = N × Ty N} (y, z) (x, u)) ⊎ Memᴰ (y, z) M → Which ((x, u) ∷ K) y z
        go y z (inl e) = inr (Memᴰ.head e, λ i. d (v, t) w.here (sym i ∙ ap (λ (p : N × Ty N). p.0) e))
        go y z (inr m) = wide y z (w.splits y z m)

    pub flow-put : {M K : List (N × Ty N)} {cs : List (Con N)} → Without M K → RFlow M cs → Fares (RFlow K) (each (replaceCon ν bounded σ) cs)
    unfolding each replaceCon
    flow-put w end = fine end
    flow-put w (beside c f) = onward (line-put w c) (λ a r. onward (flow-put w f) (λ as' q. fine (beside r q)))
    flow-put {M} {K} w (define x u {t = s} {cs = cs} us d tm f) =
        rw (open_stays ν law t ts σ x (at_other ν law t ts v x (λ i. d (v, t) w.here (sym i)))) (go (term-put w us tm) (flow-put (wider x u w d) f))
      where
        go : {m : Got (Ty N)} {n : Got (List (Con N))} → Fares (λ s'. RTerm K s' u) m → Fares (RFlow ((x, u) ∷ K)) n
            → Fares (RFlow K) (m >>= (λ a. got (equal (opened (var x)) a)) >>= λ c. n >>= λ cs. got (c ∷ cs))
        go (meets n l) q = meets n l
        go (fine r) (meets n l) = meets n l
        go (fine r) (fine q) = fine (define x u us (λ y m. d y (w.within' y m)) r q)

  -- the one variable that was defined before is the one that is bound
  pub only : (t : Ty N) (ts : Shut t) (v : N) → Without t ts v ((v, t) ∷ []) []
  only t ts v = record {
    here = in_head;
    splits = λ x u m. inl (ap (λ (p : N × Ty N). p.0) (Memᴰ.eq_of_singleton m), ap (λ (p : N × Ty N). p.1) (Memᴰ.eq_of_singleton m));
    within' =
        all_nil _;
  }

  -- ══ Rounds ══

  pub record Good (s : State N) : Type 0 where
    pub flows : RFlow [] s.cons
    pub closed-binds : All (λ b. Shut (type_of b)) s.binds

  limits : (n d : ℕ) (s : State N) → Good s → Fares Good (sized bounded n d s)
  limits n d s g = go (leb n 2048) (leb d 64)
    where
      go : (b c : Bool) → Fares Good (allow b 8 s >>= λ s. allow c 8 s)
      go false c = meets 8 (inr refl)
      go true false = meets 8 (inr refl)
      go true true = fine g

  limited-good : (s : State N) → Good s → Fares Good (limited bounded s)
  unfolding limited
  limited-good s g = limits (sizeState s) (depthState s) s g

  side-closed : {s u : Ty N} → RSide [] s u → s ≡ u
  side-closed (shut t h) = refl
  side-closed (pair x t m) = absurd (Memᴰ.not-nil m)

  side-shut : {s u : Ty N} → RSide [] s u → Shut s
  side-shut (shut t h) = h
  side-shut (pair x t m) = absurd (Memᴰ.not-nil m)

  term-closed : {s u : Ty N} → RTerm [] s u → s ≡ u
  term-closed (side s) = side-closed s
  term-closed (half x e p d m low h pp dp) = absurd (Memᴰ.not-nil m)
  term-closed (two l r e p q m n o low pp qp) = absurd (Memᴰ.not-nil m)

  line-truly : {c : Con N} → RLine [] c → Truly c
  unfolding opensCon
  line-truly (truly c h) = h
  line-truly (dimension d s) = record { closed = side-shut s; holds = (d, side-closed s) }
  line-truly (equality {s} {t} {u} {w} l r e) =
      record {
        closed = equal-shut s t (side-shut l) (side-shut r);
        holds = ap (λ (x : Ty N). plain x false) (side-closed l) ∙ e
            ∙ sym (ap (λ (x : Ty N). plain x false) (side-closed r));
      }

  flow-more : {K : List (N × Ty N)} {cs : List (Con N)} (new : List (Con N)) → All Truly new → RFlow K cs → RFlow K (cs ++ new)
  flow-more [] a end = end
  flow-more (c ∷ new) a end = beside (truly c (a c in_head)) (flow-more new (λ d m. a d (Memᴰ.tail m)) end)
  flow-more new a (beside l f) = beside l (flow-more new a f)
  flow-more new a (define v u us d t f) = define v u us d t (flow-more new a f)

  binds-stay : (look : Look N) (bs : List (Binding N)) → All (λ b. Shut (type_of b)) bs → each (replaceBinding ν bounded look) bs ≡ got bs
  unfolding each replaceBinding
  binds-stay look [] h = refl
  binds-stay look (x ≔ t ∷ bs) h = rw (shut-same ν bounded look t (h (x ≔ t) in_head), binds-stay look bs (λ b m. h b (Memᴰ.tail m)))

  -- no constraint is left; or the state goes on
  pub data Goes (s : State N) : Option (State N) → Type 0 where
    over : s.cons ≡ [] → Goes s none
    on : {r : State N} → Good r → Goes s (some r)

  goes_on : {s : State N} {m : Got (State N)} → Fares Good m → Fares (Goes s) (m >>= λ r. got (some r))
  goes_on (meets n l) = meets n l
  goes_on (fine g) = fine (on g)

  bound-good : (v : N) (u : Ty N) (us : Shut u) {cs : List (Con N)} (bs : List (Binding N)) → All (λ b. Shut (type_of b)) bs → RFlow ((v, u) ∷ []) cs
      → Fares Good (perform ν bounded bs (bind v u) cs)
  unfolding perform
  bound-good v u us {cs} bs h f =
      onward (flow-put u us v (only u us v) f) (λ cs' g.
      rw (binds-stay (bindings ν (v ≔ u ∷ [])) bs h)
      (limited-good (record { cons = cs'; binds = bs ++ v ≔ u ∷ [] }) (record { flows = g; closed-binds = all_append _ bs h (all_cons _ us (all_nil _)) })))

  -- the first constraint is true, or a definition: a rule applies to it
  taken-good : (s : State N) → All (λ b. Shut (type_of b)) s.binds → (c : Con N) (cs : List (Con N)) → RFlow [] cs
      → (trySatisfy ν bounded c ≡ got done) ⊎ Parts ν (trySatisfy ν bounded c)
      → Fares (Goes s) (firstStep ν bounded (c ∷ cs) >>= λ f. performed ν bounded s.binds f)
  unfolding firstStep taken performed perform
  taken-good s h c cs f (inl i) = rw i (goes_on (limited-good (record { cons = cs; binds = s.binds }) (record { flows = f; closed-binds = h })))
  taken-good s h c cs f (inr p) = rw p.is
      (goes_on (limited-good (record { cons = cs ++ p.new; binds = s.binds }) (record { flows = flow-more p.new p.truly f; closed-binds = h })))

  first : (s : State N) → All (λ b. Shut (type_of b)) s.binds → {cs : List (Con N)} → s.cons ≡ cs → RFlow [] cs
      → Fares (Goes s) (firstStep ν bounded cs >>= λ f. performed ν bounded s.binds f)
  unfolding firstStep taken performed
  first s h i end = fine (over i)
  first s h i (beside {c = c} {cs = cs} l f) = taken-good s h c cs f (try-true ν c (line-truly l))
  first s h i (define v u {t} {cs} us d tm f) =
      subst (λ (w : Ty N). Fares (Goes s) (firstStep ν bounded (equal (opened (var v)) w ∷ cs) >>= λ f. performed ν bounded s.binds f)) (sym (term-closed tm))
      (rw (defines ν law (λ p. Unit {0}) v u us) (goes_on (bound-good v u us s.binds h f)))

  rounds : (s : State N) → Good s → Fares (Goes s) (round ν bounded s)
  unfolding round
  rounds s g = first s g.closed-binds refl g.flows

  -- ══ All rounds ══

  -- accepted, or 7 or 8; 0 is the end of the rounds that are counted
  pub data Comes : Answer N → Type 0 where
    accepts : (bs : List (Binding N)) (ns : List N) (k : ℕ) → Comes (accepted bs ns k)
    limit : (n k : ℕ) → OfLimits n → Comes (stopped n k)
    out : (k : ℕ) → Comes (stopped 0 k)

  ended : (k : ℕ) (s : State N) → s.cons ≡ [] → Comes (finish ν k s)
  unfolding finish finished keep
  ended k s e = subst (λ (cs : List (Con N)). Comes (finish ν k (record { cons = cs; binds = s.binds }))) (sym e) (accepts _ _ k)

  turned : (f k : ℕ) (s : State N) {m : Got (Option (State N))} → Fares (Goes s) m → ((r : State N) → Good r → Comes (run ν bounded f (suc k) r))
      → Comes (after ν m k s (λ r. run ν bounded f (suc k) r))
  unfolding after
  turned f k s (meets n l) more = limit n k l
  turned f k s (fine (over e)) more = ended k s e
  turned f k s (fine (on {r = r} g)) more = more r g

  runs : (f k : ℕ) (s : State N) → Good s → Comes (run ν bounded f k s)
  unfolding run
  runs zero k s g = out k
  runs (suc f) k s g = turned f k s (rounds s g) (λ r h. runs f (suc k) r h)

  pub solves : (cs : List (Con N)) → RFlow [] cs → Comes (solve ν bounded cs)
  unfolding solve
  solves cs f = runs enough 0 (record { cons = cs; binds = [] }) (record { flows = f; closed-binds = all_nil _ })
