-- The loops over factors, turn by turn: what a product holds so far, and that doing the rest completes the whole.
use Rattle.std.specs.Prelude.{◌≡◌, Bool, true, false, cond, ◌⊎◌, ℕ, ◌<◌, ◌≤◌, length}
use Rattle.std.proofs.Math.Path.{refl}
use Rattle.std.proofs.Common.{ap, ◌∙◌, sym, inl, inr, arith, length-append}
use mathlib.Core.List.{[], ◌∷◌, ◌++◌, append_assoc, append-nil}
use Prim.Native.Nat.{Ordering}
use Rattle.rules.specs.Base.{Got, got, refused, ◌>>=◌, bounded, within}
use Rattle.rules.specs.Exponents.{Exp, isZero, neg, sum, times}
use Rattle.rules.specs.Products.{put, inverse, mergeOne, merge, multiply, raise}
use Rattle.rules.specs.Trees as Trees
use Rattle.rules.specs.Trees.{Atom, ◌↑◌, Names, orderAtom}
use Rattle.rules.specs.Values.{productValue, value_of}
use Rattle.exponents.specs.Answers.{expOf}
use Rattle.exponents.specs.declared.Exponent.{Exponent}
use Rattle.products.specs.declared.Factor.{Factor}
use Rattle.products.specs.declared.Product.{Product}
use Rattle.products.specs.Told.{Tree, valueIn, given, atomAt, tree_of, withExp, kept_of, put_of}
use Rattle.products.specs.Kinds.{Kind}
use Rattle.products.proofs.OnKinds.{value-back}
use Rattle.products.proofs.Places.{put-given, given-len}

-- ══ What is left to do ══

abbrev pub prepend : Tree → Got Tree → Got Tree
prepend acc m = m >>= λ r. got (acc ++ r)

prepend-prepend : (a b : Tree) (m : Got Tree) → prepend a (prepend b m) ≡ prepend (a ++ b) m
prepend-prepend a b (got l) = ap got (sym (append_assoc a b l))
prepend-prepend a b (refused n) = refl

prepend-none : (m : Got Tree) → prepend [] m ≡ m
prepend-none (got l) = refl
prepend-none (refused n) = refl

-- what stands in `out` after at most n factors, and that prepending it to what is left gives the whole
pub record Doing (left whole : Got Tree) (n : ℕ) (out : Product) : Type 0 where
  pub acc : Tree
  pub is : given out ≡ productValue acc
  pub few : length acc ≤ n
  pub rest : prepend acc left ≡ whole

pub doing-start : (whole : Got Tree) (out : Product) → given out ≡ productValue [] → Doing whole whole 0 out
doing-start whole out h = record { acc = []; is = h; few = omega arith; rest = prepend-none whole }

module _ {left whole : Got Tree} {n : ℕ} {out : Product} (g : Doing left whole n out) where
  pub doing-len : out.len ≤ n
  doing-len = rw (given-len out g.acc g.is) g.few

  -- one factor more
  pub doing-put : (f : Factor) (t : Trees.Factor ℕ) (left' : Got Tree) (m : ℕ) → valueIn f ≡ value_of t → n < m → left ≡ prepend (t ∷ []) left'
      → Doing left' whole m (put_of out f)
  doing-put f t left' m v h e = record {
    acc = g.acc ++ (t ∷ []);
    is = put-given out f g.acc t g.is v;
    few = omega (arith, g.few, length-append g.acc (t ∷ []));
    rest = sym (prepend-prepend g.acc (t ∷ []) left') ∙ ap (prepend g.acc) (sym e) ∙ g.rest;
  }

  -- none
  pub doing-skip : (left' : Got Tree) (m : ℕ) → n ≤ m → left ≡ left' → Doing left' whole m out
  doing-skip left' m h e = record { acc = g.acc; is = g.is; few = omega (arith, g.few); rest = ap (prepend g.acc) (sym e) ∙ g.rest }

  pub doing-stop : (k : ℕ) → left ≡ refused k → whole ≡ refused k
  doing-stop k e = sym g.rest ∙ ap (prepend g.acc) e

  pub doing_end : (l : Tree) → left ≡ got l → whole ≡ got (g.acc ++ l)
  doing_end l e = sym g.rest ∙ ap (prepend g.acc) e

  -- nothing is left
  pub doing-done : left ≡ got [] → whole ≡ got g.acc
  doing-done e = doing_end [] e ∙ ap got (append-nil g.acc)

pub got-injective : {a b : Tree} → got a ≡ got b → a ≡ b
got-injective h = cc

-- ══ A factor with a new power ══

-- a power, unless it is refused or 0, in front of what is left
abbrev pub joined : Atom ℕ → Got Exp → Got Tree → Got Tree
joined a s m = s >>= λ e. m >>= λ r. got (put a e r)

zero-joined : (a : Atom ℕ) (m : Got Tree) (e : Exp) → isZero e ≡ true → joined a (got e) m ≡ m
zero-joined a (got r) e z = rw (z, put)
zero-joined a (refused n) e z = refl

some-joined : (a : Atom ℕ) (m : Got Tree) (e : Exp) → isZero e ≡ false → joined a (got e) m ≡ prepend (a ↑ e ∷ []) m
some-joined a (got r) e z = rw (z, put)
some-joined a (refused n) e z = refl

-- one factor more with a new power, unless the power is 0
pub doing-kept : {left whole : Got Tree} {n : ℕ} {out : Product} → Doing left whole n out → (x : Factor) (e : Exponent) (left' : Got Tree) (m : ℕ)
    → Kind x.kind → n < m
    → left ≡ joined (atomAt x) (got (expOf e)) left' → Doing left' whole m (kept_of out x e)
doing-kept {left} {whole} {n} {out} g x e left' m k h j = go (isZero (expOf e)) refl
  where
    go : (b : Bool) → isZero (expOf e) ≡ b → Doing left' whole m (cond b out (put_of out (withExp x e)))
    go true z = doing-skip g left' m (omega arith) (j ∙ zero-joined (atomAt x) left' (expOf e) z)
    go false z = doing-put g (withExp x e) (tree_of (withExp x e)) left' m (value-back (withExp x e) k) h (j ∙ some-joined (atomAt x) left' (expOf e) z)

-- ══ One turn of a merge, of raising and of inverting ══

module _ (ν : Names ℕ) where
  pub merge_none : (B : Tree) → merge ν bounded [] B ≡ got B
  unfolding merge
  merge_none B = refl

  pub merge-end : (A : Tree) → merge ν bounded A [] ≡ got A
  unfolding merge mergeOne
  merge-end [] = refl
  merge-end (a ↑ e ∷ A) = refl

  module _ (x y : Factor) (A B : Tree) where
    pub merge_less : orderAtom ν (atomAt x) (atomAt y) ≡ Ordering.lt → merge ν bounded (tree_of x ∷ A) (tree_of y ∷ B)
        ≡ prepend (tree_of x ∷ []) (merge ν bounded A (tree_of y ∷ B))
    unfolding merge mergeOne
    merge_less h = rw (h, mergeOne)

    pub merge-more : orderAtom ν (atomAt x) (atomAt y) ≡ Ordering.gt → merge ν bounded (tree_of x ∷ A) (tree_of y ∷ B)
        ≡ prepend (tree_of y ∷ []) (merge ν bounded (tree_of x ∷ A) B)
    unfolding merge mergeOne
    merge-more h = rw (h, mergeOne)

    pub merge-same : orderAtom ν (atomAt x) (atomAt y) ≡ Ordering.eq → merge ν bounded (tree_of x ∷ A) (tree_of y ∷ B)
        ≡ joined (atomAt x) (sum bounded (expOf x.exp) (expOf y.exp)) (merge ν bounded A B)
    unfolding merge mergeOne
    merge-same h = rw (h, mergeOne)

  -- the two lists each at a factor
  module _ (x y : Factor) (A A' B B' : Tree) (a : A ≡ tree_of x ∷ A') (b : B ≡ tree_of y ∷ B') where
    pub turn-less : orderAtom ν (atomAt x) (atomAt y) ≡ Ordering.lt → merge ν bounded A B ≡ prepend (tree_of x ∷ []) (merge ν bounded A' B)
    turn-less h = rw (a, b) (merge_less x y A' B' h)

    pub turn_more : orderAtom ν (atomAt x) (atomAt y) ≡ Ordering.gt → merge ν bounded A B ≡ prepend (tree_of y ∷ []) (merge ν bounded A B')
    turn_more h = rw (a, b) (merge-more x y A' B' h)

    pub turn-same : orderAtom ν (atomAt x) (atomAt y) ≡ Ordering.eq → merge ν bounded A B
        ≡ joined (atomAt x) (sum bounded (expOf x.exp) (expOf y.exp)) (merge ν bounded A' B')
    turn-same h = rw (a, b) (merge-same x y A' B' h)

  -- one of the two lists at its end
  pub merge-left : (A B : Tree) → (A ≡ []) ⊎ (B ≡ []) → merge ν bounded A B ≡ got (A ++ B)
  merge-left A B (inl a) = rw a (merge_none B)
  merge-left A B (inr b) = rw b (merge-end A ∙ ap got (sym (append-nil A)))

  pub multiply-got : (A B X : Tree) → merge ν bounded A B ≡ got X → multiply ν bounded A B ≡ within bounded (length X) 64 X
  unfolding multiply
  multiply-got A B X h = rw h

  pub multiply-refused : (A B : Tree) (k : ℕ) → merge ν bounded A B ≡ refused k → multiply ν bounded A B ≡ refused k
  unfolding multiply
  multiply-refused A B k h = rw h

  pub raise-turn : (x : Factor) (A : Tree) (k : Exp) → raise ν bounded (tree_of x ∷ A) k
      ≡ joined (atomAt x) (times bounded (expOf x.exp) k) (raise ν bounded A k)
  unfolding raise
  raise-turn x A k = refl

  pub raise-done : (k : Exp) → raise ν bounded [] k ≡ got []
  unfolding raise
  raise-done k = refl

pub inverse-turn : (x : Factor) (A : Tree) → inverse (tree_of x ∷ A) ≡ atomAt x ↑ neg (expOf x.exp) ∷ inverse A
unfolding inverse
inverse-turn x A = refl

pub inverse-done : inverse {N = ℕ} [] ≡ []
unfolding inverse
inverse-done = refl
