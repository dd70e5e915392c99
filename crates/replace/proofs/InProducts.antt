-- What follows from the definitions of specs/InProducts: replacing in a product, factor by factor.
use Rattle.std.proofs.Math.Path.{◌≡◌, refl, sym, ap}
use Rattle.std.proofs.Common.{◌∙◌}
use Rattle.std.specs.Prelude.{true, ℕ, ◌+◌, ◌≤◌, ◌<◌}
use Rattle.std.proofs.Math.Bool.{and-eq-true_iff}
use mathlib.Core.List.{List, [], ◌∷◌}
use Rattle.std.proofs.Math.Option.{Option, none, some}
use native.Mathlib.Omega.{arith}
use Rattle.std.proofs.Math.ListN.{length, drop, drop_of_length-le}
use Rattle.rules.specs.Base.{Got, got, refused, ◌>>=◌, bounded, all}
use Rattle.rules.specs.Exponents.{Exp, goodExp, goodStored}
use Rattle.rules.specs.Names.{table_of, is_held}
use Rattle.rules.specs.Products.{divide, raise, multiply}
use Rattle.rules.specs.Replacing.{Look, asProduct, replaceFactors, replaceProduct}
use Rattle.rules.specs.Trees.{Atom, free, base, Factor, ◌↑◌, Names, Ty}
use Rattle.rules.specs.Values.{ProductValue, productValue}
use Rattle.rules.specs.WellFormed.{goodOpen, goodFactor, goodProduct, rising}
use Rattle.laws.specs.GoodProducts.{goodAtom}
use Rattle.laws.proofs.GoodProducts.{multiply_good, divide-good, raise-good}
use Rattle.laws.proofs.KeepsGood as laws
use Rattle.laws.proofs.Lists.{clash, got≢refused, same-number, some≢none}
use Rattle.laws.proofs.Ranges.{stored-good}
use Rattle.laws.proofs.Value.{Gives, gives, next}
use Rattle.exponents.specs.Answers.{expOf}
use Rattle.products.specs.Told.{Tree, given, answer, tree_of, productOf, heldIn, factorAt, atomAt}
use Rattle.products.specs.Kinds.{Fine}
use Rattle.products.proofs.OnKinds.{tree-good}
use Rattle.products.proofs.Places.{at_place, length-product}
use Rattle.products.proofs.Held.{law, made, made-long, Taken}
use Rattle.products.specs.declared.Factor as code
use Rattle.products.specs.declared.Product.{Product}
use Rattle.replace.specs.Well.{names, GoodProduct, GoodTy, Whole, LooksGood}
use Rattle.replace.proofs.Well.{GoodFactor}
use Rattle.replace.specs.InProducts.{atomLooked, put_in}

module _ (ν : Names ℕ) where
  deep : {A B C D : Type 0} (p : Got A) (q : Got B) (r : A → Got C) (m : B → C → Got D) {E : Type 0} (k : D → Got E)
      → (p >>= λ a. q >>= λ b. r a >>= λ c. m b c >>= k) ≡ ((p >>= λ a. q >>= λ b. r a >>= λ c. m b c) >>= k)
  deep (refused n) q r m k = refl
  deep (got a) (refused n) r m k = refl
  deep (got a) (got b) r m k = go (r a)
    where
      go : (x : Got _) → (x >>= λ c. m b c >>= k) ≡ ((x >>= λ c. m b c) >>= k)
      go (refused n) = refl
      go (got c) = refl

  -- one factor, then the rest
  pub factor-step : (look : Look ℕ) (f : Factor ℕ) (fs acc : Tree) → replaceFactors ν bounded look (f ∷ fs) acc
      ≡ (put_in ν (atomLooked look f) f acc >>= λ acc'. replaceFactors ν bounded look fs acc')
  unfolding replaceFactors put_in
  factor-step look (base n ↑ e) fs acc = refl
  factor-step look (free o ↑ e) fs acc = go (look o) refl
    where
      go : (m : Option (Ty ℕ)) → look o ≡ m → replaceFactors ν bounded look (free o ↑ e ∷ fs) acc
          ≡ (put_in ν m (free o ↑ e) acc >>= λ acc'. replaceFactors ν bounded look fs acc')
      go none h = rw (replaceFactors, h)
      go (some t) h = rw (replaceFactors, h)
          (deep (asProduct t) (divide ν bounded acc (free o ↑ e ∷ [])) (λ d. raise ν bounded d e) (multiply ν bounded) (replaceFactors ν bounded look fs))

-- ══ What was made ══

-- a product that was made
pub record Done (P : Product) (m : Got Tree) : Type 0 where
  pub tree : Tree
  pub is : m ≡ got tree
  pub value : given P ≡ productValue tree

pub done : (P : Product) (m : Got Tree) → got (given P) ≡ answer m → Done P m
unfolding answer
done P (got p) h = record { tree = p; is = refl; value = cc }
done P (refused n) h = absurd (got≢refused h)

-- or a refusal
pub told-stop : (n : ℕ) (m : Got Tree) → refused n ≡ answer m → m ≡ refused n
unfolding answer
told-stop n (got p) h = clash h
told-stop n (refused k) h = ap refused (sym (same-number h))

-- whatever would have followed
pub ended : (n : ℕ) (m : Got Tree) → refused n ≡ answer m → (f : Tree → Got Tree) → refused n ≡ answer (m >>= f)
unfolding answer
ended n m h f = rw (told-stop n m h) refl

-- a value made of a product
pub fine-told : (P : Product) (p : Tree) → given P ≡ productValue p → got (given P) ≡ answer (got p)
unfolding answer
fine-told P p h = ap got h

pub fine-refused : (n : ℕ) → refused n ≡ answer (refused n)
unfolding answer
fine-refused n = refl

-- ══ Well formed again ══

module _ (pool table : List ℕ) where
  module _ (P : Product) (p : Tree) (w : Whole pool table P p) where
    pub taken : Taken pool table P (made-long pool table P p w.is) p
    taken = made pool table P p w.is w.good

  -- a product of one factor
  pub one-good : (f : Factor ℕ) → GoodFactor pool table f → GoodProduct pool table (f ∷ [])
  unfolding goodProduct all rising
  one-good (a ↑ e) h = rw h

  factor-exp : (a : Atom ℕ) (e : Exp) → GoodFactor pool table (a ↑ e) → goodExp e ≡ true
  unfolding goodFactor
  factor-exp (free o) e h = stored-good e ((and-eq-true_iff (goodOpen _ _ _ o) (goodStored e)).0 h).1
  factor-exp (base n) e h = stored-good e ((and-eq-true_iff (is_held (table_of pool table) n) (goodStored e)).0 h).1

  pub put-good : (m : Option (Ty ℕ)) (f : Factor ℕ) (a : Tree) → ((t : Ty ℕ) → m ≡ some t → GoodTy pool table t) → GoodFactor pool table f
      → GoodProduct pool table a → Gives (put_in (names pool table) m f a) (GoodProduct pool table)
  unfolding put_in
  put-good none f a g h k = gives k
  put-good (some t) (x ↑ e) a g h k =
      let held = is_held (table_of pool table) in
      let l = law pool table in
      next (laws.dimension-good (names pool table) l held 4_294_967_296 t (g t refl)) (λ d i.
      next (divide-good (names pool table) l held 4_294_967_296 a (x ↑ e ∷ []) k (one-good (x ↑ e) h)) (λ left j.
      next (raise-good (names pool table) l held 4_294_967_296 d e i (factor-exp x e h)) (λ more u.
      multiply_good (names pool table) l held 4_294_967_296 left more j u)))

  -- the factors of a value that passed the test
  pub fine-good : (f : code.Factor) → Fine (names pool table) (heldIn table) f → GoodFactor pool table (tree_of f)
  unfolding table_of
  fine-good f g = tree-good (names pool table) (heldIn table) (atomAt f) (expOf f.exp)
      ∙ (and-eq-true_iff (goodAtom (names pool table) (heldIn table) 4_294_967_296 (atomAt f)) (goodStored (expOf f.exp))).1 (g.atom, g.stored)

  -- a product that was made is well formed
  pub record Fresh (P : Product) (m : Got Tree) : Type 0 where
    pub tree : Tree
    pub is : m ≡ got tree
    pub whole : Whole pool table P tree

  pub fresh : (P : Product) (m : Got Tree) → got (given P) ≡ answer m → Gives m (GoodProduct pool table) → Fresh P m
  fresh P m h g = let d = done P m h in record { tree = d.tree; is = d.is; whole = record { is = d.value; good = g.holds d.tree d.is } }

  -- ══ One factor ══

  module _ (f : code.Factor) (fine : Fine (names pool table) (heldIn table) f) where
    pub only-whole : (o : Product) → given o ≡ productValue (tree_of f ∷ []) → Whole pool table o (tree_of f ∷ [])
    only-whole o h = record { is = h; good = one-good (tree_of f) (fine-good f fine) }

    pub exp-good : goodExp (expOf f.exp) ≡ true
    exp-good = stored-good (expOf f.exp) fine.stored

    pub put_first : (a : Tree) (t : Ty ℕ) (n : ℕ) → refused n ≡ answer (asProduct t) → refused n ≡ answer (put_in (names pool table) (some t) (tree_of f) a)
    unfolding put_in
    put_first a t n h = ended n (asProduct t) h _

    pub first-fresh : (t : Ty ℕ) → GoodTy pool table t → (d : Product) → got (given d) ≡ answer (asProduct t) → Fresh d (asProduct t)
    first-fresh t g d h = fresh d (asProduct t) h (laws.dimension-good (names pool table) (law pool table) (is_held (table_of pool table)) 4_294_967_296 t g)

    module _ (acc o : Product) (a : Tree) (t : Ty ℕ) (w : Whole pool table acc a) (u : Whole pool table o (tree_of f ∷ [])) (g : GoodTy pool table t)
        (d : Product) (h : got (given d) ≡ answer (asProduct t)) where
      -- the bound type as a product
      pub D : Fresh d (asProduct t)
      D = first-fresh t g d h

      divided-is : (x : Got ProductValue) → x ≡ answer (divide (names pool table) bounded (productOf acc) (productOf o))
          → x ≡ answer (divide (names pool table) bounded a (tree_of f ∷ []))
      divided-is x q = rw ((taken acc a w).is, (taken o (tree_of f ∷ []) u).is) q

      pub put_second : (n : ℕ) → refused n ≡ answer (divide (names pool table) bounded (productOf acc) (productOf o)) → refused n
          ≡ answer (put_in (names pool table) (some t) (tree_of f) a)
      unfolding put_in
      put_second n q = rw D.is (ended n _ (divided-is _ q) _)

      module _ (left : Product) (q : got (given left) ≡ answer (divide (names pool table) bounded (productOf acc) (productOf o))) where
        pub L : Fresh left (divide (names pool table) bounded a (tree_of f ∷ []))
        L = fresh left _ (divided-is _ q)
            (divide-good (names pool table) (law pool table) (is_held (table_of pool table)) 4_294_967_296 a (tree_of f ∷ []) w.good u.good)

        -- what raising that product says
        abbrev pub Raised : Got ProductValue → Type 0
        Raised x = (μ : Names ℕ) → x ≡ answer (raise μ bounded (productOf d) (expOf f.exp))

        raised_is : (x : Got ProductValue) → Raised x → x ≡ answer (raise (names pool table) bounded D.tree (expOf f.exp))
        raised_is x r = rw (taken d D.tree D.whole).is (r (names pool table))

        pub put-third : (n : ℕ) → Raised (refused n) → refused n ≡ answer (put_in (names pool table) (some t) (tree_of f) a)
        unfolding put_in
        put-third n r = rw (D.is, L.is) (ended n _ (raised_is _ r) _)

        module _ (more : Product) (r : Raised (got (given more))) where
          pub M : Fresh more (raise (names pool table) bounded D.tree (expOf f.exp))
          M = fresh more _ (raised_is _ r)
              (raise-good (names pool table) (law pool table) (is_held (table_of pool table)) 4_294_967_296 D.tree (expOf f.exp) D.whole.good exp-good)

          pub put_last : (x : Got ProductValue) → x ≡ answer (multiply (names pool table) bounded (productOf left) (productOf more)) → x
              ≡ answer (put_in (names pool table) (some t) (tree_of f) a)
          unfolding put_in
          put_last x y = rw (D.is, L.is, M.is) (rw ((taken left L.tree L.whole).is, (taken more M.tree M.whole).is) y)

  -- ══ One factor by what is bound ══

  -- the type that an atom becomes is well formed
  pub atom-good : (look : Look ℕ) → LooksGood pool table look → (x : Factor ℕ) (t : Ty ℕ) → atomLooked look x ≡ some t → GoodTy pool table t
  atom-good look g (free o ↑ e) t k = g o t k
  atom-good look g (base n ↑ e) t k = absurd (some≢none (sym k))

  module _ (f : code.Factor) (look : Look ℕ) where
    abbrev pub Looked : Option (Ty ℕ)
    Looked = atomLooked look (tree_of f)

    pub put-none : (a : Tree) → Looked ≡ none → got a ≡ put_in (names pool table) Looked (tree_of f) a
    unfolding put_in
    put-none a e = rw e

    pub put-bound : (a : Tree) (t : Ty ℕ) (x : Got ProductValue) → Looked ≡ some t → x ≡ answer (put_in (names pool table) (some t) (tree_of f) a) → x
        ≡ answer (put_in (names pool table) Looked (tree_of f) a)
    put-bound a t x e h = h ∙ ap (λ (o : Option (Ty ℕ)). answer (put_in (names pool table) o (tree_of f) a)) (sym e)

    -- a factor's replacement is well formed again
    pub factor-good : (a : Tree) → Fine (names pool table) (heldIn table) f → LooksGood pool table look → GoodProduct pool table a
        → Gives (put_in (names pool table) Looked (tree_of f) a) (GoodProduct pool table)
    factor-good a fine g h = put-good Looked (tree_of f) a (atom-good look g (tree_of f)) (fine-good f fine) h

  -- ══ All factors ══

  module _ (p : Product) (a : Tree) (look : Look ℕ) where
    -- so much is left to do
    pub record Going (acc : Product) (i : ℕ) : Type 0 where
      pub tree : Tree
      pub whole : Whole pool table acc tree
      pub rest : replaceFactors (names pool table) bounded look (drop i a) tree ≡ replaceProduct (names pool table) bounded look a

    pub going_start : Whole pool table p a → Going p 0
    unfolding replaceProduct
    going_start w = record { tree = a; whole = w; rest = refl }

    module _ (w : Whole pool table p a) where
      pub fine-at : (i : ℕ) → i < p.len → Fine (names pool table) (heldIn table) (factorAt p i)
      fine-at i h = (taken p a w).well.each i h

      drop_at : (i : ℕ) → i < p.len → drop i a ≡ tree_of (factorAt p i) ∷ drop (i + 1) a
      drop_at i h = let t = taken p a w in rw t.is (at_place p t.well.long t.well.few i h)

      module _ (acc : Product) (i : ℕ) (h : i < p.len) (g : Going acc i) where
        turn : replaceProduct (names pool table) bounded look a
            ≡ (put_in (names pool table) (Looked (factorAt p i) look) (tree_of (factorAt p i)) g.tree >>= λ x. replaceFactors (names pool table)
            bounded look (drop (i + 1) a) x)
        turn =
            sym g.rest
            ∙ ap (λ (l : Tree). replaceFactors (names pool table) bounded look l g.tree) (drop_at i h)
            ∙ factor-step (names pool table) look (tree_of (factorAt p i)) (drop (i + 1) a) g.tree

        pub going-stop : (n : ℕ) → refused n ≡ answer (put_in (names pool table) (Looked (factorAt p i) look) (tree_of (factorAt p i)) g.tree)
            → refused n ≡ answer (replaceProduct (names pool table) bounded look a)
        going-stop n e = rw turn (ended n _ e _)

        pub going_on : LooksGood pool table look → (P : Product) → got (given P)
            ≡ answer (put_in (names pool table) (Looked (factorAt p i) look) (tree_of (factorAt p i)) g.tree) → Going P (i + 1)
        going_on b P e =
            let f = fresh P _ e (factor-good (factorAt p i) look g.tree (fine-at i h) b g.whole.good) in
            record {
              tree = f.tree;
              whole = f.whole;
              rest =
                  sym (turn ∙ ap (λ (m : Got Tree). m >>= λ x. replaceFactors (names pool table) bounded look (drop (i + 1) a) x) f.is);
            }

      pub going_end : (acc : Product) (i : ℕ) → p.len ≤ i → (g : Going acc i) → replaceProduct (names pool table) bounded look a ≡ got g.tree
      unfolding replaceFactors
      going_end acc i h g =
          let t = taken p a w in
          let z : drop i a ≡ [] = drop_of_length-le a {i = i} (omega (arith, ap length t.is, length-product p t.well.long t.well.few)) in
          sym g.rest ∙ ap (λ (l : Tree). replaceFactors (names pool table) bounded look l g.tree) z

  -- a product that was replaced is well formed again
  pub product-kept : (p : Tree) (look : Look ℕ) → GoodProduct pool table p → LooksGood pool table look
      → Gives (replaceProduct (names pool table) bounded look p) (GoodProduct pool table)
  product-kept p look h g = laws.product-kept (names pool table) (law pool table) (is_held (table_of pool table)) 4_294_967_296 look g p h
