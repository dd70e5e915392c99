-- The order of names is lawful: byte strings, the numbers of a list of names, and the atoms of a product over them.
use Rattle.std.specs.Prelude.{◌≡◌, ◌⊎◌, true, false, List, [], ◌∷◌, get_or}
use Rattle.std.proofs.Math.Path.{refl}
use Rattle.std.proofs.Common.{sym, ◌∙◌, ap, inl, inr, arith, eqb-true, leb-false, eq-eqb}
use Prim.Native.Nat.{ℕ, compare, Ordering, ◌<◌}
use native.Mathlib.Omega.{compare-lt}
use Rattle.std.proofs.Math.Dec.{compare_is_eq, is_le}
use Rattle.rules.specs.Trees.{Open, var, quant, par, Atom, free, base, Names, orderOpen, orderAtom}
use Rattle.laws.specs.Order.{turned, Lawful}
use Rattle.rules.specs.Names.{Bytes, orderBytes, numbered}
use Rattle.std.proofs.Math.Decide.{dec_lt}
use Rattle.std.proofs.lemmas.Bool.{lt-leb}

-- an order that goes by another order of keys
module _ {A B : Type 0} (key : A → B) (by : B → B → Ordering) (order : A → A → Ordering) (goes : (a b : A) → order a b ≡ by (key a) (key b)) where
  pub keyed-lawful : Lawful by → Lawful order
  keyed-lawful law = record {
    turn = λ a b. goes b a ∙ law.turn (key a) (key b) ∙ ap turned (sym (goes a b));
    trans = λ a b c h k. goes a c ∙ law.trans (key a) (key b) (key c) (sym (goes a b) ∙ h) (sym (goes b c) ∙ k);
    alike = λ a b c h. goes a c ∙ law.alike (key a) (key b) (key c) (sym (goes a b) ∙ h) ∙ sym (goes b c);
  }

-- ══ Numbers ══

-- the three ways in which two numbers can stand
pub data Way (x y : ℕ) : Type 0 where
  below : x < y → Way x y
  equal : x ≡ y → Way x y
  above : y < x → Way x y

pub way : (x y : ℕ) → Way x y
way x y = go (dec_lt x y) (dec_lt y x)
  where
    go : Dec (x < y) → Dec (y < x) → Way x y
    go (yes h) d = below h
    go (no h) (yes k) = above k
    go (no h) (no k) = equal (omega arith)

module _ (x y : ℕ) where
  pub compare-equal : x ≡ y → compare x y ≡ Ordering.eq
  compare-equal e = go (compare x y) (eq-eqb x y e)
    where
      go : (o : Ordering) → compare_is_eq o ≡ true → o ≡ Ordering.eq
      go Ordering.lt h = cc
      go Ordering.eq h = refl
      go Ordering.gt h = cc

  pub compare-above : y < x → compare x y ≡ Ordering.gt
  compare-above l = go (compare x y) (lt-leb x y l)
    where
      go : (o : Ordering) → is_le o ≡ false → o ≡ Ordering.gt
      go Ordering.lt h = cc
      go Ordering.eq h = cc
      go Ordering.gt h = refl

  pub compare-below : x < y → compare x y ≡ Ordering.lt
  compare-below l = go (compare x y) refl
    where
      go : (o : Ordering) → compare x y ≡ o → compare x y ≡ Ordering.lt
      go Ordering.lt h = h
      go Ordering.eq h = let e : x ≡ y = eqb-true x y (ap compare_is_eq h) in absurd (omega arith)
      go Ordering.gt h = let e : y < x = leb-false x y (ap is_le h) in absurd (omega arith)

-- ══ Byte strings ══

module _ (x y : ℕ) (xs ys : Bytes) where
  pub cons-below : x < y → orderBytes (x ∷ xs) (y ∷ ys) ≡ Ordering.lt
  unfolding orderBytes
  cons-below h = rw (compare-below x y h)

  pub cons-above : y < x → orderBytes (x ∷ xs) (y ∷ ys) ≡ Ordering.gt
  unfolding orderBytes
  cons-above h = rw (compare-above x y h)

  pub cons-equal : x ≡ y → orderBytes (x ∷ xs) (y ∷ ys) ≡ orderBytes xs ys
  unfolding orderBytes
  cons-equal h = rw (compare-equal x y h)

pub turn : (a b : Bytes) → orderBytes b a ≡ turned (orderBytes a b)
unfolding orderBytes
turn [] [] = refl
turn [] (y ∷ ys) = refl
turn (x ∷ xs) [] = refl
turn (x ∷ xs) (y ∷ ys) = go (way x y) (turn xs ys)
  where
    go : Way x y → orderBytes ys xs ≡ turned (orderBytes xs ys) → orderBytes (y ∷ ys) (x ∷ xs) ≡ turned (orderBytes (x ∷ xs) (y ∷ ys))
    go (below h) r = cons-above y x ys xs h ∙ ap turned (sym (cons-below x y xs ys h))
    go (equal h) r = cons-equal y x ys xs (sym h) ∙ r ∙ ap turned (sym (cons-equal x y xs ys h))
    go (above h) r = cons-below y x ys xs h ∙ ap turned (sym (cons-above x y xs ys h))

-- equal exactly when the bytes are the same
pub bytes_same : (a b : Bytes) → orderBytes a b ≡ Ordering.eq → a ≡ b
unfolding orderBytes
bytes_same [] [] h = refl
bytes_same [] (y ∷ ys) h = cc
bytes_same (x ∷ xs) [] h = cc
bytes_same (x ∷ xs) (y ∷ ys) h = go (way x y) (bytes_same xs ys)
  where
    go : Way x y → (orderBytes xs ys ≡ Ordering.eq → xs ≡ ys) → x ∷ xs ≡ y ∷ ys
    go (below k) r = cc (cons-below x y xs ys k)
    go (equal k) r = cc (r (sym (cons-equal x y xs ys k) ∙ h))
    go (above k) r = cc (cons-above x y xs ys k)

pub trans : (a b c : Bytes) → orderBytes a b ≡ Ordering.lt → orderBytes b c ≡ Ordering.lt → orderBytes a c ≡ Ordering.lt
unfolding orderBytes
trans [] [] c h k = cc
trans [] (y ∷ ys) [] h k = cc
trans [] (y ∷ ys) (z ∷ zs) h k = refl
trans (x ∷ xs) [] c h k = cc
trans (x ∷ xs) (y ∷ ys) [] h k = cc
trans (x ∷ xs) (y ∷ ys) (z ∷ zs) h k = go (way x y) (way y z) (trans xs ys zs)
  where
    go : Way x y → Way y z → (orderBytes xs ys ≡ Ordering.lt → orderBytes ys zs ≡ Ordering.lt → orderBytes xs zs ≡ Ordering.lt)
        → orderBytes (x ∷ xs) (z ∷ zs) ≡ Ordering.lt
    go (above l) w r = cc (cons-above x y xs ys l)
    go (below l) (above m) r = cc (cons-above y z ys zs m)
    go (equal l) (above m) r = cc (cons-above y z ys zs m)
    go (below l) (below m) r = cons-below x z xs zs (omega arith)
    go (below l) (equal m) r = cons-below x z xs zs (omega arith)
    go (equal l) (below m) r = cons-below x z xs zs (omega arith)
    go (equal l) (equal m) r = cons-equal x z xs zs (l ∙ m) ∙ r (sym (cons-equal x y xs ys l) ∙ h) (sym (cons-equal y z ys zs m) ∙ k)

-- the order of byte strings, by bytes
pub bytes-lawful : Lawful orderBytes
bytes-lawful = record {
  turn = turn;
  trans = trans;
  alike = λ a b c h. ap (λ (n : Bytes). orderBytes n c) (bytes_same a b h);
}

-- ══ Numbers of names ══

-- the order of the numbers of any list of names, held or not
pub numbered-lawful : (names : List Bytes) → Lawful (numbered names).order
unfolding numbered
numbered-lawful names = keyed-lawful (λ i. get_or names i []) orderBytes (numbered names).order (λ i j. refl) bytes-lawful

-- ══ Atoms ══

-- all of one kind before all of another
module _ {A B : Type 0} (f : A → A → Ordering) (g : B → B → Ordering) where
  abbrev pub either : A ⊎ B → A ⊎ B → Ordering
  either (inl a) (inl b) = f a b
  either (inl a) (inr y) = Ordering.lt
  either (inr x) (inl b) = Ordering.gt
  either (inr x) (inr y) = g x y

  module _ (lf : Lawful f) (lg : Lawful g) where
    either-turn : (s t : A ⊎ B) → either t s ≡ turned (either s t)
    either-turn (inl a) (inl b) = lf.turn a b
    either-turn (inl a) (inr y) = refl
    either-turn (inr x) (inl b) = refl
    either-turn (inr x) (inr y) = lg.turn x y

    either-trans : (s t u : A ⊎ B) → either s t ≡ Ordering.lt → either t u ≡ Ordering.lt → either s u ≡ Ordering.lt
    either-trans (inl a) (inl b) (inl c) h k = lf.trans a b c h k
    either-trans (inl a) t (inr z) h k = refl
    either-trans (inl a) (inr y) (inl c) h k = cc
    either-trans (inr x) (inl b) u h k = cc
    either-trans (inr x) (inr y) (inl c) h k = cc
    either-trans (inr x) (inr y) (inr z) h k = lg.trans x y z h k

    either-alike : (s t u : A ⊎ B) → either s t ≡ Ordering.eq → either s u ≡ either t u
    either-alike (inl a) (inl b) (inl c) h = lf.alike a b c h
    either-alike (inl a) (inl b) (inr z) h = refl
    either-alike (inl a) (inr y) u h = cc
    either-alike (inr x) (inl b) u h = cc
    either-alike (inr x) (inr y) (inl c) h = refl
    either-alike (inr x) (inr y) (inr z) h = lg.alike x y z h

    pub either_lawful : Lawful either
    either_lawful = record { turn = either-turn; trans = either-trans; alike = either-alike }

pub numbers-lawful : Lawful compare
numbers-lawful = record { turn = flip; trans = less; alike = λ a b c h. ap (λ (n : ℕ). compare n c) (eqb-true a b (ap compare_is_eq h)) }
  where
    flip : (a b : ℕ) → compare b a ≡ turned (compare a b)
    flip a b = go (way a b)
      where
        go : Way a b → compare b a ≡ turned (compare a b)
        go (below h) = compare-above b a h ∙ ap turned (sym (compare-below a b h))
        go (equal h) = compare-equal b a (sym h) ∙ ap turned (sym (compare-equal a b h))
        go (above h) = compare-below b a h ∙ ap turned (sym (compare-above a b h))

    less : (a b c : ℕ) → compare a b ≡ Ordering.lt → compare b c ≡ Ordering.lt → compare a c ≡ Ordering.lt
    less a b c h k = compare-below a c (omega (arith, compare-lt a b h, compare-lt b c k))

-- ══ Atoms of a product ══

module _ {N : Type 0} (ν : Names N) (law : Lawful ν.order) where
  openKey : Open N → N ⊎ (ℕ ⊎ N)
  openKey (var a) = inl a
  openKey (quant i) = inr (inl i)
  openKey (par a) = inr (inr a)

  open-goes : (a b : Open N) → orderOpen ν a b ≡ either ν.order (either compare ν.order) (openKey a) (openKey b)
  unfolding orderOpen openKey
  open-goes (var a) (var b) = refl
  open-goes (var a) (quant j) = refl
  open-goes (var a) (par b) = refl
  open-goes (quant i) (var b) = refl
  open-goes (quant i) (quant j) = refl
  open-goes (quant i) (par b) = refl
  open-goes (par a) (var b) = refl
  open-goes (par a) (quant j) = refl
  open-goes (par a) (par b) = refl

  pub open-lawful : Lawful (orderOpen ν)
  open-lawful =
      keyed-lawful openKey _ (orderOpen ν) open-goes
      (either_lawful ν.order (either compare ν.order) law (either_lawful compare ν.order numbers-lawful law))

  atomKey : Atom N → Open N ⊎ N
  atomKey (free o) = inl o
  atomKey (base n) = inr n

  atom-goes : (a b : Atom N) → orderAtom ν a b ≡ either (orderOpen ν) ν.order (atomKey a) (atomKey b)
  unfolding orderAtom atomKey
  atom-goes (free a) (free b) = refl
  atom-goes (free a) (base n) = refl
  atom-goes (base m) (free b) = refl
  atom-goes (base m) (base n) = refl

  -- the order of factors is lawful where the order of names is
  pub atom-lawful : Lawful (orderAtom ν)
  atom-lawful =
      keyed-lawful atomKey _ (orderAtom ν) atom-goes (either_lawful (orderOpen ν) ν.order open-lawful law)
