-- A product value, place by place: one factor more, the factors from a place on, and what a well formed product holds.
use Rattle.std.specs.Prelude.{◌≡◌, refl, ℕ, zero, suc, ◌+◌, ◌<◌, ◌≤◌}
use Rattle.std.proofs.Math.Path.{ap, ap₂, sym, ◌≡⟨◌⟩◌, ◌∎}
use Rattle.std.proofs.Common.{◌∙◌, add-one, arith, drop_of_length-le, drop-cons, get_or-take}
use mathlib.Core.List.{List, [], ◌∷◌, ◌++◌, map, append_assoc}
use Rattle.std.proofs.Math.Decide.{dec_lt}
use Rattle.std.proofs.Math.ListN.{length, take, drop, set, replicate, length-append, length-replicate, length-map}
use Rattle.std.proofs.lemmas.List.{replicate-append-replicate}
use Rattle.std.proofs.Math.Seq.{length-take-le, take-append-le, take-set-lt, set-append_seam, set_out}
use Rattle.rules.specs.Trees as Trees
use Rattle.rules.specs.Values.{FactorValue, ProductValue, blank, productValue, value_of}
use Rattle.products.specs.declared.Factor.{Factor}
use Rattle.products.specs.declared.Product.{Product}
use Rattle.products.specs.Told.{Tree, valueIn, given, tree_of, productOf, factorAt, unread, put_of}

-- ══ Unused places ══

module _ {A : Type 0} (none : A) where
  padded : List A → List A
  padded l = take 64 (l ++ replicate 64 none)

  put-within : (l : List A) (f : A) → length l < 64 → set (padded l) (length l) f ≡ padded (l ++ (f ∷ []))
  unfolding padded
  put-within l f h =
      set (take 64 (l ++ replicate 64 none)) (length l) f
      ≡⟨ sym (take-set-lt 64 (l ++ replicate 64 none) (length l) f h) ⟩
      take 64 (set (l ++ replicate 64 none) (length l) f)
      ≡⟨ ap (take 64) (set-append_seam l none (replicate 63 none) f) ⟩
      take 64 (l ++ f ∷ replicate 63 none)
      ≡⟨ sym (take-append-le 64 (l ++ f ∷ replicate 63 none) (replicate 1 none)
      (omega (arith, length-append l (f ∷ replicate 63 none), length-replicate 63 none))) ⟩
      take 64 ((l ++ f ∷ replicate 63 none) ++ replicate 1 none)
      ≡⟨ ap (take 64) (append_assoc l (f ∷ replicate 63 none) (replicate 1 none)) ⟩
      take 64 (l ++ f ∷ (replicate 63 none ++ replicate 1 none))
      ≡⟨ ap (λ (r : List A). take 64 (l ++ f ∷ r)) (replicate-append-replicate 63 1 none) ⟩
      take 64 (l ++ f ∷ replicate 64 none)
      ≡⟨ ap (take 64) (sym (append_assoc l (f ∷ []) (replicate 64 none))) ⟩
      take 64 ((l ++ f ∷ []) ++ replicate 64 none) ∎

  length-padded : (l : List A) → length (padded l) ≡ 64
  unfolding padded
  length-padded l = length-take-le 64 (l ++ replicate 64 none) (omega (arith, length-append l (replicate 64 none), length-replicate 64 none))

  put-past : (l : List A) (f : A) → 64 ≤ length l → set (padded l) (length l) f ≡ padded (l ++ (f ∷ []))
  unfolding padded
  put-past l f h =
      set_out (padded l) (length l) f (omega (arith, length-padded l))
      ∙ take-append-le 64 l (replicate 64 none) h
      ∙ sym (take-append-le 64 l (f ∷ []) h)
      ∙ sym (take-append-le 64 (l ++ (f ∷ [])) (replicate 64 none) (omega (arith, length-append l (f ∷ []))))

  put-padded : (l : List A) (f : A) → set (padded l) (length l) f ≡ padded (l ++ (f ∷ []))
  put-padded l f = go (dec_lt (length l) 64)
    where
      go : Dec (length l < 64) → set (padded l) (length l) f ≡ padded (l ++ (f ∷ []))
      go (yes h) = put-within l f h
      go (no h) = put-past l f (omega arith)

map-set : {A B : Type 0} (g : A → B) (l : List A) (i : ℕ) (x : A) → map g (set l i x) ≡ set (map g l) i (g x)
map-set g [] i x = refl
map-set g (y ∷ l) zero x = refl
map-set g (y ∷ l) (suc i) x = ap (g y ∷◌) (map-set g l i x)

map_snoc : {A B : Type 0} (g : A → B) (l : List A) (x : A) → map g (l ++ (x ∷ [])) ≡ map g l ++ (g x ∷ [])
map_snoc g [] x = refl
map_snoc g (y ∷ l) x = ap (g y ∷◌) (map_snoc g l x)

-- ══ One factor more ══

pub put-given : (p : Product) (f : Factor) (acc : Tree) (t : Trees.Factor ℕ) → given p ≡ productValue acc → valueIn f ≡ value_of t
    → given (put_of p f) ≡ productValue (acc ++ (t ∷ []))
unfolding given put_of productValue padded
put-given p f acc t h e =
    let fs : map valueIn p.factors ≡ take 64 (map value_of acc ++ replicate 64 blank) = ap (λ (v : ProductValue). v.factors) h in
    let n : p.len ≡ length acc = ap (λ (v : ProductValue). v.len) h in
    let a : map valueIn (set p.factors p.len f) ≡ take 64 (map value_of (acc ++ (t ∷ [])) ++ replicate 64 blank) =
    map-set valueIn p.factors p.len f
    ∙ ap₂ (λ (l : List FactorValue) (i : ℕ). set l i (valueIn f)) fs (n ∙ sym (length-map acc value_of))
    ∙ ap (set (padded blank (map value_of acc)) (length (map value_of acc))) e
    ∙ put-padded blank (map value_of acc) (value_of t)
    ∙ ap (padded blank) (sym (map_snoc value_of acc t)) in
    let b : p.len + 1 ≡ length (acc ++ (t ∷ [])) = ap (◌+ 1) n ∙ sym (length-append acc (t ∷ [])) in
    λ i. record { factors = a i; len = b i }

pub given-len : (p : Product) (acc : Tree) → given p ≡ productValue acc → p.len ≡ length acc
unfolding given productValue
given-len p acc h = ap (λ (v : ProductValue). v.len) h

-- ══ The factors from a place on ══

map-drop : {A B : Type 0} (g : A → B) (l : List A) (i : ℕ) → drop i (map g l) ≡ map g (drop i l)
map-drop g l zero = refl
map-drop g [] (suc i) = refl
map-drop g (x ∷ l) (suc i) = map-drop g l i

module _ (p : Product) (long : length p.factors ≡ 64) (few : p.len ≤ 64) where
  pub length-product : length (productOf p) ≡ p.len
  unfolding productOf
  length-product = length-map (take p.len p.factors) tree_of ∙ length-take-le p.len p.factors (omega arith)

  pub at_place : (i : ℕ) → i < p.len → drop i (productOf p) ≡ tree_of (factorAt p i) ∷ drop (i + 1) (productOf p)
  unfolding productOf
  at_place i h =
      let l = take p.len p.factors in
      let n : length l ≡ p.len = length-take-le p.len p.factors (omega arith) in
      map-drop tree_of l i
      ∙ ap (map tree_of) (drop-cons l i unread (omega arith))
      ∙ ap₂ (λ (f : Factor) (r : Tree). tree_of f ∷ r) (get_or-take p.len p.factors i unread h)
      (sym (map-drop tree_of l (suc i)) ∙ ap (λ (k : ℕ). drop k (map tree_of l)) (sym (add-one i)))

  pub at-end : drop p.len (productOf p) ≡ []
  at-end = drop_of_length-le (productOf p) {i = p.len} (omega (arith, length-product))
