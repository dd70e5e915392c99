-- What stands at the front of a buffer that a list was copied to.
use mathlib.Core.Path.{◌≡◌, refl, sym, ap, ◌∙◌}
use mathlib.Core.List.{List, [], ◌∷◌, map}
use Prim.Native.Nat.{ℕ, zero, suc, ◌≤◌, ◌<◌, min}
use native.Mathlib.Omega.{arith}
use lib.ListN.{length, take, set, length-map}
use lib.Seq.{take_all}
use Rattle.std.proofs.Math.Decide.{dec_lt}
use Rattle.std.proofs.lemmas.List.{length-take-le, take-map}
use Rattle.std.proofs.lemmas.List.Edits.{sets}
use Rattle.calls_defined.specs.Given.{nameIn}
use Rattle.calls_defined.specs.Fills.{low_byte}

module _ {A : Type 0} where
  -- what is stored behind the first element
  sets-tail : (x : A) (d : List A) (i : ℕ) (vs : List A) → sets (x ∷ d) (suc i) vs ≡ x ∷ sets d i vs
  sets-tail x d i [] = refl
  sets-tail x d i (a ∷ vs) = sets-tail x (set d i a) (suc i) vs

  pub filled : (xs d : List A) (n : ℕ) → n ≤ length xs → n ≤ length d → take n (sets d 0 xs) ≡ take n xs
  filled xs d zero p q = refl
  filled [] d (suc n) p q = absurd (omega arith)
  filled (x ∷ xs) [] (suc n) p q = absurd (omega arith)
  filled (x ∷ xs) (y ∷ d) (suc n) p q = rw (sets-tail x d 0 xs) (ap (λ (r : List A). x ∷ r) (filled xs d n (omega arith) (omega arith)))

take-less : {A : Type 0} (xs : List A) (m n : ℕ) → n ≡ min (length xs) m → take n xs ≡ take m xs
take-less xs m n e = go (dec_lt (length xs) m)
  where
    go : Dec (length xs < m) → take n xs ≡ take m xs
    go (yes h) = take_all n xs (omega (arith, e)) ∙ sym (take_all m xs (omega arith))
    go (no h) = let z : n ≡ m = omega (arith, e) in rw z refl

-- the bytes of a name that were copied to a buffer of 512
pub name-bytes : (a d : List ℕ) (n : ℕ) {c : List ℕ} → length d ≡ 512 → n ≡ min (length a) 512 → c ≡ sets d 0 (map low_byte a) → take n c ≡ nameIn a
name-bytes a d n l e w =
    let k : n ≤ length (map low_byte a) = rw (length-map a low_byte) (omega (arith, e)) in
    ap (take n) w ∙ filled (map low_byte a) d n k (omega (arith, e, l)) ∙ take-map low_byte n a ∙ ap (map low_byte) (take-less a 512 n e)

-- the front of a list that was copied to a buffer with room for it
pub front-words : (xs d : List ℕ) (m : ℕ) {x : List ℕ} → m ≤ length xs → m ≤ length d → x ≡ sets d 0 (take m xs) → take m x ≡ take m xs
front-words xs d m h k w =
    let l : length (take m xs) ≡ m = length-take-le m xs h in
    ap (take m) w ∙ filled (take m xs) d m (omega (arith, l)) k ∙ take_all m (take m xs) (omega (arith, l))
