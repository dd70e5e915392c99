-- What follows from the definitions of specs/Tables: the words of the tables: places by name, and the types that they point to. A name's type stands at the
-- place of its number.
use Rattle.std.specs.Prelude.{◌≡◌, refl, length, get_or, drop}
use Rattle.std.proofs.Common.{sym, ◌∙◌, add-one, drop_of_length-le, length-set, drop-cons}
use Rattle.std.proofs.Math.Path.{ap}
use mathlib.Core.List.{List, [], ◌∷◌}
use Prim.Native.Nat.{ℕ, zero, suc, ◌+◌, ◌*◌, ◌<◌}
use native.Mathlib.Omega.{arith}
use Rattle.std.proofs.Math.ListN.{set}
use Rattle.std.proofs.Math.Seq.{sets, length-sets}
use Rattle.rules.specs.Writing.{words, rec, head}
use Rattle.schemes_handed.specs.Tables.{quantPlaces, quantTypes, backPlaces, ownPlaces, ownTypes}

-- ══ One name more ══

module _ (names : List ℕ) (i j : ℕ) (e : i ≡ j + 1) (h : j < length names) where
  -- the names from j on
  more : drop j names ≡ get_or names j 0 ∷ drop i names
  more = let k : suc j ≡ i = omega arith in drop-cons names j 0 h ∙ ap (λ (n : ℕ). get_or names j 0 ∷ drop n names) k

  pub quant-places : (d p p' : List ℕ) → p ≡ quantPlaces (drop i names) d
      → p' ≡ set (set p (get_or names j 0) (get_or names j 0 + 1)) (256 + get_or names j 0) (get_or names j 0 + 1) → p' ≡ quantPlaces (drop j names) d
  unfolding quantPlaces
  quant-places d p p' a b = b ∙ rw (more, a)

  pub quant-types : (d v v' : List ℕ) → v ≡ quantTypes i (drop i names) d → v' ≡ sets v (get_or names j 0 * 4) (words (rec (head 14 1) j 0 0 ∷ []))
      → v' ≡ quantTypes j (drop j names) d
  unfolding quantTypes
  quant-types d v v' a b = let k : i ≡ suc j = omega arith in b ∙ rw (more, a, k)

  pub back-places : (d p p' : List ℕ) → p ≡ backPlaces i (drop i names) d → p' ≡ set p (512 + j) (get_or names j 0 + 1) → p' ≡ backPlaces j (drop j names) d
  unfolding backPlaces
  back-places d p p' a b = let k : i ≡ suc j = omega arith in b ∙ rw (more, a, k)

-- none yet
module _ (names : List ℕ) (i : ℕ) (e : i ≡ length names) where
  none_yet : drop i names ≡ []
  none_yet = drop_of_length-le names {i = i} (omega arith)

  pub no-quant-places : (d : List ℕ) → d ≡ quantPlaces (drop i names) d
  unfolding quantPlaces
  no-quant-places d = rw none_yet

  pub no-quant-types : (d : List ℕ) → d ≡ quantTypes i (drop i names) d
  unfolding quantTypes
  no-quant-types d = rw none_yet

  pub no-back-places : (d : List ℕ) → d ≡ backPlaces i (drop i names) d
  unfolding backPlaces
  no-back-places d = rw none_yet

-- one more of the first names
module _ (x : ℕ) where
  pub own-places : (d p p' : List ℕ) → p ≡ ownPlaces x d → p' ≡ set p x (x + 1) → p' ≡ ownPlaces (x + 1) d
  unfolding ownPlaces
  own-places d p p' a b = b ∙ ap (λ (l : List ℕ). set l x (x + 1)) a ∙ ap (λ (n : ℕ). ownPlaces n d) (sym (add-one x))

  pub own-types : (d v v' : List ℕ) → v ≡ ownTypes x d → v' ≡ sets v (x * 4) (words (rec (head 1 1) x 0 0 ∷ [])) → v' ≡ ownTypes (x + 1) d
  unfolding ownTypes
  own-types d v v' a b = b ∙ ap (λ (l : List ℕ). sets l (x * 4) (words (rec (head 1 1) x 0 0 ∷ []))) a ∙ ap (λ (n : ℕ). ownTypes n d) (sym (add-one x))

-- ══ Their lengths ══

pub quant-places-long : (xs d : List ℕ) → length (quantPlaces xs d) ≡ length d
unfolding quantPlaces
quant-places-long [] d = refl
quant-places-long (x ∷ xs) d = let r = quant-places-long xs d in simp length-set r

pub quant-types-long : (i : ℕ) (xs d : List ℕ) → length (quantTypes i xs d) ≡ length d
unfolding quantTypes
quant-types-long i [] d = refl
quant-types-long i (x ∷ xs) d = length-sets (quantTypes (suc i) xs d) (x * 4) (words (rec (head 14 1) i 0 0 ∷ [])) ∙ quant-types-long (suc i) xs d

pub back-places-long : (i : ℕ) (xs d : List ℕ) → length (backPlaces i xs d) ≡ length d
unfolding backPlaces
back-places-long i [] d = refl
back-places-long i (x ∷ xs) d = let r = back-places-long (suc i) xs d in simp length-set r

pub own-places-long : (x : ℕ) (d : List ℕ) → length (ownPlaces x d) ≡ length d
unfolding ownPlaces
own-places-long zero d = refl
own-places-long (suc x) d = let r = own-places-long x d in simp length-set r

pub own-types-long : (x : ℕ) (d : List ℕ) → length (ownTypes x d) ≡ length d
unfolding ownTypes
own-types-long zero d = refl
own-types-long (suc x) d = length-sets (ownTypes x d) (x * 4) (words (rec (head 1 1) x 0 0 ∷ [])) ∙ own-types-long x d
