-- Parts of a list after a run of stores.
use Rattle.std.specs.Prelude.{◌≡◌, refl, List, [], ◌∷◌, ◌++◌, ℕ, suc, ◌+◌, ◌-◌, ◌≤◌, length, take, drop, set}
use Rattle.std.proofs.Common.{sym, ap, ◌∙◌, append_assoc, arith, take-append-drop, drop-set-lt, take-add, take-take, take_at, drop_at, length-take-le}
use Rattle.std.proofs.lemmas.List.Edits.{sets, sets-eq}
use Rattle.std.proofs.Math.Seq.{length-sets, slice, length-slice}

drop-sets : (n : ℕ) (l : List ℕ) (i : ℕ) (vs : List ℕ) → i + length vs ≤ n → drop n (sets l i vs) ≡ drop n l
drop-sets n l i [] h = refl
drop-sets n l i (a ∷ vs) h = drop-sets n (set l i a) (suc i) vs (omega arith) ∙ drop-set-lt n l i a (omega arith)

-- a part is what comes first behind the place where it begins
slice-part : (i k : ℕ) (l : List ℕ) → i ≤ length l → slice i (i + k) l ≡ take k (drop i l)
slice-part i k l h = ap (drop i) (take-add i k l) ∙ drop_at (take i l) (take k (drop i l)) i (length-take-le i l h)

-- and the stores themselves
pub slice-there : (l : List ℕ) (p : ℕ) (vs : List ℕ) → p + length vs ≤ length l → slice p (p + length vs) (sets l p vs) ≡ vs
slice-there l p vs h =
    let n : length (sets l p vs) ≡ length l = length-sets l p vs in
    let e : sets l p vs ≡ take p l ++ (vs ++ drop (p + length vs) l) = sets-eq vs l p h ∙ append_assoc (take p l) vs (drop (p + length vs) l) in
    slice-part p (length vs) (sets l p vs) (omega arith)
    ∙ ap (take (length vs)) (ap (drop p) e ∙ drop_at (take p l) (vs ++ drop (p + length vs) l) p (length-take-le p l (omega arith)))
    ∙ take_at vs (drop (p + length vs) l) (length vs) refl

-- storing what is there changes nothing
pub own-slice : (i j : ℕ) (l : List ℕ) → i ≤ j → j ≤ length l → l ≡ sets l i (slice i j l)
own-slice i j l h k =
    let n : length (slice i j l) ≡ j - i = length-slice i j l k in
    let e : i + length (slice i j l) ≡ j = omega arith in
    let f : take i l ++ slice i j l ≡ take j l = ap (λ (x : List ℕ). x ++ slice i j l) (sym (take-take i j l h)) ∙ take-append-drop i (take j l) in
    sym (sets-eq (slice i j l) l i (omega arith) ∙ ap (λ (x : ℕ). (take i l ++ slice i j l) ++ drop x l) e ∙ ap (λ (x : List ℕ). x ++ drop j l) f
    ∙ take-append-drop j l)
