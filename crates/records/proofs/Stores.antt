-- Runs of stores into a buffer.
use Rattle.std.specs.Prelude.{◌≡◌, refl, List, [], ◌∷◌, ◌++◌, ℕ, suc, ◌+◌, ◌<◌, ◌≤◌, length, get_or, set, take, drop}
use Rattle.std.proofs.Common.{sym, ap, ◌∙◌, arith, add-zero, add-suc, suc-add, add-one, take-append-drop, length-take-le}
use Rattle.std.proofs.Math.Numerals.{add-two, add-three}
use Rattle.std.proofs.lemmas.List.Edits.{sets, sets-eq}
use Rattle.std.proofs.Math.Decide.{dec_le}
use Rattle.std.proofs.Math.ListN.{drop_of_length-le}
use Rattle.std.proofs.Math.Seq.{slice, slice-cons, length-sets, paste}
use Rattle.std.proofs.lemmas.Slice.{put_mid-paste}
use borrow.Rule.Slice.PartMut.{put_mid}
use Rattle.std.proofs.lemmas.List.{set_comm, set_past, take_all}
use Rattle.rules.specs.Writing.{rec, words}

-- four stores in a row write a record
pub four : (d d₁ d₂ d₃ d₄ : List ℕ) (i k a b c : ℕ) → d₁ ≡ set d i k → d₂ ≡ set d₁ (i + 1) a → d₃ ≡ set d₂ (i + 2) b → d₄ ≡ set d₃ (i + 3) c
    → d₄ ≡ sets d i (words (rec k a b c ∷ []))
unfolding words
four d d₁ d₂ d₃ d₄ i k a b c p q r t = cc (add-one i, add-two i, add-three i)

-- one run after another is one run
pub sets-append : (a b d : List ℕ) (i : ℕ) → sets d i (a ++ b) ≡ sets (sets d i a) (i + length a) b
sets-append [] b d i = rw (add-zero i)
sets-append (x ∷ a) b d i = rw (add-suc i (length a), ← suc-add i (length a)) (sets-append a b (set d i x) (suc i))

set-sets : (b d : List ℕ) (i j x : ℕ) → i < j → set (sets d j b) i x ≡ sets (set d i x) j b
set-sets [] d i j x h = refl
set-sets (y ∷ b) d i j x h = set-sets b (set d j y) i (suc j) x (omega arith) ∙ ap (λ (e : List ℕ). sets e (suc j) b) (set_comm d j i y x (λ e. omega arith))

-- what stands before may be stored last
pub sets-before : (a b d : List ℕ) (i : ℕ) → sets (sets d (i + length a) b) i a ≡ sets d i (a ++ b)
sets-before [] b d i = rw (add-zero i)
sets-before (x ∷ a) b d i =
    let e : i + suc (length a) ≡ suc i + length a = omega arith in
    rw e (ap (λ (f : List ℕ). sets f (suc i) a) (set-sets b d i (suc i + length a) x (omega arith)) ∙ sets-before a b (set d i x) (suc i))

-- nothing is stored past the end
pub sets-past : (b d : List ℕ) (i : ℕ) → length d ≤ i → sets d i b ≡ d
sets-past [] d i h = refl
sets-past (x ∷ b) d i h = rw (set_past d i x h) (sets-past b d (suc i) (omega arith))

-- a run as far as the buffer goes
pub sets-cut : (b d : List ℕ) (i n : ℕ) → i + n ≤ length d → n ≤ length b → (n < length b → length d ≤ i + n) → sets d i b ≡ paste d i b n
sets-cut b d i n k l m =
    let t : length (take n b) ≡ n = length-take-le n b l in
    ap (sets d i) (sym (take-append-drop n b)) ∙ sets-append (take n b) (drop n b) d i ∙ go (dec_le (length b) n)
    ∙ sets-eq (take n b) d i (omega (arith, t)) ∙ ap (λ (j : ℕ). take i d ++ take n b ++ drop (i + j) d) t
  where
    go : Dec (length b ≤ n) → sets (sets d i (take n b)) (i + length (take n b)) (drop n b) ≡ sets d i (take n b)
    go (yes h) = ap (sets (sets d i (take n b)) (i + length (take n b))) (drop_of_length-le b h)
    go (no h) = sets-past (drop n b) (sets d i (take n b)) (i + length (take n b))
        (omega (arith, length-sets d i (take n b), length-take-le n b l, m (omega (arith, h))))

-- the part that was written over
pub part-cut : (b d p : List ℕ) (i n k : ℕ) → p ≡ take n b → n ≡ k → i + n ≤ length d → n ≤ length b → (n < length b → length d ≤ i + n)
    → put_mid i k d p ≡ sets d i b
part-cut b d p i n k e q h l m =
    let t : length (take n b) ≡ n = length-take-le n b l in
    put_mid-paste i k d p (take n b) n e q (sym t) ∙ ap (λ (x : List ℕ). take i d ++ x ++ drop (i + n) d) (take_all n (take n b) (omega (arith, t)))
    ∙ sym (sets-cut b d i n h l m)
