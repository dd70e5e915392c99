-- What follows from the definitions of specs/Fills: lists copied to the front of a buffer, as far as it goes.
use Rattle.std.specs.Prelude.{◌≡◌, ℕ, ◌+◌, ◌<◌, ◌≤◌, List, length, drop, slice_index, slice_set}
use Rattle.std.proofs.Common.{sym, ap, ◌∙◌, add-one, drop_of_length-le, drop-cons}
use Rattle.std.proofs.lemmas.List.Edits.{sets}

-- a turn of the loop that copies: what is left to store falls by one
pub fill_step : (a d d' : List ℕ) (i w : ℕ) {R : List ℕ} → i < length a → w ≡ slice_index a i → d' ≡ slice_set d i w
    → sets d i (drop i a) ≡ R → sets d' (i + 1) (drop (i + 1) a) ≡ R
fill_step a d d' i w h j e r = rw (add-one i, e, j) (sym (ap (sets d i) (drop-cons a i 0 h)) ∙ r)

pub fill_end : (a d : List ℕ) (i : ℕ) {R : List ℕ} → length a ≤ i → sets d i (drop i a) ≡ R → d ≡ R
fill_end a d i h r = sym (ap (sets d i) (drop_of_length-le a {i = i} h)) ∙ r
