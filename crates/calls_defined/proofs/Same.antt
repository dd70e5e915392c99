-- Is a list one word again and again?
use Rattle.std.specs.Prelude.{◌≡◌, ℕ, ◌+◌, ◌<◌, ◌≤◌, Bool, true, false, List, length, drop, ◌==◌, slice_index}
use Rattle.std.proofs.Common.{add-one, drop_of_length-le}
use Rattle.std.proofs.Math.Seq.{drop-cons}
use Rattle.rules.specs.Base.{all}

module _ (s : List ℕ) (i w : ℕ) where
  abbrev pub same : ℕ → Bool
  same k = all (λ x. x == w) (drop k s)

  pub same_end : length s ≤ i → same i ≡ true
  unfolding all
  same_end h = rw (drop_of_length-le s {i = i} h)

  pub same-on : i < length s → (slice_index s i == w) ≡ true → same i ≡ same (i + 1)
  unfolding all
  same-on h e = rw (add-one i, drop-cons s i 0 h, e)

  pub same_not : i < length s → (slice_index s i == w) ≡ false → same i ≡ false
  unfolding all
  same_not h e = rw (drop-cons s i 0 h, e)
