-- One step of the runs over the names from a number on.
use Rattle.std.specs.Prelude.{◌≡◌, true, false, ℕ, ◌+◌, ◌<◌, ◌≤◌, List, [], ◌∷◌, ◌++◌, length, drop, get_or}
use Rattle.std.proofs.Common.{sym, ◌∙◌, refl, append_assoc, append-nil, drop-cons, drop_of_length-le}
use Rattle.std.proofs.Math.Numerals.{add-one}
use Rattle.rules.specs.Names.{Bytes}
use Rattle.edition_look_alikes.specs.declared.Pair.{Pair}
use Rattle.edition_look_alikes.specs.Alike.{alike, alikeTo, alikePairs, hasUnseen, oneIf, withUnseen}

module _ (ns : List Bytes) (j : ℕ) where
  module _ (h : j < length ns) where
    pub to_next : (i : ℕ) (n : Bytes)
        → alikeTo i n j (drop j ns) ≡ oneIf (alike n (get_or ns j [])) (record { first = i; second = j }) ++ alikeTo i n (j + 1) (drop (j + 1) ns)
    unfolding alikeTo
    to_next i n = rw (drop-cons ns j [] h, add-one j) refl

    pub pairs_next : alikePairs j (drop j ns) ≡ alikeTo j (get_or ns j []) (j + 1) (drop (j + 1) ns) ++ alikePairs (j + 1) (drop (j + 1) ns)
    unfolding alikePairs
    pairs_next = rw (drop-cons ns j [] h, add-one j) refl

    pub unseen_next : withUnseen j (drop j ns) ≡ oneIf (hasUnseen (get_or ns j [])) j ++ withUnseen (j + 1) (drop (j + 1) ns)
    unfolding withUnseen
    unseen_next = rw (drop-cons ns j [] h, add-one j) refl

  module _ (h : length ns ≤ j) where
    pub to_end : (i : ℕ) (n : Bytes) → alikeTo i n j (drop j ns) ≡ []
    unfolding alikeTo
    to_end i n = rw (drop_of_length-le ns {i = j} h) refl

    pub pairs_end : alikePairs j (drop j ns) ≡ []
    unfolding alikePairs
    pairs_end = rw (drop_of_length-le ns {i = j} h) refl

    pub unseen_end : withUnseen j (drop j ns) ≡ []
    unfolding withUnseen
    unseen_end = rw (drop_of_length-le ns {i = j} h) refl

-- what was found before a name, with it, and behind it, is all
module _ (ns : List Bytes) (j : ℕ) (h : j < length ns) where
  module _ (i : ℕ) (n : Bytes) (found all : List Pair) (before : found ++ alikeTo i n j (drop j ns) ≡ all) where
    pub pair_more : true ≡ alike n (get_or ns j []) → (found' : List Pair) → found' ≡ found ++ record { first = i; second = j } ∷ []
        → found' ++ alikeTo i n (j + 1) (drop (j + 1) ns) ≡ all
    pair_more y found' e =
        rw (e, append_assoc found (record { first = i; second = j } ∷ []) (alikeTo i n (j + 1) (drop (j + 1) ns)))
        (rw (to_next ns j h i n, ← y) at before)

    pub pair_none : false ≡ alike n (get_or ns j []) → found ++ alikeTo i n (j + 1) (drop (j + 1) ns) ≡ all
    pair_none y = rw (to_next ns j h i n, ← y) at before

  module _ (found all : List Pair) (before : found ++ alikePairs j (drop j ns) ≡ all) where
    pub pairs_more : (found' : List Pair) → found' ≡ found ++ alikeTo j (get_or ns j []) (j + 1) (drop (j + 1) ns)
        → found' ++ alikePairs (j + 1) (drop (j + 1) ns) ≡ all
    pairs_more found' e =
        rw (e, append_assoc found (alikeTo j (get_or ns j []) (j + 1) (drop (j + 1) ns)) (alikePairs (j + 1) (drop (j + 1) ns)))
        (rw (pairs_next ns j h) at before)

  module _ (found all : List ℕ) (before : found ++ withUnseen j (drop j ns) ≡ all) where
    pub unseen_more : true ≡ hasUnseen (get_or ns j []) → (found' : List ℕ) → found' ≡ found ++ j ∷ []
        → found' ++ withUnseen (j + 1) (drop (j + 1) ns) ≡ all
    unseen_more y found' e =
        rw (e, append_assoc found (j ∷ []) (withUnseen (j + 1) (drop (j + 1) ns))) (rw (unseen_next ns j h, ← y) at before)

    pub unseen_none : false ≡ hasUnseen (get_or ns j []) → found ++ withUnseen (j + 1) (drop (j + 1) ns) ≡ all
    unseen_none y = rw (unseen_next ns j h, ← y) at before

-- nothing is found behind the last name
module _ (ns : List Bytes) (j : ℕ) (h : length ns ≤ j) where
  pub pair_done : (i : ℕ) (n : Bytes) (found all : List Pair) → found ++ alikeTo i n j (drop j ns) ≡ all → found ≡ all
  pair_done i n found all e = sym (append-nil found) ∙ (rw (to_end ns j h i n) at e)

  pub pairs_done : (found all : List Pair) → found ++ alikePairs j (drop j ns) ≡ all → found ≡ all
  pairs_done found all e = sym (append-nil found) ∙ (rw (pairs_end ns j h) at e)

  pub unseen_done : (found all : List ℕ) → found ++ withUnseen j (drop j ns) ≡ all → found ≡ all
  unseen_done found all e = sym (append-nil found) ∙ (rw (unseen_end ns j h) at e)
