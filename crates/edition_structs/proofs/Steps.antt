-- One step of the definitions that go on record by record and sheet by sheet.
use Rattle.std.specs.Prelude.{◌≡◌, refl, ℕ, ◌+◌, ◌<◌, ◌≤◌, List, [], ◌++◌, length, drop, get_or, map}
use Rattle.std.proofs.Common.{drop-cons, drop_of_length-le, append_assoc, append-nil, sym, ◌∙◌}
use Rattle.std.proofs.lemmas.List.{map-append, length-map, get_or-map}
use Rattle.std.proofs.Math.Numerals.{add-one}
use Rattle.std.specs.Borrow.{Bor}
use Rattle.records.specs.Views.{viewAt}
use Rattle.edition_structs.specs.Structs.{Struct, records, behind, past, begins, begun, structFrom, structsTo, structsFrom}

module _ (s : List ℕ) where
  pub past_none : (at : ℕ) → past s at 0 ≡ at
  unfolding past
  past_none at = refl

  pub past_next : (at n : ℕ) → past s at (n + 1) ≡ behind s (past s at n)
  unfolding past
  past_next at n = rw (add-one n) refl

  pub begun_none : begun s 0 ≡ 0
  unfolding begun
  begun_none = refl

  pub begun_next : (n : ℕ) → begun s (n + 1) ≡ begun s n + begins (viewAt s n)
  unfolding begun
  begun_next n = rw (add-one n) refl

  module _ (k : ℕ) where
    pub structs_none : structsTo k s 0 ≡ []
    unfolding structsTo
    structs_none = refl

    pub structs_next : (n : ℕ) → structsTo k s (n + 1) ≡ structsTo k s n ++ structFrom k s n (viewAt s n)
    unfolding structsTo
    structs_next n = rw (add-one n) refl

-- the structs of the sheets before one, and of those from it on, are those of all
module _ (ss : List (List ℕ)) (j : ℕ) where
  from_next : j < length ss → structsFrom j (drop j ss) ≡ structsTo j (get_or ss j []) (records (get_or ss j [])) ++ structsFrom (j + 1) (drop (j + 1) ss)
  unfolding structsFrom
  from_next h = rw (drop-cons ss j [] h, add-one j) refl

  pub sheets_next : j < length ss → (found all : List Struct) → found ++ structsFrom j (drop j ss) ≡ all
      → (found ++ structsTo j (get_or ss j []) (records (get_or ss j []))) ++ structsFrom (j + 1) (drop (j + 1) ss) ≡ all
  sheets_next h found all e =
      rw (append_assoc found (structsTo j (get_or ss j []) (records (get_or ss j []))) (structsFrom (j + 1) (drop (j + 1) ss))) (rw (from_next h) at e)

  pub sheets_done : length ss ≤ j → (found all : List Struct) → found ++ structsFrom j (drop j ss) ≡ all → found ≡ all
  unfolding structsFrom
  sheets_done h found all e = sym (append-nil found) ∙ (rw (drop_of_length-le ss {i = j} h) at e)

pub ruleset pushed = (map-append, append-nil)

pub ruleset run = (begun_none, begun_next, structs_none, structs_next, append-nil, append_assoc)

module _ (ss : List (Bor (List ℕ))) (j : ℕ) where
  pub lent_next : j < length ss → (d : Bor (List ℕ)) (found all found' : List Struct) → found ++ structsFrom j (drop j (map (λ s. s.now) ss)) ≡ all
      → found' ≡ found ++ structsTo j (get_or ss j d).now (records (get_or ss j d).now)
      → found' ++ structsFrom (j + 1) (drop (j + 1) (map (λ s. s.now) ss)) ≡ all
  lent_next h d found all found' e more =
      let lent : List (List ℕ) = map (λ s. s.now) ss in
      let same : get_or lent j [] ≡ (get_or ss j d).now = get_or-map (λ (s : Bor (List ℕ)). s.now) ss j d [] h in
      rw (more, ← same) (sheets_next lent j (rw (length-map ss (λ (s : Bor (List ℕ)). s.now)) h) found all e)

  pub lent_done : length ss ≤ j → (found all : List Struct) → found ++ structsFrom j (drop j (map (λ s. s.now) ss)) ≡ all → found ≡ all
  lent_done h found all e = sheets_done (map (λ s. s.now) ss) j (rw (length-map ss (λ (s : Bor (List ℕ)). s.now)) h) found all e
