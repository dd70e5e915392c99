-- Lines of a text: where they end, what they have, and how they make it up.
use Rattle.std.proofs.Common.{◌≡◌, refl, sym, ap, ◌∙◌, ◌++◌, ◌<◌, Bool, true, false, List, [], ◌∷◌, length, arith, append-nil, append_assoc}
use Rattle.std.specs.List.{list_any, slice_split, onto_first, join_with_byte}
use Rattle.std.proofs.lemmas.List.Splits.{slice_split-cons_yes, slice_split-cons_no, length-slice_split, join_with_byte-slice_split}
use Rattle.std.proofs.lemmas.Bool.{or_parts}
use Rattle.rules.specs.Base.{collect}
use Rattle.rules.specs.Names.{Bytes}
use Rattle.edition_certificate_file.specs.Reading.{lineFeed}

module _ {X : Type 0} (p : X → Bool) where
  onto-front : (x : X) (parts more : List (List X)) → 0 < length parts → onto_first x (parts ++ more) ≡ onto_first x parts ++ more
  onto-front x [] more h = absurd (omega arith)
  onto-front x (part ∷ parts) more h = refl

  before : {parts same : List (List X)} (more : List (List X)) → parts ≡ same → parts ++ more ≡ same ++ more
  before more e = ap (λ (l : List (List X)). l ++ more) e

  -- behind an element that passes the parts are those of what stands there
  pub split-both : (xs ys : List X) (y : X) → p y ≡ true → slice_split p (xs ++ y ∷ ys) ≡ slice_split p xs ++ slice_split p ys
  split-both [] ys y h = slice_split-cons_yes p y ys h
  split-both (x ∷ xs) ys y h = go (p x) refl (split-both xs ys y h)
    where
      go : (b : Bool) → p x ≡ b → slice_split p (xs ++ y ∷ ys) ≡ slice_split p xs ++ slice_split p ys
          → slice_split p (x ∷ (xs ++ y ∷ ys)) ≡ slice_split p (x ∷ xs) ++ slice_split p ys
      go true e r = slice_split-cons_yes p x (xs ++ y ∷ ys) e ∙ ap ([] ∷◌) r ∙ before (slice_split p ys) (sym (slice_split-cons_yes p x xs e))
      go false e r =
          slice_split-cons_no p x (xs ++ y ∷ ys) e ∙ ap (onto_first x) r
          ∙ onto-front x (slice_split p xs) (slice_split p ys) (omega (arith, length-slice_split p xs))
          ∙ before (slice_split p ys) (sym (slice_split-cons_no p x xs e))

  -- where none passes, all is one part
  pub one-part : (xs : List X) → list_any p xs ≡ false → slice_split p xs ≡ xs ∷ []
  one-part [] h = refl
  one-part (x ∷ xs) h =
      let parts = or_parts (p x) (list_any p xs) h in
      slice_split-cons_no p x xs parts.0 ∙ ap (onto_first x) (one-part xs parts.1)

-- no line feed stands in it
abbrev pub Flat : Bytes → Type 0
Flat line = list_any lineFeed line ≡ false

-- a line with its line feed
abbrev pub asLine : Bytes → Bytes
asLine line = line ++ 10 ∷ []

-- a line ends at its line feed
pub first-line : (line rest : Bytes) → Flat line → slice_split lineFeed (line ++ 10 ∷ rest) ≡ line ∷ slice_split lineFeed rest
first-line line rest h = split-both lineFeed line rest 10 refl ∙ ap (λ (l : List Bytes). l ++ slice_split lineFeed rest) (one-part lineFeed line h)

-- lines, each with its line feed, are the text that was cut there
joined : (ls : List Bytes) → 0 < length ls → collect asLine ls ≡ join_with_byte 10 ls ++ 10 ∷ []
unfolding collect
joined [] h = absurd (omega arith)
joined (l ∷ []) h = append-nil (asLine l)
joined (l ∷ m ∷ ls) h =
    append_assoc l (10 ∷ []) (collect asLine (m ∷ ls)) ∙ ap (λ (t : Bytes). l ++ 10 ∷ t) (joined (m ∷ ls) (omega arith))
    ∙ sym (append_assoc l (10 ∷ join_with_byte 10 (m ∷ ls)) (10 ∷ []))

pub whole-lines : (text : Bytes) → collect asLine (slice_split lineFeed text) ≡ text ++ 10 ∷ []
whole-lines text =
    joined (slice_split lineFeed text) (omega (arith, length-slice_split lineFeed text)) ∙ ap (λ (t : Bytes). t ++ 10 ∷ []) (join_with_byte-slice_split 10 text)
