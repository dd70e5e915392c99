-- Structs that differ, by computation.
use Rattle.std.specs.Prelude.{◌≡◌, refl, List, [], ◌∷◌, ◌++◌, ℕ}
use Rattle.rules.specs.Lengths.{sizedWords, counting}
use Rattle.rules.specs.Rules.{rules}
use Rattle.rules.specs.Writing.{Rec, rec, kindIn, lengthIn}
use Rattle.records.specs.Views.{viewAt, longAt, from, recs, view_of, shape_of, plain, longOf}
use Rattle.edition_structs.specs.declared.Differing.{Differing}
use Rattle.edition_structs.specs.Structs.{past, between, begun, structFrom, structsTo, structsFrom}
use Rattle.edition_structs.specs.Compared.{differingFrom, differingOf}

unfoldable pub group : Type 0
unfolding rules counting viewAt longAt from recs view_of shape_of plain longOf kindIn lengthIn past between begun structFrom structsTo structsFrom differingFrom
group = Unit {0}

-- x is a struct of the name 1 with one field, 2, of the kind k
abbrev is : ℕ → ℕ → List Rec
is x k = rec 20 0 0 0 ∷ rec 1 x 0 0 ∷ rec 8 1 0 1 ∷ rec 9 2 0 0 ∷ rec k 0 0 0 ∷ []

-- x is such a struct with the argument of the kind a
abbrev of : ℕ → ℕ → ℕ → List Rec
of x a k = rec 20 0 0 0 ∷ rec 1 x 0 0 ∷ rec 8 1 1 1 ∷ rec a 0 0 0 ∷ rec 9 2 0 0 ∷ rec k 0 0 0 ∷ []

abbrev eachSized : List (List Rec) → List (List ℕ)
eachSized [] = []
eachSized (s ∷ ss) = sizedWords s ∷ eachSized ss

abbrev told : List (List Rec) → List Differing
told sheets = differingOf (structsFrom 0 (eachSized sheets))

abbrev here : ℕ → ℕ → ℕ → ℕ → Differing
here s c t d = record { name = 1; first = record { sheet = s; constraint = c }; other = record { sheet = t; constraint = d } }

-- a boolean and a text, in one sheet and in two
one_sheet : told ((is 5 4 ++ is 6 5) ∷ []) ≡ here 0 1 0 2 ∷ []
unfolding group
one_sheet = refl

two_sheets : told ((is 5 4 ++ is 6 4) ∷ (is 5 4 ++ is 6 5) ∷ []) ≡ here 0 1 1 2 ∷ []
unfolding group
two_sheets = refl

-- the same fields; other arguments; one note of a name
same : told ((is 5 4 ++ is 6 4) ∷ is 5 4 ∷ []) ≡ []
unfolding group
same = refl

other_arguments : told (of 5 4 4 ∷ of 5 5 5 ∷ []) ≡ []
unfolding group
other_arguments = refl

same_arguments : told ((of 5 4 4 ++ of 6 5 5) ∷ of 5 5 4 ∷ of 5 4 5 ∷ []) ≡ here 0 2 1 1 ∷ []
unfolding group
same_arguments = refl

-- a struct that promises more than there is: what is there is compared
cut : differingOf (structsFrom 0 ((524296 ∷ 1 ∷ 7 ∷ 1 ∷ []) ∷ (524296 ∷ 1 ∷ 7 ∷ 1 ∷ 9 ∷ []) ∷ [])) ≡ []
unfolding group
cut = refl
