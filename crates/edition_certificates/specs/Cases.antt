-- A few certificates, and what is said to them: of the set x = boolean, over the names of the rules' own examples.
use Rattle.std.specs.Prelude.{◌≡◌, Bool, true, false, [], ◌∷◌, List, ℕ}
use Rattle.rules.specs.Base.{Got, got, refused}
use Rattle.rules.specs.Examples.{x, pool, table}
use Rattle.rules.specs.Lengths.{sizedWords}
use Rattle.rules.specs.Writing.{Rec, rec}
use Rattle.edition_certificates.specs.Certificates.{verified}

-- x = boolean
abbrev set : List ℕ
set = sizedWords (rec 20 0 0 0 ∷ rec 1 x 0 0 ∷ rec 4 0 0 0 ∷ [])

abbrev pub said : List Rec → Got Bool
said lines = verified pool table set (sizedWords lines)

pub record Examples : Type 0 where
  -- ?x ~ Bool
  pub yes : said (rec 20 0 0 0 ∷ rec 1 x 0 0 ∷ rec 4 0 0 0 ∷ []) ≡ got true
  -- ?x ~ String
  pub no : said (rec 20 0 0 0 ∷ rec 1 x 0 0 ∷ rec 5 0 0 0 ∷ []) ≡ got false
  -- ?x: DType, under which x is no boolean; and no line at all
  pub bounded : said (rec 21 0 0 0 ∷ rec 1 x 0 0 ∷ []) ≡ got false
  pub empty : said [] ≡ got false
  -- ?x ~ Bool, twice
  pub twice : said (rec 20 0 0 0 ∷ rec 1 x 0 0 ∷ rec 4 0 0 0 ∷ rec 20 0 0 0 ∷ rec 1 x 0 0 ∷ rec 4 0 0 0 ∷ []) ≡ refused 1
  -- Bool ~ ?x
  pub other-line : said (rec 20 0 0 0 ∷ rec 4 0 0 0 ∷ rec 1 x 0 0 ∷ []) ≡ refused 12
