-- Small editions by computation: one sheet beside another, over a full table, and by itself.
use Rattle.std.specs.Prelude.{◌≡◌, refl, List, [], ◌∷◌, ◌++◌, ℕ, zero, suc, replicate, Ok}
use Prim.Native.String.{String}
use Rattle.std.proofs.Math.Option.{some}
use Rattle.rules.specs.Trees.{◌≔◌, basic, boolean}
use Rattle.rules.specs.Grammar.{ascii}
use Rattle.rules.specs.Offices.{named, nameNo, mapTy, mapBinding}
use Rattle.rules.specs.Reports.{unread, Edition, editionGiven}
use Rattle.rules.specs.CasesOfReports.{reports}
use Rattle.rules.specs.Rules.{rules}
use Rattle.rules.specs.Sheets.{sheets}
use Rattle.rules.specs.Apart.{File, accepts, says, found, foundAt}

-- a file of this name
abbrev file : String → String → File
file name text = (ascii name, Ok (ascii text))

-- over a table without names
abbrev fresh : List File → Edition
fresh files = editionGiven (replicate 8192 0) (replicate 257 0) files

-- 'y' has the number 1 behind a sheet with 'x', and 0 by itself: it is bound to the same type
beside-and-alone : foundAt (fresh (file "a" "?x ~ Bool" ∷ file "b" "?y ~ Bool" ∷ [])) 1 ∷ foundAt (fresh (file "b" "?y ~ Bool" ∷ [])) 0 ∷ []
    ≡ some (accepts (named (121 ∷ []) ≔ basic boolean ∷ []) [] 1) ∷ some (accepts (named (121 ∷ []) ≔ basic boolean ∷ []) [] 1) ∷ []
unfolding rules sheets reports foundAt found nameNo mapTy mapBinding
beside-and-alone = refl

-- 255 names of one byte each, and room for one more
up_to : ℕ → ℕ → List ℕ
up_to a zero = []
up_to a (suc n) = a ∷ up_to (suc a) n

abbrev almostFull : List File → Edition
almostFull files = editionGiven (up_to 0 255 ++ replicate 7937 0) (255 ∷ (up_to 1 255 ++ 0 ∷ [])) files

-- behind a sheet that takes the last number it meets 3, and by itself it doesn't: so the premise is needed
three-beside : foundAt (almostFull (file "a" "?xx ~ Bool" ∷ file "b" "?yy ~ Bool" ∷ [])) 1 ∷ foundAt (almostFull (file "b" "?yy ~ Bool" ∷ [])) 0 ∷ []
    ≡ some (says (unread 3 1 2)) ∷ some (accepts (named (121 ∷ 121 ∷ []) ≔ basic boolean ∷ []) [] 1) ∷ []
unfolding rules sheets reports foundAt found nameNo mapTy mapBinding up_to
three-beside = refl
