-- Histories in which offices enter names and read sheets, in any order, over the pool and the table that they share.
use Rattle.std.specs.Prelude.{◌≡◌, Bool, true, false, not, List, [], ◌∷◌, map, ℕ, eqb}
use Rattle.rules.specs.Base.{Got, collect, all}
use Rattle.rules.specs.Names.{Bytes, Table}
use Rattle.rules.specs.Trees.{Con}
use Rattle.rules.specs.Writing.{words, writeCon}
use Rattle.rules.specs.TextReading.{Sofar, Sheet, sheet, refusedIn, sheetRead}
use Rattle.rules.specs.Offices.{nameNo, mapGot, mapCon, ReadAlike, Office, sameOffice, Shared, entered, answered, noThree}

-- what an office does: it enters a name, or it reads a sheet
pub data Deed : Type 0 where
  enters : Bytes → Deed
  reads : Bytes → Deed

pub record Done : Type 0 where
  pub by : Office
  pub deed : Deed

-- what a sheet leaves: where it is refused, all is as before
abbrev pub leftBy : Shared → Sheet → Shared
leftBy s (sheet cs u) = record { pool = u.pool; table = u.table }
leftBy s (refusedIn n l c) = s

abbrev pub readIn : Shared → Bytes → Sheet
readIn s text = sheetRead s.pool s.table text

unfoldable pub afterDeed : Shared → Deed → Shared
afterDeed s (enters n) = entered s n
afterDeed s (reads text) = leftBy s (readIn s text)

unfoldable pub afterDeeds : Shared → List Done → Shared
afterDeeds s [] = s
afterDeeds s (d ∷ ds) = afterDeeds (afterDeed s d.deed) ds

-- what it is answered: a number or a refusal; or what the sheet came to
pub data Reply : Type 0 where
  number : Got ℕ → Reply
  outcome : Sheet → Reply

unfoldable pub replyTo : Shared → Deed → Reply
replyTo s (enters n) = number (answered s n)
replyTo s (reads text) = outcome (readIn s text)

abbrev pub noThreeIn : Reply → Bool
noThreeIn (number a) = noThree a
noThreeIn (outcome (sheet cs u)) = true
noThreeIn (outcome (refusedIn n l c)) = not (eqb n 3)

-- what an office does, and what it is answered, in turn
unfoldable pub deedsBy : Office → List Done → List Deed
deedsBy o [] = []
deedsBy o (d ∷ ds) = elim (sameOffice o d.by) [ true ↦ d.deed ∷ deedsBy o ds | false ↦ deedsBy o ds ]

unfoldable pub repliesTo : Office → Shared → List Done → List Reply
repliesTo o s [] = []
repliesTo o s (d ∷ ds) = elim (sameOffice o d.by) [
  | true ↦ replyTo s d.deed ∷ repliesTo o (afterDeed s d.deed) ds
  | false ↦ repliesTo o (afterDeed s d.deed) ds
]

unfoldable pub hadRoomFor : List Reply → Bool
hadRoomFor rs = all noThreeIn rs

-- two answers, each read over its own table: the same name or refusal; the same refusal, line and column; or the same constraints, whose words read alike
pub data RepliedAlike (t t' : Table) : Reply → Reply → Type 0 where
  numbers : (a a' : Got ℕ) → mapGot (nameNo t) a ≡ mapGot (nameNo t') a' → RepliedAlike t t' (number a) (number a')
  refusals : (n l c : ℕ) → RepliedAlike t t' (outcome (refusedIn n l c)) (outcome (refusedIn n l c))
  sets : (cs cs' : List (Con ℕ)) (u u' : Sofar) → map (mapCon (nameNo t)) cs ≡ map (mapCon (nameNo t')) cs'
      → ReadAlike t t' (words (collect writeCon cs)) (words (collect writeCon cs')) → RepliedAlike t t' (outcome (sheet cs u)) (outcome (sheet cs' u'))

-- as many answers, alike in turn
pub data EachAlike (t t' : Table) : List Reply → List Reply → Type 0 where
  none : EachAlike t t' [] []
  next : {r r' : Reply} {rs rs' : List Reply} → RepliedAlike t t' r r' → EachAlike t t' rs rs' → EachAlike t t' (r ∷ rs) (r' ∷ rs')
