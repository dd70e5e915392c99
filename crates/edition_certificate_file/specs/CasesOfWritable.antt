-- Written and read by computation: sheets that are writable are read back, and of others each is refused where it isn't.
use Rattle.std.specs.Prelude.{◌≡◌, refl, Bool, true, false, ℕ, List, [], ◌∷◌, replicate, Result, Ok, Err}
use Prim.Native.String.{String}
use Rattle.std.proofs.Math.Decide.{ℕ_discrete}
use Rattle.rules.specs.Base.{any, list-dec}
use Rattle.rules.specs.Grammar.{ascii}
use Rattle.rules.specs.Names.{sameBytes, distinct}
use Rattle.edition_certificate_file.specs.declared.Fault.{Fault}
use Rattle.edition_certificate_file.specs.declared.Fault.TheVariants.{Line}
use Rattle.edition_certificate_file.specs.Files.{Kept, keptsText}
use Rattle.edition_certificate_file.specs.Reading.{certificateRead}
use Rattle.edition_certificate_file.specs.CasesOfReading.{reading}
use Rattle.edition_certificate_file.specs.Writable.{writable, allWritable}

-- every definition of writing and reading under one name
unfoldable writing : Type 0
unfolding reading ℕ_discrete any list-dec sameBytes distinct writable allWritable
writing = Unit {0}

abbrev entry : String → List ℕ → String → Kept
entry name digest lines = record { name = ascii name; digest = digest; lines = ascii lines }

abbrev digest : List ℕ
digest = replicate 32 171

-- is it writable, and what is read of what is written of it
abbrev both : (ks : List Kept) → Bool × Result (List Kept) Fault
both ks = (allWritable ks, certificateRead (keptsText ks))

abbrev two : List Kept
two = entry "a" digest "  ?x ~ Bool\n  ?y ~ Bool\n" ∷ entry "" (replicate 32 0) "" ∷ []

read-back : both two ≡ (true, Ok two)
unfolding writing
read-back = refl

no-sheet : both [] ≡ (true, Ok [])
unfolding writing
no-sheet = refl

-- one name twice: the line with the second
twice : both (entry "a" digest "  ?x ~ Bool\n" ∷ entry "a" digest "" ∷ []) ≡ (false, Err (Line 6))
unfolding writing
twice = refl

-- a name with a line feed, a digest of 31 bytes, one with a number that is no byte
name-of-two-lines : both (entry "a\nb" digest "" ∷ []) ≡ (false, Err (Line 3))
unfolding writing
name-of-two-lines = refl

short-digest : both (entry "a" (replicate 31 171) "" ∷ []) ≡ (false, Err (Line 3))
unfolding writing
short-digest = refl

no-bytes : both (entry "a" (replicate 32 256) "" ∷ []) ≡ (false, Err (Line 3))
unfolding writing
no-bytes = refl

-- lines without their blanks, without the last line feed, and an empty one
no-blanks : both (entry "a" digest "?x ~ Bool\n" ∷ []) ≡ (false, Err (Line 4))
unfolding writing
no-blanks = refl

no-feed : both (entry "a" digest "  ?x ~ Bool" ∷ []) ≡ (false, Err (Line 5))
unfolding writing
no-feed = refl

empty-line : both (entry "a" digest "  ?x ~ Bool\n\n" ∷ []) ≡ (false, Err (Line 5))
unfolding writing
empty-line = refl
