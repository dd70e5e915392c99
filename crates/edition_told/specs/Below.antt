-- The lines of a page below its first.
use Rattle.std.specs.Prelude.{if◌then◌else◌, eqb, List, [], ◌∷◌, drop}
use Rattle.std.specs.List.{flat_map, slice_split, starts_with}
use Rattle.rules.specs.Grammar.{ascii}
use Rattle.rules.specs.Names.{Bytes}

-- a line that begins with two blanks, without these; no other line
abbrev pub rowOf : Bytes → List Bytes
rowOf line = if starts_with eqb line (ascii "  ") then drop 2 line ∷ [] else []

-- of a page's lines behind the first those that begin with two blanks
unfoldable pub linesBelow : Bytes → List Bytes
linesBelow page = flat_map rowOf (drop 1 (slice_split (λ b. eqb b 10) page))
