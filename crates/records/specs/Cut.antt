-- Records as code writes them: a length that doesn't fit the word (over 65,535, which no list that goes out has) is left out.
use Rattle.std.specs.Prelude.{Bool, true, false, List, map, ℕ, leb}
use Rattle.rules.specs.Writing.{Rec, rec, head, kindIn, lengthIn}

abbrev pub fitIf : Bool → ℕ → ℕ
fitIf true n = n
fitIf false n = 0

unfoldable pub fit : ℕ → ℕ
fit n = fitIf (leb n 65_535) n

-- ══ Records as they are written ══

abbrev pub cutRec : Rec → Rec
cutRec (rec w a b c) = rec (head (kindIn w) (fit (lengthIn w))) a b c

abbrev pub cut : List Rec → List Rec
cut rs = map cutRec rs
