-- What follows from the definitions of specs/Answers: what is answered for a line.
use Rattle.std.specs.Prelude.{◌≡◌, refl, List, ℕ, Err, Ok}
use Rattle.rules.specs.Names.{Bytes}
use Rattle.rules.specs.Grammar.{column, signsAt}
use Rattle.text_grammar.specs.declared.inner.Point.TheVariants as point
use Rattle.text_grammar.specs.declared.inner.Point.{Point}
use Rattle.text_grammar.specs.Points.{Reads, columnAt}
use Rattle.text_names.specs.Effects.{Lent, lent, Done}
use Rattle.text_names.specs.Stands.{Stand}
use Rattle.text_names.specs.Stands as stand
use Rattle.text_lines.specs.Statements.{meantOf, LineTold, LineDone}
use Rattle.text_lines.proofs.Statements.{line-done, line-bad, line_refused}
use Rattle.text_lines.specs.Answers.{standIn, countIn, answer_of}

module _ {line : Bytes} {q : Point} {x : Lent} {pool table dst : List ℕ} {k m : ℕ} (x1 : Reads line (point.At 0) column (λ (i : ℕ). i ≡ columnAt q) q)
    (g : x.stand ≡ stand.Going k m) where
  -- the answer tells what the line did
  answered : (r : Point) (s : Stand) (n : ℕ) → Done line signsAt meantOf (LineTold n) q x r (lent pool table dst s)
      → LineDone line x (lent pool table dst (standIn (answer_of r s n))) (countIn (answer_of r s n))
  answered (point.At i) (Ok tally) n o = line-done x1 o tt
  answered (point.At i) (Err stop) n o = line_refused 0 refl (line-done x1 o tt)
  answered point.Deep (Ok tally) n o = line-done x1 o tt
  answered point.Deep (Err stop) n o = line_refused 0 refl (line-done x1 o tt)
  answered (point.Bad j) s n o = line-bad x1 0 o g

  -- the same by what pool, table and buffer are in the end
  pub answered-by : (r : Point) (s : Stand) (n : ℕ) → Done line signsAt meantOf (LineTold n) q x r (lent pool table dst s) → {pool' table' dst' : List ℕ}
      → pool' ≡ pool → table' ≡ table → dst' ≡ dst → LineDone line x (lent pool' table' dst' (standIn (answer_of r s n))) (countIn (answer_of r s n))
  answered-by r s n o e f g = rw (e, f, g) (answered r s n o)
