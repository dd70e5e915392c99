-- What is answered for a line.
use Rattle.std.specs.Prelude.{ℕ, Result, Err, Ok}
use Rattle.rules.specs.declared.Refusal.TheVariants.{NotGrammar}
use Rattle.text_grammar.specs.declared.inner.Point.TheVariants as point
use Rattle.text_grammar.specs.declared.inner.Point.{Point}
use Rattle.text_names.specs.Stands.{Stand}
use Rattle.text_names.specs.declared.inner.At.{At}
use Rattle.text_lines.specs.declared.inner.Line.{Line}

-- how the sheet stands, and how many constraints the line had
abbrev pub standIn : Result Line At → Stand
standIn (Ok l) = Ok l.tally
standIn (Err stop) = Err stop

abbrev pub countIn : Result Line At → ℕ
countIn (Ok l) = l.constraints
countIn (Err stop) = 0

abbrev pub told_of : Stand → ℕ → Result Line At
told_of (Ok tally) n = Ok (record { tally = tally; constraints = n })
told_of (Err stop) n = Err stop

-- outside the grammar 12, else how the sheet stands
abbrev pub answer_of : Point → Stand → ℕ → Result Line At
answer_of (point.At i) s n = told_of s n
answer_of point.Deep s n = told_of s n
answer_of (point.Bad q) s n = Err (record { why = NotGrammar; at = q })
