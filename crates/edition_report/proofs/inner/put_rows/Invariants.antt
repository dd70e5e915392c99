-- What is put of rows so far, and the rows that follow.
use Rattle.std.specs.Prelude.{◌≡◌, List, ℕ, ◌++◌, ◌-◌, Ok}
use Rattle.rules.specs.Base.{collect}
use Rattle.rules.specs.Names.{Bytes}
use Rattle.text_write.specs.Parts.{name_of}
use Rattle.text_spell.specs.Sinks.{Place, Puts}
use Rattle.edition_report.specs.Rows.{Row, RowsAt, rowText}
use Rattle.edition_report.proofs.inner.put_rows.Given as goal

pub record SoFar (E : Type 0) (names : ℕ → Bytes) (s : List ℕ) (at end : ℕ) (old new : Place) (rs : List Row) : Type 0 where
  pub front : Bytes
  pub others : List Row
  pub is : collect (rowText names) rs ≡ front ++ collect (rowText names) others
  pub follow : RowsAt s at end others
  pub puts : Puts {E = E} old front (Ok tt) new

abbrev pub invariant-loop-at : goal.invariant-loop-at
invariant-loop-at g l = (rs : List Row) → RowsAt l.s 0 l.end rs
    → SoFar g.row.S-Error.Denot (name_of l.names.pool.now l.names.table.now) l.s l.at l.end (g.S.Sink.place l.initial.to) (g.S.Sink.place l.to) rs

abbrev pub decreases-loop-at : goal.decreases-loop-at
decreases-loop-at g l = l.end - l.at
