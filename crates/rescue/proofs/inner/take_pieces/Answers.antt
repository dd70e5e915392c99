-- `inner::take_pieces` meets its contract: by what its two parts leave behind.
use mathlib.Core.Path.{ap, subst}
use native.Mathlib.Omega.{arith}
use mathlib.Core.List.{List}
use Prim.Native.Nat.{ℕ}
use lib.ListN.{length}
use Rattle.rules.specs.Names.{table_of}
use Rattle.rules.specs.Rescue.{piecesIn}
use Rattle.rescue.specs.Told.{Walked}
use Rattle.rescue.proofs.Steps.{words-in-length}
use Rattle.rescue.proofs.Answers.{took}
use Rattle.rescue.proofs.inner.take_pieces.Goals as goal

pub walk-walked-requires : goal.walk-walked-requires
walk-walked-requires c =
    omega (arith, ap length c.requires.words, words-in-length c.args.file.now, c.requires.short)

pub note_torn-requires : goal.note_torn-requires
note_torn-requires c = record { short = c.requires.short; few = omega (arith, c.walk-walked.ensures.within) }

pub returns : goal.returns
returns c =
    let w = c.walk-walked in
    let n = c.note_torn in
    took _ c.args.file.now _ _ c.args.skipped.now w.new.skipped n.new.skipped w.result n.result
    (subst (λ (v : List ℕ). Walked (piecesIn (table_of c.args.names.pool.now c.args.names.table.now) v) c.args.kept.now w.new.kept c.args.skipped.now
    w.new.skipped w.result) c.requires.words w.ensures) n.ensures
