-- `put_rows` meets its contract: row by row.
use Rattle.std.specs.Prelude.{◌≡◌, refl, []}
use Rattle.std.proofs.Common.{arith, sym, ap, ◌∙◌, ◌++◌, append-nil, append_assoc}
use Rattle.rules.specs.Base.{collect}
use Rattle.text_spell.proofs.Sinks.{cut, nothing, then}
use Rattle.text_write.specs.Parts.{name_of}
use Rattle.edition_report.specs.Rows.{rowText}
use Rattle.edition_report.proofs.OnRows.{first, no-rows}
use Rattle.edition_report.proofs.inner.put_rows.Goals as goal

pub loop-at-init : goal.loop-at-init
loop-at-init g c = λ rs f. record { front = []; others = rs; is = refl; follow = f; puts = nothing _ }

pub put_row-requires-clause-there : goal.put_row-requires-clause-there
put_row-requires-clause-there g c =
    let w = c.requires.there in
    let h = c.loop-at.invariant w.0 w.1 in
    let y = first c.args.s.now c.loop-at.at c.args.end _ c.loop-at-test.true refl h.others h.follow in
    (y.row, (_, y.here))

pub returns-in_err-put_row : goal.returns-in_err-put_row
unfolding collect
returns-in_err-put_row g c =
    λ rs f.
    let h = c.loop-at.invariant rs f in
    let y = first c.args.s.now c.loop-at.at c.args.end _ c.loop-at-test.true refl h.others h.follow in
    rw (h.is, y.is) (then _ h.puts (cut _ _ c.from_residual.ensures.0 (c.in_err-put_row.ensures y.row _ y.here)))

pub overflow_add-at : goal.overflow_add-at
overflow_add-at g c =
    let w = c.requires.there in
    let h = c.loop-at.invariant w.0 w.1 in
    let y = first c.args.s.now c.loop-at.at c.args.end c.length_at-at.result c.loop-at-test.true c.length_at-at.ensures h.others h.follow in
    omega (arith, y.within)

pub loop-at-smaller : goal.loop-at-smaller
loop-at-smaller g c =
    let w = c.requires.there in
    let h = c.loop-at.invariant w.0 w.1 in
    let y = first c.args.s.now c.loop-at.at c.args.end c.length_at-at.result c.loop-at-test.true c.length_at-at.ensures h.others h.follow in
    omega (arith, y.after, y.within)

pub loop-at-preserved : goal.loop-at-preserved
unfolding collect
loop-at-preserved g c =
    λ rs f.
    let names = name_of c.args.names.pool.now c.args.names.table.now in
    let h = c.loop-at.invariant rs f in
    let y = first c.args.s.now c.loop-at.at c.args.end c.length_at-at.result c.loop-at-test.true c.length_at-at.ensures h.others h.follow in
    let e : collect (rowText names) h.others ≡ rowText names y.row ++ collect (rowText names) y.rest = ap (collect (rowText names)) y.is in
    record {
      front = h.front ++ rowText names y.row;
      others = y.rest;
      is = h.is ∙ ap (h.front ++◌) e ∙ sym (append_assoc h.front (rowText names y.row) (collect (rowText names) y.rest));
      follow = y.others;
      puts = then _ h.puts (c.in_ok-put_row.ensures y.row _ y.here);
    }

pub returns : goal.returns
unfolding collect
returns g c =
    λ rs f.
    let names = name_of c.args.names.pool.now c.args.names.table.now in
    let h = c.loop-at.invariant rs f in
    let z = no-rows c.args.s.now c.loop-at.at c.args.end c.loop-at-test.false h.others h.follow in
    rw (h.is, z, append-nil h.front) h.puts
