-- `constraint_line` meets its contract: lines are left behind one after another, and with each the constraint that it holds.
use Rattle.std.proofs.Common.{◌≡◌, true, sym, ◌∙◌, arith}
use Rattle.laws.proofs.Lists.{true≢false}
use Rattle.edition_report.proofs.Ahead.{from-first, this-holds, none-holds, holds-on}
use Rattle.edition_report.proofs.lines.constraint_line.Goals.{else-here-via-then-here+else-left-eq0, else-here-via-else-here}
use Rattle.edition_report.proofs.lines.constraint_line.Goals as goal

pub loop-k-init : goal.loop-k-init
loop-k-init c = from-first c.args.text.now c.args.k

pub returns-then-left-eq0 : goal.returns-then-left-eq0
returns-then-left-eq0 c =
    this-holds _ _ _ _ _ c.loop-k.invariant c.line_end-end.ensures c.holds_some-here.ensures c.if-here.true c.if-left-eq0.true

pub returns-then-end-text : goal.returns-then-end-text
returns-then-end-text c =
    let n : c.holds_some-here.result ≡ true → c.loop-k.left ≡ 0 → ⊥ = elim c.else-here.branch [
      | else-here-via-then-here+else-left-eq0 w ↦ λ t z. w.if-left-eq0.false z
      | else-here-via-else-here w ↦ λ t z. true≢false (sym t ∙ w.if-here.false)
    ] in
    none-holds _ _ _ _ _ c.loop-k.invariant c.line_end-end.ensures c.holds_some-here.ensures n c.if-end-text.true

pub loop-k-preserved : goal.loop-k-preserved
loop-k-preserved c =
    let n : c.holds_some-here.result ≡ true → c.loop-k.left ≡ 0 → ⊥ = elim c.else-here.branch [
      | else-here-via-then-here+else-left-eq0 w ↦ λ t z. w.if-left-eq0.false z
      | else-here-via-else-here w ↦ λ t z. true≢false (sym t ∙ w.if-here.false)
    ] in
    holds-on _ _ _ _ _ c.loop-k.invariant c.line_end-end.ensures c.holds_some-here.ensures n (omega (arith, c.line_end-end.ensures.within, c.if-end-text.false))
    c.left_behind-left.ensures
