-- `inner::fresh::used_in` meets its contract.
use mathlib.Core.Path.{sym, ap, ◌∙◌}
use lib.Dec.{eqb}
use Rattle.rules.specs.Base.{any}
use Rattle.lines_entry.proofs.Used.{names-none, any-hit, any-miss}
use Rattle.lines_entry.proofs.inner.fresh.used_in.Goals as goal

pub returns-then-is_name : goal.returns-then-is_name
returns-then-is_name c = let s = c.args.s.now in let e = c.args.e in let p = eqb c.args.x in let i = c.loop-i.i
    in sym (any-hit s i e c.loop-i-test.true p (ap (any p) (sym c.name_here.ensures) ∙ sym c.is_name.ensures ∙ c.if-is_name.true))
    ∙ c.loop-i.invariant

pub loop-i-preserved : goal.loop-i-preserved
loop-i-preserved c = let s = c.args.s.now in let e = c.args.e in let p = eqb c.args.x in let i = c.loop-i.i
    in sym (any-miss s i e c.loop-i-test.true p (ap (any p) (sym c.name_here.ensures) ∙ sym c.is_name.ensures ∙ c.if-is_name.false))
    ∙ c.loop-i.invariant

pub returns : goal.returns
unfolding any
returns c = let s = c.args.s.now in let e = c.args.e in let p = eqb c.args.x in let i = c.loop-i.i
    in sym (ap (any p) (names-none s i e c.loop-i-test.false)) ∙ c.loop-i.invariant
