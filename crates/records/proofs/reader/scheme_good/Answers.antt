use Rattle.std.proofs.Common.{sym, ◌∙◌}
use Rattle.records.proofs.Wholes.{scheme-open, scheme-concrete, scheme-other, scheme-type, scheme-bounds}
use Rattle.records.proofs.reader.scheme_good.Goals as goal

pub returns-then-length_at-s : goal.returns-then-length_at-s
returns-then-length_at-s c = let n = c.args.names in scheme-open n.pool.now n.table.now c.args.s.now (λ e. c.if-length_at-s.true (c.length_at.ensures ∙ e))

pub returns-in-Concrete : goal.returns-in-Concrete
returns-in-Concrete c = let n = c.args.names in scheme-concrete n.pool.now n.table.now c.args.s.now (sym c.length_at.ensures ∙ c.if-length_at-s.false)
    (sym c.in-Concrete.ensures) c.is_type.result c.is_type.ensures

pub returns-in-Some : goal.returns-in-Some
returns-in-Some c = let n = c.args.names in scheme-bounds n.pool.now n.table.now c.args.s.now (sym c.length_at.ensures ∙ c.if-length_at-s.false) _
    (sym c.in-Scheme.ensures) c.in-Some.end c.in-Some.ensures c.all.result c.all.ensures

pub returns-in-None : goal.returns-in-None
returns-in-None c = let n = c.args.names in
    scheme-type n.pool.now n.table.now c.args.s.now (sym c.length_at.ensures ∙ c.if-length_at-s.false) _ (sym c.in-Scheme.ensures) c.in-None.ensures

pub returns-in_default : goal.returns-in_default
returns-in_default c = let n = c.args.names in scheme-other n.pool.now n.table.now c.args.s.now
    (λ e. c.in_default.not-Concrete (c.view_at.ensures ∙ e)) (λ n e. c.in_default.not-Scheme n (c.view_at.ensures ∙ e))
