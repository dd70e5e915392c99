use Rattle.std.proofs.Common.{rules, sym, ◌∙◌, arith}
use Rattle.records.proofs.Walks.{one-long, not-long, factors-none, factors-other, factors-fail, factors-step}
use Rattle.records.specs.Places.{seen-in}
use Rattle.records.proofs.reader.Reader.+factors_end.Goals as goal
use Rattle.records.proofs.reader.Reader.+factors_end.Goals.{
  then-length_at-ne1-via-then-length_at-ne1,
  then-length_at-ne1-via-else-length_at-ne1+then-not-factor_good,
}

pub returns-then-n-eq0 : goal.returns-then-n-eq0
returns-then-n-eq0 t c = let a = c.args in factors-none a.self a.at a.n a.left c.if-n-eq0.true

pub overflow_add-at : goal.overflow_add-at
overflow_add-at t c = omega (arith, seen-in _ _ (sym c.in-Factor.ensures) tt)

pub returns : goal.returns
returns t c = let a = c.args in factors-step a.self a.at a.n a.left _ _ _ (sym c.in-Factor.ensures) c.if-n-eq0.false (search rules)
    (sym (one-long c.length_at.ensures c.if-length_at-ne1.false (rw (← c.from_words-e.ensures) c.if-not-factor_good.ensures))) _ c.factors_end.ensures

pub returns-then-length_at-ne1 : goal.returns-then-length_at-ne1
returns-then-length_at-ne1 t c = let a = c.args
    in factors-fail a.self a.at a.n a.left _ _ _ (sym c.in-Factor.ensures) c.if-n-eq0.false
    (elim c.then-length_at-ne1.branch [
      | then-length_at-ne1-via-then-length_at-ne1 w ↦ sym (not-long _ c.length_at.ensures w.if-length_at-ne1.true)
      | then-length_at-ne1-via-else-length_at-ne1+then-not-factor_good w ↦
          sym (one-long c.length_at.ensures w.if-length_at-ne1.false (rw (← c.from_words-e.ensures) w.if-not-factor_good.ensures))
    ])

pub returns-in_default : goal.returns-in_default
returns-in_default t c = let a = c.args in
    factors-other a.self a.at a.n a.left c.if-n-eq0.false (λ f m d e. c.in_default.not-Factor f m d (c.view_at.ensures ∙ e))
