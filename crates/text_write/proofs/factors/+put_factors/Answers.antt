-- `put_factors` meets its contract: the first factor, and then the others.
use Rattle.text_spell.proofs.Sinks.{cut, nothing, then}
use Rattle.text_write.proofs.Parts.{next-factor, no-factors}
use Rattle.text_write.proofs.factors.+put_factors.Goals as goal

pub returns-in_default : goal.returns-in_default
returns-in_default g t c = rw (← c.in_default.ensures, no-factors) (nothing _)

pub returns-in_err-put_star : goal.returns-in_err-put_star
returns-in_err-put_star g t c = rw (← c.in-Some.ensures, next-factor) (cut _ _ c.from_residual.ensures.0 c.in_err-put_star.ensures)

pub returns-in_err-put_factor : goal.returns-in_err-put_factor
returns-in_err-put_factor g t c =
    rw (← c.in-Some.ensures, next-factor) (then _ c.in_ok-put_star.ensures (cut _ _ c.from_residual-in_err-put_factor.ensures.0 c.in_err-put_factor.ensures))

pub returns : goal.returns
returns g t c = rw (← c.in-Some.ensures, next-factor) (then _ c.in_ok-put_star.ensures (then _ c.in_ok-put_factor.ensures c.put_factors.ensures))
