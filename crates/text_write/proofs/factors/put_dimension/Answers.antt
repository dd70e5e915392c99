-- `put_dimension` meets its contract.
use Rattle.text_spell.proofs.Sinks.{cut, then}
use Rattle.text_write.proofs.Parts.{dimension-is}
use Rattle.text_write.proofs.factors.put_dimension.Goals as goal

pub returns-in_err-put : goal.returns-in_err-put
returns-in_err-put g c = rw dimension-is (cut _ _ c.from_residual.ensures.0 c.in_err-put.ensures)

pub returns-in_err-put_factors : goal.returns-in_err-put_factors
returns-in_err-put_factors g c =
    rw dimension-is (then _ c.in_ok-put.ensures (cut _ _ c.from_residual-in_err-put_factors.ensures.0 c.in_err-put_factors.ensures))

pub returns : goal.returns
returns g c = rw dimension-is (then _ c.in_ok-put.ensures (then _ c.in_ok-put_factors.ensures c.put-2.ensures))
