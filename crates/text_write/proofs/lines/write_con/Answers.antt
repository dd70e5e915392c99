-- `write_con` meets its contract: by what the constraint asks.
use Rattle.rules.specs.TextWriting.{conText}
use Rattle.text_spell.proofs.Sinks.{cut, then}
use Rattle.text_write.proofs.Parts.{has-text}
use Rattle.text_write.proofs.lines.write_con.Goals as goal

pub returns-in_err-write_type-in-Equal : goal.returns-in_err-write_type-in-Equal
unfolding conText
returns-in_err-write_type-in-Equal g c = rw (← c.in-Equal.ensures) (cut _ _ c.from_residual.ensures.0 c.in_err-write_type-in-Equal.ensures)

pub returns-in_err-put-in-Equal : goal.returns-in_err-put-in-Equal
unfolding conText
returns-in_err-put-in-Equal g c =
    rw (← c.in-Equal.ensures)
    (then _ c.in_ok-write_type-in-Equal.ensures (cut _ _ c.from_residual-in_err-put-in-Equal.ensures.0 c.in_err-put-in-Equal.ensures))

pub returns-in_ok-put-in-Equal : goal.returns-in_ok-put-in-Equal
unfolding conText
returns-in_ok-put-in-Equal g c =
    rw (← c.in-Equal.ensures) (then _ c.in_ok-write_type-in-Equal.ensures (then _ c.in_ok-put-in-Equal.ensures c.write_type-in-Equal.ensures))

pub returns-in_err-write_type-in-IsDimension : goal.returns-in_err-write_type-in-IsDimension
unfolding conText
returns-in_err-write_type-in-IsDimension g c =
    rw (← c.in-IsDimension.ensures) (cut _ _ c.from_residual-in_err-write_type-in-IsDimension.ensures.0 c.in_err-write_type-in-IsDimension.ensures)

pub returns-in_ok-write_type-in-IsDimension : goal.returns-in_ok-write_type-in-IsDimension
unfolding conText
returns-in_ok-write_type-in-IsDimension g c = rw (← c.in-IsDimension.ensures) (then _ c.in_ok-write_type-in-IsDimension.ensures c.put-in-IsDimension.ensures)

pub returns-in_err-put_dimension-in-IsScalar : goal.returns-in_err-put_dimension-in-IsScalar
unfolding conText
returns-in_err-put_dimension-in-IsScalar g c =
    rw (← c.in-IsScalar.ensures) (cut _ _ c.from_residual-in_err-put_dimension-in-IsScalar.ensures.0 c.in_err-put_dimension-in-IsScalar.ensures)

pub returns-in_ok-put_dimension-in-IsScalar : goal.returns-in_ok-put_dimension-in-IsScalar
unfolding conText
returns-in_ok-put_dimension-in-IsScalar g c = rw (← c.in-IsScalar.ensures) (then _ c.in_ok-put_dimension-in-IsScalar.ensures c.put-in-IsScalar.ensures)

pub returns-in_err-put-in-HasField : goal.returns-in_err-put-in-HasField
returns-in_err-put-in-HasField g c =
    rw (← c.in-HasField.ensures, has-text) (cut _ _ c.from_residual-in_err-put-in-HasField.ensures.0 c.in_err-put-in-HasField.ensures)

pub returns-in_err-write_type-in-HasField : goal.returns-in_err-write_type-in-HasField
returns-in_err-write_type-in-HasField g c =
    rw (← c.in-HasField.ensures, has-text)
    (then _ c.in_ok-put-in-HasField.ensures (cut _ _ c.from_residual-in_err-write_type-in-HasField.ensures.0 c.in_err-write_type-in-HasField.ensures))

pub returns-in_err-put_named-in-HasField : goal.returns-in_err-put_named-in-HasField
returns-in_err-put_named-in-HasField g c =
    rw (← c.in-HasField.ensures, has-text)
    (then _ c.in_ok-put-in-HasField.ensures (then _ c.in_ok-write_type-in-HasField.ensures
    (cut _ _ c.from_residual-in_err-put_named-in-HasField.ensures.0 c.in_err-put_named-in-HasField.ensures)))

pub returns-in_err-write_type-in-HasField-2 : goal.returns-in_err-write_type-in-HasField-2
returns-in_err-write_type-in-HasField-2 g c =
    rw (← c.in-HasField.ensures, has-text)
    (then _ c.in_ok-put-in-HasField.ensures (then _ c.in_ok-write_type-in-HasField.ensures (then _ c.in_ok-put_named-in-HasField.ensures
    (cut _ _ c.from_residual-in_err-write_type-in-HasField-2.ensures.0 c.in_err-write_type-in-HasField-2.ensures))))

pub returns-in_ok-write_type-in-HasField-2 : goal.returns-in_ok-write_type-in-HasField-2
returns-in_ok-write_type-in-HasField-2 g c =
    rw (← c.in-HasField.ensures, has-text)
    (then _ c.in_ok-put-in-HasField.ensures (then _ c.in_ok-write_type-in-HasField.ensures (then _ c.in_ok-put_named-in-HasField.ensures
    (then _ c.in_ok-write_type-in-HasField-2.ensures c.put-in-HasField-2.ensures))))
