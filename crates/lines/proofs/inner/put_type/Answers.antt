-- `inner::put_type` meets its contract.
use native.Mathlib.Omega.{arith}
use Rattle.lines.proofs.Typed.{place-known, typed-bound, typed_free}
use Rattle.lines.proofs.inner.put_type.Goals as goal

pub copy-requires : goal.copy-requires
copy-requires c =
    let (look, t) = c.requires in
    let k = place-known _ _ look _ t (c.look_up.ensures look t) c.in-Some.is in
    record { order = k.0; within = k.1; near = omega (arith, k.2) }

pub overflow_sub-result : goal.overflow_sub-result
overflow_sub-result c =
    let (look, t) = c.requires in
    (place-known _ _ look _ t (c.look_up.ensures look t) c.in-Some.is).0

pub returns-in-Some : goal.returns-in-Some
returns-in-Some c = λ look t.
    typed-bound _ _ look _ t _ _ (c.look_up.ensures look t) c.in-Some.is c.copy.ensures

pub returns-in-None : goal.returns-in-None
returns-in-None c = λ look t.
    typed_free _ _ look _ t _ _ (c.look_up.ensures look t) c.in-None.is c.put_one.ensures
