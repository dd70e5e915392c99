-- `inner::naming::enter_front` meets its contract.
use mathlib.Core.Path.{refl, sym, ◌∙◌}
use lib.Seq.{length-take-le}
use native.Mathlib.Omega.{arith}
use Rattle.text_names.proofs.Naming.{too_long, front-entered}
use Rattle.text_names.proofs.inner.naming.enter_front.Goals as goal

pub returns-then-long-gt-NAME_BYTES : goal.returns-then-long-gt-NAME_BYTES
returns-then-long-gt-NAME_BYTES c = λ n f. too_long _ _ n (omega (arith, f.count))

pub slice_bounds-enter_good-end : goal.slice_bounds-enter_good-end
slice_bounds-enter_good-end c =
    sym (length-take-le c.args.long c.args.bytes.now (omega (arith, c.requires.size, c.if-long-gt-NAME_BYTES.false)))

pub returns : goal.returns
returns c =
    λ n f. c.enter_good.ensures ∙ front-entered _ _ f (omega (arith, c.if-long-gt-NAME_BYTES.false)) _ refl
