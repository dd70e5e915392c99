-- `inner::set_fits` meets its contract.
use Rattle.rules.specs.Base.{sum_of, max_of}
use Rattle.rules.specs.Trees.{sizeCon, depthCon}
use Rattle.replace_calls.proofs.Standing.{too_long, cons-there, near-there, there-good, set-shallow, set-deep}
use Rattle.replace_calls.proofs.inner.set_fits.Goals as goal

pub returns-then-n-gt-RECORDS : goal.returns-then-n-gt-RECORDS
returns-then-n-gt-RECORDS c = λ cs s. too_long (sum_of sizeCon) (max_of depthCon) _ cs s.many c.if-n-gt-RECORDS.true

pub invariant_of-made : goal.invariant_of-made
invariant_of-made c = let (cs, s) = c.requires
    in record { near = near-there _ _ _ _ cs s c.if-n-gt-RECORDS.false; trees = (cs, cons-there _ _ _ _ cs s c.if-n-gt-RECORDS.false) }

pub constraints_flat-requires : goal.constraints_flat-requires
constraints_flat-requires c = let (cs, s) = c.requires in there-good _ _ _ _ cs s c.if-n-gt-RECORDS.false (_, search)

pub returns-then-constraints_flat : goal.returns-then-constraints_flat
returns-then-constraints_flat c = λ cs s.
    set-shallow _ _ _ _ cs s c.if-n-gt-RECORDS.false (_, search) c.constraints_flat.ensures c.if-constraints_flat.true

pub returns-else-constraints_flat : goal.returns-else-constraints_flat
returns-else-constraints_flat c = λ cs s.
    set-deep _ _ _ _ cs s c.if-n-gt-RECORDS.false (_, search) c.constraints_flat.ensures c.if-constraints_flat.false
