-- The type that is put together is the one that was found.
use Rattle.std.proofs.Common.{sym}
use Rattle.lines_entry.proofs.Entry.{type-none, type-found, few-of}
use Rattle.lines_entry.proofs.inner.parsing.type_at.Goals as goal

pub invariant_of-result : goal.invariant_of-result
invariant_of-result c = record { few = few-of c.args.types.now _ c.args.at (search) c.requires.few }

pub returns-in-Some : goal.returns-in-Some
returns-in-Some c =
    let g = c.in-Some.ensures in
    type-found _ _ _ (record { word = λ i. (c.type_inv.types i).fits }) _ _ _ g.1 _ (search)

pub returns-in-None : goal.returns-in-None
returns-in-None c = sym (type-none _ _ _ (record { word = λ i. (c.type_inv.types i).fits }) _ c.in-None.ensures)
