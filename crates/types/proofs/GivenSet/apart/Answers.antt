-- `GivenSet::apart` meets its contract.
use Rattle.std.proofs.Common.{sym, ◌∙◌}
use Rattle.rules.specs.Names.{table_of, names_of}
use Rattle.types.proofs.GivenSets.{given-in}
use Rattle.types.proofs.Entering.{entry-small, let-in}
use Rattle.types.proofs.GivenSet.apart.Goals as goal

pub is_unmixed-requires : goal.is_unmixed-requires
is_unmixed-requires c =
    let s = c.in_ok-set.set in
    entry-small _ (record { word = λ i. (c.type_inv.words i).fits }) s (given-in _ _ s c.in_ok-set.ensures.same c.in_ok-set.ensures.answer)

pub returns-then-is_unmixed-clause-answer : goal.returns-then-is_unmixed-clause-answer
returns-then-is_unmixed-clause-answer c =
    let s = c.in_ok-set.set in
    let u = sym c.if-is_unmixed.true ∙ c.is_unmixed.ensures (names_of (table_of s.names.pool.now s.names.table.now)) in
    let-in _ (record { word = λ i. (c.type_inv.words i).fits }) s (given-in _ _ s c.in_ok-set.ensures.same c.in_ok-set.ensures.answer) _ _
    c.in_ok-set.ensures.same u

pub returns-else-is_unmixed-clause-answer : goal.returns-else-is_unmixed-clause-answer
returns-else-is_unmixed-clause-answer c =
    let s = c.in_ok-set.set in
    let u = sym c.if-is_unmixed.false ∙ c.is_unmixed.ensures (names_of (table_of s.names.pool.now s.names.table.now)) in
    let-in _ (record { word = λ i. (c.type_inv.words i).fits }) s (given-in _ _ s c.in_ok-set.ensures.same c.in_ok-set.ensures.answer) _ _
    c.in_ok-set.ensures.same u
