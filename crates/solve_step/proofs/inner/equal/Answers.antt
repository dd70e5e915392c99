use Rattle.std.proofs.Common.{arith, sym, ◌∙◌}
use Rattle.rules.specs.Names.{numbered, names_of, table_of}
use Rattle.rules.specs.Trees.{sizeBinding}
use Rattle.types.proofs.Puts.{short}
use Rattle.solve_step.proofs.Rules.{same-records, bound-first, none-bound}
use Rattle.solve_step.proofs.Short.{first-long}
use Rattle.solve_step.proofs.Written.{applied-as, bind-is, done-is, bind-written}
use Rattle.solve_step.proofs.inner.equal.Goals as goal

pub returns-then-same : goal.returns-then-same
returns-then-same c =
    let a = c.args in
    let names = names_of (table_of a.names.pool.now a.names.table.now) in
    done-is (same-records (numbered names) _ _ (sym (c.same.ensures names) ∙ c.if-same.true))

pub overflow_add-len : goal.overflow_add-len
overflow_add-len c = let b = c.in-Some.b.to in omega (arith, c.len.ensures, short _ _ b.tree b.near)

pub returns-in-Some : goal.returns-in-Some
unfolding sizeBinding
returns-in-Some c =
    let a = c.args in
    let b = c.in-Some.b in
    let names = names_of (table_of a.names.pool.now a.names.table.now) in
    let l = first-long (numbered names) _ _ _ (c.in-Some.ensures names) in
    bind-is _ _ (bound-first (numbered names) _ _ (sym (c.same.ensures names) ∙ c.if-same.false)
    (c.in-Some.ensures names))
    (bind-written b.name b.to.tree.0 (omega (arith, c.len.ensures)) (omega (arith, l, c.requires.short)) c.put.ensures c.copy.ensures)

pub returns-in-None : goal.returns-in-None
returns-in-None c =
    let a = c.args in
    let names = names_of (table_of a.names.pool.now a.names.table.now) in
    applied-as (none-bound (numbered names) _ _ (sym (c.same.ensures names) ∙ c.if-same.false)
    (c.in-None.ensures names)) c.by_kind.ensures
