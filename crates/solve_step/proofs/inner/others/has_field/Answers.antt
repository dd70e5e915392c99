use Rattle.rules.specs.Names.{numbered}
use Rattle.std.proofs.Common.{arith, [], sym, ◌∙◌}
use Rattle.solve_step.proofs.Others.{field-open, field-not-struct, field-found, field-missing}
use Rattle.solve_step.proofs.Short.{field-long}
use Rattle.replace.proofs.Walks.{sizes-struct}
use Rattle.solve_step.proofs.Written.{split-is, stuck-is, one-con}
use Rattle.solve_step.proofs.inner.others.has_field.Goals as goal

pub returns-then-not-is_closed : goal.returns-then-not-is_closed
returns-then-not-is_closed c = λ names. stuck-is (field-open names _ _ _ (sym c.is_closed.ensures ∙ c.if-not-is_closed.true))

pub returns-in_default : goal.returns-in_default
returns-in_default c = λ names. stuck-is (field-not-struct names _ _ _ _ c.shape.ensures
    (sym c.is_closed.ensures ∙ c.if-not-is_closed.false) c.in_default.not-Struct)

pub returns-in_default-find : goal.returns-in_default-find
returns-in_default-find c = λ names. stuck-is (field-missing names _ _ _ (sym c.is_closed.ensures ∙ c.if-not-is_closed.false) c.in-Struct.ensures
    (c.in_default-find.ensures names))

pub returns : goal.returns
returns c = λ names. split-is _ (field-found names _ _ _ (sym c.is_closed.ensures ∙ c.if-not-is_closed.false) c.in-Struct.ensures (c.in-Some.ensures names))
    (one-con _ c.equal.ensures)

pub equal-requires : goal.equal-requires
equal-requires c =
    omega (arith, c.requires, sizes-struct _ _ _ _ c.in-Struct.ensures, field-long (numbered []) c.args.x _ _ (sym (c.in-Some.ensures [])))
