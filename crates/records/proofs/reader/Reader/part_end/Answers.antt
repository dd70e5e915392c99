use Rattle.std.proofs.Common.{sym, subst}
use Rattle.records.specs.Good.{Ends}
use Rattle.records.specs.Readers.{PartAt}
use Rattle.records.specs.declared.reader.Part.{Part}
use Rattle.records.proofs.reader.Reader.part_end.Goals as goal

pub returns-in-Constraint : goal.returns-in-Constraint
returns-in-Constraint c = let a = c.args in
    subst (λ (k : Part). Ends (PartAt a.self k a.at) c.constraint_end.result) (sym c.in-Constraint.is) c.constraint_end.ensures

pub returns-in-Binding : goal.returns-in-Binding
returns-in-Binding c = let a = c.args in subst (λ (k : Part). Ends (PartAt a.self k a.at) c.binding_end.result) (sym c.in-Binding.is) c.binding_end.ensures

pub returns-in-Bound : goal.returns-in-Bound
returns-in-Bound c = let a = c.args in subst (λ (k : Part). Ends (PartAt a.self k a.at) c.bound_end.result) (sym c.in-Bound.is) c.bound_end.ensures
