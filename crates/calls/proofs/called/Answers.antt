-- `called` meets its contract: call by call.
use Rattle.calls_defined.specs.Saying.{checkedAs, askedAs, ceilingAs}
use Rattle.calls_defined.specs.Dispatch.{done, dispatch}
use Rattle.calls.proofs.Arms.{said, told, shows, does, lists, writes, solves, judges, enters}
use Rattle.calls.proofs.called.Goals as goal

pub returns-in-CheckTable : goal.returns-in-CheckTable
unfolding dispatch
returns-in-CheckTable c = rw c.in-CheckTable.is (told checkedAs c.checked.ensures c.check_table.ensures)

pub returns-in-NameOf : goal.returns-in-NameOf
unfolding dispatch
returns-in-NameOf c = rw c.in-NameOf.is (shows c.named.ensures)

pub returns-in-Enter : goal.returns-in-Enter
unfolding dispatch
returns-in-Enter c = rw c.in-Enter.is (enters c.entered.ensures)

pub returns-in-Compare : goal.returns-in-Compare
unfolding dispatch
returns-in-Compare c = rw c.in-Compare.is (said c.compared.ensures)

pub returns-in-AddExponents : goal.returns-in-AddExponents
unfolding dispatch
returns-in-AddExponents c = rw c.in-AddExponents.is (said c.exponent_sum.ensures)

pub returns-in-MultiplyExponents : goal.returns-in-MultiplyExponents
unfolding dispatch
returns-in-MultiplyExponents c = rw c.in-MultiplyExponents.is (said c.exponent_product.ensures)

pub returns-in-NegateExponent : goal.returns-in-NegateExponent
unfolding dispatch
returns-in-NegateExponent c = rw c.in-NegateExponent.is (said c.exponent_negation.ensures)

pub returns-in-DivideExponents : goal.returns-in-DivideExponents
unfolding dispatch
returns-in-DivideExponents c = rw c.in-DivideExponents.is (said c.exponent_quotient.ensures)

pub returns-in-MultiplyProducts : goal.returns-in-MultiplyProducts
unfolding dispatch
returns-in-MultiplyProducts c = rw c.in-MultiplyProducts.is (shows c.product_product.ensures)

pub returns-in-DivideProducts : goal.returns-in-DivideProducts
unfolding dispatch
returns-in-DivideProducts c = rw c.in-DivideProducts.is (shows c.product_quotient.ensures)

pub returns-in-InvertProduct : goal.returns-in-InvertProduct
unfolding dispatch
returns-in-InvertProduct c = rw c.in-InvertProduct.is (shows c.product_inverse.ensures)

pub returns-in-RaiseProduct : goal.returns-in-RaiseProduct
unfolding dispatch
returns-in-RaiseProduct c = rw c.in-RaiseProduct.is (shows c.product_power.ensures)

pub returns-in-IsSet : goal.returns-in-IsSet
unfolding dispatch
returns-in-IsSet c = rw c.in-IsSet.is (told checkedAs c.checked-in-IsSet.ensures c.is_set.ensures)

pub returns-in-IsType : goal.returns-in-IsType
unfolding dispatch
returns-in-IsType c = rw c.in-IsType.is (told checkedAs c.checked-in-IsType.ensures c.is_type.ensures)

pub returns-in-IsScheme : goal.returns-in-IsScheme
unfolding dispatch
returns-in-IsScheme c = rw c.in-IsScheme.is (told checkedAs c.checked-in-IsScheme.ensures c.is_scheme.ensures)

pub returns-in-IsBindings : goal.returns-in-IsBindings
unfolding dispatch
returns-in-IsBindings c = rw c.in-IsBindings.is (told checkedAs c.checked-in-IsBindings.ensures c.is_bindings.ensures)

pub returns-in-Contains : goal.returns-in-Contains
unfolding dispatch
returns-in-Contains c = rw c.in-Contains.is (told askedAs c.asked.ensures c.contains.ensures)

pub returns-in-Closed : goal.returns-in-Closed
unfolding dispatch
returns-in-Closed c = rw c.in-Closed.is (told askedAs c.asked-in-Closed.ensures c.closed.ensures)

pub returns-in-Variables : goal.returns-in-Variables
unfolding dispatch
returns-in-Variables c = rw c.in-Variables.is (lists c.counted.ensures c.variables.ensures)

pub returns-in-Add : goal.returns-in-Add
unfolding dispatch
returns-in-Add c = rw c.in-Add.is (does (λ i. done (c.adding_to.ensures.value i) (c.adding_to.ensures.buffer_after i) c.args.work.now))

pub returns-in-ReplaceInType : goal.returns-in-ReplaceInType
unfolding dispatch
returns-in-ReplaceInType c = rw c.in-ReplaceInType.is (writes c.written.ensures c.replace_in_type.ensures)

pub returns-in-ReplaceInSet : goal.returns-in-ReplaceInSet
unfolding dispatch
returns-in-ReplaceInSet c = rw c.in-ReplaceInSet.is (writes c.written-in-ReplaceInSet.ensures c.replace_in_set.ensures)

pub returns-in-Solve : goal.returns-in-Solve
unfolding dispatch
returns-in-Solve c = rw c.in-Solve.is (solves c.solution.ensures c.solve.ensures.called)

pub returns-in-Lent : goal.returns-in-Lent
unfolding dispatch
returns-in-Lent c = rw c.in-Lent.is (said c.lent_told.ensures)

pub returns-in-Quantify : goal.returns-in-Quantify
unfolding dispatch
returns-in-Quantify c = rw c.in-Quantify.is (writes c.written-in-Quantify.ensures c.quantify.ensures)

pub returns-in-Generalise : goal.returns-in-Generalise
unfolding dispatch
returns-in-Generalise c = rw c.in-Generalise.is (writes c.written-in-Generalise.ensures c.generalise.ensures)

pub returns-in-Instantiate : goal.returns-in-Instantiate
unfolding dispatch
returns-in-Instantiate c = rw c.in-Instantiate.is (writes c.written-in-Instantiate.ensures c.instantiate.ensures)

pub returns-in-Judge : goal.returns-in-Judge
unfolding dispatch
returns-in-Judge c = rw c.in-Judge.is (judges c.asked-in-Judge.ensures c.judge_pairs.ensures)

pub returns-in-Ceiling : goal.returns-in-Ceiling
unfolding dispatch
returns-in-Ceiling c = rw c.in-Ceiling.is (told ceilingAs c.limited.ensures c.ceiling.ensures)

pub returns-in-SolveAll : goal.returns-in-SolveAll
unfolding dispatch
returns-in-SolveAll c = rw c.in-SolveAll.is (does c.batch.ensures)

pub returns-in-CheckLine : goal.returns-in-CheckLine
unfolding dispatch
returns-in-CheckLine c = rw c.in-CheckLine.is (writes c.written-in-CheckLine.ensures c.check_line.ensures)

pub returns-in-Confirm : goal.returns-in-Confirm
unfolding dispatch
returns-in-Confirm c = rw c.in-Confirm.is (solves c.solution-in-Confirm.ensures c.confirm.ensures)
