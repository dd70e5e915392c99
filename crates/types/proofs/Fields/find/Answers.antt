use Rattle.std.proofs.Common.{◌∙◌}
use Rattle.types.proofs.FieldsFound.{fewer, field-here, field-later, field-nowhere}
use Rattle.types.proofs.Fields.find.Goals as goal

pub returns-then-name-x : goal.returns-then-name-x
returns-then-name-x c = λ names. field-here names _ c.in-Some.ensures c.if-name-x.true ∙ c.fields.invariant names

pub fields-smaller : goal.fields-smaller
fields-smaller c = fewer _ _ _ _ _ _ c.in-Some.ensures c.in-Some.rest.trees.1.many c.fields.fields.trees.1.many

pub fields-preserved : goal.fields-preserved
fields-preserved c = λ names. field-later names _ c.in-Some.ensures c.if-name-x.false ∙ c.fields.invariant names

pub returns : goal.returns
returns c = λ names. field-nowhere names _ c.in_default.ensures ∙ c.fields.invariant names
