-- Types from point to point, whatever the rule for the types inside, and what is known of a type by what is known of its parts.
use Rattle.rules.specs.Grammar.{Rule, give, sign, ifSign, NameAt, TyAt, TysAt}
use Rattle.rules.specs.Grammar.{nilAt, FieldsAt, noneAt, tys, fieldName}
use Rattle.rules.specs.Grammar.{fields, ◌>>=◌, ◌>>◌}

module _ (ty : Rule TyAt) where
  -- '[ type { "," type } ]'
  abbrev pub paramsThere : Rule TysAt
  paramsThere = ifSign ")" (give nilAt) (tys ty)

  -- '[ "<" type { "," type } ">" ]', '[ "{" name ":" type { "," name ":" type } "}" ]'
  abbrev pub types_in : Rule TysAt
  types_in = (sign "<" >> tys ty) >>= λ ts. sign ">" >> give ts

  abbrev pub typesThere : Rule TysAt
  typesThere = ifSign "<" types_in (give nilAt)

  abbrev pub fieldsIn : Rule FieldsAt
  fieldsIn = (sign "{" >> fields ty) >>= λ fs. sign "}" >> give fs

  abbrev pub fieldsThere : Rule FieldsAt
  fieldsThere = ifSign "{" fieldsIn (give noneAt)

  -- a field's name and its type
  abbrev pub withName : NameAt → Rule (NameAt × TyAt)
  withName i = ty >>= λ t. give {A = NameAt × TyAt} (i, t)

  -- 'name ":" type'
  abbrev pub fieldRule : Rule (NameAt × TyAt)
  fieldRule = fieldName >>= λ i. sign ":" >> withName i
