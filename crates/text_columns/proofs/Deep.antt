-- How deep a type is nested as it was typed: as deep as the type that it means. Of a type nested 65 deep nothing is kept.
use Prim.Native.Nat.{ℕ, suc, max}
use Rattle.rules.specs.Grammar.{TyAt, open_at, basicAt, dimAt, fn_at, listAt, struct_at, deepAt, TysAt, nilAt, consAt, FieldsAt, noneAt, field_at, ConAt}
use Rattle.rules.specs.Grammar.{equalAt, isDimAt, isScalarAt, hasFieldAt}

unfoldable mutual
  pub depthAt : TyAt → ℕ
  depthAt (open_at c o) = 1
  depthAt (basicAt c b) = 1
  depthAt (dimAt c fs d) = 1
  depthAt (fn_at c ps r) = suc (max (depthTysAt ps) (depthAt r))
  depthAt (listAt c t) = suc (depthAt t)
  depthAt (struct_at c n ts fs) = suc (max (depthTysAt ts) (depthFieldsAt fs))
  depthAt (deepAt c) = 0

  pub depthTysAt : TysAt → ℕ
  depthTysAt nilAt = 0
  depthTysAt (consAt t ts) = max (depthAt t) (depthTysAt ts)

  pub depthFieldsAt : FieldsAt → ℕ
  depthFieldsAt noneAt = 0
  depthFieldsAt (field_at n t fs) = max (depthAt t) (depthFieldsAt fs)

unfoldable pub depthConAt : ConAt → ℕ
depthConAt (equalAt c l r) = max (depthAt l) (depthAt r)
depthConAt (isDimAt c t) = depthAt t
depthConAt (isScalarAt c d fs k) = 1
depthConAt (hasFieldAt c s n t) = max (depthAt s) (depthAt t)
