-- What adding a constraint answers.
use Rattle.std.specs.Prelude.{Bool, true, false, not, ◌&&◌, ◌||◌, List, [], ◌∷◌, ◌++◌, eqb}
use Rattle.std.proofs.Math.Option.{Option, none, some}
use Rattle.rules.specs.Base.{Got, got, bounded, within, is_yes, is_none, isNil, collect, sum_of}
use Rattle.rules.specs.Trees.{Names, Ty, Tys, Con, equal, isDim, is_scalar, hasField, ty-dec, count, openOfFactor, sizeCon}
use Rattle.rules.specs.Views.{openOf, asPower, fn_of, kind}
use Rattle.rules.specs.Contents.{closed, variablesIn}

pub data Added : Type 0 where
  satisfied violated unknown : Added
  deriving Discrete as Added-discrete

abbrev pub satisfiedIf : Bool → Added
satisfiedIf true = satisfied
satisfiedIf false = violated

abbrev pub violatedIf : Bool → Added
violatedIf true = violated
violatedIf false = unknown

module _ {N : Type 0} where
  -- 'functions with different parameter counts'
  unfoldable pub countsDiffer : Option (Tys N × Ty N) → Option (Tys N × Ty N) → Bool
  countsDiffer none g = false
  countsDiffer (some f) none = false
  countsDiffer (some f) (some g) = not (eqb (count f.0) (count g.0))

  -- neither a variable nor a parameter; 'a dimension that is one variable to the power 1 counts as a variable here'
  unfoldable pub solid : Ty N → Bool
  solid t = is_none (openOf t) && is_none (asPower t)

  -- 'two types of different kinds neither of which is a variable or a parameter'
  unfoldable pub kindsDiffer : Ty N → Ty N → Bool
  kindsDiffer l r = solid l && solid r && not (eqb (kind l) (kind r))

module _ {N : Type 0} (ν : Names N) where
  -- 'closed equalities: Satisfied if the records are equal, else Violated'; other equalities by counts and kinds
  unfoldable pub addEqual : Bool → Ty N → Ty N → Added
  addEqual true l r = satisfiedIf (is_yes (ty-dec ν l r))
  addEqual false l r = violatedIf (countsDiffer (fn_of l) (fn_of r) || kindsDiffer l r)

  -- 'closed is-dimension: by kind 3'
  unfoldable pub addDim : Bool → Ty N → Added
  addDim true t = satisfiedIf (eqb (kind t) 3)
  addDim false t = unknown

  -- 'equal-scalar: no factors Satisfied; no variable among the factors Violated. Else Unknown.'
  unfoldable pub addTest : Con N → Added
  addTest (equal l r) = addEqual (closed l && closed r) l r
  addTest (isDim t) = addDim (closed t) t
  addTest (is_scalar []) = satisfied
  addTest (is_scalar (f ∷ p)) = violatedIf (isNil (variablesIn (collect openOfFactor (f ∷ p))))
  addTest (hasField n s t) = unknown

  -- 'Satisfied (not stored), Violated or Unknown (both stored)'; 'that would pass 2,048 records is 8'
  unfoldable pub stored : Added → List (Con N) → Con N → Got (Added × List (Con N))
  stored satisfied cs c = got (satisfied, cs)
  stored violated cs c = within bounded (sum_of sizeCon (cs ++ c ∷ [])) 2048 (violated, cs ++ c ∷ [])
  stored unknown cs c = within bounded (sum_of sizeCon (cs ++ c ∷ [])) 2048 (unknown, cs ++ c ∷ [])

  -- what adding answers, and the set after it
  unfoldable pub add : List (Con N) → Con N → Got (Added × List (Con N))
  add cs c = stored (addTest c) cs c
