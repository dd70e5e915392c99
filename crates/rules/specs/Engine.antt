-- Every definition of the second engine under one name, with those of the other requests: for proofs by computation.
use Rattle.rules.specs.Rules.{rules}
use Rattle.rules.specs.Elimination.{
  solvedFor,
  timesRow,
  plusRow,
  putInRow,
  putInValue,
  atColumn,
  oneFurther,
  fate,
  turned,
  eliminate,
  factors,
  boundBy,
  settledBy,
  scalarOf,
  columns,
  powerIn,
  row_of,
  fits,
  eliminated,
  eliminatedOf,
  eliminatedWords,
  setChecked,
  fitting,
  eliminatedSet,
  eliminateCall,
  withRounds,
}

unfoldable pub engine : Type 0
unfolding rules solvedFor timesRow plusRow putInRow putInValue atColumn oneFurther fate turned eliminate factors boundBy settledBy scalarOf columns powerIn
    row_of fits eliminated eliminatedOf eliminatedWords setChecked fitting eliminatedSet eliminateCall withRounds
engine = Unit {0}
