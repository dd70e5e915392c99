-- What the functions of a round ask and leave, said of a name table and of places.
use Rattle.std.specs.Prelude.{◌≡◌, List, ℕ, ◌≤◌, Result}
use Rattle.std.proofs.Math.Option.{Option}
use Rattle.rules.specs.Base.{Got, bounded}
use Rattle.rules.specs.Rounds.{State, round}
use Rattle.rules.specs.declared.Refusal.{Refusal}
use Rattle.rules.specs.Trees.{Ty, Con}
use Rattle.names.specs.declared.tables.NameTable.{NameTable}
use Rattle.records.specs.Good.{numbers}
use Rattle.solve_step.specs.declared.Step as code
use Rattle.types.specs.declared.writer.Writer.{Writer}
use Rattle.solve_round.specs.declared.After.{After}
use Rattle.solve_round.specs.declared.Others.{Others}
use Rattle.solve_round.specs.declared.Place.{Place}
use Rattle.solve_round.specs.States.{Idle, Placed, Rounded}
use Rattle.solve_round.specs.Parts.{others, rebinds, SoundOthers, Taken, performs}

-- the state that constraints, others behind them and bindings are
abbrev pub stateOf : Others → State ℕ
stateOf o = record { cons = others o; binds = o.bindings.trees.0 }

module _ (t : NameTable) where
  -- a state in a buffer, what a round leaves, and what the rules make of it
  abbrev pub Standing : List ℕ → Place → State ℕ → Type 0
  Standing w p st = Placed t.pool.now t.table.now w p st

  abbrev pub Rounds : List ℕ → List ℕ → Result After Refusal → Got (Option (State ℕ)) → Type 0
  Rounds s w r R = Rounded t.pool.now t.table.now s w r R

  pub record Took (s : List ℕ) (old new : Writer) (r : Result After Refusal) (R : Got (Option (State ℕ))) : Type 0 where
    pub same : new.words.ghost_name ≡ old.words.ghost_name
    pub rounded : Rounded t.pool.now t.table.now s new.words.now r R

  abbrev pub rounded : State ℕ → Got (Option (State ℕ))
  rounded st = round (numbers t.pool.now t.table.now) bounded st

  -- a state that stands in one buffer, in which no rule applies to the constraints before
  pub record SoundState (o : Others) : Type 0 where
    pub sound : SoundOthers t.pool.now t.table.now o
    pub idle : Idle t.pool.now t.table.now o.before.trees.0
    pub short : o.bindings.end ≤ 2048
    pub same : o.before.words.now ≡ o.behind.words.now
    pub joined : o.before.end ≡ o.behind.at
    pub same_bindings : o.bindings.words.now ≡ o.behind.words.now
    pub joined_bindings : o.bindings.at ≡ o.behind.end

  -- which is this one, and stands in the list s
  pub record StandsAs (s : List ℕ) (o : Others) (st : State ℕ) : Type 0 where
    pub sound : SoundState o
    pub words : o.behind.words.now ≡ s
    pub is : stateOf o ≡ st

  -- with a new binding put in
  abbrev pub rebound : Others → ℕ → Ty ℕ → Got (Option (State ℕ))
  rebound o x u = rebinds t.pool.now t.table.now (others o) x u o.bindings.trees.0

  -- the step of a constraint that is taken
  abbrev pub TakenBy : List ℕ → Others → code.Step → Con ℕ → Type 0
  TakenBy d o r c = Taken t.pool.now t.table.now d o r c

  abbrev pub performed : Others → Con ℕ → Got (Option (State ℕ))
  performed o c = performs t.pool.now t.table.now o c
