-- What the steps of a round ask and what they leave.
use Rattle.std.specs.Prelude.{◌≡◌, Bool, true, false, List, [], ◌∷◌, ◌++◌, ℕ, ◌+◌, ◌≤◌, length, min, Ok, Err, Some}
use Rattle.std.proofs.Math.Option.{Option, none, some}
use Rattle.rules.specs.Base.{Got, got, refused, ◌>>=◌, bounded, all, sum_of}
use Rattle.rules.specs.Rounds.{Step, bind, split, done, stuck, State, trySatisfy, limited, perform, sizeState, depthState}
use Rattle.rules.specs.Trees.{Ty, opened, basic, dim, fn, struct, list, Con, Binding, ◌≔◌, depth, depthCon, sizeCon}
use Rattle.rules.specs.declared.Refusal.TheVariants.{TooLarge}
use Rattle.records.specs.Good.{numbers, goodBinding, goodCon}
use Rattle.replace.specs.declared.substitution.Substitution.{Substitution}
use Rattle.rules.specs.Replacing.{bindings}
use Rattle.solve_step.specs.Stepped.{Stepped}
use Rattle.solve_step.specs.declared.Step as code
use Rattle.types.specs.declared.Bindings.{Bindings}
use Rattle.types.specs.declared.Constraint.{Constraint}
use Rattle.types.specs.declared.writer.Writer.{Writer}
use Rattle.types.specs.Binds.{IsBinds}
use Rattle.types.specs.Sets.{IsCons}
use Rattle.types.specs.Written.{last}
use Rattle.solve_round.specs.declared.Ends.{Ends}
use Rattle.solve_round.specs.declared.Others.{Others}
pub use Rattle.solve_round.specs.States.{SoundSet, SoundBinds}
use Rattle.solve_round.specs.States.{Turn, Turned}

-- a type with no place for types inside
unfoldable pub leaf : Ty ℕ → Bool
leaf (opened o) = true
leaf (basic b) = true
leaf (dim p) = true
leaf (fn ps r) = false
leaf (struct n as' fs) = false
leaf (list t) = false

-- a state that is known to be flat, where it says so
abbrev pub Known : Bool → State ℕ → Type 0
Known b st = b ≡ true → depthState st ≤ 64

abbrev pub keeps : State ℕ → Got (Option (State ℕ))
keeps st = limited bounded st >>= λ s. got (some s)

-- what names become by a substitution is what one binding says
abbrev pub Puts : Substitution → ℕ → Ty ℕ → Type 0
Puts by x t = by.lent.0 ≡ bindings (numbers by.names.pool.now by.names.table.now) (x ≔ t ∷ [])

-- the state is kept, and that is told; or it is too large
abbrev pub Limited : Ends → State ℕ → Turn → Got (Option (State ℕ)) → Type 0
Limited ends st (Ok o) R = (R ≡ got (some st)) × (o ≡ Some ends)
Limited ends st (Err r) R = (R ≡ refused 8) × (r ≡ TooLarge)

-- the constraints beside the one that is taken, and the state with new ones behind them
abbrev pub others : Others → List (Con ℕ)
others o = o.before.trees.0 ++ o.behind.trees.0

-- a state without a constraint: what stands before it, and what behind it
pub record Beside (o : Others) (c : Constraint) (before behind : List (Con ℕ)) : Type 0 where
  pub passed : IsCons o.behind.words.now o.before.at c.at before
  pub stay : IsCons o.behind.words.now (c.at + sizeCon c.tree.0) o.behind.end behind

pub record Are (o : Others) (cs ds : List (Con ℕ)) (bs : Bindings) : Type 0 where
  pub before : o.before.trees.0 ≡ cs
  pub behind : o.behind.trees.0 ≡ ds
  pub bindings : o.bindings ≡ bs

-- constraints that stand at the front of a list, unless they are too many for a state
pub record First (d : List ℕ) (end : ℕ) (cs : List (Con ℕ)) : Type 0 where
  pub many : end ≡ sum_of sizeCon cs
  pub there : end ≤ 2048 → IsCons d 0 end cs

abbrev pub appends : Others → List (Con ℕ) → Got (Option (State ℕ))
appends o new = keeps (record { cons = others o ++ new; binds = o.bindings.trees.0 })

module _ (pool table : List ℕ) where
  pub record SoundOthers (o : Others) : Type 0 where
    pub before : SoundSet pool table o.before.trees.0
    pub behind : SoundSet pool table o.behind.trees.0
    pub bindings : SoundBinds pool table o.bindings.trees.0

  -- one binding, which is new
  pub record BoundTo (b : Bindings) (x : ℕ) (t : Ty ℕ) : Type 0 where
    pub is : b.trees.0 ≡ x ≔ t ∷ []
    pub good : goodBinding pool table 0 (x ≔ t) ≡ true
    pub deep : depth t ≤ 64
    pub short : b.end ≤ b.at + 2048

  -- a state that was written, where it is not too large
  pub record Made (w : List ℕ) (ends : Ends) (st : State ℕ) : Type 0 where
    pub many : min ends.bindings last ≡ min (sizeState st) last
    pub near : ends.bindings ≤ 2048 → length w ≤ 4_000_000_000
    pub cons : ends.bindings ≤ 2048 → IsCons w 0 ends.constraints st.cons
    pub binds : ends.bindings ≤ 2048 → IsBinds w ends.constraints ends.bindings st.binds
    pub good_cons : all (goodCon pool table 0) st.cons ≡ true
    pub good_binds : all (goodBinding pool table 0) st.binds ≡ true

  -- the next state was written
  pub record Next (old new : Writer) (r : Turn) (R : Got (Option (State ℕ))) : Type 0 where
    pub same : new.words.ghost_name ≡ old.words.ghost_name
    pub turned : Turned pool table new.words.now r R

  -- what the round gives where a new binding is put in
  abbrev pub rebinds : List (Con ℕ) → ℕ → Ty ℕ → List (Binding ℕ) → Got (Option (State ℕ))
  rebinds cs x t bs = perform (numbers pool table) bounded bs (bind x t) cs >>= λ s. got (some s)

  -- a step of a constraint that is taken
  pub record Taken (d : List ℕ) (o : Others) (r : code.Step) (c : Con ℕ) : Type 0 where
    pub sound : SoundOthers o
    pub good : goodCon pool table 0 c ≡ true
    pub deep : depthCon c ≤ 64
    pub short : sizeCon c ≤ 2048
    pub was : List ℕ
    pub stepped : Stepped was d 0 (Ok r) (trySatisfy (numbers pool table) bounded c)

  -- what the round gives after it
  abbrev pub after : Others → Got (Step ℕ) → Got (Option (State ℕ))
  after o (got (bind x t)) = rebinds (others o) x t o.bindings.trees.0
  after o (got (split new)) = appends o new
  after o (got done) = appends o []
  after o (got stuck) = got none
  after o (refused k) = refused k

  abbrev pub performs : Others → Con ℕ → Got (Option (State ℕ))
  performs o c = after o (trySatisfy (numbers pool table) bounded c)
