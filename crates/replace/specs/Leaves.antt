-- What a walk leaves behind a writer.
use Rattle.std.specs.Prelude.{Result, Ok, Err, ◌≡◌, Bool, not, List, ℕ}
use Rattle.std.proofs.Math.Option.{get_or}
use Rattle.rules.specs.Base.{Got, got, refused, bounded, is_none}
use Rattle.rules.specs.Refusals.{number_of}
use Rattle.rules.specs.declared.Refusal.{Refusal}
use Rattle.rules.specs.Replacing.{Look, replaceProduct, replaceTy, replaceTys, replaceFields, replaceCon, replaceBinding}
use Rattle.rules.specs.Trees.{Open, Product, Ty, opened, Tys, Fields, Con, Binding}
use Rattle.rules.specs.Writing.{Rec, writeTys, writeFields}
use Rattle.records.specs.Cut.{cut}
use Rattle.types.specs.declared.writer.Writer.{Writer}
use Rattle.types.specs.Written.{Writes}
use Rattle.replace.specs.declared.substitution.Substitution.{Substitution}
use Rattle.replace.specs.declared.inner.walk.Parts.{Parts}
use Rattle.replace.specs.declared.inner.walk.Parts.TheVariants as parts
use Rattle.replace.specs.Well.{names, GoodTys, GoodFields}

-- what an open name becomes
abbrev pub becomes : Look ℕ → Open ℕ → Ty ℕ
becomes look o = get_or (look o) (opened o)

-- a value: its records were written. A length that doesn't fit a word is left out: such a list is refused by whoever asked. A refusal: its number, and nothing
-- is said of the buffer
abbrev pub LeavesOf : {A : Type 0} → (A → List Rec) → Writer → Writer → Result (Unit {0}) Refusal → Got A → Type 0
LeavesOf ws old new (Ok u) (got a) = Writes old new (cut (ws a))
LeavesOf ws old new (Ok u) (refused k) = ⊥
LeavesOf ws old new (Err r) (got a) = ⊥
LeavesOf ws old new (Err r) (refused k) = number_of r ≡ k

pub record Leaves {A : Type 0} (ws : A → List Rec) (old new : Writer) (r : Result (Unit {0}) Refusal) (R : Got A) : Type 0 where
  pub same : new.words.ghost_name ≡ old.words.ghost_name
  pub says : LeavesOf ws old new r R

-- is an open name replaced
abbrev pub replaced : Look ℕ → Open ℕ → Bool
replaced look o = not (is_none (look o))

-- what becomes of each by a substitution
module _ (by : Substitution) where
  abbrev pub productBy : Product ℕ → Got (Product ℕ)
  productBy p = replaceProduct (names by.names.pool.now by.names.table.now) bounded by.lent.0 p

  abbrev pub typeBy : Ty ℕ → Got (Ty ℕ)
  typeBy t = replaceTy (names by.names.pool.now by.names.table.now) bounded by.lent.0 t

  abbrev pub typesBy : Tys ℕ → Got (Tys ℕ)
  typesBy ts = replaceTys (names by.names.pool.now by.names.table.now) bounded by.lent.0 ts

  abbrev pub fieldsBy : Fields ℕ → Got (Fields ℕ)
  fieldsBy fs = replaceFields (names by.names.pool.now by.names.table.now) bounded by.lent.0 fs

  abbrev pub conBy : Con ℕ → Got (Con ℕ)
  conBy c = replaceCon (names by.names.pool.now by.names.table.now) bounded by.lent.0 c

  abbrev pub bindingBy : Binding ℕ → Got (Binding ℕ)
  bindingBy b = replaceBinding (names by.names.pool.now by.names.table.now) bounded by.lent.0 b

  -- parts in a row: types, or fields
  abbrev pub LeavesParts : Writer → Writer → Result (Unit {0}) Refusal → Parts → Type 0
  LeavesParts old new r (parts.Types ts) = Leaves writeTys old new r (typesBy ts.trees.0)
  LeavesParts old new r (parts.Fields fs) = Leaves writeFields old new r (fieldsBy fs.trees.0)

abbrev pub GoodParts : List ℕ → List ℕ → Parts → Type 0
GoodParts pool table (parts.Types ts) = GoodTys pool table ts.trees.0
GoodParts pool table (parts.Fields fs) = GoodFields pool table fs.trees.0
