-- What a reader finds: the parts that are well formed over its name table, with its quantified variables, in its words.
use Rattle.std.specs.Prelude.{Option, Bool, ℕ}
use Rattle.rules.specs.Trees as tree
use Rattle.rules.specs.Trees.{Product, Ty, Tys, Fields, Con, Binding}
use Rattle.records.specs.Good.{
  goodOpen,
  goodAtom,
  GoodFactors,
  GoodDim,
  GoodTy,
  GoodTys,
  GoodFields,
  GoodProduct,
  GoodTwo,
  GoodCon,
  GoodBinding,
  GoodBound,
}
use Rattle.records.specs.declared.Atom.{Atom}
use Rattle.records.specs.declared.reader.Reader.{Reader}
use Rattle.records.specs.declared.reader.Part.{Part}
use Rattle.records.specs.declared.reader.Part.TheVariants as part

-- the tree of a part
abbrev pub Tree : Part → Type 0
Tree part.Constraint = Con ℕ
Tree part.Binding = Binding ℕ
Tree part.Bound = tree.Open ℕ

module _ (r : Reader) where
  abbrev pub openGood : tree.Open ℕ → Bool
  openGood = goodOpen r.names.pool.now r.names.table.now r.quantified

  abbrev pub atomGood : tree.Atom ℕ → Bool
  atomGood = goodAtom r.names.pool.now r.names.table.now r.quantified

  abbrev pub FactorsAt : ℕ → ℕ → Option Atom → Product ℕ → ℕ → Type 0
  FactorsAt = GoodFactors r.names.pool.now r.names.table.now r.quantified r.words.now

  abbrev pub DimAt : ℕ → ℕ → Product ℕ → ℕ → Type 0
  DimAt = GoodDim r.names.pool.now r.names.table.now r.quantified r.words.now

  abbrev pub TypeAt : ℕ → ℕ → Ty ℕ → ℕ → Type 0
  TypeAt = GoodTy r.names.pool.now r.names.table.now r.quantified r.words.now

  abbrev pub TypesAt : ℕ → ℕ → ℕ → Tys ℕ → ℕ → Type 0
  TypesAt = GoodTys r.names.pool.now r.names.table.now r.quantified r.words.now

  abbrev pub FieldsAt : ℕ → ℕ → ℕ → Option ℕ → Fields ℕ → ℕ → Type 0
  FieldsAt = GoodFields r.names.pool.now r.names.table.now r.quantified r.words.now

  abbrev pub ProductAt : ℕ → Product ℕ → ℕ → Type 0
  ProductAt = GoodProduct r.names.pool.now r.names.table.now r.quantified r.words.now

  abbrev pub TwoAt : ℕ → Ty ℕ × Ty ℕ → ℕ → Type 0
  TwoAt = GoodTwo r.names.pool.now r.names.table.now r.quantified r.words.now

  abbrev pub ConstraintAt : ℕ → Con ℕ → ℕ → Type 0
  ConstraintAt = GoodCon r.names.pool.now r.names.table.now r.quantified r.words.now

  abbrev pub BindingAt : ℕ → Binding ℕ → ℕ → Type 0
  BindingAt = GoodBinding r.names.pool.now r.names.table.now r.quantified r.words.now

  abbrev pub BoundAt : ℕ → tree.Open ℕ → ℕ → Type 0
  BoundAt = GoodBound r.names.pool.now r.names.table.now r.quantified r.words.now

  abbrev pub PartAt : (p : Part) → ℕ → Tree p → ℕ → Type 0
  PartAt part.Constraint = ConstraintAt
  PartAt part.Binding = BindingAt
  PartAt part.Bound = BoundAt
