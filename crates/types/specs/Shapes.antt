-- What a type is, from its first record and the places of its parts.
use Rattle.std.specs.Prelude.{◌≡◌, ℕ, List, [], ◌∷◌, Option, None, Some}
use Rattle.rules.specs.Exponents.{frac}
use Rattle.rules.specs.Trees as tree
use Rattle.rules.specs.Trees.{◌↑◌, ◌≔◌}
use Rattle.rules.specs.Writing.{signed}
use Rattle.records.specs.Holds.{openOf, atomOf, basicOf}
use Rattle.types.specs.Sets.{placed}
use Rattle.types.specs.declared.Type as types
use Rattle.types.specs.declared.Types as lists
use Rattle.types.specs.declared.Fields as fields
use Rattle.types.specs.declared.Factor as factors
use Rattle.types.specs.declared.Product as products
use Rattle.types.specs.declared.Constraint as cons
use Rattle.types.specs.declared.Constraints as sets
use Rattle.types.specs.declared.Binding as bound
use Rattle.types.specs.declared.Bindings as bindings
use Rattle.types.specs.declared.Demand.{Demand}
use Rattle.types.specs.declared.Demand.TheVariants as demand
use Rattle.types.specs.declared.Head.{Head}
use Rattle.types.specs.declared.Head.TheVariants as head
use Rattle.types.specs.declared.Shape.{Shape}
use Rattle.types.specs.declared.Shape.TheVariants as shape

-- the type that a shape is
abbrev pub whole : Shape → tree.Ty ℕ
whole (shape.Open o) = tree.opened (openOf o)
whole (shape.Basic b) = tree.basic (basicOf b)
whole (shape.Dimension p) = tree.dim p.factors.0
whole (shape.Function ps r) = tree.fn ps.trees.0 r.tree.0
whole (shape.Struct x as' fs) = tree.struct x as'.trees.0 fs.trees.0
whole (shape.List t) = tree.list t.tree.0

-- a function's row: its parameters, and last what it returns
abbrev pub row : tree.Tys ℕ → tree.Ty ℕ → tree.Tys ℕ
row tree.nil r = tree.cons r tree.nil
row (tree.cons p ps) r = tree.cons p (row ps r)

-- what a type begins with
abbrev pub Begins : Head → tree.Ty ℕ → Type 0
Begins (head.Open o) t = tree.opened (openOf o) ≡ t
Begins (head.Basic b) t = tree.basic (basicOf b) ≡ t
Begins (head.Dimension p) t = tree.dim p.factors.0 ≡ t
Begins (head.Function ts) t = (ps : tree.Tys ℕ) × (r : tree.Ty ℕ) × (row ps r ≡ ts.trees.0) × (tree.fn ps r ≡ t)
Begins (head.Struct x as') t = (fs : tree.Fields ℕ) × (tree.struct x as'.trees.0 fs ≡ t)
Begins (head.List t) u = tree.list t.tree.0 ≡ u

-- the types that a first one and the rest are
abbrev pub together : Option (types.Type × lists.Types) → tree.Tys ℕ
together None = tree.nil
together (Some v) = tree.cons v.0.tree.0 v.1.trees.0

-- the fields that a first one and the rest are
abbrev pub fields_together : Option (ℕ × types.Type × fields.Fields) → tree.Fields ℕ
fields_together None = tree.noFields
fields_together (Some v) = tree.field v.0 v.1.tree.0 v.2.trees.0

-- the factor that a record says
abbrev pub factor_of : factors.Factor → tree.Factor ℕ
factor_of f = atomOf f.atom ↑ frac (signed f.num) f.den

-- the factors that a first one and the rest are
abbrev pub multiplied : Option (factors.Factor × products.Product) → tree.Product ℕ
multiplied None = []
multiplied (Some v) = factor_of v.0 ∷ v.1.factors.0

abbrev pub factors_of : products.Product → List (tree.Factor ℕ)
factors_of p = p.factors.0

-- what a constraint asks
abbrev pub asked : Demand → tree.Con ℕ
asked (demand.Equal l r) = tree.equal l.tree.0 r.tree.0
asked (demand.IsDimension t) = tree.isDim t.tree.0
asked (demand.IsScalar p) = tree.is_scalar p.factors.0
asked (demand.HasField x t u) = tree.hasField x t.tree.0 u.tree.0

-- types as a list
abbrev pub listed : tree.Tys ℕ → List (tree.Ty ℕ)
listed tree.nil = []
listed (tree.cons t ts) = t ∷ listed ts

abbrev pub tree_of : types.Type → tree.Ty ℕ
tree_of t = t.tree.0

abbrev pub trees_of : lists.Types → List (tree.Ty ℕ)
trees_of ts = listed ts.trees.0

-- a constraint: the words that it stands in, where it stands there, and what it is
abbrev pub con_of : cons.Constraint → List ℕ × ℕ × tree.Con ℕ
con_of c = (c.words.now, c.at, c.tree.0)

abbrev pub cons_of : sets.Constraints → List (List ℕ × ℕ × tree.Con ℕ)
cons_of cs = placed cs.words.now cs.at cs.trees.0

-- the constraints that a first one and the rest are
abbrev pub constraints_together : Option (cons.Constraint × sets.Constraints) → List (List ℕ × ℕ × tree.Con ℕ)
constraints_together None = []
constraints_together (Some v) = con_of v.0 ∷ cons_of v.1

-- a binding
abbrev pub binding_of : bound.Binding → tree.Binding ℕ
binding_of b = b.name ≔ b.to.tree.0

abbrev pub bindings_of : bindings.Bindings → List (tree.Binding ℕ)
bindings_of bs = bs.trees.0

-- the bindings that a first one and the rest are
abbrev pub bindings_together : Option (bound.Binding × bindings.Bindings) → List (tree.Binding ℕ)
bindings_together None = []
bindings_together (Some v) = binding_of v.0 ∷ bindings_of v.1
