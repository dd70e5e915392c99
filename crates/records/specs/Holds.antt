-- The words at a place hold this tree.
use Rattle.std.specs.Prelude.{◌≡◌, List, [], ◌∷◌, ℕ, suc, ◌+◌, length}
use Rattle.rules.specs.Exponents.{frac}
use Rattle.rules.specs.Trees.{
  Factor,
  ◌↑◌,
  Product,
  Ty,
  opened,
  basic,
  dim,
  fn,
  struct,
  list,
  Tys,
  nil,
  cons,
  Fields,
  noFields,
  field,
  Con,
  equal,
  isDim,
  is_scalar,
  hasField,
  Binding,
  ◌≔◌,
  size,
  sizeTys,
  sizeCon,
  sizeBinding,
  count,
  countFields,
}
use Rattle.rules.specs.Trees as tree
use Rattle.rules.specs.Writing.{twos, signed}
use Rattle.records.specs.Views.{viewAt, longAt}
use Rattle.records.specs.declared.Open as names
use Rattle.records.specs.declared.Atom as atoms
use Rattle.records.specs.declared.Basic as basics
use Rattle.records.specs.declared.View.{View}
use Rattle.records.specs.declared.View.TheVariants as view

-- ══ The names of the code and those of the trees ══

abbrev pub openOf : names.Open → tree.Open ℕ
openOf (names.TheVariants.Var x) = tree.var x
openOf (names.TheVariants.Quant i) = tree.quant i
openOf (names.TheVariants.Par x) = tree.par x

abbrev pub viewOpen : tree.Open ℕ → names.Open
viewOpen (tree.var x) = names.TheVariants.Var x
viewOpen (tree.quant i) = names.TheVariants.Quant i
viewOpen (tree.par x) = names.TheVariants.Par x

abbrev pub atomOf : atoms.Atom → tree.Atom ℕ
atomOf (atoms.TheVariants.Free o) = tree.free (openOf o)
atomOf (atoms.TheVariants.Base x) = tree.base x

abbrev pub viewAtom : tree.Atom ℕ → atoms.Atom
viewAtom (tree.free o) = atoms.TheVariants.Free (viewOpen o)
viewAtom (tree.base x) = atoms.TheVariants.Base x

abbrev pub basicOf : basics.Basic → tree.Basic
basicOf basics.TheVariants.Boolean = tree.boolean
basicOf basics.TheVariants.Text = tree.string
basicOf basics.TheVariants.Datetime = tree.datetime

abbrev pub viewBasic : tree.Basic → basics.Basic
viewBasic tree.boolean = basics.TheVariants.Boolean
viewBasic tree.string = basics.TheVariants.Text
viewBasic tree.datetime = basics.TheVariants.Datetime

-- ══ Held ══

-- the record at a place says v
abbrev pub Shows : List ℕ → ℕ → View → Type 0
Shows s at v = viewAt s at ≡ v

-- and begins a part of n records
abbrev pub Long : List ℕ → ℕ → ℕ → Type 0
Long s at n = longAt s at ≡ n

-- a factor, whose numerator is one that a word can hold
abbrev pub HoldsFactor : List ℕ → Factor ℕ → ℕ → Type 0
HoldsFactor s (a ↑ frac n d) at = Shows s at (view.Factor (viewAtom a) (twos n) d) × (signed (twos n) ≡ n) × Long s at 1

unfoldable pub HoldsFactors : List ℕ → Product ℕ → ℕ → Type 0
HoldsFactors s [] at = Unit {0}
HoldsFactors s (f ∷ p) at = HoldsFactor s f at × HoldsFactors s p (at + 1)

unfoldable pub HoldsProduct : List ℕ → Product ℕ → ℕ → Type 0
HoldsProduct s p at = Shows s at (view.Dim (length p)) × HoldsFactors s p (at + 1) × Long s at (suc (length p))

unfoldable mutual
  unfolding HoldsProduct

  pub Holds : List ℕ → Ty ℕ → ℕ → Type 0
  Holds s (opened o) at = Shows s at (view.Opened (viewOpen o)) × Long s at 1
  Holds s (basic b) at = Shows s at (view.Basic (viewBasic b)) × Long s at 1
  Holds s (dim p) at = HoldsProduct s p at
  Holds s (fn ps r) at = Shows s at (view.Function (count ps)) × HoldsTys s ps (at + 1) × Holds s r (at + 1 + sizeTys ps) × Long s at (size (fn ps r))
  Holds s (struct n as' fs) at = Shows s at (view.Struct n (count as') (countFields fs)) × HoldsTys s as' (at + 1)
      × HoldsFields s fs (at + 1 + sizeTys as') × Long s at (size (struct n as' fs))
  Holds s (list t) at = Shows s at view.List × Holds s t (at + 1) × Long s at (size (list t))

  pub HoldsTys : List ℕ → Tys ℕ → ℕ → Type 0
  HoldsTys s nil at = Unit {0}
  HoldsTys s (cons t ts) at = Holds s t at × HoldsTys s ts (at + size t)

  pub HoldsFields : List ℕ → Fields ℕ → ℕ → Type 0
  HoldsFields s noFields at = Unit {0}
  HoldsFields s (field n t fs) at = Shows s at (view.Field n) × Holds s t (at + 1) × HoldsFields s fs (at + 1 + size t) × Long s at (suc (size t))

unfoldable pub HoldsCon : List ℕ → Con ℕ → ℕ → Type 0
HoldsCon s (equal l r) at = Shows s at view.Equal × Holds s l (at + 1) × Holds s r (at + 1 + size l) × Long s at (sizeCon (equal l r))
HoldsCon s (isDim t) at = Shows s at view.IsDim × Holds s t (at + 1) × Long s at (sizeCon (isDim t))
HoldsCon s (is_scalar p) at = Shows s at view.IsScalar × HoldsProduct s p (at + 1) × Long s at (sizeCon (is_scalar p))
HoldsCon s (hasField n l r) at = Shows s at (view.HasField n) × Holds s l (at + 1) × Holds s r (at + 1 + size l) × Long s at (sizeCon (hasField n l r))

unfoldable pub HoldsBinding : List ℕ → Binding ℕ → ℕ → Type 0
HoldsBinding s (x ≔ t) at = Shows s at (view.Binding x) × Holds s t (at + 1) × Long s at (sizeBinding (x ≔ t))

-- a bound as it is read: a variable's name, or an index
abbrev pub HoldsBound : List ℕ → tree.Open ℕ → ℕ → Type 0
HoldsBound s o at = Shows s at (view.Bound (viewOpen o)) × Long s at 1

unfoldable pub HoldsBounds : List ℕ → List (tree.Open ℕ) → ℕ → Type 0
HoldsBounds s [] at = Unit {0}
HoldsBounds s (o ∷ os) at = HoldsBound s o at × HoldsBounds s os (at + 1)

unfoldable pub BodyCon : List ℕ → Con ℕ → ℕ → Type 0
BodyCon s (equal l r) at = Shows s at view.Equal × Holds s l (at + 1) × Holds s r (at + 1 + size l)
BodyCon s (isDim t) at = Shows s at view.IsDim × Holds s t (at + 1)
BodyCon s (is_scalar p) at = Shows s at view.IsScalar × HoldsProduct s p (at + 1)
BodyCon s (hasField n l r) at = Shows s at (view.HasField n) × Holds s l (at + 1) × Holds s r (at + 1 + size l)

unfoldable pub BodyBinding : List ℕ → Binding ℕ → ℕ → Type 0
BodyBinding s (x ≔ t) at = Shows s at (view.Binding x) × Holds s t (at + 1)

pub con-body : (s : List ℕ) (c : Con ℕ) (at : ℕ) → HoldsCon s c at → BodyCon s c at
unfolding HoldsCon BodyCon
con-body s (equal l r) at h = (h.0, h.1, h.2)
con-body s (isDim t) at h = (h.0, h.1)
con-body s (is_scalar p) at h = (h.0, h.1)
con-body s (hasField n l r) at h = (h.0, h.1, h.2)

pub binding-body : (s : List ℕ) (b : Binding ℕ) (at : ℕ) → HoldsBinding s b at → BodyBinding s b at
unfolding HoldsBinding BodyBinding
binding-body s (x ≔ t) at h = (h.0, h.1)
