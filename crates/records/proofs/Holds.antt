-- What follows from the definitions of specs/Holds: the words at a place hold this tree.
use Rattle.std.specs.Prelude.{◌≡◌, List, ℕ, ◌+◌, length}
use Rattle.rules.specs.Exponents.{frac}
use Rattle.rules.specs.Trees.{
  Factor,
  ◌↑◌,
  Ty,
  opened,
  basic,
  dim,
  fn,
  struct,
  list,
  Con,
  equal,
  isDim,
  is_scalar,
  hasField,
  Binding,
  ◌≔◌,
  size,
  sizeTys,
  sizeCon,
  sizeBinding,
  count,
  countFields,
}
use Rattle.rules.specs.Writing.{twos, signed}
use Rattle.records.specs.declared.View.TheVariants as view
use Rattle.records.specs.Holds.{
  viewOpen,
  viewAtom,
  viewBasic,
  Shows,
  Long,
  HoldsFactor,
  HoldsFactors,
  HoldsProduct,
  Holds,
  HoldsTys,
  HoldsFields,
  HoldsCon,
  HoldsBinding,
  BodyCon,
  BodyBinding,
}

-- ══ Held, except for the length that the first record says ══

abbrev pub BodyFactor : List ℕ → Factor ℕ → ℕ → Type 0
BodyFactor s (a ↑ frac n d) at = Shows s at (view.Factor (viewAtom a) (twos n) d) × (signed (twos n) ≡ n)

pub body-factor : (s : List ℕ) (f : Factor ℕ) (at : ℕ) → BodyFactor s f at → Long s at 1 → HoldsFactor s f at
body-factor s (a ↑ frac n d) at h l = (h.0, h.1, l)

unfoldable pub Body : List ℕ → Ty ℕ → ℕ → Type 0
Body s (opened o) at = Shows s at (view.Opened (viewOpen o))
Body s (basic b) at = Shows s at (view.Basic (viewBasic b))
Body s (dim p) at = Shows s at (view.Dim (length p)) × HoldsFactors s p (at + 1)
Body s (fn ps r) at = Shows s at (view.Function (count ps)) × HoldsTys s ps (at + 1) × Holds s r (at + 1 + sizeTys ps)
Body s (struct n as' fs) at = Shows s at (view.Struct n (count as') (countFields fs)) × HoldsTys s as' (at + 1) × HoldsFields s fs (at + 1 + sizeTys as')
Body s (list t) at = Shows s at view.List × Holds s t (at + 1)

-- the length, and all but the length; and both together
pub holds-long : (s : List ℕ) (t : Ty ℕ) (at : ℕ) → Holds s t at → Long s at (size t)
unfolding Holds HoldsProduct size
holds-long s (opened o) at h = h.1
holds-long s (basic b) at h = h.1
holds-long s (dim p) at h = h.2
holds-long s (fn ps r) at h = h.3
holds-long s (struct n as' fs) at h = h.3
holds-long s (list t) at h = h.2

pub holds-body : (s : List ℕ) (t : Ty ℕ) (at : ℕ) → Holds s t at → Body s t at
unfolding Holds HoldsProduct Body
holds-body s (opened o) at h = h.0
holds-body s (basic b) at h = h.0
holds-body s (dim p) at h = (h.0, h.1)
holds-body s (fn ps r) at h = (h.0, h.1, h.2)
holds-body s (struct n as' fs) at h = (h.0, h.1, h.2)
holds-body s (list t) at h = (h.0, h.1)

pub body-holds : (s : List ℕ) (t : Ty ℕ) (at : ℕ) → Body s t at → Long s at (size t) → Holds s t at
unfolding Holds HoldsProduct Body size
body-holds s (opened o) at h l = (h, l)
body-holds s (basic b) at h l = (h, l)
body-holds s (dim p) at h l = (h.0, h.1, l)
body-holds s (fn ps r) at h l = (h.0, h.1, h.2, l)
body-holds s (struct n as' fs) at h l = (h.0, h.1, h.2, l)
body-holds s (list t) at h l = (h.0, h.1, l)

pub con-long : (s : List ℕ) (c : Con ℕ) (at : ℕ) → HoldsCon s c at → Long s at (sizeCon c)
unfolding HoldsCon
con-long s (equal l r) at h = h.3
con-long s (isDim t) at h = h.2
con-long s (is_scalar p) at h = h.2
con-long s (hasField n l r) at h = h.3

pub body-con : (s : List ℕ) (c : Con ℕ) (at : ℕ) → BodyCon s c at → Long s at (sizeCon c) → HoldsCon s c at
unfolding HoldsCon BodyCon
body-con s (equal l r) at h l' = (h.0, h.1, h.2, l')
body-con s (isDim t) at h l' = (h.0, h.1, l')
body-con s (is_scalar p) at h l' = (h.0, h.1, l')
body-con s (hasField n l r) at h l' = (h.0, h.1, h.2, l')

pub binding-long : (s : List ℕ) (b : Binding ℕ) (at : ℕ) → HoldsBinding s b at → Long s at (sizeBinding b)
unfolding HoldsBinding
binding-long s (x ≔ t) at h = h.2

pub body-binding : (s : List ℕ) (b : Binding ℕ) (at : ℕ) → BodyBinding s b at → Long s at (sizeBinding b) → HoldsBinding s b at
unfolding HoldsBinding BodyBinding
body-binding s (x ≔ t) at h l = (h.0, h.1, l)
