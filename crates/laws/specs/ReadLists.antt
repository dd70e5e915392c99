-- Constraints, bindings, bounds and whole lists: what was written is read back, and what was read is what stands there.
-- So a list of words holds one list of trees at the most.
use mathlib.Core.List.{List}
use Prim.Native.Nat.{ℕ, ◌≤◌, ◌<◌}
use Rattle.rules.specs.Trees.{Open, var, quant, par, Con, equal, isDim, is_scalar, hasField, Binding, ◌≔◌, depthCon}
pub use Rattle.laws.specs.Lists.{Every}
use Rattle.laws.specs.Reading.{FitsProduct, Fits}

-- ══ Written, then read ══

-- numerators that a word can hold, and types nested at most 64 deep
abbrev pub FitsCon : Con ℕ → Type 0
FitsCon (equal l r) = Fits l × Fits r
FitsCon (isDim t) = Fits t
FitsCon (is_scalar p) = FitsProduct p
FitsCon (hasField n s t) = Fits s × Fits t

abbrev pub FitsBinding : Binding ℕ → Type 0
FitsBinding (x ≔ t) = Fits t

-- a bound outside or inside a scheme: a name or an index
abbrev pub IsBound : Open ℕ → Type 0
IsBound (var x) = Unit {0}
IsBound (quant i) = Unit {0}
IsBound (par x) = ⊥

-- ══ Words ══

-- words of 32 bits
abbrev pub Words : List ℕ → Type 0
Words ws = Every (λ w. w < 4_294_967_296) ws

-- numerators in range, nested at most 64 deep: so are all well formed constraints
abbrev pub Writable : Con ℕ → Type 0
Writable c = FitsCon c × (depthCon c ≤ 64)
