use Rattle.std.specs.Prelude.{◌≡◌, ◌⊎◌, List}
use Rattle.std.proofs.Common.{inl, inr}
use Rattle.std.proofs.Math.Path.{refl}
use mathlib.Core.List.{Memᴰ}
use Rattle.rules.specs.Trees.{Open, var, opens, opensCon}
use Rattle.laws.specs.Lists.{All}
use Rattle.laws.proofs.Occurs.{ty-on, con-on}
use Rattle.laws.specs.Theorems.{Gone}
use Rattle.laws.proofs.replaced_variable_is_gone.Goals as goal

-- open names other than x
abbrev Other : {N : Type 0} → N → Open N → Type 0
Other x o = o ≡ var x → ⊥

others : {N : Type 0} (x : N) (os : List (Open N)) → Gone x os → All (Other x) os
others x os h = λ o m e. h (rw e at m)

-- of the type put in, or another than x that stood there
abbrev Old : {N : Type 0} → N → List (Open N) → List (Open N) → Open N → Type 0
Old x put before o = Memᴰ o put ⊎ (Memᴰ o before × (o ≡ var x → ⊥))

pub returns : goal.returns
returns g c = λ ν law held q tells x t tg. (
  record {
    types = λ u w h e. ty-on ν law held q tells x t tg (Old x (opens t) (opens u)) u w h e (λ o m n. inr (m, n)) (λ o m. inl m);
    constraints = λ k d h e. con-on ν law held q tells x t tg (Old x (opens t) (opensCon k)) k d h e (λ o m n. inr (m, n)) (λ o m. inl m);
  },
  λ gone. record {
    types = λ u w h e m.
        ty-on ν law held q tells x t tg (Other x) u w h e (λ o i n. n) (others x (opens t) gone) (var x) m refl;
    constraints = λ k d h e m.
        con-on ν law held q tells x t tg (Other x) k d h e (λ o i n. n) (others x (opens t) gone) (var x) m refl;
  },
)
