use mathlib.Core.List.{[], ◌∷◌}
use Rattle.rules.specs.Trees.{◌≔◌, opens, opensCon}
use Rattle.rules.specs.Replacing.{replaceCon, bindings}
use Rattle.laws.proofs.Lists.{every-as}
use Rattle.laws.proofs.Untouched.{absent, ty_same, con_same, binding_same, each_same}
use Rattle.laws.proofs.absent_variable_stays.Goals as goal

pub returns : goal.returns
returns g c = λ ν l x t. record {
  types = λ u h. ty_same ν l (bindings ν (x ≔ t ∷ [])) u (absent ν x t (opens u) h);
  constraints = λ k h. con_same ν l (bindings ν (x ≔ t ∷ [])) k (absent ν x t (opensCon k) h);
  bound = λ y u h. binding_same ν l (bindings ν (x ≔ t ∷ [])) y u (absent ν x t (opens u) h);
  sets = λ ks h. each_same (replaceCon ν l (bindings ν (x ≔ t ∷ []))) ks
      (every-as (λ k i. con_same ν l (bindings ν (x ≔ t ∷ [])) k (absent ν x t (opensCon k) i)) ks h);
}
