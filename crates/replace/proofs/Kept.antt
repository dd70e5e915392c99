-- Constraints and bindings without quantified variables: the walks take them, and replacing keeps them so.
use Rattle.std.specs.Prelude.{◌≡◌, true, ℕ}
use Rattle.std.proofs.Math.Path.{refl}
use Rattle.std.proofs.Math.Bool.{and-eq-true_iff}
use mathlib.Core.List.{List, [], ◌∷◌}
use Rattle.std.proofs.Math.Option.{some}
use Rattle.std.proofs.Common.{arith}
use Rattle.rules.specs.Base.{bounded, all, each}
use Rattle.rules.specs.Replacing.{Look, replaceCon, replaceBinding}
use Rattle.rules.specs.Trees.{Open, Ty, Con, Binding}
use Rattle.rules.specs.WellFormed.{goodTy}
use Rattle.laws.proofs.KeepsGood as laws
use Rattle.laws.specs.Lists.{Every}
use Rattle.laws.proofs.Value.{Gives, gives, next}
use Rattle.products.proofs.Held.{law}
use Rattle.records.specs.Good.{goodBinding, goodCon, numbers, holding}
use Rattle.replace.specs.Well.{GoodBinding, GoodCon}
use Rattle.laws.proofs.Weaker.{con-weaker, binding-weaker}

module _ (pool table : List ℕ) where
  -- what the walks ask
  pub cons-weaker : (cs : List (Con ℕ)) → all (goodCon pool table 0) cs ≡ true → Every (GoodCon pool table) cs
  unfolding all
  cons-weaker [] g = tt
  cons-weaker (c ∷ cs) g =
      let r = (and-eq-true_iff (goodCon pool table 0 c) (all (goodCon pool table 0) cs)).0 g in
      (con-weaker (numbers pool table) (holding pool table) 0 4_294_967_296 (omega arith) c r.0, cons-weaker cs r.1)

  pub binds-weaker : (bs : List (Binding ℕ)) → all (goodBinding pool table 0) bs ≡ true → Every (GoodBinding pool table) bs
  unfolding all
  binds-weaker [] g = tt
  binds-weaker (b ∷ bs) g =
      let r = (and-eq-true_iff (goodBinding pool table 0 b) (all (goodBinding pool table 0) bs)).0 g in
      (binding-weaker (numbers pool table) (holding pool table) 0 4_294_967_296 (omega arith) b r.0, binds-weaker bs r.1)

  -- what is made of them
  module _ (look : Look ℕ) (good : (o : Open ℕ) (t : Ty ℕ) → look o ≡ some t → goodTy (numbers pool table) (holding pool table) 0 t ≡ true) where
    pub cons-kept : (cs : List (Con ℕ)) → all (goodCon pool table 0) cs ≡ true
        → Gives (each (replaceCon (numbers pool table) bounded look) cs) (λ ds. all (goodCon pool table 0) ds ≡ true)
    unfolding each all
    cons-kept [] g = gives refl
    cons-kept (c ∷ cs) g =
        let r = (and-eq-true_iff (goodCon pool table 0 c) (all (goodCon pool table 0) cs)).0 g in
        next (laws.con-kept (numbers pool table) (law pool table) (holding pool table) 0 look good c r.0)
        (λ d i. next (cons-kept cs r.1) (λ ds j. gives ((and-eq-true_iff (goodCon pool table 0 d) (all (goodCon pool table 0) ds)).1 (i, j))))

    pub binds-kept : (bs : List (Binding ℕ)) → all (goodBinding pool table 0) bs ≡ true
        → Gives (each (replaceBinding (numbers pool table) bounded look) bs) (λ cs. all (goodBinding pool table 0) cs ≡ true)
    unfolding each all
    binds-kept [] g = gives refl
    binds-kept (b ∷ bs) g =
        let r = (and-eq-true_iff (goodBinding pool table 0 b) (all (goodBinding pool table 0) bs)).0 g in
        next (laws.binding-kept (numbers pool table) (law pool table) (holding pool table) 0 look good b r.0)
        (λ c i. next (binds-kept bs r.1) (λ cs j. gives ((and-eq-true_iff (goodBinding pool table 0 c) (all (goodBinding pool table 0) cs)).1 (i, j))))
