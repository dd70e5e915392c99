-- Sets of constraints that pass the checks at entry, over any names: their solving ends.
use Rattle.std.specs.Prelude.{◌≡◌, Bool, true, ◌&&◌, ℕ, suc, ◌+◌, ◌*◌, ◌≤◌, ◌<◌, length}
use Rattle.std.proofs.Common.{◌∙◌}
use mathlib.Core.List.{List, [], ◌∷◌, Memᴰ}
use native.Mathlib.Omega.{arith}
use Rattle.rules.specs.Base.{bounded, all, collect}
use Rattle.rules.specs.Trees.{Open, var, quant, par, Names, Con, equal, isDim, is_scalar, hasField, Binding, orderAtom, opens, opensCon}
use Rattle.rules.specs.Contents.{variablesIn}
use Rattle.rules.specs.WellFormed.{goodTy, goodCon, goodOpen}
use Rattle.rules.specs.Ceiling.{variablesOf}
use Rattle.rules.specs.Solving.{accepted, stopped, run, enough, solve}
use Rattle.laws.specs.Lists.{and_left, and_right, in_head, Every}
use Rattle.laws.proofs.Lists.{every-left, every-right, every-as}
use Rattle.laws.proofs.KnownNames.{Known as Held, set_known}
use Rattle.laws.specs.Order.{Lawful, Tells}
use Rattle.laws.proofs.SortedNames.{sort-to}
use Rattle.theorems_ending.proofs.Fine.{good-ty, good-product, change, change-atoms}
use Rattle.theorems_ending.proofs.Weighing.{weigh-all}
use Rattle.theorems_ending.proofs.Steps.{In, Ok}
use Rattle.theorems_ending.proofs.Rounds.{turns, Over}
use Rattle.theorems_ending.specs.Counted.{roundsOf, bindingRounds}
pub use Rattle.theorems_ending.specs.Counted.{Admitted, start}
use Rattle.theorems_ending.proofs.Runs.{measure, run-ended, run-same, binding-bound}

-- ══ The variables of a well formed set ══

module _ {N : Type 0} where
  -- P of each variable, from P of each open name that is one
  variables-all : (P : N → Type 0) (Q : Open N → Type 0) → ((x : N) → Q (var x) → P x) → (os : List (Open N)) → Every Q os → Every P (variablesIn os)
  unfolding variablesIn collect
  variables-all P Q h [] a = tt
  variables-all P Q h (var x ∷ os) a = (h x a.0, variables-all P Q h os a.1)
  variables-all P Q h (quant i ∷ os) a = variables-all P Q h os a.1
  variables-all P Q h (par x ∷ os) a = variables-all P Q h os a.1

  all_in : (xs : List N) (os : List (Open N)) → ((x : N) → Memᴰ x (variablesIn os) → Memᴰ x xs) → Every (In xs) os
  unfolding variablesIn collect
  all_in xs [] h = tt
  all_in xs (var x ∷ os) h = (h x in_head, all_in xs os (λ y m. h y (Memᴰ.tail m)))
  all_in xs (quant i ∷ os) h = (tt, all_in xs os h)
  all_in xs (par x ∷ os) h = (tt, all_in xs os h)

module _ {N : Type 0} (ν : Names N) (law : Lawful (orderAtom ν)) (held : N → Bool) where
  -- a well formed constraint whose variables are of the list
  con-ok : (xs : List N) (c : Con N) → goodCon ν held 0 c ≡ true → Every (In xs) (opensCon c) → Ok ν xs c
  unfolding goodCon opensCon Ok opens
  con-ok xs (equal l r) t a = (
    change ν (λ o g i. i) l (good-ty ν law held 0 l (and_left (goodTy ν held 0 l) _ t)) (every-left (In xs) (opens l) (opens r) a),
    change ν (λ o g i. i) r (good-ty ν law held 0 r (and_right (goodTy ν held 0 l) _ t)) (every-right (In xs) (opens l) (opens r) a),
  )
  con-ok xs (isDim u) t a = change ν (λ o g i. tt) u (good-ty ν law held 0 u t) a
  con-ok xs (is_scalar p) t a =
      let n = good-product ν law held 0 p t in
      record { sorted = n.sorted; atoms = change-atoms ν (λ o g i. i) p n.atoms a }
  con-ok xs (hasField n s u) t a =
      let b = held n && goodTy ν held 0 s in (
        change ν (λ o g i. i) s (good-ty ν law held 0 s (and_right (held n) _ (and_left b _ t))) (every-left (In xs) (opens s) (opens u) a),
        change ν (λ o g i. i) u (good-ty ν law held 0 u (and_right b _ t)) (every-right (In xs) (opens s) (opens u) a),
      )

  set-ok : (xs : List N) (cs : List (Con N)) → all (goodCon ν held 0) cs ≡ true → Every (In xs) (collect opensCon cs) → Every (Ok ν xs) cs
  unfolding all collect
  set-ok xs [] t a = tt
  set-ok xs (c ∷ cs) t a = (
    con-ok xs c (and_left (goodCon ν held 0 c) _ t) (every-left (In xs) (opensCon c) (collect opensCon cs) a),
    set-ok xs cs (and_right (goodCon ν held 0 c) _ t) (every-right (In xs) (opensCon c) (collect opensCon cs) a),
  )

-- ══ The names held ══

-- their order is lawful and tells them apart, and there are at most 256
pub record Known {N : Type 0} (ν : Names N) (held : N → Bool) : Type 0 where
  pub law : Lawful (orderAtom ν)
  pub tells : Tells (λ x. held x ≡ true) ν.order
  pub names : List N
  pub few : length names ≤ 256
  pub every : (x : N) → held x ≡ true → Memᴰ x names

module _ {N : Type 0} {ν : Names N} {held : N → Bool} (known : Known ν held) {cs : List (Con N)} (admitted : Admitted ν held cs) where
  over-start : (xs : List N) → Every (In xs) (collect opensCon cs) → Over ν xs (start cs)
  over-start xs a = record {
    ok = set-ok ν known.law held xs cs admitted.good a;
    bound = tt;
    light = omega (arith, weigh-all cs, admitted.small);
  }

  goods : Every (Held ν held 0) (collect opensCon cs)
  goods = set_known ν held 0 cs admitted.good

  -- over the names held
  by_names : Over ν known.names (start cs)
  unfolding goodOpen
  by_names = over-start known.names (every-as among (collect opensCon cs) goods)
    where
      among : (o : Open N) → Held ν held 0 o → In known.names o
      among (var x) g = known.every x g
      among (quant i) g = tt
      among (par x) g = tt

  -- over the set's own variables
  by-variables : Over ν (variablesOf ν cs) (start cs)
  unfolding variablesOf goodOpen
  by-variables = over-start (variablesOf ν cs)
      (all_in (variablesOf ν cs) (collect opensCon cs)
      (λ x m. sort-to ν (λ x. held x ≡ true) known.tells (variablesIn (collect opensCon cs))
      (variables-all (λ x. held x ≡ true) (Held ν held 0) (λ x g. g) (collect opensCon cs) goods) x m))

  -- ══ Solving ends ══

  enough-fuel : measure known.names (start cs) < enough
  enough-fuel = omega (arith, known.few, by_names.light)

  -- more fuel changes nothing
  same_answer : (f : ℕ) → enough ≤ f → run ν bounded f 0 (start cs) ≡ solve ν bounded cs
  unfolding solve
  same_answer f h = run-same ν known.law f enough 0 known.names (start cs) by_names (omega (arith, enough-fuel)) enough-fuel

  -- nor does less, down to what the variables need
  pub same_from : (f : ℕ) → suc turns * length (variablesOf ν cs) + turns < f → run ν bounded f 0 (start cs) ≡ solve ν bounded cs
  same_from f h =
      run-same ν known.law f (f + enough) 0 (variablesOf ν cs) (start cs) by-variables (omega (arith, by-variables.light)) (omega (arith, by-variables.light))
      ∙ same_answer (f + enough) (omega arith)

  -- no refusal but those of the rules
  pub never-out : (k : ℕ) → solve ν bounded cs ≡ stopped 0 k → ⊥
  unfolding solve
  never-out = (run-ended ν known.law enough 0 known.names (start cs) by_names enough-fuel).fuelled

  -- at most so many rounds
  pub rounds-few : roundsOf (solve ν bounded cs) ≤ suc turns * 256 + turns
  unfolding solve
  rounds-few = omega (arith, (run-ended ν known.law enough 0 known.names (start cs) by_names enough-fuel).rounds, known.few, by_names.light)

  pub rounds-most : roundsOf (solve ν bounded cs) ≤ suc turns * length (variablesOf ν cs) + turns
  rounds-most =
      let f = enough + measure (variablesOf ν cs) (start cs) in
      let e = run-ended ν known.law f 0 (variablesOf ν cs) (start cs) by-variables (omega arith) in
      omega (arith, rw (same_answer f (omega arith)) at e.rounds, by-variables.light)

  -- at most as many binding rounds as variables
  pub binding-most : bindingRounds ν bounded enough (start cs) ≤ length (variablesOf ν cs)
  binding-most = binding-bound ν known.law enough (variablesOf ν cs) (start cs) by-variables

  -- as many bindings are answered as rounds bound
  pub bindings-same : (bs : List (Binding N)) (ns : List N) (k : ℕ) → solve ν bounded cs ≡ accepted bs ns k
      → length bs ≡ bindingRounds ν bounded enough (start cs)
  unfolding solve
  bindings-same bs ns k e = (run-ended ν known.law enough 0 known.names (start cs) by_names enough-fuel).bound bs ns k e ∙ omega arith
