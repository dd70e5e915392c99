-- Which constraint fails first once all bindings are put in, at once; the judge's verdict is whether there is one.
use Rattle.std.specs.Prelude.{◌≡◌, refl, Bool, true, false, List, [], ◌∷◌, ℕ, suc, Result, Ok, Err}
use Rattle.std.specs.Prelude as std
use Rattle.std.specs.Option as code
use Rattle.std.proofs.Common.{sym, ap, ◌∙◌}
use Rattle.std.proofs.Math.Option.{Option, some}
use Rattle.rules.specs.Base.{Got, got, refused, ◌>>=◌, Limits, is_none}
use Rattle.rules.specs.Judging.{judgeCon, judge, failing}
use Rattle.rules.specs.Refusals.{toldBy, toldOption}
use Rattle.rules.specs.Trees.{Names, Con, Binding}
use Rattle.rules.specs.declared.Refusal.{Refusal}

module _ {N : Type 0} (ν : Names N) (l : Limits) (bs : List (Binding N)) (bounds : List N) where
  pub none-fails : (k : ℕ) (cs : List (Con N)) → judge ν l bs bounds cs ≡ (failing ν l bs bounds k cs >>= λ o. got (is_none o))
  unfolding failing judge
  none-fails k [] = refl
  none-fails k (c ∷ cs) = go (judgeCon ν l bs bounds c) (none-fails (suc k) cs)
    where
      go : (j : Got Bool) → judge ν l bs bounds cs ≡ (failing ν l bs bounds (suc k) cs >>= λ o. got (is_none o))
          → (j >>= λ b. elim b [ true ↦ judge ν l bs bounds cs | false ↦ got false ])
          ≡ ((j >>= λ b. elim b [ true ↦ failing ν l bs bounds (suc k) cs | false ↦ got (some k) ]) >>= λ o. got (is_none o))
      go (refused n) e = refl
      go (got true) e = e
      go (got false) e = refl

  -- the verdict is whether there is none
  pub verdict : (cs : List (Con N)) (r : Result (std.Option ℕ) Refusal) → toldBy toldOption r ≡ failing ν l bs bounds 0 cs
      → toldBy code.is_none r ≡ judge ν l bs bounds cs
  verdict cs r e = go r ∙ ap (λ (m : Got (Option ℕ)). m >>= λ o. got (is_none o)) e ∙ sym (none-fails 0 cs)
    where
      go : (r : Result (std.Option ℕ) Refusal) → toldBy code.is_none r ≡ (toldBy toldOption r >>= λ o. got (is_none o))
      go (Ok std.None) = refl
      go (Ok (std.Some k)) = refl
      go (Err why) = refl
