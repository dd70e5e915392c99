-- Are all constraints true once all bindings are put in, at once?
use Rattle.std.specs.Prelude.{Bool, true, false, List, [], ◌∷◌, ℕ, suc, eqb}
use Rattle.std.proofs.Math.Option.{Option, none, some}
use Rattle.rules.specs.Base.{Got, got, refused, ◌>>=◌, Limits, sized}
use Rattle.rules.specs.Trees.{Names, Con, Binding, sizeCon, depthCon}
use Rattle.rules.specs.Replacing.{replaceCon, bindings}
use Rattle.rules.specs.Meaning.{holds}

-- '6 counts as failure'
unfoldable pub failed : Got Bool → Got Bool
failed (got b) = got b
failed (refused n) = elim (eqb n 6) [ true ↦ got false | false ↦ refused n ]

module _ {N : Type 0} (ν : Names N) (l : Limits) where
  -- 'the replaced constraint's records or nesting at its end, before comparing': 8
  unfoldable pub judgeCon : List (Binding N) → List N → Con N → Got Bool
  judgeCon bs bounds c = failed (do
    d ← replaceCon ν l (bindings ν bs) c
    d ← sized l (sizeCon d) (depthCon d) d
    got (holds ν bounds d))

  -- 'constraint by constraint': the first failure, 7 or 8 decides
  unfoldable pub judge : List (Binding N) → List N → List (Con N) → Got Bool
  judge bs bounds [] = got true
  judge bs bounds (c ∷ cs) = judgeCon bs bounds c >>= λ b. elim b [ true ↦ judge bs bounds cs | false ↦ got false ]

  -- which constraint fails first, by its number, where k come before these: the judge says yes where there is none
  unfoldable pub failing : List (Binding N) → List N → ℕ → List (Con N) → Got (Option ℕ)
  failing bs bounds k [] = got none
  failing bs bounds k (c ∷ cs) = judgeCon bs bounds c >>= λ b. elim b [ true ↦ failing bs bounds (suc k) cs | false ↦ got (some k) ]
