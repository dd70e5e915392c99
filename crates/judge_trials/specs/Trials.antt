-- One constraint after another: bindings put in, measured, tested.
use Rattle.std.specs.Prelude.{◌≡◌, Bool, true, List, ℕ, ◌/◌, ◌≤◌, min, length}
use Rattle.std.proofs.Math.Option.{some}
use Rattle.rules.specs.Base.{Got, got, ◌>>=◌, bounded, sized, all}
use Rattle.rules.specs.Judging.{failed, judgeCon}
use Rattle.rules.specs.Meaning.{holds}
use Rattle.rules.specs.Replacing.{Look, bindings}
use Rattle.rules.specs.Trees.{Open, Ty, Con, Binding, sizeCon, depthCon}
use Rattle.records.specs.Good.{goodCon, goodTy, numbers}
use Rattle.records.specs.Holds.{HoldsCon}
use Rattle.replace.specs.declared.substitution.Substitution.{Substitution}
use Rattle.replace.specs.Well.{Lent}
use Rattle.types.specs.Sets.{IsCons}
use Rattle.types.specs.Written.{last}

module _ (pool table : List ℕ) where
  -- what is said of a constraint once the bindings are put in
  abbrev pub tested : List ℕ → Con ℕ → Got Bool
  tested xs d = failed (sized bounded (sizeCon d) (depthCon d) d >>= λ e. got (holds (numbers pool table) xs e))

  -- the constraint that was written at the start, where it fits
  pub record ConStands (w : List ℕ) (n : ℕ) (d : Con ℕ) : Type 0 where
    pub many : min n last ≡ min (sizeCon d) last
    pub held : sizeCon d ≤ 2048 → HoldsCon w d 0
    pub near : sizeCon d ≤ 2048 → length w ≤ 4_000_000_000
    pub good : goodCon pool table 0 d ≡ true

  -- ══ Put in ══

  -- a table that says what the bindings say
  pub record Put (places types : List ℕ) (bs : List (Binding ℕ)) : Type 0 where
    pub lent : Lent pool table places types (bindings (numbers pool table) bs)
    pub good : (o : Open ℕ) (t : Ty ℕ) → bindings (numbers pool table) bs o ≡ some t → goodTy pool table 0 t ≡ true

  -- a set of well formed constraints, which is the whole list
  pub record SetThere (set : List ℕ) (cs : List (Con ℕ)) : Type 0 where
    pub held : IsCons set 0 (length set / 4) cs
    pub good : all (goodCon pool table 0) cs ≡ true

-- what becomes of names is without quantified variables
abbrev pub Plain : Substitution → Type 0
Plain by = (o : Open ℕ) (t : Ty ℕ) → by.lent.0 o ≡ some t → goodTy by.names.pool.now by.names.table.now 0 t ≡ true

-- what names become by bindings, and the rule's verdict
abbrev pub lookOf : Substitution → List (Binding ℕ) → Look ℕ
lookOf by bs = bindings (numbers by.names.pool.now by.names.table.now) bs

abbrev pub judgedBy : Substitution → List (Binding ℕ) → List ℕ → Con ℕ → Got Bool
judgedBy by bs xs c = judgeCon (numbers by.names.pool.now by.names.table.now) bounded bs xs c
