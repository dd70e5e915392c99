-- What was written at the start of the work buffer, and how many records it has where it is short and flat enough.
use Rattle.std.specs.Prelude.{◌≡◌, true, List, ℕ, ◌≤◌, min, length}
use Rattle.rules.specs.Base.{Got, got, ◌>>=◌, bounded, sized, all, sum_of, max_of}
use Rattle.rules.specs.Trees.{Ty, Con, size, depth, sizeCon, depthCon}
use Rattle.records.specs.Good.{goodTy, goodCon}
use Rattle.records.specs.Holds.{Holds}
use Rattle.types.specs.Sets.{IsCons}
use Rattle.types.specs.Written.{last}

-- how many records a value has; over 2,048 records, or nested over 64, is 8
abbrev pub counted : {A : Type 0} → (A → ℕ) → (A → ℕ) → A → Got ℕ
counted long deep a = sized bounded (long a) (deep a) a >>= λ b. got (long b)

abbrev pub typeCounted : Ty ℕ → Got ℕ
typeCounted u = counted size depth u

abbrev pub setCounted : List (Con ℕ) → Got ℕ
setCounted cs = counted (sum_of sizeCon) (max_of depthCon) cs

-- n records of u stand at the start of w, where they are not too many
pub record TypeStands (pool table w : List ℕ) (n : ℕ) (u : Ty ℕ) : Type 0 where
  pub many : min n last ≡ min (size u) last
  pub held : size u ≤ 2048 → Holds w u 0
  pub good : goodTy pool table 0 u ≡ true

-- n records of these constraints stand at the start of w, where they are not too many
pub record SetStands (pool table w : List ℕ) (n : ℕ) (cs : List (Con ℕ)) : Type 0 where
  pub many : min n last ≡ min (sum_of sizeCon cs) last
  pub held : sum_of sizeCon cs ≤ 2048 → IsCons w 0 n cs
  pub near : sum_of sizeCon cs ≤ 2048 → length w ≤ 4_000_000_000
  pub good : all (goodCon pool table 0) cs ≡ true
