-- A constraint that is tested, and stored behind the set.
use Rattle.std.specs.Prelude.{◌≡◌, List, ℕ, ◌*◌, ◌≤◌}
use Rattle.std.proofs.Math.ListN.{length}
use Rattle.rules.specs.Adding.{add}
use Rattle.rules.specs.Base.{got, ◌>>=◌, sum_of}
use Rattle.rules.specs.Calls.{AddedTo, bufferAfter}
use Rattle.rules.specs.Trees.{Names, Con, sizeCon}

-- a set of n records at the front of the buffer, and a constraint that takes all of its list
pub record Ready (buffer : List ℕ) (n : ℕ) (con : List ℕ) (cs : List (Con ℕ)) (c : Con ℕ) : Type 0 where
  pub few : n ≤ 2048
  pub room : 8192 ≤ length buffer
  pub many : sum_of sizeCon cs ≡ n
  pub whole : length con ≡ sizeCon c * 4
  pub short : length con ≤ 8192

-- what adding does with them
abbrev pub addedWith : Names ℕ → List ℕ → ℕ → List ℕ → List (Con ℕ) → Con ℕ → AddedTo
addedWith ν buffer n con cs c = record {
  answer = add ν cs c >>= λ r. got (r.0, sum_of sizeCon r.1);
  buffer = bufferAfter (add ν cs c >>= λ r. got (r.0, sum_of sizeCon r.1)) (n * 4) con buffer;
}
