-- The call, from its checks and what its steps leave.
use Rattle.std.specs.Prelude.{◌≡◌, refl, Bool, false, ◌||◌, List, ℕ, zero, suc, get_or, replicate, Ok}
use Rattle.std.proofs.Common.{ap, ◌∙◌}
use Rattle.rules.specs.Base.{got, refused}
use Rattle.laws.proofs.NameTable.{count-is}
use Rattle.rules.specs.Compaction.{keeps, renumbered, squeezed, compactIf, compactChecks, compactCall}
use Rattle.compaction.specs.Told.{marks, Marked}
use Rattle.compaction.specs.Told.{Squeezed}
use Rattle.compaction.specs.Told.{compactedAs}

unmarked : (n i : ℕ) → marks (replicate n false) i ≡ false
unmarked zero i = refl
unmarked (suc n) zero = refl
unmarked (suc n) (suc i) = unmarked n i

-- the marks are at the names that are kept
pub marked-is : (m : List Bool) (n : ℕ) (ws : List ℕ) → Marked (replicate 256 false) m n ws → marks m ≡ keeps n ws
marked-is m n ws r = λ j i. (r.is i ∙ ap (◌|| keeps n ws i) (unmarked 256 i)) j

module _ (pool table words lengths : List ℕ) where
  pub call-refused : (n : ℕ) → compactChecks pool table words lengths ≡ refused n
      → record { answer = refused n; pool = pool; table = table; sets = words } ≡ compactCall pool table words lengths
  unfolding compactCall compactIf
  call-refused n e = rw e

  pub called : (m : List Bool) (r : ℕ) (pool' table' words' : List ℕ) → compactChecks pool table words lengths ≡ got tt
      → Marked (replicate 256 false) m (get_or table 0 0) words
      → words' ≡ renumbered (marks m) words → Squeezed (marks m) pool table pool' table' r
      → compactedAs (Ok r) pool' table' words' ≡ compactCall pool table words lengths
  unfolding compactCall compactIf squeezed
  called m r pool' table' words' e k w s = rw (e, s.many, s.bytes, s.ends, w, marked-is m (get_or table 0 0) words k, count-is pool table)
