-- A row of checks passes exactly when each passes.
use Rattle.std.specs.Prelude.{◌≡◌, refl, Bool, true, false, List, [], ◌∷◌, ℕ, ◌≤◌, ◌&&◌, leb, length}
use Rattle.std.proofs.Common.{sym}
use borrow.Author.Tests.{leb-true}
use Rattle.rules.specs.Base.{Got, got, refused, ◌>>=◌, ◌>>◌, need, all}
use Rattle.rules.specs.Calls.{shortLists}
use Rattle.laws.specs.Lists.{and_left}
use Rattle.laws.proofs.Lists.{clash}

pub need-passed : (b : Bool) (n : ℕ) → need b n ≡ got tt → b ≡ true
need-passed true n h = refl
need-passed false n h = cc

module _ {A : Type 0} (b : Got A) (x : A) where
  pub first-passed : (a : Got (Unit {0})) → (a >> b) ≡ got x → a ≡ got tt
  first-passed (got u) h = refl
  first-passed (refused n) h = cc

  pub next-passed : (a : Got (Unit {0})) → (a >> b) ≡ got x → b ≡ got x
  next-passed (got u) h = h
  next-passed (refused n) h = cc

-- a list that passed the check of 8
pub list-short : (ws : List ℕ) → shortLists (ws ∷ []) ≡ got tt → length ws ≤ 8192
unfolding shortLists all
list-short ws h = leb-true (length ws) 8192 (and_left (leb (length ws) 8192) true (need-passed (leb (length ws) 8192 && true) 8 h))

-- checks, and then a value of which only is asked that there is one
pub passed : {A : Type 0} (a : Got (Unit {0})) (m : Got A) → (a >> m >> got (tt {0})) ≡ got tt → (x : A) × ((a ≡ got tt) × (m ≡ got x))
passed (got u) (got x) e = (x, (refl, refl))
passed (got u) (refused n) e = clash e
passed (refused n) m e = clash e

-- where such a row is refused, so is whatever comes after it
pub stopped : {A B : Type 0} (a : Got (Unit {0})) (m : Got A) (f : A → Got B) (n : ℕ) → (a >> m >> got (tt {0})) ≡ refused n → (a >>= λ _. m >>= f) ≡ refused n
stopped (got u) (got x) f n e = clash (sym e)
stopped (got u) (refused k) f n e = cc
stopped (refused k) m f n e = cc
