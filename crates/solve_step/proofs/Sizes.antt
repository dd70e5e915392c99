-- How many records the parts of a constraint have.
use Rattle.std.specs.Prelude.{◌≡◌, ℕ, suc, ◌+◌, length}
use Rattle.std.proofs.Common.{ap}
use Rattle.rules.specs.Trees.{Product, Ty, Con, equal, is_scalar, hasField, size, sizeCon}

pub equal-size : (l r : Ty ℕ) (c : Con ℕ) → equal l r ≡ c → suc (size l + size r) ≡ sizeCon c
unfolding sizeCon
equal-size l r c e = ap sizeCon e

pub scalar-size : (p : Product ℕ) (c : Con ℕ) → is_scalar p ≡ c → suc (suc (length p)) ≡ sizeCon c
unfolding sizeCon size
scalar-size p c e = ap sizeCon e

pub field-size : (x : ℕ) (l r : Ty ℕ) (c : Con ℕ) → hasField x l r ≡ c → suc (size l + size r) ≡ sizeCon c
unfolding sizeCon
field-size x l r c e = ap sizeCon e
