-- Word 0 of a record: kind and length are had back from it, and it is made of them; a part that is read lasts as long as it says.
use Rattle.std.specs.Prelude.{◌≡◌, List, ◌∷◌, ℕ, suc, ◌+◌, ◌<◌, length}
use Rattle.std.proofs.Common.{arith, eq-eqb}
use Rattle.std.proofs.Math.Option.{some}
use Rattle.rules.specs.Writing.{Rec, rec, head, kindIn, lengthIn}
use Rattle.rules.specs.Reading.{Reader, lasting, next}

pub kind-head : (k n : ℕ) → k < 65_536 → kindIn (head k n) ≡ k
unfolding head kindIn
kind-head k n h = omega arith

pub length-head : (k n : ℕ) → k < 65_536 → lengthIn (head k n) ≡ n
unfolding head lengthIn
length-head k n h = omega arith

pub head-back : (w : ℕ) → head (kindIn w) (lengthIn w) ≡ w
unfolding head kindIn lengthIn
head-back w = omega arith

-- a part that was read and lasts as long as it says
pub lasts : {A : Type 0} (n m : ℕ) (a : A) (rest : List Rec) → n + length rest ≡ m → lasting n m (some (a, rest)) ≡ some (a, rest)
lasts n m a rest e = rw (eq-eqb (n + length rest) m e)

-- a part that was written is read back
pub next-back : {A : Type 0} (f : ℕ → ℕ → ℕ → ℕ → Reader A) (k n a b c : ℕ) (rs rest : List Rec) (x : A)
    → k < 65_536 → f k a b c rs ≡ some (x, rest) → n + length rest ≡ suc (length rs) → next f (rec (head k n) a b c ∷ rs) ≡ some (x, rest)
next-back f k n a b c rs rest x h e l = rw (kind-head k n h, length-head k n h, e) (lasts n (suc (length rs)) x rest l)
