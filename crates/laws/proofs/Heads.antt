-- What follows from the definitions of specs/Heads: word 0 of a record: kind and length are had back from it, and it is made of them; a part that is read
-- lasts as long as it says.
use Rattle.std.specs.Prelude.{◌≡◌, List, ◌++◌, ℕ, suc, ◌+◌, length}
use Rattle.std.proofs.Common.{arith, length-append}
use Rattle.rules.specs.Writing.{Rec}

-- as many records as a head and its body
pub head-length : (body rest : List Rec) (n : ℕ) → suc (length body) ≡ n → n + length rest ≡ suc (length (body ++ rest))
head-length body rest n e = omega (arith, length-append body rest)
