-- What a yes to a certificate is worth.
use Rattle.std.specs.Prelude.{◌≡◌, true, List, ℕ}
use Rattle.rules.specs.Base.{got, all}
use Rattle.rules.specs.Trees.{Con}
use Rattle.rules.specs.Names.{table_of, numbersOf}
use Rattle.rules.specs.Calls.{setGiven}
use Rattle.rules.specs.Meaning.{Solves}
use Rattle.records.specs.Found.{Words32}
use Rattle.edition_certificates.specs.Certificates.{bindingsIn, boundNames, proposes, verified}

module _ (pool table set certificate : List ℕ) where
  -- the constraints of the set, and the certificate's lines. With what these say put in, all at once, each constraint is true
  pub record Verified : Type 0 where
    pub cs : List (Con ℕ)
    pub ds : List (Con ℕ)
    pub read : setGiven (table_of pool table) set ≡ got cs
    pub certified : setGiven (table_of pool table) certificate ≡ got ds
    pub lines : all proposes ds ≡ true
    pub solves : Solves (numbersOf (table_of pool table)) cs (bindingsIn ds) (boundNames ds)

-- the words of the certificate are 32 bits wide, as those of any lent list
abbrev pub VerifiedIsTrue : Type 0
VerifiedIsTrue = (pool table set certificate : List ℕ) → Words32 certificate → verified pool table set certificate ≡ got true
    → Verified pool table set certificate
