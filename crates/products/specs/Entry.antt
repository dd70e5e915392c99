-- The calls on products: what is asked at entry, and the calls once that is given.
use Rattle.std.specs.Prelude.{List, ℕ}
use Rattle.rules.specs.Base.{Got, got, refused, ◌>>◌}
use Rattle.rules.specs.Names.{tableGiven}
use Rattle.rules.specs.Values.{ProductValue, productGiven}
use Rattle.products.specs.Told.{Tree}

-- a value that was taken in passes
abbrev pub passed : Got Tree → Got (Unit {0})
passed (got t) = got tt
passed (refused n) = refused n

-- 10, then 1: pool and table, then a product
abbrev pub entry_of : List ℕ → List ℕ → ProductValue → Got (Unit {0})
entry_of pool table v = tableGiven pool table >> passed (productGiven pool table v)
