-- What follows from the definitions of specs/Entry: the calls on products: what is asked at entry, and the calls once that is given.
use Rattle.std.specs.Prelude.{◌≡◌, refl, false, List, ℕ, length}
use Rattle.std.proofs.Common.{◌∙◌}
use Rattle.rules.specs.Base.{Got, got, refused, ◌>>=◌, ◌>>◌, need, bounded}
use Rattle.rules.specs.Exponents.{Exp, goodExp}
use Rattle.rules.specs.Names.{tableGiven, table_of, numbersOf}
use Rattle.rules.specs.Products.{inverse, multiply, divide, raise}
use Rattle.rules.specs.Values.{ProductValue, productGiven, multiplyCall, divideCall, inverseCall, raiseCall}
use Rattle.laws.proofs.Checks.{first-passed, next-passed}
use Rattle.laws.specs.NameTable.{Good}
use Rattle.laws.proofs.NameTable.{given-good, good-given}
use Rattle.products.specs.declared.Product.{Product}
use Rattle.products.specs.Told.{Tree, given, productOf, isGot}
use Rattle.products.specs.Held.{Well}
use Rattle.products.proofs.Held.{well-given, given-well, refused-one}
use Rattle.products.specs.Entry.{passed, entry_of}

-- what an entry that passed says
pub record Entered (pool table : List ℕ) (p : Product) : Type 0 where
  pub good : Good pool table
  pub well : Well pool table p

module _ (pool table : List ℕ) (p : Product) where
  pub entered : length p.factors ≡ 64 → entry_of pool table (given p) ≡ got tt → Entered pool table p
  entered long h = record {
    good = given-good (first-passed (passed (productGiven pool table (given p))) tt (tableGiven pool table) h);
    well = go (productGiven pool table (given p)) refl (next-passed (passed (productGiven pool table (given p))) tt (tableGiven pool table) h);
  }
    where
      go : (m : Got Tree) → productGiven pool table (given p) ≡ m → passed m ≡ got tt → Well pool table p
      go (got t) e k = (given-well pool table p long t e).well
      go (refused n) e k = absurd (cc)

  -- a call that is refused at entry
  stopped : (m : Got (Unit {0})) (n : Got Tree) (f : Tree → Got Tree) (k : ℕ) → (m >> passed n) ≡ refused k → (m >> (n >>= f)) ≡ refused k
  stopped (got u) (got t) f k h = absurd (cc)
  stopped (got u) (refused n) f k h = cc
  stopped (refused n) m f k h = cc

  module _ (k : ℕ) (h : entry_of pool table (given p) ≡ refused k) where
    pub multiply-stopped : (w : ProductValue) → multiplyCall pool table (given p) w ≡ refused k
    unfolding multiplyCall
    multiply-stopped w = stopped (tableGiven pool table) (productGiven pool table (given p)) _ k h

    pub divide-stopped : (w : ProductValue) → divideCall pool table (given p) w ≡ refused k
    unfolding divideCall
    divide-stopped w = stopped (tableGiven pool table) (productGiven pool table (given p)) _ k h

    pub inverse-stopped : inverseCall pool table (given p) ≡ refused k
    unfolding inverseCall
    inverse-stopped = stopped (tableGiven pool table) (productGiven pool table (given p)) _ k h

    pub raise-stopped : (e : Exp) → raiseCall pool table (given p) e ≡ refused k
    unfolding raiseCall
    raise-stopped e = stopped (tableGiven pool table) (productGiven pool table (given p)) _ k h

  -- a call that passed the entry
  module _ (g : Entered pool table p) where
    module _ (r : Product) where
      abbrev Other : (Tree → Got Tree) → Got Tree
      Other f = productGiven pool table (given r) >>= f

      multiply-goes : multiplyCall pool table (given p) (given r) ≡ Other (multiply (numbersOf (table_of pool table)) bounded (productOf p))
      unfolding multiplyCall
      multiply-goes = rw (good-given g.good, well-given pool table p g.well)

      divide-goes : divideCall pool table (given p) (given r) ≡ Other (divide (numbersOf (table_of pool table)) bounded (productOf p))
      unfolding divideCall
      divide-goes = rw (good-given g.good, well-given pool table p g.well)

      -- the other product is taken in, or refused
      pub multiply-both : Well pool table r
          → multiplyCall pool table (given p) (given r) ≡ multiply (numbersOf (table_of pool table)) bounded (productOf p) (productOf r)
      multiply-both w = multiply-goes ∙ rw (well-given pool table r w)

      pub divide-both : Well pool table r
          → divideCall pool table (given p) (given r) ≡ divide (numbersOf (table_of pool table)) bounded (productOf p) (productOf r)
      divide-both w = divide-goes ∙ rw (well-given pool table r w)

      pub multiply-one : isGot (productGiven pool table (given r)) ≡ false → multiplyCall pool table (given p) (given r) ≡ refused 1
      multiply-one h = multiply-goes ∙ rw (refused-one pool table (given r) h)

      pub divide-one : isGot (productGiven pool table (given r)) ≡ false → divideCall pool table (given p) (given r) ≡ refused 1
      divide-one h = divide-goes ∙ rw (refused-one pool table (given r) h)

    pub inverse-goes : inverseCall pool table (given p) ≡ got (inverse (productOf p))
    unfolding inverseCall
    inverse-goes = rw (good-given g.good, well-given pool table p g.well)

    pub raise-goes : (e : Exp) → raiseCall pool table (given p) e ≡ (need (goodExp e) 1 >> raise (numbersOf (table_of pool table)) bounded (productOf p) e)
    unfolding raiseCall
    raise-goes e = rw (good-given g.good, well-given pool table p g.well)

    -- the entry of such a product
    pub entry-good : entry_of pool table (given p) ≡ got tt
    entry-good = rw (good-given g.good, well-given pool table p g.well)
