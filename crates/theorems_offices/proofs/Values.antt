-- Asking for a name, and products by value: numbers and products that read alike are answered alike.
use Rattle.std.specs.Prelude.{◌≡◌, Bool, true, false, ℕ, get_or}
use Rattle.std.proofs.Math.Path.{refl, ap, sym}
use Rattle.std.proofs.Common.{ap₂, ◌∙◌}
use mathlib.Core.List.{List, [], map}
use Rattle.rules.specs.Base.{Got, got, refused, ◌>>◌, need, bounded}
use Rattle.rules.specs.Exponents.{Exp, goodExp}
use Rattle.rules.specs.Trees.{Product}
use Rattle.rules.specs.Names.{Bytes, Table, table_of, names_of, numbersOf, is_held, tableGiven, nameAsked}
use Rattle.rules.specs.Products.{inverse, multiply, divide, raise}
use Rattle.rules.specs.WellFormed.{goodProduct}
use Rattle.rules.specs.Values.{ProductValue, productIn, productGiven, multiplyCall, divideCall, inverseCall, raiseCall}
use Rattle.rules.specs.Offices.{Name, named, stray, byBytes, nameIf, nameNo, mapFactor, ValuesAlike, ProductsAlike}
use Rattle.laws.specs.NameTable.{Good}
use Rattle.laws.proofs.NameTable.{good-given}
use Rattle.laws.proofs.Alike.{both, onward}
use Rattle.theorems_offices.proofs.Both.{Both, with-names-equal, there, through, needed, checked}
use Rattle.theorems_offices.proofs.Products.{inverse-map, multiply-map, divide-map, raise-map}
use Rattle.theorems_offices.proofs.WellFormed.{good-product}
use Rattle.theorems_offices.proofs.Naming.{isNamed, held-named, keeps}

-- ══ Asking for a name ══

-- the answer for a name: its bytes, or 3 for a stray number
told : Name → Got Bytes
told (named n) = got n
told (stray i) = refused 3

asked-told : {pool table : List ℕ} → Good pool table → (i : ℕ) → nameAsked pool table i ≡ told (nameNo (table_of pool table) i)
unfolding nameAsked nameNo told
asked-told {pool} {table} good i = rw (good-given good) (go (is_held (table_of pool table) i) (get_or (names_of (table_of pool table)) i []))
  where
    go : (b : Bool) (n : Bytes) → (need b 3 >> got n) ≡ told (nameIf b n i)
    go true n = refl
    go false n = refl

module _ {pool table pool' table' : List ℕ} (good : Good pool table) (good' : Good pool' table') where
  -- the two tables, and the names of their numbers
  abbrev T₁ : Table
  T₁ = table_of pool table

  abbrev T₂ : Table
  T₂ = table_of pool' table'

  abbrev ν₁ : ℕ → Name
  ν₁ = nameNo T₁

  abbrev ν₂ : ℕ → Name
  ν₂ = nameNo T₂

  pub asked-alike : (i i' : ℕ) → ν₁ i ≡ ν₂ i' → nameAsked pool table i ≡ nameAsked pool' table' i'
  asked-alike i i' e = asked-told good i ∙ ap told e ∙ sym (asked-told good' i')

  given-table : tableGiven pool table ≡ tableGiven pool' table'
  given-table = good-given good ∙ sym (good-given good')

  -- ══ Products by value ══

  product-given : (v v' : ProductValue) → ValuesAlike T₁ T₂ v v'
      → Both (map (mapFactor ν₁)) (map (mapFactor ν₂)) (productGiven pool table v) (productGiven pool' table' v')
  unfolding productGiven
  product-given v v' e =
      onward _ _ (there 1 (productIn v) (productIn v') e.product) (λ p p' i.
      onward _ _ (needed 1 (good-as good p ∙ ap (goodProduct byBytes isNamed 4_294_967_296) i ∙ sym (good-as good' p'))) (λ x y l. both i))
    where
      good-as : {pool table : List ℕ} (good : Good pool table) (p : Product ℕ)
          → goodProduct (numbersOf (table_of pool table)) (is_held (table_of pool table)) 4_294_967_296 p
          ≡ goodProduct byBytes isNamed 4_294_967_296 (map (mapFactor (nameNo (table_of pool table))) p)
      good-as {pool} {table} good p = sym
          (good-product _ byBytes (nameNo (table_of pool table)) (keeps good) _ isNamed (held-named (table_of pool table)) 4_294_967_296 p)

  answer : {p p' : Got (Product ℕ)} → Both (map (mapFactor ν₁)) (map (mapFactor ν₂)) p p' → ProductsAlike T₁ T₂ p p'
  answer b = record { product = with-names-equal b }

  pub multiply-alike : (v v' w w' : ProductValue) → ValuesAlike T₁ T₂ v v' → ValuesAlike T₁ T₂ w w'
      → ProductsAlike T₁ T₂ (multiplyCall pool table v w) (multiplyCall pool' table' v' w')
  unfolding multiplyCall
  multiply-alike v v' w w' e f = answer (checked given-table (onward _ _ (product-given v v' e) (λ p p' i. onward _ _ (product-given w w' f) (λ q q' j.
      through (multiply-map _ byBytes ν₁ (keeps good) bounded p q) (multiply-map _ byBytes ν₂ (keeps good') bounded p' q')
      (ap₂ (λ (a b : Product Name). multiply byBytes bounded a b) i j)))))

  pub divide-alike : (v v' w w' : ProductValue) → ValuesAlike T₁ T₂ v v' → ValuesAlike T₁ T₂ w w'
      → ProductsAlike T₁ T₂ (divideCall pool table v w) (divideCall pool' table' v' w')
  unfolding divideCall
  divide-alike v v' w w' e f = answer (checked given-table (onward _ _ (product-given v v' e) (λ p p' i. onward _ _ (product-given w w' f) (λ q q' j.
      through (divide-map _ byBytes ν₁ (keeps good) bounded p q) (divide-map _ byBytes ν₂ (keeps good') bounded p' q')
      (ap₂ (λ (a b : Product Name). divide byBytes bounded a b) i j)))))

  pub inverse-alike : (v v' : ProductValue) → ValuesAlike T₁ T₂ v v' → ProductsAlike T₁ T₂ (inverseCall pool table v) (inverseCall pool' table' v')
  unfolding inverseCall
  inverse-alike v v' e = answer (checked given-table
      (onward _ _ (product-given v v' e) (λ p p' i. both (sym (inverse-map ν₁ p) ∙ ap inverse i ∙ inverse-map ν₂ p'))))

  pub raise-alike : (v v' : ProductValue) (k : Exp) → ValuesAlike T₁ T₂ v v' → ProductsAlike T₁ T₂ (raiseCall pool table v k) (raiseCall pool' table' v' k)
  unfolding raiseCall
  raise-alike v v' k e = answer (checked given-table (onward _ _ (product-given v v' e) (λ p p' i. checked {m = need (goodExp k) 1} refl
      (through (raise-map _ byBytes ν₁ (keeps good) bounded p k) (raise-map _ byBytes ν₂ (keeps good') bounded p' k)
      (ap (λ (a : Product Name). raise byBytes bounded a k) i)))))
