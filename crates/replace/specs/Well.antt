-- Well formed trees over a name table, and the places that hold them. An index may be any word: what holds with fewer quantified variables holds here.
use Rattle.std.specs.Prelude.{◌≡◌, true, List, ℕ, ◌+◌, ◌≤◌, length}
use Rattle.std.proofs.Math.Option.{some}
use Rattle.rules.specs.Base.{all}
use Rattle.rules.specs.Names.{table_of, numbersOf, is_held}
use Rattle.rules.specs.Replacing.{Look}
use Rattle.rules.specs.Trees.{Open, Names, Ty, Tys, Fields, Con, Binding}
use Rattle.rules.specs.Values.{productValue}
use Rattle.rules.specs.WellFormed.{goodProduct, goodTy, goodTys, goodFields, goodCon, goodBinding}
use Rattle.products.specs.Told.{Tree, given}
use Rattle.products.specs.declared.Product.{Product}
use Rattle.types.specs.Binds.{IsBinds}
use Rattle.replace.specs.Places.{Tabled}

module _ (pool table : List ℕ) where
  abbrev pub names : Names ℕ
  names = numbersOf (table_of pool table)

  abbrev pub GoodProduct : Tree → Type 0
  GoodProduct p = goodProduct names (is_held (table_of pool table)) 4_294_967_296 p ≡ true

  abbrev pub GoodTy : Ty ℕ → Type 0
  GoodTy t = goodTy names (is_held (table_of pool table)) 4_294_967_296 t ≡ true

  abbrev pub GoodTys : Tys ℕ → Type 0
  GoodTys ts = goodTys names (is_held (table_of pool table)) 4_294_967_296 ts ≡ true

  abbrev pub GoodFields : Fields ℕ → Type 0
  GoodFields fs = goodFields names (is_held (table_of pool table)) 4_294_967_296 fs ≡ true

  abbrev pub GoodCon : Con ℕ → Type 0
  GoodCon c = goodCon names (is_held (table_of pool table)) 4_294_967_296 c ≡ true

  abbrev pub GoodBinding : Binding ℕ → Type 0
  GoodBinding b = goodBinding names (is_held (table_of pool table)) 4_294_967_296 b ≡ true

  -- a product by value whose unused places are blank, and which is well formed
  pub record Whole (p : Product) (t : Tree) : Type 0 where
    pub is : given p ≡ productValue t
    pub good : GoodProduct t

  -- a run of well formed bindings, of at most 2,048 records, in a list that is not too long
  pub record Listed (v : List ℕ) (b e : ℕ) (bs : List (Binding ℕ)) : Type 0 where
    pub run : IsBinds v b e bs
    pub good : all (goodBinding names (is_held (table_of pool table)) 4_294_967_296) bs ≡ true
    pub short : e ≤ b + 2048
    pub near : length v ≤ 4_000_000_000

  -- what names become is well formed
  abbrev pub LooksGood : Look ℕ → Type 0
  LooksGood look = (o : Open ℕ) (t : Ty ℕ) → look o ≡ some t → GoodTy t

  -- a table of places that says what names become, over a list that is not too long
  pub record Lent (places v : List ℕ) (look : Look ℕ) : Type 0 where
    pub tabled : Tabled places v look
    pub good : LooksGood look
    pub near : length v ≤ 4_000_000_000
