-- A product stays well formed while further names are entered.
use Rattle.std.specs.Prelude.{◌≡◌, true, List, [], ℕ, get_or}
use Rattle.std.proofs.Math.Path.{refl, ap₂}
use Rattle.std.proofs.Common.{ap, ◌∙◌, arith, ltb-true, lt-ltb}
use Rattle.std.proofs.Math.ListN.{get_or-append}
use Rattle.rules.specs.Names.{Bytes, orderBytes, numbered, table_of, names_of}
use Rattle.rules.specs.Trees.{var, quant, par, Atom, free, base, orderOpen, orderAtom}
use Rattle.rules.specs.WellFormed.{goodOpen}
use Rattle.laws.specs.NameTable.{Good}
use Rattle.laws.proofs.NameTable.{good-laid, length-names}
use Rattle.laws.specs.GoodProducts.{goodAtom}
use Rattle.products.specs.Told.{heldIn, factorAt, atomAt}
use Rattle.products.specs.Held.{Well}
use Rattle.products.specs.declared.Product.{Product}
use Rattle.text_names.specs.Effects.{Lent, Kept}

module _ {x y : Lent} (g : Good x.pool x.table) (k : Kept x y) where
  abbrev before : List Bytes
  before = names_of (table_of x.pool x.table)

  abbrev after : List Bytes
  after = names_of (table_of y.pool y.table)

  name-stays : (i : ℕ) → heldIn x.table i ≡ true → get_or after i [] ≡ get_or before i []
  name-stays i h = ap (λ (ns : List Bytes). get_or ns i []) k.names ∙ get_or-append before k.more [] i
      (omega (arith, ltb-true i (get_or x.table 0 0) h, length-names (good-laid g)))

  order-stays : (i j : ℕ) → heldIn x.table i ≡ true → heldIn x.table j ≡ true → (numbered after).order i j ≡ (numbered before).order i j
  unfolding numbered
  order-stays i j h l = ap₂ orderBytes (name-stays i h) (name-stays j l)

  held_stays : (i : ℕ) → heldIn x.table i ≡ true → heldIn y.table i ≡ true
  held_stays i h = lt-ltb i (get_or y.table 0 0) (omega (arith, ltb-true i (get_or x.table 0 0) h, k.held))

  atom-stays : (a : Atom ℕ) → goodAtom (numbered before) (heldIn x.table) 4_294_967_296 a ≡ true
      → goodAtom (numbered after) (heldIn y.table) 4_294_967_296 a ≡ true
  unfolding goodOpen
  atom-stays (free (var n)) h = held_stays n h
  atom-stays (free (quant i)) h = h
  atom-stays (free (par n)) h = held_stays n h
  atom-stays (base n) h = held_stays n h

  atoms-stay : (a b : Atom ℕ) → goodAtom (numbered before) (heldIn x.table) 4_294_967_296 a ≡ true
      → goodAtom (numbered before) (heldIn x.table) 4_294_967_296 b ≡ true
      → orderAtom (numbered after) a b ≡ orderAtom (numbered before) a b
  unfolding goodOpen orderAtom orderOpen
  atoms-stay (free (var m)) (free (var n)) h l = order-stays m n h l
  atoms-stay (free (var m)) (free (quant j)) h l = refl
  atoms-stay (free (var m)) (free (par n)) h l = refl
  atoms-stay (free (quant i)) (free (var n)) h l = refl
  atoms-stay (free (quant i)) (free (quant j)) h l = refl
  atoms-stay (free (quant i)) (free (par n)) h l = refl
  atoms-stay (free (par m)) (free (var n)) h l = refl
  atoms-stay (free (par m)) (free (quant j)) h l = refl
  atoms-stay (free (par m)) (free (par n)) h l = order-stays m n h l
  atoms-stay (free (var m)) (base n) h l = refl
  atoms-stay (free (quant i)) (base n) h l = refl
  atoms-stay (free (par m)) (base n) h l = refl
  atoms-stay (base m) (free (var n)) h l = refl
  atoms-stay (base m) (free (quant j)) h l = refl
  atoms-stay (base m) (free (par n)) h l = refl
  atoms-stay (base m) (base n) h l = order-stays m n h l

  pub well-stays : (p : Product) → Well x.pool x.table p → Well y.pool y.table p
  well-stays p w = record {
    few = w.few;
    long = w.long;
    each = λ i h. let f = w.each i h in record { kind = f.kind; atom = atom-stays (atomAt (factorAt p i)) f.atom; stored = f.stored };
    rises = λ i h. atoms-stay (atomAt (factorAt p i)) _ (w.each i (omega arith)).atom (w.each _ h).atom ∙ w.rises i h;
  }
