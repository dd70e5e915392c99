-- What a type is, seen from outside: one function for each kind that a rule asks for.
use Rattle.std.proofs.Math.Option.{Option, none, some}
use Rattle.std.specs.Prelude.{ℕ}
use Rattle.rules.specs.Base.{and_then}
use Rattle.rules.specs.Products.{single}
use Rattle.rules.specs.Trees.{Open, var, quant, par, Product, Ty, opened, basic, dim, fn, struct, list, Tys, Fields, Basic, boolean, string, datetime}

abbrev pub kindBasic : Basic → ℕ
kindBasic boolean = 4
kindBasic string = 5
kindBasic datetime = 6

module _ {N : Type 0} where
  abbrev pub openOf : Ty N → Option (Open N)
  openOf (opened o) = some o
  openOf (basic b) = none
  openOf (dim p) = none
  openOf (fn ps r) = none
  openOf (struct n as' fs) = none
  openOf (list t) = none

  abbrev pub productOf : Ty N → Option (Product N)
  productOf (opened o) = none
  productOf (basic b) = none
  productOf (dim p) = some p
  productOf (fn ps r) = none
  productOf (struct n as' fs) = none
  productOf (list t) = none

  abbrev pub fn_of : Ty N → Option (Tys N × Ty N)
  fn_of (opened o) = none
  fn_of (basic b) = none
  fn_of (dim p) = none
  fn_of (fn ps r) = some (ps, r)
  fn_of (struct n as' fs) = none
  fn_of (list t) = none

  abbrev pub struct_of : Ty N → Option (N × Tys N × Fields N)
  struct_of (opened o) = none
  struct_of (basic b) = none
  struct_of (dim p) = none
  struct_of (fn ps r) = none
  struct_of (struct n as' fs) = some (n, as', fs)
  struct_of (list t) = none

  abbrev pub list_of : Ty N → Option (Ty N)
  list_of (opened o) = none
  list_of (basic b) = none
  list_of (dim p) = none
  list_of (fn ps r) = none
  list_of (struct n as' fs) = none
  list_of (list t) = some t

  abbrev pub variable : Open N → Option N
  variable (var x) = some x
  variable (quant i) = none
  variable (par x) = none

  abbrev pub parameter : Open N → Option N
  parameter (var x) = none
  parameter (quant i) = none
  parameter (par x) = some x

  -- the name of a variable or a parameter
  abbrev pub name_of : Open N → Option N
  name_of (var x) = some x
  name_of (quant i) = none
  name_of (par x) = some x

  -- the kind of a type's first record
  abbrev pub kindOpen : Open N → ℕ
  kindOpen (var x) = 1
  kindOpen (par x) = 2
  kindOpen (quant i) = 14

  abbrev pub kind : Ty N → ℕ
  kind (opened o) = kindOpen o
  kind (basic b) = kindBasic b
  kind (dim p) = 3
  kind (fn ps r) = 7
  kind (struct n as' fs) = 8
  kind (list t) = 10

  abbrev pub asVar : Ty N → Option N
  asVar t = and_then (openOf t) variable

  -- the variable of a dimension that is one variable to the power 1
  abbrev pub asPower : Ty N → Option N
  asPower t = and_then (and_then (productOf t) single) variable
