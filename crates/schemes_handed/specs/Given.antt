-- What the lists of a call on schemes hold, over a name table that was tested: 8 comes before what a list holds.
use Rattle.std.specs.Prelude.{Ok, List, ℕ}
use Rattle.rules.specs.Base.{Got, ◌>>◌}
use Rattle.rules.specs.Calls.{shortNumbers, boundsGiven, schemeGiven, numbersGiven}
use Rattle.rules.specs.Names.{table_of}
use Rattle.rules.specs.Schemes as rules
use Rattle.rules.specs.Trees.{Open}
use Rattle.names.specs.declared.tables.NameTable.{NameTable}
use Rattle.types.specs.Given.{list_over}
use Rattle.schemes_handed.specs.declared.Bounds.{Bounds}
use Rattle.schemes_handed.specs.declared.Handed.{Handed}
use Rattle.schemes_handed.specs.declared.Scheme.{Scheme}
use Rattle.schemes_handed.specs.declared.Scheme.TheVariants.{Concrete, Quantified}

abbrev pub bounds_in : Bounds → List (Open ℕ)
bounds_in b = b.listed.0

abbrev pub scheme_in : Scheme → rules.Scheme ℕ
scheme_in (Concrete t) = rules.concrete t.tree.0
scheme_in (Quantified n t bs) = rules.scheme n t.tree.0 bs.listed.0

-- of handed names only is told whether they are held
abbrev pub nothing_in : Handed → Unit {0}
nothing_in h = tt

abbrev pub bounds_over : NameTable → List ℕ → Got (List (Open ℕ))
bounds_over n ws = list_over boundsGiven (Ok n) ws

abbrev pub scheme_over : NameTable → List ℕ → Got (rules.Scheme ℕ)
scheme_over n ws = list_over schemeGiven (Ok n) ws

abbrev pub numbers_over : NameTable → List ℕ → Got (Unit {0})
numbers_over n xs = shortNumbers xs >> numbersGiven (table_of n.pool.now n.table.now) xs
