-- Types without a type inside, read and written.
use Rattle.std.specs.Prelude.{Bool, true, false, ℕ}
use Rattle.rules.specs.Names.{Bytes}
use Rattle.rules.specs.Trees.{var, par, boolean, string, datetime}
use Rattle.rules.specs.Grammar.{Rule, ascii, TyAt}
use Rattle.rules.specs.Grammar as Grammar
use Rattle.records.specs.declared.Basic.{Basic}
use Rattle.records.specs.declared.Basic.TheVariants.{Boolean, Text, Datetime}
use Rattle.records.specs.declared.Open.TheVariants.{Var, Par}
use Rattle.records.specs.declared.View.{View}
use Rattle.records.specs.declared.View.TheVariants as view

-- ══ Variables and parameters ══

abbrev pub mark_of : Bool → ℕ
mark_of true = 33
mark_of false = 63

abbrev pub openView : Bool → ℕ → View
openView true x = view.Opened (Par x)
openView false x = view.Opened (Var x)

abbrev pub openRule : Bool → Rule TyAt
openRule true = Grammar.opened "!" par
openRule false = Grammar.opened "?" var

-- ══ Basic types ══

abbrev pub word_of : Basic → Bytes
word_of Boolean = ascii "Bool"
word_of Text = ascii "String"
word_of Datetime = ascii "DateTime"

abbrev pub basicRule : Basic → Rule TyAt
basicRule Boolean = Grammar.keyword "Bool" boolean
basicRule Text = Grammar.keyword "String" string
basicRule Datetime = Grammar.keyword "DateTime" datetime
