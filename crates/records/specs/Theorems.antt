-- What is proved of the calls by themselves. The functions of src/theorems.rt promise these statements.
use Rattle.std.specs.Prelude.{◌≡◌, List, ℕ, Result}
use Rattle.rules.specs.Base.{Got}
use Rattle.rules.specs.Calls.{aloneGiven, setCall, typeCall, schemeCall, bindingsCall}
use Rattle.rules.specs.Numbers.{checked, number}
use Rattle.rules.specs.Refusals.{told, numberAnswer}
use Rattle.rules.specs.Writing.{Rec}
use Rattle.rules.specs.declared.Refusal.{Refusal}
use Rattle.names.specs.Theorems.{OneAnswer}
use Rattle.records.specs.declared.View.{View}
use Rattle.records.specs.declared.Words.{Words}
use Rattle.records.specs.Cut.{fit}
use Rattle.records.specs.Views.{toldWords, bareOf, recOf}

-- two results that a clause `toldWords result ≡ r` allows are the same
abbrev pub OneRecord : Rec → Type 0
OneRecord r = (p q : Words) → toldWords p ≡ r → toldWords q ≡ r → p ≡ q

-- what a clause `told result ≡ g` allows has the number of that outcome: 0, or that of the refusal
abbrev pub NumberedAs : Got (Unit {0}) → Type 0
NumberedAs g = (p : Result (Unit {0}) Refusal) → told p ≡ g → numberAnswer p ≡ number (checked g)

pub record CallsDetermined : Type 0 where
  pub entering : (pool table words : List ℕ) → OneAnswer (aloneGiven pool table words)
  pub sets : (pool table words : List ℕ) → OneAnswer (setCall pool table words)
  pub types : (pool table words : List ℕ) → OneAnswer (typeCall pool table words)
  pub schemes : (pool table words : List ℕ) → OneAnswer (schemeCall pool table words)
  pub bindings : (pool table words : List ℕ) → OneAnswer (bindingsCall pool table words)
  -- `words_of` and `record_of`
  pub bare : (v : View) → OneRecord (bareOf v)
  pub whole : (v : View) (n : ℕ) → OneRecord (recOf v (fit n))

pub record CallsNumbered : Type 0 where
  pub entering : (pool table words : List ℕ) → NumberedAs (aloneGiven pool table words)
  pub sets : (pool table words : List ℕ) → NumberedAs (setCall pool table words)
  pub types : (pool table words : List ℕ) → NumberedAs (typeCall pool table words)
  pub schemes : (pool table words : List ℕ) → NumberedAs (schemeCall pool table words)
  pub bindings : (pool table words : List ℕ) → NumberedAs (bindingsCall pool table words)
