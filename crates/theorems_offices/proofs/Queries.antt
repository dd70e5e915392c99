-- Is it well formed, contains, closed, variables: lists that read alike are answered alike.
use Rattle.std.specs.Prelude.{◌≡◌, refl, Bool, List, [], ◌∷◌, ℕ}
use Rattle.std.proofs.Math.Path.{ap}
use Rattle.std.proofs.Common.{ap₂, sym, ◌∙◌}
use Rattle.std.proofs.Math.ListN.{length}
use Rattle.rules.specs.Base.{◌>>◌}
use Rattle.rules.specs.Trees.{Ty, opens}
use Rattle.rules.specs.Names.{Table, table_of, numbersOf, lentTable}
use Rattle.rules.specs.Contents.{closed, containsName, variables}
use Rattle.rules.specs.Calls.{lentResult}
use Rattle.rules.specs.Calls.{aloneGiven, setCall, typeCall, schemeCall, bindingsCall, containsCall, closedCall, variablesCall}
use Rattle.rules.specs.Offices.{Name, byBytes, nameNo, mapTy, ListedAlike}
use Rattle.laws.specs.NameTable.{Good}
use Rattle.laws.proofs.Alike.{both, onward}
use Rattle.theorems_offices.proofs.Both.{equal-answers, checked}
use Rattle.theorems_offices.proofs.Contents.{closed-map, contains-name, variables-map}
use Rattle.theorems_offices.proofs.Naming.{keeps}
use Rattle.theorems_offices.proofs.Results.{listing-alike}
use Rattle.theorems_offices.proofs.Given.{
  Alike,
  as_long,
  short,
  kept-alike,
  lent-table,
  constraints-given,
  lent-result,
  type-given,
  scheme-given,
  bindings-given,
  numbers-given,
  apart-alike,
  opens-alike,
}

module _ {pool table pool' table' : List ℕ} (good : Good pool table) (good' : Good pool' table') where
  -- the two tables, and the names of their numbers
  abbrev T₁ : Table
  T₁ = table_of pool table

  abbrev T₂ : Table
  T₂ = table_of pool' table'

  abbrev ν₁ : ℕ → Name
  ν₁ = nameNo T₁

  abbrev ν₂ : ℕ → Name
  ν₂ = nameNo T₂

  pub alone : (ws ws' : List ℕ) → Alike good good' ws ws' → aloneGiven pool table ws ≡ aloneGiven pool' table' ws'
  unfolding aloneGiven
  alone ws ws' e = rw (lent-table good good', short (ws ∷ []) (ws' ∷ []) (rw (as_long e)), kept-alike good good')

  pub set-alike : (ws ws' : List ℕ) → Alike good good' ws ws' → setCall pool table ws ≡ setCall pool' table' ws'
  unfolding setCall
  set-alike ws ws' e = equal-answers (onward _ _ (checked (alone ws ws' e) (constraints-given good good' ws ws' e)) (λ a b i. both refl))

  pub type-alike : (ws ws' : List ℕ) → Alike good good' ws ws' → typeCall pool table ws ≡ typeCall pool' table' ws'
  unfolding typeCall
  type-alike ws ws' e = equal-answers (onward _ _ (checked (alone ws ws' e) (type-given good good' ws ws' e)) (λ a b i. both refl))

  pub scheme-alike : (ws ws' : List ℕ) → Alike good good' ws ws' → schemeCall pool table ws ≡ schemeCall pool' table' ws'
  unfolding schemeCall
  scheme-alike ws ws' e = equal-answers (onward _ _ (checked (alone ws ws' e) (scheme-given good good' ws ws' e)) (λ a b i. both refl))

  pub bindings-alike : (ws ws' : List ℕ) → Alike good good' ws ws' → bindingsCall pool table ws ≡ bindingsCall pool' table' ws'
  unfolding bindingsCall
  bindings-alike ws ws' e = equal-answers (onward _ _ (checked (alone ws ws' e) (bindings-given good good' ws ws' e)) (λ a b i. both refl))

  contained : (b : Bool) (x x' : ℕ) (u u' : Ty ℕ) → ν₁ x ≡ ν₂ x' → mapTy ν₁ u ≡ mapTy ν₂ u'
      → containsName (numbersOf T₁) b x u ≡ containsName (numbersOf T₂) b x' u'
  contained b x x' u u' e f = sym (contains-name _ byBytes ν₁ (keeps good) b x u) ∙ ap₂ (λ (y : Name) (v : Ty Name). containsName byBytes b y v) e f
      ∙ contains-name _ byBytes ν₂ (keeps good') b x' u'

  pub contains-alike : (ws ws' : List ℕ) (x x' : ℕ) (b : Bool) → Alike good good' ws ws' → ν₁ x ≡ ν₂ x'
      → containsCall pool table ws x b ≡ containsCall pool' table' ws' x' b
  unfolding containsCall
  contains-alike ws ws' x x' b e f = equal-answers (checked (alone ws ws' e) (onward _ _ (type-given good good' ws ws' e) (λ u u' i.
      checked (numbers-given good good' (x ∷ []) (x' ∷ []) (rw f))
      (checked (apart-alike good good' (opens u) (opens u') (opens-alike good good' u u' i)) (both (contained b x x' u u' f i))))))

  pub closed-alike : (ws ws' : List ℕ) → Alike good good' ws ws' → closedCall pool table ws ≡ closedCall pool' table' ws'
  unfolding closedCall
  closed-alike ws ws' e = equal-answers (checked (alone ws ws' e) (onward _ _ (type-given good good' ws ws' e) (λ u u' i.
      checked (apart-alike good good' (opens u) (opens u') (opens-alike good good' u u' i)) (both (sym (closed-map ν₁ u) ∙ ap closed i ∙ closed-map ν₂ u')))))

  pub variables-alike : (ws ws' : List ℕ) (b : Bool) (result result' : List ℕ) → Alike good good' ws ws' → length result ≡ length result'
      → ListedAlike T₁ T₂ (variablesCall pool table ws b result) (variablesCall pool' table' ws' b result')
  unfolding variablesCall
  variables-alike ws ws' b result result' e r = listing-alike T₁ T₂ _ _ result result'
      (checked (checks r) (checked (alone ws ws' e) (onward _ _ (type-given good good' ws ws' e) (λ u u' i.
      checked (apart-alike good good' (opens u) (opens u') (opens-alike good good' u u' i))
      (both (sym (variables-map _ byBytes ν₁ (keeps good) b u) ∙ ap (variables byBytes b) i ∙ variables-map _ byBytes ν₂ (keeps good') b u'))))))
    where
      checks : length result ≡ length result' → (lentTable pool table >> lentResult result) ≡ (lentTable pool' table' >> lentResult result')
      checks r = rw (lent-table good good', lent-result result result' r)
