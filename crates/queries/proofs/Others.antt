-- What the records and the options that the code reads say.
use mathlib.Core.Path.{◌≡◌, refl, sym, ◌∙◌}
use mathlib.Core.Bool.{Bool, true, false, or-false}
use mathlib.Core.List.{List, []}
use Prim.Native.Nat.{ℕ, ◌+◌, ◌<◌}
use borrow.Author.Tests.{eqb-true, eqb-false, eq-eqb, ne_eqb}
use lib.Dec.{eqb}
use Rattle.std.specs.Prelude.{Option, Some, None, option_to_list}
use Rattle.std.specs.Option.{is_some, option_eq}
use Rattle.rules.specs.Base.{any, isNil}
use Rattle.laws.proofs.Lists.{true≢false}
use Rattle.records.specs.Holds.{openOf}
use Rattle.records.specs.Views.{viewAt}
use Rattle.records.specs.declared.Atom as atoms
use Rattle.records.specs.declared.Open as code
use Rattle.records.specs.declared.View.{View}
use Rattle.records.specs.declared.View.TheVariants as view
use Rattle.queries.specs.Scans.{toldOpens, opensView, opensIn}
use Rattle.queries.proofs.ScanLaws.{nil-hit, nil-miss}

-- no open name stands in a record that is no open type, no factor and no binding
module _ (v : View) (opened : (o : code.Open) → v ≡ view.Opened o → ⊥) (factor : (a : atoms.Atom) (n d : ℕ) → v ≡ view.Factor a n d → ⊥)
    (binding : (x : ℕ) → v ≡ view.Binding x → ⊥) where
  others : (u : View) → v ≡ u → opensView u ≡ []
  others (view.Opened o) e = absurd (opened o e)
  others (view.Basic b) e = refl
  others (view.Dim n) e = refl
  others (view.Function n) e = refl
  others (view.Struct x n m) e = refl
  others view.List e = refl
  others (view.Field x) e = refl
  others (view.Factor a n d) e = absurd (factor a n d e)
  others view.Equal e = refl
  others view.IsDim e = refl
  others view.IsScalar e = refl
  others (view.HasField x) e = refl
  others (view.Binding x) e = absurd (binding x e)
  others (view.Bound o) e = refl
  others (view.Scheme n) e = refl
  others view.Concrete e = refl
  others view.Bad e = refl

  pub none-opened : opensView v ≡ []
  none-opened = others v refl

-- whether a name was found, and whether it is x
turned : (x y : ℕ) → eqb x y ≡ eqb y x
turned x y = go (eqb y x) refl
  where
    go : (b : Bool) → eqb y x ≡ b → eqb x y ≡ b
    go true e = eq-eqb x y (sym (eqb-true y x e))
    go false e = ne_eqb x y (λ q. eqb-false y x e (sym q))

pub name-is : (x : ℕ) (n : Option ℕ) → any (eqb x) (option_to_list n) ≡ option_eq eqb n (Some x)
unfolding any
name-is x None = refl
name-is x (Some y) = or-false (eqb x y) ∙ turned x y

-- whether the record at i has an open name
module _ (s : List ℕ) (i e : ℕ) (h : i < e) where
  pub open-here : (o : Option code.Open) → toldOpens o ≡ opensView (viewAt s i) → true ≡ is_some o → isNil (opensIn s i e) ≡ false
  open-here None q t = absurd (true≢false t)
  open-here (Some o) q t = nil-hit s i e h (openOf o) q

  pub none-here : (o : Option code.Open) → toldOpens o ≡ opensView (viewAt s i) → false ≡ is_some o → isNil (opensIn s i e) ≡ isNil (opensIn s (i + 1) e)
  none-here None q t = nil-miss s i e h q
  none-here (Some o) q t = absurd (true≢false (sym t))
