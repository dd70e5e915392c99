-- The other arms of a match on a view.
use Rattle.std.specs.Prelude.{◌≡◌, refl, [], ℕ}
use Rattle.records.specs.declared.Atom.{Atom}
use Rattle.records.specs.declared.Open.{Open}
use Rattle.records.specs.declared.View.{View}
use Rattle.records.specs.declared.View.TheVariants as view
use Rattle.lines_entry.specs.Used.{namesView}

-- the records without a name
pub none_named : (v : View) → ((o : Open) → v ≡ view.Opened o → ⊥) → ((x n m : ℕ) → v ≡ view.Struct x n m → ⊥) → ((x : ℕ) → v ≡ view.Field x → ⊥)
    → ((a : Atom) (n d : ℕ) → v ≡ view.Factor a n d → ⊥) → namesView v ≡ []
none_named (view.Opened o) p q r s = absurd (p o refl)
none_named (view.Basic b) p q r s = refl
none_named (view.Dim n) p q r s = refl
none_named (view.Function n) p q r s = refl
none_named (view.Struct x n m) p q r s = absurd (q x n m refl)
none_named view.List p q r s = refl
none_named (view.Field x) p q r s = absurd (r x refl)
none_named (view.Factor a n d) p q r s = absurd (s a n d refl)
none_named view.Equal p q r s = refl
none_named view.IsDim p q r s = refl
none_named view.IsScalar p q r s = refl
none_named (view.HasField x) p q r s = refl
none_named (view.Binding x) p q r s = refl
none_named (view.Bound o) p q r s = refl
none_named (view.Scheme n) p q r s = refl
none_named view.Concrete p q r s = refl
none_named view.Bad p q r s = refl
