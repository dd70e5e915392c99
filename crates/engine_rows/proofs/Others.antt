-- Records that name no base dimension.
use Rattle.std.specs.Prelude.{◌≡◌, refl, [], ℕ}
use Rattle.records.specs.declared.Atom.{Atom}
use Rattle.records.specs.declared.View.{View}
use Rattle.records.specs.declared.View.TheVariants as view
use Rattle.engine_rows.specs.Columns.{basesView}

pub unfactor : (v : View) → ((a : Atom) (n d : ℕ) → v ≡ view.Factor a n d → ⊥) → [] ≡ basesView v
unfactor (view.Opened o) f = refl
unfactor (view.Basic b) f = refl
unfactor (view.Dim n) f = refl
unfactor (view.Function n) f = refl
unfactor (view.Struct x n m) f = refl
unfactor view.List f = refl
unfactor (view.Field x) f = refl
unfactor (view.Factor a n d) f = absurd (f a n d refl)
unfactor view.Equal f = refl
unfactor view.IsDim f = refl
unfactor view.IsScalar f = refl
unfactor (view.HasField x) f = refl
unfactor (view.Binding x) f = refl
unfactor (view.Bound o) f = refl
unfactor (view.Scheme n) f = refl
unfactor view.Concrete f = refl
unfactor view.Bad f = refl
