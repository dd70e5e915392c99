-- What follows from the definitions of specs/Places: the records from a place on, and the one that stands at a place.
use Rattle.std.specs.Prelude.{◌≡◌}
use Rattle.std.proofs.Math.Path.{sym, ap₂}
use Rattle.std.proofs.Common.{◌∙◌, add-zero}
use mathlib.Core.List.{List, [], ◌∷◌, ◌++◌}
use Prim.Native.Nat.{ℕ, suc, ◌+◌, ◌*◌, ◌/◌, ◌≤◌, ◌<◌}
use Rattle.std.proofs.Math.Numerals.{add-one, add-two, add-three}
use native.Mathlib.Omega.{arith}
use Rattle.std.proofs.Math.ListN.{length, get_or}
use Rattle.std.proofs.Math.Seq.{slice, slice-cons, slice_empty}
use Rattle.rules.specs.Writing.{Rec, rec, words}
use Rattle.laws.specs.Heads.{length-head}
use Rattle.records.specs.Cut.{fit, cutRec}
use Rattle.records.proofs.Cut.{cut-head}
use Rattle.records.specs.Views.{recOpen, recFactor, recBound, kindOfBasic, bareOf, lengthened, recOf, longOf, from, longAt}
use Rattle.records.specs.declared.Open as names
use Rattle.records.specs.declared.Atom as atoms
use Rattle.records.specs.declared.Basic as basics
use Rattle.records.specs.declared.View.{View}
use Rattle.records.specs.declared.View.TheVariants as view
use Rattle.records.specs.Places.{from-none, first}

-- ══ The record that says a view ══

-- the kind of a record without length
abbrev pub kind_of : Rec → ℕ
kind_of (rec k a b c) = k

open-kind : (o : names.Open) → kind_of (recOpen o) < 65_536
open-kind (names.TheVariants.Var x) = omega arith
open-kind (names.TheVariants.Quant i) = omega arith
open-kind (names.TheVariants.Par x) = omega arith

factor-kind : (f : atoms.Atom) (n d : ℕ) → kind_of (recFactor f n d) < 65_536
factor-kind (atoms.TheVariants.Free (names.TheVariants.Var x)) n d = omega arith
factor-kind (atoms.TheVariants.Free (names.TheVariants.Quant i)) n d = omega arith
factor-kind (atoms.TheVariants.Free (names.TheVariants.Par x)) n d = omega arith
factor-kind (atoms.TheVariants.Base x) n d = omega arith

basic-kind : (b : basics.Basic) → kindOfBasic b < 65_536
basic-kind basics.TheVariants.Boolean = omega arith
basic-kind basics.TheVariants.Text = omega arith
basic-kind basics.TheVariants.Datetime = omega arith

bound-kind : (o : names.Open) → kind_of (recBound o) < 65_536
bound-kind (names.TheVariants.Var x) = omega arith
bound-kind (names.TheVariants.Quant i) = omega arith
bound-kind (names.TheVariants.Par x) = omega arith

pub bare-kind : (v : View) → kind_of (bareOf v) < 65_536
bare-kind (view.Opened o) = open-kind o
bare-kind (view.Basic b) = basic-kind b
bare-kind (view.Dim n) = omega arith
bare-kind (view.Function n) = omega arith
bare-kind (view.Struct x n m) = omega arith
bare-kind view.List = omega arith
bare-kind (view.Field x) = omega arith
bare-kind (view.Factor f n d) = factor-kind f n d
bare-kind view.Equal = omega arith
bare-kind view.IsDim = omega arith
bare-kind view.IsScalar = omega arith
bare-kind (view.HasField x) = omega arith
bare-kind (view.Binding x) = omega arith
bare-kind (view.Bound o) = bound-kind o
bare-kind (view.Scheme n) = omega arith
bare-kind view.Concrete = omega arith
bare-kind view.Bad = omega arith

-- and is cut in its length alone
pub cut-view : (v : View) (n : ℕ) → cutRec (recOf v n) ≡ recOf v (fit n)
cut-view v n = go (bareOf v) (bare-kind v)
  where
    go : (r : Rec) → kind_of r < 65_536 → cutRec (lengthened n r) ≡ lengthened (fit n) r
    go (rec k a b c) h = cut-head k n a b c h

-- the record of a view says its length
pub rec-long : (v : View) (n : ℕ) → longOf (recOf v n) ≡ n
unfolding longOf
rec-long v n = go (bareOf v) (bare-kind v)
  where
    go : (r : Rec) → kind_of r < 65_536 → longOf (lengthened n r) ≡ n
    go (rec k a b c) h = length-head k n h

module _ (s : List ℕ) (at : ℕ) where
  pub long-none : length s / 4 ≤ at → longAt s at ≡ 0
  unfolding longAt
  long-none h = rw (from-none s at h)

module _ (s : List ℕ) where
  -- what is left, past the first of them
  pub past : (a b : List Rec) (at : ℕ) → from s at ≡ a ++ b → b ≡ from s (at + length a)
  past [] b at e = rw (add-zero at) (sym e)
  past (r ∷ a) b at e =
      let q : at + 1 + length a ≡ at + suc (length a) = omega arith in
      rw (← q) (past a b (at + 1) (sym (first s at r (a ++ b) e).rest))

  pub within : (a b : List Rec) (at : ℕ) → at ≤ length s / 4 → from s at ≡ a ++ b → at + length a ≤ length s / 4
  within [] b at h e = omega arith
  within (r ∷ a) b at h e =
      let f = first s at r (a ++ b) e in
      omega (arith, f.inside, within a b (at + 1) (omega (arith, f.inside)) (sym f.rest))

  -- their words
  pub words-from : (a b : List Rec) (at : ℕ) → at ≤ length s / 4 → from s at ≡ a ++ b → slice (at * 4) ((at + length a) * 4) s ≡ words a
  unfolding words
  words-from [] b at h e = rw (add-zero at) (slice_empty (at * 4) s)
  words-from (rec k x y z ∷ a) b at h e =
      let i : ℕ = at * 4 in
      let t : ℕ = (at + suc (length a)) * 4 in
      let f = first s at (rec k x y z) (a ++ b) e in
      let w : t ≤ length s = omega (arith, within (rec k x y z ∷ a) b at h e) in
      let q : (at + 1) * 4 ≡ suc (suc (suc (suc i))) = omega arith in
      let u : at + 1 + length a ≡ at + suc (length a) = omega arith in
      let ih : slice ((at + 1) * 4) ((at + 1 + length a) * 4) s ≡ words a = words-from a b (at + 1) (omega (arith, f.inside)) (sym f.rest) in
      let ih' : slice (suc (suc (suc (suc i)))) t s ≡ words a = rw (q, u) at ih in
      let g : rec (get_or s i 0) (get_or s (i + 1) 0) (get_or s (i + 2) 0) (get_or s (i + 3) 0) ≡ rec k x y z = f.this in
      let e₁ : get_or s i 0 ≡ k = cc in
      let e₂ : get_or s (suc i) 0 ≡ x = rw (← add-one i) (cc) in
      let e₃ : get_or s (suc (suc i)) 0 ≡ y = rw (← add-two i) (cc) in
      let e₄ : get_or s (suc (suc (suc i))) 0 ≡ z = rw (← add-three i) (cc) in
      slice-cons i t s 0 (omega arith) w
      ∙ ap₂ ◌∷◌ e₁ (slice-cons (suc i) t s 0 (omega arith) w
      ∙ ap₂ ◌∷◌ e₂ (slice-cons (suc (suc i)) t s 0 (omega arith) w
      ∙ ap₂ ◌∷◌ e₃ (slice-cons (suc (suc (suc i))) t s 0 (omega arith) w
      ∙ ap₂ ◌∷◌ e₄ ih')))
