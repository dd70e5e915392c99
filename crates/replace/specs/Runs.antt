-- A run of bindings in a part of a list of words, and what a variable is bound to there.
use Rattle.std.proofs.Math.Path.{◌≡◌, refl}
use Rattle.std.proofs.Common.{sym, ap, subst, ◌∙◌}
use Rattle.std.specs.Prelude as std
use Rattle.std.specs.Prelude.{None, Some}
use mathlib.Core.List.{List}
use Rattle.std.proofs.Math.Option.{Option, none, some}
use Prim.Native.Nat.{ℕ, ◌+◌}
use native.Mathlib.Omega.{arith}
use Rattle.rules.specs.Trees.{Ty, size}
use Rattle.records.specs.Holds.{Holds}

-- the places of a type that was found, from its first record up to its end
abbrev pub Found : Type 0
Found = std.Option (ℕ × ℕ)

-- where the type stands that was found
pub record Bound (v : List ℕ) (t : Ty ℕ) (r : Found) : Type 0 where
  pub place : ℕ
  pub is : r ≡ Some (place, place + size t)
  pub held : Holds v t place

abbrev pub LookedUp : List ℕ → Option (Ty ℕ) → Found → Type 0
LookedUp v none r = r ≡ None
LookedUp v (some t) r = Bound v t r

-- two places are two places, each for itself
pub two : {a b c d : ℕ} → ◌≡◌ {A = ℕ × ℕ} (a, b) (c, d) → (a ≡ c) × (b ≡ d)
two e = (ap (λ (x : ℕ × ℕ). x.0) e, ap (λ (x : ℕ × ℕ). x.1) e)

-- what is at the places that were found
pub record FoundAt (v : List ℕ) (o : Option (Ty ℕ)) (i j : ℕ) : Type 0 where
  pub type : Ty ℕ
  pub is : o ≡ some type
  pub held : Holds v type i
  pub ends : j ≡ i + size type

pub found : {v : List ℕ} (o : Option (Ty ℕ)) {r : Found} {i j : ℕ} → LookedUp v o r → r ≡ Some (i, j) → FoundAt v o i j
found none h e = absurd (cc)
found {v} (some t) {r} {i} {j} h e =
    let q : ◌≡◌ {A = Found} (Some (h.place, h.place + size t)) (Some (i, j)) = sym h.is ∙ e in
    let o : ◌≡◌ {A = ℕ × ℕ} (h.place, h.place + size t) (i, j) = cc in
    let p : h.place ≡ i = (two o).0 in
    let k : h.place + size t ≡ j = (two o).1 in
    record { type = t; is = refl; held = subst (Holds v t) p h.held; ends = omega arith }
