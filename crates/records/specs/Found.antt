-- What is read at a place is held there.
use Rattle.std.specs.Prelude.{◌≡◌, get_or}
use Rattle.std.proofs.Math.Path.{ap}
use Rattle.std.proofs.Common.{◌∙◌}
use mathlib.Core.List.{List, ◌∷◌}
use Prim.Native.Nat.{ℕ, suc, ◌+◌, ◌/◌, ◌≤◌, ◌<◌}
use native.Mathlib.Omega.{arith}
use Rattle.std.proofs.Math.ListN.{length}
use Rattle.rules.specs.Writing.{Rec, rec, kindIn, lengthIn}
use Rattle.rules.specs.Reading.{Reader, next}
use Rattle.laws.specs.Written.{Reads, lasting-read}
use Rattle.records.specs.Views.{shape_of, view_of, longOf, longAt, from}
use Rattle.records.specs.Places.{from-length, first}
use Rattle.records.specs.Holds.{Shows, Long}
use Rattle.records.specs.declared.View.{View}

-- words of 32 bits
pub record Words32 (s : List ℕ) : Type 0 where
  pub word : (i : ℕ) → get_or s i 0 < 4_294_967_296

module _ (s : List ℕ) where
  -- the record at a place, seen by its words
  pub here : (at u a b c : ℕ) (rs : List Rec) {v : View} → from s at ≡ rec u a b c ∷ rs → shape_of (kindIn u) a b c ≡ v → Shows s at v × (rs ≡ from s (at + 1))
  unfolding view_of
  here at u a b c rs e q = let f = first s at (rec u a b c) rs e in (f.view ∙ q, f.rest)

  -- a part of n records was read there, and lasts as long as it says
  pub long-found : (at u a b c n : ℕ) (rs rest : List Rec) → from s at ≡ rec u a b c ∷ rs → lengthIn u + length rest ≡ suc (length rs)
      → rest ≡ from s (at + n) → at + n ≤ length s / 4 → Long s at n
  unfolding longOf
  long-found at u a b c n rs rest e l q h =
      let f = first s at (rec u a b c) rs e in
      let m : longAt s at ≡ lengthIn u = f.long in
      let x : length rest ≡ length (from s (at + n)) = ap length q in
      let y : length rs ≡ length (from s (at + 1)) = ap length f.rest in
      let i : at < length s / 4 = f.inside in
      m ∙ omega (arith, l, x, y, from-length s (at + n) h, from-length s (at + 1) (omega arith))

  -- by its first record
  pub by_next : {A : Type 0} {P Q : A → List Rec → Type 0} (f : ℕ → ℕ → ℕ → ℕ → Reader A) (u a b c : ℕ) (rs : List Rec) → Reads (f (kindIn u) a b c rs) P
      → ((x : A) (rest : List Rec) → P x rest → lengthIn u + length rest ≡ suc (length rs) → Q x rest) → Reads (next f (rec u a b c ∷ rs)) Q
  by_next f u a b c rs h k =
      record { holds = λ x rest e. let i = (lasting-read (lengthIn u) (suc (length rs)) (f (kindIn u) a b c rs) h).holds x rest e in k x rest i.0 i.1 }
