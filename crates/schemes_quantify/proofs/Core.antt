-- What follows from the definitions of specs/Core: a scheme that was written from the start of the work buffer is what quantifying makes, or it is too long.
use Rattle.std.specs.Prelude.{Ok, Err, ◌≡◌, min}
use Rattle.std.proofs.Common.{subst, ◌∙◌}
use Rattle.std.proofs.Math.Path.{ap}
use mathlib.Core.List.{List, ◌∷◌, ◌++◌, map}
use Prim.Native.Nat.{ℕ, suc, ◌+◌, ◌*◌, ◌≤◌, ◌<◌}
use native.Mathlib.Omega.{arith}
use Rattle.std.proofs.Math.ListN.{length, length-append, length-map}
use Rattle.std.proofs.Math.Seq.{sets}
use Rattle.rules.specs.Base.{Got, got}
use Rattle.rules.specs.Schemes.{scheme, schemeLimited}
use Rattle.rules.specs.Trees.{Open, Ty, size, depth}
use Rattle.rules.specs.Writing.{Rec, words, writeTy, writeBound, writeScheme}
use Rattle.rules.specs.declared.Refusal.TheVariants.{TooLarge}
use Rattle.laws.proofs.Size.{size-ty}
use Rattle.laws.proofs.Sized.{sized-kept, sized-long}
use Rattle.records.specs.Cut.{fit, cut}
use Rattle.records.proofs.Cut.{fits, cut-length, short-ty}
use Rattle.records.specs.Views.{recOf}
use Rattle.records.specs.declared.View.TheVariants as view
use Rattle.types.specs.declared.writer.Writer.{Writer}
use Rattle.types.specs.Written.{last, Writes, Reserves, Begins}
use Rattle.types.proofs.Written.{writes-then, part-writes}
use Rattle.records_buffers.proofs.Handed.{made-refused, made-records}
use Rattle.records_buffers.specs.Told.{Made}
use Rattle.schemes_quantify.specs.Core.{limitedScheme}

-- made: these records behind a writer that begins at the start
pub made-writes : (m : Got (List Rec)) (rs : List Rec) {w w' : Writer} (n : ℕ) → m ≡ got rs → w.at ≡ 0 → 16384 ≤ length w.words.now → Writes w w' rs
    → n ≡ length rs → n ≤ 2048
    → Made m w'.words.now (Ok n)
made-writes m rs {w} {w'} n e z room p l le =
    let b : w'.words.now ≡ sets w.words.now 0 (words rs) =
    subst (λ (k : ℕ). w'.words.now ≡ sets w.words.now (k * 4) (words rs)) z (p.words (omega (arith, z, l))) in
    made-records m rs w.words.now w'.words.now n e room b l le

module _ (n : ℕ) (bs : List (Open ℕ)) where
  scheme-length : (u : Ty ℕ) → length (writeScheme (scheme n u bs)) ≡ 1 + (size u + length bs)
  unfolding writeScheme
  scheme-length u =
      let a = length-append (writeTy u) (map writeBound bs) in
      let b = length-map bs writeBound in
      let c = size-ty u in
      omega arith

  module _ (R : Got (Ty ℕ)) (u : Ty ℕ) (e : R ≡ got u) (flat : depth u ≤ 64) where
    pub too_long : (w : List ℕ) → 2048 < 1 + (size u + length bs) → Made (limitedScheme n bs R) w (Err TooLarge)
    unfolding schemeLimited
    too_long w h = made-refused TooLarge (rw (e, sized-long (1 + (size u + length bs)) (depth u) (scheme n u bs) h))

    -- how far they go
    pub past : {w w₁ w₂ w₃ : Writer} {start : ℕ} → w.at ≡ 0 → Reserves w w₁ start → Writes w₁ w₂ (cut (writeTy u)) → Writes w₂ w₃ (map writeBound bs)
        → min w₃.at last ≡ min (1 + (size u + length bs)) last
    past z r p q = omega (arith, z, r.at, p.at, q.at, cut-length (writeTy u), size-ty u, length-map bs writeBound)

    -- room for the head was left, the type and the bounds were written behind it, then the head, which says how many they are
    pub made-scheme : {w w₁ w₂ w₃ w₄ : Writer} {start : ℕ} → w.at ≡ 0 → 16384 ≤ length w.words.now → Reserves w w₁ start → Writes w₁ w₂ (cut (writeTy u))
        → Writes w₂ w₃ (map writeBound bs) → w₃.at ≤ 2048 → Begins w₃ w₄ start (view.Scheme n) → Made (limitedScheme n bs R) w₄.words.now (Ok w₃.at)
    unfolding schemeLimited writeScheme
    made-scheme {w} {w₁} {w₂} {w₃} {w₄} z room r p q le b =
        let k = past z r p q in
        let many : w₃.at ≡ 1 + (size u + length bs) = omega (arith, k, le) in
        let rs : List Rec = writeTy u ++ map writeBound bs in
        let t : Writes w₁ w₂ (writeTy u) = subst (Writes w₁ w₂) (short-ty u (omega (arith, many, le))) p in
        let l : suc (length rs) ≡ suc (size u + length bs) = omega
        (arith, length-append (writeTy u) (map writeBound bs), length-map bs writeBound, size-ty u) in
        let f : fit (suc (length rs)) ≡ suc (size u + length bs) = ap fit l ∙ fits (suc (size u + length bs)) (omega (arith, many, le)) in
        let all : Writes w w₄ (recOf (view.Scheme n) (fit (suc (length rs))) ∷ rs) =
        part-writes (view.Scheme n) rs r (writes-then (writeTy u) (map writeBound bs) t q) b in
        made-writes (limitedScheme n bs R) (writeScheme (scheme n u bs)) w₃.at
        (rw (e, sized-kept (1 + (size u + length bs)) (depth u) (scheme n u bs) (omega (arith, many, le)) flat)) z room
        (subst (λ (m : ℕ). Writes w w₄ (recOf (view.Scheme n) m ∷ rs)) f all) (omega (arith, many, scheme-length u)) le
