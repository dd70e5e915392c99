-- The lines of a page below its first, one after another.
use Rattle.std.specs.Prelude.{◌≡◌, refl, List, [], ◌∷◌, ◌++◌, ℕ, ◌+◌, ◌<◌, length, take, drop, get_or, eqb}
use Rattle.std.proofs.Common.{ap, ◌∙◌, arith, append-nil}
use Rattle.std.specs.List.{flat_map, slice_split}
use Rattle.std.proofs.lemmas.Grind.{flat_map-append}
use Rattle.std.proofs.lemmas.List.{take_all, take_more}
use Rattle.rules.specs.Names.{Bytes}
use Rattle.edition_told.specs.Below.{linesBelow, rowOf}

pub one-row : (lines : List Bytes) (i : ℕ) (d : Bytes) → i < length lines → {x : Bytes} → x ≡ get_or lines i d → {mid new : List Bytes}
    → mid ≡ flat_map rowOf (take i lines) → new ≡ mid ++ rowOf x → new ≡ flat_map rowOf (take (i + 1) lines)
one-row lines i d l {x} e a b =
    let one : flat_map rowOf (x ∷ []) ≡ rowOf x = append-nil (rowOf x) in
    b ∙ rw (a, take_more lines i d l, ← e, flat_map-append rowOf (take i lines) (x ∷ []), one) refl

pub all-rows : (page : Bytes) (i : ℕ) → i ≡ length (drop 1 (slice_split (λ b. eqb b 10) page)) → {rows : List Bytes}
    → rows ≡ flat_map rowOf (take i (drop 1 (slice_split (λ b. eqb b 10) page))) → rows ≡ linesBelow page
unfolding linesBelow
all-rows page i e h = h ∙ ap (flat_map rowOf) (take_all i (drop 1 (slice_split (λ b. eqb b 10) page)) (omega (arith, e)))
