-- Bytes as they are shown, and blanks under them, one byte after another.
use Rattle.std.proofs.Common.{◌≡◌, refl, ◌++◌, ◌∷◌, [], ◌+◌, ◌-◌, ◌<◌, ◌≤◌, ℕ, zero, suc}
use Rattle.std.proofs.Common.{map, take, get_or, length, ap, ◌∙◌, append-nil, add-one, take-suc, length-append, arith}
use Rattle.std.specs.Prelude.{Ok}
use Rattle.std.proofs.lemmas.List.{map-append}
use Rattle.rules.specs.Base.{collect}
use Rattle.rules.specs.Names.{Bytes}
use Rattle.laws.proofs.Contents.{collect-append}
use Rattle.rules.specs.Reports.{firstShown, partShown, markShown, lineShown, room, shown}
use Rattle.text_spell.specs.Sinks.{Place, Puts}
use Rattle.text_spell.proofs.Sinks.{nothing}

-- ══ Bytes as they are shown ══

pub shown_more : (t : Bytes) (i : ℕ) → i < length t → map shown (take (i + 1) t) ≡ map shown (take i t) ++ (shown (get_or t i 0) ∷ [])
shown_more t i h = rw (add-one i, take-suc t i 0 h) (map-append shown (take i t) (get_or t i 0 ∷ []))

shown_part : (j : ℕ) (t : Bytes) → length (map shown (take j t)) ≤ length (map shown t)
shown_part zero t = omega arith
shown_part (suc j) [] = omega arith
shown_part (suc j) (b ∷ t) = omega (arith, shown_part j t)

pub shown_short : (t : Bytes) (i : ℕ) → i < length t → length (map shown (take i t) ++ (shown (get_or t i 0) ∷ [])) ≤ length (map shown t)
shown_short t i h = let e = ap length (shown_more t i h) in omega (arith, e, shown_part (i + 1) t)

-- ══ Blanks under bytes ══

pub rooms_more : (t : Bytes) (i : ℕ) → i < length t → collect room (take (i + 1) t) ≡ collect room (take i t) ++ room (get_or t i 0)
unfolding collect
rooms_more t i h = rw (add-one i, take-suc t i 0 h) (collect-append room (take i t) (get_or t i 0 ∷ [])
    ∙ ap (collect room (take i t) ++◌) (append-nil (room (get_or t i 0))))

pub no_rooms : {E : Type 0} (p : Place) → Puts {E = E} p (collect room []) (Ok tt) p
unfolding collect
no_rooms p = nothing p

rooms_part : (j : ℕ) (t : Bytes) → length (collect room (take j t)) ≤ length (collect room t)
unfolding collect
rooms_part zero t = omega arith
rooms_part (suc j) [] = omega arith
rooms_part (suc j) (b ∷ t) = simp length-append (omega (arith, rooms_part j t))

pub rooms_short : (t : Bytes) (i : ℕ) → i < length t → length (collect room (take i t) ++ room (get_or t i 0)) ≤ length (collect room t)
rooms_short t i h = let e = ap length (rooms_more t i h) in omega (arith, e, rooms_part (i + 1) t)

-- ══ A line with a mark ══

pub line_is : (column first before : ℕ) (line : Bytes) → first ≡ firstShown column → before ≡ column - 1 - first
    → lineShown column line ≡ partShown first line ++ markShown first before line
unfolding lineShown
line_is column first before line e i = rw (i, e) refl
