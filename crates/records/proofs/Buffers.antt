-- Records that were written to a buffer stand there.
use Rattle.std.specs.Prelude.{◌≡◌, refl, List, [], ◌∷◌, ◌++◌, ℕ, ◌+◌, ◌*◌, ◌/◌, ◌≤◌, length, take, drop}
use Rattle.std.proofs.Common.{ap, ◌∙◌, append_assoc, arith, drop_at, length-take-le}
use Rattle.std.proofs.lemmas.List.Edits.{sets, sets-eq}
use Rattle.rules.specs.Writing.{Rec, rec, words}
pub use Rattle.laws.proofs.Size.{words-length}
use Rattle.records.specs.Views.{recs, from}

-- records, then words, are read back
recs-words : (rs : List Rec) (l : List ℕ) → recs (words rs ++ l) ≡ rs ++ recs l
unfolding words recs
recs-words [] l = refl
recs-words (rec k a b c ∷ rs) l = ap (rec k a b c ∷◌) (recs-words rs l)

-- what was written from `out` on, where it fits
pub stored : (d : List ℕ) (rs : List Rec) (out : ℕ) → out + length rs ≤ length d / 4 → from (sets d (out * 4) (words rs)) out ≡ rs ++ from d (out + length rs)
unfolding from
stored d rs out h =
    let n : length (words rs) ≡ length rs * 4 = words-length rs in
    let k : out * 4 ≤ length d = omega arith in
    let e : (out + length rs) * 4 ≡ out * 4 + length (words rs) = omega arith in
    rw (sets-eq (words rs) d (out * 4) (omega arith), append_assoc (take (out * 4) d) (words rs) (drop (out * 4 + length (words rs)) d), e)
    (ap recs (drop_at (take (out * 4) d) (words rs ++ drop (out * 4 + length (words rs)) d) (out * 4) (length-take-le (out * 4) d k))
    ∙ recs-words rs (drop (out * 4 + length (words rs)) d))
