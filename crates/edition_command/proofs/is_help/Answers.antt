use Rattle.std.proofs.Common.{◌≡◌, Bool, true, false, ℕ, List, refl, codes}
use Rattle.std.specs.Str.{bytes_eq}
use Rattle.std.proofs.lemmas.Slice.Eq.{bytes_eq-Decides}
use Rattle.edition_command.specs.Promise.{isHelp}
use Rattle.edition_command.proofs.is_help.Goals as goal

false-otherwise : (b : Bool) → ¬ (b ≡ true) → b ≡ false
false-otherwise false h = refl
false-otherwise true h = absurd (h refl)

differs : (word text : List ℕ) → ¬ (word ≡ text) → bytes_eq word text ≡ false
differs word text h = false-otherwise (bytes_eq word text) (λ e. h ((bytes_eq-Decides word text).0 e))

pub returns-in_default : goal.returns-in_default
unfolding isHelp
returns-in_default c = let word = c.args.word.now in
    let other = c.in_default in
    rw (
      differs word (codes "-h") other.not-text,
      differs word (codes "--help") other.not-text-2,
      differs word (codes "-V") other.not-text-3,
      differs word (codes "--version") other.not-text-4,
    ) refl
