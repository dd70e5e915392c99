-- Parts one after another, each of which passed its test.
use Rattle.std.specs.Prelude.{◌≡◌, refl, Bool, true, List, [], ◌∷◌, ℕ, ◌+◌}
use Rattle.std.proofs.Common.{sym, ◌∙◌, add-zero, arith}
use Rattle.rules.specs.Base.{all, sum_of}
use Rattle.laws.proofs.Lists.{and_both}
use Rattle.records.specs.Good.{Chain}

-- they are held up to an end, and good
pub record Row {A : Type 0} (Held : List A → ℕ → Type 0) (long : A → ℕ) (good : A → Bool) (end at : ℕ) (as' : List A) : Type 0 where
  pub held : Held as' at
  pub ends : end ≡ at + sum_of long as'
  pub right : all good as' ≡ true

module _ {A : Type 0} (Held : List A → ℕ → Type 0) (long : A → ℕ) (good : A → Bool) (P : ℕ → A → ℕ → Type 0) (none : (at : ℕ) → Held [] at)
    (more : (at : ℕ) (a : A) (e : ℕ) (as' : List A) → P at a e → Held as' e → Held (a ∷ as') at)
    (each : (at : ℕ) (a : A) (e : ℕ) → P at a e → (e ≡ at + long a) × (good a ≡ true)) where
  pub row : (end at : ℕ) (as' : List A) → Chain P end as' at → Row Held long good end at as'
  unfolding all
  row end at [] c = record { held = none at; ends = sym c ∙ sym (add-zero at); right = refl }
  row end at (a ∷ as') (e, (p, k)) =
      let g = each at a e p in
      let r = row end e as' k in
      record { held = more at a e as' p r.held; ends = omega (arith, r.ends, g.0); right = and_both g.1 r.right }
