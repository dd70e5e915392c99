-- A text with one byte more.
use Rattle.std.specs.Prelude.{◌≡◌, [], ◌∷◌, ◌++◌, ℕ, zero, suc, ◌+◌, ◌≤◌, ◌<◌, take, get_or, length, Ok}
use Rattle.std.proofs.Common.{ap, ◌∙◌, append-nil, add-one, take-suc, length-append, arith}
use Rattle.rules.specs.Base.{collect}
use Rattle.rules.specs.Names.{Bytes}
use Rattle.laws.proofs.Contents.{collect-append}
use Rattle.text_spell.specs.Sinks.{Place, Puts}
use Rattle.text_spell.proofs.Sinks.{nothing}

module _ (f : ℕ → Bytes) where
  pub more : (t : Bytes) (i : ℕ) → i < length t → collect f (take (i + 1) t) ≡ collect f (take i t) ++ f (get_or t i 0)
  unfolding collect
  more t i h = rw (add-one i, take-suc t i 0 h)
      (collect-append f (take i t) (get_or t i 0 ∷ []) ∙ ap (collect f (take i t) ++◌) (append-nil (f (get_or t i 0))))

  pub none : {E : Type 0} (p : Place) → Puts {E = E} p (collect f []) (Ok tt) p
  unfolding collect
  none p = nothing p

  part : (j : ℕ) (t : Bytes) → length (collect f (take j t)) ≤ length (collect f t)
  unfolding collect
  part zero t = omega arith
  part (suc j) [] = omega arith
  part (suc j) (b ∷ t) = simp length-append (omega (arith, part j t))

  pub short : (t : Bytes) (i : ℕ) → i < length t → length (collect f (take i t) ++ f (get_or t i 0)) ≤ length (collect f t)
  short t i h = let e = ap length (more t i h) in omega (arith, e, part (i + 1) t)
