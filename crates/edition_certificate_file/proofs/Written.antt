-- Text written in a loop: a piece for each item, behind what was there.
use Rattle.std.proofs.Common.{◌≡◌, sym, ap, ◌∙◌, ◌++◌, ◌∷◌, [], ◌+◌, ◌<◌, List, ℕ, length, take, get_or, append-nil, append_assoc, add-one, take-suc}
use Rattle.rules.specs.Base.{collect}
use Rattle.rules.specs.Names.{Bytes}
use Rattle.laws.proofs.Contents.{collect-append}

module _ {A : Type 0} (f : A → Bytes) (xs : List A) (old : Bytes) where
  pub none : old ≡ old ++ collect f []
  unfolding collect
  none = sym (append-nil old)

  more : (i : ℕ) (d : A) → i < length xs → collect f (take (i + 1) xs) ≡ collect f (take i xs) ++ f (get_or xs i d)
  unfolding collect
  more i d h = rw (add-one i, take-suc xs i d h) (collect-append f (take i xs) (get_or xs i d ∷ [])
      ∙ ap (collect f (take i xs) ++◌) (append-nil (f (get_or xs i d))))

  pub one-more : {mid new : Bytes} {x : A} (i : ℕ) (d : A) → i < length xs → x ≡ get_or xs i d → mid ≡ old ++ collect f (take i xs) → new ≡ mid ++ f x
      → new ≡ old ++ collect f (take (i + 1) xs)
  one-more {x = x} i d h e a b =
      b ∙ ap (λ (m : Bytes). m ++ f x) a ∙ append_assoc old (collect f (take i xs)) (f x) ∙ ap (λ (z : A). old ++ (collect f (take i xs) ++ f z)) e
      ∙ ap (old ++◌) (sym (more i d h))
