-- Texts of the items of a list, one after another: those of the first i, the next one, and the rest.
use Rattle.std.specs.Prelude.{◌≡◌, List, [], ◌∷◌, ◌++◌, ℕ, suc, ◌+◌, ◌<◌, length, take, drop, get_or}
use Rattle.std.proofs.Common.{sym, ap, ◌∙◌, add-one, append-nil, drop-cons, take-suc}
use Rattle.std.proofs.lemmas.List.{take-append-drop}
use Rattle.rules.specs.Base.{collect}
use Rattle.rules.specs.Names.{Bytes}
use Rattle.laws.proofs.Contents.{collect-append}

module _ {A : Type 0} (f : A → Bytes) (xs : List A) (i : ℕ) (d : A) (l : i < length xs) where
  pub each-more : collect f (take (i + 1) xs) ≡ collect f (take i xs) ++ f (get_or xs i d)
  unfolding collect
  each-more = rw (add-one i, take-suc xs i d l)
      (collect-append f (take i xs) (get_or xs i d ∷ []) ∙ ap (collect f (take i xs) ++◌) (append-nil (f (get_or xs i d))))

  split : xs ≡ take i xs ++ (get_or xs i d ∷ drop (suc i) xs)
  split = sym (take-append-drop i xs) ∙ ap (take i xs ++◌) (drop-cons xs i d l)

  pub each-rest : collect f xs ≡ collect f (take i xs) ++ (f (get_or xs i d) ++ collect f (drop (suc i) xs))
  unfolding collect
  each-rest = ap (collect f) split ∙ collect-append f (take i xs) (get_or xs i d ∷ drop (suc i) xs)
