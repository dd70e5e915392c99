-- Solving with other names in the set: the same rounds, and the same answer with other names in it.
use Rattle.std.specs.Prelude.{◌≡◌}
use Rattle.std.proofs.Math.Path.{refl}
use Rattle.std.proofs.Math.Option.{Option, none, some}
use mathlib.Core.List.{List, [], ◌∷◌, map}
use Prim.Native.Nat.{ℕ, zero, suc}
use Rattle.rules.specs.Base.{Got, got, refused, Limits, keep, collect, to_list, is_none}
use Rattle.rules.specs.Trees.{Names, Con, equal, isDim, is_scalar, hasField}
use Rattle.rules.specs.Views.{openOf, name_of}
use Rattle.rules.specs.Rounds.{State, round}
use Rattle.rules.specs.Solving.{Answer, boundOf, finished, finish, after, enough, run, solve}
use Rattle.rules.specs.Offices.{Keeps, mapOpen, mapCon, mapAnswer, mapGot, mapOption}
use Rattle.theorems_offices.proofs.Over.{collect-over}
use Rattle.theorems_offices.proofs.Options.{then_map, none-map}
use Rattle.theorems_offices.proofs.Sizes.{mapState}
use Rattle.theorems_offices.proofs.Contents.{keep-map, sort-map}
use Rattle.theorems_offices.proofs.Views.{open-seen, seen}
use Rattle.theorems_offices.proofs.Rounds.{round-map}

module _ {N M : Type 0} (f : N → M) where
  bound_of : (c : Con N) → boundOf (mapCon f c) ≡ mapOption f (boundOf c)
  unfolding boundOf mapCon
  bound_of (equal s t) = refl
  bound_of (isDim t) = rw ((seen f t).open_of) (then_map (mapOpen f) f (openOf t) name_of name_of (λ o. (open-seen f o).name-of))
  bound_of (is_scalar p) = refl
  bound_of (hasField n s t) = refl

  listed : (c : Con N) → to_list (boundOf (mapCon f c)) ≡ map f (to_list (boundOf c))
  listed c = rw (bound_of c) (go (boundOf c))
    where
      go : (o : Option N) → to_list (mapOption f o) ≡ map f (to_list o)
      go none = refl
      go (some x) = refl

  bounds-map : (cs : List (Con N)) → collect (λ c. to_list (boundOf c)) (map (mapCon f) cs) ≡ map f (collect (λ c. to_list (boundOf c)) cs)
  bounds-map cs = collect-over (mapCon f) f (λ c. to_list (boundOf c)) (λ c. to_list (boundOf c)) listed cs

  no_bound : (c : Con N) → is_none (boundOf (mapCon f c)) ≡ is_none (boundOf c)
  no_bound c = rw (bound_of c) (none-map f (boundOf c))

  others-map : (cs : List (Con N)) → keep (λ c. is_none (boundOf c)) (map (mapCon f) cs) ≡ map (mapCon f) (keep (λ c. is_none (boundOf c)) cs)
  others-map cs = keep-map (mapCon f) (λ c. is_none (boundOf c)) (λ c. is_none (boundOf c)) no_bound cs

module _ {N M : Type 0} (ν : Names N) (μ : Names M) (f : N → M) (keeps : Keeps ν μ f) where
  finished-map : (cs : List (Con N)) (k : ℕ) (s : State N) → finished μ (map (mapCon f) cs) k (mapState f s) ≡ mapAnswer f (finished ν cs k s)
  unfolding finished mapAnswer
  finished-map [] k s = rw (bounds-map f s.cons, sort-map ν μ f keeps (collect (λ c. to_list (boundOf c)) s.cons))
  finished-map (c ∷ cs) k s = refl

  finish-map : (k : ℕ) (s : State N) → finish μ k (mapState f s) ≡ mapAnswer f (finish ν k s)
  unfolding finish
  finish-map k s = rw (others-map f s.cons) (finished-map (keep (λ c. is_none (boundOf c)) s.cons) k s)

  answered : (g : Got (Option (State N))) (k : ℕ) (s : State N) (more : State N → Answer N) (more' : State M → Answer M)
      → ((s : State N) → more' (mapState f s) ≡ mapAnswer f (more s))
      → after μ (mapGot (mapOption (mapState f)) g) k (mapState f s) more' ≡ mapAnswer f (after ν g k s more)
  unfolding after mapAnswer
  answered (refused n) k s more more' e = refl
  answered (got none) k s more more' e = finish-map k s
  answered (got (some s')) k s more more' e = e s'

module _ {N M : Type 0} (ν : Names N) (μ : Names M) (f : N → M) (keeps : Keeps ν μ f) (l : Limits) where
  pub run-map : (r k : ℕ) (s : State N) → run μ l r k (mapState f s) ≡ mapAnswer f (run ν l r k s)
  unfolding run mapAnswer
  run-map zero k s = refl
  run-map (suc r) k s = rw (round-map ν μ f keeps l s).is
      (answered ν μ f keeps (round ν l s) k s (λ s'. run ν l r (suc k) s') (λ s'. run μ l r (suc k) s') (λ s'. run-map r (suc k) s'))

  pub solve-map : (cs : List (Con N)) → solve μ l (map (mapCon f) cs) ≡ mapAnswer f (solve ν l cs)
  unfolding solve
  solve-map cs = run-map enough 0 (record { cons = cs; binds = [] })
