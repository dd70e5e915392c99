-- What becomes of a sheet: of its set, by what solving answered and the verdict on it; of a text that is refused, and of a file that can't be had.
use Rattle.std.specs.Prelude.{◌≡◌, refl, List, [], ◌∷◌, ℕ}
use Rattle.std.proofs.Common.{subst}
use Rattle.std.proofs.Math.Option.{Option}
use Rattle.rules.specs.Base.{Got, got, refused}
use Rattle.rules.specs.Calls.{shortLists, tableKept, setGiven, solvedSet}
use Rattle.rules.specs.Names.{Table, numbersOf}
use Rattle.rules.specs.Reports.{finding, findingOf, holding, refusing, lacking, unread, unseen, Page}
use Rattle.rules.specs.Solving.{Answer, accepted, remaining, stopped}
use Rattle.rules.specs.Trees.{Con}
use Rattle.rules.specs.declared.Unseen.{Unseen}
use Rattle.laws.proofs.Lists.{bound-step}
use Rattle.judge.specs.Found.{PlacedAs}
use Rattle.edition_report.specs.Found.{IsFinding}
use Rattle.edition_report.specs.declared.pages.Outcome.{Outcome}
use Rattle.edition.specs.Pages.{Kept}

module _ (t : Table) (ws : List ℕ) (n : ℕ) (cs : List (Con ℕ)) (k : Kept ws n cs) where
  given : (a : Answer ℕ) → solvedSet t ws ≡ got a → (ds : List (Con ℕ)) × (setGiven t ws ≡ got ds)
  unfolding solvedSet
  given a e =
      let p = bound-step (shortLists (ws ∷ [])) _ a e in
      let q = bound-step (tableKept t) _ a p.2 in
      let c = bound-step (setGiven t ws) _ a q.2 in
      (c.0, c.1)

  -- the verdict over what is read from the words is that over the set; where nothing is read from them, there is no answer to judge
  pub placed-same : (j : Got (Option ℕ)) → ((ds : List (Con ℕ)) → setGiven t ws ≡ got ds → PlacedAs (numbersOf t) ds (solvedSet t ws) j)
      → PlacedAs (numbersOf t) cs (solvedSet t ws) j
  placed-same j f = go (solvedSet t ws) refl f
    where
      go : (m : Got (Answer ℕ)) → solvedSet t ws ≡ m → ((ds : List (Con ℕ)) → setGiven t ws ≡ got ds → PlacedAs (numbersOf t) ds m j)
          → PlacedAs (numbersOf t) cs m j
      go (refused i) e f = tt
      go (got (accepted bs ns r)) e f =
          let g = given (accepted bs ns r) e in
          subst (λ (l : List (Con ℕ)). PlacedAs (numbersOf t) l (got (accepted bs ns r)) j) (k.back t g.0 g.1) (f g.0 g.1)
      go (got (remaining ds r)) e f = tt
      go (got (stopped i r)) e f = tt

  pub found-set : (s : List ℕ) (o : Outcome) (p : Page) → p.content ≡ holding cs → IsFinding s o (finding (numbersOf t) cs (solvedSet t ws))
      → IsFinding s o (findingOf t p.content)
  unfolding findingOf
  found-set s o p e f = rw (e, ← k.is) f

-- what became of a text that is refused, and of a file that can't be had
pub found-unread : (t : Table) (p : Page) (n l c : ℕ) → p.content ≡ refusing n l c → findingOf t p.content ≡ unread n l c
unfolding findingOf
found-unread t p n l c e = rw e refl

pub found-unseen : (t : Table) (p : Page) {u : Unseen} → p.content ≡ lacking u → findingOf t p.content ≡ unseen u
unfolding findingOf
found-unseen t p e = rw e refl
