-- The call that confirms: sets that read alike are answered alike.
use Rattle.std.proofs.Math.Path.{◌≡◌, refl, sym}
use Rattle.std.proofs.Common.{◌∙◌}
use Rattle.std.specs.Prelude.{Bool, true, false, ℕ}
use mathlib.Core.List.{List, map}
use Rattle.rules.specs.Base.{Got, got, refused, bounded}
use Rattle.rules.specs.Trees.{Names, Con, Binding}
use Rattle.rules.specs.Names.{Table, table_of, numbersOf}
use Rattle.rules.specs.Solving.{Answer, accepted, remaining, stopped}
use Rattle.rules.specs.Judging.{judge}
use Rattle.rules.specs.Confirming.{ruled, confirmed, confirmedSet, confirmCall}
use Rattle.rules.specs.Offices.{Name, Keeps, byBytes, nameNo, mapCon, mapBinding, mapAnswer, LentAlike, SolvedAlike}
use Rattle.laws.specs.NameTable.{Good}
use Rattle.laws.proofs.Alike.{both, onward}
use Rattle.theorems_offices.proofs.Both.{Both, checked}
use Rattle.theorems_offices.proofs.Given.{Alike, lent_alike, constraints-given}
use Rattle.theorems_offices.proofs.Judging.{judge-map}
use Rattle.theorems_offices.proofs.Naming.{keeps}
use Rattle.theorems_offices.proofs.Solves.{solved-set, same}

module _ {N M : Type 0} (ν : Names N) (μ : Names M) (f : N → M) (keeps : Keeps ν μ f) where
  ruled-map : (verdict : Got Bool) (bs : List (Binding N)) (ns : List N) (k : ℕ)
      → ruled verdict (map (mapBinding f) bs) (map f ns) k ≡ mapAnswer f (ruled verdict bs ns k)
  unfolding ruled mapAnswer
  ruled-map (got true) bs ns k = refl
  ruled-map (got false) bs ns k = refl
  ruled-map (refused n) bs ns k = refl

  pub confirmed-map : (cs : List (Con N)) (a : Answer N) → confirmed μ (map (mapCon f) cs) (mapAnswer f a) ≡ mapAnswer f (confirmed ν cs a)
  unfolding confirmed mapAnswer
  confirmed-map cs (accepted bs ns k) = rw (judge-map ν μ f keeps bounded bs ns cs) (ruled-map (judge ν bounded bs ns cs) bs ns k)
  confirmed-map cs (remaining ds k) = refl
  confirmed-map cs (stopped n k) = refl

module _ {pool table pool' table' : List ℕ} (good : Good pool table) (good' : Good pool' table') where
  -- the two tables, and the names of their numbers
  abbrev T₁ : Table
  T₁ = table_of pool table

  abbrev T₂ : Table
  T₂ = table_of pool' table'

  abbrev ν₁ : ℕ → Name
  ν₁ = nameNo T₁

  abbrev ν₂ : ℕ → Name
  ν₂ = nameNo T₂

  confirmed-alike : (cs cs' : List (Con ℕ)) (a a' : Answer ℕ) → map (mapCon ν₁) cs ≡ map (mapCon ν₂) cs' → mapAnswer ν₁ a ≡ mapAnswer ν₂ a'
      → mapAnswer ν₁ (confirmed (numbersOf T₁) cs a) ≡ mapAnswer ν₂ (confirmed (numbersOf T₂) cs' a')
  confirmed-alike cs cs' a a' i j = sym (confirmed-map _ byBytes ν₁ (keeps good) cs a) ∙ middle i j ∙ confirmed-map _ byBytes ν₂ (keeps good') cs' a'
    where
      middle : {x x' : List (Con Name)} {y y' : Answer Name} → x ≡ x' → y ≡ y' → confirmed byBytes x y ≡ confirmed byBytes x' y'
      middle e f = rw (e, f)

  confirmed-set : (ws ws' : List ℕ) → Alike good good' ws ws' → Both (mapAnswer ν₁) (mapAnswer ν₂) (confirmedSet T₁ ws) (confirmedSet T₂ ws')
  unfolding confirmedSet
  confirmed-set ws ws' e =
      onward _ _ (solved-set good good' ws ws' e) (λ a a' j.
      onward _ _ (constraints-given good good' ws ws' e) (λ cs cs' i. both (confirmed-alike cs cs' a a' i j)))

  pub confirm-alike : (ws ws' result result' work work' : List ℕ) → Alike good good' ws ws' → LentAlike result result' work work'
      → SolvedAlike T₁ T₂ (confirmCall pool table ws result work) (confirmCall pool' table' ws' result' work')
  unfolding confirmCall
  confirm-alike ws ws' result result' work work' e r =
      let s = same good good' (checked (lent_alike good good' result result' work work' r) (confirmed-set ws ws' e)) in
      record { answer = s.answer; records = s.records result result' }
