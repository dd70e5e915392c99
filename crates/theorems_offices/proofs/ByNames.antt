-- The rules on numbers, read with names, are the rules on names themselves, ordered by bytes: over any good table, for any numbers.
use Rattle.std.specs.Prelude.{◌≡◌, Bool, List, map, ℕ}
use Rattle.rules.specs.Base.{got, bounded, each}
use Rattle.rules.specs.Trees.{Open, Ty, Con, Binding}
use Rattle.rules.specs.Names.{table_of, tableGiven}
use Rattle.rules.specs.Contents.{closed, containsName, variables}
use Rattle.rules.specs.Replacing.{replaceTy, replaceCon, bindings}
use Rattle.rules.specs.Adding.{add}
use Rattle.rules.specs.Rounds.{State, round}
use Rattle.rules.specs.Solving.{solve}
use Rattle.rules.specs.Schemes.{Scheme, quantify, generalise, instantiate}
use Rattle.rules.specs.Judging.{judge}
use Rattle.rules.specs.Offices.{Keeps, Name, byBytes, nameNo, mapGot, mapOption, mapOpen, mapTy, mapCon, mapBinding, mapScheme, mapAnswer}
use Rattle.laws.proofs.NameTable.{given-good}
use Rattle.theorems_offices.proofs.Over.{each_over}
use Rattle.theorems_offices.proofs.Sizes.{mapState}
use Rattle.theorems_offices.proofs.Contents.{closed-map, contains-name, variables-map}
use Rattle.theorems_offices.proofs.Replacing.{ty-map, con-map, looks-map}
use Rattle.theorems_offices.proofs.Adding.{mapAdded, add-map}
use Rattle.theorems_offices.proofs.Rounds.{round-map}
use Rattle.theorems_offices.proofs.Solving.{solve-map}
use Rattle.theorems_offices.proofs.Schemes.{mapOpened, quantify-map, generalise-map, instantiate-map}
use Rattle.theorems_offices.proofs.Judging.{judge-map}
use Rattle.theorems_offices.specs.Numbered.{numbers}
use Rattle.theorems_offices.proofs.Naming.{keeps}

module _ (pool table : List ℕ) (good : tableGiven pool table ≡ got tt) where
  -- a number's name
  abbrev pub named : ℕ → Name
  named = nameNo (table_of pool table)

  kept : Keeps (numbers pool table) byBytes named
  kept = keeps (given-good good)

  pub contains-by-names : (b : Bool) (x : ℕ) (u : Ty ℕ) → containsName byBytes b (named x) (mapTy named u) ≡ containsName (numbers pool table) b x u
  contains-by-names = contains-name _ byBytes _ kept

  pub variables-by-names : (b : Bool) (u : Ty ℕ) → variables byBytes b (mapTy named u) ≡ map named (variables (numbers pool table) b u)
  variables-by-names = variables-map _ byBytes _ kept

  pub replace-type-by-names : (bs : List (Binding ℕ)) (u : Ty ℕ) → replaceTy byBytes bounded (bindings byBytes (map (mapBinding named) bs)) (mapTy named u)
      ≡ mapGot (mapTy named) (replaceTy (numbers pool table) bounded (bindings (numbers pool table) bs) u)
  replace-type-by-names bs u = (ty-map _ byBytes _ kept bounded _ _ (looks-map _ byBytes _ kept bs) u).is

  pub replace-set-by-names : (bs : List (Binding ℕ)) (cs : List (Con ℕ))
      → each (replaceCon byBytes bounded (bindings byBytes (map (mapBinding named) bs))) (map (mapCon named) cs)
      ≡ mapGot (map (mapCon named)) (each (replaceCon (numbers pool table) bounded (bindings (numbers pool table) bs)) cs)
  replace-set-by-names bs cs = (each_over _ _ _ _ (con-map _ byBytes _ kept bounded _ _ (looks-map _ byBytes _ kept bs)) cs).is

  pub add-by-names : (cs : List (Con ℕ)) (c : Con ℕ)
      → add byBytes (map (mapCon named) cs) (mapCon named c) ≡ mapGot (mapAdded named) (add (numbers pool table) cs c)
  add-by-names cs c = (add-map _ byBytes _ kept cs c).is

  pub round-by-names : (s : State ℕ) → round byBytes bounded (mapState named s) ≡ mapGot (mapOption (mapState named)) (round (numbers pool table) bounded s)
  round-by-names s = (round-map _ byBytes _ kept bounded s).is

  pub solve-by-names : (cs : List (Con ℕ)) → solve byBytes bounded (map (mapCon named) cs) ≡ mapAnswer named (solve (numbers pool table) bounded cs)
  solve-by-names = solve-map _ byBytes _ kept bounded

  pub quantify-by-names : (ns : List ℕ) (u : Ty ℕ) (os : List (Open ℕ)) → quantify byBytes bounded (map named ns) (mapTy named u) (map (mapOpen named) os)
      ≡ mapGot (mapScheme named) (quantify (numbers pool table) bounded ns u os)
  quantify-by-names ns u os = (quantify-map _ byBytes _ kept bounded ns u os).is

  pub generalise-by-names : (ns : List ℕ) (s : Scheme ℕ)
      → generalise byBytes bounded (map named ns) (mapScheme named s) ≡ mapGot (mapScheme named) (generalise (numbers pool table) bounded ns s)
  generalise-by-names ns s = (generalise-map _ byBytes _ kept bounded ns s).is

  pub instantiate-by-names : (ns : List ℕ) (s : Scheme ℕ)
      → instantiate byBytes bounded (map named ns) (mapScheme named s) ≡ mapGot (mapOpened named) (instantiate (numbers pool table) bounded ns s)
  instantiate-by-names ns s = (instantiate-map _ byBytes _ kept bounded ns s).is

  pub judge-by-names : (bs : List (Binding ℕ)) (ns : List ℕ) (cs : List (Con ℕ))
      → judge byBytes bounded (map (mapBinding named) bs) (map named ns) (map (mapCon named) cs)
      ≡ judge (numbers pool table) bounded bs ns cs
  judge-by-names = judge-map _ byBytes _ kept bounded

  pub closed-by-names : (u : Ty ℕ) → closed (mapTy named u) ≡ closed u
  closed-by-names = closed-map named
