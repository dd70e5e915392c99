-- A set that reads alike over two tables has the same finding, with names in place of numbers.
use Rattle.std.specs.Prelude.{◌≡◌}
use Rattle.std.proofs.Math.Path.{refl, ap₂}
use Rattle.std.proofs.Common.{sym, ◌∙◌}
use Rattle.std.proofs.Math.Option.{Option, none, some}
use mathlib.Core.List.{List, map}
use Prim.Native.Nat.{ℕ}
use Rattle.rules.specs.Base.{Got, got, refused, bounded, collect}
use Rattle.rules.specs.Trees.{Con, Binding}
use Rattle.rules.specs.Names.{Table, table_of, numbersOf}
use Rattle.rules.specs.Writing.{words, writeCon}
use Rattle.rules.specs.Solving.{Answer, accepted, remaining, stopped}
use Rattle.rules.specs.Judging.{failing}
use Rattle.rules.specs.Offices.{Name, byBytes, nameNo, mapCon, mapBinding, mapAnswer}
use Rattle.rules.specs.Reports.{judgedBy, finding, holding, findingOf}
use Rattle.rules.specs.Apart.{accepts, leaves, found}
use Rattle.laws.specs.NameTable.{Good}
use Rattle.laws.proofs.Alike.{both, neither}
use Rattle.theorems_offices.proofs.Both.{Both}
use Rattle.theorems_offices.proofs.Judging.{failing-map}
use Rattle.theorems_offices.proofs.Naming.{keeps}
use Rattle.theorems_offices.proofs.Solves.{solved-set}
use Rattle.theorems_offices.proofs.Writing.{set-written, words-alike}

module _ {pool table pool' table' : List ℕ} (good : Good pool table) (good' : Good pool' table') where
  -- the two tables, and the names of their numbers
  abbrev T₁ : Table
  T₁ = table_of pool table

  abbrev T₂ : Table
  T₂ = table_of pool' table'

  abbrev ν₁ : ℕ → Name
  ν₁ = nameNo T₁

  abbrev ν₂ : ℕ → Name
  ν₂ = nameNo T₂

  module _ (cs cs' : List (Con ℕ)) (e : map (mapCon ν₁) cs ≡ map (mapCon ν₂) cs') where
    -- the judge's verdict, on bindings and bounds with the same names
    verdict : (bs bs' : List (Binding ℕ)) (ns ns' : List ℕ) → map (mapBinding ν₁) bs ≡ map (mapBinding ν₂) bs' → map ν₁ ns ≡ map ν₂ ns'
        → failing (numbersOf T₁) bounded bs ns 0 cs ≡ failing (numbersOf T₂) bounded bs' ns' 0 cs'
    verdict bs bs' ns ns' i j =
        sym (failing-map _ byBytes ν₁ (keeps good) bounded bs ns 0 cs) ∙ all-three i j e ∙ failing-map _ byBytes ν₂ (keeps good') bounded bs' ns' 0 cs'
      where
        all-three : {as' bs : List (Binding Name)} {ms ns : List Name} {ds es : List (Con Name)} → as' ≡ bs → ms ≡ ns → ds ≡ es
            → failing byBytes bounded as' ms 0 ds ≡ failing byBytes bounded bs ns 0 es
        all-three e f g = rw (e, f, g)

    told : (m : Got (Option ℕ)) (bs bs' : List (Binding ℕ)) (ns ns' : List ℕ) (k : ℕ) → map (mapBinding ν₁) bs ≡ map (mapBinding ν₂) bs'
        → map ν₁ ns ≡ map ν₂ ns'
        → found T₁ (judgedBy m bs ns k) ≡ found T₂ (judgedBy m bs' ns' k)
    unfolding found
    told (got none) bs bs' ns ns' k i j = ap₂ (λ (as' : List (Binding Name)) (ms : List Name). accepts as' ms k) i j
    told (got (some n)) bs bs' ns ns' k i j = refl
    told (refused n) bs bs' ns ns' k i j = refl

    of_answers : (a a' : Answer ℕ) → mapAnswer ν₁ a ≡ mapAnswer ν₂ a'
        → found T₁ (finding (numbersOf T₁) cs (got a)) ≡ found T₂ (finding (numbersOf T₂) cs' (got a'))
    unfolding finding found mapAnswer
    of_answers (accepted bs ns k) (accepted bs' ns' k') i =
        let x : map (mapBinding ν₁) bs ≡ map (mapBinding ν₂) bs' = cc in
        let y : map ν₁ ns ≡ map ν₂ ns' = cc in
        let z : k ≡ k' = cc in
        rw (verdict bs bs' ns ns' x y, z) (told (failing (numbersOf T₂) bounded bs' ns' 0 cs') bs bs' ns ns' k' x y)
    of_answers (accepted bs ns k) (remaining ds' k') i = absurd (cc)
    of_answers (accepted bs ns k) (stopped n' k') i = absurd (cc)
    of_answers (remaining ds k) (accepted bs' ns' k') i = absurd (cc)
    of_answers (remaining ds k) (remaining ds' k') i =
        let x : map (mapCon ν₁) ds ≡ map (mapCon ν₂) ds' = cc in
        let z : k ≡ k' = cc in
        ap₂ (λ (es : List (Con Name)) (n : ℕ). leaves es n) x z
    of_answers (remaining ds k) (stopped n' k') i = absurd (cc)
    of_answers (stopped n k) (accepted bs' ns' k') i = absurd (cc)
    of_answers (stopped n k) (remaining ds' k') i = absurd (cc)
    of_answers (stopped n k) (stopped n' k') i =
        let x : n ≡ n' = cc in
        let z : k ≡ k' = cc in
        rw (x, z)

    by-answers : {m m' : Got (Answer ℕ)} → Both (mapAnswer ν₁) (mapAnswer ν₂) m m'
        → found T₁ (finding (numbersOf T₁) cs m) ≡ found T₂ (finding (numbersOf T₂) cs' m')
    unfolding finding found
    by-answers neither = refl
    by-answers (both {a = a} {b = a'} i) = of_answers a a' i

    pub held-alike : found T₁ (findingOf T₁ (holding cs)) ≡ found T₂ (findingOf T₂ (holding cs'))
    unfolding findingOf
    held-alike = by-answers (solved-set good good' (words (collect writeCon cs)) (words (collect writeCon cs'))
        (words-alike T₁ T₂ (collect writeCon cs) (collect writeCon cs') (set-written T₁ T₂ cs cs' e)))
