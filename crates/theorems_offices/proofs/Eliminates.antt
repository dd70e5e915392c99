-- The second engine: sets that read alike are answered alike.
use Rattle.std.proofs.Math.Path.{◌≡◌, ap}
use Rattle.std.specs.Prelude.{refl, ℕ}
use Rattle.std.proofs.Common.{sym, ◌∙◌}
use mathlib.Core.List.{List, [], ◌∷◌, map}
use Rattle.rules.specs.Base.{Got, got, each, collect, sum_of}
use Rattle.rules.specs.Trees.{Con, opensCon, sizeCon, sizeBinding}
use Rattle.rules.specs.Names.{Table, table_of, numbersOf}
use Rattle.rules.specs.Calls.{resultAfter}
use Rattle.rules.specs.Elimination.{
  Settled,
  settled,
  unsettled,
  scalarOf,
  fits,
  eliminated,
  allBound,
  someLeft,
  eliminatedOf,
  eliminatedWords,
  setChecked,
  fitting,
  eliminatedSet,
  eliminateCall,
}
use Rattle.rules.specs.Offices.{Name, byBytes, nameNo, mapCon, mapBinding, ReadAlike, LentAlike, EliminatedAlike, frontEliminated}
use Rattle.laws.specs.NameTable.{Good}
use Rattle.laws.proofs.Size.{set-length, bindings-length}
use Rattle.theorems_offices.proofs.Over.{each_over}
use Rattle.laws.proofs.Alike.{both, neither, onward}
use Rattle.theorems_offices.proofs.Both.{Both, through, needed, checked}
use Rattle.theorems_offices.proofs.Sizes.{size-cons, size-bindings}
use Rattle.theorems_offices.proofs.Naming.{keeps}
use Rattle.theorems_offices.proofs.Rows.{mapProduct, mapSettled, scalar-map, fits-map, eliminated-map}
use Rattle.theorems_offices.proofs.Writing.{set-written, bindings-written}
use Rattle.theorems_offices.proofs.Results.{nothing, fronts}
use Rattle.theorems_offices.proofs.Given.{Alike, as_long, short, kept-alike, lent_alike, constraints-given, apart-alike, set-opens}

module _ {pool table pool' table' : List ℕ} (good : Good pool table) (good' : Good pool' table') where
  -- the two tables, and the names of their numbers
  abbrev T₁ : Table
  T₁ = table_of pool table

  abbrev T₂ : Table
  T₂ = table_of pool' table'

  abbrev ν₁ : ℕ → Name
  ν₁ = nameNo T₁

  abbrev ν₂ : ℕ → Name
  ν₂ = nameNo T₂

  -- ══ A set, eliminated ══

  checked-alike : (ws ws' : List ℕ) → Alike good good' ws ws' → Both (map (mapCon ν₁)) (map (mapCon ν₂)) (setChecked T₁ ws) (setChecked T₂ ws')
  unfolding setChecked
  checked-alike ws ws' e =
      checked (short (ws ∷ []) (ws' ∷ []) (rw (as_long e)))
      (checked (kept-alike good good')
      (onward _ _ (constraints-given good good' ws ws' e) (λ cs cs' i.
      checked (apart-alike good good' (collect opensCon cs) (collect opensCon cs') (set-opens good good' cs cs' i)) (both i))))

  scalars-alike : (cs cs' : List (Con ℕ)) → map (mapCon ν₁) cs ≡ map (mapCon ν₂) cs'
      → Both (map (mapProduct ν₁)) (map (mapProduct ν₂)) (each scalarOf cs) (each scalarOf cs')
  scalars-alike cs cs' e = through
      (each_over (mapCon ν₁) (mapProduct ν₁) scalarOf scalarOf (scalar-map ν₁) cs)
      (each_over (mapCon ν₂) (mapProduct ν₂) scalarOf scalarOf (scalar-map ν₂) cs')
      (ap (each scalarOf) e)

  fitting-alike : (cs cs' : List (Con ℕ)) → map (mapCon ν₁) cs ≡ map (mapCon ν₂) cs'
      → Both (map (mapProduct ν₁)) (map (mapProduct ν₂)) (fitting (numbersOf T₁) cs) (fitting (numbersOf T₂) cs')
  unfolding fitting
  fitting-alike cs cs' e =
      onward _ _ (scalars-alike cs cs' e) (λ ps ps' i.
      onward _ _ (needed 8 (sym (fits-map _ byBytes ν₁ (keeps good) ps) ∙ ap (fits byBytes) i ∙ fits-map _ byBytes ν₂ (keeps good') ps')) (λ u u' j. both i))

  pub eliminated-set : (ws ws' : List ℕ) → Alike good good' ws ws' → Both (mapSettled ν₁) (mapSettled ν₂) (eliminatedSet T₁ ws) (eliminatedSet T₂ ws')
  unfolding eliminatedSet
  eliminated-set ws ws' e =
      onward _ _ (checked-alike ws ws' e) (λ cs cs' i.
      onward _ _ (fitting-alike cs cs' i) (λ ps ps' j.
      through (eliminated-map _ byBytes ν₁ (keeps good) ps) (eliminated-map _ byBytes ν₂ (keeps good') ps') (ap (eliminated byBytes) j)))

  -- ══ The call ══

  record Same (m m' : Got (Settled ℕ)) : Type 0 where
    answer : eliminatedOf m ≡ eliminatedOf m'
    records : (b b' : List ℕ)
        → ReadAlike T₁ T₂ (frontEliminated (eliminatedOf m) (resultAfter (eliminatedWords m) b))
        (frontEliminated (eliminatedOf m') (resultAfter (eliminatedWords m') b'))

  same-settled : (a a' : Settled ℕ) → mapSettled ν₁ a ≡ mapSettled ν₂ a' → Same (got a) (got a')
  unfolding eliminatedOf eliminatedWords resultAfter
  same-settled (settled bs) (settled bs') e =
      let x : map (mapBinding ν₁) bs ≡ map (mapBinding ν₂) bs' = cc in
      record {
        answer = ap allBound (sym (size-bindings ν₁ bs) ∙ ap (sum_of sizeBinding) x ∙ size-bindings ν₂ bs');
        records = λ b b'. fronts T₁ T₂ _ _ _ _ b b' (bindings-length bs) (bindings-length bs') (bindings-written T₁ T₂ bs bs' x);
      }
  same-settled (settled bs) (unsettled cs') e = absurd (cc)
  same-settled (unsettled cs) (settled bs') e = absurd (cc)
  same-settled (unsettled cs) (unsettled cs') e =
      let x : map (mapCon ν₁) cs ≡ map (mapCon ν₂) cs' = cc in
      record {
        answer = ap someLeft (sym (size-cons ν₁ cs) ∙ ap (sum_of sizeCon) x ∙ size-cons ν₂ cs');
        records = λ b b'. fronts T₁ T₂ _ _ _ _ b b' (set-length cs) (set-length cs') (set-written T₁ T₂ cs cs' x);
      }

  same : {m m' : Got (Settled ℕ)} → Both (mapSettled ν₁) (mapSettled ν₂) m m' → Same m m'
  unfolding eliminatedOf
  same neither = record { answer = refl; records = λ b b'. nothing T₁ T₂ }
  same (both {a = a} {b = a'} e) = same-settled a a' e

  pub eliminate-alike : (ws ws' result result' work work' : List ℕ) → Alike good good' ws ws' → LentAlike result result' work work'
      → EliminatedAlike T₁ T₂ (eliminateCall pool table ws result work) (eliminateCall pool' table' ws' result' work')
  unfolding eliminateCall
  eliminate-alike ws ws' result result' work work' e r =
      let s = same (checked (lent_alike good good' result result' work work' r) (eliminated-set ws ws' e)) in
      record { answer = s.answer; records = s.records result result' }
