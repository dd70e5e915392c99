-- Solving: sets that read alike are answered alike.
use Rattle.std.proofs.Math.Path.{◌≡◌, ap, ap₂}
use Rattle.std.specs.Prelude.{refl, ℕ}
use Rattle.std.proofs.Common.{sym, ◌∙◌}
use mathlib.Core.List.{List, [], ◌∷◌, map}
use Rattle.std.proofs.Math.ListN.{length, length-map}
use Rattle.rules.specs.Base.{Got, got, bounded, collect, sum_of}
use Rattle.rules.specs.Trees.{opensCon, sizeCon, sizeBinding}
use Rattle.rules.specs.Names.{Table, table_of}
use Rattle.rules.specs.Solving.{Answer, accepted, remaining, stopped, solve}
use Rattle.rules.specs.Calls.{resultAfter, solved, unsolved, refusedAfter, solvedOf, solvedWords, solvedSet, solveCall}
use Rattle.rules.specs.Offices.{Name, byBytes, nameNo, mapCon, mapBinding, mapAnswer, ReadAlike, LentAlike, SolvedAlike, frontSolved}
use Rattle.laws.proofs.Answers.{records-length}
use Rattle.laws.specs.NameTable.{Good}
use Rattle.laws.proofs.Size.{set-length}
use Rattle.laws.proofs.Alike.{both, neither, onward}
use Rattle.theorems_offices.proofs.Both.{Both, checked}
use Rattle.theorems_offices.proofs.Sizes.{size-cons, size-bindings}
use Rattle.theorems_offices.proofs.Solving.{solve-map}
use Rattle.theorems_offices.proofs.Naming.{keeps}
use Rattle.theorems_offices.proofs.Writing.{set-written, answer-written}
use Rattle.theorems_offices.proofs.Results.{nothing, fronts}
use Rattle.theorems_offices.proofs.Given.{Alike, as_long, short, kept-alike, lent_alike, constraints-given, apart-alike, set-opens}

module _ {pool table pool' table' : List ℕ} (good : Good pool table) (good' : Good pool' table') where
  -- the two tables, and the names of their numbers
  abbrev T₁ : Table
  T₁ = table_of pool table

  abbrev T₂ : Table
  T₂ = table_of pool' table'

  abbrev ν₁ : ℕ → Name
  ν₁ = nameNo T₁

  abbrev ν₂ : ℕ → Name
  ν₂ = nameNo T₂

  pub solved-set : (ws ws' : List ℕ) → Alike good good' ws ws' → Both (mapAnswer ν₁) (mapAnswer ν₂) (solvedSet T₁ ws) (solvedSet T₂ ws')
  unfolding solvedSet
  solved-set ws ws' e =
      checked (short (ws ∷ []) (ws' ∷ []) (rw (as_long e)))
      (checked (kept-alike good good')
      (onward _ _ (constraints-given good good' ws ws' e) (λ cs cs' i.
      checked (apart-alike good good' (collect opensCon cs) (collect opensCon cs') (set-opens good good' cs cs' i))
      (both (sym (solve-map _ byBytes ν₁ (keeps good) bounded cs) ∙ ap (solve byBytes bounded) i ∙ solve-map _ byBytes ν₂ (keeps good') bounded cs')))))

  pub record Same (m m' : Got (Answer ℕ)) : Type 0 where
    pub answer : solvedOf m ≡ solvedOf m'
    pub records : (b b' : List ℕ) → ReadAlike T₁ T₂ (frontSolved (solvedOf m) (resultAfter (solvedWords m) b))
        (frontSolved (solvedOf m') (resultAfter (solvedWords m') b'))

  same-answers : (a a' : Answer ℕ) → mapAnswer ν₁ a ≡ mapAnswer ν₂ a' → Same (got a) (got a')
  unfolding solvedOf solvedWords resultAfter mapAnswer
  same-answers (accepted bs ns k) (accepted bs' ns' k') e =
      let x : map (mapBinding ν₁) bs ≡ map (mapBinding ν₂) bs' = cc in
      let y : map ν₁ ns ≡ map ν₂ ns' = cc in
      let z : k ≡ k' = cc in
      record {
        answer = solved-same (sym (size-bindings ν₁ bs) ∙ ap (sum_of sizeBinding) x ∙ size-bindings ν₂ bs')
            (sym (length-map ns ν₁) ∙ ap length y ∙ length-map ns' ν₂) z;
        records = λ b b'. fronts T₁ T₂ _ _ _ _ b b' (records-length bs ns) (records-length bs' ns') (answer-written T₁ T₂ bs bs' ns ns' x y);
      }
    where
      solved-same : {m m' n n' k k' : ℕ} → m ≡ m' → n ≡ n' → k ≡ k' → solved m n k ≡ solved m' n' k'
      solved-same e f g = rw (e, f, g)
  same-answers (accepted bs ns k) (remaining cs' k') e = absurd (cc)
  same-answers (accepted bs ns k) (stopped n' k') e = absurd (cc)
  same-answers (remaining cs k) (accepted bs' ns' k') e = absurd (cc)
  same-answers (remaining cs k) (remaining cs' k') e =
      let x : map (mapCon ν₁) cs ≡ map (mapCon ν₂) cs' = cc in
      let z : k ≡ k' = cc in
      record {
        answer = ap₂ unsolved (sym (size-cons ν₁ cs) ∙ ap (sum_of sizeCon) x ∙ size-cons ν₂ cs') z;
        records = λ b b'. fronts T₁ T₂ _ _ _ _ b b' (set-length cs) (set-length cs') (set-written T₁ T₂ cs cs' x);
      }
  same-answers (remaining cs k) (stopped n' k') e = absurd (cc)
  same-answers (stopped n k) (accepted bs' ns' k') e = absurd (cc)
  same-answers (stopped n k) (remaining cs' k') e = absurd (cc)
  same-answers (stopped n k) (stopped n' k') e =
      let x : n ≡ n' = cc in
      let z : k ≡ k' = cc in
      record { answer = ap₂ refusedAfter x z; records = λ b b'. nothing T₁ T₂ }

  pub same : {m m' : Got (Answer ℕ)} → Both (mapAnswer ν₁) (mapAnswer ν₂) m m' → Same m m'
  unfolding solvedOf
  same neither = record { answer = refl; records = λ b b'. nothing T₁ T₂ }
  same (both {a = a} {b = a'} e) = same-answers a a' e

  pub solve-alike : (ws ws' result result' work work' : List ℕ) → Alike good good' ws ws' → LentAlike result result' work work'
      → SolvedAlike T₁ T₂ (solveCall pool table ws result work) (solveCall pool' table' ws' result' work')
  unfolding solveCall
  solve-alike ws ws' result result' work work' e r =
      let s = same (checked (lent_alike good good' result result' work work' r) (solved-set ws ws' e)) in
      record { answer = s.answer; records = s.records result result' }
