-- The judge: sets, entries and bounds that read alike get the same verdict.
use Rattle.std.proofs.Math.Path.{◌≡◌, refl, ap, sym}
use Rattle.std.proofs.Common.{◌∙◌}
use Rattle.std.specs.Prelude.{Bool, true, not, ◌&&◌, ℕ, zero, suc, drop}
use Rattle.std.proofs.Math.Option.{Option, some}
use mathlib.Core.List.{List, [], ◌∷◌, map}
use Rattle.std.proofs.Math.ListN.{length, length-map}
use Rattle.rules.specs.Base.{bounded, and_then, each, collect}
use Rattle.rules.specs.Trees.{Ty, Con, Binding, opensCon}
use Rattle.rules.specs.Names.{Table, table_of, names_of, numbersOf}
use Rattle.rules.specs.Contents.{among}
use Rattle.rules.specs.Writing.{Rec, word_of}
use Rattle.rules.specs.Reading.{records, readTy}
use Rattle.rules.specs.WellFormed.{goodTy, rising}
use Rattle.rules.specs.Judging.{judge}
use Rattle.rules.specs.Calls.{opensBinding, Entry, differ, type_at, bindingOf, entriesGiven, risingBounds, judgedSet, judgeCall}
use Rattle.rules.specs.Offices.{Name, byBytes, nameNo, mapTy, mapCon, mapBinding, mapOption, EntriesAlike}
use Rattle.laws.proofs.Contents.{same-eqb}
use Rattle.laws.specs.NameTable.{Good}
use Rattle.laws.proofs.Alike.{both, onward}
use Rattle.theorems_offices.proofs.Both.{Both, there, needed, same-both, equal-answers, checked, two-checks}
use Rattle.theorems_offices.proofs.Contents.{among-map}
use Rattle.theorems_offices.proofs.WellFormed.{rising-map, good-ty}
use Rattle.theorems_offices.proofs.Judging.{judge-map}
use Rattle.theorems_offices.proofs.Naming.{isNamed, held-named, keeps}
use Rattle.theorems_offices.proofs.Reading.{seen, records-alike, Cases, cases, ty-agree}
use Rattle.theorems_offices.proofs.Reading as reading
use Rattle.theorems_offices.proofs.Given.{
  Alike,
  as_long,
  short,
  few,
  kept-alike,
  lent-table,
  lent-work,
  constraints-given,
  names-given,
  numbers-given,
  apart-alike,
  set-opens,
  binding-opens,
  joined,
}

dropped : (t : Table) (i : ℕ) (rs : List Rec) → map (seen t) (drop i rs) ≡ drop i (map (seen t) rs)
dropped t zero rs = refl
dropped t (suc i) [] = refl
dropped t (suc i) (r ∷ rs) = dropped t i rs

-- ══ Names that differ ══

-- no name twice, over names themselves
pub differNamed : List Name → Bool
differNamed [] = true
differNamed (x ∷ xs) = not (among byBytes x xs) && differNamed xs

pub differ-map : {pool table : List ℕ} (good : Good pool table) (ns : List ℕ) → differNamed (map (nameNo (table_of pool table)) ns) ≡ differ ns
unfolding differ differNamed
differ-map good [] = refl
differ-map {pool} {table} good (n ∷ ns) =
    rw (among-map _ byBytes (nameNo (table_of pool table)) (keeps good) n ns, same-eqb (names_of (table_of pool table)) n ns, differ-map good ns)

module _ {pool table pool' table' : List ℕ} (good : Good pool table) (good' : Good pool' table') where
  -- the two tables, and the names of their numbers
  abbrev T₁ : Table
  T₁ = table_of pool table

  abbrev T₂ : Table
  T₂ = table_of pool' table'

  abbrev ν₁ : ℕ → Name
  ν₁ = nameNo T₁

  abbrev ν₂ : ℕ → Name
  ν₂ = nameNo T₂

  -- ══ Entries and bounds ══

  first_alike : (rs rs' : List Rec) → map (seen T₁) rs ≡ map (seen T₂) rs'
      → mapOption (mapTy ν₁) (and_then (readTy 64 rs) (λ r. some r.0)) ≡ mapOption (mapTy ν₂) (and_then (readTy 64 rs') (λ r. some r.0))
  first_alike rs rs' e = go (cases T₁ T₂ _ _ (readTy 64 rs) (readTy 64 rs') ((ty-agree T₁ T₂ 64).agree rs rs' e).is)
    where
      go : {x x' : Option (Ty ℕ × List Rec)} → Cases T₁ T₂ (mapTy ν₁) (mapTy ν₂) x x'
          → mapOption (mapTy ν₁) (and_then x (λ r. some r.0)) ≡ mapOption (mapTy ν₂) (and_then x' (λ r. some r.0))
      go reading.neither = refl
      go (reading.both v v' i j) = ap some i

  pub type-at : (rs rs' : List Rec) (i : ℕ) → map (seen T₁) rs ≡ map (seen T₂) rs' → Both (mapTy ν₁) (mapTy ν₂) (type_at T₁ rs i) (type_at T₂ rs' i)
  unfolding type_at
  type-at rs rs' i e =
      onward _ _ (there 1 (and_then (readTy 64 (drop i rs)) (λ r. some r.0)) (and_then (readTy 64 (drop i rs')) (λ r. some r.0))
      (first_alike (drop i rs) (drop i rs') (dropped T₁ i rs ∙ ap (drop i) e ∙ sym (dropped T₂ i rs')))) (λ u u' j.
      onward _ _ (needed 1 (sym (good-ty _ byBytes ν₁ (keeps good) _ isNamed (held-named T₁) 0 u) ∙ ap (goodTy byBytes isNamed 0) j
      ∙ good-ty _ byBytes ν₂ (keeps good') _ isNamed (held-named T₂) 0 u')) (λ x y l. both j))

  binding-of : (rs rs' : List Rec) (e e' : Entry) → map (seen T₁) rs ≡ map (seen T₂) rs' → ν₁ e.variable ≡ ν₂ e'.variable → e.place ≡ e'.place
      → Both (mapBinding ν₁) (mapBinding ν₂) (bindingOf T₁ rs e) (bindingOf T₂ rs' e')
  unfolding bindingOf mapBinding
  binding-of rs rs' e e' h i p =
      checked (numbers-given good good' (e.variable ∷ []) (e'.variable ∷ []) (rw i))
      (rw p (onward _ _ (type-at rs rs' e'.place h) (λ u u' j. both (rw (i, j)))))

  all-bindings : (rs rs' : List Rec) → map (seen T₁) rs ≡ map (seen T₂) rs' → (es es' : List Entry)
      → map ν₁ (map (λ e. e.variable) es) ≡ map ν₂ (map (λ e. e.variable) es')
      → map (λ e. e.place) es ≡ map (λ e. e.place) es'
      → Both (map (mapBinding ν₁)) (map (mapBinding ν₂)) (each (bindingOf T₁ rs) es) (each (bindingOf T₂ rs') es')
  unfolding each
  all-bindings rs rs' h [] [] i p = both refl
  all-bindings rs rs' h [] (e ∷ es) i p = absurd (cc)
  all-bindings rs rs' h (e ∷ es) [] i p = absurd (cc)
  all-bindings rs rs' h (e ∷ es) (e' ∷ es') i p =
      onward _ _ (binding-of rs rs' e e' h (cc) (cc)) (λ b b' j. onward _ _ (all-bindings rs rs' h es es' (cc) (cc)) (λ bs bs' k. both (rw (j, k))))

  entries-given : (es es' : List Entry) (ts ts' : List ℕ) → EntriesAlike T₁ T₂ es es' → Alike good good' ts ts'
      → Both (map (mapBinding ν₁)) (map (mapBinding ν₂)) (entriesGiven T₁ es ts) (entriesGiven T₂ es' ts')
  unfolding entriesGiven
  entries-given es es' ts ts' e f =
      onward _ _ (there 1 (records ts) (records ts') (records-alike T₁ T₂ ts ts' f)) (λ rs rs' h.
      onward _ _ (needed 1 (sym (differ-map good (map (λ e. e.variable) es)) ∙ ap differNamed e.variables.names
      ∙ differ-map good' (map (λ e. e.variable) es'))) (λ x y l.
      all-bindings rs rs' h es es' e.variables.names e.places))

  rising-given : (bs bs' : List ℕ) → Alike good good' bs bs' → Both (map ν₁) (map ν₂) (risingBounds T₁ bs) (risingBounds T₂ bs')
  unfolding risingBounds
  rising-given bs bs' e =
      onward _ _ (names-given good good' bs bs' e) (λ os os' j.
      onward _ _ (needed 1 (sym (rising-map ν₁ _ byBytes.order (keeps good).ordered (map word_of os)) ∙ ap (rising byBytes.order) j
      ∙ rising-map ν₂ _ byBytes.order (keeps good').ordered (map word_of os'))) (λ x y l. both j))

  -- ══ The verdict ══

  judged : (bs bs' : List (Binding ℕ)) (ns ns' : List ℕ) (cs cs' : List (Con ℕ)) → map (mapBinding ν₁) bs ≡ map (mapBinding ν₂) bs'
      → map ν₁ ns ≡ map ν₂ ns' → map (mapCon ν₁) cs ≡ map (mapCon ν₂) cs'
      → judge (numbersOf T₁) bounded bs ns cs ≡ judge (numbersOf T₂) bounded bs' ns' cs'
  judged bs bs' ns ns' cs cs' e f g = sym (judge-map _ byBytes ν₁ (keeps good) bounded bs ns cs) ∙ middle e f g
      ∙ judge-map _ byBytes ν₂ (keeps good') bounded bs' ns' cs'
    where
      middle : {a a' : List (Binding Name)} {b b' : List Name} {c c' : List (Con Name)} → a ≡ a' → b ≡ b' → c ≡ c'
          → judge byBytes bounded a b c ≡ judge byBytes bounded a' b' c'
      middle e f g = rw (e, f, g)

  pub judge-alike : (ws ws' : List ℕ) (es es' : List Entry) (ts ts' bs bs' work work' : List ℕ) → Alike good good' ws ws' → EntriesAlike T₁ T₂ es es'
      → Alike good good' ts ts'
      → Alike good good' bs bs' → length work ≡ length work'
      → (judgeCall pool table ws es ts bs work).answer ≡ (judgeCall pool' table' ws' es' ts' bs' work').answer
  unfolding judgeCall judgedSet
  judge-alike ws ws' es es' ts ts' bs bs' work work' e en f g r = equal-answers
      (checked (two-checks (lent-table good good') (lent-work work work' r))
      (checked (two-checks (short (ws ∷ ts ∷ bs ∷ []) (ws' ∷ ts' ∷ bs' ∷ []) (rw (as_long e, as_long f, as_long g)))
      (few es es' (sym (length-map es (λ e. e.place)) ∙ ap length en.places ∙ length-map es' (λ e. e.place))))
      (checked (kept-alike good good')
      (onward _ _ (constraints-given good good' ws ws' e) (λ cs cs' i.
      onward _ _ (entries-given es es' ts ts' en f) (λ xs xs' j.
      onward _ _ (rising-given bs bs' g) (λ ns ns' k.
      checked (apart-alike good good' _ _
      (joined good good' (collect opensCon cs) (collect opensCon cs') (collect opensBinding xs) (collect opensBinding xs')
      (set-opens good good' cs cs' i) (binding-opens good good' xs xs' j)))
      (same-both (judged xs xs' ns ns' cs cs' j k i)))))))))
