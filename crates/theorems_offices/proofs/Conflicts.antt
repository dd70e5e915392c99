-- The call that tells which lines conflict: of sets that read alike the same lines do.
use Rattle.std.proofs.Math.Path.{◌≡◌, refl, ap, ap₂, sym}
use Rattle.std.proofs.Common.{◌∙◌}
use Rattle.std.specs.Prelude.{Bool, true, false, ◌&&◌, ℕ, zero, suc, ◌/◌, leb, take, drop}
use Rattle.std.proofs.Math.Option.{Option, none, some}
use mathlib.Core.List.{List, [], ◌∷◌, ◌++◌, map}
use Rattle.std.proofs.Math.ListN.{length, length-map}
use Rattle.std.proofs.lemmas.List.{map-append, take-map, drop-map}
use Rattle.rules.specs.Base.{Got, got, ◌>>=◌, bounded, keep, collect}
use Rattle.rules.specs.Trees.{Names, var, quant, par, Ty, opened, basic, dim, fn, struct, list, Con, equal, isDim, is_scalar, hasField, opensCon}
use Rattle.rules.specs.Names.{Table, table_of}
use Rattle.rules.specs.Solving.{Answer, accepted, remaining, stopped, solve}
use Rattle.rules.specs.Choices.{isSide, wide}
use Rattle.rules.specs.Calls.{over, resultAfter}
use Rattle.rules.specs.Conflicts.{Line, linesFrom, wideOf, remains, conflicting, leaveOut, conflictIn, conflictOf, placesOf, manyOf, conflictCall}
use Rattle.rules.specs.Offices.{Name, Keeps, byBytes, nameNo, mapTy, mapCon, mapAnswer, mapOption, LentAlike, ConflictAlike}
use Rattle.laws.proofs.Lists.{true≢false}
use Rattle.laws.specs.NameTable.{Good}
use Rattle.laws.proofs.Alike.{both, neither, onward}
use Rattle.theorems_offices.proofs.Both.{Both, through, checked}
use Rattle.theorems_offices.proofs.Contents.{keep-map}
use Rattle.theorems_offices.proofs.Given.{Alike, as_long, short, kept-alike, lent_alike, constraints-given, apart-alike, set-opens}
use Rattle.theorems_offices.proofs.Naming.{keeps}
use Rattle.theorems_offices.proofs.Over.{Over, next, gives, same_over}
use Rattle.theorems_offices.proofs.Results.{front-over}
use Rattle.theorems_offices.proofs.Solving.{solve-map}

-- ══ Lines with other names ══

module _ {N M : Type 0} (f : N → M) where
  abbrev mapLine : Line N → Line M
  mapLine l = (l.0, mapCon f l.1)

  side-map : (t : Ty N) → isSide (mapTy f t) ≡ isSide t
  unfolding isSide mapTy
  side-map (opened (var x)) = refl
  side-map (opened (quant i)) = refl
  side-map (opened (par x)) = refl
  side-map (basic b) = refl
  side-map (dim p) = refl
  side-map (fn ps r) = refl
  side-map (struct n as' fs) = refl
  side-map (list t) = refl

  wide-map : (c : Con N) → wide (mapCon f c) ≡ wide c
  unfolding wide mapCon
  wide-map (equal s t) = ap₂ ◌&&◌ (side-map s) (side-map t)
  wide-map (isDim t) = side-map t
  wide-map (is_scalar p) = refl
  wide-map (hasField n s t) = refl

  constraints-map : (ls : List (Line N)) → map (λ l. l.1) (map mapLine ls) ≡ map (mapCon f) (map (λ l. l.1) ls)
  constraints-map [] = refl
  constraints-map (l ∷ ls) = ap (λ (cs : List (Con M)). mapCon f l.1 ∷ cs) (constraints-map ls)

  pub places-map : (ls : List (Line N)) → map (λ l. l.0) (map mapLine ls) ≡ map (λ l. l.0) ls
  places-map [] = refl
  places-map (l ∷ ls) = ap (λ (ns : List ℕ). l.0 ∷ ns) (places-map ls)

  lines-map : (i : ℕ) (cs : List (Con N)) → linesFrom i (map (mapCon f) cs) ≡ map mapLine (linesFrom i cs)
  unfolding linesFrom
  lines-map i [] = refl
  lines-map i (c ∷ cs) = ap (λ (ls : List (Line M)). (i, mapCon f c) ∷ ls) (lines-map (suc i) cs)

  wide-of : (ls : List (Line N)) → wideOf (map mapLine ls) ≡ map (mapCon f) (wideOf ls)
  wide-of ls = ap (keep wide) (constraints-map ls) ∙ keep-map (mapCon f) wide wide wide-map (map (λ l. l.1) ls)

  remains-map : (a : Answer N) → remains (mapAnswer f a) ≡ remains a
  unfolding remains mapAnswer
  remains-map (accepted bs ns k) = refl
  remains-map (remaining cs k) = refl
  remains-map (stopped n k) = refl

-- ══ Leaving lines out ══

module _ {N M : Type 0} (ν : Names N) (μ : Names M) (f : N → M) (keeps : Keeps ν μ f) where
  conflicting-map : (ls : List (Line N)) → conflicting μ (map (mapLine f) ls) ≡ conflicting ν ls
  unfolding conflicting
  conflicting-map ls = rw (wide-of f ls, solve-map ν μ f keeps bounded (wideOf ls)) (remains-map f (solve ν bounded (wideOf ls)))

  looked : (kept behind : List (Line N)) → Over (λ r. r) (conflicting ν (kept ++ behind)) (conflicting μ (map (mapLine f) kept ++ map (mapLine f) behind))
  looked kept behind = rw (← map-append (mapLine f) kept behind, conflicting-map (kept ++ behind)) (same_over (conflicting ν (kept ++ behind)))

  abbrev Leaves : ℕ → Type 0
  Leaves d = (kept ls behind : List (Line N)) → Over (map (mapLine f)) (leaveOut ν d kept ls behind)
      (leaveOut μ d (map (mapLine f) kept) (map (mapLine f) ls) (map (mapLine f) behind))

  leave-map : (d : ℕ) → Leaves d
  unfolding leaveOut
  leave-map zero kept ls behind = next (looked kept behind) (λ r r' i. rw i (last r))
    where
      last : (r : Bool) → Over (map (mapLine f)) (elim r [ true ↦ got kept | false ↦ got (kept ++ ls) ])
          (elim r [ true ↦ got (map (mapLine f) kept) | false ↦ got (map (mapLine f) kept ++ map (mapLine f) ls) ])
      last true = gives refl
      last false = gives (sym (map-append (mapLine f) kept ls))
  leave-map (suc d) kept ls behind = next (looked kept behind) (λ r r' i. rw i (half (leave-map d) r))
    where
      n : ℕ
      n = length ls / 2

      halves : Leaves d → Over (map (mapLine f)) (leaveOut ν d kept (take n ls) (drop n ls ++ behind) >>= λ more. leaveOut ν d more (drop n ls) behind)
          (leaveOut μ d (map (mapLine f) kept) (take n (map (mapLine f) ls)) (drop n (map (mapLine f) ls) ++ map (mapLine f) behind)
          >>= λ more. leaveOut μ d more (drop n (map (mapLine f) ls)) (map (mapLine f) behind))
      halves by = rw (take-map (mapLine f) n ls, drop-map (mapLine f) n ls, ← map-append (mapLine f) (drop n ls) behind)
          (next (by kept (take n ls) (drop n ls ++ behind)) (λ more more' i. rw i (by more (drop n ls) behind)))

      single : Leaves d → (b b' : Bool) → b' ≡ b → Over (map (mapLine f)) (elim b [
        | true ↦ got (kept ++ ls)
        | false ↦ leaveOut ν d kept (take n ls) (drop n ls ++ behind) >>= λ more. leaveOut ν d more (drop n ls) behind
      ]) (elim b' [
        | true ↦ got (map (mapLine f) kept ++ map (mapLine f) ls)
        | false ↦ leaveOut μ d (map (mapLine f) kept) (take (length (map (mapLine f) ls) / 2) (map (mapLine f) ls))
            (drop (length (map (mapLine f) ls) / 2) (map (mapLine f) ls) ++ map (mapLine f) behind)
            >>= λ more. leaveOut μ d more (drop (length (map (mapLine f) ls) / 2) (map (mapLine f) ls)) (map (mapLine f) behind)
      ])
      single by true true e = gives (sym (map-append (mapLine f) kept ls))
      single by false false e = rw (length-map ls (mapLine f)) (halves by)
      single by true false e = absurd (true≢false (sym e))
      single by false true e = absurd (true≢false e)

      half : Leaves d → (r : Bool) → Over (map (mapLine f)) (elim r [
        | true ↦ got kept
        | false ↦ elim (leb (length ls) 1) [
          | true ↦ got (kept ++ ls)
          | false ↦ leaveOut ν d kept (take n ls) (drop n ls ++ behind) >>= λ more. leaveOut ν d more (drop n ls) behind
        ]
      ]) (elim r [
        | true ↦ got (map (mapLine f) kept)
        | false ↦ elim (leb (length (map (mapLine f) ls)) 1) [
          | true ↦ got (map (mapLine f) kept ++ map (mapLine f) ls)
          | false ↦ leaveOut μ d (map (mapLine f) kept) (take (length (map (mapLine f) ls) / 2) (map (mapLine f) ls))
              (drop (length (map (mapLine f) ls) / 2) (map (mapLine f) ls) ++ map (mapLine f) behind)
              >>= λ more. leaveOut μ d more (drop (length (map (mapLine f) ls) / 2) (map (mapLine f) ls)) (map (mapLine f) behind)
        ]
      ])
      half by true = gives refl
      half by false =
          single by (leb (length ls) 1) (leb (length (map (mapLine f) ls)) 1) (ap (λ (k : ℕ). leb k 1) (length-map ls (mapLine f)))

  pub conflict-in : (cs : List (Con N)) → Over (mapOption (map (mapLine f))) (conflictIn ν cs) (conflictIn μ (map (mapCon f) cs))
  unfolding conflictIn
  conflict-in cs = next whole (λ r r' i. rw i (found r))
    where
      whole : Over (λ r. r) (conflicting ν (linesFrom 0 cs)) (conflicting μ (linesFrom 0 (map (mapCon f) cs)))
      whole = rw (lines-map f 0 cs, conflicting-map (linesFrom 0 cs)) (same_over (conflicting ν (linesFrom 0 cs)))

      found : (r : Bool) → Over (mapOption (map (mapLine f))) (elim r [
        | true ↦ leaveOut ν 11 [] (linesFrom 0 cs) [] >>= λ ls. got (some ls)
        | false ↦ got none
      ]) (elim r [ true ↦ leaveOut μ 11 [] (linesFrom 0 (map (mapCon f) cs)) [] >>= λ ls. got (some ls) | false ↦ got none ])
      found true = rw (lines-map f 0 cs) (next (leave-map 11 [] (linesFrom 0 cs) []) (λ ls ls' i. gives (rw i)))
      found false = gives refl

-- ══ The call ══

module _ {pool table pool' table' : List ℕ} (good : Good pool table) (good' : Good pool' table') where
  -- the two tables, and the names of their numbers
  abbrev T₁ : Table
  T₁ = table_of pool table

  abbrev T₂ : Table
  T₂ = table_of pool' table'

  abbrev ν₁ : ℕ → Name
  ν₁ = nameNo T₁

  abbrev ν₂ : ℕ → Name
  ν₂ = nameNo T₂

  conflict-of : (ws ws' : List ℕ) → Alike good good' ws ws'
      → Both (mapOption (map (mapLine ν₁))) (mapOption (map (mapLine ν₂))) (conflictOf T₁ ws) (conflictOf T₂ ws')
  unfolding conflictOf
  conflict-of ws ws' e =
      checked (short (ws ∷ []) (ws' ∷ []) (rw (as_long e)))
      (checked (kept-alike good good')
      (onward _ _ (constraints-given good good' ws ws' e) (λ cs cs' i.
      checked (apart-alike good good' (collect opensCon cs) (collect opensCon cs') (set-opens good good' cs cs' i))
      (through (conflict-in _ byBytes ν₁ (keeps good) cs) (conflict-in _ byBytes ν₂ (keeps good') cs') (ap (conflictIn byBytes) i)))))

  places-alike : (ls ls' : List (Line ℕ)) → map (mapLine ν₁) ls ≡ map (mapLine ν₂) ls' → map (λ l. l.0) ls ≡ map (λ l. l.0) ls'
  places-alike ls ls' e = sym (places-map ν₁ ls) ∙ ap (map (λ l. l.0)) e ∙ places-map ν₂ ls'

  fronted : (ls : List (Line ℕ)) (b : List ℕ) → take (length ls) (over (placesOf (some ls)) b) ≡ map (λ l. l.0) ls
  fronted ls b = let e = front-over (map (λ l. l.0) ls) b in rw (length-map ls (λ l. l.0)) at e

  told : {m m' : Got (Option (List (Line ℕ)))} (b b' w w' : List ℕ) → Both (mapOption (map (mapLine ν₁))) (mapOption (map (mapLine ν₂))) m m'
      → ConflictAlike (record { answer = m >>= λ f. got (manyOf f); result = resultAfter (m >>= λ f. got (placesOf f)) b; work = w })
      (record { answer = m' >>= λ f. got (manyOf f); result = resultAfter (m' >>= λ f. got (placesOf f)) b'; work = w' })
  unfolding resultAfter
  told b b' w w' neither = record { answer = refl; places = refl }
  told b b' w w' (both {a = none} {b = none} e) = record { answer = refl; places = refl }
  told b b' w w' (both {a = none} {b = some ls'} e) = absurd (cc)
  told b b' w w' (both {a = some ls} {b = none} e) = absurd (cc)
  told b b' w w' (both {a = some ls} {b = some ls'} e) =
      let i : map (mapLine ν₁) ls ≡ map (mapLine ν₂) ls' = cc in
      let p = places-alike ls ls' i in
      record {
        answer = ap (λ (k : ℕ). got (some k)) (sym (length-map ls (λ l. l.0)) ∙ ap length p ∙ length-map ls' (λ l. l.0));
        places = fronted ls b ∙ p ∙ sym (fronted ls' b');
      }

  pub conflict-alike : (ws ws' result result' work work' : List ℕ) → Alike good good' ws ws' → LentAlike result result' work work'
      → ConflictAlike (conflictCall pool table ws result work) (conflictCall pool' table' ws' result' work')
  unfolding conflictCall
  conflict-alike ws ws' result result' work work' e r =
      told result result' _ _ (checked (lent_alike good good' result result' work work' r) (conflict-of ws ws' e))
