-- Doing it twice is doing it once.
use Rattle.std.proofs.Math.Path.{◌≡◌, refl, sym, ap, ap₂}
use Rattle.std.proofs.Common.{◌∙◌, zero-add, add-zero, lt-ltb, ltb-true, eqb-true, eq-eqb, drop_at}
use Rattle.std.specs.Prelude.{Bool, ◌||◌, ltb, length, take, drop, get_or, replicate}
use Rattle.std.proofs.Math.Bool.{true, false, ◌&&◌, or-true}
use mathlib.Core.List.{List, [], ◌∷◌, ◌++◌, append_assoc, append-nil, map}
use Prim.Native.Nat.{ℕ, zero, suc, ◌+◌, ◌*◌, ◌-◌, ◌<◌}
use native.Mathlib.Omega.{arith}
use Rattle.std.proofs.Math.Dec.{eqb}
use Rattle.std.proofs.Math.ListN.{length-drop}
use Rattle.rules.specs.Base.{Got, got, refused, ◌>>◌, oneIf, sum_of}
use Rattle.rules.specs.Batches.{cutSets}
use Rattle.rules.specs.Calls.{over, setGiven}
use Rattle.rules.specs.Names.{Bytes, Table, table_of, names_of, held, used, is_held}
use Rattle.rules.specs.Offices.{namesOne, mapGot, mapCon, nameNo, ReadAlike}
use Rattle.rules.specs.Writing.{kindIn}
use Rattle.laws.specs.Lists.{Every, and_right}
use Rattle.laws.proofs.Lists.{clash}
use Rattle.laws.specs.NameTable.{Good}
use Rattle.laws.proofs.NameTable.{held-is, good-laid, length-names, count-is}
use Rattle.laws.specs.ReadLists.{Words}
use Rattle.theorems_offices.proofs.Given.{set_given}
use Rattle.rules.specs.Compaction.{
  Compacted,
  occurs,
  keeps,
  newNumber,
  renumberIf,
  renumbered,
  consIf,
  keptFrom,
  joined,
  endsFrom,
  poolOf,
  endsOver,
  eachGiven,
  compactChecks,
  compactCall,
  compactIf,
  squeezed,
}
use Rattle.compaction.proofs.Checks.{checks-good, checks-each, checks-row, checks-met}
use Rattle.compaction.proofs.HeldNames.{HeldWords, set-held}
use Rattle.compaction.proofs.Kept.{rank, new-rank, kept-get, kept, after-names, after-good, after-used, poolAfter, tableAfter}
use Rattle.compaction.proofs.Alike.{KeptWords, kept-words}
use Rattle.theorems_offices.proofs.Batches.{four-more}
use Rattle.compaction.proofs.Promise.{cut-renumbered, sets-alike, every_take, every_drop, both-given}

-- ══ Where every name is kept, nothing moves ══

module _ (p : ℕ → Bool) where
  keep_all : (i : ℕ) (ns : List Bytes) → ((j : ℕ) → j < length ns → p (i + j) ≡ true) → keptFrom p i ns ≡ ns
  unfolding keptFrom
  keep_all i [] h = refl
  keep_all i (n ∷ ns) h =
      ap₂ {C = List Bytes} (λ (b : Bool) (ms : List Bytes). consIf b n ms) (sym (ap p (add-zero i)) ∙ h 0 (omega arith))
      (keep_all (suc i) ns (λ j k. ap p (let s : suc i + j ≡ i + suc j = omega arith in s) ∙ h (suc j) (omega arith)))

  number-all : (a : ℕ) → ((j : ℕ) → j < a → p j ≡ true) → newNumber p a ≡ a
  unfolding newNumber
  number-all zero h = refl
  number-all (suc a) h = ap₂ (λ (n : ℕ) (b : Bool). n + oneIf b) (number-all a (λ j k. h j (omega arith))) (h a (omega arith))
      ∙ (let s : a + 1 ≡ suc a = omega arith in s)

  -- each name that is left was kept under its number
  pub record Source (ns : List Bytes) (i j : ℕ) : Type 0 where
    pub from : ℕ
    pub inside : from < length ns
    pub chosen : p (i + from) ≡ true
    pub ranked : rank p i from ≡ j

  source : (i : ℕ) (ns : List Bytes) (j : ℕ) → j < length (keptFrom p i ns) → Source ns i j
  unfolding keptFrom rank
  source i [] j h = absurd (omega arith)
  source i (n ∷ ns) j h = go (p i) refl j h (λ k l. source (suc i) ns k l)
    where
      later : (b : Bool) (k j : ℕ) → p i ≡ b → oneIf b + k ≡ j → Source ns (suc i) k → Source (n ∷ ns) i j
      later b k j e q s = record {
        from = suc s.from;
        inside = omega (arith, s.inside);
        chosen = ap p (let z : i + suc s.from ≡ suc i + s.from = omega arith in z) ∙ s.chosen;
        ranked = ap₂ (λ (c : Bool) (r : ℕ). oneIf c + r) e s.ranked ∙ q;
      }

      go : (b : Bool) → p i ≡ b → (j : ℕ) → j < length (consIf b n (keptFrom p (suc i) ns))
          → ((k : ℕ) → k < length (keptFrom p (suc i) ns) → Source ns (suc i) k) → Source (n ∷ ns) i j
      go true e zero h f = record { from = 0; inside = omega arith; chosen = ap p (add-zero i) ∙ e; ranked = refl }
      go true e (suc j) h f = later true j (suc j) e (omega arith) (f j (omega arith))
      go false e j h f = later false j j e (zero-add j) (f j h)

  occurs-again : (ws : List ℕ) (i : ℕ) → occurs ws i ≡ true → occurs (renumbered p ws) (newNumber p i) ≡ true
  unfolding occurs renumbered
  occurs-again [] i e = absurd (cc)
  occurs-again (w ∷ []) i e = absurd (cc)
  occurs-again (w ∷ a ∷ []) i e = absurd (cc)
  occurs-again (w ∷ a ∷ b ∷ []) i e = absurd (cc)
  occurs-again (w ∷ a ∷ b ∷ c ∷ ws) i e = go (namesOne (kindIn w) b) (eqb a i) refl e (occurs-again ws i)
    where
      go : (n s : Bool) → eqb a i ≡ s → ((n && s) || occurs ws i) ≡ true → (occurs ws i ≡ true → occurs (renumbered p ws) (newNumber p i) ≡ true)
          → ((n && eqb (renumberIf n p a) (newNumber p i)) || occurs (renumbered p ws) (newNumber p i)) ≡ true
      go true true q e f = ap (◌|| occurs (renumbered p ws) (newNumber p i)) (eq-eqb (newNumber p a) (newNumber p i) (ap (newNumber p) (eqb-true a i q)))
      go true false q e f = ap (eqb (newNumber p a) (newNumber p i) ||◌) (f e) ∙ or-true (eqb (newNumber p a) (newNumber p i))
      go false true q e f = f e
      go false false q e f = f e

  length-renumbered : (ws : List ℕ) → length (renumbered p ws) ≡ length ws
  unfolding renumbered
  length-renumbered [] = refl
  length-renumbered (w ∷ []) = refl
  length-renumbered (w ∷ a ∷ []) = refl
  length-renumbered (w ∷ a ∷ b ∷ []) = refl
  length-renumbered (w ∷ a ∷ b ∷ c ∷ ws) = ap (λ (k : ℕ). suc (suc (suc (suc k)))) (length-renumbered ws)

over-made : (ws b : List ℕ) → over ws b ≡ ws ++ drop (length ws) b
unfolding over
over-made ws b = refl

over-front : (ws rest : List ℕ) → over ws (ws ++ rest) ≡ ws ++ rest
unfolding over
over-front ws rest = ap (ws ++◌) (drop_at ws rest (length ws) refl)

-- pool and table made of these names, made again of them
again-pool : (ns : List Bytes) (end : ℕ) (pool : List ℕ) → poolOf ns (length (joined ns)) (poolOf ns end pool) ≡ poolOf ns end pool
unfolding poolOf
again-pool ns end pool =
    let J = joined ns in
    let Z = replicate {A = ℕ} (end - length J) 0 in
    let D = drop (length (J ++ Z)) pool in
    let e : over (J ++ Z) pool ≡ J ++ (Z ++ D) = over-made (J ++ Z) pool ∙ append_assoc J Z D in
    ap₂ (λ (k : ℕ) (b : List ℕ). over (J ++ replicate k 0) b) (let z : length J - length J ≡ 0 = omega arith in z) e
    ∙ ap (λ (j : List ℕ). over j (J ++ (Z ++ D))) (append-nil J) ∙ over-front J (Z ++ D) ∙ sym e

again-table : (ns : List Bytes) (count : ℕ) (table : List ℕ) → endsOver ns (length ns) (endsOver ns count table) ≡ endsOver ns count table
unfolding endsOver
again-table ns count table =
    let E = length ns ∷ endsFrom 0 ns in
    let Z = replicate {A = ℕ} (count - length ns) 0 in
    let D = drop (length (E ++ Z)) table in
    let e : over (E ++ Z) table ≡ E ++ (Z ++ D) = over-made (E ++ Z) table ∙ append_assoc E Z D in
    ap₂ (λ (k : ℕ) (b : List ℕ). over (E ++ replicate k 0) b) (let z : length ns - length ns ≡ 0 = omega arith in z) e
    ∙ ap (λ (j : List ℕ). over j (E ++ (Z ++ D))) (append-nil E) ∙ over-front E (Z ++ D) ∙ sym e

-- ══ All words name held numbers ══

module _ (t : Table) where
  held-parts : (n : ℕ) (ws : List ℕ) → HeldWords t (take (n * 4) ws) → HeldWords t (drop (n * 4) ws) → HeldWords t ws
  unfolding HeldWords
  held-parts zero ws h k = k
  held-parts (suc n) [] h k = tt
  held-parts (suc n) (w ∷ []) h k = tt
  held-parts (suc n) (w ∷ a ∷ []) h k = tt
  held-parts (suc n) (w ∷ a ∷ b ∷ []) h k = tt
  held-parts (suc n) (w ∷ a ∷ b ∷ c ∷ ws) h k = let i = rw (four-more n) at h in (i.0, held-parts n ws i.1 (rw (four-more n) at k))

  held_none : (ws : List ℕ) → 0 ≡ length ws → HeldWords t ws
  unfolding HeldWords
  held_none [] e = tt
  held_none (w ∷ ws) e = absurd (omega arith)

  held_all : (lengths ws : List ℕ) → sum_of (λ n. n) lengths * 4 ≡ length ws → Words ws → eachGiven t (cutSets lengths ws) ≡ got tt → HeldWords t ws
  unfolding cutSets eachGiven
  held_all [] ws s w e = held_none ws s
  held_all (n ∷ ns) ws s w e =
      let b = both-given (setGiven t (take (n * 4) ws)) (eachGiven t (cutSets ns (drop (n * 4) ws))) e in
      held-parts n ws (set-held t (take (n * 4) ws) (every_take (λ x. x < 4_294_967_296) (n * 4) ws w) b.0.0 b.0.1)
      (held_all ns (drop (n * 4) ws) (omega (arith, length-drop (n * 4) ws)) (every_drop (λ x. x < 4_294_967_296) (n * 4) ws w) b.1)

-- ══ The second time ══

given-too : {A A' B : Type 0} (f : A → B) (f' : A' → B) (m : Got A) (m' : Got A') (k k' : Got (Unit {0})) → mapGot f m ≡ mapGot f' m'
    → (m >> k) ≡ got tt → k' ≡ got tt → (m' >> k') ≡ got tt
given-too f f' (refused n) m' k k' s e h = clash e
given-too f f' (got a) (refused n) k k' s e h = absurd (cc)
given-too f f' (got a) (got b) k k' s e h = h

module _ {pool table : List ℕ} (g : Good pool table) (words : List ℕ) where
  abbrev p : ℕ → Bool
  p = keeps (table_of pool table).count words

  abbrev t : Table
  t = table_of pool table

  abbrev pool' : List ℕ
  pool' = poolAfter g p

  abbrev table' : List ℕ
  table' = tableAfter g p

  abbrev t' : Table
  t' = table_of pool' table'

  abbrev p' : ℕ → Bool
  p' = keeps t'.count (renumbered p words)

  each_again : (ss : List (List ℕ)) → Every (λ s. ReadAlike t t' s (renumbered p s)) ss → eachGiven t ss ≡ got tt
      → eachGiven t' (map (renumbered p) ss) ≡ got tt
  unfolding eachGiven
  each_again [] h e = refl
  each_again (s ∷ ss) h e =
      let b = both-given (setGiven t s) (eachGiven t ss) e in
      given-too (map (mapCon (nameNo t))) (map (mapCon (nameNo t'))) (setGiven t s) (setGiven t' (renumbered p s)) (eachGiven t ss)
      (eachGiven t' (map (renumbered p) ss))
      (set_given g (after-good g p) s (renumbered p s) h.0).is e (each_again ss h.1 b.1)

  count-after : t'.count ≡ length (kept g p)
  count-after = count-is pool' table' ∙ sym (length-names (good-laid (after-good g p))) ∙ ap length (after-names g p)

  number-few : (a : ℕ) → is_held t a ≡ true → p a ≡ true → newNumber p a < length (kept g p)
  number-few a h e = (kept-get p (names_of t) a (omega (arith, length-names (good-laid g), ltb-true a (get_or table 0 0) (sym (held-is pool table a) ∙ h))) e).1

  -- every number that is left occurs
  all-occur : (j : ℕ) → j < length (kept g p) → p' j ≡ true
  unfolding keeps
  all-occur j h =
      let s = source p 0 (names_of t) j h in
      let chosen : p s.from ≡ true = sym (ap p (zero-add s.from)) ∙ s.chosen in
      let same : newNumber p s.from ≡ j = new-rank p s.from ∙ s.ranked in
      ap₂ ◌&&◌ (lt-ltb j t'.count (omega (arith, count-after)))
      (sym (ap (occurs (renumbered p words)) same) ∙ occurs-again p words s.from (and_right (ltb s.from t.count) (occurs words s.from) chosen))

  renumbered-again : (ws : List ℕ) → HeldWords t ws → KeptWords g p ws → renumbered p' (renumbered p ws) ≡ renumbered p ws
  unfolding renumbered HeldWords KeptWords
  renumbered-again [] h k = refl
  renumbered-again (w ∷ []) h k = refl
  renumbered-again (w ∷ a ∷ []) h k = refl
  renumbered-again (w ∷ a ∷ b ∷ []) h k = refl
  renumbered-again (w ∷ a ∷ b ∷ c ∷ ws) h k =
      ap₂ {C = List ℕ} (λ (x : ℕ) (xs : List ℕ). w ∷ x ∷ b ∷ c ∷ xs) (go (namesOne (kindIn w) b) h.0 k.0) (renumbered-again ws h.1 k.1)
    where
      go : (n : Bool) → (n ≡ true → is_held t a ≡ true) → (n ≡ true → p a ≡ true) → renumberIf n p' (renumberIf n p a) ≡ renumberIf n p a
      go false h k = refl
      go true h k = number-all p' (newNumber p a) (λ j l. all-occur j (omega (arith, l, number-few a (h refl) (k refl))))

  kept_again : keptFrom p' 0 (names_of t') ≡ kept g p
  kept_again = keep_all p' 0 (names_of t') (λ j h. ap p' (zero-add j) ∙ all-occur j (omega (arith, h, ap length (after-names g p)))) ∙ after-names g p

  abbrev made : List Bytes → ℕ → ℕ → List ℕ → Compacted
  made ns u c ws = record { answer = got (length ns); pool = poolOf ns u pool'; table = endsOver ns c table'; sets = ws }

  squeezed-again : HeldWords t words → squeezed p' pool' table' (renumbered p words) ≡ squeezed p pool table words
  unfolding squeezed
  squeezed-again h =
      let ws = renumbered p' (renumbered p words) in
      ap (λ (ns : List Bytes). made ns (used 0 (held t')) t'.count ws) kept_again
      ∙ ap₂ {C = Compacted} (λ (u c : ℕ). made (kept g p) u c ws) (after-used g p) count-after
      ∙ ap (λ (v : List ℕ). made (kept g p) (length (joined (kept g p))) (length (kept g p)) v)
      (renumbered-again words h (kept-words g words words (λ i o. o) h))
      ∙ ap₂ {C = Compacted} (λ (x y : List ℕ). record { answer = got (length (kept g p)); pool = x; table = y; sets = renumbered p words })
      (again-pool (kept g p) (used 0 (held t)) pool)
      (again-table (kept g p) t.count table)

  checks-again : (lengths : List ℕ) → Words words → compactChecks pool table words lengths ≡ got tt
      → compactChecks pool' table' (renumbered p words) lengths ≡ got tt
  checks-again lengths w e =
      let r = checks-row pool table words lengths e in
      let each = checks-each pool table words lengths e in
      checks-met pool' table' (renumbered p words) lengths (after-good g p) r.0
      (ap (eqb (sum_of (λ n. n) lengths * 4)) (length-renumbered p words) ∙ r.1)
      (ap (eachGiven t') (cut-renumbered p lengths words) ∙ each_again (cutSets lengths words) (sets-alike g words lengths words (λ i o. o) w each) each)

  call-again : (lengths : List ℕ) → Words words → compactChecks pool table words lengths ≡ got tt
      → compactCall pool' table' (renumbered p words) lengths ≡ squeezed p pool table words
  unfolding compactCall compactIf
  call-again lengths w e =
      let h = held_all t lengths words (eqb-true (sum_of (λ n. n) lengths * 4) (length words) (checks-row pool table words lengths e).1) w
      (checks-each pool table words lengths e) in
      rw (checks-again lengths w e) (squeezed-again h)

refused-again : (pool table words lengths : List ℕ) (n : ℕ) → compactChecks pool table words lengths ≡ refused n
    → compactCall pool table words lengths ≡ record { answer = refused n; pool = pool; table = table; sets = words }
unfolding compactCall compactIf
refused-again pool table words lengths n e = rw e

abbrev again : List ℕ → Compacted → Compacted
again lengths r = compactCall r.pool r.table r.sets lengths

twice-by : (pool table words lengths : List ℕ) → Words words → (m : Got (Unit {0})) → compactChecks pool table words lengths ≡ m
    → again lengths (compactIf m pool table words) ≡ compactIf m pool table words
unfolding compactIf squeezed
twice-by pool table words lengths w (refused n) e = refused-again pool table words lengths n e
twice-by pool table words lengths w (got tt) e = call-again (checks-good pool table words lengths e) words lengths w e

-- compacting what was compacted, with the same lengths, changes nothing and answers the same; so does compacting again what was refused
pub twice : (pool table words lengths : List ℕ) → Words words
    → compactCall (compactCall pool table words lengths).pool (compactCall pool table words lengths).table
    (compactCall pool table words lengths).sets lengths ≡ compactCall pool table words lengths
unfolding compactCall
twice pool table words lengths w = twice-by pool table words lengths w (compactChecks pool table words lengths) refl
