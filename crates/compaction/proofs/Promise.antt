-- What compaction promises, where it isn't refused.
use Rattle.std.specs.Prelude.{◌≡◌, Bool, true, false, ◌&&◌, ◌||◌, eqb, length, drop}
use Rattle.std.proofs.Math.Path.{refl, ap₂}
use Rattle.std.proofs.Common.{sym, ap, ◌∙◌}
use Rattle.std.proofs.lemmas.Bool.{or_right}
use mathlib.Core.List.{List, [], ◌∷◌, map}
use Prim.Native.Nat.{ℕ, zero, suc, ◌*◌, ◌<◌}
use Rattle.std.proofs.Math.ListN.{take}
use Rattle.rules.specs.Base.{Got, got, refused, ◌>>◌}
use Rattle.rules.specs.Batches.{cutSets}
use Rattle.rules.specs.Calls.{setGiven}
use Rattle.rules.specs.Names.{Bytes, table_of, names_of, held, used, Entered, enterNew}
use Rattle.rules.specs.Offices.{namesOne, ReadAlike}
use Rattle.rules.specs.Trees.{Con}
use Rattle.rules.specs.Writing.{kindIn}
use Rattle.laws.specs.Lists.{Every}
use Rattle.laws.proofs.Lists.{clash}
use Rattle.laws.specs.NameTable.{Good}
use Rattle.laws.proofs.NameTable.{good-given, good-laid, length-names, count-is}
use Rattle.laws.specs.ReadLists.{Words}
use Rattle.theorems_offices.proofs.Batches.{four-more}
use Rattle.theorems_offices.proofs.Offices.{numbering}
use Rattle.rules.specs.Compaction.{occurs, keeps, renumbered, joined, eachGiven, compactChecks, compactCall, compactIf, squeezed}
use Rattle.compaction.specs.Theorems.{goingOn, Promised}
use Rattle.compaction.proofs.Checks.{checks-good, checks-each}
use Rattle.compaction.proofs.HeldNames.{set-held}
use Rattle.compaction.proofs.Kept.{after-names, after-good, after-used, poolAfter, tableAfter}
use Rattle.compaction.proofs.Alike.{alike, kept-words}

-- ══ Sets are cut at whole records ══

module _ (p : ℕ → Bool) where
  take-renumbered : (n : ℕ) (ws : List ℕ) → take (n * 4) (renumbered p ws) ≡ renumbered p (take (n * 4) ws)
  unfolding renumbered
  take-renumbered zero ws = refl
  take-renumbered (suc n) [] = rw (four-more n)
  take-renumbered (suc n) (w ∷ []) = rw (four-more n)
  take-renumbered (suc n) (w ∷ a ∷ []) = rw (four-more n)
  take-renumbered (suc n) (w ∷ a ∷ b ∷ []) = rw (four-more n)
  take-renumbered (suc n) (w ∷ a ∷ b ∷ c ∷ ws) = rw (four-more n, take-renumbered n ws)

  drop-renumbered : (n : ℕ) (ws : List ℕ) → drop (n * 4) (renumbered p ws) ≡ renumbered p (drop (n * 4) ws)
  unfolding renumbered
  drop-renumbered zero ws = refl
  drop-renumbered (suc n) [] = rw (four-more n)
  drop-renumbered (suc n) (w ∷ []) = rw (four-more n)
  drop-renumbered (suc n) (w ∷ a ∷ []) = rw (four-more n)
  drop-renumbered (suc n) (w ∷ a ∷ b ∷ []) = rw (four-more n)
  drop-renumbered (suc n) (w ∷ a ∷ b ∷ c ∷ ws) = rw (four-more n) (drop-renumbered n ws)

  -- the sets afterwards are the sets from before, each renumbered
  pub cut-renumbered : (lengths ws : List ℕ) → cutSets lengths (renumbered p ws) ≡ map (renumbered p) (cutSets lengths ws)
  unfolding cutSets
  cut-renumbered [] ws = refl
  cut-renumbered (n ∷ ns) ws =
      ap₂ {C = List (List ℕ)} (λ (s : List ℕ) (ss : List (List ℕ)). s ∷ ss) (take-renumbered n ws)
      (ap (cutSets ns) (drop-renumbered n ws) ∙ cut-renumbered ns (drop (n * 4) ws))

-- what occurs in a part occurs
behind-one : (x y z : Bool) → (y ≡ true → z ≡ true) → (x || y) ≡ true → (x || z) ≡ true
behind-one true y z f e = refl
behind-one false y z f e = f e

take-occurs : (n : ℕ) (ws : List ℕ) (i : ℕ) → occurs (take (n * 4) ws) i ≡ true → occurs ws i ≡ true
unfolding occurs
take-occurs zero ws i e = clash' e
  where
    clash' : false ≡ true → occurs ws i ≡ true
    clash' e = absurd (cc)
take-occurs (suc n) [] i e = rw (four-more n) at e
take-occurs (suc n) (w ∷ []) i e = rw (four-more n) at e
take-occurs (suc n) (w ∷ a ∷ []) i e = rw (four-more n) at e
take-occurs (suc n) (w ∷ a ∷ b ∷ []) i e = rw (four-more n) at e
take-occurs (suc n) (w ∷ a ∷ b ∷ c ∷ ws) i e =
    behind-one (namesOne (kindIn w) b && eqb a i) (occurs (take (n * 4) ws) i) (occurs ws i) (take-occurs n ws i) (rw (four-more n) at e)

drop-occurs : (n : ℕ) (ws : List ℕ) (i : ℕ) → occurs (drop (n * 4) ws) i ≡ true → occurs ws i ≡ true
unfolding occurs
drop-occurs zero ws i e = e
drop-occurs (suc n) [] i e = rw (four-more n) at e
drop-occurs (suc n) (w ∷ []) i e = absurd (let y : false ≡ true = rw (four-more n) at e in cc)
drop-occurs (suc n) (w ∷ a ∷ []) i e = absurd (let y : false ≡ true = rw (four-more n) at e in cc)
drop-occurs (suc n) (w ∷ a ∷ b ∷ []) i e = absurd (let y : false ≡ true = rw (four-more n) at e in cc)
drop-occurs (suc n) (w ∷ a ∷ b ∷ c ∷ ws) i e = or_right (namesOne (kindIn w) b && eqb a i) (occurs ws i) (drop-occurs n ws i (rw (four-more n) at e))

pub every_take : (P : ℕ → Type 0) (n : ℕ) (ws : List ℕ) → Every P ws → Every P (take n ws)
every_take P zero ws h = tt
every_take P (suc n) [] h = tt
every_take P (suc n) (w ∷ ws) h = (h.0, every_take P n ws h.1)

pub every_drop : (P : ℕ → Type 0) (n : ℕ) (ws : List ℕ) → Every P ws → Every P (drop n ws)
every_drop P zero ws h = h
every_drop P (suc n) [] h = tt
every_drop P (suc n) (w ∷ ws) h = every_drop P n ws h.1

-- ══ Each set reads alike ══

pub both-given : (m : Got (List (Con ℕ))) (k : Got (Unit {0})) → (m >> k) ≡ got tt → ((cs : List (Con ℕ)) × (m ≡ got cs)) × (k ≡ got tt)
both-given (got cs) k e = ((cs, refl), e)
both-given (refused n) k e = clash e

module _ {pool table : List ℕ} (g : Good pool table) (whole : List ℕ) where
  abbrev pub p : ℕ → Bool
  p = keeps (table_of pool table).count whole

  abbrev pub Alikes : List (List ℕ) → Type 0
  Alikes = Every (λ s. ReadAlike (table_of pool table) (table_of (poolAfter g p) (tableAfter g p)) s (renumbered p s))

  pub sets-alike : (lengths ws : List ℕ) → ((i : ℕ) → occurs ws i ≡ true → occurs whole i ≡ true) → Words ws
      → eachGiven (table_of pool table) (cutSets lengths ws) ≡ got tt → Alikes (cutSets lengths ws)
  unfolding cutSets eachGiven
  sets-alike [] ws f w e = tt
  sets-alike (n ∷ ns) ws f w e =
      let s = take (n * 4) ws in
      let b = both-given (setGiven (table_of pool table) s) (eachGiven (table_of pool table) (cutSets ns (drop (n * 4) ws))) e in
      let h = set-held (table_of pool table) s (every_take (λ x. x < 4_294_967_296) (n * 4) ws w) b.0.0 b.0.1 in (
        alike g p s h (kept-words g whole s (λ i o. f i (take-occurs n ws i o)) h),
        sets-alike ns (drop (n * 4) ws) (λ i o. f i (drop-occurs n ws i o)) (every_drop (λ x. x < 4_294_967_296) (n * 4) ws w) b.1,
      )

-- ══ The promise ══

entered-next : {pool table : List ℕ} (g : Good pool table) (name : Bytes) (free : ℕ) → used 0 (held (table_of pool table)) ≡ free
    → enterNew pool table name ≡ goingOn pool table name (length (names_of (table_of pool table))) free
unfolding enterNew
entered-next {pool} {table} g name free e = ap₂ {C = Entered} (goingOn pool table name) (count-is pool table ∙ sym (length-names (good-laid g))) e

pub promised : (pool table words lengths : List ℕ) → Words words → compactChecks pool table words lengths ≡ got tt
    → Promised pool table words lengths (compactCall pool table words lengths)
unfolding compactCall compactIf squeezed
promised pool table words lengths w e =
    let g = checks-good pool table words lengths e in
    let q = keeps (table_of pool table).count words in
    rw e (record {
      names = after-names g q;
      many = ap (λ (ns : List Bytes). got (length ns)) (sym (after-names g q));
      good = good-given (after-good g q);
      cuts = cut-renumbered q lengths words;
      sets = sets-alike g words lengths words (λ i o. o) w (checks-each pool table words lengths e);
      calls = numbering (good-given g) (good-given (after-good g q));
      next = λ name. entered-next (after-good g q) name _ (after-used g q ∙ sym (ap (λ (ns : List Bytes). length (joined ns)) (after-names g q)));
    })
