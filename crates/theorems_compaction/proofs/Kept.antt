-- Which names compaction keeps, by what the sets' words read with names: those that stand there.
use Rattle.std.proofs.Math.Path.{◌≡◌, refl, sym, ap, ap₂}
use Rattle.std.proofs.Common.{◌∙◌, zero-add, add-zero, lt-ltb, ltb-true, eqb-true, eq-eqb}
use Rattle.std.specs.Prelude.{Bool, ◌||◌, length, get_or}
use Rattle.std.proofs.Math.Bool.{true, false, ◌&&◌, or-true, and-false}
use mathlib.Core.List.{List, [], ◌∷◌}
use Prim.Native.Nat.{ℕ, zero, suc, ◌+◌, ◌<◌}
use native.Mathlib.Omega.{arith}
use Rattle.std.proofs.Math.Dec.{eqb}
use Rattle.rules.specs.Base.{any, keep}
use Rattle.rules.specs.Compaction.{occurs, keeps, keptFrom}
use Rattle.rules.specs.Names.{Bytes, table_of, names_of, sameBytes, is_held}
use Rattle.rules.specs.Offices.{Name, named, stray, Word, number, name, nameNo, namesOne, wordIf, readBack}
use Rattle.rules.specs.Writing.{kindIn}
use Rattle.laws.proofs.Lists.{true≢false}
use Rattle.laws.specs.NameTable.{Good}
use Rattle.laws.proofs.NameTable.{held-is, same-no, good-laid, good-distinct, length-names, distinct-same, same-yes}
use Rattle.theorems_compaction.proofs.Counting.{Among, among-keep}

-- ══ A name among words ══

abbrev pub isIt : Bytes → Name → Bool
isIt m (named n) = sameBytes m n
isIt m (stray i) = false

abbrev pub wordIs : Bytes → Word → Bool
wordIs m (number n) = false
wordIs m (name n) = isIt m n

abbrev pub stands : List Word → Bytes → Bool
stands ws m = any (wordIs m) ws

-- ══ Kept by number, kept by name ══

-- where a test by number and one by name agree
by_name : (p : ℕ → Bool) (q : Bytes → Bool) (i : ℕ) (ns : List Bytes) → ((j : ℕ) → j < length ns → p (i + j) ≡ q (get_or ns j [])) → keptFrom p i ns ≡ keep q ns
unfolding keptFrom keep
by_name p q i [] h = refl
by_name p q i (n ∷ ns) h = go (q n) (sym (ap p (add-zero i)) ∙ h 0 (omega arith)) refl
    (by_name p q (suc i) ns (λ j k. ap p (let s : suc i + j ≡ i + suc j = omega arith in s) ∙ h (suc j) (omega arith)))
  where
    go : (b : Bool) → p i ≡ q n → q n ≡ b → keptFrom p (suc i) ns ≡ keep q ns → keptFrom p i (n ∷ ns) ≡ keep q (n ∷ ns)
    go true e f k = rw (e, f, keep, keptFrom) (ap (λ (ms : List Bytes). n ∷ ms) k)
    go false e f k = rw (e, f, keep, keptFrom) k

module _ {pool table : List ℕ} (g : Good pool table) where
  abbrev names : List Bytes
  names = names_of (table_of pool table)

  few : (i : ℕ) → is_held (table_of pool table) i ≡ true → i < length names
  few i h = let k = ltb-true i (get_or table 0 0) (sym (held-is pool table i) ∙ h) in omega (arith, k, length-names (good-laid g))

  held : (i : ℕ) → i < length names → is_held (table_of pool table) i ≡ true
  held i h = held-is pool table i ∙ lt-ltb i (get_or table 0 0) (omega (arith, h, length-names (good-laid g)))

  -- a held number is this one where its name is this one's
  same-number : (i a : ℕ) → i < length names → isIt (get_or names i []) (nameNo (table_of pool table) a) ≡ eqb a i
  unfolding nameNo
  same-number i a h = go (is_held (table_of pool table) a) refl (eqb a i) refl
    where
      go : (b : Bool) → is_held (table_of pool table) a ≡ b → (c : Bool) → eqb a i ≡ c → isIt (get_or names i []) (nameNo (table_of pool table) a) ≡ eqb a i
      go true k true e = rw (k, e) (same-yes (get_or names i []) (get_or names a []) (ap (λ (j : ℕ). get_or names j []) (sym (eqb-true a i e))))
      go true k false e = rw (k, e) (same-no (get_or names i []) (get_or names a []) (λ q.
          let d : i ≡ a = distinct-same names (good-distinct g) i a h (few a k) q in
          true≢false (sym (eq-eqb a i (sym d)) ∙ e)))
      go false k true e = absurd (true≢false (sym (held i h) ∙ ap (is_held (table_of pool table)) (sym (eqb-true a i e)) ∙ k))
      go false k false e = rw (k, e)

  -- a held number occurs where its name stands
  occurs-named : (i : ℕ) → i < length names → (ws : List ℕ) → occurs ws i ≡ stands (readBack (table_of pool table) ws) (get_or names i [])
  unfolding occurs readBack any
  occurs-named i h [] = refl
  occurs-named i h (w ∷ []) = refl
  occurs-named i h (w ∷ a ∷ []) = refl
  occurs-named i h (w ∷ a ∷ b ∷ []) = refl
  occurs-named i h (w ∷ a ∷ b ∷ c ∷ ws) = ap₂ (λ (x y : Bool). x || y) (one (namesOne (kindIn w) b)) (occurs-named i h ws)
    where
      one : (n : Bool) → (n && eqb a i) ≡ wordIs (get_or names i []) (wordIf n (table_of pool table) a)
      one true = sym (same-number i a h)
      one false = refl

  -- ══ Names that stand in words ══

  -- a name that stands in words that are read is one of the table's
  among-get : (m : Bytes) (ns : List Bytes) (a : ℕ) → a < length ns → sameBytes m (get_or ns a []) ≡ true → Among m ns ≡ true
  unfolding any
  among-get m [] a h e = absurd (omega arith)
  among-get m (n ∷ ns) zero h e = ap (◌|| Among m ns) e
  among-get m (n ∷ ns) (suc a) h e = let k = among-get m ns a (omega arith) e in ap (sameBytes m n ||◌) k ∙ or-true (sameBytes m n)

  stands-named : (m : Bytes) (a : ℕ) → isIt m (nameNo (table_of pool table) a) ≡ true → Among m names ≡ true
  unfolding nameNo
  stands-named m a e = go (is_held (table_of pool table) a) refl
    where
      go : (b : Bool) → is_held (table_of pool table) a ≡ b → Among m names ≡ true
      go true k = among-get m names a (few a k) (rw k at e)
      go false k = absurd (true≢false (sym (rw k at e)))

  pub stands-among : (m : Bytes) (ws : List ℕ) → stands (readBack (table_of pool table) ws) m ≡ true → Among m names ≡ true
  unfolding readBack any
  stands-among m [] e = absurd (true≢false (sym e))
  stands-among m (w ∷ []) e = absurd (true≢false (sym e))
  stands-among m (w ∷ a ∷ []) e = absurd (true≢false (sym e))
  stands-among m (w ∷ a ∷ b ∷ []) e = absurd (true≢false (sym e))
  stands-among m (w ∷ a ∷ b ∷ c ∷ ws) e = go (namesOne (kindIn w) b) e (stands-among m ws)
    where
      either : (x : Bool) → (x ≡ true → Among m names ≡ true) → (x || stands (readBack (table_of pool table) ws) m) ≡ true
          → (stands (readBack (table_of pool table) ws) m ≡ true → Among m names ≡ true) → Among m names ≡ true
      either true f e k = f refl
      either false f e k = k e

      go : (n : Bool) → (wordIs m (wordIf n (table_of pool table) a) || stands (readBack (table_of pool table) ws) m) ≡ true
          → (stands (readBack (table_of pool table) ws) m ≡ true → Among m names ≡ true) → Among m names ≡ true
      go true e k = either (isIt m (nameNo (table_of pool table) a)) (stands-named m a) e k
      go false e k = k e

  -- ══ The names that are kept ══

  -- the names that are kept are those that stand in the sets
  pub kept-stands : (ws : List ℕ) (m : Bytes) → Among m (keptFrom (keeps (table_of pool table).count ws) 0 names) ≡ stands (readBack (table_of pool table) ws) m
  unfolding keeps
  kept-stands ws m =
      ap (Among m) (by_name (keeps (table_of pool table).count ws) (stands (readBack (table_of pool table) ws)) 0 names (λ j h. kept-if j h))
      ∙ among-keep (stands (readBack (table_of pool table) ws)) m names
      ∙ both (stands (readBack (table_of pool table) ws) m) refl
    where
      kept-if : (j : ℕ) → j < length names → keeps (table_of pool table).count ws (0 + j) ≡ stands (readBack (table_of pool table) ws) (get_or names j [])
      kept-if j h = ap (keeps (table_of pool table).count ws) (zero-add j) ∙ ap₂ (λ (x y : Bool). x && y) (held j h) (occurs-named j h ws)

      both : (b : Bool) → stands (readBack (table_of pool table) ws) m ≡ b
          → (Among m names && stands (readBack (table_of pool table) ws) m) ≡ stands (readBack (table_of pool table) ws) m
      both true e = ap (◌&& stands (readBack (table_of pool table) ws) m) (stands-among m ws e)
      both false e = rw e (and-false (Among m names))
