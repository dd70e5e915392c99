-- The tables by which handed names are put back, and each held name becomes itself.
use Rattle.std.specs.Prelude.{◌≡◌, Bool, true, false, cond, List, [], ◌∷◌, ℕ, zero, suc, ◌+◌, ◌*◌, ◌≤◌, ◌<◌, ltb, length, set, replicate}
use Rattle.std.proofs.Math.Path.{refl, ap}
use Rattle.std.proofs.Common.{sym, ◌∙◌, zero-add, arith, get_or-set_same, get_or-set_other}
use Rattle.std.proofs.Math.Option.{Option, none, some}
use Rattle.std.proofs.Math.Decide.{dec_lt}
use borrow.Author.Tests.{lt-ltb, le-ltb}
use Rattle.std.proofs.Math.ListN.{get_or, get_elem?, length-replicate}
use Rattle.std.proofs.lemmas.List.{get_or-replicate}
use Rattle.rules.specs.Base.{and_then, only_if}
use Rattle.rules.specs.Names.{table_of, is_held}
use Rattle.rules.specs.Schemes.{renamed, back}
use Rattle.rules.specs.Trees as tree
use Rattle.rules.specs.Trees.{opened}
use Rattle.rules.specs.WellFormed.{goodTy, goodOpen}
use Rattle.rules.specs.Writing.{head}
use Rattle.laws.specs.Lists.{All}
use Rattle.laws.proofs.NameTable.{held-is}
use Rattle.schemes_renaming.proofs.Again.{there-in, back_is}
use Rattle.schemes_renaming.specs.Places.{own}
use Rattle.schemes_renaming.proofs.Own.{own_is, own-known}
use Rattle.records.specs.Holds.{Holds}
use Rattle.replace.specs.Places.{word_of, SaysAt}
use Rattle.replace.specs.Well.{GoodTy, Lent}
use Rattle.schemes_handed.specs.Tables.{backPlaces, ownPlaces, ownTypes}
use Rattle.schemes_handed.proofs.Tables.{back-places-long, own-places-long, own-types-long}
use Rattle.schemes_handed.proofs.Stored.{held-far, held-here}
use Rattle.schemes_handed.proofs.Said.{renamed-few, renamed-good, past}

-- ══ Words and types ══

back_below : (i : ℕ) (xs d : List ℕ) (j : ℕ) → j < 512 + i → get_or (backPlaces i xs d) j 0 ≡ get_or d j 0
unfolding backPlaces
back_below i [] d j h = refl
back_below i (x ∷ xs) d j h = get_or-set_other (backPlaces (suc i) xs d) (512 + i) j (x + 1) 0 (λ e. omega arith) ∙ back_below (suc i) xs d j (omega arith)

-- the word of the k-th name from i on
unfoldable word_for : Option ℕ → ℕ → ℕ
word_for none w = w
word_for (some x) w = x + 1

back-word : (i : ℕ) (xs d : List ℕ) (k n : ℕ) → n ≡ 512 + (i + k) → 512 + (i + length xs) ≤ length d
    → get_or (backPlaces i xs d) n 0 ≡ word_for (get_elem? xs k) (get_or d n 0)
unfolding backPlaces word_for
back-word i [] d k n e h = refl
back-word i (x ∷ xs) d zero n e h =
    let j : n ≡ 512 + i = omega arith in
    let l = back-places-long (suc i) xs d in
    ap (λ (m : ℕ). get_or (set (backPlaces (suc i) xs d) (512 + i) (x + 1)) m 0) j ∙ get_or-set_same (backPlaces (suc i) xs d) (512 + i) (x + 1) 0 (omega arith)
back-word i (x ∷ xs) d (suc k) n e h =
    get_or-set_other (backPlaces (suc i) xs d) (512 + i) n (x + 1) 0 (λ z. omega arith) ∙ back-word (suc i) xs d k n (omega arith) (omega arith)

own-word : (n : ℕ) (d : List ℕ) (x : ℕ) → n ≤ length d → x < n → get_or (ownPlaces n d) x 0 ≡ x + 1
unfolding ownPlaces
own-word zero d x h l = absurd (omega arith)
own-word (suc m) d x h l = go (dec_lt x m) (λ i. own-word m d x (omega arith) i)
  where
    go : Dec (x < m) → (x < m → get_or (ownPlaces m d) x 0 ≡ x + 1) → get_or (set (ownPlaces m d) m (m + 1)) x 0 ≡ x + 1
    go (yes i) r = get_or-set_other (ownPlaces m d) m x (m + 1) 0 (λ e. omega arith) ∙ r i
    go (no i) r =
        let e : x ≡ m = omega arith in
        let k = own-places-long m d in
        ap (λ (j : ℕ). get_or (set (ownPlaces m d) m (m + 1)) j 0) e ∙ get_or-set_same (ownPlaces m d) m (m + 1) 0 (omega arith) ∙ ap (λ (j : ℕ). j + 1) (sym e)

own-rest : (n : ℕ) (d : List ℕ) (x : ℕ) → n ≤ x → get_or (ownPlaces n d) x 0 ≡ get_or d x 0
unfolding ownPlaces
own-rest zero d x h = refl
own-rest (suc m) d x h = get_or-set_other (ownPlaces m d) m x (m + 1) 0 (λ e. omega arith) ∙ own-rest m d x (omega arith)

own-type : (n : ℕ) (d : List ℕ) (x : ℕ) → n * 4 ≤ length d → x < n → Holds (ownTypes n d) (opened (tree.var x)) x
unfolding ownTypes
own-type zero d x h l = absurd (omega arith)
own-type (suc m) d x h l = go (dec_lt x m) (λ i. own-type m d x (omega arith) i)
  where
    go : Dec (x < m) → (x < m → Holds (ownTypes m d) (opened (tree.var x)) x) → Holds (ownTypes (suc m) d) (opened (tree.var x)) x
    go (yes i) r = held-far (ownTypes m d) m (head 1 1) m 0 0 x (tree.var x) (λ e. omega arith) (r i)
    go (no i) r =
        let e : x ≡ m = omega arith in
        let k = own-types-long m d in
        rw e (held-here (ownTypes m d) m (head 1 1) m 0 0 (tree.var m) refl (omega arith))

-- ══ The renamings ══

module _ (pool table : List ℕ) (few : get_or table 0 0 ≤ 256) where
  abbrev pub held : ℕ
  held = get_or table 0 0

  abbrev pub ownedTypes : List ℕ
  ownedTypes = ownTypes held (replicate 1024 0)

  types-near : length ownedTypes ≤ 4_000_000_000
  types-near = let l = own-types-long held (replicate 1024 0) in let n = length-replicate {A = ℕ} 1024 0 in omega arith

  -- the type of a held name
  own-there : (x : ℕ) → x < held → Holds ownedTypes (opened (tree.var x)) x
  own-there x l = own-type held (replicate 1024 0) x (let n = length-replicate {A = ℕ} 1024 0 in omega arith) l

  zeros : (n j : ℕ) → get_or {A = ℕ} (replicate n 0) j 0 ≡ 0
  zeros n j = go (dec_lt j n)
    where
      go : Dec (j < n) → get_or {A = ℕ} (replicate n 0) j 0 ≡ 0
      go (yes i) = get_or-replicate n j 0 0 i
      go (no i) = past (replicate n 0) j (let l = length-replicate {A = ℕ} n 0 in omega arith)

  -- a name of which the table says nothing
  none_said : (b : Bool) (w : ℕ) → w ≡ 0 → cond b w 0 ≡ 0
  none_said true w e = e
  none_said false w e = refl

  module _ (names : List ℕ) (known : All (λ x. x < held) names) (short : length names ≤ 2048) where
    abbrev pub backedPlaces : List ℕ
    backedPlaces = backPlaces 0 names (replicate 2560 0)

    -- variables and parameters stay
    low_word : (x n : ℕ) → n ≤ 256 → cond (ltb x 256) (get_or backedPlaces (n + x) 0) 0 ≡ 0
    low_word x n h = go (dec_lt x 256)
      where
        go : Dec (x < 256) → cond (ltb x 256) (get_or backedPlaces (n + x) 0) 0 ≡ 0
        go (yes i) = rw (lt-ltb x 256 i) (back_below 0 names (replicate 2560 0) (n + x) (omega arith) ∙ zeros 2560 (n + x))
        go (no i) = rw (le-ltb x 256 (omega arith))

    back-says : (o : tree.Open ℕ) → SaysAt ownedTypes (word_of backedPlaces o) (renamed (back names) o)
    unfolding back Holds word_for
    back-says (tree.var x) = low_word x 0 (omega arith)
    back-says (tree.par x) = low_word x 256 (omega arith)
    back-says (tree.quant i) = go (get_elem? names i) refl
        (back-word 0 names (replicate 2560 0) i (512 + i) (omega arith) (let n = length-replicate {A = ℕ} 2560 0 in omega arith))
      where
        go : (s : Option ℕ) → get_elem? names i ≡ s
            → get_or backedPlaces (512 + i) 0 ≡ word_for (get_elem? names i) (get_or (replicate 2560 0) (512 + i) 0)
            → SaysAt ownedTypes (get_or backedPlaces (512 + i) 0) (and_then (and_then s (λ x. some (tree.var x))) (λ u. some (opened u)))
        go none e w = w ∙ ap (λ (s : Option ℕ). word_for s (get_or (replicate 2560 0) (512 + i) 0)) e ∙ zeros 2560 (512 + i)
        go (some x) e w = record {
          at = x;
          word = w ∙ ap (λ (s : Option ℕ). word_for s (get_or (replicate 2560 0) (512 + i) 0)) e;
          held = own-there x (known x (there-in names i x e));
        }

    pub back-lent : Lent pool table backedPlaces ownedTypes (renamed (back names))
    unfolding goodTy goodOpen back
    back-lent = record {
      tabled = record { says = back-says; few = renamed-few (back names) };
      good = renamed-good pool table (back names)
          (λ o u e. let (i, (x, (j, (k, l)))) = back_is names o u e in rw k (held-is pool table x ∙ lt-ltb x held (known x (there-in names i x l))));
      near = types-near;
    }

  -- ══ Each held name by itself ══

  abbrev pub ownedPlaces : List ℕ
  ownedPlaces = ownPlaces held (replicate 256 0)

  own-says : (o : tree.Open ℕ) → SaysAt ownedTypes (word_of ownedPlaces o) (renamed (own (is_held (table_of pool table))) o)
  unfolding own Holds
  own-says (tree.quant i) = past ownedPlaces (512 + i) (let l = own-places-long held (replicate 256 0) in let n = length-replicate {A = ℕ} 256 0 in omega arith)
  own-says (tree.par x) = none_said (ltb x 256) (get_or ownedPlaces (256 + x) 0)
      (past ownedPlaces (256 + x) (let l = own-places-long held (replicate 256 0) in let n = length-replicate {A = ℕ} 256 0 in omega arith))
  own-says (tree.var x) = go (dec_lt x held)
    where
      go : Dec (x < held) → SaysAt ownedTypes (cond (ltb x 256) (get_or ownedPlaces (0 + x) 0) 0)
          (and_then (only_if (is_held (table_of pool table) x) (tree.var x)) (λ u. some (opened u)))
      go (yes i) = rw (held-is pool table x, lt-ltb x held i, lt-ltb x 256 (omega arith))
          (record {
            at = x;
            word = ap (λ (n : ℕ). get_or ownedPlaces n 0) (zero-add x)
                ∙ own-word held (replicate 256 0) x (let n = length-replicate {A = ℕ} 256 0 in omega arith) i;
            held = own-there x i;
          })
      go (no i) = rw (held-is pool table x, le-ltb x held (omega arith))
          (none_said (ltb x 256) (get_or ownedPlaces (0 + x) 0)
          (ap (λ (n : ℕ). get_or ownedPlaces n 0) (zero-add x) ∙ own-rest held (replicate 256 0) x (omega arith) ∙ zeros 256 x))

  pub own-lent : Lent pool table ownedPlaces ownedTypes (renamed (own (is_held (table_of pool table))))
  unfolding goodTy goodOpen
  own-lent = record {
    tabled = record { says = own-says; few = renamed-few (own (is_held (table_of pool table))) };
    good = renamed-good pool table (own (is_held (table_of pool table))) own-good;
    near = types-near;
  }
    where
      own-good : (o u : tree.Open ℕ) → own (is_held (table_of pool table)) o ≡ some u → GoodTy pool table (opened u)
      own-good o u e = let (x, (i, j)) = own_is (is_held (table_of pool table)) o u e
          in rw (j, i) (own-known (is_held (table_of pool table)) x (sym (ap (own (is_held (table_of pool table))) i) ∙ e))
