-- What the turns of `fill` need: the slots below v fit and stand in the table.
use Rattle.std.specs.Prelude.{Option, Some, None}
use Rattle.std.specs.Option.{is_some}
use mathlib.Core.Path.{◌≡◌, refl, sym, subst, ◌∙◌}
use mathlib.Core.Bool.{true, false}
use mathlib.Core.List.{List}
use Prim.Native.Nat.{ℕ, ◌+◌, ◌/◌, ◌≤◌, ◌<◌}
use native.Mathlib.Numerals.{add-one}
use native.Mathlib.Omega.{arith}
use borrow.Author.Count.{below_more}
use lib.ListN.{length, get_or, set, length-set}
use lib.Seq.{get_or-set_same, get_or-set_other}
use Rattle.records.proofs.ByView.{in_reach}
use Rattle.records.specs.Good.{Ends, GoodTy}
use Rattle.judge_entries.specs.Entries.{bit, taken, slotWord}
use Rattle.laws.proofs.Lists.{true≢false}
use Rattle.judge_entries.specs.Tables.{Fits}

-- ══ A slot ══

bit-few : (o : Option ℕ) → bit o ≤ 1
bit-few None = omega arith
bit-few (Some p) = omega arith

pub bit-yes : (o : Option ℕ) → true ≡ is_some o → 1 ≡ bit o
bit-yes None e = absurd (true≢false e)
bit-yes (Some p) e = refl

pub bit-no : (o : Option ℕ) → false ≡ is_some o → 0 ≡ bit o
bit-no None e = refl
bit-no (Some p) e = absurd (true≢false (sym e))

module _ (pool table types : List ℕ) (x : ℕ) where
  -- whether a type starts at the place of a held name decides
  module _ (place : ℕ) where
    pub word-there : (r : Option ℕ) → x < get_or table 0 0 → Ends (GoodTy pool table 0 types 64 place) r → is_some r ≡ true
        → Fits pool table types x (Some place)
    word-there None l bad i = absurd (true≢false (sym i))
    word-there (Some e) l (t, g) i = λ at q. let k : place ≡ at = cc in (l, (t, (e, subst (λ (j : ℕ). GoodTy pool table 0 types 64 j t e) k g)))

    -- the place of a slot that fits is small
    pub fits-small : Fits pool table types x (Some place) → place < length types / 4
    fits-small fits = let (l, (t, (e, g))) = fits place refl in omega (arith, in_reach types t place g.held)

-- ══ The loop ══

module _ (pool table types : List ℕ) (slots : List (Option ℕ)) (places₀ : List ℕ) where
  pub record SoFar (places : List ℕ) (n v : ℕ) : Type 0 where
    pub within : v ≤ 256
    pub few : n ≤ v
    pub same : length places ≡ length places₀
    pub counted : n ≡ taken slots v
    pub fits : (x : ℕ) → x < v → Fits pool table types x (get_or slots x None)
    pub copied : (x : ℕ) → x < v → get_or places x 0 ≡ slotWord (get_or slots x None)

  pub at-start : SoFar places₀ 0 0
  unfolding taken
  at-start = record {
    within = omega arith;
    few = omega arith;
    same = refl;
    counted = refl;
    fits = λ x l. absurd (omega arith);
    copied = λ x l. absurd (omega arith);
  }

  module _ (places : List ℕ) (n v : ℕ) (s : SoFar places n v) (l : v < 256) where
    add-more : (b : ℕ) → b ≡ bit (get_or slots v None) → n + b ≡ taken slots (v + 1)
    unfolding taken
    add-more b e = rw (add-one v, s.counted, e)

    pub one_more : 256 ≤ length places₀ → (word m : ℕ) → word ≡ slotWord (get_or slots v None) → m ≡ n + bit (get_or slots v None)
        → Fits pool table types v (get_or slots v None) → SoFar (set places v word) m (v + 1)
    one_more long word m e q fits =
        let o : Option ℕ = get_or slots v None in
        let i : v < length places = omega (arith, s.same) in
        record {
          within = omega arith;
          few = omega (arith, q, bit-few o, s.few);
          same = length-set places v word ∙ s.same;
          counted = q ∙ add-more (bit o) refl;
          fits = below_more (λ x. Fits pool table types x (get_or slots x None)) v s.fits fits;
          copied = below_more (λ x. get_or (set places v word) x 0 ≡ slotWord (get_or slots x None)) v
              (λ x h. get_or-set_other places v x word 0 (λ q. omega arith) ∙ s.copied x h)
              (get_or-set_same places v word 0 i ∙ e);
        }
