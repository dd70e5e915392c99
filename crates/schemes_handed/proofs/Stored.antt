-- What the tables say of each name.
use Rattle.std.specs.Prelude.{◌≡◌, Bool, true, false, ◌⊎◌, set}
use Rattle.std.proofs.Math.Path.{refl, sym, ap}
use Rattle.std.proofs.Common.{◌∙◌, inl, inr, length-set, get_or-set_same, get_or-set_other}
use mathlib.Core.List.Memᴰ
use mathlib.Core.List.{List, [], ◌∷◌}
use Rattle.std.proofs.Math.Option.{Option, none, some}
use Prim.Native.Nat.{ℕ, suc, ◌+◌, ◌*◌, ◌/◌, ◌≤◌, ◌<◌}
use native.Mathlib.Omega.{arith}
use Rattle.std.proofs.Math.Decide.{dec_lt}
use Rattle.std.proofs.Math.ListN.{length, get_or}
use Rattle.std.proofs.lemmas.List.Edits.{sets}
use Rattle.std.proofs.Math.Seq.{length-sets}
use Rattle.rules.specs.Base.{is_yes}
use Rattle.rules.specs.Trees as tree
use Rattle.rules.specs.Trees.{Names, opened}
use Rattle.rules.specs.Writing.{rec, head, words}
use Rattle.laws.specs.Lists.{All, in_head}
use Rattle.laws.proofs.Lists.{yes-is, no-is}
use Rattle.schemes_renaming.specs.Places.{first_equal}
use Rattle.records.specs.Views.{view_of, longOf, recOf}
use Rattle.records.proofs.Buffers.{stored}
use Rattle.records.specs.Places.{recAt, view-some, long-some, seen-in}
use Rattle.records.specs.Holds.{Holds, viewOpen}
use Rattle.records.proofs.Held.{shown}
use Rattle.records.specs.declared.View.TheVariants as view
use Rattle.schemes_handed.specs.Tables.{quantPlaces, quantTypes}
use Rattle.schemes_handed.proofs.Tables.{quant-places-long, quant-types-long}

-- ══ A record that was stored, and the others ══

word-far : (vs d : List ℕ) (i j : ℕ) → (j < i) ⊎ (i + length vs ≤ j) → get_or (sets d i vs) j 0 ≡ get_or d j 0
word-far [] d i j h = refl
word-far (a ∷ vs) d i j (inl h) = word-far vs (set d i a) (suc i) j (inl (omega arith)) ∙ get_or-set_other d i j a 0 (λ e. omega arith)
word-far (a ∷ vs) d i j (inr h) = word-far vs (set d i a) (suc i) j (inr (omega arith)) ∙ get_or-set_other d i j a 0 (λ e. omega arith)

module _ (d : List ℕ) (x : ℕ) (k a b c : ℕ) where
  abbrev d' : List ℕ
  d' = sets d (x * 4) (words (rec k a b c ∷ []))

  long : length d' ≡ length d
  long = length-sets d (x * 4) (words (rec k a b c ∷ []))

  apart : (y n : ℕ) → ¬ (y ≡ x) → n < 4 → (y * 4 + n < x * 4) ⊎ (x * 4 + 4 ≤ y * 4 + n)
  apart y n h l = go (dec_lt y x)
    where
      go : Dec (y < x) → (y * 4 + n < x * 4) ⊎ (x * 4 + 4 ≤ y * 4 + n)
      go (yes i) = inl (omega arith)
      go (no i) = inr (let m : x < y = omega (arith, h) in omega arith)

  word_kept : (y n : ℕ) → ¬ (y ≡ x) → n < 4 → get_or d' (y * 4 + n) 0 ≡ get_or d (y * 4 + n) 0
  unfolding words
  word_kept y n h l = word-far (k ∷ a ∷ b ∷ c ∷ []) d (x * 4) (y * 4 + n) (apart y n h l)

  pub held-far : (y : ℕ) (o : tree.Open ℕ) → ¬ (y ≡ x) → Holds d (opened o) y → Holds d' (opened o) y
  unfolding Holds
  held-far y o h q =
      let z : y * 4 ≡ y * 4 + 0 = omega arith in
      let i : y < length d / 4 = seen-in d y q.0 tt in
      let l = long in
      let e0 : get_or d' (y * 4) 0 ≡ get_or d (y * 4) 0 = ap (λ (n : ℕ). get_or d' n 0) z ∙ word_kept y 0 h (omega arith)
      ∙ ap (λ (n : ℕ). get_or d n 0) (sym z) in
      let e1 = word_kept y 1 h (omega arith) in
      let e2 = word_kept y 2 h (omega arith) in
      let e3 = word_kept y 3 h (omega arith) in
      let e : recAt d' y ≡ recAt d y = cc in
      let j : y < length d' / 4 = omega arith in
      (view-some d' y j ∙ ap view_of e ∙ sym (view-some d y i) ∙ q.0, long-some d' y j ∙ ap longOf e ∙ sym (long-some d y i) ∙ q.1)

  pub held-here : (o : tree.Open ℕ) → rec k a b c ≡ recOf (view.Opened (viewOpen o)) 1 → x < length d / 4 → Holds d' (opened o) x
  unfolding Holds
  held-here o e h = let (u, v, w) = shown d' x 1 (view.Opened (viewOpen o)) (rec k a b c) _ (stored d (rec k a b c ∷ []) x (omega arith)) e tt in (u, v)

-- ══ Handed names ══

module _ (ν : Names ℕ) (pd vd : List ℕ) (pl : 512 ≤ length pd) (vl : 1024 ≤ length vd) where
  -- what is said of the name x by its first place among the handed names
  abbrev pub QuantAt : Option (tree.Open ℕ) → ℕ → List ℕ → List ℕ → Type 0
  QuantAt none x p v = (get_or p x 0 ≡ get_or pd x 0) × (get_or p (256 + x) 0 ≡ get_or pd (256 + x) 0)
  QuantAt (some u) x p v = (get_or p x 0 ≡ x + 1) × ((get_or p (256 + x) 0 ≡ x + 1) × Holds v (opened u) x)

  pub quant-at : (i : ℕ) (xs : List ℕ) → All (λ y. y < 256) xs → (x : ℕ) → x < 256 → QuantAt (first_equal ν i xs x) x (quantPlaces xs pd) (quantTypes i xs vd)
  unfolding first_equal quantPlaces quantTypes
  quant-at i [] h x l = (refl, refl)
  quant-at i (y ∷ xs) h x l = go (is_yes (ν.same y x)) refl (quant-at (suc i) xs (λ z m. h z (Memᴰ.tail m)) x l)
    where
      A : List ℕ
      A = quantPlaces xs pd

      B : List ℕ
      B = quantTypes (suc i) xs vd

      small : y < 256
      small = h y in_head

      -- the words of another name stay
      other : (n : ℕ) → ¬ (n ≡ y) → ¬ (n ≡ 256 + y) → get_or (set (set A y (y + 1)) (256 + y) (y + 1)) n 0 ≡ get_or A n 0
      other n a b = get_or-set_other (set A y (y + 1)) (256 + y) n (y + 1) 0 b ∙ get_or-set_other A y n (y + 1) 0 a

      kept : ¬ (y ≡ x) → (s : Option (tree.Open ℕ)) → QuantAt s x A B
          → QuantAt s x (set (set A y (y + 1)) (256 + y) (y + 1)) (sets B (y * 4) (words (rec (head 14 1) i 0 0 ∷ [])))
      kept n none (a, b) = (
        other x (λ e. n (sym e)) (λ e. let z = small in omega arith)
            ∙ a,
        other (256 + x) (λ e. let z = small in omega arith) (λ e. n (omega arith)) ∙ b,
      )
      kept n (some u) (a, (b, c)) = (
        other x (λ e. n (sym e)) (λ e. let z = small in omega arith)
            ∙ a,
        (
          other (256 + x) (λ e. let z = small in omega arith) (λ e. n (omega arith))
              ∙ b,
          held-far B y (head 14 1) i 0 0 x u (λ e. n (sym e)) c,
        ),
      )

      found : y ≡ x → QuantAt (some (tree.quant i)) x (set (set A y (y + 1)) (256 + y) (y + 1)) (sets B (y * 4) (words (rec (head 14 1) i 0 0 ∷ [])))
      found e =
          let la : length A ≡ length pd = quant-places-long xs pd in
          let lb : length B ≡ length vd = quant-types-long (suc i) xs vd in
          let ls : length (set A x (x + 1)) ≡ length A = simp length-set in
          rw e (
            get_or-set_other (set A x (x + 1)) (256 + x) x (x + 1) 0 (λ z. omega arith) ∙ get_or-set_same A x (x + 1) 0 (omega arith),
            (get_or-set_same (set A x (x + 1)) (256 + x) (x + 1) 0 (omega arith), held-here B x (head 14 1) i 0 0 (tree.quant i) refl (omega arith)),
          )

      go : (b : Bool) → is_yes (ν.same y x) ≡ b → QuantAt (first_equal ν (suc i) xs x) x A B
          → QuantAt (first_equal ν i (y ∷ xs) x) x (set (set A y (y + 1)) (256 + y) (y + 1)) (sets B (y * 4) (words (rec (head 14 1) i 0 0 ∷ [])))
      go true j r = rw (j, first_equal) (found (yes-is (ν.same y x) j))
      go false j r = rw (j, first_equal) (kept (no-is (ν.same y x) j) (first_equal ν (suc i) xs x) r)
