-- What follows from the definitions of specs/Filling: bindings noted in a table of places, one after another: the first of a variable counts.
use Rattle.std.proofs.Math.Path.{◌≡◌, refl}
use Rattle.std.proofs.Common.{sym, ap, subst, ◌∙◌, get_or-set_same, get_or-set_other}
use Rattle.std.specs.Prelude.{Bool, ℕ, ◌+◌, ◌≤◌, ◌<◌, eqb, length, get_or, set, replicate}
use Rattle.std.proofs.Math.Bool.{true, false, cond, and-eq-true_iff}
use mathlib.Core.List.{List, [], ◌∷◌}
use Rattle.std.proofs.Math.Option.{Option, none, some}
use Rattle.std.proofs.Math.Decide.{ℕ_discrete}
use native.Mathlib.Omega.{arith}
use Rattle.std.proofs.Math.Dec.{ltb}
use Rattle.std.proofs.lemmas.List.{get_or-replicate}
use Rattle.std.proofs.Math.ListN.{get_or-eq_default}
use borrow.Author.Tests.{eq-eqb, ne_eqb, eqb-true, eqb-false, ltb-true, ltb-false}
use Rattle.rules.specs.Base.{all, is_yes}
use Rattle.rules.specs.Names.{Bytes, numbered, table_of, is_held}
use Rattle.rules.specs.Replacing.{find, bindings}
use Rattle.rules.specs.Trees.{Open, var, quant, par, Names, Ty, Binding, ◌≔◌, size}
use Rattle.rules.specs.WellFormed.{goodTy, goodBinding}
use Rattle.laws.specs.NameTable.{Good}
use Rattle.laws.proofs.NameTable.{good-laid}
use Rattle.records.specs.Holds.{Holds}
use Rattle.records.specs.Views.{viewAt}
use Rattle.records.specs.declared.View.TheVariants as view
use Rattle.replace.specs.Places.{word_of, SaysAt}
use Rattle.types.specs.Binds.{IsBinds}
use Rattle.replace.proofs.Runs.{First, run-first, run_none, run-order, find-here, find-on, looked-short, looked-good}
use Rattle.replace.specs.Well.{names, Listed, Lent}
use Rattle.replace_table.specs.Filling.{noted}

pub noted-first : (places places' : List ℕ) (y w : ℕ) → get_or places y 0 ≡ 0 → places' ≡ set places y w → places' ≡ noted places y w
noted-first places places' y w z h = h ∙ sym (ap (λ (b : Bool). cond b (set places y w) places) (eq-eqb (get_or places y 0) 0 z))

pub noted-before : (places : List ℕ) (y w : ℕ) → (get_or places y 0 ≡ 0 → ⊥) → places ≡ noted places y w
noted-before places y w z = sym (ap (λ (b : Bool). cond b (set places y w) places) (ne_eqb (get_or places y 0) 0 z))

module _ (v : List ℕ) where
  -- a word on the way: what all bindings say of its name is what those to come say, or what the word says
  pub record SoFar (w : ℕ) (whole rest : Option (Ty ℕ)) : Type 0 where
    pub unset : w ≡ 0 → whole ≡ rest
    pub bound : (w ≡ 0 → ⊥) → SaysAt v w whole

  pub record Going (bs : List (Binding ℕ)) (places : List ℕ) (i e : ℕ) : Type 0 where
    pub rest : List (Binding ℕ)
    pub run : IsBinds v i e rest
    pub words : (names : List Bytes) (x : ℕ) → x < 256 → SoFar (get_or places x 0) (find (numbered names) bs x) (find (numbered names) rest x)

  pub going_start : (bs : List (Binding ℕ)) (places : List ℕ) (b e : ℕ) → places ≡ replicate 256 0 → IsBinds v b e bs → Going bs places b e
  going_start bs places b e q r = record {
    rest = bs;
    run = r;
    words = λ names x h. record { unset = λ z. refl; bound = λ n. absurd (n (ap (λ (l : List ℕ). get_or l x 0) q ∙ get_or-replicate 256 x 0 0 h)) };
  }

  module _ {bs : List (Binding ℕ)} {places : List ℕ} {i e : ℕ} (g : Going bs places i e) (lt : i < e) (long : length places ≡ 256) where
    pub first : First v i e g.rest
    first = run-first v i e g.rest g.run lt

    -- the word of the first of what is left
    here : (names : List Bytes) (x : ℕ) → x < 256 → x ≡ first.name
        → SoFar (get_or (noted places first.name (i + 2)) x 0) (find (numbered names) bs x) (find (numbered names) first.rest x)
    here names x h q = go (eqb (get_or places first.name 0) 0) refl
      where
        y : ℕ
        y = first.name

        s : SoFar (get_or places x 0) (find (numbered names) bs x) (find (numbered names) g.rest x)
        s = g.words names x h

        go : (b : Bool) → eqb (get_or places y 0) 0 ≡ b
            → SoFar (get_or (cond b (set places y (i + 2)) places) x 0) (find (numbered names) bs x) (find (numbered names) first.rest x)
        go true z =
            let k : get_or (set places y (i + 2)) x 0 ≡ i + 2 = ap (λ (j : ℕ). get_or (set places y (i + 2)) j 0) q
            ∙ get_or-set_same places y (i + 2) 0 (omega (arith, long, q)) in
            let was : get_or places x 0 ≡ 0 = ap (λ (j : ℕ). get_or places j 0) q ∙ eqb-true (get_or places y 0) 0 z in
            let f : find (numbered names) bs x ≡ some first.type = s.unset was ∙ find-here v names i e x g.rest first (eq-eqb x y q) in
            record { unset = λ o. absurd (omega (arith, k, o)); bound = λ n. rw f (record { at = i + 1; word = omega (arith, k); held = first.held }) }
        go false z =
            let was : get_or places x 0 ≡ 0 → ⊥ = λ w. eqb-false (get_or places y 0) 0 z (ap (λ (j : ℕ). get_or places j 0) (sym q) ∙ w) in
            record { unset = λ o. absurd (was o); bound = s.bound }

    -- the word of another name
    other : (names : List Bytes) (x : ℕ) → x < 256 → (x ≡ first.name → ⊥)
        → SoFar (get_or (noted places first.name (i + 2)) x 0) (find (numbered names) bs x) (find (numbered names) first.rest x)
    other names x h q = go (eqb (get_or places first.name 0) 0)
      where
        y : ℕ
        y = first.name

        s : SoFar (get_or places x 0) (find (numbered names) bs x) (find (numbered names) first.rest x)
        s = let w = g.words names x h in record { unset = λ o. w.unset o ∙ find-on v names i e x g.rest first (ne_eqb x y q); bound = w.bound }

        go : (b : Bool) → SoFar (get_or (cond b (set places y (i + 2)) places) x 0) (find (numbered names) bs x) (find (numbered names) first.rest x)
        go true = subst (λ (w : ℕ). SoFar w (find (numbered names) bs x) (find (numbered names) first.rest x)) (sym (get_or-set_other places y x (i + 2) 0 q)) s
        go false = s

    pub going_on : {q : ℕ} {places' : List ℕ} → ((y : ℕ) → viewAt v i ≡ view.Binding y → places' ≡ noted places y (i + 2))
        → ((t : Ty ℕ) → Holds v t (i + 1) → q ≡ i + 1 + size t) → Going bs places' q e
    going_on {q} {places'} n h = record {
      rest = first.rest;
      run = subst (λ (k : ℕ). IsBinds v k e first.rest) (sym (h first.type first.held)) first.run;
      words = λ names x k. subst (λ (l : List ℕ). SoFar (get_or l x 0) (find (numbered names) bs x) (find (numbered names) first.rest x))
          (sym (n first.name first.shows)) (pick names x k (ℕ_discrete x first.name));
    }
      where
        pick : (names : List Bytes) (x : ℕ) → x < 256 → Dec (x ≡ first.name)
            → SoFar (get_or (noted places first.name (i + 2)) x 0) (find (numbered names) bs x) (find (numbered names) first.rest x)
        pick names x k (yes p) = here names x k p
        pick names x k (no p) = other names x k p

    pub further : {q : ℕ} → ((t : Ty ℕ) → Holds v t (i + 1) → q ≡ i + 1 + size t) → (i < q) × (q ≤ e)
    further h =
        let p = h first.type first.held in
        (omega arith, omega (arith, run-order v (i + 1 + size first.type) e first.rest first.run))

  pub going_end : {bs : List (Binding ℕ)} {places : List ℕ} {i e : ℕ} → Going bs places i e → e ≤ i → (names : List Bytes) (x : ℕ) → x < 256
      → SaysAt v (get_or places x 0) (find (numbered names) bs x)
  unfolding find
  going_end {bs} {places} {i} {e} g le names x h = go (ℕ_discrete (get_or places x 0) 0)
    where
      s : SoFar (get_or places x 0) (find (numbered names) bs x) (find (numbered names) g.rest x)
      s = g.words names x h

      go : Dec (get_or places x 0 ≡ 0) → SaysAt v (get_or places x 0) (find (numbered names) bs x)
      go (yes p) =
          let k : find (numbered names) bs x ≡ none = s.unset p ∙ ap (λ (l : List (Binding ℕ)). find (numbered names) l x) (run_none v i e g.rest g.run le) in
          rw k p
      go (no p) = s.bound p

-- ══ What the whole table says ══

-- a bound variable is held
module _ (ν : Names ℕ) (known : ℕ → Bool) (q : ℕ) (same : (x y : ℕ) → is_yes (ν.same x y) ≡ true → x ≡ y) where
  find-held : (bs : List (Binding ℕ)) (x : ℕ) (t : Ty ℕ) → all (goodBinding ν known q) bs ≡ true → find ν bs x ≡ some t → known x ≡ true
  unfolding find all goodBinding
  find-held [] x t g e = absurd (cc)
  find-held (y ≔ u ∷ bs) x t g e = go (is_yes (ν.same x y)) refl (find-held bs x t r.1)
    where
      r : (goodBinding ν known q (y ≔ u) ≡ true) × (all (goodBinding ν known q) bs ≡ true)
      r = (and-eq-true_iff (goodBinding ν known q (y ≔ u)) (all (goodBinding ν known q) bs)).0 g

      go : (b : Bool) → is_yes (ν.same x y) ≡ b → (find ν bs x ≡ some t → known x ≡ true) → known x ≡ true
      go true i ih = ap known (same x y i) ∙ ((and-eq-true_iff (known y) (goodTy ν known q u)).0 r.0).0
      go false i ih = let z : find ν bs x ≡ some t = rw (find, i) at e in ih z

-- of what every variable says, what every name says
module _ (ν : Names ℕ) (places v : List ℕ) (bs : List (Binding ℕ)) (long : length places ≡ 256)
    (below : (x : ℕ) (t : Ty ℕ) → find ν bs x ≡ some t → x < 256)
    (says : (x : ℕ) → x < 256 → SaysAt v (get_or places x 0) (find ν bs x)) where
  past : (k : ℕ) → 256 ≤ k → get_or places k 0 ≡ 0
  past k le = get_or-eq_default places 0 (omega (arith, long))

  unbound : (x : ℕ) → 256 ≤ x → (m : Option (Ty ℕ)) → find ν bs x ≡ m → SaysAt v 0 m
  unbound x le none q = refl
  unbound x le (some t) q = absurd (omega (arith, below x t q))

  pub word : (o : Open ℕ) → SaysAt v (word_of places o) (bindings ν bs o)
  unfolding bindings
  word (var x) = go (ltb x 256) refl
    where
      go : (c : Bool) → ltb x 256 ≡ c → SaysAt v (cond c (get_or places (0 + x) 0) 0) (find ν bs x)
      go true q = let z : 0 + x ≡ x = omega arith in rw z (says x (ltb-true x 256 q))
      go false q = unbound x (ltb-false x 256 q) (find ν bs x) refl
  word (quant i) = past (512 + i) (omega arith)
  word (par x) = go (ltb x 256)
    where
      go : (c : Bool) → cond c (get_or places (256 + x) 0) 0 ≡ 0
      go true = past (256 + x) (omega arith)
      go false = refl

module _ (pool table places v : List ℕ) (b e : ℕ) (bs : List (Binding ℕ)) (good : Good pool table) (h : Listed pool table v b e bs) (long : length places ≡ 256)
    (says : (x : ℕ) → x < 256 → SaysAt v (get_or places x 0) (find (names pool table) bs x)) where
  named : (x y : ℕ) (d : Dec (x ≡ y)) → is_yes d ≡ true → x ≡ y
  named x y (yes p) q = p
  named x y (no p) q = absurd (cc)

  below : (x : ℕ) (t : Ty ℕ) → find (names pool table) bs x ≡ some t → x < 256
  unfolding numbered table_of
  below x t q =
      let k = find-held (names pool table) (is_held (table_of pool table)) 4_294_967_296 (λ x y. named x y (ℕ_discrete x y)) bs x t h.good q in
      omega (arith, ltb-true x (get_or table 0 0) k, (good-laid good).few)

  pub filled : Lent pool table places v (bindings (names pool table) bs)
  filled = record {
    tabled = record {
      says = word (names pool table) places v bs long below says;
      few = λ o t q. omega (arith, looked-short (names pool table) bs o t q, h.short, h.run.ends);
    };
    good = λ o t q. looked-good (names pool table) (is_held (table_of pool table)) 4_294_967_296 bs o t h.good q;
    near = h.near;
  }
