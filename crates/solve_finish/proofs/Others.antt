-- The constraints that are no bounds, written one after another.
use Rattle.std.specs.Prelude.{◌≡◌, Bool, true, false, List, [], ◌∷◌, ℕ, ◌+◌, ◌*◌, ◌≤◌, refl, length}
use Rattle.std.proofs.Common.{arith, ap, sym, subst, ◌∙◌}
use Rattle.std.specs.Prelude as std
use Rattle.std.specs.Option.{is_some}
use Rattle.std.proofs.Math.Option.{Option}
use Rattle.rules.specs.Refusals.{toldOption}
use Rattle.laws.proofs.Lists.{true≢false}
use Rattle.std.proofs.lemmas.List.Edits.{sets}
use Rattle.rules.specs.Base.{keep, is_none, collect, sum_of}
use Rattle.rules.specs.Solving.{boundOf}
use Rattle.rules.specs.Trees.{Con, sizeCon}
use Rattle.rules.specs.Writing.{words, writeCon}
use Rattle.laws.proofs.Size.{set-length}
use Rattle.types.specs.declared.writer.Writer.{Writer}
use Rattle.types.specs.Sets.{placed}
use Rattle.types.proofs.OnSets.{alone, placed-alone}
use Rattle.types.specs.Written.{Writes}
use Rattle.types.proofs.Written.{writes-none, writes-then}
use Rattle.solve_finish.specs.Told.{others, Copied}

pub others-few : (cs : List (Con ℕ)) → sum_of sizeCon (others cs) ≤ sum_of sizeCon cs
unfolding keep
others-few [] = omega arith
others-few (c ∷ cs) = go (is_none (boundOf c)) (others-few cs)
  where
    go : (b : Bool) → sum_of sizeCon (others cs) ≤ sum_of sizeCon cs
        → sum_of (sizeCon {N = ℕ}) (elim b [ true ↦ c ∷ others cs | false ↦ others cs ]) ≤ sizeCon c + sum_of sizeCon cs
    go true h = omega arith
    go false h = omega arith

module _ (c : Con ℕ) (cs : List (Con ℕ)) where
  abbrev chosen : Option ℕ → List (Con ℕ)
  chosen o = elim (is_none o) [ true ↦ c ∷ others cs | false ↦ others cs ]

  other-first : (r : std.Option ℕ) → toldOption r ≡ boundOf c → is_some r ≡ false → others (c ∷ cs) ≡ c ∷ others cs
  unfolding keep
  other-first std.None q i = ap chosen (sym q)
  other-first (std.Some x) q i = absurd (true≢false i)

  bound-first : (r : std.Option ℕ) → toldOption r ≡ boundOf c → is_some r ≡ true → others (c ∷ cs) ≡ others cs
  unfolding keep
  bound-first std.None q i = absurd (true≢false (sym i))
  bound-first (std.Some x) q i = ap chosen (sym q)

-- what is still to be written behind w makes all that was asked from w₀ on
abbrev pub Still : Writer → Writer → List (List ℕ × ℕ × Con ℕ) → List (Con ℕ) → Type 0
Still w₀ w left cs = (w' : Writer) → Writes w w' (collect writeCon (others (alone left))) → Writes w₀ w' (collect writeCon (others cs))

module _ (w₀ w : Writer) (cs : List (Con ℕ)) where
  pub still-all : (s : List ℕ) (at : ℕ) → Still w w (placed s at cs) cs
  still-all s at w' h = subst (λ (l : List (Con ℕ)). Writes w w' (collect writeCon (others l))) (placed-alone s at cs) h

  module _ (left now : List (List ℕ × ℕ × Con ℕ)) (x : List ℕ × ℕ × Con ℕ) (e : now ≡ x ∷ left) (s : Still w₀ w now cs) where
    pub still-written : {w₁ : Writer} (r : std.Option ℕ) → toldOption r ≡ boundOf x.2 → is_some r ≡ false → Writes w w₁ (writeCon x.2) → Still w₀ w₁ left cs
    unfolding collect
    still-written {w₁} r b i p w' q =
        let all : Writes w w' (collect writeCon (x.2 ∷ others (alone left))) = writes-then (writeCon x.2) (collect writeCon (others (alone left))) p q in
        let first = subst (λ (l : List (Con ℕ)). Writes w w' (collect writeCon l)) (sym (other-first x.2 (alone left) r b i)) all in
        s w' (subst (λ (l : List (List ℕ × ℕ × Con ℕ)). Writes w w' (collect writeCon (others (alone l)))) (sym e) first)

    pub still-passed : (r : std.Option ℕ) → toldOption r ≡ boundOf x.2 → is_some r ≡ true → Still w₀ w left cs
    still-passed r b i w' q =
        let all = subst (λ (l : List (Con ℕ)). Writes w w' (collect writeCon l)) (sym (bound-first x.2 (alone left) r b i)) q in
        s w' (subst (λ (l : List (List ℕ × ℕ × Con ℕ)). Writes w w' (collect writeCon (others (alone l)))) (sym e) all)

  pub still-none : (now : List (List ℕ × ℕ × Con ℕ)) → now ≡ [] → Still w₀ w now cs → Writes w₀ w (collect writeCon (others cs))
  unfolding keep collect
  still-none now e s = s w (rw e (writes-none w))

  -- written to the front of a buffer
  pub front-copied : {d d' : List ℕ} → sum_of sizeCon cs ≤ 2048 → w₀.at ≡ 0 → w₀.words.now ≡ d → Writes w₀ w (collect writeCon (others cs))
      → d' ≡ w.words.now → Copied d d' 0 w.at (others cs)
  front-copied few z i h j =
      let n : length (collect writeCon (others cs)) ≡ sum_of sizeCon (others cs) = set-length (others cs) in
      let m = others-few cs in
      record {
        many = omega (arith, h.at, n, m, few, z);
        buffer = rw (← i, j) (h.words (omega (arith, n, m, few, z)) ∙ ap (λ (k : ℕ). sets w₀.words.now (k * 4) (words (collect writeCon (others cs)))) z);
      }
