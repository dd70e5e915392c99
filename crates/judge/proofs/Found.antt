-- What follows from the definitions of specs/Found: what was found over a set, as it stands in a list: bindings from the front and bounds behind them; and
-- what the judge asks of it.
use Rattle.std.specs.Prelude.{◌≡◌, refl, true, List, [], ◌∷◌, ◌++◌, map, ℕ, ◌+◌, ◌*◌, ◌-◌, ◌/◌, ◌≤◌, length, take, drop}
use Rattle.std.proofs.Common.{sym, ap, subst, ◌∙◌, arith, add-zero}
use Rattle.std.proofs.Math.Seq.{slice}
use Rattle.std.proofs.lemmas.List.{length-map, drop-take}
use Rattle.rules.specs.Replacing.{bindings}
use Rattle.rules.specs.Trees.{var, Binding}
use Rattle.rules.specs.WellFormed.{goodOpen, goodBinding}
use Rattle.rules.specs.Writing.{Rec, rec, words, word_of, writeBound}
use Rattle.laws.specs.Lists.{Every}
use Rattle.laws.proofs.Lists.{every-all, is_all}
use Rattle.laws.proofs.Size.{words-length}
use Rattle.records.specs.Good.{Chain, GoodBound, numbers, holding}
use Rattle.records.proofs.Held.{shown}
use Rattle.records.specs.Holds.{HoldsBounds}
use Rattle.records.specs.Places.{seen, seen-in}
use Rattle.records.proofs.Places.{words-from}
use Rattle.records.specs.Views.{recs, from}
use Rattle.records.specs.declared.Open.TheVariants as opens
use Rattle.records.specs.declared.View.TheVariants as view
use Rattle.queries.specs.declared.name_set.NameSet.{NameSet}
use Rattle.queries.specs.Marks.{Has}
use Rattle.types.proofs.Puts.{binds-in}
use Rattle.replace.proofs.Kept.{binds-weaker}
use Rattle.replace.proofs.Runs.{looked-good}
use Rattle.replace.specs.Well.{Listed, Lent}
use Rattle.judge_proposals.specs.Bounds.{BoundsThere}
use Rattle.judge_trials.specs.Trials.{Put}
use Rattle.judge.specs.Found.{FoundThere}

abbrev boundRecs : List ℕ → List Rec
boundRecs ns = map (λ n. writeBound (var n)) ns

-- ══ Bounds, in a list of their own ══

bounds-written : (s : List ℕ) (ns : List ℕ) (at : ℕ) → HoldsBounds s (map (λ n. var n) ns) at → from s at ≡ boundRecs ns ++ from s (at + length ns)
unfolding HoldsBounds writeBound
bounds-written s [] at h = rw (add-zero at) refl
bounds-written s (n ∷ ns) at h =
    let i : at + 1 + length ns ≡ at + length (n ∷ ns) = omega arith in
    seen s at h.0.0 h.0.1 tt ∙ ap (λ (rs : List Rec). writeBound (var n) ∷ rs) (bounds-written s ns (at + 1) h.1 ∙ ap (λ (j : ℕ). boundRecs ns ++ from s j) i)

bounds-in : (s : List ℕ) (ns : List ℕ) (at : ℕ) → at ≤ length s / 4 → HoldsBounds s (map (λ n. var n) ns) at → at + length ns ≤ length s / 4
unfolding HoldsBounds
bounds-in s [] at le h = omega arith
bounds-in s (n ∷ ns) at le h = let i = seen-in s at h.0.0 tt in omega (arith, bounds-in s ns (at + 1) (omega (arith, i)) h.1)

from-back : (rs : List Rec) → from (words rs) 0 ≡ rs
unfolding from recs words
from-back [] = refl
from-back (rec k a b c ∷ rs) = ap (rec k a b c ∷◌) (from-back rs)

chain : (pool table s ns : List ℕ) (at : ℕ) → from s at ≡ boundRecs ns → Every (λ n. holding pool table n ≡ true) ns
    → Chain (GoodBound pool table 0 s) (at + length ns) (map (λ n. var n) ns) at
unfolding goodOpen writeBound
chain pool table s [] at e h = sym (add-zero at)
chain pool table s (n ∷ ns) at e h =
    let (x, y, z) = shown s at 1 (view.Bound (opens.Var n)) (writeBound (var n)) (boundRecs ns) e refl tt in
    let k : at + 1 + length ns ≡ at + length (n ∷ ns) = omega arith in
    (at + 1, (record { held = (x, y); past = refl; good = h.0 }, rw k at (chain pool table s ns (at + 1) (sym z) h.1)))

module _ (pool table found : List ℕ) (b n : ℕ) (bs : List (Binding ℕ)) (ns : List ℕ) (h : FoundThere pool table found b n bs ns) where
  within : b ≤ length found / 4
  within = omega (arith, binds-in found bs 0 (omega arith) h.binds.held, h.binds.ends)

  -- where they end
  pub ends-in : b * 4 + n * 4 ≤ length found
  ends-in = omega (arith, bounds-in found ns b within h.bounds, h.many)

  second : take (b * 4 + n * 4 - b * 4) (drop (b * 4) found) ≡ words (boundRecs ns)
  second =
      let i = length-map ns (λ (n : ℕ). writeBound (var n)) in
      let e : (b + length (boundRecs ns)) * 4 ≡ b * 4 + n * 4 = omega (arith, i, h.many) in
      let m : b * 4 + (b * 4 + n * 4 - b * 4) ≡ (b + length (boundRecs ns)) * 4 = omega (arith, e) in
      sym (drop-take (b * 4) (b * 4 + n * 4 - b * 4) found) ∙ ap (λ (k : ℕ). slice (b * 4) k found) m
      ∙ (words-from found (boundRecs ns) (from found (b + length ns)) b within (bounds-written found ns b h.bounds))

  bounds-there : BoundsThere pool table (take (b * 4 + n * 4 - b * 4) (drop (b * 4) found)) (map (λ n. var n) ns)
  bounds-there =
      let i = length-map ns (λ (n : ℕ). writeBound (var n)) in
      let z : 0 + length ns ≡ length (words (boundRecs ns)) / 4 = omega (arith, words-length (boundRecs ns), i) in
      rw second (subst (λ (k : ℕ). Chain (GoodBound pool table 0 (words (boundRecs ns))) k (map (λ n. var n) ns) 0) z
      (chain pool table (words (boundRecs ns)) ns 0 (from-back (boundRecs ns)) h.held))

  pub listed : Listed pool table found 0 b bs
  listed = record {
    run = h.binds;
    good = is_all (goodBinding (numbers pool table) (holding pool table) 4_294_967_296) bs (every-all _ bs (binds-weaker pool table bs h.good));
    short = omega (arith, within, h.short);
    near = omega (arith, h.short);
  }

  -- what the trials ask
  pub put-in : {places : List ℕ} → Lent pool table places found (bindings (numbers pool table) bs) → Put pool table places found bs
  put-in l = record { lent = l; good = λ o t e. looked-good (numbers pool table) (holding pool table) 0 bs o t h.good e }

  same_names : (ns : List ℕ) → map word_of (map (λ n. var n) ns) ≡ ns
  same_names [] = refl
  same_names (n ∷ ns) = ap (n ∷◌) (same_names ns)

  pub marked : {m : NameSet} → (BoundsThere pool table (take (b * 4 + n * 4 - b * 4) (drop (b * 4) found)) (map (λ n. var n) ns)
      → Has m (map word_of (map (λ n. var n) ns))) → Has m ns
  marked {m} f = subst (Has m) (same_names ns) (f bounds-there)
