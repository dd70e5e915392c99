-- What follows from the definitions of specs/Cut: where a line of a text ends.
use Rattle.std.specs.Prelude.{◌≡◌, refl, [], ◌∷◌, ◌++◌, ℕ, suc, ◌+◌, ◌-◌, ◌≤◌, ◌<◌, length, take, drop, get_or}
use Rattle.std.proofs.Common.{sym, ap, ◌∙◌, append-nil, add-one, arith, ne_eqb, take-append-drop, drop_of_length-le, length-take-le, take_at}
use Rattle.std.proofs.Common.{take-suc, drop-cons}
use Rattle.std.proofs.Math.Seq.{slice, slice_empty, length-slice}
use Rattle.std.proofs.lemmas.List.{drop-append-le}
use Rattle.rules.specs.Names.{Bytes}
use Rattle.rules.specs.Grammar.{lines_of, inFront}
use Rattle.laws.specs.Lists.{Every}
use Rattle.laws.proofs.Lists.{every_append}
use Rattle.text_laws.specs.Lengths.{NotFeed}
use Rattle.text_laws.proofs.Promise.{first-line}
use Rattle.text_columns.specs.Cut.{line_at, Cut}

-- no line feed from a place up to i
pub record Flat (text : Bytes) (at i : ℕ) : Type 0 where
  pub behind : at ≤ i
  pub within : i ≤ length text
  pub flat : Every NotFeed (slice at i text)

-- a text without a line feed is one line
last_line : (l : Bytes) → Every NotFeed l → lines_of l ≡ l ∷ []
unfolding lines_of
last_line [] h = refl
last_line (b ∷ l) h = rw (h.0, lines_of) (ap (inFront b) (last_line l h.1))

module _ (text : Bytes) (at : ℕ) where
  parts : (i : ℕ) → at ≤ i → i ≤ length text → drop at text ≡ slice at i text ++ drop i text
  parts i h k = ap (drop at) (sym (take-append-drop i text)) ∙ drop-append-le at (take i text) (drop i text) (omega (arith, length-take-le i text k))

  line-is : (i : ℕ) → at ≤ i → i ≤ length text → line_at text at i ≡ slice at i text
  line-is i h k = ap (take (i - at)) (parts i h k) ∙ take_at (slice at i text) (drop i text) (i - at) (length-slice at i text k)

  pub line-length : {i : ℕ} → Cut text at i → length (line_at text at i) ≡ i - at
  line-length {i} w = ap length (line-is i w.behind w.within) ∙ length-slice at i text w.within

  pub starts : at ≤ length text → Flat text at at
  starts h = record { behind = omega arith; within = h; flat = rw (slice_empty at text) tt }

  one_more : (i : ℕ) → at ≤ i → i < length text → slice at (i + 1) text ≡ slice at i text ++ (get_or text i 0 ∷ [])
  one_more i h k =
      ap (λ (n : ℕ). slice at n text) (add-one i)
      ∙ ap (drop at) (take-suc text i 0 k)
      ∙ drop-append-le at (take i text) (get_or text i 0 ∷ []) (omega (arith, length-take-le i text (omega arith)))

  pub goes_on : {i : ℕ} → Flat text at i → i < length text → (get_or text i 0 ≡ 10 → ⊥) → Flat text at (i + 1)
  goes_on {i} f h n = record {
    behind = omega (arith, f.behind);
    within = omega arith;
    flat = rw (one_more i f.behind h) (every_append NotFeed (slice at i text) (get_or text i 0 ∷ []) f.flat (ne_eqb (get_or text i 0) 10 n, tt));
  }

  pub at-feed : {i : ℕ} → Flat text at i → i < length text → get_or text i 0 ≡ 10 → Cut text at i
  at-feed {i} f h e = record {
    behind = f.behind;
    within = f.within;
    rest = lines_of (drop (suc i) text);
    is = ap lines_of (parts i f.behind f.within ∙ ap (λ (l : Bytes). slice at i text ++ l) (drop-cons text i 0 h ∙ ap (λ (b : ℕ). b ∷ drop (suc i) text) e))
        ∙ first-line (slice at i text) (drop (suc i) text) f.flat
        ∙ ap (λ (l : Bytes). l ∷ lines_of (drop (suc i) text)) (sym (line-is i f.behind f.within));
    more = λ _. ap (λ (n : ℕ). lines_of (drop n text)) (sym (add-one i));
    last = λ k. absurd (omega arith);
  }

  pub at-end : {i : ℕ} → Flat text at i → length text ≤ i → Cut text at i
  at-end {i} f h = record {
    behind = f.behind;
    within = f.within;
    rest = [];
    is = ap lines_of (parts i f.behind f.within ∙ ap (λ (l : Bytes). slice at i text ++ l) (drop_of_length-le text {i = i} h) ∙ append-nil (slice at i text))
        ∙ last_line (slice at i text) f.flat
        ∙ ap (λ (l : Bytes). l ∷ []) (sym (line-is i f.behind f.within));
    more = λ k. absurd (omega arith);
    last = λ k. refl;
  }
