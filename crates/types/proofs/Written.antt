-- What follows from the definitions of specs/Written: what a writer writes. Its count of records stops at 2 ^ 60, and then nothing is said of the buffer.
use Rattle.std.specs.Prelude.{◌≡◌, List, [], ◌∷◌, ◌++◌, ℕ, suc, ◌+◌, ◌-◌, ◌*◌, length, refl}
use Rattle.std.proofs.Common.{arith, ap, sym, subst, ◌∙◌, length-append}
use Rattle.std.proofs.lemmas.List.Edits.{sets}
use Rattle.rules.specs.Writing.{Rec, words}
use Rattle.records.specs.Cut.{fit}
use Rattle.records.specs.Views.{recOf}
use Rattle.records.specs.declared.View.{View}
use Rattle.laws.proofs.Size.{words_append}
use Rattle.laws.proofs.Size.{words-length}
use Rattle.records.proofs.Stores.{sets-append, sets-before}
use Rattle.types.specs.declared.writer.Writer.{Writer}
use Rattle.types.specs.Written.{Writes, Reserves, Begins}

-- records, and then others behind them
pub writes : (d d₁ d₂ : List ℕ) (a b : List Rec) (out : ℕ) → d₁ ≡ sets d (out * 4) (words a) → d₂ ≡ sets d₁ ((out + length a) * 4) (words b)
    → d₂ ≡ sets d (out * 4) (words (a ++ b))
writes d d₁ d₂ a b out p q =
    let e : (out + length a) * 4 ≡ out * 4 + length (words a) = omega (arith, words-length a) in
    q ∙ rw (p, e) (sym (sets-append (words a) (words b) d (out * 4))) ∙ ap (sets d (out * 4)) (sym (words_append a b))

-- records, and then one before them
writes-before : (d d₁ d₂ : List ℕ) (r : Rec) (b : List Rec) (out : ℕ) → d₁ ≡ sets d ((out + 1) * 4) (words b) → d₂ ≡ sets d₁ (out * 4) (words (r ∷ []))
    → d₂ ≡ sets d (out * 4) (words (r ∷ b))
writes-before d d₁ d₂ r b out p q =
    let e : (out + 1) * 4 ≡ out * 4 + length (words (r ∷ [])) = omega (arith, words-length (r ∷ [])) in
    q ∙ rw (p, e) (sets-before (words (r ∷ [])) (words b) d (out * 4)) ∙ ap (sets d (out * 4)) (sym (words_append (r ∷ []) b))

pub writes-none : (w : Writer) → Writes w w []
unfolding words
writes-none w = record { same = refl; at = omega arith; words = λ k. refl }

pub writes-then : {w w₁ w₂ : Writer} (rs qs : List Rec) → Writes w w₁ rs → Writes w₁ w₂ qs → Writes w w₂ (rs ++ qs)
writes-then {w} {w₁} {w₂} rs qs p q = record {
  same = q.same ∙ p.same;
  at = omega (arith, p.at, q.at, length-append rs qs);
  words = λ k.
      let l = length-append rs qs in
      let e : w₁.at ≡ w.at + length rs = omega (arith, p.at, k, l) in
      writes w.words.now w₁.words.now w₂.words.now rs qs w.at (p.words (omega (arith, k, l)))
      (subst (λ (m : ℕ). w₂.words.now ≡ sets w₁.words.now (m * 4) (words qs)) e (q.words (omega (arith, k, l, e))));
}

-- a record, and the part that it begins
pub part-writes : {w w₁ w₂ w₃ : Writer} {start : ℕ} (v : View) (rs : List Rec) → Reserves w w₁ start → Writes w₁ w₂ rs → Begins w₂ w₃ start v
    → Writes w w₃ (recOf v (fit (suc (length rs))) ∷ rs)
part-writes {w} {w₁} {w₂} {w₃} {start} v rs r p b = record {
  same = b.same ∙ p.same ∙ r.same;
  at = omega (arith, r.at, p.at, b.at);
  words = λ k.
      let e : w₁.at ≡ w.at + 1 = omega (arith, r.at, k) in
      let m : w₂.at ≡ w₁.at + length rs = omega (arith, p.at, e, k) in
      let n : w₂.at - start ≡ suc (length rs) = omega (arith, m, e, r.start, k) in
      let here : w₂.words.now ≡ sets w.words.now ((w.at + 1) * 4) (words rs) =
      p.words (omega (arith, k, e)) ∙ ap (λ (l : List ℕ). sets l (w₁.at * 4) (words rs)) r.words ∙ ap (λ (i : ℕ). sets w.words.now (i * 4) (words rs)) e in
      let head : w₃.words.now ≡ sets w₂.words.now (w.at * 4) (words (recOf v (fit (suc (length rs))) ∷ [])) =
      b.words (omega (arith, r.start, k)) ∙ ap (λ (m : ℕ). sets w₂.words.now (start * 4) (words (recOf v (fit m) ∷ []))) n
      ∙ ap (λ (i : ℕ). sets w₂.words.now (i * 4) (words (recOf v (fit (suc (length rs))) ∷ []))) r.start in
      writes-before w.words.now w₂.words.now w₃.words.now (recOf v (fit (suc (length rs)))) rs w.at here head;
}
