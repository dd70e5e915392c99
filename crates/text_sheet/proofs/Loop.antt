-- What follows from the definitions of specs/Loop: the loop over a sheet's lines, and what is put back where a line is refused.
use Rattle.std.specs.Prelude.{◌≡◌, refl, List, ◌++◌, ℕ, suc, ◌+◌, ◌*◌, ◌≤◌, ◌<◌, length, take, drop}
use Rattle.std.proofs.Common.{sym, ap, ◌∙◌, add-one, arith, take-append-drop}
use Rattle.std.proofs.lemmas.List.Edits.{sets}
use Rattle.rules.specs.Names.{Bytes}
use Rattle.rules.specs.Refusals.{number_of}
use Rattle.rules.specs.Writing.{Rec, words}
use Rattle.rules.specs.TextReading.{refusedAt, lineRead}
use Rattle.rules.specs.declared.Refusal.{Refusal}
use Rattle.laws.specs.NameTable.{Good}
use Rattle.text_names.specs.Effects.{lent, sofar, Roomy, kept_then}
use Rattle.text_names.proofs.Effects.{kept_same}
use Rattle.text_names.proofs.Stands.{same-going}
use Rattle.text_names.specs.Stands as stand
use Rattle.text_columns.specs.Cut.{Cut, line_at}
use Rattle.text_columns.proofs.Cut.{line-length}
use Rattle.text_columns.proofs.Told.{refused-in}
use Rattle.text_columns.proofs.Upto.{LineAdds}
use Rattle.text_columns.proofs.Upto as upto
use Rattle.text_lines.specs.Statements.{LineDone}
use Rattle.text_sheet.specs.Loop.{start, IsRead, IsRefused, Along, kept_on, few}

nothing-new : (table : List ℕ) → Roomy table (stand.Going 0 0)
nothing-new table k n e = let w = same-going refl e in record { names = omega (arith, w.0); records = omega (arith, w.1) }

pub begins : {pool table : List ℕ} (text dst : List ℕ) → Good pool table → Along text pool table dst 0 0 0 0 0 pool table dst
begins {pool} {table} text dst good = record { upto = upto.begins pool table text dst; kept = kept_same good (nothing-new table) }

-- a line that is read adds its constraints
adds : {l : Bytes} {p₁ t₁ d₁ p₂ t₂ d₂ : List ℕ} {k n i j b : ℕ} → LineDone l (lent p₁ t₁ d₁ (stand.Going k n)) (lent p₂ t₂ d₂ (stand.Going i j)) b
    → LineAdds l (sofar (start p₁ t₁ d₁) k n) d₁ b (sofar (start p₂ t₂ d₂) i j) d₂
adds {l} {p₁} {t₁} {d₁} {p₂} {t₂} {d₂} {k} {n} {i} {j} x =
    let y = x.effect.does k n i j refl refl in
    record {
      cons = y.value;
      is = y.is;
      many = sym y.tells.counted;
      records = y.grown ∙ ap (λ (rs : List Rec). n + length rs) y.tells.written;
      written = y.written ∙ ap (λ (rs : List Rec). sets d₁ (n * 4) (words rs)) y.tells.written;
    }

module _ {text pool table dst : List ℕ} {at m k n c : ℕ} {p₁ t₁ d₁ : List ℕ} (a : Along text pool table dst at m k n c p₁ t₁ d₁) {r : ℕ}
    (w : Cut text at r) where
  module _ {p₂ t₂ d₂ : List ℕ} {i j b : ℕ} (x : LineDone (line_at text at r) (lent p₁ t₁ d₁ (stand.Going k n)) (lent p₂ t₂ d₂ (stand.Going i j)) b) where
    pub counts : c + b ≤ 2048
    counts = omega (arith, upto.counts pool table text dst a.upto w (adds x), few a w x)

    pub goes_on : r < length text → Along text pool table dst (r + 1) (m + 1) i j (c + b) p₂ t₂ d₂
    goes_on h = record { upto = upto.goes_on pool table text dst a.upto w (adds x) h; kept = kept_on a w x }

    pub ends : r ≡ length text → IsRead text pool table dst p₂ t₂ d₂ j (c + b) i
    ends h = record { whole = upto.ends pool table text dst a.upto w (adds x) h; few = few a w x }

  module _ {p₂ t₂ d₂ : List ℕ} {v : Refusal} {q b : ℕ} (x : LineDone (line_at text at r) (lent p₁ t₁ d₁ (stand.Going k n))
      (lent p₂ t₂ d₂ (stand.Refused v q)) b) where
    refused : lineRead (line_at text at r) (sofar (start p₁ t₁ d₁) k n) ≡ refusedAt (number_of v) (suc q)
    refused = x.effect.refuses k n q v refl refl

    pub place_in : q ≤ length text
    place_in = omega (arith, refused-in (line_at text at r) (sofar (start p₁ t₁ d₁) k n) (number_of v) (suc q) refused, line-length text at w, w.within)

    pub stops : IsRefused text pool table dst p₂ t₂ d₂ v (m + 1) (q + 1)
    stops =
        let l = kept_then a.kept x.kept in
        record {
          is = upto.refuses pool table text dst a.upto w (number_of v) (q + 1) (refused ∙ ap (refusedAt (number_of v)) (sym (add-one q)));
          pool-behind = l.pool-behind;
          table-behind = l.table-behind;
        }

-- ══ Put back ══

-- a front of n is put back where nothing behind it has changed
pub put-back : (n : ℕ) (new : List ℕ) {front old : List ℕ} → front ≡ take n old → drop n new ≡ drop n old → front ++ drop n new ≡ old
put-back n new {front} {old} e f = ap (λ (l : List ℕ). l ++ drop n new) e ∙ ap (λ (l : List ℕ). take n old ++ l) f ∙ take-append-drop n old
