-- What follows from the definitions of specs/Stands: how a sheet stands: records counted, and a record written before its parts.
use Rattle.std.specs.Prelude.{◌≡◌, refl, Bool, true, false, List, [], ◌∷◌, ℕ, ◌+◌, ◌-◌, ◌*◌, ◌≤◌, leb}
use Rattle.std.proofs.Common.{sym, ap, ◌∙◌, arith, leb-true}
use Rattle.std.proofs.lemmas.List.Edits.{sets}
use Rattle.rules.specs.Writing.{words}
use Rattle.rules.specs.declared.Refusal.{Refusal}
use Rattle.records.specs.Cut.{fit}
use Rattle.records.proofs.Cut.{fits}
use Rattle.records.specs.Views.{recOf}
use Rattle.records.specs.declared.View.{View}
use Rattle.text_names.specs.declared.inner.At.{At}
use Rattle.text_names.specs.declared.inner.Tally.{Tally}
use Rattle.text_names.specs.Stands.{Stand, Going, Refused, not-both, Few, countIf, countOf, Above, headPut}

pub same-going : {s : Stand} {k n i j : ℕ} → s ≡ Going k n → s ≡ Going i j → (k ≡ i) × (n ≡ j)
same-going {s} {k} {n} {i} {j} e f =
    let p : ◌≡◌ {A = Tally} (record { names = k; records = n }) (record { names = i; records = j }) = cc in
    (ap (λ (t : Tally). t.names) p, ap (λ (t : Tally). t.records) p)

pub same-refused : {s : Stand} {r r' : Refusal} {c c' : ℕ} → s ≡ Refused r c → s ≡ Refused r' c' → (r ≡ r') × (c ≡ c')
same-refused {s} {r} {r'} {c} {c'} e f =
    let p : ◌≡◌ {A = At} (record { why = r; at = c }) (record { why = r'; at = c' }) = cc in
    (ap (λ (a : At). a.why) p, ap (λ (a : At). a.at) p)

module _ (v : View) (s r : Stand) (d : List ℕ) where
  pub head-put : {d' : List ℕ} {k n i m : ℕ} → s ≡ Going k n → r ≡ Going i m → m ≤ 2048 → d' ≡ sets d (n * 4) (words (recOf v (fit (m - n)) ∷ []))
      → d' ≡ headPut v s r d
  head-put {d'} {k} {n} {i} {m} e f h g = rw (e, f) (g ∙ ap (λ (l : ℕ). sets d (n * 4) (words (recOf v l ∷ []))) (fits (m - n) (omega arith)))

  pub head-none : {k n c : ℕ} {w : Refusal} → s ≡ Going k n → r ≡ Refused w c → d ≡ headPut v s r d
  head-none e f = rw (e, f)

-- what was counted lies above
pub count-above : {s s₁ : Stand} (k at : ℕ) → Few s → s₁ ≡ countOf k at s → Above s s₁
count-above {s} {s₁} k at few e f n i m p q = go (leb (n + k) 2048) refl
  where
    h : countIf (leb (n + k) 2048) at f (n + k) ≡ Going i m
    h = sym (e ∙ ap (countOf k at) p) ∙ q

    go : (b : Bool) → leb (n + k) 2048 ≡ b → (n ≤ m) × (m ≤ 2048)
    go true t = let w = same-going (sym (rw t at h)) refl in (omega (arith, w.1), omega (arith, w.1, leb-true (n + k) 2048 t))
    go false t = absurd (not-both refl (rw t at h))
