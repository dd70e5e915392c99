-- Types one by one beside their partners.
use Rattle.std.specs.Prelude.{◌≡◌, refl, Bool, true, false, Decides, ℕ, ◌+◌, eqb, suc}
use Rattle.std.proofs.Common.{ap, ap₂, sym, ◌∙◌, arith, eqb-true, eq-eqb}
use Rattle.rules.specs.Meaning.{means}
use Rattle.rules.specs.Plain.{plain, plainTys}
use Rattle.rules.specs.Trees.{Names, Ty, fn, struct, list, noFields, Tys, nil, cons, size, sizeTys, count}
use Rattle.laws.proofs.Lists.{true≢false}
use Rattle.types.specs.Shapes.{row}
use Rattle.judge_meaning.proofs.Arms.{tells, never}

abbrev pub Alike : Tys ℕ → Tys ℕ → Type 0
Alike ts us = plainTys ts false ≡ plainTys us false

-- the first two rows are alike exactly where the others are
pub record Decide (ts us left right : Tys ℕ) : Type 0 where
  pub on : Alike ts us → Alike left right
  pub back : Alike left right → Alike ts us

pub start : (ts us : Tys ℕ) → Decide ts us ts us
start ts us = record { on = λ e. e; back = λ e. e }

module _ {left right ts us : Tys ℕ} (d : Decide ts us left right) {t u : Ty ℕ} {more others : Tys ℕ} (p : cons t more ≡ ts) (q : cons u others ≡ us)
    (ν : Names ℕ) where
  firsts : Alike ts us → (plain t false ≡ plain u false) × Alike more others
  unfolding plain
  firsts e =
      let z : cons (plain t false) (plainTys more false) ≡ cons (plain u false) (plainTys others false) =
      ap (λ l. plainTys l false) p ∙ e ∙ sym (ap (λ l. plainTys l false) q) in
      (cc, cc)

  module _ {r : Bool} (m : r ≡ means ν t u) where
    -- partners that mean the same are passed
    pub passed : r ≡ true → Decide more others left right
    unfolding plain
    passed i = record {
      on = λ e. d.on (sym (ap (λ l. plainTys l false) p) ∙ ap₂ cons ((tells ν t u m).0 i) e ∙ ap (λ l. plainTys l false) q);
      back = λ e. (firsts (d.back e)).1;
    }

    -- and others end it
    pub ended : r ≡ false → Decides false (Alike left right)
    ended i = never (λ e. absurd (true≢false (sym ((tells ν t u m).1 (firsts (d.back e)).0) ∙ i)))

-- what is passed is of fewer records
module _ {ts : Tys ℕ} {t : Ty ℕ} {more : Tys ℕ} (p : cons t more ≡ ts) where
  pub split-size : sizeTys (plainTys ts false) ≡ size (plain t false) + sizeTys (plainTys more false)
  unfolding plain size
  split-size = ap (λ l. sizeTys (plainTys l false)) (sym p)

-- one row is at its end: so are both, or they aren't alike
count-plain : (ts : Tys ℕ) → count (plainTys ts false) ≡ count ts
unfolding plain count
count-plain nil = refl
count-plain (cons t ts) = ap suc (count-plain ts)

none-left : (ts : Tys ℕ) → count ts ≡ 0 → nil ≡ ts
unfolding count
none-left nil e = refl
none-left (cons t ts) e = absurd (omega (arith, e))

pub left-ended : {ts us : Tys ℕ} → nil ≡ ts → count ts ≡ count us → ts ≡ us
unfolding count
left-ended {us = us} e c = sym e ∙ none-left us (sym c ∙ sym (ap count e))

pub right-ended : {ts us : Tys ℕ} → nil ≡ us → count ts ≡ count us → ts ≡ us
unfolding count
right-ended {ts} e c = sym (none-left ts (c ∙ sym (ap count e))) ∙ e

pub finished : {left right ts us : Tys ℕ} → Decide ts us left right → {n m : ℕ} → count ts ≡ n → count us ≡ m → (count ts ≡ count us → ts ≡ us)
    → Decides (eqb n m) (Alike left right)
finished {ts = ts} {us} d {n} {m} k l both = (
  λ i. d.on (ap (λ ls. plainTys ls false) (both (k ∙ eqb-true n m i ∙ sym l))),
  λ e. eq-eqb n m (sym k ∙ sym (count-plain ts) ∙ ap count (d.back e) ∙ count-plain us ∙ l),
)

row-size : (ps : Tys ℕ) (r : Ty ℕ) → sizeTys (row ps r) ≡ sizeTys ps + size r
unfolding size
row-size nil r = omega arith
row-size (cons p ps) r = omega (arith, row-size ps r)

-- parts are of fewer records than the whole
module _ {T : Ty ℕ} where
  pub fn-size : (A : Tys ℕ) (B : Ty ℕ) {R : Tys ℕ} → row A B ≡ R → fn A B ≡ T → size T ≡ suc (sizeTys R)
  unfolding size
  fn-size A B k e = omega (arith, ap size e, ap sizeTys k, row-size A B)

  pub struct-size : {x : ℕ} {A : Tys ℕ} → struct x A noFields ≡ T → size T ≡ suc (sizeTys A + 0)
  unfolding size
  struct-size e = ap size (sym e)

  pub list-size : {B : Ty ℕ} → list B ≡ T → size T ≡ suc (size B)
  unfolding size
  list-size e = ap size (sym e)
