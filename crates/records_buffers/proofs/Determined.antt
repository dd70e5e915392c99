-- What follows from the definitions of specs/Determined: the contracts leave no choice: two results that one of them allows coincide (`..-determined`). And
-- each answer has the number of
-- its outcome (`..-numbered`). Of the calls that write records, too, whose answer is this crate's.
use Rattle.rules.specs.declared.Refusal.{Refusal}
use Rattle.std.specs.Prelude.{Result, ◌≡◌, Bool, List, ℕ}
use Rattle.std.proofs.Math.Path.{refl, ap}
use Rattle.std.proofs.Common.{sym, ◌∙◌}
use Rattle.std.proofs.Math.Bool.{true, false}
use Rattle.rules.specs.Base.{need}
use Rattle.rules.specs.Calls.{lent, Written}
use Rattle.rules.specs.Numbers.{checked, written, refusalIn, number}
use Rattle.rules.specs.Refusals.{numberAnswer}
use Rattle.laws.proofs.Numbers.{told-injective, answer-in}
use Rattle.records_buffers.specs.Told.{writtenAs}
use Rattle.records_buffers.specs.Determined.{OneResult, numberLent}

pub one-result : (a b : Result ℕ Refusal) (result result' work work' : List ℕ) → writtenAs a result work ≡ writtenAs b result' work'
    → OneResult a b result result' work work'
one-result a b result result' work work' e = record {
  answer = told-injective a b (ap (λ (w : Written). w.answer) e);
  results = ap (λ (w : Written). w.result) e;
  works = ap (λ (w : Written). w.work) e;
}

-- of any call that writes records
pub written-determined : (w : Written) (p q : Result ℕ Refusal) (a b c d : List ℕ) → writtenAs p a c ≡ w → writtenAs q b d ≡ w → OneResult p q a b c d
written-determined w p q a b c d h k = one-result p q a b c d (h ∙ sym k)

pub written-numbered : (w : Written) (p : Result ℕ Refusal) (a c : List ℕ) → writtenAs p a c ≡ w → numberAnswer p ≡ number (written w)
unfolding number
written-numbered w p a c h = answer-in p ∙ ap (λ (v : Written). refusalIn v.answer) h

need-tells : (p q : Bool) → need p 10 ≡ need q 10 → p ≡ q
need-tells true true e = refl
need-tells true false e = cc
need-tells false true e = cc
need-tells false false e = refl

lent-in : (p : Bool) → numberLent p ≡ refusalIn (need p 10)
unfolding refusalIn
lent-in true = refl
lent-in false = refl

module _ (pool table result work : List ℕ) where
  pub lent-determined : (p q : Bool) → need p 10 ≡ lent pool table result work → need q 10 ≡ lent pool table result work → p ≡ q
  lent-determined p q h k = need-tells p q (h ∙ sym k)

  pub lent-numbered : (p : Bool) → need p 10 ≡ lent pool table result work → numberLent p ≡ number (checked (lent pool table result work))
  unfolding number
  lent-numbered p h = lent-in p ∙ ap refusalIn h
