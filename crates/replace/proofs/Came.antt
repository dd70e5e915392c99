-- A walk that came to its end, and one that stopped.
use Rattle.std.specs.Prelude.{Result, Ok, Err, ◌≡◌, List, ℕ, refl}
use Rattle.std.proofs.Common.{ap, subst, sym}
use Rattle.rules.specs.Base.{Got, got, refused}
use Rattle.rules.specs.Refusals.{number_of}
use Rattle.rules.specs.Writing.{Rec}
use Rattle.rules.specs.declared.Refusal.{Refusal}
use Rattle.records.specs.Cut.{cut}
use Rattle.types.specs.declared.writer.Writer.{Writer}
use Rattle.types.specs.Written.{Writes}
use Rattle.replace.specs.Leaves.{Leaves, LeavesOf}

-- what it made, and that it was written
pub record Came {A : Type 0} (ws : A → List Rec) (w w' : Writer) (R : Got A) : Type 0 where
  pub value : A
  pub is : R ≡ got value
  pub wrote : Writes w w' (cut (ws value))

module _ {A : Type 0} {ws : A → List Rec} {w w' : Writer} where
  pub came : {r : Result (Unit {0}) Refusal} {R : Got A} → r ≡ Ok tt → Leaves ws w w' r R → Came ws w w' R
  came {r} {R} e h = go R refl (subst (λ (x : Result (Unit {0}) Refusal). LeavesOf ws w w' x R) e h.says)
    where
      go : (S : Got A) → R ≡ S → LeavesOf ws w w' (Ok tt) S → Came ws w w' R
      go (got a) i p = record { value = a; is = i; wrote = p }
      go (refused k) i p = absurd p

  pub stopped : {r : Result (Unit {0}) Refusal} {k : Refusal} {R : Got A} → r ≡ Err k → Leaves ws w w' r R → R ≡ refused (number_of k)
  stopped {r} {k} {R} e h = go R (subst (λ (x : Result (Unit {0}) Refusal). LeavesOf ws w w' x R) e h.says)
    where
      go : (S : Got A) → LeavesOf ws w w' (Err k) S → S ≡ refused (number_of k)
      go (got a) p = absurd p
      go (refused j) p = ap (λ (n : ℕ). refused n) (sym p)
