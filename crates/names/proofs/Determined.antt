-- The contracts leave no choice: two results that one of them allows coincide (`..-determined`). And each answer has the number that the
-- rules give to its outcome (`..-numbered`).
use Rattle.std.specs.Prelude.{Result, ◌≡◌, refl, List, ℕ}
use Rattle.std.proofs.Math.Path.{ap}
use Rattle.std.proofs.Common.{sym, ◌∙◌}
use Rattle.std.specs.Borrow.{Bor}
use Rattle.rules.specs.Base.{Got, got, refused}
use Rattle.rules.specs.Names.{Bytes, orderBytes, tableGiven, nameAsked, partAsked, Entered, enter}
use Rattle.rules.specs.Numbers as numbers
use Rattle.rules.specs.Numbers.{refusalIn, number}
use Rattle.rules.specs.Refusals.{told, numberAnswer}
use Rattle.rules.specs.declared.Refusal.{Refusal}
use Rattle.rules.specs.declared.Was.{Was}
use Rattle.laws.proofs.Numbers.{told-injective, answer-in}
use Rattle.std.specs.declared.cmp.Ordering.{Ordering}
use Rattle.std.specs.declared.cmp.Ordering.TheVariants.{Less, Equal, Greater}
use Rattle.names.specs.Theorems.{OneResult}
use Rattle.names.specs.Told.{toldOrder, entered, refusalOf, IsPart}

pub order-tells : (a b : Ordering) → toldOrder a ≡ toldOrder b → a ≡ b
order-tells Less Less e = refl
order-tells Less Equal e = cc
order-tells Less Greater e = cc
order-tells Equal Less e = cc
order-tells Equal Equal e = refl
order-tells Equal Greater e = cc
order-tells Greater Less e = cc
order-tells Greater Equal e = cc
order-tells Greater Greater e = refl

pub entered-tells : (a b : Result (ℕ × Was) Refusal) (p q t u : List ℕ) → entered a p t ≡ entered b q u → OneResult a b p q t u
entered-tells a b p q t u e = record { answer = told-injective a b (ap (λ r. r.answer) e); pool = ap (λ r. r.pool) e; table = ap (λ r. r.table) e }

asked_in : (g : Got Bytes) → refusalIn (refusalOf g) ≡ refusalIn g
unfolding refusalIn
asked_in (got n) = refl
asked_in (refused k) = refl

-- ══ The calls ══

-- `compare`, which refuses nothing
pub compare-determined : (a b : Bytes) (p q : Ordering) → toldOrder p ≡ orderBytes a b → toldOrder q ≡ orderBytes a b → p ≡ q
compare-determined a b p q h k = order-tells p q (h ∙ sym k)

module _ (pool table : List ℕ) where
  -- `check_table`
  pub check-table-determined : (p q : Result (Unit {0}) Refusal) → told p ≡ tableGiven pool table → told q ≡ tableGiven pool table → p ≡ q
  check-table-determined p q h k = told-injective p q (h ∙ sym k)

  pub check-table-numbered : (p : Result (Unit {0}) Refusal) → told p ≡ tableGiven pool table
      → numberAnswer p ≡ number (numbers.checked (tableGiven pool table))
  unfolding number
  check-table-numbered p h = answer-in p ∙ ap refusalIn h

  -- `check_number`
  pub check-number-determined : (i : ℕ) (p q : Result (Unit {0}) Refusal) → told p ≡ refusalOf (nameAsked pool table i)
      → told q ≡ refusalOf (nameAsked pool table i) → p ≡ q
  check-number-determined i p q h k = told-injective p q (h ∙ sym k)

  pub check-number-numbered : (i : ℕ) (p : Result (Unit {0}) Refusal) → told p ≡ refusalOf (nameAsked pool table i)
      → numberAnswer p ≡ number (numbers.named (nameAsked pool table i))
  unfolding number
  check-number-numbered i p h = answer-in p ∙ ap refusalIn h ∙ asked_in (nameAsked pool table i)

  -- `enter`: the answer, and all that pool and table hold afterwards
  pub enter-determined : (name : Bytes) (a b : Result (ℕ × Was) Refusal) (p q t u : List ℕ) → entered a p t ≡ enter pool table name
      → entered b q u ≡ enter pool table name → OneResult a b p q t u
  enter-determined name a b p q t u h k = entered-tells a b p q t u (h ∙ sym k)

  pub enter-numbered : (name : Bytes) (a : Result (ℕ × Was) Refusal) (p t : List ℕ) → entered a p t ≡ enter pool table name
      → numberAnswer a ≡ number (numbers.entered (enter pool table name))
  unfolding number
  enter-numbered name a p t h = answer-in a ∙ ap (λ (e : Entered). refusalIn e.answer) h

-- `name_of`: the place and the bytes. Its number is that of `check_number`
pub name-of-determined : (pool : Bor (List ℕ)) (table : List ℕ) (i : ℕ) (p q : Bor (List ℕ)) → IsPart pool p (partAsked pool.now table i)
    → IsPart pool q (partAsked pool.now table i) → (p.ref_ptr ≡ q.ref_ptr) × (p.now ≡ q.now)
name-of-determined pool table i p q h k = (h.place ∙ sym k.place, h.bytes ∙ sym k.bytes)
