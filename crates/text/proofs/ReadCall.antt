-- The call that reads a sheet: 10, or what is answered past it.
use Rattle.std.specs.Prelude.{◌≡◌, refl, true, ◌&&◌, List, ℕ, ◌≤◌, Err, leb, length}
use Rattle.std.proofs.Math.Path.{sym, ap}
use Rattle.std.proofs.Common.{◌∙◌, leb-true}
use Rattle.std.proofs.Math.ListN.{replicate}
use Rattle.rules.specs.Base.{got, refused}
use Rattle.rules.specs.Names.{lentTable}
use Rattle.rules.specs.Calls.{lent, workAfter}
use Rattle.rules.specs.TextReading.{sheetGiven, readTextCall}
use Rattle.rules.specs.declared.Refusal.TheVariants.{ShortBuffer}
use Rattle.laws.proofs.Checks.{need-passed}
use Rattle.laws.specs.Lists.{and_left, and_right}
use Rattle.records_buffers.proofs.OnLent.{Long}
use Rattle.text_sheet.specs.Loop.{Sheet}
use Rattle.text_sheet.specs.Given.{readAs, Answers}

-- ══ What is lent is long enough ══

both_long : (pool table : List ℕ) → lentTable pool table ≡ got tt → (leb 8192 (length pool) && leb 257 (length table)) ≡ true
unfolding lentTable
both_long pool table e = need-passed (leb 8192 (length pool) && leb 257 (length table)) 10 e

module _ {pool table result work : List ℕ} (long : Long pool table result work) where
  pub pool-long : 8192 ≤ length pool
  pool-long = leb-true 8192 (length pool) (and_left (leb 8192 (length pool)) (leb 257 (length table)) (both_long pool table long.table-met))

  pub table-long : 257 ≤ length table
  table-long = leb-true 257 (length table) (and_right (leb 8192 (length pool)) (leb 257 (length table)) (both_long pool table long.table-met))

-- ══ The call ══

module _ (pool table text result work : List ℕ) where
  pub short : lent pool table result work ≡ refused 10 → readAs (Err (record { why = ShortBuffer; line = 0; column = 0 })) pool table result work
      ≡ readTextCall pool table text result work
  unfolding readTextCall sheetGiven workAfter
  short e = rw e

  pub called : {p t e z : List ℕ} {r : Sheet} {n : ℕ} → Long pool table result work → Answers pool table text result p t e r → n ≡ length work
      → z ≡ replicate n 0
      → readAs r p t e z ≡ readTextCall pool table text result work
  unfolding readTextCall sheetGiven workAfter
  called {p} {t} {e} {z} {r} {n} long a f g =
      ap (readAs r p t e) (g ∙ ap (λ (k : ℕ). replicate k 0) f) ∙ a.is (replicate (length work) 0) ∙ sym (rw long.met refl)
