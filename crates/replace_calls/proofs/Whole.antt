-- The calls past the check of 10, and whole.
use Rattle.std.specs.Prelude.{Result, Ok, ◌≡◌, List, ◌++◌, ℕ, ◌+◌, ◌/◌, ◌≤◌, length, get_or, replicate}
use Rattle.std.proofs.Common.{sym, ap, subst, ◌∙◌}
use Rattle.rules.specs.Base.{Got, got, refused, ◌>>=◌, ◌>>◌, need, collect}
use Rattle.rules.specs.Contents.{unmixed}
use Rattle.rules.specs.Trees.{Open, Ty, Con, Binding, opens, opensCon, size}
use Rattle.rules.specs.Calls.{typeGiven, setGiven, bindingsGiven, opensBinding, lent, resultAfter, replacedType, replacedSet, replaceTypeCall, replaceSetCall}
use Rattle.rules.specs.Names.{Table, table_of}
use Rattle.rules.specs.Writing.{Rec, words}
use Rattle.rules.specs.declared.Refusal.{Refusal}
use Rattle.laws.proofs.Lists.{every_append}
use Rattle.laws.proofs.KnownNames.{ty-known}
use Rattle.laws.proofs.NameTable.{good-laid}
use Rattle.names.specs.declared.tables.NameTable.{NameTable}
use Rattle.records.specs.Found.{Words32}
use Rattle.records.specs.Good.{numbers, holding}
use Rattle.records.proofs.Whole.{type-is, set_is, bindings-is}
use Rattle.queries.proofs.GoodOpens.{names-small}
use Rattle.queries.specs.Marks.{Small}
use Rattle.queries.proofs.Runs.{set-opens, set-small, bindings-opens, bindings-small}
use Rattle.queries.specs.Scans.{opensIn}
use Rattle.queries.proofs.ScanLaws.{type-opens}
use Rattle.records_buffers.proofs.Handed.{as_written, unwritten}
use Rattle.records_buffers.specs.Told.{Made, handed}
use Rattle.types.specs.Given.{list_over}
use Rattle.types.proofs.Tested.{given}
use Rattle.replace_calls.specs.Entry.{both_over}
use Rattle.replace_calls.proofs.Checks.{asked, asked-apart}

-- ══ The open names of what was given ══

module _ (n : NameTable) (ws : List ℕ) (w : Words32 ws) where
  abbrev pool : List ℕ
  pool = n.pool.now

  abbrev table : List ℕ
  table = n.table.now

  few : get_or table 0 0 ≤ 256
  few = (good-laid n.good).few

  pub type-opened : (t : Ty ℕ) → typeGiven (table_of pool table) ws ≡ got t → opensIn ws 0 (length ws / 4) ≡ opens t
  type-opened t e =
      let k = type-is pool table ws w t e in
      let z : length ws / 4 ≡ 0 + size t = k.past in
      rw z (type-opens ws t 0 k.held)

  type-small : (t : Ty ℕ) → typeGiven (table_of pool table) ws ≡ got t → Small (opensIn ws 0 (length ws / 4))
  type-small t e =
      rw (type-opened t e)
      (names-small pool table 0 (opens t) (ty-known (numbers pool table) (holding pool table) 0 t (type-is pool table ws w t e).good) few)

  pub set-opened : (cs : List (Con ℕ)) → setGiven (table_of pool table) ws ≡ got cs → opensIn ws 0 (length ws / 4) ≡ collect opensCon cs
  set-opened cs e = set-opens pool table 0 ws cs 0 (length ws / 4) (set_is pool table ws w cs e)

  constraints-small : (cs : List (Con ℕ)) → setGiven (table_of pool table) ws ≡ got cs → Small (opensIn ws 0 (length ws / 4))
  constraints-small cs e = set-small pool table 0 ws cs 0 (length ws / 4) (set_is pool table ws w cs e) few

  pub bindings-opened : (bs : List (Binding ℕ)) → bindingsGiven (table_of pool table) ws ≡ got bs → opensIn ws 0 (length ws / 4) ≡ collect opensBinding bs
  bindings-opened bs e = bindings-opens pool table 0 ws bs 0 (length ws / 4) (bindings-is pool table ws w bs e)

  binds-small : (bs : List (Binding ℕ)) → bindingsGiven (table_of pool table) ws ≡ got bs → Small (opensIn ws 0 (length ws / 4))
  binds-small bs e = bindings-small pool table 0 ws bs 0 (length ws / 4) (bindings-is pool table ws w bs e) few

module _ (n : NameTable) (ws binds : List ℕ) (w : Words32 ws) (v : Words32 binds) (bs : List (Binding ℕ))
    (b : bindingsGiven (table_of n.pool.now n.table.now) binds ≡ got bs) where
  abbrev Both : Type 0
  Both = Small (opensIn ws 0 (length ws / 4) ++ opensIn binds 0 (length binds / 4))

  both-small : Small (opensIn ws 0 (length ws / 4)) → Both
  both-small s = every_append _ (opensIn ws 0 (length ws / 4)) (opensIn binds 0 (length binds / 4)) s (binds-small n binds v bs b)

  pub type-both : (t : Ty ℕ) → typeGiven (table_of n.pool.now n.table.now) ws ≡ got t → Both
  type-both t e = both-small (type-small n ws w t e)

  pub set-both : (cs : List (Con ℕ)) → setGiven (table_of n.pool.now n.table.now) ws ≡ got cs → Both
  set-both cs e = both-small (constraints-small n ws w cs e)

-- what both lists were read as, and the check of 4 on their open names: with what comes behind it, it is what the call asks
module _ {A : Type 0} (first : Table → List ℕ → Got A) (os : A → List (Open ℕ)) (make : Table → A → List (Binding ℕ) → Got (List Rec))
    (opened : (n : NameTable) (ws : List ℕ) → Words32 ws → (a : A) → first (table_of n.pool.now n.table.now) ws ≡ got a
    → opensIn ws 0 (length ws / 4) ≡ os a) where
  pub made-apart : {names : Result NameTable Refusal} {n : NameTable} {ws binds : List ℕ} {a : A} {bs : List (Binding ℕ)} → names ≡ Ok n
      → Words32 ws → Words32 binds → got a ≡ list_over first names ws → got bs ≡ list_over bindingsGiven names binds → (r : Got (Unit {0}))
      → r ≡ need (unmixed (numbers n.pool.now n.table.now) (opensIn ws 0 (length ws / 4) ++ opensIn binds 0 (length binds / 4))) 4
      → both_over names (asked first os make) ws binds ≡ (r >> make (table_of n.pool.now n.table.now) a bs)
  made-apart {names} {n} {ws} {binds} {a} {bs} i w v e g r h =
      asked-apart first os make ws binds names n i a e bs g _ _ (opened n ws w a (given ws first names n i a e).1)
      (bindings-opened n binds v bs (given binds bindingsGiven names n i bs g).1) r h

-- ══ The calls ══

module _ (pool table ws binds result work : List ℕ) where
  -- a work buffer of the same length is left the same
  handed-on : (m : Got (List Rec)) (w : List ℕ) → length w ≡ length work → handed m result w ≡ handed m result work
  handed-on m w e = ap (λ (n : ℕ). record {
    answer = m >>= λ rs. got (length rs);
    result = resultAfter (m >>= λ rs. got (words rs)) result;
    work = replicate n 0;
  }) e

  pub type-short : lent pool table result work ≡ refused 10
      → record { answer = refused 10; result = result; work = work } ≡ replaceTypeCall pool table ws binds result work
  unfolding replaceTypeCall
  type-short e = unwritten (lent pool table result work) (replacedType (table_of pool table) ws binds) result work e

  pub type-called : (w : List ℕ) → length w ≡ length work → lent pool table result work ≡ got tt
      → handed (replacedType (table_of pool table) ws binds) result w ≡ replaceTypeCall pool table ws binds result work
  unfolding replaceTypeCall
  type-called w n e = handed-on (replacedType (table_of pool table) ws binds) w n
      ∙ as_written (lent pool table result work) (replacedType (table_of pool table) ws binds) result work e

  pub set-short : lent pool table result work ≡ refused 10
      → record { answer = refused 10; result = result; work = work } ≡ replaceSetCall pool table ws binds result work
  unfolding replaceSetCall
  set-short e = unwritten (lent pool table result work) (replacedSet (table_of pool table) ws binds) result work e

  pub set-called : (w : List ℕ) → length w ≡ length work → lent pool table result work ≡ got tt
      → handed (replacedSet (table_of pool table) ws binds) result w ≡ replaceSetCall pool table ws binds result work
  unfolding replaceSetCall
  set-called w n e = handed-on (replacedSet (table_of pool table) ws binds) w n
      ∙ as_written (lent pool table result work) (replacedSet (table_of pool table) ws binds) result work e
