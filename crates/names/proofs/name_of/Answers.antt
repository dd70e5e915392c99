-- `names::name_of` meets its contract: a number that passed has a name, and a refusal gives the empty part.
use mathlib.Core.Path.{◌≡◌, refl, subst}
use mathlib.Core.List.{List, []}
use Prim.Native.Nat.{ℕ, ◌<◌}
use lib.ListN.{get_or}
use Rattle.rules.specs.Base.{Got, got, refused}
use Rattle.rules.specs.Names.{Bytes, table_of, nameAsked, start_in, partFrom, partAsked}
use Rattle.laws.specs.NameTable.{Good}
use Rattle.laws.proofs.NameTable.{name-asked, start-in, good-laid}
use Rattle.names.specs.Told.{refusalOf, IsPart, heldPart}
use Rattle.names.proofs.Asked.{passed-held}
use Rattle.names.proofs.name_of.Goals as goal

module _ (p t : List ℕ) (i : ℕ) where
  named : Good p t → i < get_or t 0 0 → heldPart p t i ≡ partAsked p t i
  unfolding partAsked partFrom
  named g h = rw (name-asked g i h, start-in (good-laid g) i h)

nothing : (start : ℕ) (x : Got Bytes) {k : ℕ} → refused k ≡ refusalOf x → record { start = 0; bytes = [] } ≡ partFrom start x
unfolding partFrom
nothing start (got n) h = cc
nothing start (refused k) h = refl

pub name_at-requires : goal.name_at-requires
name_at-requires c =
    let a = c.args in
    let h = passed-held a.pool.now a.table.now a.number (rw c.in-Ok.is at c.check_number.ensures) in
    record { laid = good-laid h.0; held = h.1 }

pub returns-in-Ok : goal.returns-in-Ok
returns-in-Ok c =
    let a = c.args in
    let h = passed-held a.pool.now a.table.now a.number (rw c.in-Ok.is at c.check_number.ensures) in
    subst (IsPart a.pool _) (named a.pool.now a.table.now a.number h.0 h.1) c.name_at.ensures

pub returns-in-Err : goal.returns-in-Err
unfolding partAsked partFrom
returns-in-Err c =
    let a = c.args in
    let e = nothing (start_in (table_of a.pool.now a.table.now) a.number) (nameAsked a.pool.now a.table.now a.number)
    (rw c.in-Err.is at c.check_number.ensures) in
    subst (IsPart a.pool _) e (record { place = refl; bytes = refl })
