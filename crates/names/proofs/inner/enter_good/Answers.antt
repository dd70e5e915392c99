-- `names::inner::enter_good` meets its contract: the length, then the search.
use mathlib.Core.Path.{◌≡◌, ◌∙◌}
use mathlib.Core.Bool.{◌&&◌}
use mathlib.Core.List.{List}
use mathlib.Core.Option.{Option, none, some}
use Prim.Native.Nat.{ℕ, ◌≤◌, ◌<◌}
use native.Mathlib.Omega.{arith}
use borrow.Author.Rules.{rules}
use borrow.Author.Tests.{le-leb, lt-leb}
use lib.Dec.{leb}
use lib.ListN.{length}
use Rattle.rules.specs.Base.{need}
use Rattle.rules.specs.declared.Refusal.TheVariants.{NameLength}
use Rattle.rules.specs.Names.{table_of, names_of, number_of, hasRoom, enterKnown, enterChecked}
use Rattle.laws.proofs.NameTable.{good-laid}
use Rattle.std.specs.Prelude.{Err}
use Rattle.names.specs.Told.{entered}
use Rattle.names.proofs.inner.enter_good.Goals as goal
use Rattle.names.proofs.inner.enter_good.Goals.{then-is_empty-via-then-is_empty, then-is_empty-via-else-is_empty+then-name-gt-NAME_BYTES}

module _ (p t n : List ℕ) where
  empty : length n ≡ 0 → entered (Err NameLength) p t ≡ enterChecked (need (leb 1 (length n) && leb (length n) 48) 2) p t n
  unfolding enterChecked
  empty h = rw (lt-leb 1 (length n) (omega arith))

  too_long : 48 < length n → entered (Err NameLength) p t ≡ enterChecked (need (leb 1 (length n) && leb (length n) 48) 2) p t n
  unfolding enterChecked
  too_long h = rw (le-leb 1 (length n) (omega arith), lt-leb (length n) 48 h)

  searched : (length n ≡ 0 → ⊥) → length n ≤ 48 → (f : Option ℕ) → f ≡ number_of 0 n (names_of (table_of p t))
      → enterKnown f (hasRoom (table_of p t) n) p t n ≡ enterChecked (need (leb 1 (length n) && leb (length n) 48) 2) p t n
  unfolding enterChecked
  searched z h f e = rw (le-leb 1 (length n) (omega arith), le-leb (length n) 48 h, e)

pub returns-then-is_empty : goal.returns-then-is_empty
returns-then-is_empty c =
    let a = c.args in
    elim c.then-is_empty.branch [
      | then-is_empty-via-then-is_empty w ↦ empty a.pool.now a.table.now a.name.now (search rules)
      | then-is_empty-via-else-is_empty+then-name-gt-NAME_BYTES w ↦ too_long a.pool.now a.table.now a.name.now w.if-name-gt-NAME_BYTES.true
    ]

pub search-requires : goal.search-requires
search-requires c = record { laid = good-laid c.requires; within = omega arith }

pub returns-in-Some : goal.returns-in-Some
unfolding enterKnown
returns-in-Some c =
    let a = c.args in
    let long : length a.name.now ≡ 0 → ⊥ = search rules in
    searched a.pool.now a.table.now a.name.now long c.if-name-gt-NAME_BYTES.false (some c.in-Some.i) (rw c.in-Some.is at c.search.ensures)

pub returns-in-None : goal.returns-in-None
returns-in-None c =
    let a = c.args in
    let long : length a.name.now ≡ 0 → ⊥ = search rules in
    c.enter_new.ensures ∙ searched a.pool.now a.table.now a.name.now long c.if-name-gt-NAME_BYTES.false none (rw c.in-None.is at c.search.ensures)
