-- What is asked of a pool, a table and a number, check by check.
use mathlib.Core.Path.{◌≡◌, refl, sym}
use mathlib.Core.Bool.{Bool, true, false, ◌&&◌}
use mathlib.Core.List.{List, []}
use Prim.Native.Nat.{ℕ, ◌<◌}
use borrow.Author.Tests.{ltb-true}
use lib.Dec.{ltb, leb}
use lib.ListN.{get_or, length}
use Rattle.std.proofs.lemmas.Bool.Decides.{nat_tests}
use Rattle.rules.specs.Base.{Got, got, refused, ◌>>◌, need}
use Rattle.rules.specs.Names.{table_of, names_of, tableGiven, nameAsked, unchanged, enterChecks, enterChecked, enter}
use Rattle.laws.proofs.Lists.{clash}
use Rattle.laws.specs.NameTable.{Good}
use Rattle.laws.proofs.NameTable.{given-good}
use Rattle.names.specs.Told.{refusalOf}

-- `check_number`
module _ (p t : List ℕ) (i : ℕ) where
  pub held : tableGiven p t ≡ got tt → ltb i (get_or t 0 0) ≡ true → refusalOf (nameAsked p t i) ≡ got tt
  unfolding nameAsked table_of
  held e h = rw (e, h)

  pub not-held : tableGiven p t ≡ got tt → ltb i (get_or t 0 0) ≡ false → refusalOf (nameAsked p t i) ≡ refused 3
  unfolding nameAsked table_of
  not-held e h = rw (e, h)

  pub stopped : (k : ℕ) → tableGiven p t ≡ refused k → refusalOf (nameAsked p t i) ≡ refused k
  unfolding nameAsked
  stopped k e = rw e

  -- a number that passes is held, in a table that is well formed
  pub passed-held : got tt ≡ refusalOf (nameAsked p t i) → Good p t × (i < get_or t 0 0)
  unfolding nameAsked table_of
  passed-held h = go (tableGiven p t) refl (ltb i (get_or t 0 0)) refl h
    where
      go : (a : Got (Unit {0})) → tableGiven p t ≡ a → (b : Bool) → ltb i (get_or t 0 0) ≡ b
          → got tt ≡ refusalOf (a >> (need b 3 >> got (get_or (names_of (table_of p t)) i [])))
          → Good p t × (i < get_or t 0 0)
      go (refused k) e b f h = clash (sym h)
      go (got u) e false f h = clash (sym h)
      go (got u) e true f h = (given-good e, ltb-true i (get_or t 0 0) f)

-- `enter`
module _ (p t n : List ℕ) where
  pub enter-stopped : (k : ℕ) → tableGiven p t ≡ refused k → enter p t n ≡ unchanged p t (refused k)
  unfolding enter enterChecks enterChecked
  enter-stopped k e = rw e

  pub enter-passed : tableGiven p t ≡ got tt → enter p t n ≡ enterChecked (need (leb 1 (length n) && leb (length n) 48) 2) p t n
  unfolding enter enterChecks
  enter-passed e = rw e

pub ruleset tested = nat_tests

pub ruleset asked = (held, not-held, stopped, enter-stopped, enter-passed, given-good)
