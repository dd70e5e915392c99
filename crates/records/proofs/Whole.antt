-- The public tests of lists, from what the walkers find.
use Rattle.std.specs.Prelude.{◌≡◌, refl, Bool, ◌&&◌, List, [], ◌∷◌, ℕ, ◌/◌, ◌%◌, eqb, length}
use borrow.Author.Tests.{leb-true}
use Rattle.std.proofs.Math.Dec.{leb}
use Rattle.rules.specs.Base.{got, ◌>>◌, need, all}
use Rattle.rules.specs.Names.{table_of, tableGood, lentTable}
use Rattle.rules.specs.Reading.{readTy, readCon, readBinding}
use Rattle.rules.specs.Trees.{Ty, Con, Binding}
use Rattle.rules.specs.Calls.{only, aloneGiven, shortLists, tableKept, setGiven, typeGiven, bindingsGiven, setCall, typeCall, bindingsCall}
use Rattle.laws.proofs.Checks.{need-passed, first-passed, next-passed}
use Rattle.laws.specs.Lists.{and_left, and_right}
use Rattle.laws.specs.NameTable.{Good}
use Rattle.records.specs.Found.{Words32}
use Rattle.records.specs.Good.{Chain, Chained, There, goodTy, goodCon, goodBinding, GoodTy, GoodCon, GoodBinding}
use Rattle.records.specs.Given.{list-yes}
use Rattle.records.proofs.Given.{list-is, one-is, list-told, one_told, con-reader, binding-reader, type-reader}

module _ (pool table ws : List ℕ) (e : aloneGiven pool table ws ≡ got tt) where
  pub entry-good : Good pool table
  unfolding aloneGiven lentTable shortLists tableKept
  entry-good =
      let lent = need (leb 8192 (length pool) && leb 257 (length table)) 10 in
      let short = need (all (λ ws. leb (length ws) 8192) (ws ∷ [])) 8 in
      let kept = need (tableGood (table_of pool table)) 1 in
      let long = need-passed (leb 8192 (length pool) && leb 257 (length table)) 10 (first-passed short tt lent (first-passed kept tt (lent >> short) e)) in
      record {
        bytes = leb-true 8192 (length pool) (and_left (leb 8192 (length pool)) (leb 257 (length table)) long);
        words = leb-true 257 (length table) (and_right (leb 8192 (length pool)) (leb 257 (length table)) long);
        good = need-passed (tableGood (table_of pool table)) 1 (next-passed kept tt (lent >> short) e);
      }

  module _ (w : Words32 ws) (b : Bool) where
    pub set_told : Chained (GoodCon pool table 0 ws) (length ws / 4) 0 b → setCall pool table ws ≡ need (eqb (length ws % 4) 0 && b) 1
    unfolding setCall setGiven
    set_told h = rw e (list-told ws readCon (goodCon pool table 0) (GoodCon pool table 0 ws) (con-reader pool table ws w) b h)

    pub bindings-told : Chained (GoodBinding pool table 0 ws) (length ws / 4) 0 b → bindingsCall pool table ws ≡ need (eqb (length ws % 4) 0 && b) 1
    unfolding bindingsCall bindingsGiven
    bindings-told h = rw e (list-told ws readBinding (goodBinding pool table 0) (GoodBinding pool table 0 ws) (binding-reader pool table ws w) b h)

    pub type-told : There (λ t. GoodTy pool table 0 ws 64 0 t (length ws / 4)) b → typeCall pool table ws ≡ need (eqb (length ws % 4) 0 && b) 1
    unfolding typeCall typeGiven
    type-told h = rw e (one_told ws (readTy 64) (goodTy pool table 0) (GoodTy pool table 0 ws 64) (type-reader pool table ws w) b h)

-- ══ What is given is held ══

module _ (pool table ws : List ℕ) (w : Words32 ws) where
  abbrev N : ℕ
  N = length ws / 4

  pub set_is : (cs : List (Con ℕ)) → setGiven (table_of pool table) ws ≡ got cs → Chain (GoodCon pool table 0 ws) N cs 0
  unfolding setGiven
  set_is cs h = list-is ws readCon (goodCon pool table 0) (GoodCon pool table 0 ws) (con-reader pool table ws w) cs h

  pub bindings-is : (bs : List (Binding ℕ)) → bindingsGiven (table_of pool table) ws ≡ got bs → Chain (GoodBinding pool table 0 ws) N bs 0
  unfolding bindingsGiven
  bindings-is bs h = list-is ws readBinding (goodBinding pool table 0) (GoodBinding pool table 0 ws) (binding-reader pool table ws w) bs h

  pub type-is : (t : Ty ℕ) → typeGiven (table_of pool table) ws ≡ got t → GoodTy pool table 0 ws 64 0 t N
  unfolding typeGiven
  type-is t h = one-is ws (readTy 64) (goodTy pool table 0) (GoodTy pool table 0 ws 64) (type-reader pool table ws w) t h

  -- and what is held as a whole is given
  pub set_given : (cs : List (Con ℕ)) → length ws % 4 ≡ 0 → Chain (GoodCon pool table 0 ws) N cs 0 → setGiven (table_of pool table) ws ≡ got cs
  unfolding setGiven
  set_given cs h c = list-yes ws readCon (goodCon pool table 0) (GoodCon pool table 0 ws) (con-reader pool table ws w) cs h c

  pub bindings-given : (bs : List (Binding ℕ)) → length ws % 4 ≡ 0 → Chain (GoodBinding pool table 0 ws) N bs 0
      → bindingsGiven (table_of pool table) ws ≡ got bs
  unfolding bindingsGiven
  bindings-given bs h c = list-yes ws readBinding (goodBinding pool table 0) (GoodBinding pool table 0 ws) (binding-reader pool table ws w) bs h c

  pub type-given : (t : Ty ℕ) → length ws % 4 ≡ 0 → GoodTy pool table 0 ws 64 0 t N → typeGiven (table_of pool table) ws ≡ got t
  unfolding typeGiven only
  type-given t h g = rw (list-yes ws (readTy 64) (goodTy pool table 0) (GoodTy pool table 0 ws 64) (type-reader pool table ws w) (t ∷ []) h (N, (g, refl)))
