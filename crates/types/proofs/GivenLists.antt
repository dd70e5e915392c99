-- What the tests of a set, of a type and of bindings find.
use Rattle.std.specs.Prelude.{◌≡◌, Bool, true, ◌&&◌, List, [], ◌∷◌, ℕ, ◌/◌, ◌%◌, ◌≤◌, eqb, length}
use Rattle.std.proofs.Common.{subst, arith}
use Rattle.rules.specs.Base.{got, ◌>>◌, need, max_of}
use Rattle.rules.specs.Calls.{setGiven, typeGiven, bindingsGiven}
use Rattle.rules.specs.Names.{table_of}
use Rattle.rules.specs.Reading.{readCon, readTy, readBinding}
use Rattle.rules.specs.Trees.{Binding, Con, sizeBinding, sizeCon, depthCon}
use Rattle.records.specs.Found.{Words32}
use Rattle.records.proofs.Given.{list-told, one_told, con-reader, type-reader, binding-reader}
use Rattle.records.specs.Good.{Chain, Chained, There, GoodCon, goodCon, GoodTy, goodTy, GoodBinding, goodBinding}
use Rattle.records.proofs.Whole.{set_given, type-given, bindings-given}
use Rattle.types.specs.Binds.{one-binds}
use Rattle.types.proofs.Binds.{HoldsBinds}
use Rattle.types.specs.Fine.{Fine, FineBindings}
use Rattle.types.specs.Once.{one-tree}
use Rattle.types.proofs.Rows.{Row, row}
use Rattle.types.specs.Sets.{one-set}
use Rattle.types.proofs.OnSets.{HoldsCons}
use Rattle.types.specs.Runs.{HoldsEach}
use Rattle.types.proofs.Tested.{Held}

module _ (pool table ws : List ℕ) where
  abbrev N : ℕ
  N = length ws / 4

  pub set-row : (at : ℕ) (cs : List (Con ℕ)) → Chain (GoodCon pool table 0 ws) N cs at → Row (HoldsCons ws) sizeCon (goodCon pool table 0) N at cs
  unfolding HoldsEach
  set-row = row (HoldsCons ws) sizeCon (goodCon pool table 0) (GoodCon pool table 0 ws) (λ at. tt)
      (λ at c e cs g h. (g.held, subst (HoldsCons ws cs) g.past h)) (λ at c e g. (g.past, g.good)) N

  set-flat : (at : ℕ) (cs : List (Con ℕ)) → Chain (GoodCon pool table 0 ws) N cs at → max_of depthCon cs ≤ 64
  set-flat at [] c = omega arith
  set-flat at (c ∷ cs) (e, (g, k)) = omega (arith, g.deep, set-flat e cs k)

  bindings-row : (at : ℕ) (bs : List (Binding ℕ)) → Chain (GoodBinding pool table 0 ws) N bs at
      → Row (HoldsBinds ws) sizeBinding (goodBinding pool table 0) N at bs
  unfolding HoldsEach
  bindings-row = row (HoldsBinds ws) sizeBinding (goodBinding pool table 0) (GoodBinding pool table 0 ws) (λ at. tt)
      (λ at b e bs g h. (g.held, subst (HoldsBinds ws bs) g.past h)) (λ at b e g. (g.past, g.good)) N

  module _ (w : Words32 ws) (b : Bool) where
    abbrev Passed : Type 0
    Passed = (length ws % 4 ≡ 0) × (b ≡ true)

    module _ (h : Chained (GoodCon pool table 0 ws) N 0 b) where
      pub set-told : (setGiven (table_of pool table) ws >> got (tt {0})) ≡ need (eqb (length ws % 4) 0 && b) 1
      unfolding setGiven
      set-told = list-told ws readCon (goodCon pool table 0) (GoodCon pool table 0 ws) (con-reader pool table ws w) b h

      pub set-held : length ws ≤ 8192 → Passed → Held (one-set ws 0 N) (setGiven (table_of pool table) ws) (Fine pool table)
      set-held s p =
          let x : Chained (GoodCon pool table 0 ws) N 0 true = rw p.1 at h in
          let r = set-row 0 x.0 x.1 in
          record {
            its = (x.0, record { held = r.held; ends = r.ends });
            given = set_given pool table ws w x.0 p.0 x.1;
            known = record { good = r.right; small = omega (arith, r.ends, s); flat = set-flat 0 x.0 x.1 };
          }

    module _ (h : There (λ t. GoodTy pool table 0 ws 64 0 t N) b) where
      pub type-told : (typeGiven (table_of pool table) ws >> got (tt {0})) ≡ need (eqb (length ws % 4) 0 && b) 1
      unfolding typeGiven
      type-told = one_told ws (readTy 64) (goodTy pool table 0) (GoodTy pool table 0 ws 64) (type-reader pool table ws w) b h

      pub type-held : Passed → Held (one-tree ws 0) (typeGiven (table_of pool table) ws) (λ t. goodTy pool table 0 t ≡ true)
      type-held p =
          let x : There (λ t. GoodTy pool table 0 ws 64 0 t N) true = rw p.1 at h in
          record { its = (x.0, x.1.held); given = type-given pool table ws w x.0 p.0 x.1; known = x.1.good }

    module _ (h : Chained (GoodBinding pool table 0 ws) N 0 b) where
      pub bindings-told : (bindingsGiven (table_of pool table) ws >> got (tt {0})) ≡ need (eqb (length ws % 4) 0 && b) 1
      unfolding bindingsGiven
      bindings-told = list-told ws readBinding (goodBinding pool table 0) (GoodBinding pool table 0 ws) (binding-reader pool table ws w) b h

      pub bindings-held : length ws ≤ 8192 → Passed → Held (one-binds ws 0 N) (bindingsGiven (table_of pool table) ws) (FineBindings pool table)
      bindings-held s p =
          let x : Chained (GoodBinding pool table 0 ws) N 0 true = rw p.1 at h in
          let r = bindings-row 0 x.0 x.1 in
          record {
            its = (x.0, record { held = r.held; ends = r.ends });
            given = bindings-given pool table ws w x.0 p.0 x.1;
            known = record { good = r.right; small = omega (arith, r.ends, s) };
          }
