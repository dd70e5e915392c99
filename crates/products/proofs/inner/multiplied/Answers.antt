-- `products::inner::multiplied` meets its contract. The invariant: what `out` holds, and that merging the rest completes the merge.
use mathlib.Core.Path.{◌≡◌, sym, ◌∙◌, ap}
use mathlib.Core.List.{List, [], ◌∷◌, ◌++◌, append_assoc}
use mathlib.Core.Logic.{◌⊎◌, inl, inr}
use Prim.Native.Nat.{ℕ, Ordering, ◌+◌, ◌≤◌, ◌<◌}
use native.Mathlib.Omega.{arith}
use lib.ListN.{drop, length-append, length-drop}
use Rattle.std.proofs.lemmas.Result.{err_from_is_err_and}
use Rattle.rules.specs.Base.{Got, got, bounded}
use Rattle.rules.specs.Exponents.{Exp, sum}
use Rattle.rules.specs.Names.{table_of, numbersOf}
use Rattle.rules.specs.Products.{merge}
use Rattle.rules.specs.Trees.{Names, orderAtom}
use Rattle.laws.proofs.Ranges.{stored-good}
use Rattle.exponents.specs.Answers.{expOf}
use Rattle.names.specs.Told.{toldOrder}
use Rattle.products.specs.declared.Product.{Product}
use Rattle.products.specs.Told.{atomAt, tree_of, productOf, factorAt, answer}
use Rattle.products.proofs.OnKinds.{value-back}
use Rattle.products.proofs.Places.{at_place, at-end, length-product, given-len}
use Rattle.products.specs.Held.{Well}
use Rattle.products.proofs.Held.{well-sound}
use Rattle.products.proofs.Steps.{
  prepend,
  doing-start,
  doing-len,
  doing-put,
  doing-kept,
  doing-stop,
  doing_end,
  joined,
  turn-less,
  turn_more,
  turn-same,
  merge-left,
  multiply-got,
  multiply-refused,
}
use Rattle.products.proofs.inner.multiplied.Goals as goal
use Rattle.products.proofs.inner.multiplied.Goals.{then-loop-i-test+else-j-n, else-loop-i-test}

-- one turn: both lists stand at a factor
module _ {pool table : List ℕ} {a b : Product} (w : Well pool table a) (v : Well pool table b) (i j : ℕ) (h : i < a.len) (k : j < b.len) where
  abbrev ν : Names ℕ
  ν = numbersOf (table_of pool table)

  abbrev Ordered : Ordering → Type 0
  Ordered o = orderAtom ν (atomAt (factorAt a i)) (atomAt (factorAt b j)) ≡ o

  less : Ordered Ordering.lt → merge ν bounded (drop i (productOf a)) (drop j (productOf b))
      ≡ prepend (tree_of (factorAt a i) ∷ []) (merge ν bounded (drop (i + 1) (productOf a)) (drop j (productOf b)))
  less o = turn-less ν (factorAt a i) (factorAt b j) _ _ _ _ (at_place a w.long w.few i h) (at_place b v.long v.few j k) o

  more : Ordered Ordering.gt → merge ν bounded (drop i (productOf a)) (drop j (productOf b))
      ≡ prepend (tree_of (factorAt b j) ∷ []) (merge ν bounded (drop i (productOf a)) (drop (j + 1) (productOf b)))
  more o = turn_more ν (factorAt a i) (factorAt b j) _ _ _ _ (at_place a w.long w.few i h) (at_place b v.long v.few j k) o

  same : Ordered Ordering.eq → (s : Got Exp) → s ≡ sum bounded (expOf (factorAt a i).exp) (expOf (factorAt b j).exp)
      → merge ν bounded (drop i (productOf a)) (drop j (productOf b))
      ≡ joined (atomAt (factorAt a i)) s (merge ν bounded (drop (i + 1) (productOf a)) (drop (j + 1) (productOf b)))
  same o s e =
      turn-same ν (factorAt a i) (factorAt b j) _ _ _ _ (at_place a w.long w.few i h) (at_place b v.long v.few j k) o
      ∙ ap (λ (m : Got Exp). joined (atomAt (factorAt a i)) m (merge ν bounded (drop (i + 1) (productOf a)) (drop (j + 1) (productOf b)))) (sym e)

pub loop-i-init : goal.loop-i-init
loop-i-init c = (omega arith, omega arith, doing-start _ _ c.scalar-out.ensures)

pub order-requires : goal.order-requires
order-requires c = record { left = c.requires.left.each c.loop-i.i (omega arith); right = c.requires.right.each c.loop-i.j c.if-j-n.true }

pub push-requires : goal.push-requires
push-requires c = omega (arith, doing-len c.loop-i.invariant.2, c.requires.left.few, c.requires.right.few)

pub loop-i-preserved-in-Less : goal.loop-i-preserved-in-Less
loop-i-preserved-in-Less c =
    let i = c.loop-i.i in
    let j = c.loop-i.j in
    let h : i < c.args.a.now.len = omega arith in
    let step : i + j < i + 1 + j = omega arith in (
      omega arith,
      omega arith,
      rw c.push.ensures
          (doing-put c.loop-i.invariant.2 (factorAt c.args.a.now i) (tree_of (factorAt c.args.a.now i)) _ _
          (value-back (factorAt c.args.a.now i) (c.requires.left.each i h).kind) step
          (less c.requires.left c.requires.right i j h c.if-j-n.true (sym c.order.ensures ∙ ap toldOrder c.in-Less.is))),
    )

pub push-requires-in-Greater : goal.push-requires-in-Greater
push-requires-in-Greater c = omega (arith, doing-len c.loop-i.invariant.2, c.requires.left.few, c.requires.right.few)

pub loop-i-preserved-in-Greater : goal.loop-i-preserved-in-Greater
loop-i-preserved-in-Greater c =
    let i = c.loop-i.i in
    let j = c.loop-i.j in
    let h : i < c.args.a.now.len = omega arith in
    let step : i + j < i + (j + 1) = omega arith in (
      omega arith,
      omega arith,
      rw c.push-in-Greater.ensures
          (doing-put c.loop-i.invariant.2 (factorAt c.args.b.now j) (tree_of (factorAt c.args.b.now j)) _ _
          (value-back (factorAt c.args.b.now j) (c.requires.right.each j c.if-j-n.true).kind) step
          (more c.requires.left c.requires.right i j h c.if-j-n.true (sym c.order.ensures ∙ ap toldOrder c.in-Greater.is))),
    )

pub sum_of-requires : goal.sum_of-requires
sum_of-requires c =
    (stored-good _ (c.requires.left.each c.loop-i.i (omega arith)).stored, stored-good _ (c.requires.right.each c.loop-i.j c.if-j-n.true).stored)

pub returns-in_err-e-in-Equal : goal.returns-in_err-e-in-Equal
unfolding answer
returns-in_err-e-in-Equal c =
    let p = err_from_is_err_and c.from_residual.result c.from_residual.ensures.1 in
    rw (p.1, p.2)
    (sym (ap answer (multiply-refused (numbersOf (table_of c.args.names.pool.now c.args.names.table.now)) _ _ _ (doing-stop c.loop-i.invariant.2 _
    (same c.requires.left c.requires.right c.loop-i.i c.loop-i.j (omega arith) c.if-j-n.true (sym c.order.ensures ∙ ap toldOrder c.in-Equal.is) _
    c.in_err-e-in-Equal.ensures)))))

pub keep-requires : goal.keep-requires
keep-requires c = omega (arith, doing-len c.loop-i.invariant.2, c.requires.left.few, c.requires.right.few)

pub loop-i-preserved : goal.loop-i-preserved
loop-i-preserved c =
    let i = c.loop-i.i in
    let j = c.loop-i.j in
    let h : i < c.args.a.now.len = omega arith in
    let step : i + j < i + 1 + (j + 1) = omega arith in (
      omega arith,
      omega arith,
      rw c.keep.ensures
          (doing-kept c.loop-i.invariant.2 (factorAt c.args.a.now i) c.in_ok-e-in-Equal.e _ _ (c.requires.left.each i h).kind step
          (same c.requires.left c.requires.right i j h c.if-j-n.true (sym c.order.ensures ∙ ap toldOrder c.in-Equal.is) _ c.in_ok-e-in-Equal.ensures)),
    )

pub append-requires : goal.append-requires
append-requires c =
    let n = doing-len c.loop-i.invariant.2 in
    record { sound = well-sound c.requires.left; room = (omega (arith, c.requires.left.few, c.requires.right.few), c.loop-i.invariant.0) }

pub append-requires-2 : goal.append-requires-2
append-requires-2 c =
    let g = c.loop-i.invariant.2 in
    let A = productOf c.args.a.now in
    let n = given-len c.append.new.self (g.acc ++ drop c.loop-i.i A) (c.append.ensures g.acc g.is) in
    let few : c.append.new.self.len ≤ 128 =
    omega (
      arith,
      n,
      length-append g.acc (drop c.loop-i.i A),
      length-drop c.loop-i.i A,
      length-product c.args.a.now c.requires.left.long
          c.requires.left.few,
      g.few,
      c.requires.left.few,
      c.requires.right.few,
    ) in
    record { sound = well-sound c.requires.right; room = (few, c.loop-i.invariant.1) }

pub returns : goal.returns
returns c =
    let g = c.loop-i.invariant.2 in
    let A = drop c.loop-i.i (productOf c.args.a.now) in
    let B = drop c.loop-i.j (productOf c.args.b.now) in
    let ended : (A ≡ []) ⊎ (B ≡ []) =
    elim c.loop-i-test.branch [
      | then-loop-i-test+else-j-n w ↦
          let h : c.loop-i.j ≡ c.args.b.now.len = omega (arith, w.if-j-n.false) in
          inr (ap (λ (k : ℕ). drop k (productOf c.args.b.now)) h ∙ at-end c.args.b.now c.requires.right.long c.requires.right.few)
      | else-loop-i-test w ↦
          let h : c.loop-i.i ≡ c.args.a.now.len = omega (arith, w.loop-i-test.false) in
          inl (ap (λ (k : ℕ). drop k (productOf c.args.a.now)) h ∙ at-end c.args.a.now c.requires.left.long c.requires.left.few)
    ] in
    let two' = c.append-2.ensures (g.acc ++ A) (c.append.ensures g.acc g.is) in
    let whole = doing_end g (A ++ B) (merge-left (numbersOf (table_of c.args.names.pool.now c.args.names.table.now)) A B ended)
    ∙ ap got (sym (append_assoc g.acc A B)) in
    c.counted.ensures ((g.acc ++ A) ++ B) two' ∙ sym
    (ap answer (multiply-got (numbersOf (table_of c.args.names.pool.now c.args.names.table.now)) _ _ ((g.acc ++ A) ++ B) whole))
