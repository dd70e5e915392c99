-- `products::inner::inverted` meets its contract. The invariant: what `out` holds, and that inverting the rest completes it.
use mathlib.Core.Path.{◌≡◌, sym, ◌∙◌, ap}
use mathlib.Core.List.{[]}
use Prim.Native.Nat.{ℕ, ◌<◌}
use native.Mathlib.Omega.{arith}
use lib.ListN.{drop, take, get_or, length}
use Rattle.std.proofs.Common.{get_or-take, length-take}
use Rattle.rules.specs.Base.{got}
use Rattle.rules.specs.Exponents.{Exp}
use Rattle.rules.specs.Products.{inverse}
use Rattle.rules.specs.Trees.{◌↑◌}
use Rattle.rules.specs.Values.{productValue, value_of}
use Rattle.laws.proofs.Ranges.{stored-good}
use Rattle.products.specs.Told.{Tree, unread, atomAt, productOf, factorAt, withExp}
use Rattle.products.specs.declared.Product.{Product}
use Rattle.products.proofs.OnKinds.{value-back}
use Rattle.products.proofs.Places.{at_place, at-end}
use Rattle.products.proofs.Steps.{doing-start, doing-len, doing-put, doing-done, got-injective, inverse-turn, inverse-done}
use Rattle.products.proofs.inner.inverted.Goals as goal

-- the factor at a place, among those that count
there : (a : Product) (i : ℕ) → i < length (take a.len a.factors) → (i < a.len) × (get_or (take a.len a.factors) i unread ≡ factorAt a i)
there a i h = let k : i < a.len = omega (arith, length-take a.len a.factors) in (k, get_or-take a.len a.factors i unread k)

pub loop-x-init : goal.loop-x-init
loop-x-init c = doing-start _ _ c.scalar-out.ensures

pub negative_of-exp-requires : goal.negative_of-exp-requires
negative_of-exp-requires c =
    let t = there c.args.a.now c.loop-x.x-index c.loop-x-test.true in
    rw t.1 (stored-good _ (c.requires.stored _ t.0))

pub push-requires : goal.push-requires
push-requires c = omega (arith, doing-len c.loop-x.invariant, c.requires.few, (there c.args.a.now c.loop-x.x-index c.loop-x-test.true).0)

pub loop-x-preserved : goal.loop-x-preserved
loop-x-preserved c =
    let i = c.loop-x.x-index in
    let t = there c.args.a.now i c.loop-x-test.true in
    let x = factorAt c.args.a.now i in
    let n = c.negative_of-exp in
    let v = value-back (withExp x n.result) (c.requires.kind _ t.0) ∙ ap (λ (e : Exp). value_of (atomAt x ↑ e)) (rw t.1 at n.ensures) in
    let e = ap (λ (r : Tree). got (inverse r)) (at_place c.args.a.now c.requires.long c.requires.few i t.0) ∙ ap got (inverse-turn x _) in
    rw (c.push.ensures, t.1) (doing-put c.loop-x.invariant (withExp x n.result) _ _ _ v (omega arith) e)

pub returns : goal.returns
returns c =
    let g = c.loop-x.invariant in
    let i : c.loop-x.x-index ≡ c.args.a.now.len =
    omega (arith, c.loop-x-test.false, c.loop-x.auto.x-index-end, length-take c.args.a.now.len c.args.a.now.factors, c.requires.few, c.requires.long) in
    let done : inverse (drop c.loop-x.x-index (productOf c.args.a.now)) ≡ [] =
    ap (λ (k : ℕ). inverse (drop k (productOf c.args.a.now))) i ∙ ap inverse (at-end c.args.a.now c.requires.long c.requires.few) ∙ inverse-done in
    g.is ∙ ap productValue (sym (got-injective (doing-done g (ap got done))))
