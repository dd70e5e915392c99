-- `products::inner::append` meets its contract. The invariant: what `q` holds, and which factors are left.
use mathlib.Core.Path.{◌≡◌, refl, sym, ◌∙◌, ap}
use mathlib.Core.List.{[]}
use Prim.Native.Nat.{ℕ, ◌+◌, ◌<◌}
use native.Mathlib.Omega.{arith}
use lib.ListN.{drop, length}
use Rattle.rules.specs.Base.{got}
use Rattle.rules.specs.Values.{productValue}
use Rattle.products.specs.Told.{tree_of, productOf, factorAt, put_of}
use Rattle.products.proofs.OnKinds.{value-back}
use Rattle.products.proofs.Places.{at_place, at-end}
use Rattle.products.proofs.Steps.{doing-put, doing-done, got-injective}
use Rattle.products.proofs.Product.append.Goals as goal

pub loop-i-init : goal.loop-i-init
loop-i-init c = (omega arith, omega arith, refl, λ acc h. record { acc = acc; is = h; few = omega arith; rest = refl })

pub push-requires : goal.push-requires
push-requires c = omega (arith, c.requires.sound.few)

pub loop-i-preserved : goal.loop-i-preserved
unfolding put_of
loop-i-preserved c =
    let h : c.loop-i.i < c.args.p.now.len = omega arith in
    let f = factorAt c.args.p.now c.loop-i.i in
    let e = at_place c.args.p.now c.requires.sound.long c.requires.sound.few c.loop-i.i h in (
      omega arith,
      omega arith,
      rw c.push.ensures (omega arith),
      λ acc k.
          let more : length acc + c.loop-i.i < length acc + (c.loop-i.i + 1) = omega arith in
          rw c.push.ensures (doing-put (c.loop-i.invariant.3 acc k) f (tree_of f) _ _ (value-back f (c.requires.sound.kind _ h)) more (ap got e)),
    )

pub returns : goal.returns
returns c acc h =
    let g = c.loop-i.invariant.3 acc h in
    let i : c.loop-i.i ≡ c.args.p.now.len = omega arith in
    let done : drop c.loop-i.i (productOf c.args.p.now) ≡ [] = ap (λ (k : ℕ). drop k (productOf c.args.p.now)) i
    ∙ at-end c.args.p.now c.requires.sound.long c.requires.sound.few in
    g.is ∙ ap productValue (sym (got-injective (doing-done g (ap got done))))
