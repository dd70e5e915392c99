-- `products::inner::raised` meets its contract. The invariant: what `out` holds, and that raising the rest completes it.
use mathlib.Core.Path.{◌≡◌, sym, ◌∙◌, ap}
use mathlib.Core.List.{[]}
use Prim.Native.Nat.{ℕ, ◌+◌, ◌<◌}
use native.Mathlib.Omega.{arith}
use lib.ListN.{drop}
use Rattle.std.proofs.lemmas.Result.{err_from_is_err_and}
use Rattle.rules.specs.Base.{Got, got, bounded}
use Rattle.rules.specs.Exponents.{Exp, times}
use Rattle.rules.specs.Names.{numbered}
use Rattle.rules.specs.Products.{raise}
use Rattle.rules.specs.Trees.{Names}
use Rattle.laws.proofs.Ranges.{stored-good}
use Rattle.exponents.specs.Answers.{expOf}
use Rattle.products.specs.declared.Product.{Product}
use Rattle.products.specs.Told.{Tree, atomAt, productOf, factorAt, answer}
use Rattle.products.proofs.Places.{at_place, at-end}
use Rattle.products.specs.Held.{Sound}
use Rattle.products.proofs.Steps.{doing-start, doing-len, doing-kept, doing-stop, doing-done, joined, raise-turn, raise-done}
use Rattle.products.proofs.inner.raised.Goals as goal

turn : (ν : Names ℕ) (a : Product) → Sound a → (k : Exp) (i : ℕ) → i < a.len → (s : Got Exp) → s ≡ times bounded (expOf (factorAt a i).exp) k
    → raise ν bounded (drop i (productOf a)) k ≡ joined (atomAt (factorAt a i)) s (raise ν bounded (drop (i + 1) (productOf a)) k)
turn ν a w k i h s e =
    ap (λ (r : Tree). raise ν bounded r k) (at_place a w.long w.few i h)
    ∙ raise-turn ν (factorAt a i) (drop (i + 1) (productOf a)) k
    ∙ ap (λ (m : Got Exp). joined (atomAt (factorAt a i)) m (raise ν bounded (drop (i + 1) (productOf a)) k)) (sym e)

pub loop-i-init : goal.loop-i-init
loop-i-init c = (omega arith, λ ν. doing-start _ _ c.scalar-out.ensures)

pub product_of-requires : goal.product_of-requires
product_of-requires c = (stored-good _ (c.requires.sound.stored c.loop-i.i (omega arith)), c.requires.power)

pub returns-in_err-k : goal.returns-in_err-k
unfolding answer
returns-in_err-k c ν =
    let p = err_from_is_err_and c.from_residual.result c.from_residual.ensures.1 in
    rw (p.1, p.2)
    (sym (ap answer (doing-stop (c.loop-i.invariant.1 ν) _
    (turn ν c.args.a.now c.requires.sound (expOf c.args.e) c.loop-i.i (omega arith) _ c.in_err-k.ensures))))

pub keep-requires : goal.keep-requires
keep-requires c = omega (arith, doing-len (c.loop-i.invariant.1 (numbered [])), c.requires.sound.few)

pub loop-i-preserved : goal.loop-i-preserved
loop-i-preserved c =
    let i = c.loop-i.i in
    let h : i < c.args.a.now.len = omega arith in
    let step : i < i + 1 = omega arith in (
      omega arith,
      λ ν.
          rw c.keep.ensures
          (doing-kept (c.loop-i.invariant.1 ν) (factorAt c.args.a.now i) c.in_ok-k.k _ _ (c.requires.sound.kind i h) step
          (turn ν c.args.a.now c.requires.sound (expOf c.args.e) i h _ c.in_ok-k.ensures)),
    )

pub returns : goal.returns
unfolding answer
returns c ν =
    let g = c.loop-i.invariant.1 ν in
    let i : c.loop-i.i ≡ c.args.a.now.len = omega arith in
    let done : raise ν bounded (drop c.loop-i.i (productOf c.args.a.now)) (expOf c.args.e) ≡ got [] =
    ap (λ (k : ℕ). raise ν bounded (drop k (productOf c.args.a.now)) (expOf c.args.e)) i
    ∙ ap (λ (r : Tree). raise ν bounded r (expOf c.args.e)) (at-end c.args.a.now c.requires.sound.long c.requires.sound.few) ∙ raise-done ν (expOf c.args.e) in
    ap got g.is ∙ sym (ap answer (doing-done g done))
