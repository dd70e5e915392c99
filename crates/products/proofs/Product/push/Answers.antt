-- `products::Product::push` meets its contract. Past the 64th the store is left out, and `set` leaves the list as it is.
use mathlib.Core.Path.{◌≡◌, sym, ◌∙◌, ap}
use mathlib.Core.List.{List}
use Prim.Native.Nat.{◌+◌}
use native.Mathlib.Omega.{arith}
use lib.ListN.{length, set}
use lib.Seq.{set_out}
use Rattle.products.specs.declared.Factor.{Factor}
use Rattle.products.specs.declared.Product.{Product}
use Rattle.products.specs.Told.{put_of}
use Rattle.products.proofs.Product.push.Goals as goal
use Rattle.products.proofs.Product.push.Goals.{then-n-lt-FACTORS, else-n-lt-FACTORS}

pub returns : goal.returns
unfolding put_of
returns c = let p = c.args.self.now in
    let long : length p.factors ≡ 64 = omega arith in
    let f : c.if-n-lt-FACTORS.self.factors ≡ set p.factors p.len c.args.f =
    elim c.if-n-lt-FACTORS.branch [
      | then-n-lt-FACTORS w ↦ ap (λ (p : Product). p.factors) w.self-is
      | else-n-lt-FACTORS w ↦ ap (λ (p : Product). p.factors) w.self-is ∙ sym (set_out p.factors p.len c.args.f (omega (arith, long, w.if-n-lt-FACTORS.false)))
    ] in
    ap (λ (l : List Factor). record { factors = l; len = p.len + 1 }) f
