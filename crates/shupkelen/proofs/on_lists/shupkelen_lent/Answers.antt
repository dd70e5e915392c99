-- `on_lists::shupkelen_lent` meets its contract.
use mathlib.Core.Path.{◌≡◌, refl}
use mathlib.Core.Bool.{Bool, true, false}
use Prim.Native.Nat.{ℕ}
use Rattle.rules.specs.Base.{Got, need}
use Rattle.rules.specs.Numbers.{refusalIn}
use Rattle.shupkelen.proofs.on_lists.shupkelen_lent.Goals as goal

enough : (b : Bool) {g : Got (Unit {0})} → need b 10 ≡ g → b ≡ true → 0 ≡ refusalIn g
unfolding refusalIn
enough b e h = rw (← e, h) (refl)

short : (b : Bool) {n : ℕ} {g : Got (Unit {0})} → need b 10 ≡ g → b ≡ false → n ≡ 10 → n ≡ refusalIn g
unfolding refusalIn
short b e h k = rw (← e, h) (k)

pub returns-then-lent : goal.returns-then-lent
returns-then-lent c = enough c.lent.result c.lent.ensures c.if-lent.true

pub returns-else-lent : goal.returns-else-lent
returns-else-lent c = short c.lent.result c.lent.ensures c.if-lent.false c.number.ensures
