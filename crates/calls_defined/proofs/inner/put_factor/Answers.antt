-- `inner::put_factor` meets its contract.
use mathlib.Core.Path.{ap, ◌∙◌}
use Prim.Native.Nat.{◌+◌}
use lib.ListN.{set}
use Rattle.rules.specs.Writing.{words}
use Rattle.records.proofs.Stores.{four}
use Rattle.calls_defined.proofs.inner.put_factor.Goals as goal

pub returns : goal.returns
unfolding words
returns c =
    four c.args.dst.now c.put.new.dst c.put-2.new.dst c.put-3.new.dst c.put-4.new.dst c.args.at _ _ _ _ c.put.ensures c.put-2.ensures
    (c.put-3.ensures ∙ ap (set c.put-2.new.dst (c.args.at + 2)) c.num_word.ensures) c.put-4.ensures
