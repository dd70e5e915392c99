-- `put_record` meets its contract: four stores.
use Rattle.records.proofs.Stores.{four}
use Rattle.rules.specs.Writing.{Rec, words}
use lib.Seq.{sets}
use Prim.Native.Nat.{◌*◌}
use mathlib.Core.List.{[], ◌∷◌}
use mathlib.Core.Path.{ap, ◌∙◌}
use Rattle.records.proofs.inner.put_record.Goals as goal

pub returns : goal.returns
returns c =
    let a = c.args in
    four a.dst.now _ _ _ _ (a.out * 4) _ _ _ _ c.put.ensures c.put-2.ensures c.put-3.ensures c.put-4.ensures
    ∙ ap (λ (r : Rec). sets a.dst.now (a.out * 4) (words (r ∷ []))) c.record_of-w.ensures
