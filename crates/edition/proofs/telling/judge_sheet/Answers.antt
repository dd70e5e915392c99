-- `judge_sheet` meets its contract: by what the sheet holds.
use Rattle.std.specs.Prelude.{refl}
use Rattle.rules.specs.Calls.{solvedSet}
use Rattle.rules.specs.Names.{table_of, numbersOf}
use Rattle.edition.proofs.Judged.{placed-same, found-set, found-unread, found-unseen}
use Rattle.edition.proofs.telling.judge_sheet.Goals as goal

pub returns-in-Set : goal.returns-in-Set
returns-in-Set c =
    let t = table_of c.args.names.pool.now c.args.names.table.now in
    let ws = c.args.sheet.now.records.items in
    let x = c.solve_and_judge-confirmed.ensures in
    record {
      found = λ p h.
          let k = rw c.in-Set.is at h.holds in
          found-set t ws _ k.cs k.kept _ _ p k.is-set
          (c.of.ensures.found _ (solvedSet t ws) (rw c.deref.ensures.value at x.answered.stands) (numbersOf t) k.cs
          (placed-same t ws _ k.cs k.kept _ (rw c.deref.ensures.value at x.judged.placed)));
      there = c.of.ensures.there _ _ x.answered.stands;
    }

pub returns-in-Refused : goal.returns-in-Refused
returns-in-Refused c = record {
  found = λ p h. let k = rw c.in-Refused.is at h.holds in found-unread _ p _ _ _ k.0;
  there = (_, refl);
}

pub returns-in-Unseen : goal.returns-in-Unseen
returns-in-Unseen c = record {
  found = λ p h. let k = rw c.in-Unseen.is at h.holds in found-unseen _ p k.0;
  there = (_, refl);
}
