use Rattle.records.proofs.Wholes.{type-told}
use Rattle.records.proofs.reader.Reader.is_type.Goals as goal

pub returns : goal.returns
returns c = let r = c.args.self in
    rw c.eq.ensures (type-told r.names.pool.now r.names.table.now r.quantified r.words.now c.args.at _ c.type_end.ensures)
