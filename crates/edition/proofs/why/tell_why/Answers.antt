-- `tell_why` meets its contract: by what is found.
use Rattle.std.specs.Prelude.{[], Ok}
use Rattle.std.proofs.Common.{ap, sym, ◌∙◌, length-take-le}
use Rattle.rules.specs.Names.{table_of}
use Rattle.text_spell.proofs.Sinks.{nothing}
use Rattle.edition.proofs.Asked.{why-is, told-none, told-some, told-fits, told-refused}
use Rattle.edition.proofs.why.tell_why.Goals as goal

pub slice_bounds-put_conflict-end : goal.slice_bounds-put_conflict-end
slice_bounds-put_conflict-end g c =
    sym (length-take-le _ _ (told-fits [] [] _ _ _ (rw (c.in-Ok-Some.is ∙ ap Ok c.in-Ok-Some.field-0-is) at c.conflict_in.ensures)))

pub returns-in-Ok-Some : goal.returns-in-Ok-Some
returns-in-Ok-Some g c = λ p h s f.
    let t = table_of c.args.names.pool.now c.args.names.table.now in
    rw (
      ← why-is t c.args.sheet.now p h s c.args.outcome f,
      ← told-some _ _ _ _ _ (rw (c.in-Ok-Some.is ∙ ap Ok c.in-Ok-Some.field-0-is) at c.conflict_in.ensures),
    ) c.put_conflict.ensures

pub returns-in-Ok-None : goal.returns-in-Ok-None
returns-in-Ok-None g c = λ p h s f.
    let t = table_of c.args.names.pool.now c.args.names.table.now in
    rw (
      ← why-is t c.args.sheet.now p h s c.args.outcome f,
      told-none _ _ _ _ _ (rw (c.in-Ok-None.is ∙ ap Ok c.in-Ok-None.field-0-is) at c.conflict_in.ensures),
    ) (nothing _)

pub returns-in-Err : goal.returns-in-Err
returns-in-Err g c = λ p h s f.
    let t = table_of c.args.names.pool.now c.args.names.table.now in
    rw (← why-is t c.args.sheet.now p h s c.args.outcome f, ← told-refused _ _ _ _ _ (rw c.in-Err.is at c.conflict_in.ensures)) c.put_unknown.ensures
