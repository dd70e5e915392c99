-- `inner::times` meets its contract.
use Rattle.text_dimensions.proofs.Times.{single-well, times-stays, times-done, times-refused}
use Rattle.text_dimensions.proofs.inner.times.Goals as goal

pub single-requires : goal.single-requires
single-requires c =
    (c.requires.name_held _ _ c.in-Ok.is).known

pub multiplied-requires : goal.multiplied-requires
multiplied-requires c =
    record { left = c.requires.well; right = (single-well _ _ (c.requires.name_held _ _ c.in-Ok.is) _ c.requires.power_good _ c.single.ensures).0 }

pub returns-in-Err : goal.returns-in-Err
returns-in-Err c =
    times-stays _ _ _ _ c.requires.well c.in-Err.is

pub returns-in-Ok-multiplied : goal.returns-in-Ok-multiplied
returns-in-Ok-multiplied c =
    let h = c.in-Ok.is in
    times-done _ _ _ _ c.requires.well c.single.result h (c.requires.name_held _ _ h) c.requires.power_good c.single.ensures _ c.in-Ok-multiplied.ensures

pub returns-in-Err-multiplied : goal.returns-in-Err-multiplied
returns-in-Err-multiplied c =
    let h = c.in-Ok.is in
    times-refused _ _ _ _ c.requires.well c.single.result h (c.requires.name_held _ _ h) c.requires.power_good c.single.ensures _ c.in-Err-multiplied.ensures
