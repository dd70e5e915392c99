-- Whether the variable of an entry stands among those after it decides.
use lib.ListN.{length-drop}
use lib.Seq.{take_all}
use Rattle.std.proofs.Common.{◌≡◌, ◌+◌, ◌-◌, length, suc, true, false, drop, get_or, refl, sym, ◌∙◌, add-one, arith}
use Rattle.judge_entries.specs.declared.Entry.{Entry}
use Rattle.judge_entries.specs.Entries.{told}
use Rattle.judge_entries.proofs.Counting.{found-is}
use Rattle.judge_entries.proofs.Turns.{stands, repeated-at, repeated-nowhere}
use Rattle.judge_entries.proofs.inner.repeats.Goals as goal

pub loop-i-init : goal.loop-i-init
loop-i-init c = refl

pub returns-then-is_some : goal.returns-then-is_some
returns-then-is_some c =
    let es = c.args.entries.now in
    let d : Entry = record { variable = 0; place = 0 } in
    let x = (get_or es c.loop-i.i d).variable in
    let behind = take_all (length es - (c.loop-i.i + 1)) (drop (c.loop-i.i + 1) es) (omega (arith, length-drop (c.loop-i.i + 1) es)) in
    let there : stands (drop (suc c.loop-i.i) es) x ≡ true = rw (← (add-one c.loop-i.i))
    (sym (found-is (told (drop (c.loop-i.i + 1) es)) x _ (rw behind at c.look_up.ensures)) ∙ sym c.if-is_some.ensures) in
    sym (rw there at (repeated-at es c.loop-i.i d (omega arith))) ∙ c.loop-i.invariant

pub loop-i-preserved : goal.loop-i-preserved
loop-i-preserved c =
    let es = c.args.entries.now in
    let d : Entry = record { variable = 0; place = 0 } in
    let x = (get_or es c.loop-i.i d).variable in
    let behind = take_all (length es - (c.loop-i.i + 1)) (drop (c.loop-i.i + 1) es) (omega (arith, length-drop (c.loop-i.i + 1) es)) in
    let none : stands (drop (suc c.loop-i.i) es) x ≡ false = rw (← (add-one c.loop-i.i))
    (sym (found-is (told (drop (c.loop-i.i + 1) es)) x _ (rw behind at c.look_up.ensures)) ∙ sym c.if-is_some.ensures) in
    rw (add-one c.loop-i.i) (sym (rw none at (repeated-at es c.loop-i.i d (omega arith))) ∙ c.loop-i.invariant)

pub returns : goal.returns
returns c = sym (repeated-nowhere c.args.entries.now c.loop-i.i (omega arith)) ∙ c.loop-i.invariant
