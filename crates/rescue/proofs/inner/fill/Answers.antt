-- `inner::fill` meets its contract: the loop says what is left to store.
use mathlib.Core.Path.{refl, sym, ap, ◌∙◌}
use native.Mathlib.Omega.{arith}
use lib.ListN.{set, drop_of_length-le}
use lib.Seq.{sets}
use Rattle.rules.specs.Rescue.{words_in}
use Rattle.rescue.proofs.Steps.{fill_step, words-in-length}
use Rattle.rescue.proofs.inner.fill.Goals as goal

pub loop-i-init : goal.loop-i-init
loop-i-init c = (refl, refl)

pub loop-i-preserved : goal.loop-i-preserved
loop-i-preserved c =
    let a = c.args in
    let l = c.loop-i in
    let p = c.put in (
      p.auto.dst ∙ l.invariant.0,
      fill_step (words_in a.file.now) l.dst p.new.dst l.i (omega (arith, words-in-length a.file.now))
          (p.ensures ∙ ap (set l.dst l.i) c.word_at.ensures) l.invariant.1,
    )

pub shape_of-dst : goal.shape_of-dst
shape_of-dst c = c.loop-i.invariant.0

pub returns : goal.returns
returns c =
    let l = c.loop-i in
    let v = words_in c.args.file.now in
    sym (ap (sets l.dst l.i) (drop_of_length-le v {i = l.i} (omega (arith, words-in-length c.args.file.now)))) ∙ l.invariant.1
