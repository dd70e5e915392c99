-- `inner::mark` meets its contract.
use native.Mathlib.Omega.{arith}
use mathlib.Core.Path.{◌≡◌, refl, sym, ap, ◌∙◌}
use mathlib.Core.Bool.{◌||◌}
use Prim.Native.Nat.{ℕ, ◌+◌, ◌*◌}
use lib.ListN.{drop}
use Rattle.rules.specs.Compaction.{keeps}
use Rattle.compaction.specs.Told.{marks}
use Rattle.compaction.proofs.Marks.{mark-step, mark-end}
use Rattle.compaction.proofs.inner.mark.Goals as goal

pub loop-i-init : goal.loop-i-init
loop-i-init c = (refl, λ x. refl)

pub note-requires : goal.note-requires
note-requires c = record { places = c.loop-i.invariant.0 ∙ c.requires.places; few = c.requires.few }

pub loop-i-preserved : goal.loop-i-preserved
loop-i-preserved c =
    let l = c.loop-i in
    let a = c.args in
    let j : (l.i + 1) * 4 ≡ l.i * 4 + 4 = omega arith in (
      c.note.ensures.long ∙ l.invariant.0,
      λ x.
          ap (λ (k : ℕ). marks c.note.new.m x || keeps a.n (drop k a.s.now) x) j
          ∙ mark-step _ _ (l.i * 4) _ _ (omega (arith, c.loop-i-test.true)) _ c.names_one.ensures c.note.ensures x ∙ l.invariant.1 x,
    )

pub returns : goal.returns
returns c = let l = c.loop-i in record {
  long = l.invariant.0;
  is = λ x. sym (mark-end _ _ (l.i * 4) l.m (omega (arith, c.loop-i-test.false)) x)
      ∙ l.invariant.1 x;
}
