-- `inner::fill` meets its contract: of each name it is known what the bindings so far say.
use mathlib.Core.Path.{refl, ap, ◌∙◌}
use Prim.Native.Nat.{ℕ}
use native.Mathlib.Omega.{arith}
use lib.ListN.{length, length-replicate}
use Rattle.rules.specs.Names.{names_of, table_of}
use Rattle.replace_table.proofs.Filling.{going_start, first, further, going_on, going_end, filled}
use Rattle.replace_table.proofs.inner.fill.Goals as goal

pub loop-i-init : goal.loop-i-init
loop-i-init c =
    (refl, (ap length c.requires.empty ∙ length-replicate {A = ℕ} 256 0, λ bs r. going_start c.args.v.now bs _ _ _ c.requires.empty r))

pub note-requires : goal.note-requires
note-requires c =
    let f = first c.args.v.now (c.loop-i.invariant.1.1 c.requires.run.0 c.requires.run.1) c.loop-i-test.true c.loop-i.invariant.1.0 in
    omega (arith, f.within, c.requires.near)

pub overflow_add-i : goal.overflow_add-i
overflow_add-i c = omega (arith, c.loop-i-test.true)

pub end_of-i-requires : goal.end_of-i-requires
end_of-i-requires c =
    let f = first c.args.v.now (c.loop-i.invariant.1.1 c.requires.run.0 c.requires.run.1) c.loop-i-test.true c.loop-i.invariant.1.0 in
    (f.type, f.held)

pub loop-i-smaller : goal.loop-i-smaller
loop-i-smaller c =
    let f = further c.args.v.now (c.loop-i.invariant.1.1 c.requires.run.0 c.requires.run.1) c.loop-i-test.true c.loop-i.invariant.1.0 c.end_of-i.ensures in
    omega (arith, f.0, f.1)

pub loop-i-preserved : goal.loop-i-preserved
loop-i-preserved c =
    let n = c.note.auto.places in (
      n ∙ c.loop-i.invariant.0,
      (
        n ∙ c.loop-i.invariant.1.0,
        λ bs r. going_on c.args.v.now (c.loop-i.invariant.1.1 bs r) c.loop-i-test.true c.loop-i.invariant.1.0 c.note.ensures c.end_of-i.ensures,
      ),
    )

pub returns : goal.returns
returns c = λ pool table bs good h. filled pool table _ _ _ _ bs good h c.loop-i.invariant.1.0
    (going_end c.args.v.now (c.loop-i.invariant.1.1 bs h.run) c.loop-i-test.false (names_of (table_of pool table)))
