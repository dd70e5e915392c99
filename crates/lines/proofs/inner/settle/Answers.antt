-- `inner::settle` meets its contract.
use mathlib.Core.Path.{◌≡◌, ap, ◌∙◌}
use Rattle.std.specs.Prelude.{Ok}
use mathlib.Core.Bool.{true}
use Prim.Native.Nat.{ℕ}
use native.Mathlib.Omega.{arith}
use lib.ListN.{length, length-replicate}
use Rattle.lines.proofs.Standing.{set-small, begun}
use Rattle.lines.proofs.Settled.{accepts, remains, stops, mixed-made, refused-settled, found-well, judged-settled}
use Rattle.lines.proofs.inner.settle.Goals as goal

pub is_unmixed-requires : goal.is_unmixed-requires
is_unmixed-requires c =
    let (cs, h) = c.requires.stands in
    set-small _ _ _ cs h c.args.names.good

pub returns-then-not-is_unmixed : goal.returns-then-not-is_unmixed
returns-then-not-is_unmixed c = λ cs h.
    mixed-made _ _ _ cs h _ c.is_unmixed.ensures (c.if-not-is_unmixed.true) _

pub run-s-requires : goal.run-s-requires
run-s-requires c =
    let (cs, h) = c.requires.stands in
    record { begun = (cs, begun _ _ _ cs h); result_room = omega arith; room = c.requires.room }

pub confirm-requires : goal.confirm-requires
confirm-requires c =
    let unmixed-set : c.is_unmixed.result ≡ true = c.if-not-is_unmixed.false in
    let long : length c.run-s.new.res ≡ 8192 = c.run-s.auto.res ∙ length-replicate {A = ℕ} 8192 0 in
    let (cs, h) = c.requires.stands in
    let a = accepts _ _ _ (c.run-s.ensures cs (begun _ _ _ cs h)).stands
    (let i : c.run-s.result.outcome ≡ Ok c.in-Ok-Solved.field-0 = c.in-Ok-Solved.is in i ∙ ap Ok (rw i at c.in-Ok-Solved.field-0-is)) in
    record {
      stands = (cs, h);
      answered = (a.bs, (a.ns, found-well _ _ _ cs h 0 c.is_unmixed.ensures unmixed-set c.args.names.good a (omega (arith, long))));
      room = omega (arith, c.run-s.auto.work, c.requires.room);
    }

pub returns-in-Ok-Solved : goal.returns-in-Ok-Solved
returns-in-Ok-Solved c = λ cs h.
    let unmixed-set : c.is_unmixed.result ≡ true = c.if-not-is_unmixed.false in
    let long : length c.run-s.new.res ≡ 8192 = c.run-s.auto.res ∙ length-replicate {A = ℕ} 8192 0 in
    let a = accepts _ _ _ (c.run-s.ensures cs (begun _ _ _ cs h)).stands
    (let i : c.run-s.result.outcome ≡ Ok c.in-Ok-Solved.field-0 = c.in-Ok-Solved.is in i ∙ ap Ok (rw i at c.in-Ok-Solved.field-0-is)) in
    judged-settled _ _ _ cs h _ c.is_unmixed.ensures unmixed-set c.args.names.good a _ _
    (c.confirm.ensures cs a.bs a.ns h (found-well _ _ _ cs h 0 c.is_unmixed.ensures unmixed-set c.args.names.good a (omega (arith, long))))

pub returns-in-Ok-Unsolved : goal.returns-in-Ok-Unsolved
returns-in-Ok-Unsolved c = λ cs h.
    refused-settled _ _ _ cs h _ c.is_unmixed.ensures c.if-not-is_unmixed.false _ _
    (remains _ _ _ (c.run-s.ensures cs (begun _ _ _ cs h)).stands
    (let i : c.run-s.result.outcome ≡ Ok c.in-Ok-Unsolved.field-0 = c.in-Ok-Unsolved.is in i ∙ ap Ok (rw i at c.in-Ok-Unsolved.field-0-is)))

pub returns-in-Err : goal.returns-in-Err
returns-in-Err c = λ cs h.
    refused-settled _ _ _ cs h _ c.is_unmixed.ensures c.if-not-is_unmixed.false _ _ (stops _ _ _ (c.run-s.ensures cs (begun _ _ _ cs h)).stands c.in-Err.is)
