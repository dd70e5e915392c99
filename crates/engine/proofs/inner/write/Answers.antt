-- `inner::write` meets its contract.
use Rattle.std.proofs.Common.{refl, arith, rules}
use Rattle.engine.proofs.Written.{lines-written, values-written}
use Rattle.engine.proofs.inner.write.Goals as goal

pub returns-then-m-gt0 : goal.returns-then-m-gt0
returns-then-m-gt0 c = lines-written c.args.k _ _ refl c.requires.room c.args.m c.if-m-gt0.true c.put_lines.ensures (search rules)

pub returns : goal.returns
returns c = values-written c.args.k _ _ refl c.requires.room c.args.m (omega (arith, c.if-m-gt0.false)) c.put_bindings.ensures (search rules)
