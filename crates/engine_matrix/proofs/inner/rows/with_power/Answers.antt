-- `inner::rows::with_power` meets its contract.
use mathlib.Core.Path.{ap, ◌∙◌}
use lib.ListN.{length}
use Rattle.std.proofs.lemmas.List.{length-set}
use Rattle.exponents.specs.Answers.{expOf}
use Rattle.engine_matrix.specs.Told.{row_in}
use Rattle.engine_matrix.proofs.Loops.{power-set, good-set}
use Rattle.engine_matrix.proofs.inner.rows.with_power.Goals as goal

pub invariant_of-q : goal.invariant_of-q
invariant_of-q c =
    let a = c.args in
    record {
      long = ap length (power-set a.r.powers a.j a.e) ∙ length-set (row_in a.r) a.j (expOf a.e) ∙ a.r.long;
      good = good-set a.r.powers a.j a.e a.r.good c.requires.power;
    }

pub returns : goal.returns
returns c = power-set c.args.r.powers c.args.j c.args.e
