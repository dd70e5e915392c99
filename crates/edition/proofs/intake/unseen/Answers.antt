-- The sheet of a file that can't be had is that of a page without a text.
use Rattle.std.specs.Prelude.{refl, []}
use Rattle.rules.specs.Reports.{Page, lacking}
use Rattle.edition.proofs.intake.unseen.Goals as goal

pub invariant_of-result : goal.invariant_of-result
invariant_of-result c =
    let page : Page = record { name = c.args.name.now; text = []; new = 0; content = lacking c.args.why } in
    record { page = ∣ (page, record { named = refl; typed = refl; holds = (refl, refl) }) ∣₁ }
