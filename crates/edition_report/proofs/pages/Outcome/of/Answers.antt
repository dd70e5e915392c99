-- `Outcome::of` meets its contract: by outcome and verdict.
use Rattle.std.specs.Prelude.{refl, Ok}
use Rattle.std.proofs.Common.{◌≡◌, ap, ◌∙◌}
use Rattle.edition_report.proofs.Found.{found-agrees, found-denied, found-unjudged, found-remains, found-stops, there-agrees, there-remains}
use Rattle.edition_report.proofs.pages.Outcome.of.Goals as goal

pub returns-in-Ok-None : goal.returns-in-Ok-None
returns-in-Ok-None c =
    let o : c.args.solution.outcome ≡ Ok c.in-Ok-Solved.field-0 = c.in-Ok-Solved.is in
    let i = o ∙ ap Ok (rw o at c.in-Ok-Solved.field-0-is) in
    let v : c.args.verdict ≡ Ok c.in-Ok-None.field-0 = c.in-Ok-None.is in
    record {
      found = λ s a h ν cs f. found-agrees s c.args.solution a h ν cs i (rw (v ∙ ap Ok (rw v at c.in-Ok-None.field-0-is)) at f);
      there = λ s a h. there-agrees s c.args.solution a h i;
    }

pub returns-in-Ok-Some : goal.returns-in-Ok-Some
returns-in-Ok-Some c =
    let o : c.args.solution.outcome ≡ Ok c.in-Ok-Solved.field-0 = c.in-Ok-Solved.is in
    let i = o ∙ ap Ok (rw o at c.in-Ok-Solved.field-0-is) in
    let v : c.args.verdict ≡ Ok c.in-Ok-Some.field-0 = c.in-Ok-Some.is in
    record {
      found = λ s a h ν cs f. found-denied s c.args.solution a h ν cs i _ (rw (v ∙ ap Ok (rw v at c.in-Ok-Some.field-0-is)) at f);
      there = λ s a h. (_, refl);
    }

pub returns-in-Err-verdict : goal.returns-in-Err-verdict
returns-in-Err-verdict c =
    let o : c.args.solution.outcome ≡ Ok c.in-Ok-Solved.field-0 = c.in-Ok-Solved.is in
    let i = o ∙ ap Ok (rw o at c.in-Ok-Solved.field-0-is) in
    record {
      found = λ s a h ν cs f. found-unjudged s c.args.solution a h ν cs i _ (rw c.in-Err-verdict.is at f);
      there = λ s a h. (_, refl);
    }

pub returns-in-Ok-Unsolved : goal.returns-in-Ok-Unsolved
returns-in-Ok-Unsolved c =
    let o : c.args.solution.outcome ≡ Ok c.in-Ok-Unsolved.field-0 = c.in-Ok-Unsolved.is in
    let i = o ∙ ap Ok (rw o at c.in-Ok-Unsolved.field-0-is) in
    record {
      found = λ s a h ν cs f. found-remains s c.args.solution a h ν cs i;
      there = λ s a h. there-remains s c.args.solution a h i;
    }

pub returns-in-Err : goal.returns-in-Err
returns-in-Err c = record {
  found = λ s a h ν cs f. found-stops s c.args.solution a h ν cs c.in-Err.is;
  there = λ s a h. (_, refl);
}
