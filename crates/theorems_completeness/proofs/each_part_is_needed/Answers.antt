use Rattle.theorems_completeness.proofs.Instances.{
  k13-answer,
  k13-none,
  two-things-answer,
  two-things-none,
  open-two-solved,
  any-completes,
  choices-differ,
  not-any,
  k5-solved,
  whole-none,
  k14-answer,
  k14-choice,
}
use Rattle.theorems_completeness.proofs.each_part_is_needed.Goals as goal

pub returns : goal.returns
returns c = record {
  k13-answer = k13-answer;
  k13-none = k13-none;
  two-things-answer = two-things-answer;
  two-things-none = two-things-none;
  open-two-solved = open-two-solved;
  any-completes = any-completes;
  choices-differ = choices-differ;
  not-any = not-any;
  k5-solved = k5-solved;
  whole-none = whole-none;
  k14-answer = k14-answer;
  k14-choice = k14-choice;
}
