use Rattle.exponents.proofs.Examples.{
  less-a-third,
  times-inverse,
  by-negative,
  by_zero,
  largest,
  past-largest,
  past-least,
  turned,
  not-lowest,
  no-denominator,
  too_small,
}
use Rattle.exponents.proofs.theorems.examples_come_out.Goals as goal

pub returns : goal.returns
returns c = record {
  less-a-third = less-a-third;
  times-inverse = times-inverse;
  by-negative = by-negative;
  by_zero = by_zero;
  largest = largest;
  past-largest = past-largest;
  past-least = past-least;
  turned = turned;
  not-lowest = not-lowest;
  no-denominator = no-denominator;
  too_small = too_small;
}
