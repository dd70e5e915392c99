use Rattle.theorems_soundness.proofs.Instances.{
  fields-accepted,
  fields-judged,
  fields-violated,
  products-accepted,
  products-judged,
  products-no-premise,
  product-violated,
}
use Rattle.theorems_soundness.proofs.Violated.{exception-met, exception-needed, product-fails, premise-needed}
use Rattle.theorems_soundness.proofs.violated_limits_are_needed.Goals as goal

pub returns : goal.returns
returns c = record {
  exception-violated = fields-violated;
  exception-accepted = fields-accepted;
  exception-judged = fields-judged;
  exception-met = exception-met;
  exception = exception-needed;
  product-violated = product-violated;
  product-accepted = products-accepted;
  product-outside = products-no-premise;
  product-judged = products-judged;
  product-fails = product-fails;
  premise = premise-needed;
}
