use Rattle.theorems_engine.proofs.Agreement.{always, unfit-answer, on-fitting, only-7, unless-limited}
use Rattle.theorems_engine.proofs.engines_agree.Goals as goal

pub returns : goal.returns
returns c = λ pool table set result work. record {
  always = always pool table set result work;
  unfit-answer = unfit-answer pool table set result work;
  on-fitting = on-fitting pool table set result work;
  only-7 = only-7 pool table set result work;
  alike = unless-limited pool table set result work;
}
