use Rattle.rules.specs.Base.{bounded, exact}
use Rattle.rules.specs.Trees.{Product, Names}
use Rattle.rules.specs.Replacing.{Look, replaceProduct}
use Rattle.laws.specs.Exact.{Below}
use Rattle.laws.proofs.Exact.{sum_below, times_below, multiply-below, divide-below, raise-below, factors-below, ty_below}
use Rattle.laws.proofs.ExactSolve.{con-below, binding-below, run-below}
use Rattle.laws.proofs.bounded_answers_are_exact.Goals as goal

product-below : {N : Type 0} (ν : Names N) (look : Look N) (p : Product N) → Below (replaceProduct ν bounded look p) (replaceProduct ν exact look p)
unfolding replaceProduct
product-below ν look p = factors-below ν look p p

pub returns : goal.returns
returns g c = record {
  sums = sum_below;
  multiples = times_below;
  products = λ ν p q. multiply-below ν p q;
  quotients = λ ν p q. divide-below ν p q;
  powers = λ ν p k. raise-below ν p k;
  replacing = λ ν look t. ty_below ν look t;
  in-products = product-below;
  in-constraints = λ ν look k. con-below ν look k;
  in-bindings = λ ν look b. binding-below ν look b;
  solving = λ ν f k s h. run-below ν f k s h;
}
