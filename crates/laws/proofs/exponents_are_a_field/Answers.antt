use Rattle.laws.proofs.Fractions.{
  nought-lowest,
  one-lowest,
  neg-lowest,
  plus-in-lowest,
  mul-in-lowest,
  inverted-lowest,
  plus_comm,
  plus_assoc,
  plus-nought,
  plus-neg,
  mul-comm',
  mul-assoc',
  mul-one',
  mul-inverted,
  inverted-none,
  mul-plus,
}
use Rattle.laws.proofs.exponents_are_a_field.Goals as goal

pub returns : goal.returns
returns c = record {
  zero-lowest = nought-lowest;
  one-lowest = one-lowest;
  plus-lowest = plus-in-lowest;
  negative-lowest = neg-lowest;
  times-lowest = mul-in-lowest;
  inverse-lowest = inverted-lowest;
  zero-is-not-one = λ e. absurd (cc);
  plus-commutes = plus_comm;
  plus-associates = plus_assoc;
  plus-zero = plus-nought;
  plus-negative = plus-neg;
  times-commutes = mul-comm';
  times-associates = mul-assoc';
  times-one = mul-one';
  times-inverse = mul-inverted;
  all-but-zero = inverted-none;
  distributes = mul-plus;
}
