use Rattle.laws.proofs.ExactProducts.{merge-scalar}
use Rattle.laws.proofs.Powers.{
  scalar-proper,
  merge-proper,
  inverse-proper,
  raise-proper,
  merge-power,
  raise-power,
  inverse-power,
  by-powers,
  merge-comm,
  merge-assoc,
  merge-inverse,
  raise-one,
  raise-merge,
  raise-plus,
  raise-mul,
  raise-nought,
  raise-neg,
  inverse-is,
  inverse-merge,
  inverse-inverse,
}
use Rattle.laws.proofs.products_are_a_group.Goals as goal

pub returns : goal.returns
returns g c = λ ν law held q tells. (
  record {
    multiplying-adds = λ a p r h k. merge-power ν law tells a p r h k;
    raising-multiplies = λ a p k h l. raise-power ν law tells a p k h l;
    inverse-negates = λ a p. inverse-power ν law tells a p;
    decide = λ p r h k e. by-powers ν law tells p r h k e;
  },
  record {
    scalar-held = scalar-proper ν law tells;
    product-held = λ p r h k. merge-proper ν law tells p r h k;
    inverse-held = λ p h. inverse-proper ν law tells p h;
    power-held = λ p k h l. raise-proper ν law tells p k h l;
    commutes = λ p r h k. merge-comm ν law tells p r h k;
    associates = λ p r s h k l. merge-assoc ν law tells p r s h k l;
    scalar = λ p. merge-scalar ν p;
    inverses = λ p h. merge-inverse ν law tells p h;
    inverse-of-inverse = λ p. inverse-inverse p;
    inverse-of-product = λ p r h k. inverse-merge ν law tells p r h k;
    inverse-is-power = λ p h. inverse-is ν law tells p h;
    power-zero = λ p h. raise-nought ν law tells p h;
    power-one = λ p h. raise-one ν law tells p h;
    power-negative = λ p k h l. raise-neg ν law tells p h k l;
    power-of-product = λ p r k h i l. raise-merge ν law tells p r h i k l;
    power-of-sum = λ p j k h l m. raise-plus ν law tells p h j k l m;
    power-of-power = λ p j k h l m. raise-mul ν law tells p h j k l m;
  },
)
