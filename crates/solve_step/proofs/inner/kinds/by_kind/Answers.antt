use Rattle.std.proofs.Common.{arith, ◌∙◌, sym}
use Rattle.rules.specs.Names.{names_of, table_of}
use Rattle.replace.specs.Well.{names}
use Rattle.solve_step.proofs.Conditions.{product-good}
use Rattle.solve_step.proofs.Rules.{
  two-dimensions,
  dimension-open,
  open-dimension,
  two-functions,
  two-counts,
  two-lists,
  dimension-other,
  open-other,
  one-function,
  one-struct,
  one-list,
  basic-left,
  two-structs,
  two-names,
  other-count,
}
use Rattle.replace.proofs.Walks.{sizes-function, sizes-struct, sizes-list}
use Rattle.solve_step.proofs.Written.{applied-as, products-as, split-is, stuck-is, one-con, cons-con}
use Rattle.solve_step.proofs.inner.kinds.by_kind.Goals as goal

pub quotient-requires-clause-left_good : goal.quotient-requires-clause-left_good
quotient-requires-clause-left_good c = product-good c.args.names.pool.now c.args.names.table.now _ c.in-Dimension-Dimension.ensures c.requires.left_good

pub quotient-requires-clause-right_good : goal.quotient-requires-clause-right_good
quotient-requires-clause-right_good c = product-good c.args.names.pool.now c.args.names.table.now _ c.in-Dimension-Dimension.ensures' c.requires.right_good

pub returns-in-Dimension-Dimension : goal.returns-in-Dimension-Dimension
returns-in-Dimension-Dimension c = let i = c.in-Dimension-Dimension in
    applied-as (two-dimensions (names c.args.names.pool.now c.args.names.table.now) i.ensures i.ensures') c.quotient.ensures

pub returns-in-Dimension-Open : goal.returns-in-Dimension-Open
returns-in-Dimension-Open c =
    let i = c.in-Dimension-Open in
    applied-as (dimension-open (names c.args.names.pool.now c.args.names.table.now) i.ensures i.ensures' ∙ products-as _ (sym c.variable.ensures))
    (c.as_product.ensures _ (sym i.ensures))

pub returns-in-Open-Dimension : goal.returns-in-Open-Dimension
returns-in-Open-Dimension c =
    let i = c.in-Open-Dimension in
    applied-as (open-dimension (names c.args.names.pool.now c.args.names.table.now) i.ensures i.ensures'
    ∙ products-as _ (sym c.variable-in-Open-Dimension.ensures))
    (c.as_product-in-Open-Dimension.ensures _ (sym i.ensures'))

pub returns-in-Function-Function : goal.returns-in-Function-Function
returns-in-Function-Function c =
    let i = c.in-Function-Function in
    split-is _ (two-functions (names c.args.names.pool.now c.args.names.table.now) i.ensures i.ensures'
    (i.ps.trees.1.many ∙ c.if-ps-qs.true ∙ sym i.qs.trees.1.many))
    (cons-con _ _ c.equal.ensures c.pairs.ensures)

pub returns-in-Struct-Struct : goal.returns-in-Struct-Struct
returns-in-Struct-Struct c =
    let i = c.in-Struct-Struct in
    split-is _ (two-structs (names_of (table_of c.args.names.pool.now c.args.names.table.now)) i.ensures i.ensures' c.if-x-y.true
    (i.ts.trees.1.many ∙ c.if-ts-us.true ∙ sym i.us.trees.1.many)) c.pairs-in-Struct-Struct.ensures

pub returns-in-List-List : goal.returns-in-List-List
returns-in-List-List c = let i = c.in-List-List in split-is _ (two-lists (names c.args.names.pool.now c.args.names.table.now) i.ensures i.ensures')
    (one-con _ c.equal-in-List-List.ensures)

pub returns-in_default : goal.returns-in_default
returns-in_default c = let d = c.in_default in stuck-is
    (dimension-other (names c.args.names.pool.now c.args.names.table.now) _ c.shape-2.ensures d.ensures d.not-Dimension-1 d.not-Open-1)

pub returns-in_default-2 : goal.returns-in_default-2
returns-in_default-2 c = let d = c.in_default
    in stuck-is (open-other (names c.args.names.pool.now c.args.names.table.now) _ c.shape-2.ensures d.ensures d.not-Dimension-1)

pub returns-in_default-3 : goal.returns-in_default-3
returns-in_default-3 c =
    let i = c.in-Function-Function in
    stuck-is (two-counts (names c.args.names.pool.now c.args.names.table.now) i.ensures i.ensures'
    (λ q. c.if-ps-qs.false (sym i.ps.trees.1.many ∙ q ∙ i.qs.trees.1.many)))

pub returns-in_default-4 : goal.returns-in_default-4
returns-in_default-4 c = let d = c.in_default
    in stuck-is (one-function (names c.args.names.pool.now c.args.names.table.now) _ c.shape-2.ensures d.ensures d.not-Function-1)

pub returns-in_default-5 : goal.returns-in_default-5
returns-in_default-5 c =
    let i = c.in-Struct-Struct in
    stuck-is (other-count (names_of (table_of c.args.names.pool.now c.args.names.table.now)) i.ensures i.ensures' c.if-x-y.true
    (λ q. c.if-ts-us.false (sym i.ts.trees.1.many ∙ q ∙ i.us.trees.1.many)))

pub returns-in_default-6 : goal.returns-in_default-6
returns-in_default-6 c = let i = c.in-Struct-Struct in
    stuck-is (two-names (names_of (table_of c.args.names.pool.now c.args.names.table.now)) i.ensures i.ensures' c.if-x-y.false)

pub returns-in_default-7 : goal.returns-in_default-7
returns-in_default-7 c = let d = c.in_default
    in stuck-is (one-struct (names c.args.names.pool.now c.args.names.table.now) _ c.shape-2.ensures d.ensures d.not-Struct-1)

pub returns-in_default-8 : goal.returns-in_default-8
returns-in_default-8 c = let d = c.in_default
    in stuck-is (one-list (names c.args.names.pool.now c.args.names.table.now) _ c.shape-2.ensures d.ensures d.not-List-1)

pub returns-in_default-9 : goal.returns-in_default-9
returns-in_default-9 c = stuck-is (basic-left (names c.args.names.pool.now c.args.names.table.now) _ c.in_default.ensures)

pub as_product-requires : goal.as_product-requires
as_product-requires c = omega (arith, c.requires.short)

pub as_product-requires-in-Open-Dimension : goal.as_product-requires-in-Open-Dimension
as_product-requires-in-Open-Dimension c = omega (arith, c.requires.short)

pub equal-requires : goal.equal-requires
equal-requires c = let i = c.in-Function-Function in omega (arith, c.requires.short, sizes-function _ _ _ i.ensures, sizes-function _ _ _ i.ensures')

pub pairs-requires : goal.pairs-requires
pairs-requires c = let i = c.in-Function-Function in omega (arith, c.requires.short, sizes-function _ _ _ i.ensures, sizes-function _ _ _ i.ensures')

pub pairs-requires-in-Struct-Struct : goal.pairs-requires-in-Struct-Struct
pairs-requires-in-Struct-Struct c =
    let i = c.in-Struct-Struct in
    omega (arith, c.requires.short, sizes-struct _ _ _ _ i.ensures, sizes-struct _ _ _ _ i.ensures')

pub equal-requires-in-List-List : goal.equal-requires-in-List-List
equal-requires-in-List-List c = let i = c.in-List-List in omega (arith, c.requires.short, sizes-list _ _ i.ensures, sizes-list _ _ i.ensures')
