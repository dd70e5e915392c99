-- `means` and `all_mean` call one another and meet their contracts: what is left to compare falls.
use Rattle.std.specs.Prelude.{[]}
use Rattle.std.proofs.Common.{arith, ne_eqb, rules}
use Rattle.rules.specs.Names.{numbered}
use Rattle.types.proofs.Puts.{falls}
use Rattle.judge_meaning.proofs.Arms.{
  tells,
  by-read,
  first,
  second,
  opens-same,
  basics-same,
  dims-same,
  functions-same,
  structs-same,
  lists-same,
  no-open,
  no-basic,
  no-dimension,
  no-function,
  no-struct,
  no-list,
}
use Rattle.judge_meaning.proofs.Rows.{passed, ended, split-size, left-ended, right-ended, finished, fn-size, struct-size, list-size}
use Rattle.judge_meaning.proofs.inner.+means.Goals as goal
use Rattle.judge_meaning.proofs.inner.+means.Goals.{all_mean-in_default, all_mean-in_default-2}

pub all_mean-means-requires : goal.all_mean-means-requires
all_mean-means-requires t c = let i = c.in-Some-Some in (omega (arith, c.decreases, c.pairs.invariant.1, split-size i.ensures), tt)

pub all_mean-returns-then-not-means : goal.all_mean-returns-then-not-means
all_mean-returns-then-not-means t c =
    let i = c.in-Some-Some in
    ended c.pairs.invariant.0 i.ensures i.ensures' (numbered []) (c.means.ensures []) c.if-not-means.true

pub all_mean-pairs-smaller : goal.all_mean-pairs-smaller
all_mean-pairs-smaller t c =
    let i = c.in-Some-Some in
    omega (arith, falls _ _ _ _ _ i.ensures i.more.trees.1.many c.pairs.ts.trees.1.many)

pub all_mean-pairs-preserved : goal.all_mean-pairs-preserved
all_mean-pairs-preserved t c =
    let i = c.in-Some-Some in (
      passed c.pairs.invariant.0 i.ensures i.ensures' (numbered []) (c.means.ensures []) c.if-not-means.false,
      omega (arith, c.pairs.invariant.1, split-size i.ensures),
    )

pub all_mean-returns : goal.all_mean-returns
all_mean-returns t c =
    let d = c.pairs.invariant.0 in
    let k = c.pairs.ts.trees.1.many in
    let l = c.pairs.us.trees.1.many in
    elim c.match-split_first.branch [
      | all_mean-in_default w ↦ finished d k l (right-ended w.in_default.ensures')
      | all_mean-in_default-2 w ↦ finished d k l (left-ended w.in_default.ensures)
    ]

pub means-all_mean-requires : goal.means-all_mean-requires
means-all_mean-requires t c = let i = c.in-Function-Function in (omega (arith, c.decreases, fn-size i.ensures.0 i.ensures.1 i.ensures.2 i.ensures.3), tt)

pub means-all_mean-requires-then-x-y : goal.means-all_mean-requires-then-x-y
means-all_mean-requires-then-x-y t c = let i = c.in-Struct-Struct in (omega (arith, c.decreases, struct-size i.ensures), tt)

pub means-means-requires : goal.means-means-requires
means-means-requires t c = let i = c.in-List-List in (omega (arith, c.decreases, list-size i.ensures), tt)

pub means-returns-in-Open-Open : goal.means-returns-in-Open-Open
means-returns-in-Open-Open t c = λ names.
    let i = c.in-Open-Open in
    by-read (numbered names) _ _ i.ensures i.ensures' (opens-same _ _ (search rules))

pub means-returns-in-Basic-Basic : goal.means-returns-in-Basic-Basic
means-returns-in-Basic-Basic t c = λ names.
    let i = c.in-Basic-Basic in
    by-read (numbered names) _ _ i.ensures i.ensures' (basics-same _ _ (search rules))

pub means-returns-in-Dimension-Dimension : goal.means-returns-in-Dimension-Dimension
means-returns-in-Dimension-Dimension t c = λ names.
    let i = c.in-Dimension-Dimension in
    by-read (numbered names) _ _ i.ensures i.ensures' (dims-same (numbered names) _ _ i.ensures i.ensures' (c.same.ensures names))

pub means-returns-in-Function-Function : goal.means-returns-in-Function-Function
means-returns-in-Function-Function t c = λ names.
    let i = c.in-Function-Function in
    let p = i.ensures in
    let q = i.ensures' in
    by-read (numbered names) _ _ p.3 q.3 (functions-same p.0 q.0 p.1 q.1 p.2 q.2 c.all_mean.ensures)

pub means-returns-then-x-y : goal.means-returns-then-x-y
means-returns-then-x-y t c = λ names.
    let i = c.in-Struct-Struct in
    by-read (numbered names) _ _ i.ensures i.ensures' (structs-same (second c.if-x-y.true c.all_mean-then-x-y.ensures))

pub means-returns-else-x-y : goal.means-returns-else-x-y
means-returns-else-x-y t c = λ names.
    let i = c.in-Struct-Struct in
    by-read (numbered names) _ _ i.ensures i.ensures' (structs-same (first (ne_eqb _ _ c.if-x-y.false) c.if-x-y.false))

pub means-returns-in-List-List : goal.means-returns-in-List-List
means-returns-in-List-List t c = λ names.
    let i = c.in-List-List in
    by-read (numbered names) _ _ i.ensures i.ensures' (lists-same (tells (numbered names) _ _ (c.means.ensures names)))

pub means-returns-in_default : goal.means-returns-in_default
means-returns-in_default t c = λ names. let d = c.in_default in no-open (numbered names) _ _ _ c.read-2.ensures d.ensures d.not-Open-1

pub means-returns-in_default-2 : goal.means-returns-in_default-2
means-returns-in_default-2 t c = λ names. let d = c.in_default in no-basic (numbered names) _ _ _ c.read-2.ensures d.ensures d.not-Basic-1

pub means-returns-in_default-3 : goal.means-returns-in_default-3
means-returns-in_default-3 t c = λ names. let d = c.in_default in no-dimension (numbered names) _ _ _ c.read-2.ensures d.ensures d.not-Dimension-1

pub means-returns-in_default-4 : goal.means-returns-in_default-4
means-returns-in_default-4 t c = λ names. let d = c.in_default in no-function (numbered names) _ _ _ c.read-2.ensures d.ensures.3 d.not-Function-1

pub means-returns-in_default-5 : goal.means-returns-in_default-5
means-returns-in_default-5 t c = λ names. let d = c.in_default in no-struct (numbered names) _ _ _ c.read-2.ensures d.ensures d.not-Struct-1

pub means-returns-in_default-6 : goal.means-returns-in_default-6
means-returns-in_default-6 t c = λ names. let d = c.in_default in no-list (numbered names) _ _ _ c.read-2.ensures d.ensures d.not-List-1
