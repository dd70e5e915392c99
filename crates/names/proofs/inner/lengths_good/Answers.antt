-- `names::inner::lengths_good` meets its contract. The invariant: the ends from k on, behind the place `at`, decide.
use mathlib.Core.Path.{◌≡◌, sym, ◌∙◌, ap}
use mathlib.Core.Bool.{false}
use mathlib.Core.List.{List, ◌∷◌}
use Prim.Native.Nat.{ℕ, ◌+◌, ◌≤◌, ◌<◌}
use native.Mathlib.Numerals.{add-one}
use native.Mathlib.Omega.{arith}
use borrow.Author.Tests.{lt-ltb, le-ltb, le-leb, lt-leb}
use lib.ListN.{length, drop, get_or}
use Rattle.rules.specs.Names.{lengthsGood}
use Rattle.laws.specs.NameTable.{endsOf}
use Rattle.laws.proofs.NameTable.{ends-step, ends-end}
use Rattle.names.proofs.inner.lengths_good.Goals as goal
use Rattle.names.proofs.inner.lengths_good.Goals.{then-end-at-via-then-end-at, then-end-at-via-else-end-at+then-end-at-gt-NAME_BYTES}

-- what one end says
module _ (at e : ℕ) (es : List ℕ) where
  no-rise : e ≤ at → lengthsGood at (e ∷ es) ≡ false
  unfolding lengthsGood
  no-rise h = rw (le-ltb at e h)

  too_long : at < e → at + 48 < e → lengthsGood at (e ∷ es) ≡ false
  unfolding lengthsGood
  too_long h k = rw (lt-ltb at e h, lt-leb e (at + 48) k)

  passes : at < e → e ≤ at + 48 → lengthsGood at (e ∷ es) ≡ lengthsGood e es
  unfolding lengthsGood
  passes h k = rw (lt-ltb at e h, le-leb e (at + 48) k)

-- the ends from this turn's on
turn : (table : List ℕ) (k at : ℕ) → 257 ≤ length table → get_or table 0 0 ≤ 256 → k < get_or table 0 0
    → lengthsGood at (drop k (endsOf table)) ≡ lengthsGood 0 (endsOf table)
    → lengthsGood at (get_or table (k + 1) 0 ∷ drop (k + 1) (endsOf table)) ≡ lengthsGood 0 (endsOf table)
turn table k at long few h e = rw (add-one k) (ap (lengthsGood at) (sym (ends-step table long few k h)) ∙ e)

pub returns-then-end-at : goal.returns-then-end-at
returns-then-end-at c =
    let whole = turn c.args.table.now c.loop-k.k c.loop-k.at c.requires.long c.requires.few (omega arith) c.loop-k.invariant in
    elim c.then-end-at.branch [
      | then-end-at-via-then-end-at w ↦ sym (no-rise _ _ _ w.if-end-at.true) ∙ whole
      | then-end-at-via-else-end-at+then-end-at-gt-NAME_BYTES w ↦ sym (too_long _ _ _ (omega arith) (omega arith)) ∙ whole
    ]

pub loop-k-preserved : goal.loop-k-preserved
loop-k-preserved c =
    let whole = turn c.args.table.now c.loop-k.k c.loop-k.at c.requires.long c.requires.few (omega arith) c.loop-k.invariant in
    sym (passes _ _ _ (omega arith) (omega arith)) ∙ whole

pub returns : goal.returns
unfolding lengthsGood
returns c =
    let e : c.loop-k.k ≡ get_or c.args.table.now 0 0 = omega arith in
    sym (ap (lengthsGood c.loop-k.at) (ap (λ (k : ℕ). drop k (endsOf c.args.table.now)) e ∙ ends-end c.args.table.now c.requires.long c.requires.few))
    ∙ c.loop-k.invariant
