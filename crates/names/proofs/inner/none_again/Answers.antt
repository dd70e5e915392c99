-- `names::inner::none_again` meets its contract. The invariant: the names from k on decide.
use mathlib.Core.Path.{◌≡◌, sym, ◌∙◌, ap}
use mathlib.Core.List.{List, [], ◌∷◌}
use Prim.Native.Nat.{ℕ, ◌+◌, ◌<◌}
use native.Mathlib.Numerals.{add-one}
use native.Mathlib.Omega.{arith}
use lib.ListN.{length, drop, get_or}
use lib.Seq.{drop-cons}
use Rattle.rules.specs.Names.{Bytes, table_of, names_of, distinct}
use Rattle.laws.proofs.NameTable.{names-end, length-names}
use Rattle.names.proofs.Digests.{repeated, fresh}
use Rattle.names.proofs.inner.none_again.Goals as goal

-- the names from this turn's on
turn : (names : List Bytes) (k : ℕ) → k < length names → distinct (drop k names) ≡ distinct names
    → distinct (get_or names k [] ∷ drop (k + 1) names) ≡ distinct names
turn names k h e = rw (add-one k) (ap distinct (sym (drop-cons names k [] h)) ∙ e)

pub returns-then-held_again : goal.returns-then-held_again
returns-then-held_again c =
    let whole = turn _ c.loop-k.k (omega (arith, length-names c.requires.laid)) c.loop-k.invariant in
    sym (repeated _ _ (sym c.if-held_again.true ∙ c.held_again.ensures)) ∙ whole

pub loop-k-preserved : goal.loop-k-preserved
loop-k-preserved c =
    let whole = turn _ c.loop-k.k (omega (arith, length-names c.requires.laid)) c.loop-k.invariant in
    sym (fresh _ _ (sym c.if-held_again.false ∙ c.held_again.ensures)) ∙ whole

pub returns : goal.returns
unfolding distinct
returns c =
    let e : c.loop-k.k ≡ get_or c.args.table.now 0 0 = omega arith in
    sym (ap distinct (ap (λ (k : ℕ). drop k (names_of (table_of c.args.pool.now c.args.table.now))) e ∙ names-end c.requires.laid))
    ∙ c.loop-k.invariant
