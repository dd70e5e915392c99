-- `products::inner::fits` meets its contract. The invariant: the factors before i are well formed, and `last` is the last of them.
use mathlib.Core.Path.{◌≡◌, refl, sym, ◌∙◌, ap, subst}
use mathlib.Core.Bool.{false}
use mathlib.Core.List.{List}
use Rattle.std.specs.Prelude.{◌⊎◌}
use Rattle.std.proofs.Common.{inl, inr}
use Prim.Native.Nat.{Ordering}
use Prim.Native.Nat.{ℕ, suc, ◌+◌, ◌-◌, ◌≤◌, ◌<◌}
use native.Mathlib.Omega.{arith}
use lib.ListN.{length}
use Rattle.rules.specs.Names.{table_of, numbersOf}
use Rattle.rules.specs.Trees.{Names, orderAtom}
use Rattle.std.specs.declared.cmp.Ordering as std
use Rattle.std.specs.declared.cmp.Ordering.TheVariants.{Less, Equal, Greater}
use Rattle.names.specs.Told.{toldOrder}
use Rattle.products.specs.Told.{atomAt, heldIn, factorAt, fine, isGot}
use Rattle.products.specs.Kinds.{Fine}
use Rattle.products.proofs.OnKinds.{fine-facts, not-fine}
use Rattle.products.proofs.Held.{Seen, seen_none, seen_first, seen_more, seen-well, well-given, not_taken}
use Rattle.products.proofs.inner.fits.Goals as goal

-- the order is not less
later : (o : std.Ordering) → (o ≡ Equal) ⊎ (o ≡ Greater) → toldOrder o ≡ Ordering.lt → ⊥
later Less (inl e) h = cc
later Less (inr e) h = cc
later Equal t h = cc
later Greater t h = cc

pub returns-then-n-gt-FACTORS : goal.returns-then-n-gt-FACTORS
returns-then-n-gt-FACTORS c = let long : length c.args.p.now.factors ≡ 64 = omega arith in
    sym (not_taken _ _ c.args.p.now (long) (λ w. omega (arith, w.few, c.if-n-gt-FACTORS.true)))

pub returns-then-n-eq0 : goal.returns-then-n-eq0
returns-then-n-eq0 c = let long : length c.args.p.now.factors ≡ 64 = omega arith in
    let w = seen-well (omega arith) (long) (subst (Seen c.args.names.pool.now c.args.names.table.now c.args.p.now) (sym c.if-n-eq0.true) seen_none) in
    sym (ap isGot (well-given _ _ c.args.p.now w))

pub returns-then-not-is_sound : goal.returns-then-not-is_sound
returns-then-not-is_sound c = let names : Names ℕ = numbersOf (table_of c.args.names.pool.now c.args.names.table.now) in
    let held : List ℕ = c.args.names.table.now in
    let long : length c.args.p.now.factors ≡ 64 = omega arith in
    let n : fine (names) (heldIn (held)) (factorAt c.args.p.now 0) ≡ false = sym (c.is_sound.ensures (names)) ∙ c.if-not-is_sound.true in
    sym (not_taken _ _ c.args.p.now (long) (λ w. not-fine _ _ _ n (w.each 0 (omega arith))))

pub loop-i-init : goal.loop-i-init
loop-i-init c = let names : Names ℕ = numbersOf (table_of c.args.names.pool.now c.args.names.table.now) in
    (omega arith, omega arith, refl, seen_first (fine-facts _ _ _ (sym (c.is_sound.ensures (names)) ∙ c.if-not-is_sound.false)))

pub returns-then-not-is_sound-2 : goal.returns-then-not-is_sound-2
returns-then-not-is_sound-2 c = let names : Names ℕ = numbersOf (table_of c.args.names.pool.now c.args.names.table.now) in
    let held : List ℕ = c.args.names.table.now in
    let long : length c.args.p.now.factors ≡ 64 = omega arith in
    let within : (c.loop-i.i < c.args.p.now.len) × (c.args.p.now.len ≤ 64) = (omega arith, omega arith) in
    let n : fine (names) (heldIn (held)) (factorAt c.args.p.now c.loop-i.i) ≡ false = sym (c.is_sound-in-loop-i.ensures (names)) ∙ c.if-not-is_sound-2.true in
    sym (not_taken _ _ c.args.p.now (long) (λ w. not-fine _ _ _ n (w.each _ (within).0)))

pub order-requires : goal.order-requires
order-requires c = let names : Names ℕ = numbersOf (table_of c.args.names.pool.now c.args.names.table.now) in
    let held : List ℕ = c.args.names.table.now in
    let fined : Fine (names) (heldIn (held)) (factorAt c.args.p.now c.loop-i.i) =
    fine-facts _ _ _ (sym (c.is_sound-in-loop-i.ensures (names)) ∙ c.if-not-is_sound-2.false) in
    let k : c.loop-i.i - 1 < c.loop-i.i = omega arith in
    record { left = rw c.loop-i.invariant.2 (c.loop-i.invariant.3.each _ k); right = fined }

pub returns-in-Equal : goal.returns-in-Equal
returns-in-Equal c = let long : length c.args.p.now.factors ≡ 64 = omega arith in
    let names : Names ℕ = numbersOf (table_of c.args.names.pool.now c.args.names.table.now) in
    let p = c.args.p.now in
    let i : suc (c.loop-i.i - 1) ≡ c.loop-i.i = omega arith in
    let j : suc (c.loop-i.i - 1) < p.len = omega arith in
    sym (not_taken _ _ p (long) (λ w.
    let o = subst (λ (k : ℕ). orderAtom (names) (atomAt (factorAt p (c.loop-i.i - 1))) (atomAt (factorAt p k)) ≡ Ordering.lt) i (w.rises _ j) in
    later c.order.result c.in-Equal.is (c.order.ensures ∙ rw c.loop-i.invariant.2 o)))

pub loop-i-preserved : goal.loop-i-preserved
loop-i-preserved c = let names : Names ℕ = numbersOf (table_of c.args.names.pool.now c.args.names.table.now) in
    let within : (c.loop-i.i < c.args.p.now.len) × (c.args.p.now.len ≤ 64) = (omega arith, omega arith) in
    let held : List ℕ = c.args.names.table.now in
    let fined : Fine (names) (heldIn (held)) (factorAt c.args.p.now c.loop-i.i) =
    fine-facts _ _ _ (sym (c.is_sound-in-loop-i.ensures (names)) ∙ c.if-not-is_sound-2.false) in
    let p = c.args.p.now in
    let k : c.loop-i.i ≡ c.loop-i.i + 1 - 1 = omega arith in
    let o : orderAtom (names) (atomAt (factorAt p (c.loop-i.i - 1))) (atomAt (factorAt p c.loop-i.i)) ≡ Ordering.lt =
    rw c.loop-i.invariant.2 at (sym c.order.ensures ∙ ap toldOrder c.in-Less.is) in
    (omega arith, omega (arith, within), ap (factorAt p) k, seen_more c.loop-i.i c.loop-i.invariant.0 c.loop-i.invariant.3 (fined) o)

pub returns : goal.returns
returns c = let long : length c.args.p.now.factors ≡ 64 = omega arith in
    let p = c.args.p.now in
    let i : c.loop-i.i ≡ p.len = omega arith in
    let w = seen-well (omega arith) (long) (subst (Seen c.args.names.pool.now c.args.names.table.now p) i c.loop-i.invariant.3) in
    sym (ap isGot (well-given _ _ p w))
