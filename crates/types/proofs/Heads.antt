-- What a type begins with: a function's parameters and what it returns stand behind its first record as one row.
use Rattle.std.specs.Prelude.{◌≡◌, List, ℕ, ◌+◌, ◌<◌, ◌≤◌, length}
use Rattle.std.proofs.Common.{arith, ap, sym, subst, ◌∙◌}
use Rattle.rules.specs.Trees.{Ty, fn, struct, Tys, nil, cons, Fields, size, sizeTys, count}
use Rattle.records.specs.Views.{viewAt}
use Rattle.records.specs.Holds.{Holds, HoldsTys}
use Rattle.records.specs.ByView.{ends-in}
use Rattle.records.proofs.ByView.{size-pos}
use Rattle.records.specs.declared.View.TheVariants as view
use Rattle.types.specs.Once.{ATree, Trees, one-list}
use Rattle.types.specs.Shapes.{row}
use Rattle.types.proofs.Seen.{seen-as}

count-row : (ps : Tys ℕ) (r : Ty ℕ) → count (row ps r) ≡ count ps + 1
unfolding count
count-row nil r = omega arith
count-row (cons p ps) r = omega (arith, count-row ps r)

count-small : (ts : Tys ℕ) → count ts ≤ sizeTys ts
unfolding count sizeTys
count-small nil = omega arith
count-small (cons t ts) = omega (arith, size-pos t, count-small ts)

module _ (s : List ℕ) where
  held-row : (ps : Tys ℕ) (r : Ty ℕ) (at : ℕ) → HoldsTys s ps at → Holds s r (at + sizeTys ps) → HoldsTys s (row ps r) at
  unfolding HoldsTys sizeTys
  held-row nil r at h k = (subst (Holds s r) (let e : at + 0 ≡ at = omega arith in e) k, tt)
  held-row (cons p ps) r at h k =
      let e : at + (size p + sizeTys ps) ≡ at + size p + sizeTys ps = omega arith in
      (h.0, held-row ps r (at + size p) h.1 (subst (Holds s r) e k))

  module _ (at : ℕ) (h : ATree s at) {n : ℕ} (e : viewAt s at ≡ view.Function n) where
    pub row-of : Trees s (at + 1) (n + 1)
    row-of =
        let x = seen-as s at h e in (
          row x.0.0 x.1.0,
          record {
            held = held-row x.0.0 x.1.0 (at + 1) x.0.1.held x.1.1;
            many = count-row x.0.0 x.1.0 ∙ ap (λ (k : ℕ). k + 1) x.0.1.many;
          },
        )

    pub row-small : length s ≤ 4_000_000_000 → n < 1_000_000_000
    unfolding size
    row-small k =
        let x = seen-as s at h e in
        omega (arith, k, count-small x.0.0, x.0.1.many, ends-in s h.0 at h.1, ap (λ (t : Ty ℕ). size t) x.2)

    pub function-begins : (ts : Trees s (at + 1) (n + 1)) → (ps : Tys ℕ) × (r : Ty ℕ) × (row ps r ≡ ts.0) × (fn ps r ≡ h.0)
    unfolding row-of
    function-begins ts =
        let x = seen-as s at h e in
        (x.0.0, x.1.0, ap (λ (z : Trees s (at + 1) (n + 1)). z.0) (one-list s (at + 1) (n + 1) row-of ts), sym x.2)

  pub struct-begins : (at : ℕ) (h : ATree s at) {x n m : ℕ} → viewAt s at ≡ view.Struct x n m → (as' : Trees s (at + 1) n)
      → (fs : Fields ℕ) × (struct x as'.0 fs ≡ h.0)
  struct-begins at h {x} {n} e as' =
      let y = seen-as s at h e in
      (y.1.0, ap (λ (z : Trees s (at + 1) n). struct x z.0 y.1.0) (one-list s (at + 1) n as' y.0) ∙ sym y.2)
