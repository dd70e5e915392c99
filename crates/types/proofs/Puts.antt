-- Types and constraints that were written.
use Rattle.std.specs.Prelude.{◌≡◌, List, [], ◌∷◌, ◌++◌, ℕ, suc, ◌+◌, ◌*◌, ◌/◌, ◌≤◌, ◌<◌, length}
use Rattle.std.proofs.Common.{arith, ap, sym, subst, ◌∙◌, add-zero, append_assoc}
use Rattle.std.proofs.Math.Seq.{slice}
use Rattle.rules.specs.Base.{collect, sum_of}
use Rattle.rules.specs.Trees.{Ty, Tys, nil, cons, Con, Binding, count, equal, size, sizeTys, sizeCon, sizeBinding}
use Rattle.rules.specs.Rounds.{pairs}
use Rattle.rules.specs.Writing.{rec, head, words, writeTy, writeCon, writeBinding}
use Rattle.records.specs.Cut.{fit}
use Rattle.records.proofs.Cut.{fits}
use Rattle.laws.proofs.Size.{size-con, set-length, bindings-length}
use Rattle.records.specs.Holds.{HoldsBinding, HoldsCon}
use Rattle.records.proofs.Held.{held-words, con-written, binding-written}
use Rattle.records.proofs.Places.{words-from}
use Rattle.records.specs.ByView.{ends-in}
use Rattle.records.proofs.ByView.{con-in, binding-in}
use Rattle.records.specs.Views.{from, recOf}
use Rattle.records.specs.declared.View.TheVariants as view
use Rattle.types.specs.declared.writer.Writer.{Writer}
use Rattle.types.specs.Binds.{Binds, binding-some}
use Rattle.types.proofs.Binds.{HoldsBinds}
use Rattle.types.specs.Once.{ATree, ACon}
use Rattle.types.specs.Sets.{Cons, con-some}
use Rattle.types.proofs.OnSets.{HoldsCons}
use Rattle.types.specs.Runs.{HoldsEach}
use Rattle.types.proofs.Runs.{each-in}
use Rattle.types.specs.Written.{Writes}
use Rattle.types.proofs.Written.{writes-then, writes-none}

pub short : (s : List ℕ) (at : ℕ) (t : ATree s at) → length s ≤ 4_000_000_000 → size t.0 ≤ 1_000_000_000
short s at t n = omega (arith, ends-in s t.0 at t.1)

pub type-words : (s : List ℕ) (at e : ℕ) (t : ATree s at) → e ≡ at + size t.0 → slice (at * 4) (e * 4) s ≡ words (writeTy t.0)
type-words s at e t q = ap (λ (k : ℕ). slice (at * 4) (k * 4) s) q ∙ held-words s t.0 at t.1

pub con-words : (s : List ℕ) (at e : ℕ) (c : ACon s at) → e ≡ at + sizeCon c.0 → slice (at * 4) (e * 4) s ≡ words (writeCon c.0)
con-words s at e c q =
    let le : at ≤ length s / 4 = omega (arith, con-in s c.0 at c.1) in
    ap (λ (k : ℕ). slice (at * 4) (k * 4) s) q
    ∙ rw (size-con c.0) at (words-from s (writeCon c.0) (from s (at + sizeCon c.0)) at le (con-written s c.0 at c.1))

-- constraints one after another; and bindings
module _ (s : List ℕ) where
  cons-from : (cs : List (Con ℕ)) (at : ℕ) → HoldsCons s cs at → from s at ≡ collect writeCon cs ++ from s (at + sum_of sizeCon cs)
  unfolding HoldsEach collect
  cons-from [] at h = rw (add-zero at)
  cons-from (c ∷ cs) at h =
      let i : at + sizeCon c + sum_of sizeCon cs ≡ at + (sizeCon c + sum_of sizeCon cs) = omega arith in
      con-written s c at h.0 ∙ ap (writeCon c ++◌) (cons-from cs (at + sizeCon c) h.1 ∙ ap (λ (j : ℕ). collect writeCon cs ++ from s j) i)
      ∙ sym (append_assoc (writeCon c) (collect writeCon cs) (from s (at + (sizeCon c + sum_of sizeCon cs))))

  pub binds-from : (bs : List (Binding ℕ)) (at : ℕ) → HoldsBinds s bs at → from s at ≡ collect writeBinding bs ++ from s (at + sum_of sizeBinding bs)
  unfolding HoldsEach collect
  binds-from [] at h = rw (add-zero at)
  binds-from (b ∷ bs) at h =
      let i : at + sizeBinding b + sum_of sizeBinding bs ≡ at + (sizeBinding b + sum_of sizeBinding bs) = omega arith in
      binding-written s b at h.0 ∙ ap (writeBinding b ++◌) (binds-from bs (at + sizeBinding b) h.1 ∙ ap (λ (j : ℕ). collect writeBinding bs ++ from s j) i)
      ∙ sym (append_assoc (writeBinding b) (collect writeBinding bs) (from s (at + (sizeBinding b + sum_of sizeBinding bs))))

  pub cons-in : (cs : List (Con ℕ)) (at : ℕ) → at ≤ length s / 4 → HoldsCons s cs at → at + sum_of sizeCon cs ≤ length s / 4
  cons-in = each-in HoldsCon sizeCon s (con-in s)

  pub binds-in : (bs : List (Binding ℕ)) (at : ℕ) → at ≤ length s / 4 → HoldsBinds s bs at → at + sum_of sizeBinding bs ≤ length s / 4
  binds-in = each-in HoldsBinding sizeBinding s (binding-in s)

  -- where there are any, they lie within
  pub set-within : (at end : ℕ) (h : Cons s at end) → at < end → end ≤ length s / 4
  unfolding HoldsEach
  set-within at end ([], k) lt = absurd (omega (arith, k.ends, lt))
  set-within at end (c ∷ cs, k) lt = omega (arith, k.ends, cons-in cs (at + sizeCon c) (con-in s c at k.held.0) k.held.1)

  pub binds-within : (at end : ℕ) (h : Binds s at end) → at < end → end ≤ length s / 4
  unfolding HoldsEach
  binds-within at end ([], k) lt = absurd (omega (arith, k.ends, lt))
  binds-within at end (b ∷ bs, k) lt = omega (arith, k.ends, binds-in bs (at + sizeBinding b) (binding-in s b at k.held.0) k.held.1)

  pub set-words : (at end : ℕ) (h : Cons s at end) → end ≤ length s / 4 → slice (at * 4) (end * 4) s ≡ words (collect writeCon h.0)
  set-words at end (cs, k) le =
      let e : at + length (collect writeCon cs) ≡ end = omega (arith, k.ends, set-length cs) in
      rw e at (words-from s (collect writeCon cs) (from s (at + sum_of sizeCon cs)) at (omega (arith, k.ends)) (cons-from cs at k.held))

  pub binds-words : (at end : ℕ) (h : Binds s at end) → end ≤ length s / 4 → slice (at * 4) (end * 4) s ≡ words (collect writeBinding h.0)
  binds-words at end (bs, k) le =
      let e : at + length (collect writeBinding bs) ≡ end = omega (arith, k.ends, bindings-length bs) in
      rw e at (words-from s (collect writeBinding bs) (from s (at + sum_of sizeBinding bs)) at (omega (arith, k.ends)) (binds-from bs at k.held))

  -- none: nothing is written
  pub no-set : (w : Writer) (at end : ℕ) (h : Cons s at end) → end ≤ at → Writes w w (collect writeCon h.0)
  unfolding collect
  no-set w at end ([], k) le = writes-none w
  no-set w at end (c ∷ cs, k) le = absurd (omega (arith, k.ends, con-some c))

  pub no-bindings : (w : Writer) (at end : ℕ) (h : Binds s at end) → end ≤ at → Writes w w (collect writeBinding h.0)
  unfolding collect
  no-bindings w at end ([], k) le = writes-none w
  no-bindings w at end (b ∷ bs, k) le = absurd (omega (arith, k.ends, binding-some b))

pub equal-writes : {w w₁ w₂ w₃ : Writer} (t u : Ty ℕ) (n : ℕ) → n ≡ 1 + size t + size u → n ≤ 65_535 → Writes w w₁ (recOf view.Equal (fit n) ∷ [])
    → Writes w₁ w₂ (writeTy t) → Writes w₂ w₃ (writeTy u)
    → Writes w w₃ (writeCon (equal t u))
unfolding writeCon sizeCon
equal-writes {w} {w₁} {w₂} {w₃} t u n e l p q r =
    let m : n ≡ suc (size t + size u) = omega arith in
    let p' : Writes w w₁ (rec (head 20 (suc (size t + size u))) 0 0 0 ∷ []) = subst (λ (k : ℕ). Writes w w₁ (recOf view.Equal k ∷ [])) (fits n l ∙ m) p in
    writes-then (rec (head 20 (suc (size t + size u))) 0 0 0 ∷ []) (writeTy t ++ writeTy u) p' (writes-then (writeTy t) (writeTy u) q r)

-- what is still to be written behind w makes all that was asked from w₀ on
abbrev pub Still : Writer → Writer → Tys ℕ → Tys ℕ → Tys ℕ → Tys ℕ → Type 0
Still w₀ w ts us ts₀ us₀ = (w' : Writer) → Writes w w' (collect writeCon (pairs ts us)) → Writes w₀ w' (collect writeCon (pairs ts₀ us₀))

pub sizes : (t : Ty ℕ) (ts us : Tys ℕ) → cons t ts ≡ us → size t + sizeTys ts ≡ sizeTys us
unfolding sizeTys
sizes t ts us e = ap sizeTys e

pub falls : (t : Ty ℕ) (ts us : Tys ℕ) (n m : ℕ) → cons t ts ≡ us → count ts ≡ n → count us ≡ m → suc n ≡ m
unfolding count
falls t ts us n m e p q = omega (arith, p, q, ap count e)

module _ (w₀ w : Writer) (ts₀ us₀ : Tys ℕ) where
  pub still-next : {w₁ : Writer} {t u : Ty ℕ} {ts us : Tys ℕ} (ts₁ us₁ : Tys ℕ) → Still w₀ w ts₁ us₁ ts₀ us₀ → cons t ts ≡ ts₁ → cons u us ≡ us₁
      → Writes w w₁ (writeCon (equal t u)) → Still w₀ w₁ ts us ts₀ us₀
  unfolding pairs collect
  still-next {w₁} {t} {u} {ts} {us} ts₁ us₁ s e f p w' q =
      let all : Writes w w' (collect writeCon (pairs (cons t ts) (cons u us))) = writes-then (writeCon (equal t u)) (collect writeCon (pairs ts us)) p q in
      s w' (subst (λ (x : Tys ℕ). Writes w w' (collect writeCon (pairs x us₁))) e
      (subst (λ (x : Tys ℕ). Writes w w' (collect writeCon (pairs (cons t ts) x))) f all))

  pub still-left : (ts us : Tys ℕ) → Still w₀ w ts us ts₀ us₀ → nil ≡ ts → Writes w₀ w (collect writeCon (pairs ts₀ us₀))
  unfolding pairs collect
  still-left ts us s e = s w (subst (λ (x : Tys ℕ). Writes w w (collect writeCon (pairs x us))) e (writes-none w))

  pub still-right : (ts us : Tys ℕ) → Still w₀ w ts us ts₀ us₀ → nil ≡ us → Writes w₀ w (collect writeCon (pairs ts₀ us₀))
  unfolding pairs collect
  still-right ts us s e = s w (subst (λ (x : Tys ℕ). Writes w w (collect writeCon (pairs ts x))) e (no-more ts))
    where
      no-more : (ts : Tys ℕ) → Writes w w (collect writeCon (pairs ts nil))
      no-more nil = writes-none w
      no-more (cons t ts) = writes-none w
