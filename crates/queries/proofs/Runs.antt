-- Runs of constraints and of bindings: their open names are those of their records, and can be marked.
use Rattle.std.specs.Prelude.{◌≡◌, ℕ, ◌+◌, ◌-◌, ◌≤◌, get_or}
use mathlib.Core.List.{List, [], ◌∷◌}
use Rattle.std.proofs.Common.{arith}
use Rattle.rules.specs.Base.{collect}
use Rattle.rules.specs.Trees.{Open, Con, Binding, opensCon, sizeCon, sizeBinding}
use Rattle.rules.specs.Calls.{opensBinding}
use Rattle.laws.proofs.Lists.{every_append}
use Rattle.laws.proofs.KnownNames.{Known, con-known, binding-known}
use Rattle.laws.specs.Lists.{Every}
use Rattle.records.specs.Good.{Chain, GoodCon, GoodBinding, numbers, holding}
use Rattle.queries.specs.Scans.{opensFrom, opensIn}
use Rattle.queries.proofs.ScanLaws.{con-opens, binding-opens, chain-opens}
use Rattle.queries.specs.Marks.{Small}
use Rattle.queries.proofs.GoodOpens.{names-small}

module _ (pool table : List ℕ) (q : ℕ) (s : List ℕ) where
  -- open names that are held
  abbrev pub AllKnown : List (Open ℕ) → Type 0
  AllKnown os = Every (Known (numbers pool table) (holding pool table) q) os

  -- from a place up to its end
  part : (at n e : ℕ) {os : List (Open ℕ)} → e ≡ at + n → opensFrom s n at ≡ os → (at ≤ e) × (opensIn s at e ≡ os)
  part at n e p h = let z : e - at ≡ n = omega (arith, p) in (omega (arith, p), rw z h)

  chain-known : {A : Type 0} (P : ℕ → A → ℕ → Type 0) (of : A → List (Open ℕ)) → ((at : ℕ) (a : A) (e : ℕ) → P at a e → AllKnown (of a))
      → (as' : List A) (at n : ℕ) → Chain P n as' at → AllKnown (collect of as')
  unfolding collect
  chain-known P of f [] at n c = tt
  chain-known P of f (a ∷ as') at n c = every_append _ (of a) (collect of as') (f at a c.0 c.1.0) (chain-known P of f as' c.0 n c.1.1)

  -- ══ A set ══

  module _ (cs : List (Con ℕ)) (at n : ℕ) (c : Chain (GoodCon pool table q s) n cs at) where
    pub set-opens : opensIn s at n ≡ collect opensCon cs
    set-opens = (chain-opens s (GoodCon pool table q s) opensCon (λ at a e g. part at (sizeCon a) e g.past (con-opens s a at g.held)) cs at n c).1

    pub set_known : AllKnown (collect opensCon cs)
    set_known = chain-known (GoodCon pool table q s) opensCon (λ at a e g. con-known (numbers pool table) (holding pool table) q a g.good) cs at n c

    -- what `apart` asks
    pub set-small : get_or table 0 0 ≤ 256 → Small (opensIn s at n)
    set-small l = rw set-opens (names-small pool table q (collect opensCon cs) set_known l)

  -- ══ Bindings ══

  module _ (bs : List (Binding ℕ)) (at n : ℕ) (c : Chain (GoodBinding pool table q s) n bs at) where
    pub bindings-opens : opensIn s at n ≡ collect opensBinding bs
    bindings-opens = (chain-opens s (GoodBinding pool table q s) opensBinding
        (λ at a e g. part at (sizeBinding a) e g.past (binding-opens s a at g.held)) bs at n c).1

    pub bindings-known : AllKnown (collect opensBinding bs)
    bindings-known = chain-known (GoodBinding pool table q s) opensBinding
        (λ at a e g. binding-known (numbers pool table) (holding pool table) q a g.good) bs at n c

    pub bindings-small : get_or table 0 0 ≤ 256 → Small (opensIn s at n)
    bindings-small l = rw bindings-opens (names-small pool table q (collect opensBinding bs) bindings-known l)
