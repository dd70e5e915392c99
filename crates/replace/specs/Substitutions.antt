-- What a table of places says the names become: one thing each, in one way.
use Rattle.std.specs.Prelude.{◌≡◌, List, ℕ, ◌+◌, ◌≤◌, length}
use Rattle.std.proofs.Common.{ap, subst, arith, refl}
use Rattle.std.proofs.Math.Option.{Option, none, some}
use Rattle.std.proofs.Props.{props}
use mathlib.Core.HLevel.{Σ_prop_path, Π_prop}
use mathlib.Core.Path.{fun_ext}
use Rattle.rules.specs.Replacing.{Look}
use Rattle.rules.specs.Trees.{Open, Ty, size}
use Rattle.records.specs.Holds.{Holds}
use Rattle.records.specs.Parsed.{only}
use Rattle.types.specs.Once.{ℕ-set, type-once}
use Rattle.replace.specs.Places.{word_of, BoundAt, SaysAt}
use Rattle.replace.specs.Well.{LooksGood, Lent}

module _ (v : List ℕ) where
  bound-once : (w : ℕ) (t : Ty ℕ) → IsProp (BoundAt v w t)
  bound-once w t b c =
      let e : b.at ≡ c.at = omega (arith, b.word, c.word) in
      subst (λ (j : ℕ). (p : w ≡ j + 1) (h : Holds v t j) → ◌≡◌ {A = BoundAt v w t} b (record { at = j; word = p; held = h })) e
      (λ p h. λ i. record { at = b.at; word = ℕ-set w (b.at + 1) b.word p i; held = type-once v t b.at b.held h i }) c.word c.held

  says-once : (w : ℕ) (m : Option (Ty ℕ)) → IsProp (SaysAt v w m)
  says-once w none = ℕ-set w 0
  says-once w (some t) = bound-once w t

  says-one : (w : ℕ) (m n : Option (Ty ℕ)) → SaysAt v w m → SaysAt v w n → m ≡ n
  says-one w none none h k = refl
  says-one w none (some u) h k = absurd (omega (arith, h, k.word))
  says-one w (some t) none h k = absurd (omega (arith, h.word, k))
  says-one w (some t) (some u) h k = let e : k.at ≡ h.at = omega (arith, h.word, k.word) in ap some (only v t u h.at h.held (subst (Holds v u) e k.held))

module _ (pool table places v : List ℕ) where
  few-once : (look : Look ℕ) → IsProp ((o : Open ℕ) (t : Ty ℕ) → look o ≡ some t → size t ≤ 2048)
  few-once look = Prim.hlevel props

  good-once : (look : Look ℕ) → IsProp (LooksGood pool table look)
  good-once look = Prim.hlevel props

  near-once : IsProp (length v ≤ 4_000_000_000)
  near-once = Prim.hlevel props

  lent-once : (look : Look ℕ) → IsProp (Lent pool table places v look)
  lent-once look a b = λ i. record {
    tabled = record {
      says = Π_prop (λ o. says-once v (word_of places o) (look o)) a.tabled.says b.tabled.says i;
      few = few-once look a.tabled.few b.tabled.few i;
    };
    good = good-once look a.good b.good i;
    near = near-once a.near b.near i;
  }

  -- what the names become by a table that is lent
  abbrev pub ALook : Type 0
  ALook = (look : Look ℕ) × Lent pool table places v look

  pub one-look : IsProp ALook
  one-look p q = Σ_prop_path lent-once (fun_ext (λ o. says-one v (word_of places o) (p.0 o) (q.0 o) (p.1.tabled.says o) (q.1.tabled.says o)))
