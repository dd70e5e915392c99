-- Where no open name is replaced a constraint stays.
use Rattle.std.specs.Prelude as std
use Rattle.std.specs.Prelude.{◌≡◌, Bool, true, false, not, ◌||◌, List, [], ◌∷◌, ◌++◌, ℕ, ◌+◌, ◌-◌, ◌≤◌, ◌<◌, Ok, refl}
use Rattle.std.specs.Option.{is_some}
use Rattle.std.proofs.Common.{arith, ap, sym, ◌∙◌}
use Rattle.std.proofs.Math.Option.{Option, none, some}
use Rattle.rules.specs.Base.{any, is_none}
use Rattle.rules.specs.Refusals.{toldOptionBy}
use Rattle.rules.specs.Replacing.{Look}
use Rattle.rules.specs.Trees.{Open, Ty, Con, opensCon, sizeCon}
use Rattle.laws.proofs.Contents.{any_append}
use Rattle.laws.proofs.Lists.{true≢false}
use Rattle.laws.proofs.Untouched.{Unbound}
use Rattle.records.specs.Views.{viewAt}
use Rattle.records.specs.Holds.{HoldsCon}
use Rattle.queries.specs.Scans.{opensView, opensFrom, opensIn}
use Rattle.queries.proofs.ScanLaws.{opens-step, con-opens}
use Rattle.replace.specs.Leaves.{replaced}

module _ (look : Look ℕ) where
  pub changed : {m : Option (Ty ℕ)} {b : Bool} {T : Type 0} (f : T → Ty ℕ) (r : std.Option T) → toldOptionBy f r ≡ m → b ≡ is_some r → b
      ≡ (not (is_none m) || false)
  changed f std.None e i = i ∙ ap (λ (m : Option (Ty ℕ)). not (is_none m) || false) e
  changed f (std.Some x) e i = i ∙ ap (λ (m : Option (Ty ℕ)). not (is_none m) || false) e

  module _ (s : List ℕ) (i e : ℕ) (h : i < e) where
    join : any (replaced look) (opensIn s i e) ≡ (any (replaced look) (opensView (viewAt s i)) || any (replaced look) (opensIn s (i + 1) e))
    join = ap (any (replaced look)) (opens-step s i e h) ∙ any_append (replaced look) (opensView (viewAt s i)) (opensIn s (i + 1) e)

    pub hit : any (replaced look) (opensView (viewAt s i)) ≡ true → any (replaced look) (opensIn s i e) ≡ true
    hit q = join ∙ ap (λ (b : Bool). b || any (replaced look) (opensIn s (i + 1) e)) q

    pub miss : any (replaced look) (opensView (viewAt s i)) ≡ false → any (replaced look) (opensIn s i e) ≡ any (replaced look) (opensIn s (i + 1) e)
    miss q = join ∙ ap (λ (b : Bool). b || any (replaced look) (opensIn s (i + 1) e)) q

  pub none-replaced : (os : List (Open ℕ)) → any (replaced look) os ≡ false → Unbound look os
  unfolding any
  none-replaced [] q = tt
  none-replaced (o ∷ os) q = go (look o) refl (none-replaced os)
    where
      go : (m : Option (Ty ℕ)) → look o ≡ m → (any (replaced look) os ≡ false → Unbound look os) → (look o ≡ none) × Unbound look os
      go none i r = (i, r (rw i at q))
      go (some t) i r = absurd (true≢false (rw i at q))

  pub con-untouched : (s : List ℕ) (c : Con ℕ) (at e : ℕ) → HoldsCon s c at → e ≡ at + sizeCon c → false ≡ any (replaced look) (opensIn s at e)
      → Unbound look (opensCon c)
  con-untouched s c at e h p q =
      let n : e - at ≡ sizeCon c = omega arith in
      none-replaced (opensCon c) (sym (q ∙ ap (any (replaced look)) (ap (λ (k : ℕ). opensFrom s k at) n ∙ con-opens s c at h)))
