-- What was written at the start of the work buffer is at most 2,048 records long and nested at most 64, or refused as 8.
use Rattle.std.specs.Prelude.{Some, None, ◌≡◌, Bool, true, false, List, ℕ, ◌≤◌, ◌<◌, leb, min, length}
use Rattle.std.proofs.Common.{sym, ap, subst, ◌∙◌, arith, leb-true, le-leb}
use Rattle.std.proofs.Math.Decide.{dec_le}
use Rattle.rules.specs.Base.{got, refused, all, sum_of, max_of}
use Rattle.rules.specs.Trees.{Ty, Con, size, depth, sizeCon, depthCon}
use Rattle.laws.proofs.Lists.{true≢false}
use Rattle.laws.proofs.Sized.{sized-kept, sized-long, sized-deep}
use Rattle.records.specs.Good.{Ends, GoodTy, goodCon}
use Rattle.records.specs.Holds.{Holds}
use Rattle.records.specs.Parsed.{only}
use Rattle.types.specs.Sets.{Cons, IsCons, one-set}
use Rattle.types.specs.Written.{last}
use Rattle.replace_calls.specs.Stands.{counted, typeCounted, setCounted, TypeStands, SetStands}

module _ {A : Type 0} (long deep : A → ℕ) (n : ℕ) (a : A) (many : min n last ≡ min (long a) last) where
  pub too_long : 2048 < n → refused 8 ≡ counted long deep a
  too_long h = let k : 2048 < long a = omega (arith, many) in sym (rw (sized-long (long a) (deep a) a k))

  too-deep : 64 < deep a → refused 8 ≡ counted long deep a
  too-deep h = sym (rw (sized-deep (long a) (deep a) a h))

  fitting : n ≤ 2048 → deep a ≤ 64 → got n ≡ counted long deep a
  fitting h k =
      let i : long a ≤ 2048 = omega (arith, many) in
      let e : n ≡ long a = omega (arith, many) in
      ap got e ∙ sym (rw (sized-kept (long a) (deep a) a i k))

-- ══ A type ══

module _ (pool table w : List ℕ) (n : ℕ) (u : Ty ℕ) (s : TypeStands pool table w n u) (h : n ≤ 2048) where
  there : Holds w u 0
  there = s.held (omega (arith, s.many))

  pub type-shallow : (e : ℕ) → Ends (GoodTy pool table 0 w 64 0) (Some e) → got n ≡ typeCounted u
  type-shallow e g = fitting size depth n u s.many h (subst (λ (t : Ty ℕ). depth t ≤ 64) (only w g.0 u 0 g.1.held there) g.1.deep)

  pub type-deep : Ends (GoodTy pool table 0 w 64 0) None → refused 8 ≡ typeCounted u
  type-deep f = go (dec_le (depth u) 64)
    where
      go : Dec (depth u ≤ 64) → refused 8 ≡ typeCounted u
      go (yes k) = absurd (f u (size u) (record { held = there; past = omega arith; deep = k; good = s.good }))
      go (no k) = too-deep size depth n u s.many (omega arith)

-- ══ A set ══

module _ (pool table w : List ℕ) (n : ℕ) (cs : List (Con ℕ)) (s : SetStands pool table w n cs) (h : n ≤ 2048) where
  pub cons-there : IsCons w 0 n cs
  cons-there = s.held (omega (arith, s.many))

  pub near-there : length w ≤ 4_000_000_000
  near-there = s.near (omega (arith, s.many))

  -- whichever way it is told which constraints stand there
  same-there : (p : Cons w 0 n) → cs ≡ p.0
  same-there p = ap (λ (x : Cons w 0 n). x.0) (one-set w 0 n (cs, cons-there) p)

  pub there-good : (p : Cons w 0 n) → all (goodCon pool table 0) p.0 ≡ true
  there-good p = rw (← same-there p) s.good

  module _ (p : Cons w 0 n) {b : Bool} (e : b ≡ leb (max_of depthCon p.0) 64) where
    told : b ≡ leb (max_of depthCon cs) 64
    told = rw (same-there p) e

    pub set-shallow : b ≡ true → got n ≡ setCounted cs
    set-shallow i = fitting (sum_of sizeCon) (max_of depthCon) n cs s.many h (leb-true (max_of depthCon cs) 64 (sym told ∙ i))

    pub set-deep : b ≡ false → refused 8 ≡ setCounted cs
    set-deep i = go (dec_le (max_of depthCon cs) 64)
      where
        go : Dec (max_of depthCon cs ≤ 64) → refused 8 ≡ setCounted cs
        go (yes k) = absurd (true≢false (sym (le-leb (max_of depthCon cs) 64 k) ∙ sym told ∙ i))
        go (no k) = too-deep (sum_of sizeCon) (max_of depthCon) n cs s.many (omega arith)
