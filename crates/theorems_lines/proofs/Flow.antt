-- Two sets of one closed line, made over two lists of lent names: their constraints go side by side, and where a variable is needed, its
-- definition stands before. A pair in K has been defined before, and isn't bound yet.
use Rattle.std.specs.Prelude.{◌≡◌}
use Rattle.std.proofs.Math.Path.{refl, ap₂, sym}
use Rattle.std.proofs.Common.{ap, ◌∙◌}
use mathlib.Core.List.{List, [], ◌∷◌, Memᴰ}
use Prim.Native.Nat.{ℕ, suc, ◌+◌, max, Ordering}
use Rattle.rules.specs.Base.{sum_of, max_of}
use Rattle.rules.specs.Exponents.{Exp}
use Rattle.rules.specs.Trees.{var, free, ◌↑◌, Product, Names, Ty, opened, dim, Con, equal, isDim, size, depth, sizeCon, depthCon}
use Rattle.laws.specs.Fractions.{Lowest}
use Rattle.laws.specs.Lists.{All}
use Rattle.rules.specs.Lines.{twoFactors}
use Rattle.theorems_lines.proofs.Shut.{Shut, ShutCon}

module _ {N : Type 0} (ν : Names N) where
  abbrev pub Pairs : Type 0
  Pairs = List (N × N)

  -- s and s': one closed type, or two variables that belong together
  pub data Side (K : List (N × N)) : Ty N → Ty N → Type 0 where
    shut : (t : Ty N) → Shut t → Side K t t
    pair : (x x' : N) → Memᴰ (x, x') K → Side K (opened (var x)) (opened (var x'))

  -- what a variable is defined as: such a side, a power of a variable beside base dimensions, or two variables
  pub data Term (K : List (N × N)) : Ty N → Ty N → Type 0 where
    side : {s s' : Ty N} → Side K s s' → Term K s s'
    half : (x x' : N) (e : Exp) (p : Product N) → Memᴰ (x, x') K → Lowest e → Shut (dim p) → Term K (dim (free (var x) ↑ e ∷ p)) (dim (free (var x') ↑ e ∷ p))
    two : (l l' r r' : N) (e : Exp) → Memᴰ (l, l') K → Memᴰ (r, r') K → ¬ (ν.order l r ≡ Ordering.eq) → ¬ (ν.order l' r' ≡ Ordering.eq) → Lowest e
        → Term K (dim (twoFactors ν l r e)) (dim (twoFactors ν l' r' e))

  -- a constraint that defines nothing
  pub data Line (K : List (N × N)) : Con N → Con N → Type 0 where
    closed : (c : Con N) → ShutCon c → Line K c c
    dimension : {s s' : Ty N} → Side K s s' → Line K (isDim s) (isDim s')
    equality : {s s' t t' : Ty N} → Side K s s' → Side K t t' → Line K (equal s t) (equal s' t')

  -- two names that are not those of the pair
  abbrev pub Differs : N → N → N × N → Type 0
  Differs v v' p = (¬ (p.0 ≡ v)) × (¬ (p.1 ≡ v'))

  module _ (P : N × N → Type 0) where
    pub data Flow : List (N × N) → List (Con N) → List (Con N) → Type 0 where
      end : {K : List (N × N)} → Flow K [] []
      beside : {K : List (N × N)} {c c' : Con N} {cs cs' : List (Con N)} → Line K c c' → Flow K cs cs' → Flow K (c ∷ cs) (c' ∷ cs')
      define : {K : List (N × N)} (v v' : N) {t t' : Ty N} {cs cs' : List (Con N)} → P (v, v') → All (Differs v v') K → Term K t t' → Flow ((v, v') ∷ K) cs cs'
          → Flow K (equal (opened (var v)) t ∷ cs) (equal (opened (var v')) t' ∷ cs')

  -- ══ Sizes ══

  two_size : (l r : N) (e : Exp) → size (dim (twoFactors ν l r e)) ≡ 3
  unfolding size twoFactors
  two_size l r e = go (ν.order l r) refl
    where
      go : (o : Ordering) → ν.order l r ≡ o → size (dim (twoFactors ν l r e)) ≡ 3
      go Ordering.lt i = rw (i, twoFactors)
      go Ordering.eq i = rw (i, twoFactors)
      go Ordering.gt i = rw (i, twoFactors)

  module _ {K : List (N × N)} where
    side-size : {s s' : Ty N} → Side K s s' → (size s ≡ size s') × (depth s ≡ depth s')
    unfolding size depth
    side-size (shut t h) = (refl, refl)
    side-size (pair x x' m) = (refl, refl)

    term-size : {s s' : Ty N} → Term K s s' → (size s ≡ size s') × (depth s ≡ depth s')
    unfolding size depth
    term-size (side s) = side-size s
    term-size (half x x' e p m l h) = (refl, refl)
    term-size (two l l' r r' e m n d d' k) = (two_size l r e ∙ sym (two_size l' r' e), refl)

    line-size : {c c' : Con N} → Line K c c' → (sizeCon c ≡ sizeCon c') × (depthCon c ≡ depthCon c')
    unfolding sizeCon depthCon
    line-size (closed c h) = (refl, refl)
    line-size (dimension s) = let a = side-size s in (ap suc a.0, a.1)
    line-size (equality s t) = let a = side-size s in let b = side-size t in (ap₂ (λ (m n : ℕ). suc (m + n)) a.0 b.0, ap₂ max a.1 b.1)

  module _ {P : N × N → Type 0} where
    pub flow-size : {K : List (N × N)} {cs cs' : List (Con N)} → Flow P K cs cs'
        → (sum_of sizeCon cs ≡ sum_of sizeCon cs') × (max_of depthCon cs ≡ max_of depthCon cs')
    unfolding sizeCon depthCon size depth
    flow-size end = (refl, refl)
    flow-size (beside c f) = let a = line-size c in let b = flow-size f in (ap₂ (λ (m n : ℕ). m + n) a.0 b.0, ap₂ max a.1 b.1)
    flow-size (define v v' p d t f) = let a = term-size t in let b = flow-size f
        in (ap₂ (λ (m n : ℕ). suc (1 + m) + n) a.0 b.0, ap₂ (λ (m n : ℕ). max (max 1 m) n) a.1 b.1)
