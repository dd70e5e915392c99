-- What the judge's yes and no say, whoever proposed the bindings.
use Rattle.std.proofs.Math.Path.{◌≡◌, refl}
use Rattle.std.proofs.Common.{ap, ◌∙◌, sym, inl, inr, eqb→eq}
use Rattle.std.specs.Prelude.{Bool, ◌⊎◌, ℕ, eqb}
use Rattle.std.proofs.Math.Bool.{true, false}
use mathlib.Core.List.Memᴰ
use mathlib.Core.List.{List, [], ◌∷◌, Memᴰ}
use native.Mathlib.Omega.{arith}
use Rattle.rules.specs.Base.{Got, got, refused, ◌>>=◌, Limits, bounded, exact, sized}
use Rattle.rules.specs.Trees.{Names, Con, Binding, sizeCon, depthCon}
use Rattle.rules.specs.Replacing.{replaceCon, bindings}
use Rattle.rules.specs.Meaning.{holds, TrueUnder, Solves}
use Rattle.rules.specs.Judging.{failed, judgeCon, judge}
use Rattle.laws.proofs.Lists.{got≢refused}
use Rattle.theorems_soundness.specs.Claims.{Fails}
use Rattle.laws.specs.Exact.{Below, OfLimits}
use Rattle.laws.proofs.Exact.{same, next, sized-below}
use Rattle.laws.proofs.ExactSolve.{con-below}

never : {A : Type 0} {n : ℕ} {a : A} → refused n ≡ got a → ⊥
never e = got≢refused (sym e)

opposite : got false ≡ got true → ⊥
opposite e = cc

-- ══ An answer that may be 6 ══

-- '6 counts as failure': what an answer stands for
failed-yes : (r : Got Bool) → failed r ≡ got true → r ≡ got true
unfolding failed
failed-yes (got b) e = e
failed-yes (refused n) e = go (eqb n 6) refl
  where
    go : (b : Bool) → eqb n 6 ≡ b → refused n ≡ got true
    go true i = let k : got false ≡ got true = rw (i, failed) at e in cc
    go false i = let k : refused n ≡ got true = rw (i, failed) at e in k

failed-no : (r : Got Bool) → failed r ≡ got false → (r ≡ got false) ⊎ (r ≡ refused 6)
unfolding failed
failed-no (got b) e = inl e
failed-no (refused n) e = go (eqb n 6) refl
  where
    go : (b : Bool) → eqb n 6 ≡ b → (◌≡◌ {A = Got Bool} (refused n) (got false)) ⊎ (◌≡◌ {A = Got Bool} (refused n) (refused 6))
    go true i = inr (ap refused (eqb→eq n 6 (rw i tt)))
    go false i = let k : refused n ≡ got false = rw (i, failed) at e in inl k

failed-refused : (r : Got Bool) (n : ℕ) → failed r ≡ refused n → r ≡ refused n
unfolding failed
failed-refused (got b) n e = absurd (never (sym e))
failed-refused (refused m) n e = go (eqb m 6) refl
  where
    go : (b : Bool) → eqb m 6 ≡ b → ◌≡◌ {A = Got Bool} (refused m) (refused n)
    go true i = let k : got false ≡ refused n = rw (i, failed) at e in absurd (never (sym k))
    go false i = let k : ◌≡◌ {A = Got Bool} (refused m) (refused n) = rw (i, failed) at e in k

module _ {N : Type 0} (ν : Names N) (bs : List (Binding N)) (bounds : List N) where
  -- ══ One constraint ══

  -- a constraint in exact arithmetic: what it comes to, and whether that holds
  abbrev judged : Limits → Con N → Got Bool
  judged l c = do
    d ← replaceCon ν l (bindings ν bs) c
    d ← sized l (sizeCon d) (depthCon d) d
    got (holds ν bounds d)

  judged-below : (c : Con N) → Below (judged bounded c) (judged exact c)
  judged-below c = next (con-below ν (bindings ν bs) c) (λ d. next (sized-below (sizeCon d) (depthCon d) d) (λ e. same _))

  true-exact : (c : Con N) → judged exact c ≡ got true → TrueUnder ν bs bounds c
  true-exact c h = go (replaceCon ν exact (bindings ν bs) c) refl
    where
      go : (r : Got (Con N)) → replaceCon ν exact (bindings ν bs) c ≡ r → TrueUnder ν bs bounds c
      go (got d) e = record { replaced = d; put_in = e; holding = let k : got (holds ν bounds d) ≡ got true = sym (rw e) ∙ h in cc }
      go (refused n) e = let k : refused n ≡ got true = sym (rw e) ∙ h in absurd (never k)

  exact-true : (c : Con N) → TrueUnder ν bs bounds c → judged exact c ≡ got true
  exact-true c t = rw (t.put_in, t.holding)

  -- one constraint: yes, no, or a refusal
  con-yes : (c : Con N) → judgeCon ν bounded bs bounds c ≡ got true → TrueUnder ν bs bounds c
  unfolding judgeCon
  con-yes c e = true-exact c ((judged-below c).gives true (failed-yes (judged bounded c) e))

  con-no : (c : Con N) → judgeCon ν bounded bs bounds c ≡ got false → ¬ (TrueUnder ν bs bounds c)
  unfolding judgeCon
  con-no c e t = go (failed-no (judged bounded c) e)
    where
      other : (judged exact c ≡ refused 6) ⊎ OfLimits 6 → ⊥
      other (inl i) = never (sym i ∙ exact-true c t)
      other (inr (inl i)) = omega arith
      other (inr (inr i)) = omega arith

      go : (judged bounded c ≡ got false) ⊎ (judged bounded c ≡ refused 6) → ⊥
      go (inl i) = opposite (sym ((judged-below c).gives false i) ∙ exact-true c t)
      go (inr i) = other ((judged-below c).refuses 6 i)

  con-refused : (c : Con N) (n : ℕ) → judgeCon ν bounded bs bounds c ≡ refused n → TrueUnder ν bs bounds c → OfLimits n
  unfolding judgeCon
  con-refused c n e t = go ((judged-below c).refuses n (failed-refused (judged bounded c) n e))
    where
      go : (judged exact c ≡ refused n) ⊎ OfLimits n → OfLimits n
      go (inl i) = absurd (never (sym i ∙ exact-true c t))
      go (inr i) = i

  -- ══ A set ══

  -- the constraints of a set, one after the other
  pub yes-solves : (cs : List (Con N)) → judge ν bounded bs bounds cs ≡ got true → Solves ν cs bs bounds
  unfolding judge
  yes-solves [] e c m = absurd (Memᴰ.not-nil m)
  yes-solves (d ∷ cs) e c m = go (judgeCon ν bounded bs bounds d) refl (yes-solves cs)
    where
      at : TrueUnder ν bs bounds d → Solves ν cs bs bounds → (c ≡ d) ⊎ Memᴰ c cs → TrueUnder ν bs bounds c
      at t s (inl i) = rw i t
      at t s (inr i) = s c i

      go : (r : Got Bool) → judgeCon ν bounded bs bounds d ≡ r → (judge ν bounded bs bounds cs ≡ got true → Solves ν cs bs bounds) → TrueUnder ν bs bounds c
      go (got true) i s = at (con-yes d i) (s (rw (i, judge) at e)) (Memᴰ.cases_cons m)
      go (got false) i s = let k : got false ≡ got true = rw (i, judge) at e in absurd (opposite k)
      go (refused n) i s = let k : refused n ≡ got true = rw (i, judge) at e in absurd (never k)

  pub no-fails : (cs : List (Con N)) → judge ν bounded bs bounds cs ≡ got false → Fails ν cs bs bounds
  unfolding judge
  no-fails [] e = absurd (opposite (sym e))
  no-fails (d ∷ cs) e = go (judgeCon ν bounded bs bounds d) refl (no-fails cs)
    where
      go : (r : Got Bool) → judgeCon ν bounded bs bounds d ≡ r → (judge ν bounded bs bounds cs ≡ got false → Fails ν cs bs bounds) → Fails ν (d ∷ cs) bs bounds
      go (got true) i s = let f = s (rw (i, judge) at e) in record { constraint = f.constraint; given = Memᴰ.tail f.given; fails = f.fails }
      go (got false) i s = record { constraint = d; given = Memᴰ.head refl; fails = con-no d i }
      go (refused n) i s = let k : refused n ≡ got false = rw (i, judge) at e in absurd (never k)

  -- of a solution the judge says yes, or it refuses by 7 or 8
  pub solution-refused : (cs : List (Con N)) → Solves ν cs bs bounds → (n : ℕ) → judge ν bounded bs bounds cs ≡ refused n → OfLimits n
  unfolding judge
  solution-refused [] s n e = absurd (never (sym e))
  solution-refused (d ∷ cs) s n e = go (judgeCon ν bounded bs bounds d) refl (solution-refused cs (λ c m. s c (Memᴰ.tail m)) n)
    where
      go : (r : Got Bool) → judgeCon ν bounded bs bounds d ≡ r → (judge ν bounded bs bounds cs ≡ refused n → OfLimits n) → OfLimits n
      go (got true) i h = h (rw (i, judge) at e)
      go (got false) i h = let k : got false ≡ refused n = rw (i, judge) at e in absurd (never (sym k))
      go (refused m) i h = let k : ◌≡◌ {A = Got Bool} (refused m) (refused n) = rw (i, judge) at e in con-refused d n (i ∙ k) (s d (Memᴰ.head refl))

  pub solution-judged : (cs : List (Con N)) → Solves ν cs bs bounds
      → (judge ν bounded bs bounds cs ≡ got true) ⊎ ((judge ν bounded bs bounds cs ≡ refused 7) ⊎ (judge ν bounded bs bounds cs ≡ refused 8))
  solution-judged cs s = go (judge ν bounded bs bounds cs) refl
    where
      which : (n : ℕ) → judge ν bounded bs bounds cs ≡ refused n → OfLimits n
          → (judge ν bounded bs bounds cs ≡ got true) ⊎ ((judge ν bounded bs bounds cs ≡ refused 7) ⊎ (judge ν bounded bs bounds cs ≡ refused 8))
      which n e (inl i) = inr (inl (e ∙ ap refused i))
      which n e (inr i) = inr (inr (e ∙ ap refused i))

      go : (r : Got Bool) → judge ν bounded bs bounds cs ≡ r
          → (judge ν bounded bs bounds cs ≡ got true) ⊎ ((judge ν bounded bs bounds cs ≡ refused 7) ⊎ (judge ν bounded bs bounds cs ≡ refused 8))
      go (got true) e = inl e
      go (got false) e = let f = no-fails cs e in absurd (f.fails (s f.constraint f.given))
      go (refused n) e = which n e (solution-refused cs s n e)
