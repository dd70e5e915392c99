-- What follows from the definitions of specs/Columns: the columns of a set: its variables, parameters and base dimensions, each sorted.
use Rattle.std.specs.Prelude.{◌≡◌, ◌⊎◌, Bool, true, false, List, [], ◌++◌, length, take, drop}
use Rattle.std.proofs.Math.Path.{refl}
use Rattle.std.proofs.Common.{ap, ap₂, sym, ◌∙◌, inl, inr, length-append, length-drop}
use Prim.Native.Nat.{ℕ, suc, ◌+◌, ◌-◌, ◌≤◌, ◌<◌}
use native.Mathlib.Omega.{arith}
use Rattle.std.proofs.Math.Seq.{take-append_seam}
use Rattle.laws.proofs.Checks.{need-passed}
use Rattle.laws.proofs.Refusing.{Refuses, given, refusing, next}
use Rattle.laws.proofs.Lists.{bound-step}
use Rattle.rules.specs.Calls.{over}
use Rattle.rules.specs.Trees.{Names}
use Rattle.records.specs.Views.{viewAt}
use Rattle.queries.specs.Marks.{Filled}
use Rattle.engine_matrix.specs.declared.inner.parts.Columns.{Columns}
use Rattle.engine_matrix.specs.Machine.{namesIn}
use Rattle.rules.specs.Base.{Got, got, refused, ◌>>=◌, need}
use Rattle.std.proofs.lemmas.Bool.{leb-true, le-leb, lt-leb}
use Rattle.std.proofs.Math.Dec.{leb}
use Rattle.engine_rows.specs.Columns.{basesView, basesFrom, basesIn, vars, pars, bases, listed, headed}

-- ══ Names listed, one kind after another ══

module _ (s : List ℕ) (i e : ℕ) where
  pub bases-none : e ≤ i → basesIn s i e ≡ []
  unfolding basesFrom
  bases-none h = let z : e - i ≡ 0 = omega arith in rw z refl

  pub bases-step : i < e → basesIn s i e ≡ basesView (viewAt s i) ++ basesIn s (i + 1) e
  unfolding basesFrom
  bases-step h = let z : e - i ≡ suc (e - (i + 1)) = omega arith in rw z refl

-- a buffer that was filled is as long as it was
pub filled-long : (xs before after : List ℕ) (n : ℕ) → Filled xs n before after → length before ≡ 256 → n ≤ 24 → length after ≡ 256
unfolding over
filled-long xs before after n f l h =
    ap length f.buffer ∙ omega (arith, length-append xs (drop (length xs) before), length-drop (length xs) before, l, f.many)

over-front : (xs before : List ℕ) (n : ℕ) → n ≡ length xs → take n (over xs before) ≡ xs
unfolding over
over-front xs before n e = rw e (take-append_seam xs (drop (length xs) before))

either-many : {A : Type 0} (b : Bool) (m : Got A) → (need b 8 >>= λ _. need false 8 >>= λ _. m) ≡ refused 8
either-many true m = refl
either-many false m = refl

-- ══ At most 24 of them ══

module _ (ν : Names ℕ) (s : List ℕ) (e : ℕ) where
  pub too-many : (24 < length (vars ν s e)) ⊎ (24 < length (pars ν s e) + length (bases ν s e)) → listed ν s e ≡ refused 8
  unfolding listed
  too-many (inl h) = rw (lt-leb (length (vars ν s e)) 24 h) refl
  too-many (inr h) = rw (lt-leb (length (pars ν s e) + length (bases ν s e)) 24 h)
      (either-many (leb (length (vars ν s e)) 24) (got (length (vars ν s e), length (pars ν s e), vars ν s e ++ pars ν s e ++ bases ν s e)))

  pub few-enough : length (vars ν s e) ≤ 24 → length (pars ν s e) + length (bases ν s e) ≤ 24
      → listed ν s e ≡ got (length (vars ν s e), length (pars ν s e), vars ν s e ++ pars ν s e ++ bases ν s e)
  unfolding listed
  few-enough v o = rw (le-leb (length (vars ν s e)) 24 v, le-leb (length (pars ν s e) + length (bases ν s e)) 24 o) refl

  pub listed-eight : Refuses (λ n. n ≡ 8) (listed ν s e)
  unfolding listed
  listed-eight =
      next (need (leb (length (vars ν s e)) 24) 8) _ (need-eight (leb (length (vars ν s e)) 24))
      (λ _. next (need (leb (length (pars ν s e) + length (bases ν s e)) 24) 8) _ (need-eight (leb (length (pars ν s e) + length (bases ν s e)) 24))
      (λ _. given))
    where
      need-eight : (b : Bool) → Refuses (λ n. n ≡ 8) (need b 8)
      need-eight true = given
      need-eight false = refusing refl

  -- what was listed is few enough, and stands above the columns
  pub record Listed (k : Columns) : Type 0 where
    pub variables : k.variables ≡ length (vars ν s e)
    pub parameters : k.parameters ≡ length (pars ν s e)
    pub names : namesIn k ≡ vars ν s e ++ pars ν s e ++ bases ν s e
    pub few-variables : length (vars ν s e) ≤ 24
    pub few-others : length (pars ν s e) + length (bases ν s e) ≤ 24

  pub listed-so : (k : Columns) → got (headed k) ≡ listed ν s e → Listed k
  unfolding listed
  listed-so k h =
      let a = bound-step (need (leb (length (vars ν s e)) 24) 8) _ (headed k) (sym h) in
      let b = bound-step (need (leb (length (pars ν s e) + length (bases ν s e)) 24) 8) _ (headed k) a.2 in
      let i : (length (vars ν s e), length (pars ν s e), vars ν s e ++ pars ν s e ++ bases ν s e) ≡ headed k = cc b.2 in
      record {
        variables = sym (ap (λ (x : ℕ × ℕ × List ℕ). x.0) i);
        parameters = sym (ap (λ (x : ℕ × ℕ × List ℕ). x.1) i);
        names = sym (ap (λ (x : ℕ × ℕ × List ℕ). x.2) i);
        few-variables = leb-true _ _ (need-passed (leb (length (vars ν s e)) 24) 8 a.1);
        few-others = leb-true _ _ (need-passed (leb (length (pars ν s e) + length (bases ν s e)) 24) 8 b.1);
      }

  module _ (v p d : ℕ) (vb vs pb ps bb bs : List ℕ) (fv : Filled (vars ν s e) v vb vs) (fp : Filled (pars ν s e) p pb ps)
      (fb : Filled (bases ν s e) d bb bs) (hv : v ≤ 24) (ho : p + d ≤ 24) where
    pub listed-well : got (v, p, take v vs ++ take p ps ++ take d bs) ≡ listed ν s e
    unfolding listed
    listed-well =
        rw (le-leb (length (vars ν s e)) 24 (omega (arith, fv.many)), le-leb (length (pars ν s e) + length (bases ν s e)) 24 (omega (arith, fp.many, fb.many)))
        (ap got (ap₂ (λ (x : ℕ × ℕ) (xs : List ℕ). (x.0, x.1, xs)) (ap₂ (λ (x y : ℕ). (x, y)) fv.many fp.many)
        (ap₂ ◌++◌ (ap₂ ◌++◌ (ap (take v) fv.buffer ∙ over-front (vars ν s e) vb v fv.many)
        (ap (take p) fp.buffer ∙ over-front (pars ν s e) pb p fp.many))
        (ap (take d) fb.buffer ∙ over-front (bases ν s e) bb d fb.many))))
