-- What follows from the definitions of specs/Rows: constraints that stand one after another.
use Rattle.std.specs.Prelude.{◌≡◌, refl, List, [], ◌∷◌, ℕ, ◌+◌, ◌/◌, ◌≤◌, ◌<◌, length}
use Rattle.std.proofs.Common.{sym, subst, ◌∙◌, arith}
use Rattle.rules.specs.Trees.{Con, equal, isDim, is_scalar, hasField, sizeCon}
use Rattle.records.proofs.ByView.{con-in}
use Rattle.records.specs.Good.{Chain, GoodCon}
use Rattle.records.specs.Holds.{HoldsCon}
use Rattle.records.proofs.Holds.{con-long}
use Rattle.records.specs.Views.{longAt}
use Rattle.text_write.specs.Rows.{LinesAt}

size-con : (c : Con ℕ) → 1 ≤ sizeCon c
unfolding sizeCon
size-con (equal l r) = omega arith
size-con (isDim t) = omega arith
size-con (is_scalar p) = omega arith
size-con (hasField x l r) = omega arith

module _ (pool table s : List ℕ) where
  pub no-lines : (at : ℕ) → length s / 4 ≤ at → (cs : List (Con ℕ)) → LinesAt pool table s at cs → cs ≡ []
  no-lines at le [] f = refl
  no-lines at le (c ∷ cs) f = let h = f.chain.1.0 in absurd (omega (arith, con-in s c at h.held, size-con c))

  -- the first line and the others
  pub record Line (at : ℕ) (cs : List (Con ℕ)) : Type 0 where
    pub c : Con ℕ
    pub us : List (Con ℕ)
    pub is : cs ≡ c ∷ us
    pub holds : HoldsCon s c at
    pub others : Chain (GoodCon pool table 0 s) (length s / 4) us (at + sizeCon c)

  pub as_line : (at : ℕ) → at < length s / 4 → (cs : List (Con ℕ)) → LinesAt pool table s at cs → Line at cs
  as_line at lt [] f = absurd (omega (arith, f.chain))
  as_line at lt (c ∷ cs) f =
      let h = f.chain.1.0 in
      record {
        c = c;
        us = cs;
        is = refl;
        holds = h.held;
        others = subst (λ (i : ℕ). Chain (GoodCon pool table 0 s) (length s / 4) cs i) h.past f.chain.1.1;
      }

  pub line-on : {at n : ℕ} {cs : List (Con ℕ)} (y : Line at cs) → n ≡ longAt s at → (at < at + n) × (at + n ≤ length s / 4)
  line-on {at} y g =
      let l = con-long s y.c at y.holds in
      let i = con-in s y.c at y.holds in
      (omega (arith, g, l, size-con y.c), omega (arith, g, l, i))

  pub line-others : {at n : ℕ} {cs : List (Con ℕ)} (y : Line at cs) → n ≡ longAt s at → LinesAt pool table s (at + n) y.us
  line-others {at} y g =
      let l = con-long s y.c at y.holds in
      record { chain = subst (λ (i : ℕ). Chain (GoodCon pool table 0 s) (length s / 4) y.us (at + i)) (sym (g ∙ l)) y.others }
