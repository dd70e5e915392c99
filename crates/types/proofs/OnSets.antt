-- What follows from the definitions of specs/Sets: constraints one after another from a place up to another: the words alone say which they are.
use Rattle.std.specs.Prelude.{◌≡◌, List, [], ◌∷◌, ℕ, ◌+◌, ◌≤◌, ◌<◌, refl}
use Rattle.std.proofs.Common.{arith, ap₂, ap, sym, subst, ◌∙◌}
use Rattle.rules.specs.Trees.{Con, sizeCon}
use Rattle.records.specs.Holds.{HoldsCon}
use Rattle.records.specs.Parsed.{only-con}
use Rattle.types.specs.Once.{con-once}
use Rattle.types.specs.Runs.{HoldsEach, only-run}
use Rattle.types.specs.Sets.{con-some, placed, IsCons, Cons}

-- without their places
abbrev pub alone : List (List ℕ × ℕ × Con ℕ) → List (Con ℕ)
alone [] = []
alone (x ∷ xs) = x.2 ∷ alone xs

pub placed-alone : (s : List ℕ) (at : ℕ) (cs : List (Con ℕ)) → alone (placed s at cs) ≡ cs
placed-alone s at [] = refl
placed-alone s at (c ∷ cs) = ap (c ∷◌) (placed-alone s (at + sizeCon c) cs)

abbrev pub HoldsCons : List ℕ → List (Con ℕ) → ℕ → Type 0
HoldsCons = HoldsEach HoldsCon sizeCon

module _ (s : List ℕ) where
  only-cons : (cs ds : List (Con ℕ)) (at end : ℕ) → IsCons s at end cs → IsCons s at end ds → cs ≡ ds
  only-cons = only-run HoldsCon sizeCon s con-some (only-con s) (con-once s)

  -- ══ The first, and those after it ══

  pub none-left : (at end : ℕ) (h : Cons s at end) → end ≤ at → [] ≡ placed s at h.0
  none-left at end ([], k) le = refl
  none-left at end (c ∷ cs, k) le = absurd (omega (arith, k.ends, con-some c))

  module _ (at end : ℕ) (h : Cons s at end) (some : at < end) where
    record FirstCon : Type 0 where
      pub con : (c : Con ℕ) × HoldsCon s c at
      pub rest : Cons s (at + sizeCon con.0) end
      pub is : h.0 ≡ con.0 ∷ rest.0

    first-con : FirstCon
    unfolding HoldsEach
    first-con = go h.0 h.1 refl
      where
        go : (cs : List (Con ℕ)) → IsCons s at end cs → h.0 ≡ cs → FirstCon
        go [] k e = absurd (omega (arith, k.ends, some))
        go (c ∷ cs) k e = record { con = (c, k.held.0); rest = (cs, record { held = k.held.1; ends = omega (arith, k.ends) }); is = e }

    pub con-here : (c : Con ℕ) × HoldsCon s c at
    con-here = first-con.con

    pub cons-behind : {e : ℕ} (c : (c : Con ℕ) × HoldsCon s c at) → e ≡ at + sizeCon c.0 → Cons s e end
    cons-behind c q =
        let f = first-con in
        let same : c.0 ≡ f.con.0 = only-con s c.0 f.con.0 at c.1 f.con.1 in
        subst (λ (i : ℕ). Cons s i end) (sym (q ∙ ap (λ (x : Con ℕ). at + sizeCon x) same)) f.rest

    pub cons-are : {e : ℕ} (d : (c : Con ℕ) × HoldsCon s c at) → e ≡ at + sizeCon d.0 → (c : (c : Con ℕ) × HoldsCon s c at) (cs : Cons s e end)
        → (s, at, c.0) ∷ placed s e cs.0 ≡ placed s at h.0
    cons-are {e} d q c cs =
        let f = first-con in
        let same : c.0 ≡ f.con.0 = only-con s c.0 f.con.0 at c.1 f.con.1 in
        let place : e ≡ at + sizeCon f.con.0 = q ∙ ap (λ (x : Con ℕ). at + sizeCon x) (only-con s d.0 f.con.0 at d.1 f.con.1) in
        let behind : IsCons s (at + sizeCon f.con.0) end cs.0 = subst (λ (i : ℕ). IsCons s i end cs.0) place cs.1 in
        ap₂ (λ (x : Con ℕ) (xs : List (List ℕ × ℕ × Con ℕ)). (s, at, x) ∷ xs) same
        (ap₂ (placed s) place (only-cons cs.0 f.rest.0 (at + sizeCon f.con.0) end behind f.rest.1)) ∙ ap (placed s at) (sym f.is)
