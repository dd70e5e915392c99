-- The first of some bindings, and those after it.
use Rattle.std.specs.Prelude.{◌≡◌, List, [], ◌∷◌, ℕ, suc, ◌+◌, ◌≤◌, ◌<◌, refl, length}
use Rattle.std.proofs.Common.{arith, ap₂, ap, sym, subst, ◌∙◌}
use Rattle.rules.specs.Trees.{Ty, Binding, ◌≔◌, size, sizeBinding}
use Rattle.records.specs.Views.{viewAt}
use Rattle.records.specs.Holds.{HoldsBinding}
use Rattle.records.specs.ByView.{ends-in}
use Rattle.records.specs.Parsed.{only}
use Rattle.records.specs.declared.View.{View}
use Rattle.records.specs.declared.View.TheVariants as view
use Rattle.types.specs.Once.{ATree}
use Rattle.types.specs.Binds.{IsBinds, Binds, binding-some}
use Rattle.types.proofs.Binds.{HoldsBinds, only-binds}
use Rattle.types.specs.Runs.{HoldsEach}

module _ (s : List ℕ) where
  pub no-binds : (at end : ℕ) (h : Binds s at end) → end ≤ at → [] ≡ h.0
  no-binds at end ([], k) le = refl
  no-binds at end (b ∷ bs, k) le = absurd (omega (arith, k.ends, binding-some b))

  module _ (at end : ℕ) (h : Binds s at end) (some : at < end) where
    record FirstBinding : Type 0 where
      pub name : ℕ
      pub to : ATree s (at + 1)
      pub rest : Binds s (at + 1 + size to.0) end
      pub shows : viewAt s at ≡ view.Binding name
      pub is : h.0 ≡ name ≔ to.0 ∷ rest.0

    first-binding : FirstBinding
    unfolding HoldsEach HoldsBinding sizeBinding
    first-binding = go h.0 h.1 refl
      where
        go : (bs : List (Binding ℕ)) → IsBinds s at end bs → h.0 ≡ bs → FirstBinding
        go [] k e = absurd (omega (arith, k.ends, some))
        go (x ≔ t ∷ bs) k e =
            let i : at + suc (size t) ≡ at + 1 + size t = omega arith in
            record {
              name = x;
              to = (t, k.held.0.1);
              rest = (bs, record { held = subst (HoldsBinds s bs) i k.held.1; ends = omega (arith, k.ends) });
              shows = k.held.0.0;
              is = e;
            }

    pub binding-there : {v : View} → v ≡ viewAt s at → ((x : ℕ) → v ≡ view.Binding x → ⊥) → ⊥
    binding-there e n = n first-binding.name (e ∙ first-binding.shows)

    pub binding-near : length s ≤ 4_000_000_000 → at < 1_000_000_000
    binding-near n = omega (arith, ends-in s first-binding.to.0 (at + 1) first-binding.to.1)

    pub bound-tree : ATree s (at + 1)
    bound-tree = first-binding.to

    pub binds-behind : {e : ℕ} (t : ATree s (at + 1)) → e ≡ at + 1 + size t.0 → Binds s e end
    binds-behind t q =
        let same : t.0 ≡ first-binding.to.0 = only s t.0 first-binding.to.0 (at + 1) t.1 first-binding.to.1 in
        subst (λ (i : ℕ). Binds s i end) (sym (q ∙ ap (λ (x : Ty ℕ). at + 1 + size x) same)) first-binding.rest

    pub binds-are : {x e : ℕ} → viewAt s at ≡ view.Binding x → (u : ATree s (at + 1)) → e ≡ at + 1 + size u.0
        → (t : ATree s (at + 1)) (bs : Binds s e end) → x ≔ t.0 ∷ bs.0 ≡ h.0
    binds-are {x} {e} v u q t bs =
        let f = first-binding in
        let named : view.Binding x ≡ view.Binding f.name = sym v ∙ f.shows in
        let name : x ≡ f.name = cc in
        let same : t.0 ≡ f.to.0 = only s t.0 f.to.0 (at + 1) t.1 f.to.1 in
        let place : e ≡ at + 1 + size f.to.0 = q ∙ ap (λ (x : Ty ℕ). at + 1 + size x) (only s u.0 f.to.0 (at + 1) u.1 f.to.1) in
        let k : IsBinds s (at + 1 + size f.to.0) end bs.0 = subst (λ (i : ℕ). IsBinds s i end bs.0) place bs.1 in
        ap₂ ◌∷◌ (ap₂ ◌≔◌ name same) (only-binds s bs.0 f.rest.0 (at + 1 + size f.to.0) end k f.rest.1) ∙ sym f.is
