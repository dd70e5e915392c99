-- What follows from the definitions of specs/Runs: a run of bindings in a part of a list of words, and what a variable is bound to there.
use Rattle.std.proofs.Math.Path.{◌≡◌, refl}
use Rattle.std.proofs.Common.{sym, ap, subst, ◌∙◌}
use Rattle.std.specs.Prelude.{None, Some, Bool, true, false, eqb, length}
use Rattle.std.proofs.Math.Bool.{and-eq-true_iff}
use mathlib.Core.List.{List, [], ◌∷◌}
use Rattle.std.proofs.Math.Option.{Option, none, some}
use Prim.Native.Nat.{ℕ, suc, ◌+◌, ◌≤◌, ◌<◌, ◌/◌}
use Rattle.std.proofs.Math.Decide.{ℕ_discrete}
use native.Mathlib.Omega.{arith}
use Rattle.rules.specs.Base.{all, sum_of, is_yes}
use Rattle.rules.specs.Names.{Bytes, numbered}
use Rattle.rules.specs.Trees.{Open, var, quant, par, Names, Ty, Binding, ◌≔◌, size, sizeBinding}
use Rattle.rules.specs.Replacing.{find, bindings}
use Rattle.rules.specs.WellFormed.{goodTy, goodBinding}
use Rattle.records.specs.Views.{viewAt}
use Rattle.records.specs.Holds.{Holds, HoldsBinding}
use Rattle.records.specs.ByView.{ends-in}
use Rattle.records.specs.declared.View.TheVariants as view
use Rattle.types.proofs.FieldsFound.{named-same}
use Rattle.types.specs.Binds.{IsBinds}
use Rattle.types.specs.Runs.{HoldsEach}
use Rattle.replace.specs.Runs.{Found, LookedUp}

pub not_found : (v : List ℕ) (o : Option (Ty ℕ)) {r : Found} → LookedUp v o r → r ≡ None → o ≡ none
not_found v none h e = refl
not_found v (some t) h e = absurd (let q : ◌≡◌ {A = Found} (Some (h.place, h.place + size t)) None = sym h.is ∙ e in cc)

module _ (v : List ℕ) where
  -- the first binding of a run that isn't empty
  pub record First (b e : ℕ) (bs : List (Binding ℕ)) : Type 0 where
    pub name : ℕ
    pub type : Ty ℕ
    pub rest : List (Binding ℕ)
    pub is : bs ≡ name ≔ type ∷ rest
    pub shows : viewAt v b ≡ view.Binding name
    pub held : Holds v type (b + 1)
    pub run : IsBinds v (b + 1 + size type) e rest
    pub within : b + 1 + size type ≤ length v / 4

  pub run-first : (b e : ℕ) (bs : List (Binding ℕ)) → IsBinds v b e bs → b < e → First b e bs
  unfolding HoldsEach HoldsBinding sizeBinding
  run-first b e [] r lt = absurd (omega (arith, r.ends))
  run-first b e (x ≔ t ∷ bs) r lt =
      let q : b + suc (size t) ≡ b + 1 + size t = omega arith in
      record {
        name = x;
        type = t;
        rest = bs;
        is = refl;
        shows = r.held.0.0;
        held = r.held.0.1;
        run = record { held = rw q at r.held.1; ends = omega (arith, r.ends) };
        within = ends-in v t (b + 1) r.held.0.1;
      }

  pub run_none : (b e : ℕ) (bs : List (Binding ℕ)) → IsBinds v b e bs → e ≤ b → bs ≡ []
  unfolding sizeBinding
  run_none b e [] r le = refl
  run_none b e (x ≔ t ∷ bs) r le = absurd (omega (arith, r.ends))

  pub run-order : (b e : ℕ) (bs : List (Binding ℕ)) → IsBinds v b e bs → b ≤ e
  run-order b e bs r = omega (arith, r.ends)

  -- a place that binds x, or another
  module _ (names : List Bytes) (b e x : ℕ) (bs : List (Binding ℕ)) (f : First b e bs) where
    pub find-here : eqb x f.name ≡ true → find (numbered names) bs x ≡ some f.type
    unfolding find numbered
    find-here h = rw (f.is, find, named-same x f.name (ℕ_discrete x f.name), h)

    pub find-on : eqb x f.name ≡ false → find (numbered names) bs x ≡ find (numbered names) f.rest x
    unfolding find numbered
    find-on h = rw (f.is, find, named-same x f.name (ℕ_discrete x f.name), h)

-- what is found is shorter than the run
pub found-short : (ν : Names ℕ) (bs : List (Binding ℕ)) (x : ℕ) (t : Ty ℕ) → find ν bs x ≡ some t → suc (size t) ≤ sum_of sizeBinding bs
unfolding find sizeBinding
found-short ν [] x t e = absurd (cc)
found-short ν (y ≔ u ∷ bs) x t e = go (is_yes (ν.same x y)) refl (found-short ν bs x t)
  where
    go : (b : Bool) → is_yes (ν.same x y) ≡ b → (find ν bs x ≡ some t → suc (size t) ≤ sum_of sizeBinding bs) → suc (size t) ≤ sum_of sizeBinding (y ≔ u ∷ bs)
    go true q ih =
        let z : some u ≡ some t = rw (find, q) at e in
        let k : u ≡ t = cc in
        omega (arith, ap size k)
    go false q ih =
        let z : find ν bs x ≡ some t = rw (find, q) at e in
        omega (arith, ih z)

pub looked-short : (ν : Names ℕ) (bs : List (Binding ℕ)) (o : Open ℕ) (t : Ty ℕ) → bindings ν bs o ≡ some t → suc (size t) ≤ sum_of sizeBinding bs
unfolding bindings
looked-short ν bs (var x) t e = found-short ν bs x t e
looked-short ν bs (quant i) t e = absurd (cc)
looked-short ν bs (par x) t e = absurd (cc)

-- what is found among well formed bindings is well formed
module _ (ν : Names ℕ) (known : ℕ → Bool) (q : ℕ) where
  pub found-good : (bs : List (Binding ℕ)) (x : ℕ) (t : Ty ℕ) → all (goodBinding ν known q) bs ≡ true → find ν bs x ≡ some t → goodTy ν known q t ≡ true
  unfolding find all goodBinding
  found-good [] x t g e = absurd (cc)
  found-good (y ≔ u ∷ bs) x t g e = go (is_yes (ν.same x y)) refl (found-good bs x t r.1)
    where
      r : (goodBinding ν known q (y ≔ u) ≡ true) × (all (goodBinding ν known q) bs ≡ true)
      r = (and-eq-true_iff (goodBinding ν known q (y ≔ u)) (all (goodBinding ν known q) bs)).0 g

      go : (b : Bool) → is_yes (ν.same x y) ≡ b → (find ν bs x ≡ some t → goodTy ν known q t ≡ true) → goodTy ν known q t ≡ true
      go true i ih =
          let z : some u ≡ some t = rw (find, i) at e in
          let k : u ≡ t = cc in
          subst (λ (v : Ty ℕ). goodTy ν known q v ≡ true) k ((and-eq-true_iff (known y) (goodTy ν known q u)).0 r.0).1
      go false i ih = let z : find ν bs x ≡ some t = rw (find, i) at e in ih z

  pub looked-good : (bs : List (Binding ℕ)) (o : Open ℕ) (t : Ty ℕ) → all (goodBinding ν known q) bs ≡ true → bindings ν bs o ≡ some t
      → goodTy ν known q t ≡ true
  unfolding bindings
  looked-good bs (var x) t g e = found-good bs x t g e
  looked-good bs (quant i) t g e = absurd (cc)
  looked-good bs (par x) t g e = absurd (cc)
