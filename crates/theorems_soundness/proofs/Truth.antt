-- Truth goes back over a round: if what a rule put in is true once all bindings are put in, so is the constraint that it took away;
-- and a constraint is true if it is true with a variable replaced by what it is bound to.
use Rattle.std.specs.Prelude.{◌≡◌, Bool, false, ◌&&◌, List, [], ◌∷◌, ℕ}
use Rattle.std.proofs.Math.Path.{refl, ap, sym, subst}
use Rattle.std.proofs.Common.{◌∙◌}
use Rattle.std.proofs.Math.Bool.{true}
use Rattle.std.proofs.Math.Option.{some}
use mathlib.Core.List.Memᴰ
use Rattle.rules.specs.Base.{got, exact, collect}
use Rattle.rules.specs.Trees.{Open, var, Product, Names, Ty, opened, Con, equal, isDim, is_scalar, hasField, Binding, ◌≔◌, orderAtom, openOfFactor}
use Rattle.rules.specs.Plain.{plain}
use Rattle.rules.specs.Replacing.{Look, replaceProduct, replaceTy, replaceCon, bindings}
use Rattle.rules.specs.Meaning.{holds, TrueUnder, inProducts, productsOf}
use Rattle.rules.specs.WellFormed.{goodProduct, goodTy, goodCon}
use Rattle.laws.specs.Order.{Lawful, Tells}
use Rattle.laws.specs.GoodProducts.{goodAtom}
use Rattle.laws.specs.Lists.{and_left, and_right, All}
use Rattle.laws.proofs.Lists.{one-step, two_steps}
use Rattle.laws.proofs.RuleCases.{is-nil}
use Rattle.laws.proofs.KeepsGood.{GoodTy}
use Rattle.theorems_soundness.proofs.Alike.{alike_same, means-same, same-means, dim-alike, field_alike}
use Rattle.theorems_soundness.proofs.Putting.{Fitting, Respected, product-same, Same, put-product, ty-put}

-- ══ What a true constraint comes to ══

module _ {N : Type 0} (ν : Names N) (bs : List (Binding N)) (bounds : List N) where
  pub record Equals (s t : Ty N) : Type 0 where
    pub left : Ty N
    pub right : Ty N
    pub putLeft : replaceTy ν exact (bindings ν bs) s ≡ got left
    pub putRight : replaceTy ν exact (bindings ν bs) t ≡ got right
    pub same : plain left false ≡ plain right false

  pub equals : (s t : Ty N) → TrueUnder ν bs bounds (equal s t) → Equals s t
  unfolding replaceCon holds
  equals s t h =
      let w = two_steps (replaceTy ν exact (bindings ν bs) s) (λ _. replaceTy ν exact (bindings ν bs) t) equal h.replaced h.put_in in
      record {
        left = w.first;
        right = w.second;
        putLeft = w.gave;
        putRight = w.then;
        same = same-means ν w.first w.second (subst (λ (c : Con N). holds ν bounds c ≡ true) (sym w.both) h.holding);
      }

  pub equals-holds : (s t : Ty N) → Equals s t → TrueUnder ν bs bounds (equal s t)
  unfolding replaceCon holds
  equals-holds s t e = record { replaced = equal e.left e.right; put_in = rw (e.putLeft, e.putRight); holding = means-same ν e.left e.right e.same }

  pub turned : (s t : Ty N) → Equals s t → Equals t s
  turned s t e = record { left = e.right; right = e.left; putLeft = e.putRight; putRight = e.putLeft; same = sym e.same }

  pub record Dimensional (t : Ty N) : Type 0 where
    pub type : Ty N
    pub put_in : replaceTy ν exact (bindings ν bs) t ≡ got type
    pub holding : holds ν bounds (isDim type) ≡ true

  pub dimensional : (t : Ty N) → TrueUnder ν bs bounds (isDim t) → Dimensional t
  unfolding replaceCon
  dimensional t h = let w = one-step (replaceTy ν exact (bindings ν bs) t) isDim h.replaced h.put_in
      in record { type = w.value; put_in = w.gave; holding = subst (λ (c : Con N). holds ν bounds c ≡ true) (sym w.is) h.holding }

  pub dimensional-holds : (t : Ty N) → Dimensional t → TrueUnder ν bs bounds (isDim t)
  unfolding replaceCon
  dimensional-holds t d = record { replaced = isDim d.type; put_in = rw d.put_in; holding = d.holding }

  pub scalar : (p : Product N) → TrueUnder ν bs bounds (is_scalar p) → replaceProduct ν exact (bindings ν bs) p ≡ got []
  unfolding replaceCon holds
  scalar p h =
      let w = one-step (replaceProduct ν exact (bindings ν bs) p) is_scalar h.replaced h.put_in in
      w.gave ∙ ap got (is-nil w.value (subst (λ (c : Con N). holds ν bounds c ≡ true) (sym w.is) h.holding))

  pub scalar-holds : (p : Product N) → replaceProduct ν exact (bindings ν bs) p ≡ got [] → TrueUnder ν bs bounds (is_scalar p)
  unfolding replaceCon holds
  scalar-holds p e = record { replaced = is_scalar []; put_in = rw e; holding = refl }

module _ {N : Type 0} (ν : Names N) (law : Lawful (orderAtom ν)) (held : N → Bool) (q : ℕ) (tells : Tells (λ a. goodAtom ν held q a ≡ true) (orderAtom ν))
    (bs : List (Binding N)) (bounds : List N) (σg : (o : Open N) (t : Ty N) → bindings ν bs o ≡ some t → GoodTy ν law held q t) where
  abbrev σ : Look N
  σ = bindings ν bs

  abbrev pub FitsIn : Open N → Type 0
  FitsIn = Fitting ν law held q tells σ σg

  abbrev pub Holds : Con N → Type 0
  Holds = TrueUnder ν bs bounds

  abbrev pub Respects : N → Ty N → Type 0
  Respects = Respected ν law held q tells σ σg

  -- ══ A replaced constraint ══

  module _ (x : N) (t : Ty N) (tg : GoodTy ν law held q t) (r : Respects x t) (tf : All FitsIn (inProducts t))
      (te : (o : Open N) → t ≡ opened o → FitsIn (var x) → FitsIn o) where
    abbrev τ : Look N
    τ = bindings ν (x ≔ t ∷ [])

    abbrev Like : Ty N → Ty N → Type 0
    Like = Same ν law held q tells σ σg x t tg r tf te

    abbrev put : (u w : Ty N) → goodTy ν held q u ≡ true → goodTy ν held q w ≡ true → All FitsIn (inProducts u) → All FitsIn (inProducts w)
        → replaceTy ν exact τ u ≡ got w → Like u w
    put = ty-put ν law held q tells σ σg x t tg r tf te

    equal-back : (s u s' u' : Ty N) → Like s s' → Like u u' → Holds (equal s' u') → Holds (equal s u)
    equal-back s u s' u' a b h =
        let e = equals ν bs bounds s' u' h in
        let i : got e.left ≡ got a.right = sym e.putLeft ∙ a.putRight in
        let j : got e.right ≡ got b.right = sym e.putRight ∙ b.putRight in
        let i' : e.left ≡ a.right = cc in
        let j' : e.right ≡ b.right = cc in
        equals-holds ν bs bounds s u (record {
          left = a.left;
          right = b.left;
          putLeft = a.putLeft;
          putRight = b.putLeft;
          same = alike_same a.left a.right a.alike ∙ ap (λ (w : Ty N). plain w false) (sym i') ∙ e.same ∙ ap (λ (w : Ty N). plain w false) j'
              ∙ sym (alike_same b.left b.right b.alike);
        })

    dim-back : (u u' : Ty N) → Like u u' → Holds (isDim u') → Holds (isDim u)
    dim-back u u' a h =
        let d = dimensional ν bs bounds u' h in
        let i : got d.type ≡ got a.right = sym d.put_in ∙ a.putRight in
        let j : d.type ≡ a.right = cc in
        dimensional-holds ν bs bounds u (record {
          type = a.left;
          put_in = a.putLeft;
          holding = dim-alike ν bounds a.left d.type (a.alike ∙ ap (λ (w : Ty N). plain w true) (sym j)) d.holding;
        })

    field_back : (n : N) (s u s' u' : Ty N) → Like s s' → Like u u' → Holds (hasField n s' u') → Holds (hasField n s u)
    unfolding replaceCon
    field_back n s u s' u' a b h =
        let w = two_steps (replaceTy ν exact σ s') (λ _. replaceTy ν exact σ u') (hasField n) h.replaced h.put_in in
        let i : got w.first ≡ got a.right = sym w.gave ∙ a.putRight in
        let j : got w.second ≡ got b.right = sym w.then ∙ b.putRight in
        let i' : w.first ≡ a.right = cc in
        let j' : w.second ≡ b.right = cc in
        record {
          replaced = hasField n a.left b.left;
          put_in = rw (a.putLeft, b.putLeft);
          holding = field_alike ν bounds n a.left b.left w.first w.second (a.alike ∙ ap (λ (v : Ty N). plain v true) (sym i'))
              (b.alike ∙ ap (λ (v : Ty N). plain v true) (sym j')) (subst (λ (c : Con N). holds ν bounds c ≡ true) (sym w.both) h.holding);
        }

    scalar-back : (p s : Product N) → goodProduct ν held q p ≡ true → goodProduct ν held q s ≡ true → All FitsIn (collect openOfFactor p)
        → All FitsIn (collect openOfFactor s) → replaceProduct ν exact τ p ≡ got s → Holds (is_scalar s) → Holds (is_scalar p)
    scalar-back p s g g' f f' e h =
        scalar-holds ν bs bounds p (put-product ν law held q tells σ σg p g f
        ∙ ap got (sym (product-same ν law held q tells σ σg x t tg r tf te p s g f e)) ∙ sym (put-product ν law held q tells σ σg s g' f')
        ∙ scalar ν bs bounds s h)

    pub con-back : (c d : Con N) → goodCon ν held q c ≡ true → goodCon ν held q d ≡ true → All FitsIn (productsOf c) → All FitsIn (productsOf d)
        → replaceCon ν exact τ c ≡ got d → Holds d → Holds c
    unfolding replaceCon goodCon productsOf inProducts
    con-back (equal s u) d g g' f f' e h =
        let w = two_steps (replaceTy ν exact τ s) (λ _. replaceTy ν exact τ u) equal d e in
        let g'' : goodCon ν held q (equal w.first w.second) ≡ true = subst (λ (c : Con N). goodCon ν held q c ≡ true) (sym w.both) g' in
        let f'' : All FitsIn (productsOf (equal w.first w.second)) = subst (λ (c : Con N). All FitsIn (productsOf c)) (sym w.both) f' in
        equal-back s u w.first w.second
        (put s w.first (and_left (goodTy ν held q s) _ g) (and_left (goodTy ν held q w.first) _ g'') (λ o m. f o (Memᴰ.append_left (inProducts u) m))
        (λ o m. f'' o (Memᴰ.append_left (inProducts w.second) m)) w.gave)
        (put u w.second (and_right (goodTy ν held q s) _ g) (and_right (goodTy ν held q w.first) _ g'')
        (λ o m. f o (Memᴰ.append_right (inProducts s) m)) (λ o m. f'' o (Memᴰ.append_right (inProducts w.first) m)) w.then)
        (subst Holds (sym w.both) h)
    con-back (isDim u) d g g' f f' e h =
        let w = one-step (replaceTy ν exact τ u) isDim d e in
        dim-back u w.value (put u w.value g (subst (λ (c : Con N). goodCon ν held q c ≡ true) (sym w.is) g') f
        (subst (λ (c : Con N). All FitsIn (productsOf c)) (sym w.is) f') w.gave) (subst Holds (sym w.is) h)
    con-back (is_scalar p) d g g' f f' e h =
        let w = one-step (replaceProduct ν exact τ p) is_scalar d e in
        scalar-back p w.value g (subst (λ (c : Con N). goodCon ν held q c ≡ true) (sym w.is) g') f
        (subst (λ (c : Con N). All FitsIn (productsOf c)) (sym w.is) f') w.gave (subst Holds (sym w.is) h)
    con-back (hasField n s u) d g g' f f' e h =
        let w = two_steps (replaceTy ν exact τ s) (λ _. replaceTy ν exact τ u) (hasField n) d e in
        let g'' : goodCon ν held q (hasField n w.first w.second) ≡ true = subst (λ (c : Con N). goodCon ν held q c ≡ true) (sym w.both) g' in
        let f'' : All FitsIn (productsOf (hasField n w.first w.second)) = subst (λ (c : Con N). All FitsIn (productsOf c)) (sym w.both) f' in
        field_back n s u w.first w.second
        (put s w.first (and_right (held n) _ (and_left (held n && goodTy ν held q s) _ g))
        (and_right (held n) _ (and_left (held n && goodTy ν held q w.first) _ g'')) (λ o m. f o (Memᴰ.append_left (inProducts u) m))
        (λ o m. f'' o (Memᴰ.append_left (inProducts w.second) m)) w.gave)
        (put u w.second (and_right (held n && goodTy ν held q s) _ g) (and_right (held n && goodTy ν held q w.first) _ g'')
        (λ o m. f o (Memᴰ.append_right (inProducts s) m)) (λ o m. f'' o (Memᴰ.append_right (inProducts w.first) m)) w.then)
        (subst Holds (sym w.both) h)
