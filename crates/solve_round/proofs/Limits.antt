-- The limits of a state, and the soundness of lists that are put together.
use Rattle.std.specs.Prelude.{◌≡◌, refl, Bool, true, false, List, [], ◌∷◌, ◌++◌, ℕ, ◌+◌, ◌≤◌, ◌<◌, leb, max, Ok, Err, Some}
use Rattle.std.proofs.Common.{arith, ap, sym, ◌∙◌, le-leb, leb-true}
use Rattle.std.proofs.Math.Decide.{dec_le}
use Rattle.std.proofs.Math.Bool.{and-eq-true_iff}
use Rattle.std.proofs.Math.Option.{some}
use Rattle.rules.specs.Base.{got, refused, all, sum_of, max_of}
use Rattle.rules.specs.Rounds.{State, limited, sizeState, depthState}
use Rattle.rules.specs.Trees.{Ty, opened, basic, dim, fn, struct, list, Con, Binding, depth, depthCon, depthBinding, sizeCon, sizeBinding}
use Rattle.rules.specs.declared.Refusal.TheVariants.{TooLarge}
use Rattle.laws.proofs.Lists.{true≢false}
use Rattle.laws.proofs.Nesting.{max_both}
use Rattle.laws.proofs.Sized.{sized-kept, sized-long, sized-deep}
use Rattle.records.specs.Good.{goodBinding, goodCon}
use Rattle.types.specs.Binds.{Binds, IsBinds, one-binds}
use Rattle.types.specs.Sets.{Cons, IsCons, one-set}
use Rattle.solve_round.specs.declared.Ends.{Ends}
use Rattle.solve_round.specs.States.{SoundSet}
use Rattle.solve_round.specs.Parts.{keeps, leaf, Limited, Made}

module _ (st : State ℕ) where
  pub long : 2048 < sizeState st → keeps st ≡ refused 8
  unfolding limited
  long h = rw (sized-long (sizeState st) (depthState st) st h)

  pub deep : 64 < depthState st → keeps st ≡ refused 8
  unfolding limited
  deep h = rw (sized-deep (sizeState st) (depthState st) st h)

  pub kept : sizeState st ≤ 2048 → depthState st ≤ 64 → keeps st ≡ got (some st)
  unfolding limited
  kept h k = rw (sized-kept (sizeState st) (depthState st) st h k)

  pub size-is : sizeState st ≡ sum_of sizeCon st.cons + sum_of sizeBinding st.binds
  unfolding sizeState
  size-is = refl

  pub depth-is : depthState st ≡ max (max_of depthCon st.cons) (max_of depthBinding st.binds)
  unfolding depthState
  depth-is = refl

pub sum_both : {A : Type 0} (f : A → ℕ) (xs ys : List A) → sum_of f (xs ++ ys) ≡ sum_of f xs + sum_of f ys
sum_both f [] ys = omega arith
sum_both f (x ∷ xs) ys = omega (arith, sum_both f xs ys)

pub all_both : {A : Type 0} (p : A → Bool) (xs ys : List A) → all p xs ≡ true → all p ys ≡ true → all p (xs ++ ys) ≡ true
unfolding all
all_both p [] ys g h = h
all_both p (x ∷ xs) ys g h =
    let r = (and-eq-true_iff (p x) (all p xs)).0 g in
    (and-eq-true_iff (p x) (all p (xs ++ ys))).1 (r.0, all_both p xs ys r.1 h)

all_parts : {A : Type 0} (p : A → Bool) (xs ys : List A) → all p (xs ++ ys) ≡ true → (all p xs ≡ true) × (all p ys ≡ true)
unfolding all
all_parts p [] ys h = (refl, h)
all_parts p (x ∷ xs) ys h =
    let r = (and-eq-true_iff (p x) (all p (xs ++ ys))).0 h in
    let q = all_parts p xs ys r.1 in
    ((and-eq-true_iff (p x) (all p xs)).1 (r.0, q.0), q.1)

module _ (pool table : List ℕ) where
  pub sound-parts : (cs ds : List (Con ℕ)) → SoundSet pool table (cs ++ ds) → SoundSet pool table cs × SoundSet pool table ds
  sound-parts cs ds s =
      let p = all_parts (goodCon pool table 0) cs ds s.good in
      let m = max_both depthCon cs ds in
      (record { good = p.0; flat = omega (arith, s.flat, m) }, record { good = p.1; flat = omega (arith, s.flat, m) })

  pub sound-none : SoundSet pool table []
  unfolding all
  sound-none = record { good = refl; flat = omega arith }

  pub sound-both : (cs ds : List (Con ℕ)) → SoundSet pool table cs → SoundSet pool table ds → SoundSet pool table (cs ++ ds)
  sound-both cs ds p q = record { good = all_both _ cs ds p.good q.good; flat = omega (arith, p.flat, q.flat, max_both depthCon cs ds) }

pub leaf-flat : (t : Ty ℕ) → leaf t ≡ true → depth t ≤ 1
unfolding leaf depth
leaf-flat (opened o) e = omega arith
leaf-flat (basic b) e = omega arith
leaf-flat (dim p) e = omega arith
leaf-flat (fn ps r) e = absurd (true≢false (sym e))
leaf-flat (struct n as' fs) e = absurd (true≢false (sym e))
leaf-flat (list t) e = absurd (true≢false (sym e))

-- ══ A state that was made ══

over : (d : ℕ) {b : Bool} → b ≡ leb d 64 → b ≡ false → 64 < d
over d e i = go (dec_le d 64)
  where
    go : Dec (d ≤ 64) → 64 < d
    go (yes k) = absurd (true≢false (sym (le-leb d 64 k) ∙ sym e ∙ i))
    go (no k) = omega arith

module _ (pool table : List ℕ) (w : List ℕ) (ends : Ends) (st : State ℕ) (m : Made pool table w ends st) where
  pub limit-long : 2048 < ends.bindings → Limited ends st (Err TooLarge) (keeps st)
  limit-long h = (long st (omega (arith, h, m.many)), refl)

  module _ (few : ends.bindings ≤ 2048) where
    pub limit-kept : depthState st ≤ 64 → Limited ends st (Ok (Some ends)) (keeps st)
    limit-kept h = (kept st (omega (arith, few, m.many)) h, refl)

    -- whichever constraints and bindings stand there, they are the state's
    cons-are : (cs : List (Con ℕ)) → IsCons w 0 ends.constraints cs → st.cons ≡ cs
    cons-are cs h = ap (λ (x : Cons w 0 ends.constraints). x.0) (one-set w 0 ends.constraints (st.cons, m.cons few) (cs, h))

    binds-are : (bs : List (Binding ℕ)) → IsBinds w ends.constraints ends.bindings bs → st.binds ≡ bs
    binds-are bs h = ap (λ (x : Binds w ends.constraints ends.bindings). x.0)
        (one-binds w ends.constraints ends.bindings (st.binds, m.binds few) (bs, h))

    pub cons-good : (cs : List (Con ℕ)) → IsCons w 0 ends.constraints cs → all (goodCon pool table 0) cs ≡ true
    cons-good cs h = sym (ap (all (goodCon pool table 0)) (cons-are cs h)) ∙ m.good_cons

    pub binds-good : (bs : List (Binding ℕ)) → IsBinds w ends.constraints ends.bindings bs → all (goodBinding pool table 0) bs ≡ true
    binds-good bs h = sym (ap (all (goodBinding pool table 0)) (binds-are bs h)) ∙ m.good_binds

    pub limit-cons : {cs : List (Con ℕ)} {b : Bool} → b ≡ leb (max_of depthCon cs) 64 → b ≡ false → IsCons w 0 ends.constraints cs
        → Limited ends st (Err TooLarge) (keeps st)
    limit-cons {cs} e i h = (deep st (omega (arith, over (max_of depthCon cs) e i, ap (max_of depthCon) (cons-are cs h), depth-is st)), refl)

    pub limit-binds : {bs : List (Binding ℕ)} {b : Bool} → b ≡ leb (max_of depthBinding bs) 64 → b ≡ false → IsBinds w ends.constraints ends.bindings bs
        → Limited ends st (Err TooLarge) (keeps st)
    limit-binds {bs} e i h = (deep st (omega (arith, over (max_of depthBinding bs) e i, ap (max_of depthBinding) (binds-are bs h), depth-is st)), refl)

    pub limit-flat : {cs : List (Con ℕ)} {bs : List (Binding ℕ)} {b c : Bool} → b ≡ leb (max_of depthCon cs) 64 → b ≡ true
        → c ≡ leb (max_of depthBinding bs) 64 → c ≡ true → IsCons w 0 ends.constraints cs → IsBinds w ends.constraints ends.bindings bs
        → Limited ends st (Ok (Some ends)) (keeps st)
    limit-flat {cs} {bs} e i f j h k =
        let p = leb-true (max_of depthCon cs) 64 (sym e ∙ i) in
        let q = leb-true (max_of depthBinding bs) 64 (sym f ∙ j) in
        limit-kept (omega (arith, p, q, ap (max_of depthCon) (cons-are cs h), ap (max_of depthBinding) (binds-are bs k), depth-is st))
