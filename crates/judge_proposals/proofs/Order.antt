-- The open names of bindings, by variable or in their own order: the same names, where no variable is bound twice.
use Rattle.std.proofs.Math.Path.{◌≡◌, refl, sym, ap, ap₂}
use Rattle.std.proofs.Common.{◌∙◌, arith}
use Rattle.std.specs.Prelude.{Bool, not, ◌&&◌, eqb}
use Rattle.std.proofs.Math.Bool.{true, false, ◌||◌, and-eq-true_iff, or_assoc, or_comm, or-false}
use mathlib.Core.List.{List, [], ◌∷◌, ◌++◌, map}
use Rattle.std.proofs.Math.Option.{none, some}
use Prim.Native.Nat.{ℕ, zero, suc, ◌<◌}
use Rattle.std.proofs.Math.Decide.{ℕ_discrete, dec_lt}
use borrow.Author.Tests.{eq-eqb, ne_eqb, lt-ltb, le-ltb, not-true}
use Rattle.std.proofs.Math.Dec.{ltb}
use Rattle.rules.specs.Base.{any, collect}
use Rattle.rules.specs.Calls.{differ, opensBinding}
use Rattle.rules.specs.Names.{Bytes, numbered}
use Rattle.rules.specs.Replacing.{find}
use Rattle.rules.specs.Trees.{Open, Ty, Binding, ◌≔◌}
use Rattle.laws.proofs.Contents.{any_append}
use Rattle.laws.proofs.Lists.{some≢none, true≢false}
use Rattle.queries.specs.declared.name_set.NameSet.{NameSet}
use Rattle.queries.specs.Marks.{Has}
use Rattle.queries.specs.Scans.{choose}
use Rattle.queries.proofs.ScanLaws.{choose-append, choose-none}
use Rattle.queries.specs.declared.Kind.{Kind}
use Rattle.types.proofs.FieldsFound.{named-same}
use Rattle.judge_proposals.specs.Mixed.{variable, opens_of, opensBelow, Table}

module _ (names : List Bytes) where
  find_first : (x : ℕ) (t : Ty ℕ) (bs : List (Binding ℕ)) (z : ℕ) → z ≡ x → find (numbered names) (x ≔ t ∷ bs) z ≡ some t
  unfolding find numbered
  find_first x t bs z e = rw (find, named-same z x (ℕ_discrete z x), eq-eqb z x e)

  find-other : (x : ℕ) (t : Ty ℕ) (bs : List (Binding ℕ)) (z : ℕ) → (z ≡ x → ⊥) → find (numbered names) (x ≔ t ∷ bs) z ≡ find (numbered names) bs z
  unfolding find numbered
  find-other x t bs z e = rw (find, named-same z x (ℕ_discrete z x), ne_eqb z x e)

  pub find-no : (x : ℕ) (bs : List (Binding ℕ)) → any (eqb x) (map variable bs) ≡ false → find (numbered names) bs x ≡ none
  unfolding find any
  find-no x [] h = refl
  find-no x (y ≔ t ∷ bs) h = go (ℕ_discrete x y) (find-no x bs)
    where
      go : Dec (x ≡ y) → (any (eqb x) (map variable bs) ≡ false → find (numbered names) bs x ≡ none) → find (numbered names) (y ≔ t ∷ bs) x ≡ none
      go (yes p) ih = absurd (true≢false (rw (eq-eqb x y p) at h))
      go (no p) ih = find-other y t bs x p ∙ ih (rw (ne_eqb x y p) at h)

  module _ (k : Kind) (w : ℕ) where
    -- is w a name of that kind there?
    unfoldable pub has : List (Open ℕ) → Bool
    has os = any (eqb w) (choose k os)

    has-append : (os ps : List (Open ℕ)) → has (os ++ ps) ≡ (has os || has ps)
    unfolding has
    has-append os ps = ap (any (eqb w)) (choose-append k os ps) ∙ any_append (eqb w) (choose k os) (choose k ps)

    has-nil : has [] ≡ false
    unfolding has any
    has-nil = ap (any (eqb w)) (choose-none k)

    same_test : (x n : ℕ) → (n ≡ x → ⊥) → ltb x n ≡ ltb x (suc n)
    same_test x n p = test (dec_lt x n)
      where
        test : Dec (x < n) → ltb x n ≡ ltb x (suc n)
        test (yes l) = lt-ltb x n l ∙ sym (lt-ltb x (suc n) (omega arith))
        test (no l) = le-ltb x n (omega arith) ∙ sym (le-ltb x (suc n) (omega arith))

    -- below n, a binding more
    below_more : (x : ℕ) (t : Ty ℕ) (bs : List (Binding ℕ)) (n : ℕ) → find (numbered names) bs x ≡ none
        → has (opensBelow names (x ≔ t ∷ bs) n) ≡ ((ltb x n && has (opens_of x (some t))) || has (opensBelow names bs n))
    unfolding opensBelow
    below_more x t bs zero h = has-nil ∙ sym (rw (le-ltb x 0 (omega arith), has-nil))
    below_more x t bs (suc n) h = go (ℕ_discrete n x) (below_more x t bs n h)
      where
        go : Dec (n ≡ x) → has (opensBelow names (x ≔ t ∷ bs) n) ≡ ((ltb x n && has (opens_of x (some t))) || has (opensBelow names bs n))
            → has (opensBelow names (x ≔ t ∷ bs) (suc n)) ≡ ((ltb x (suc n) && has (opens_of x (some t))) || has (opensBelow names bs (suc n)))
        go (yes p) ih =
            let a : find (numbered names) (x ≔ t ∷ bs) n ≡ some t = find_first x t bs n p in
            let b : find (numbered names) bs n ≡ none = ap (find (numbered names) bs) p ∙ h in
            let i : has (opensBelow names (x ≔ t ∷ bs) n) ≡ has (opensBelow names bs n) = ih ∙ rw (le-ltb x n (omega arith)) in
            let l : has (opensBelow names (x ≔ t ∷ bs) (suc n)) ≡ (has (opensBelow names bs n) || has (opens_of n (some t))) =
            has-append (opensBelow names (x ≔ t ∷ bs) n) (opens_of n (find (numbered names) (x ≔ t ∷ bs) n)) ∙ ap₂ ◌||◌ i (ap (λ m. has (opens_of n m)) a) in
            let r : has (opensBelow names bs (suc n)) ≡ has (opensBelow names bs n) =
            has-append (opensBelow names bs n) (opens_of n (find (numbered names) bs n))
            ∙ ap (λ m. has (opensBelow names bs n) || has (opens_of n m)) b ∙ ap (has (opensBelow names bs n) ||◌) has-nil
            ∙ or-false (has (opensBelow names bs n)) in
            l ∙ or_comm (has (opensBelow names bs n)) (has (opens_of n (some t))) ∙ sym (rw (lt-ltb x (suc n) (omega arith), r, p))
        go (no p) ih =
            let a : find (numbered names) (x ≔ t ∷ bs) n ≡ find (numbered names) bs n = find-other x t bs n p in
            let q : ltb x n ≡ ltb x (suc n) = same_test x n p in
            has-append (opensBelow names (x ≔ t ∷ bs) n) (opens_of n (find (numbered names) (x ≔ t ∷ bs) n))
            ∙ ap₂ ◌||◌ (ih ∙ ap (λ b. (b && has (opens_of x (some t))) || has (opensBelow names bs n)) q) (ap (λ m. has (opens_of n m)) a)
            ∙ or_assoc (ltb x (suc n) && has (opens_of x (some t))) (has (opensBelow names bs n)) (has (opens_of n (find (numbered names) bs n)))
            ∙ ap (λ b. (ltb x (suc n) && has (opens_of x (some t))) || b) (sym (has-append (opensBelow names bs n) (opens_of n (find (numbered names) bs n))))

    -- all of them
    pub same_names : (bs : List (Binding ℕ)) → differ (map variable bs) ≡ true → ((x : ℕ) (t : Ty ℕ) → find (numbered names) bs x ≡ some t → x < 256)
        → has (opensBelow names bs 256) ≡ has (collect opensBinding bs)
    unfolding differ collect opensBinding opensBelow find
    same_names [] d h = none_below 256
      where
        none_below : (n : ℕ) → has (opensBelow names [] n) ≡ has []
        none_below zero = refl
        none_below (suc n) = has-append (opensBelow names [] n) [] ∙ ap₂ ◌||◌ (none_below n) refl ∙ ap (λ b. b || has []) has-nil
    same_names (x ≔ t ∷ bs) d h =
        let r = (and-eq-true_iff (not (any (eqb x) (map variable bs))) (differ (map variable bs))).0 d in
        let f : find (numbered names) bs x ≡ none = find-no x bs (not-true (any (eqb x) (map variable bs)) r.0) in
        let l : x < 256 = h x t (find_first x t bs x refl) in
        let a : (ltb x 256 && has (opens_of x (some t))) ≡ has (opensBinding (x ≔ t)) = rw (lt-ltb x 256 l) in
        below_more x t bs 256 f
        ∙ ap₂ ◌||◌ a (same_names bs r.1 (λ z u e. h z u (find-other x t bs z (λ q. some≢none (sym e ∙ ap (find (numbered names) bs) q ∙ f)) ∙ e)))
        ∙ sym (has-append (opensBinding (x ≔ t)) (collect opensBinding bs))

-- so the same marks
pub same-marks : (types places : List ℕ) (names : List Bytes) (bs : List (Binding ℕ)) (k : Kind) (os : List (Open ℕ)) {m : NameSet}
    → Table types places names bs → Has m (choose k os ++ choose k (opensBelow names bs 256)) → Has m (choose k (os ++ collect opensBinding bs))
unfolding has
same-marks types places names bs k os h m = record {
  long = m.long;
  each = λ x l.
      m.each x l
      ∙ any_append (eqb x) (choose k os) (choose k (opensBelow names bs 256))
      ∙ ap (any (eqb x) (choose k os) ||◌) (same_names names k x bs h.once h.below)
      ∙ sym (any_append (eqb x) (choose k os) (choose k (collect opensBinding bs)))
      ∙ sym (ap (any (eqb x)) (choose-append k os (collect opensBinding bs)));
}
