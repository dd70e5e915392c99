-- The theorems for trees, of wide sets and of sets of dimensions: from how a run ends to choices.
use Rattle.std.specs.Prelude.{◌≡◌, Bool, true, false, ℕ}
use Rattle.std.proofs.Math.Path.{refl, fun_ext}
use Rattle.std.proofs.Common.{◌∙◌, ap, sym, subst}
use Rattle.std.proofs.Math.Option.{some}
use mathlib.Core.List.Memᴰ
use mathlib.Core.List.{List, [], ◌∷◌, Memᴰ}
use Rattle.rules.specs.Base.{bounded, is_yes, all}
use Rattle.rules.specs.Exponents.{Exp}
use Rattle.rules.specs.Trees.{var, Atom, Product, dim, Names, Ty, Con, Binding, ◌≔◌, orderAtom, opens}
use Rattle.rules.specs.Rounds.{State}
use Rattle.rules.specs.Solving.{Answer, accepted, remaining, stopped, solve}
use Rattle.rules.specs.WellFormed.{goodCon}
use Rattle.rules.specs.Choices.{
  Fixed,
  Dimension,
  Choice,
  Rational,
  power,
  Same,
  comesTo,
  dimensional,
  MakesAllTrue,
  Choosing,
  completed,
  sideComesTo,
  wide,
  MakesAllWideTrue,
  ChoosingWide,
  completedWide,
}
use Rattle.laws.specs.Order.{Lawful, Tells}
use Rattle.laws.proofs.ByteOrder.{atom-lawful}
use Rattle.laws.specs.Exact.{OfLimits}
use Rattle.laws.specs.Fractions.{Lowest}
use Rattle.laws.specs.Lists.{All, all-is, in_head}
use Rattle.laws.proofs.Lists.{true≢false, is_all}
use Rattle.theorems_completeness.proofs.Chosen.{measured, measured-lowest}
use Rattle.theorems_completeness.proofs.Sides.{wideIn, wide-as, dimensional-as, Sided, a-product, a-variable, sided-is, Wide, widely, RightWide}
use Rattle.theorems_completeness.proofs.Rounds.{Fit, AllWide}
use Rattle.theorems_completeness.proofs.Runs.{Outcome, limits, refuted, settled, solve-outcome}
use Rattle.theorems_completeness.proofs.Completed.{makes-wide, full-rational, full-right, right-sides, right-full, open-decide}
use Rattle.theorems_completeness.proofs.Same.{same-truth}
use Rattle.theorems_completeness.specs.Claims.{DimensionSet, AllChoices, WideSet, AllWideChoices, Five, Stopped, ◌⇔◌}

module _ {N : Type 0} (ν : Names N) (held : N → Bool) (w : Bool) (ord : Lawful ν.order) (apart : Tells (λ n. held n ≡ true) ν.order) (cs : List (Con N))
    (good : all (goodCon ν held 0) cs ≡ true) (sides : all (wideIn w) cs ≡ true) where
  abbrev law : Lawful (orderAtom ν)
  law = atom-lawful ν ord

  abbrev same : Discrete N
  same = ν.same

  abbrev start : State N
  start = record { cons = cs; binds = [] }

  wides : All (Wide ν held w) cs
  wides c m = widely ν held w c (all-is (goodCon ν held 0) cs good c m) (all-is (wideIn w) cs sides c m)

  start-fit : Fit ν held w start
  start-fit = record {
    cons-wide = wides;
    binds-sided = λ y t m. absurd (Memᴰ.not-nil m);
    cons-open = λ c m o i y t n e. Memᴰ.not-nil n;
    binds-open = λ y t m. absurd (Memᴰ.not-nil m);
    once = λ y t u m n. absurd (Memᴰ.not-nil m);
  }

  answers : Outcome ν held w ord apart start (solve ν bounded cs)
  answers = solve-outcome ν held w ord apart cs start-fit

  -- a choice makes all true when all is right for each parameter and base dimension
  start_right : (c : Choice N) → Rational c → MakesAllWideTrue same c cs → (u : Fixed N) → AllWide (measured same c u) start
  start_right c r f u = record { cons_right = λ k m. (makes-wide ν law held w c r k (wides k m)).0 (f k m) u; binds-right = λ y t m. absurd (Memᴰ.not-nil m) }

  right-start : (c : Choice N) → Rational c → ((u : Fixed N) → AllWide (measured same c u) start) → MakesAllWideTrue same c cs
  right-start c r f k m = (makes-wide ν law held w c r k (wides k m)).1 (λ u. (f u).cons_right k m)

  pub only-limits : (n k : ℕ) → solve ν bounded cs ≡ stopped n k → OfLimits n
  only-limits n k e = go answers
    where
      go : Outcome ν held w ord apart start (solve ν bounded cs) → OfLimits n
      go (limits m j h i) = subst OfLimits (cc) h
      go (refuted rs j i f) = absurd (cc)
      go (settled s ns j i h t f) = absurd (cc)

  pub none_left : (rs : List (Con N)) (k : ℕ) → solve ν bounded cs ≡ remaining rs k → ChoosingWide same cs → ⊥
  none_left rs k e d = go answers
    where
      go : Outcome ν held w ord apart start (solve ν bounded cs) → ⊥
      go (limits m j h i) = cc
      go (refuted qs j i f) = f d.choice d.rational (start_right d.choice d.rational d.makes)
      go (settled s ns j i h t f) = cc

  -- ══ The state in which a run that accepts ended ══

  -- what its bindings say, and their shape
  pub record Settled (bs : List (Binding N)) : Type 0 where
    pub choices : AllWideChoices ν cs bs
    pub sided : (x : N) (t : Ty N) → Memᴰ (x ≔ t) bs → Sided ν held w t

  module _ (s : State N) (k : Fit ν held w s) (true_all : (g : Atom N → Exp) → All (RightWide g) s.cons)
      (iff : (g : Atom N → Exp) → ((b : Atom N) → Lowest (g b)) → AllWide g start ⇔ AllWide g s) where
    no_other : (x y : N) (t u : Ty N) → Memᴰ (x ≔ t) s.binds → Memᴰ (y ≔ u) s.binds → Memᴰ (var x) (opens u) → ⊥
    no_other x y t u m n i = k.binds-open y u n (var x) i x t m refl

    end-choices : AllWideChoices ν cs s.binds
    end-choices = record {
      sides = λ x t m. sided-is ν held w t (k.binds-sided x t m);
      once = k.once;
      completes = λ c r. (full-rational ν law held w s.binds k.binds-sided k.once no_other c r, makes c r);
      open-decide = open-decide ν law held w s.binds k.binds-sided k.once no_other;
      bound-so = bound-so;
      comes-so = λ c r f. right-full ν law held w s.binds k.binds-sided k.once no_other c r (bound-so c r f);
    }
      where
        makes : (c : Choice N) → Rational c → MakesAllWideTrue same (completedWide same s.binds c) cs
        makes c r =
            let d = completedWide same s.binds c in
            let rd = full-rational ν law held w s.binds k.binds-sided k.once no_other c r in
            right-start d rd (λ u. (iff (measured same d u) (measured-lowest same d rd u)).1 (record {
              cons_right = true_all (measured same d u);
              binds-right = full-right ν law held w s.binds k.binds-sided k.once no_other c r u;
            }))

        bound-so : (c : Choice N) → Rational c → MakesAllWideTrue same c cs → (x : N) (t : Ty N) → Memᴰ (x ≔ t) s.binds
            → (d : Dimension N) → sideComesTo c t ≡ some d → Same same (c x) d
        bound-so c r f =
            right-sides ν law held w s.binds k.binds-sided k.once no_other c r
            (λ u. ((iff (measured same c u) (measured-lowest same c r u)).0 (start_right c r f u)).binds-right)

  pub ended : (bs : List (Binding N)) (ns : List N) (k : ℕ) → solve ν bounded cs ≡ accepted bs ns k → Settled bs
  ended bs ns k e = go answers
    where
      go : Outcome ν held w ord apart start (solve ν bounded cs) → Settled bs
      go (limits m j h i) = absurd (cc)
      go (refuted rs j i f) = absurd (cc)
      go (settled s ms j i h t f) = let z : s.binds ≡ bs = cc in subst Settled z (record { choices = end-choices s h t f; sided = h.binds-sided })

  pub all-choices : (bs : List (Binding N)) (ns : List N) (k : ℕ) → solve ν bounded cs ≡ accepted bs ns k → AllWideChoices ν cs bs
  all-choices bs ns k e = (ended bs ns k e).choices

  -- a choice, where the solver accepts: nothing for the open variables
  pub some-choice : (bs : List (Binding N)) → AllWideChoices ν cs bs → ChoosingWide same cs
  unfolding all
  some-choice bs a = let b = a.completes (λ x. []) (λ x. refl) in record { choice = completedWide same bs (λ x. []); rational = b.0; makes = b.1 }

module _ {N : Type 0} (ν : Names N) (cs : List (Con N)) (C : Type 0) (All : List (Binding N) → Type 0)
    (none : (rs : List (Con N)) (k : ℕ) → solve ν bounded cs ≡ remaining rs k → C → ⊥)
    (every : (bs : List (Binding N)) (ns : List N) (k : ℕ) → solve ν bounded cs ≡ accepted bs ns k → All bs)
    (some : (bs : List (Binding N)) → All bs → C) where
  -- 5 exactly when there is no choice
  pub exactly : (Stopped (solve ν bounded cs) → ⊥) → Five (solve ν bounded cs) ⇔ (C → ⊥)
  exactly n = go (solve ν bounded cs) refl n
    where
      go : (a : Answer N) → solve ν bounded cs ≡ a → (Stopped a → ⊥) → Five a ⇔ (C → ⊥)
      go (accepted bs ns k) e m = (λ f. absurd f, λ f. absurd (f (some bs (every bs ns k e))))
      go (remaining rs k) e m = (λ f. none rs k e, λ f. tt)
      go (stopped j k) e m = absurd (m tt)

-- ══ Wide sets ══

module _ {N : Type 0} (ν : Names N) (held : N → Bool) (cs : List (Con N)) (given : WideSet ν held cs) where
  pub wide-sides : all (wideIn true) cs ≡ true
  wide-sides = is_all (wideIn true) cs (λ c m. wide-as c ∙ all-is wide cs given.sides c m)

-- ══ Sets of dimensions ══

module _ {N : Type 0} (same : Discrete N) (c : Choice N) where
  -- where all that is bound is a dimension, both complete alike
  completed-same : (bs : List (Binding N)) → ((x : N) (t : Ty N) → Memᴰ (x ≔ t) bs → (p : Product N) × (t ≡ dim p)) → (x : N)
      → completedWide same bs c x ≡ completed same bs c x
  unfolding completed completedWide sideComesTo
  completed-same [] d x = refl
  completed-same (y ≔ u ∷ bs) d x = go (is_yes (same x y)) refl (completed-same bs (λ z t m. d z t (Memᴰ.tail m)) x)
    where
      go : (b : Bool) → is_yes (same x y) ≡ b → completedWide same bs c x ≡ completed same bs c x
          → completedWide same (y ≔ u ∷ bs) c x ≡ completed same (y ≔ u ∷ bs) c x
      go true i r = let p = d y u in_head in rw (i, completed, completedWide, p.1) refl
      go false i r = rw (i, completed, completedWide) r

module _ {N : Type 0} (ν : Names N) (held : N → Bool) (ord : Lawful ν.order) (apart : Tells (λ n. held n ≡ true) ν.order) (cs : List (Con N))
    (given : DimensionSet ν held cs) where
  dims : (c : Con N) → Memᴰ c cs → dimensional c ≡ true
  dims = all-is dimensional cs given.dimensions

  sides : all (wideIn false) cs ≡ true
  sides = is_all (wideIn false) cs (λ c m. dimensional-as c ∙ dims c m)

  truth : (c : Choice N) → MakesAllTrue ν.same c cs ⇔ MakesAllWideTrue ν.same c cs
  truth c = (λ f k m. (same-truth ν.same c k (dims k m)).0 (f k m), λ f k m. (same-truth ν.same c k (dims k m)).1 (f k m))

  pub dims-only-limits : (n k : ℕ) → solve ν bounded cs ≡ stopped n k → OfLimits n
  dims-only-limits = only-limits ν held false ord apart cs given.well-formed sides

  pub dims-none-left : (rs : List (Con N)) (k : ℕ) → solve ν bounded cs ≡ remaining rs k → Choosing ν.same cs → ⊥
  dims-none-left rs k e d = none_left ν held false ord apart cs given.well-formed sides rs k e
      (record { choice = d.choice; rational = d.rational; makes = (truth d.choice).0 d.makes })

  a-dimension : (t : Ty N) → Sided ν held false t → (p : Product N) × (t ≡ dim p)
  a-dimension t (a-product p h e) = (p, e)
  a-dimension t (a-variable y v h e) = absurd (true≢false (sym v))

  pub dims-all-choices : (bs : List (Binding N)) (ns : List N) (k : ℕ) → solve ν bounded cs ≡ accepted bs ns k → AllChoices ν cs bs
  unfolding sideComesTo
  dims-all-choices bs ns k e = go (ended ν held false ord apart cs given.well-formed sides bs ns k e)
    where
      go : Settled ν held false ord apart cs given.well-formed sides bs → AllChoices ν cs bs
      go s = record {
        dimensions = bound-dims;
        once = s.choices.once;
        completes = λ c r.
            let b = s.choices.completes c r in (
              subst (λ (d : Choice N). Rational d) (full c) b.0,
              (truth (completed ν.same bs c)).1 (subst (λ (d : Choice N). MakesAllWideTrue ν.same d cs) (full c) b.1),
            );
        open-decide = λ c d rc rd f x u. ap (power ν.same u) (sym (at c x)) ∙ s.choices.open-decide c d rc rd f x u ∙ ap (power ν.same u) (at d x);
        bound-so = λ c r f x p m. s.choices.bound-so c r ((truth c).0 f) x (dim p) m (comesTo c p) refl;
        comes-so = λ c r f x u. s.choices.comes-so c r ((truth c).0 f) x u ∙ ap (power ν.same u) (at c x);
      }
        where
          bound-dims : (x : N) (t : Ty N) → Memᴰ (x ≔ t) bs → (p : Product N) × (t ≡ dim p)
          bound-dims x t m = a-dimension t (s.sided x t m)

          at : (c : Choice N) (x : N) → completedWide ν.same bs c x ≡ completed ν.same bs c x
          at c = completed-same ν.same c bs bound-dims

          full : (c : Choice N) → completedWide ν.same bs c ≡ completed ν.same bs c
          full c = fun_ext (at c)

  -- a choice, where the solver accepts: nothing for the open variables
  pub dims-some-choice : (bs : List (Binding N)) → AllChoices ν cs bs → Choosing ν.same cs
  unfolding all
  dims-some-choice bs a = let b = a.completes (λ x. []) (λ x. refl) in record { choice = completed ν.same bs (λ x. []); rational = b.0; makes = b.1 }
