-- What adding answers Violated isn't true under any bindings and bounds, except for closed types that differ in structs' fields.
use Rattle.std.specs.Prelude.{◌≡◌, Bool, ◌&&◌, ◌||◌, ℕ, ◌*◌, leb, eqb, take}
use Rattle.std.proofs.Math.Path.{refl, sym, ap, subst}
use Rattle.std.proofs.Common.{ap₂, ◌∙◌, eq-eqb}
use Rattle.std.proofs.Math.Bool.{true, false}
use Rattle.std.proofs.Math.Option.{Option, none, some}
use mathlib.Core.List.{List, [], ◌∷◌, ◌++◌, cons≢nil}
use Rattle.rules.specs.Base.{Got, got, ◌>>=◌, ◌>>◌, need, exact, is_yes, isNil, collect, sum_of}
use Rattle.rules.specs.Trees.{
  Open,
  var,
  quant,
  par,
  Product,
  Names,
  Ty,
  opened,
  basic,
  dim,
  fn,
  struct,
  list,
  Tys,
  nil,
  cons,
  Fields,
  noFields,
  field,
  Con,
  equal,
  isDim,
  is_scalar,
  hasField,
  Binding,
  ty-dec,
  count,
  sizeCon,
  opens,
  opensTys,
  opensFields,
  openOfFactor,
}
use Rattle.rules.specs.Products.{single}
use Rattle.rules.specs.Views.{fn_of, kindBasic, kind}
use Rattle.rules.specs.Contents.{closed, variablesIn}
use Rattle.rules.specs.Plain.{plainDim, plain, plainTys, plainFields}
use Rattle.rules.specs.Replacing.{replaceProduct, replaceDim, replaceTy, replaceTys, replaceFields, bindings}
use Rattle.rules.specs.Meaning.{holds, means, TrueUnder}
use Rattle.rules.specs.Names.{table_of, numbersOf, lentTable}
use Rattle.rules.specs.Calls.{lentResult, shortLists, only, tableKept, setGiven, addedTo, addCall}
use Rattle.rules.specs.Adding.{
  Added,
  satisfied,
  violated,
  unknown,
  Added-discrete,
  satisfiedIf,
  violatedIf,
  countsDiffer,
  solid,
  kindsDiffer,
  addEqual,
  addDim,
  addTest,
  stored,
  add,
}
use Rattle.std.proofs.lemmas.Bool.{not-true}
use Rattle.laws.specs.Lists.{and_left, and_right, Every}
use Rattle.laws.proofs.Lists.{true≢false, clash, allow-same, bound-step, no-is, is-no, every-left, every-right, one-step, two_steps}
use Rattle.laws.proofs.RuleCases.{fn-of, single-is, is-nil}
use Rattle.laws.proofs.Untouched.{factors-same, closed_same}
use Rattle.laws.proofs.Counts.{plain-count, replaced-count}
use Rattle.theorems_soundness.proofs.Alike.{means-same, same-means}
use Rattle.theorems_soundness.proofs.Truth.{Equals, equals, equals-holds, dimensional, scalar}
use Rattle.theorems_soundness.specs.Excepted.{OtherFields, ViolatedLine}

-- ══ The three answers ══

other : {A : Type 0} (v : Added) → is_yes (Added-discrete v violated) ≡ false → v ≡ violated → A
other v d e = absurd (no-is (Added-discrete v violated) d e)

unsatisfied : (b : Bool) → satisfiedIf b ≡ violated → b ≡ false
unsatisfied true e = other satisfied refl e
unsatisfied false e = refl

was-violated : (b : Bool) → violatedIf b ≡ violated → b ≡ true
was-violated true e = refl
was-violated false e = other unknown refl e

-- ══ From outside ══

module _ {N : Type 0} where
  -- the kind of a type that was read, where a variable may have been a dimension
  abbrev face : Ty N → ℕ
  face (opened o) = 3
  face (basic b) = kindBasic b
  face (dim p) = 3
  face (fn ps r) = 7
  face (struct n as' fs) = 8
  face (list t) = 10

  abbrev parameters : Ty N → ℕ
  parameters (opened o) = 0
  parameters (basic b) = 0
  parameters (dim p) = 0
  parameters (fn ps r) = count ps
  parameters (struct n as' fs) = 0
  parameters (list t) = 0

  dim-face : (p : Product N) → face (plain (dim p) false) ≡ 3
  unfolding plain plainDim
  dim-face p = go (single p)
    where
      go : (s : Option (Open N)) → face (plainDim s p) ≡ 3
      go none = refl
      go (some o) = refl

-- a closed type of another kind than 3 is no dimension
no-dimension : {N : Type 0} (ν : Names N) (bounds : List N) (t : Ty N) → closed t ≡ true → eqb (kind t) 3 ≡ false → holds ν bounds (isDim t) ≡ true → ⊥
unfolding closed opens holds
no-dimension ν bounds (opened o) i k h = true≢false (sym i)
no-dimension ν bounds (basic b) i k h = true≢false (sym h)
no-dimension ν bounds (dim p) i k h = true≢false k
no-dimension ν bounds (fn ps r) i k h = true≢false (sym h)
no-dimension ν bounds (struct n as' fs) i k h = true≢false (sym h)
no-dimension ν bounds (list t) i k h = true≢false (sym h)

-- without a variable nothing is bound
unbound : {N : Type 0} (ν : Names N) (bs : List (Binding N)) (os : List (Open N)) → variablesIn os ≡ [] → Every (λ o. bindings ν bs o ≡ none) os
unfolding variablesIn collect bindings
unbound ν bs [] e = tt
unbound ν bs (var x ∷ os) e = absurd (cons≢nil e)
unbound ν bs (quant i ∷ os) e = (refl, unbound ν bs os e)
unbound ν bs (par x ∷ os) e = (refl, unbound ν bs os e)

module _ {N : Type 0} (ν : Names N) (bs : List (Binding N)) where
  abbrev put : Ty N → Got (Ty N)
  put = replaceTy ν exact (bindings ν bs)

  dim-kept : (p : Product N) (s : Option (Open N)) (u : Ty N) → single p ≡ s → solid (dim p) ≡ true → replaceDim ν exact (bindings ν bs) s p ≡ got u
      → face (plain u false) ≡ 3
  unfolding replaceDim solid bindings
  dim-kept p none u i h e = let w = one-step (replaceProduct ν exact (bindings ν bs) p) dim u e
      in subst (λ (t : Ty N). face (plain t false) ≡ 3) w.is (dim-face w.value)
  dim-kept p (some (var x)) u i h e = absurd (true≢false (sym (rw i at h)))
  dim-kept p (some (quant j)) u i h e = let z : dim p ≡ u = cc in subst (λ (t : Ty N). face (plain t false) ≡ 3) z (dim-face p)
  dim-kept p (some (par x)) u i h e = let z : dim p ≡ u = cc in subst (λ (t : Ty N). face (plain t false) ≡ 3) z (dim-face p)

  -- what is neither open nor one variable to the power 1 keeps its kind
  kind-kept : (t u : Ty N) → solid t ≡ true → put t ≡ got u → face (plain u false) ≡ kind t
  unfolding replaceTy plain solid
  kind-kept (opened o) u h e = absurd (true≢false (sym h))
  kind-kept (basic b) u h e = let z : basic b ≡ u = cc in subst (λ (v : Ty N). face (plain v false) ≡ kindBasic b) z refl
  kind-kept (dim p) u h e = dim-kept p (single p) u refl h e
  kind-kept (fn ps r) u h e = let w = two_steps (replaceTys ν exact (bindings ν bs) ps) (λ _. put r) fn u e
      in subst (λ (v : Ty N). face (plain v false) ≡ 7) w.both refl
  kind-kept (struct n as' fs) u h e = let w = two_steps (replaceTys ν exact (bindings ν bs) as') (λ _. replaceFields ν exact (bindings ν bs) fs)
      (struct n) u e in subst (λ (v : Ty N). face (plain v false) ≡ 8) w.both refl
  kind-kept (list t) u h e = let w = one-step (put t) list u e in subst (λ (v : Ty N). face (plain v false) ≡ 10) w.is refl

  -- a function keeps its count of parameters
  count_kept : (ps : Tys N) (r u : Ty N) → put (fn ps r) ≡ got u → parameters (plain u false) ≡ count ps
  unfolding replaceTy plain
  count_kept ps r u e =
      let w = two_steps (replaceTys ν exact (bindings ν bs) ps) (λ _. put r) fn u e in
      subst (λ (v : Ty N). parameters (plain v false) ≡ count ps) w.both (plain-count w.first false ∙ replaced-count ν exact (bindings ν bs) ps w.first w.gave)

  -- ══ Equalities ══

  module _ (bounds : List N) where
    -- functions with different counts, or types of different kinds, don't mean the same
    counts-agree : (l r : Ty N) → Equals ν bs bounds l r → countsDiffer (fn_of l) (fn_of r) ≡ true → ⊥
    unfolding countsDiffer
    counts-agree l r e h = go (fn_of l) refl (fn_of r) refl h
      where
        go : (f : Option (Tys N × Ty N)) → fn_of l ≡ f → (g : Option (Tys N × Ty N)) → fn_of r ≡ g → countsDiffer f g ≡ true → ⊥
        go none i g j k = true≢false (sym k)
        go (some f) i none j k = true≢false (sym k)
        go (some f) i (some g) j k =
            let a = count_kept f.0 f.1 e.left (sym (ap put (fn-of l f i)) ∙ e.putLeft) in
            let b = count_kept g.0 g.1 e.right (sym (ap put (fn-of r g j)) ∙ e.putRight) in
            true≢false (sym (eq-eqb (count f.0) (count g.0) (sym a ∙ ap parameters e.same ∙ b)) ∙ not-true _ k)

    kinds-agree : (l r : Ty N) → Equals ν bs bounds l r → kindsDiffer l r ≡ true → ⊥
    unfolding kindsDiffer
    kinds-agree l r e h =
        let both = and_left (solid l && solid r) _ h in
        let a = kind-kept l e.left (and_left (solid l) _ both) e.putLeft in
        let b = kind-kept r e.right (and_right (solid l) _ both) e.putRight in
        true≢false (sym (eq-eqb (kind l) (kind r) (sym a ∙ ap face e.same ∙ b)) ∙ not-true _ (and_right (solid l && solid r) _ h))

    differ-untrue : (l r : Ty N) → Equals ν bs bounds l r → (b : Bool) → countsDiffer (fn_of l) (fn_of r) ≡ b → b || kindsDiffer l r ≡ true → ⊥
    differ-untrue l r e true i h = counts-agree l r e i
    differ-untrue l r e false i h = kinds-agree l r e h

    -- closed types are never changed
    closed-means : (l r : Ty N) → closed l ≡ true → closed r ≡ true → Equals ν bs bounds l r → means ν l r ≡ true
    unfolding closed
    closed-means l r a b e =
        let i : got l ≡ got e.left = sym (closed_same ν exact (bindings ν bs) l (is-nil (opens l) a)) ∙ e.putLeft in
        let j : got r ≡ got e.right = sym (closed_same ν exact (bindings ν bs) r (is-nil (opens r) b)) ∙ e.putRight in
        let i' : l ≡ e.left = cc in
        let j' : r ≡ e.right = cc in
        means-same ν l r (ap (λ (t : Ty N). plain t false) i' ∙ e.same ∙ ap (λ (t : Ty N). plain t false) (sym j'))

    equality : (l r : Ty N) (b : Bool) → closed l && closed r ≡ b → addEqual ν b l r ≡ violated → TrueUnder ν bs bounds (equal l r) → OtherFields ν (equal l r)
    unfolding addEqual
    equality l r true i v t = record {
      left = l;
      right = r;
      equality = refl;
      left-closed = and_left (closed l) _ i;
      right-closed = and_right (closed l) _ i;
      same-meaning = closed-means l r (and_left (closed l) _ i) (and_right (closed l) _ i) (equals ν bs bounds l r t);
      other-records = no-is (ty-dec ν l r) (unsatisfied (is_yes (ty-dec ν l r)) v);
    }
    equality l r false i v t = absurd (differ-untrue l r (equals ν bs bounds l r t) _ refl (was-violated _ v))

    -- ══ Is-dimension, and equal-scalar ══

    dimension : (t : Ty N) (b : Bool) → closed t ≡ b → addDim ν b t ≡ violated → TrueUnder ν bs bounds (isDim t) → ⊥
    unfolding addDim closed opens
    dimension t false i v h = other unknown refl v
    dimension t true i v h =
        let d = dimensional ν bs bounds t h in
        let j : got t ≡ got d.type = sym (closed_same ν exact (bindings ν bs) t (is-nil (opens t) i)) ∙ d.put_in in
        let j' : t ≡ d.type = cc in
        no-dimension ν bounds t i (unsatisfied (eqb (kind t) 3) v) (subst (λ (u : Ty N). holds ν bounds (isDim u) ≡ true) (sym j') d.holding)

    factors : (p : Product N) → isNil p ≡ false → isNil (variablesIn (collect openOfFactor p)) ≡ true → TrueUnder ν bs bounds (is_scalar p) → ⊥
    unfolding replaceProduct
    factors p n i h =
        let u = unbound ν bs (collect openOfFactor p) (is-nil _ i) in
        let e : got p ≡ got [] = sym (factors-same ν exact (bindings ν bs) p p u) ∙ scalar ν bs bounds p h in
        let z : p ≡ [] = cc in
        true≢false (sym (ap isNil z) ∙ n)

    -- ══ A constraint ══

    pub untrue : (c : Con N) → addTest ν c ≡ violated → TrueUnder ν bs bounds c → OtherFields ν c
    unfolding addTest
    untrue (equal l r) v t = equality l r _ refl v t
    untrue (isDim t) v h = absurd (dimension t _ refl v h)
    untrue (is_scalar []) v h = other satisfied refl v
    untrue (is_scalar (f ∷ p)) v h = absurd (factors (f ∷ p) refl (was-violated _ v) h)
    untrue (hasField n s t) v h = other unknown refl v

    -- the exception is true, whatever the bindings
    pub other-true : (c : Con N) → OtherFields ν c → TrueUnder ν bs bounds c
    unfolding closed
    other-true c o = rw o.equality (equals-holds ν bs bounds o.left o.right (record {
      left = o.left;
      right = o.right;
      putLeft = closed_same ν exact (bindings ν bs) o.left (is-nil (opens o.left) o.left-closed);
      putRight = closed_same ν exact (bindings ν bs) o.right (is-nil (opens o.right) o.right-closed);
      same = same-means ν o.left o.right o.same-meaning;
    }))

-- and it is answered Violated
pub other-violated : {N : Type 0} (ν : Names N) (c : Con N) → OtherFields ν c → addTest ν c ≡ violated
unfolding addTest addEqual
other-violated ν c o = rw (o.equality, o.left-closed, o.right-closed, is-no (ty-dec ν o.left o.right) o.other-records) refl

-- ══ The exception ══

-- without an open name, reading leaves a type as it is
module _ {N : Type 0} where
  abbrev None : List (Open N) → Type 0
  None os = Every (λ _. ⊥) os

  closed-product : (p : Product N) → None (opens (dim p)) → plain (dim p) true ≡ dim p
  unfolding plain plainDim opens collect
  closed-product p h = go (single p) refl
    where
      go : (s : Option (Open N)) → single p ≡ s → plainDim s p ≡ dim p
      go none i = refl
      go (some o) i = absurd (subst (λ (q : Product N). None (collect openOfFactor q)) (single-is p o i) h).0

  mutual
    unfolding plain opens

    closed-plain : (t : Ty N) → None (opens t) → plain t true ≡ t
    closed-plain (opened o) h = absurd h.0
    closed-plain (basic b) h = refl
    closed-plain (dim p) h = closed-product p h
    closed-plain (fn ps r) h = ap₂ fn (closed-tys ps (every-left (λ _. ⊥) (opensTys ps) (opens r) h))
        (closed-plain r (every-right (λ _. ⊥) (opensTys ps) (opens r) h))
    closed-plain (struct n as' fs) h = ap₂ (struct n) (closed-tys as' (every-left (λ _. ⊥) (opensTys as') (opensFields fs) h))
        (closed-fields fs (every-right (λ _. ⊥) (opensTys as') (opensFields fs) h))
    closed-plain (list t) h = ap list (closed-plain t h)

    closed-tys : (ts : Tys N) → None (opensTys ts) → plainTys ts true ≡ ts
    closed-tys nil h = refl
    closed-tys (cons t ts) h = ap₂ cons (closed-plain t (every-left (λ _. ⊥) (opens t) (opensTys ts) h))
        (closed-tys ts (every-right (λ _. ⊥) (opens t) (opensTys ts) h))

    closed-fields : (fs : Fields N) → None (opensFields fs) → plainFields fs true ≡ fs
    closed-fields noFields h = refl
    closed-fields (field n t fs) h = ap₂ (field n) (closed-plain t (every-left (λ _. ⊥) (opens t) (opensFields fs) h))
        (closed-fields fs (every-right (λ _. ⊥) (opens t) (opensFields fs) h))

  pub unread : (t : Ty N) → closed t ≡ true → plain t true ≡ t
  unfolding closed
  unread t e = closed-plain t (rw (is-nil (opens t) e) tt)

-- ══ The call ══

first : {A : Type 0} (v w : Added) (a b : A) → ◌≡◌ {A = Got (Added × A)} (got (v, a)) (got (w, b)) → v ≡ w
first {A = A} v w a b e = let z : ◌≡◌ {A = Added × A} (v, a) (w, b) = cc in ap (λ (p : Added × A). p.0) z

-- what adding answers is what the test says
module _ {N : Type 0} (ν : Names N) (cs : List (Con N)) (c : Con N) where
  abbrev room : Bool
  room = leb (sum_of sizeCon (cs ++ c ∷ [])) 2048

  stored_answer : (v : Added) (r : Added × List (Con N)) → stored ν v cs c ≡ got r → r.0 ≡ v
  unfolding stored
  stored_answer satisfied r e = first r.0 satisfied r.1 cs (sym e)
  stored_answer violated r e = ap (λ (s : Added × List (Con N)). s.0) (sym (allow-same room 8 (violated, cs ++ c ∷ []) r e))
  stored_answer unknown r e = ap (λ (s : Added × List (Con N)). s.0) (sym (allow-same room 8 (unknown, cs ++ c ∷ []) r e))

  tested : (r : Added × List (Con N)) (m n : ℕ) → add ν cs c ≡ got r → ◌≡◌ {A = Got (Added × ℕ)} (got (r.0, m)) (got (violated, n)) → addTest ν c ≡ violated
  unfolding add
  tested r m n e v = sym (stored_answer (addTest ν c) r e) ∙ first r.0 violated m n v

only_one : {A : Type 0} (as' : List A) (a : A) → only as' ≡ got a → as' ≡ a ∷ []
unfolding only
only_one [] a e = clash e
only_one (b ∷ []) a e = cc
only_one (b ∷ d ∷ as') a e = clash e

module _ (pool table con : List ℕ) where
  pub add-call : (buffer : List ℕ) (at n : ℕ) → (addCall pool table buffer at con).answer ≡ got (violated, n) → ViolatedLine pool table con
  unfolding addCall addedTo
  add-call buffer at n e =
      let a = bound-step (lentTable pool table >> lentResult buffer) _ (violated, n) e in
      let b = bound-step (need (leb at 2048) 8 >> shortLists (con ∷ [])) _ (violated, n) a.2 in
      let k = bound-step (tableKept (table_of pool table)) _ (violated, n) b.2 in
      let s = bound-step (setGiven (table_of pool table) (take (at * 4) buffer)) _ (violated, n) k.2 in
      let o = bound-step (setGiven (table_of pool table) con >>= only) _ (violated, n) s.2 in
      let p = bound-step (setGiven (table_of pool table) con) only o.0 o.1 in
      let r = bound-step (add (numbersOf (table_of pool table)) s.0 o.0) _ (violated, n) o.2 in
      record {
        constraint = o.0;
        read = p.1 ∙ ap got (only_one p.0 o.0 p.2);
        final = λ bs bounds h. untrue (numbersOf (table_of pool table)) bs bounds o.0 (tested (numbersOf (table_of pool table)) s.0 o.0 r.0 _ n r.1 r.2) h;
      }
