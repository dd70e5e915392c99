-- A closed constraint that is true is never refused and never remains: it is taken away, or split into closed ones that are true.
use Rattle.std.proofs.Math.Path.{◌≡◌, refl, ap, subst}
use Rattle.std.proofs.Common.{◌∙◌, sym}
use Rattle.std.proofs.Math.Bool.{false}
use Rattle.std.proofs.Math.Option.{Option, none, some}
use Rattle.std.specs.Prelude.{◌⊎◌, List, [], ◌∷◌}
use Rattle.std.proofs.Math.Logic.{inl, inr}
use Prim.Native.Nat.{suc}
use borrow.Author.Tests.{eq-eqb}
use Rattle.rules.specs.Base.{Got, got, bounded, collect, and_then}
use Rattle.rules.specs.Trees.{
  Open,
  Product,
  Names,
  Basic,
  Ty,
  opened,
  basic,
  dim,
  fn,
  struct,
  list,
  Tys,
  nil,
  cons,
  Fields,
  Con,
  equal,
  isDim,
  is_scalar,
  hasField,
  ty-dec,
  opens,
  opensTys,
  opensFields,
  opensCon,
  openOfFactor,
  count,
}
use Rattle.rules.specs.Views.{variable, asVar, asPower}
use Rattle.rules.specs.Contents.{namesIn}
use Rattle.rules.specs.Products.{single}
use Rattle.rules.specs.Plain.{plain, plainDim, plainTys, plainFields}
use Rattle.rules.specs.Rounds.{Step, split, done, pairs, firstRules, bindTo, by_kind, functions, lists, structs, dimensionParts, trySatisfy}
use Rattle.laws.specs.Lists.{All, all_nil, all_cons, in_head}
use Rattle.laws.proofs.Lists.{none_in, is-no, is-yes}
use Rattle.laws.proofs.RuleCases.{single-is}
use Rattle.theorems_lines.proofs.Matching.{same-dim}
use Rattle.theorems_lines.proofs.Shut.{Never, Shut, ShutCon, shut-left, shut-right, equal-shut}

module _ {N : Type 0} where
  abbrev pub TrueCon : Con N → Type 0
  TrueCon (equal s t) = plain s false ≡ plain t false
  TrueCon (isDim u) = (p : Product N) × (u ≡ dim p)
  TrueCon (is_scalar p) = p ≡ []
  TrueCon (hasField n s t) = ⊥

  pub record Truly (c : Con N) : Type 0 where
    pub closed : ShutCon c
    pub holds : TrueCon c

  -- ══ What is read like a function, a struct, a list ══

  like-fn : (t : Ty N) (ps : Tys N) (r : Ty N) → plain t false ≡ fn ps r → (qs : Tys N) × (q : Ty N) × (t ≡ fn qs q)
  unfolding plain plainDim
  like-fn (opened o) ps r e = absurd (cc)
  like-fn (basic b) ps r e = absurd (cc)
  like-fn (dim p) ps r e = go (single p) e
    where
      go : (s : Option (Open N)) → plainDim s p ≡ fn ps r → (qs : Tys N) × (q : Ty N) × (dim p ≡ fn qs q)
      go none i = absurd (cc)
      go (some o) i = absurd (cc)
  like-fn (fn qs q) ps r e = (qs, q, refl)
  like-fn (struct n as' fs) ps r e = absurd (cc)
  like-fn (list t) ps r e = absurd (cc)

  like-struct : (t : Ty N) (n : N) (as' : Tys N) (fs : Fields N) → plain t false ≡ struct n as' fs
      → (m : N) × (bs : Tys N) × (gs : Fields N) × (t ≡ struct m bs gs)
  unfolding plain plainDim
  like-struct (opened o) n as' fs e = absurd (cc)
  like-struct (basic b) n as' fs e = absurd (cc)
  like-struct (dim p) n as' fs e = go (single p) e
    where
      go : (s : Option (Open N)) → plainDim s p ≡ struct n as' fs → (m : N) × (bs : Tys N) × (gs : Fields N) × (dim p ≡ struct m bs gs)
      go none i = absurd (cc)
      go (some o) i = absurd (cc)
  like-struct (fn qs q) n as' fs e = absurd (cc)
  like-struct (struct m bs gs) n as' fs e = (m, bs, gs, refl)
  like-struct (list t) n as' fs e = absurd (cc)

  like-list : (t u : Ty N) → plain t false ≡ list u → (w : Ty N) × (t ≡ list w)
  unfolding plain plainDim
  like-list (opened o) u e = absurd (cc)
  like-list (basic b) u e = absurd (cc)
  like-list (dim p) u e = go (single p) e
    where
      go : (s : Option (Open N)) → plainDim s p ≡ list u → (w : Ty N) × (dim p ≡ list w)
      go none i = absurd (cc)
      go (some o) i = absurd (cc)
  like-list (fn qs q) u e = absurd (cc)
  like-list (struct m bs gs) u e = absurd (cc)
  like-list (list t) u e = (t, refl)

  like-basic : (t : Ty N) (b : Basic) → plain t false ≡ basic b → t ≡ basic b
  unfolding plain plainDim
  like-basic (opened o) b e = cc
  like-basic (basic c) b e = e
  like-basic (dim p) b e = go (single p) e
    where
      go : (s : Option (Open N)) → plainDim s p ≡ basic b → dim p ≡ basic b
      go none i = cc
      go (some o) i = cc
  like-basic (fn qs q) b e = cc
  like-basic (struct m bs gs) b e = cc
  like-basic (list t) b e = cc

  -- ══ Pairs ══

  same_count : (ts us : Tys N) → plainTys ts false ≡ plainTys us false → count ts ≡ count us
  unfolding plain count
  same_count nil nil e = refl
  same_count nil (cons u us) e = absurd (cc)
  same_count (cons t ts) nil e = absurd (cc)
  same_count (cons t ts) (cons u us) e = ap suc (same_count ts us (cc))

  equal-truly : (s t : Ty N) → Shut s → Shut t → plain s false ≡ plain t false → Truly (equal s t)
  equal-truly s t h k e = record { closed = equal-shut s t h k; holds = e }

  pairs-truly : (ts us : Tys N) → All Never (opensTys ts) → All Never (opensTys us) → plainTys ts false ≡ plainTys us false → All Truly (pairs ts us)
  unfolding pairs opens plain
  pairs-truly nil us h k e = all_nil Truly
  pairs-truly (cons t ts) nil h k e = all_nil Truly
  pairs-truly (cons t ts) (cons u us) h k e =
      all_cons Truly (equal-truly t u (shut-left (opens t) (opensTys ts) h) (shut-left (opens u) (opensTys us) k) (cc))
      (pairs-truly ts us (shut-right (opens t) (opensTys ts) h) (shut-right (opens u) (opensTys us) k) (cc))

  -- ══ No variable to bind ══

  no-var : (t : Ty N) → Shut t → asVar t ≡ none
  unfolding opens
  no-var (opened o) h = absurd (h o in_head)
  no-var (basic b) h = refl
  no-var (dim p) h = refl
  no-var (fn ps r) h = refl
  no-var (struct n as' fs) h = refl
  no-var (list t) h = refl

  no-single : (p : Product N) → Shut (dim p) → single p ≡ none
  unfolding opens collect
  no-single p h = go (single p) refl
    where
      go : (s : Option (Open N)) → single p ≡ s → single p ≡ none
      go none i = i
      go (some o) i = absurd ((rw (single-is p o i) at h) o in_head)

  no_power : (t : Ty N) → Shut t → asPower t ≡ none
  unfolding opens
  no_power (opened o) h = refl
  no_power (basic b) h = refl
  no_power (dim p) h = ap (λ (o : Option (Open N)). and_then o variable) (no-single p h)
  no_power (fn ps r) h = refl
  no_power (struct n as' fs) h = refl
  no_power (list t) h = refl

module _ {N : Type 0} (ν : Names N) where
  first-none : (s t : Ty N) → Shut s → Shut t → ¬ (s ≡ t) → firstRules ν s t ≡ none
  unfolding firstRules bindTo
  first-none s t h k n = rw (is-no (ty-dec ν s t) n, no-var s h, no-var t k, no_power s h, no_power t k)

  first_done : (s t : Ty N) → s ≡ t → trySatisfy ν bounded (equal s t) ≡ got done
  unfolding trySatisfy firstRules
  first_done s t e = rw (is-yes (ty-dec ν s t) e)

  -- ══ What a rule puts in its place ══

  -- put in its place: closed constraints that are true
  pub record Parts (m : Got (Step N)) : Type 0 where
    pub new : List (Con N)
    pub is : m ≡ got (split new)
    pub truly : All Truly new

  two-fns : (ps qs : Tys N) (r q : Ty N) → Shut (fn ps r) → Shut (fn qs q) → plain (fn ps r) false ≡ plain (fn qs q) false
      → Parts (by_kind ν bounded (fn ps r) (fn qs q))
  unfolding by_kind functions plain opens
  two-fns ps qs r q h k e =
      let i : plainTys ps false ≡ plainTys qs false = cc in
      let j : plain r false ≡ plain q false = cc in
      record {
        new = equal r q ∷ pairs ps qs;
        is = rw (eq-eqb (count ps) (count qs) (same_count ps qs i), functions);
        truly = all_cons Truly (equal-truly r q (shut-right (opensTys ps) (opens r) h) (shut-right (opensTys qs) (opens q) k) j)
            (pairs-truly ps qs (shut-left (opensTys ps) (opens r) h) (shut-left (opensTys qs) (opens q) k) i);
      }

  same-structs : (n m : N) (as' bs : Tys N) (fs gs : Fields N) → Shut (struct n as' fs) → Shut (struct m bs gs)
      → plain (struct n as' fs) false ≡ plain (struct m bs gs) false → Parts (by_kind ν bounded (struct n as' fs) (struct m bs gs))
  unfolding by_kind structs plain opens
  same-structs n m as' bs fs gs h k e =
      let i : plainTys as' false ≡ plainTys bs false = cc in
      let j : n ≡ m = cc in
      record {
        new = pairs as' bs;
        is = rw (is-yes (ν.same n m) j, eq-eqb (count as') (count bs) (same_count as' bs i), structs);
        truly = pairs-truly as' bs (shut-left (opensTys as') (opensFields fs) h) (shut-left (opensTys bs) (opensFields gs) k) i;
      }

  same_lists : (t u : Ty N) → Shut (list t) → Shut (list u) → plain (list t) false ≡ plain (list u) false → Parts (by_kind ν bounded (list t) (list u))
  unfolding by_kind lists plain opens
  same_lists t u h k e = let i : plain t false ≡ plain u false = cc
      in record { new = equal t u ∷ []; is = refl; truly = all_cons Truly (equal-truly t u h k i) (all_nil Truly) }

  kind-true : (s t : Ty N) → Shut s → Shut t → ¬ (s ≡ t) → plain s false ≡ plain t false → Parts (by_kind ν bounded s t)
  unfolding plain opens
  kind-true (opened o) t h k n e = absurd (h o in_head)
  kind-true (basic b) t h k n e = absurd (n (sym (like-basic t b (sym e))))
  kind-true (dim d) t h k n e = absurd (n (sym (same-dim t d (none_in (opens t) k) e)))
  kind-true (fn ps r) t h k n e =
      let q = like-fn t (plainTys ps false) (plain r false) (sym e) in
      subst (λ (u : Ty N). Parts (by_kind ν bounded (fn ps r) u)) (sym q.2)
      (two-fns ps q.0 r q.1 h (subst Shut q.2 k) (e ∙ ap (λ (u : Ty N). plain u false) q.2))
  kind-true (struct m as' fs) t h k n e =
      let q = like-struct t m (plainTys as' false) (plainFields fs false) (sym e) in
      subst (λ (u : Ty N). Parts (by_kind ν bounded (struct m as' fs) u)) (sym q.3)
      (same-structs m q.0 as' q.1 fs q.2 h (subst Shut q.3 k) (e ∙ ap (λ (u : Ty N). plain u false) q.3))
  kind-true (list u) t h k n e =
      let q = like-list t (plain u false) (sym e) in
      subst (λ (w : Ty N). Parts (by_kind ν bounded (list u) w)) (sym q.1) (same_lists u q.0 h (subst Shut q.1 k) (e ∙ ap (λ (w : Ty N). plain w false) q.1))

  tried-kind : (s t : Ty N) → ShutCon (equal s t) → ¬ (s ≡ t) → plain s false ≡ plain t false → Parts (trySatisfy ν bounded (equal s t))
  unfolding trySatisfy opensCon
  tried-kind s t h n e =
      let a = shut-left (opens s) (opens t) h in
      let b = shut-right (opens s) (opens t) h in
      rw (first-none s t a b n) (kind-true s t a b n e)

  dim-parts : (p : Product N) (u : Ty N) → u ≡ dim p → Shut u → Parts (trySatisfy ν bounded (isDim u))
  unfolding trySatisfy dimensionParts opens namesIn collect
  dim-parts p u e h = rw e (record { new = []; is = rw (none_in (collect openOfFactor p) (rw e at h)); truly = all_nil Truly })

  pub try-true : (c : Con N) → Truly c → (trySatisfy ν bounded c ≡ got done) ⊎ Parts (trySatisfy ν bounded c)
  unfolding trySatisfy opensCon
  try-true (equal s t) h = go (ty-dec ν s t)
    where
      go : Dec (s ≡ t) → (trySatisfy ν bounded (equal s t) ≡ got done) ⊎ Parts (trySatisfy ν bounded (equal s t))
      go (yes e) = inl (first_done s t e)
      go (no n) = inr (tried-kind s t h.closed n h.holds)
  try-true (isDim u) h = inr (dim-parts h.holds.0 u h.holds.1 h.closed)
  try-true (is_scalar p) h = inl (rw h.holds)
  try-true (hasField n s t) h = absurd h.holds
