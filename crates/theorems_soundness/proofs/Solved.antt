-- What every round keeps: well formed constraints and bindings, and bound variables that occur nowhere else.
use Rattle.std.specs.Prelude.{◌≡◌, refl, Bool, true, ◌⊎◌, ℕ}
use Rattle.std.proofs.Math.Path.{ap}
use Rattle.std.proofs.Common.{ap₂, ◌∙◌, sym, subst, inl, inr}
use Rattle.std.proofs.Math.Option.{some}
use mathlib.Core.List.Memᴰ
use mathlib.Core.List.{List, [], ◌∷◌, ◌++◌, Memᴰ}
use Rattle.rules.specs.Base.{got, Limits, bounded, exact, each}
use Rattle.rules.specs.Trees.{Open, var, quant, par, Names, Ty, Con, equal, isDim, is_scalar, hasField, Binding, ◌≔◌, orderAtom, opens, opensCon}
use Rattle.rules.specs.Replacing.{Look, replaceTy, replaceProduct, replaceCon, replaceBinding, bindings}
use Rattle.rules.specs.Rounds.{State, bind, split}
use Rattle.rules.specs.WellFormed.{goodBinding}
use Rattle.laws.specs.Order.{Lawful, Tells}
use Rattle.laws.proofs.Exact.{ty_below}
use Rattle.laws.proofs.ExactSolve.{con-below}
use Rattle.laws.specs.GoodProducts.{goodAtom}
use Rattle.laws.specs.Lists.{and_right, All, all_nil, all_cons}
use Rattle.laws.proofs.Lists.{and_both, all_append, one-step, two_steps, Came, each-parts, each-came}
use Rattle.theorems_soundness.specs.Claims.{key, type_of, keys, Once}
use Rattle.laws.proofs.RuleCases.{rule}
use Rattle.laws.proofs.Turns.{Found, Bound, Split, Taken, Turn, bound, parted, dropped}
use Rattle.laws.proofs.KeepsGood.{GoodTy, GoodCon, GoodBind, rule-good, con-kept, binding-kept}
use Rattle.laws.proofs.Occurs.{bound-good, ty-on, con-on}
use Rattle.theorems_soundness.proofs.Steps.{OpenOk, DimOk, okFor, ConOk, BindOk, rule-open}

module _ {N : Type 0} where
  once_more : (xs : List N) (x : N) → Once xs → ¬ (Memᴰ x xs) → Once (xs ++ (x ∷ []))
  once_more [] x h n = (λ m. Memᴰ.not-nil m, tt)
  once_more (y ∷ xs) x h n = (λ m. go (Memᴰ.append_cases xs m), once_more xs x h.1 (λ m. n (Memᴰ.tail m)))
    where
      go : Memᴰ y xs ⊎ Memᴰ y (x ∷ []) → ⊥
      go (inl m) = h.0 m
      go (inr m) = n (Memᴰ.head (sym (Memᴰ.eq_of_singleton m)))

  -- ══ One key more ══

  -- one key more
  keys-more : (bs : List (Binding N)) (x : N) (t : Ty N) → keys (bs ++ (x ≔ t ∷ [])) ≡ keys bs ++ (x ∷ [])
  keys-more [] x t = refl
  keys-more (y ≔ u ∷ bs) x t = ap (y ∷◌) (keys-more bs x t)

  module _ (Parameter : N → Type 0) (ks : List N) (x : N) where
    outside : (y : N) → ¬ (Memᴰ y ks) → (var y ≡ var x → ⊥) → ¬ (Memᴰ y (ks ++ (x ∷ [])))
    outside y h n m = go (Memᴰ.append_cases ks m)
      where
        go : Memᴰ y ks ⊎ Memᴰ y (x ∷ []) → ⊥
        go (inl i) = h i
        go (inr i) = n (ap var (Memᴰ.eq_of_singleton i))

    open_more : (o : Open N) → OpenOk Parameter ks o → (o ≡ var x → ⊥) → OpenOk Parameter (ks ++ (x ∷ [])) o
    open_more (var y) h n = (h.0, outside y h.1 n)
    open_more (quant i) h n = tt
    open_more (par y) h n = h

    dim-more : (o : Open N) → DimOk Parameter ks o → (o ≡ var x → ⊥) → DimOk Parameter (ks ++ (x ∷ [])) o
    dim-more (var y) h n = outside y h n
    dim-more (quant i) h n = tt
    dim-more (par y) h n = h

    ok-more : (c : Con N) (o : Open N) → okFor Parameter ks c o → (o ≡ var x → ⊥) → okFor Parameter (ks ++ (x ∷ [])) c o
    ok-more (equal s t) o h n = open_more o h n
    ok-more (isDim t) o h n = dim-more o h n
    ok-more (is_scalar p) o h n = open_more o h n
    ok-more (hasField m s t) o h n = open_more o h n

  module _ (Parameter : N → Type 0) (ks : List N) where
    open-dim : (o : Open N) → OpenOk Parameter ks o → DimOk Parameter ks o
    open-dim (var y) h = h.1
    open-dim (quant i) h = tt
    open-dim (par y) h = h

    ok-weaken : (c : Con N) (o : Open N) → OpenOk Parameter ks o → okFor Parameter ks c o
    ok-weaken (equal s t) o h = h
    ok-weaken (isDim t) o h = open-dim o h
    ok-weaken (is_scalar p) o h = h
    ok-weaken (hasField m s t) o h = h

    -- ══ What replacing keeps ══

    -- replacing leaves a constraint of its kind
    same_kind : (ν : Names N) (l : Limits) (look : Look N) (c c' : Con N) → replaceCon ν l look c ≡ got c' → (o : Open N) → okFor Parameter ks c o
        → okFor Parameter ks c' o
    unfolding replaceCon
    same_kind ν l look (equal s t) c' e o h = let w = two_steps (replaceTy ν l look s) (λ _. replaceTy ν l look t) equal c' e in rw (sym w.both) h
    same_kind ν l look (isDim t) c' e o h = let w = one-step (replaceTy ν l look t) isDim c' e in rw (sym w.is) h
    same_kind ν l look (is_scalar p) c' e o h = let w = one-step (replaceProduct ν l look p) is_scalar c' e in rw (sym w.is) h
    same_kind ν l look (hasField n s t) c' e o h = let w = two_steps (replaceTy ν l look s) (λ _. replaceTy ν l look t) (hasField n) c' e in rw (sym w.both) h

  -- a binding keeps its variable
  pub same_key : (ν : Names N) (l : Limits) (look : Look N) (b b' : Binding N) → replaceBinding ν l look b ≡ got b'
      → (key b' ≡ key b) × (replaceTy ν l look (type_of b) ≡ got (type_of b'))
  unfolding replaceBinding
  same_key ν l look (x ≔ t) b' e = let w = one-step (replaceTy ν l look t) (x ≔◌) b' e in (rw (sym w.is), w.gave ∙ ap (λ (b : Binding N). got (type_of b)) w.is)

  pub same_keys : (ν : Names N) (l : Limits) (look : Look N) (bs bs' : List (Binding N)) → each (replaceBinding ν l look) bs ≡ got bs' → keys bs' ≡ keys bs
  unfolding each
  same_keys ν l look [] bs' e = let z : [] ≡ bs' = cc in rw (sym z)
  same_keys ν l look (b ∷ bs) bs' e =
      let w = each-parts (replaceBinding ν l look) b bs bs' e in
      rw (sym w.both) (ap₂ ◌∷◌ (same_key ν l look b w.first w.gave).0 (same_keys ν l look bs w.second w.then))

module _ {N : Type 0} (ν : Names N) (law : Lawful (orderAtom ν)) (held : N → Bool) (q : ℕ)
    (tells : Tells (λ a. goodAtom ν held q a ≡ true) (orderAtom ν)) (Parameter : N → Type 0) where
  abbrev Good : Con N → Type 0
  Good = GoodCon ν law held q

  -- ══ What is kept ══

  pub record Kept (s : State N) : Type 0 where
    pub cons-good : All Good s.cons
    pub binds-good : All (λ b. goodBinding ν held q b ≡ true) s.binds
    pub cons_ok : All (ConOk Parameter (keys s.binds)) s.cons
    pub binds-ok : All (λ b. All (OpenOk Parameter (keys s.binds)) (opens (type_of b))) s.binds
    pub keys-ok : All (λ x. ¬ (Parameter x)) (keys s.binds)
    pub once : Once (keys s.binds)

  pub type-good : (b : Binding N) → goodBinding ν held q b ≡ true → GoodTy ν law held q (type_of b)
  unfolding goodBinding
  type-good (x ≔ t) h = and_right (held x) _ h

  -- ══ A round ══

  split-kept : (s s' : State N) → Kept s → Split ν bounded s s' → Kept s'
  split-kept s s' k b =
      let f = b.found in
      let r = rule ν bounded f.con (split b.new) f.tried in
      let g = k.cons-good f.con f.given in
      let o = k.cons_ok f.con f.given in
      let ks : keys s'.binds ≡ keys s.binds = ap keys b.same in
      record {
        cons-good = rw b.joined (all_append Good b.rest (λ c m. k.cons-good c (f.kept c m)) (rule-good ν law held q f.con (split b.new) r g));
        binds-good = rw b.same k.binds-good;
        cons_ok = rw (b.joined, ks) (all_append (ConOk Parameter (keys s.binds)) b.rest (λ c m. k.cons_ok c (f.kept c m))
            (rule-open ν law held q Parameter (keys s.binds) (λ y p m. k.keys-ok y m p) f.con (split b.new) r g o));
        binds-ok = rw b.same k.binds-ok;
        keys-ok = rw b.same k.keys-ok;
        once = rw b.same k.once;
      }

  taken-kept : (s s' : State N) → Kept s → Taken ν bounded s s' → Kept s'
  taken-kept s s' k b = record {
    cons-good = λ c m. k.cons-good c (b.found.kept c m);
    binds-good = rw b.same k.binds-good;
    cons_ok = rw b.same (λ c m. k.cons_ok c (b.found.kept c m));
    binds-ok = rw b.same k.binds-ok;
    keys-ok = rw b.same k.keys-ok;
    once = rw b.same k.once;
  }

  bound-kept : (s s' : State N) → Kept s → Bound ν bounded s s' → Kept s'
  unfolding goodBinding
  bound-kept s s' k b = record {
    cons-good = λ d m. let w = from d m in (con-kept ν law held q look lg w.of (k.cons-good w.of (f.kept w.of w.within))).holds d w.by;
    binds-good = rw b.appended (all_append (λ c. goodBinding ν held q c ≡ true) b.older old-good
        (all_cons (λ c. goodBinding ν held q c ≡ true) new-good (all_nil (λ c. goodBinding ν held q c ≡ true))));
    cons_ok = rw ks (λ d m. let w = from d m in con-ok w.of d (k.cons-good w.of (f.kept w.of w.within)) (k.cons_ok w.of (f.kept w.of w.within)) w.by);
    binds-ok = rw ks (subst (λ (bs : List (Binding N)). All TypeOk bs) (sym b.appended)
        (all_append TypeOk b.older old_ok (all_cons TypeOk type-ok (all_nil TypeOk))));
    keys-ok = rw ks (all_append (λ y. ¬ (Parameter y)) (keys s.binds) k.keys-ok
        (all_cons (λ y. ¬ (Parameter y)) o.variable.0 (all_nil (λ y. ¬ (Parameter y)))));
    once = rw ks (once_more (keys s.binds) x k.once o.variable.1);
  }
    where
      x : N
      x = b.x

      t : Ty N
      t = b.t

      look : Look N
      look = bindings ν (x ≔ t ∷ [])

      f : Found ν bounded s.cons (bind x t) b.rest
      f = b.found

      g : GoodBind ν law held q x t
      g = rule-good ν law held q f.con (bind x t) (rule ν bounded f.con (bind x t) f.tried) (k.cons-good f.con f.given)

      o : BindOk Parameter (keys s.binds) x t
      o = rule-open ν law held q Parameter (keys s.binds) (λ y p m. k.keys-ok y m p) f.con (bind x t) (rule ν bounded f.con (bind x t) f.tried)
          (k.cons-good f.con f.given) (k.cons_ok f.con f.given)

      lg : (u : Open N) (w : Ty N) → look u ≡ some w → GoodTy ν law held q w
      lg = bound-good ν (GoodTy ν law held q) x t g.type

      ks : keys s'.binds ≡ keys s.binds ++ (x ∷ [])
      ks = ap keys b.appended ∙ keys-more b.older x t ∙ ap (λ (l : List N). l ++ (x ∷ [])) (same_keys ν bounded look s.binds b.older b.replacedBinds)

      from : (d : Con N) → Memᴰ d s'.cons → Came (replaceCon ν bounded look) d b.rest
      from d m = each-came (replaceCon ν bounded look) b.rest s'.cons b.replaced d m

      -- the type's names are not x
      type-ok : All (OpenOk Parameter (keys s.binds ++ (x ∷ []))) (opens t)
      type-ok u m = open_more Parameter (keys s.binds) x u (o.type u m) (λ e. o.apart (rw e at m))

      con-ok : (c d : Con N) → Good c → ConOk Parameter (keys s.binds) c → replaceCon ν bounded look c ≡ got d → ConOk Parameter (keys s.binds ++ (x ∷ [])) d
      con-ok c d gc h e =
          let i = (con-below ν look c).gives d e in
          let r : All (okFor Parameter (keys s.binds ++ (x ∷ [])) c) (opensCon d) =
          con-on ν law held q tells x t g.type (okFor Parameter (keys s.binds ++ (x ∷ [])) c) c d gc i
          (λ u m n. ok-more Parameter (keys s.binds) x c u (h u m) n) (λ u m. ok-weaken Parameter (keys s.binds ++ (x ∷ [])) c u (type-ok u m)) in
          λ u m. same_kind Parameter (keys s.binds ++ (x ∷ [])) ν exact look c d i u (r u m)

      TypeOk : Binding N → Type 0
      TypeOk c = All (OpenOk Parameter (keys s.binds ++ (x ∷ []))) (opens (type_of c))

      new-good : goodBinding ν held q (x ≔ t) ≡ true
      new-good = and_both g.name g.type

      old-from : (c : Binding N) → Memᴰ c b.older → Came (replaceBinding ν bounded look) c s.binds
      old-from c m = each-came (replaceBinding ν bounded look) s.binds b.older b.replacedBinds c m

      old-good : All (λ c. goodBinding ν held q c ≡ true) b.older
      old-good c m = let w = old-from c m in (binding-kept ν law held q look lg w.of (k.binds-good w.of w.within)).holds c w.by

      old_ok : All TypeOk b.older
      old_ok c m =
          let w = old-from c m in
          let i = (ty_below ν look (type_of w.of)).gives (type_of c) (same_key ν bounded look w.of c w.by).1 in
          ty-on ν law held q tells x t g.type (OpenOk Parameter (keys s.binds ++ (x ∷ []))) (type_of w.of) (type_of c)
          (type-good w.of (k.binds-good w.of w.within)) i
          (λ u n j. open_more Parameter (keys s.binds) x u (k.binds-ok w.of w.within u n) j) type-ok

  pub turn-kept : (s s' : State N) → Kept s → Turn ν bounded s s' → Kept s'
  turn-kept s s' k (bound b) = bound-kept s s' k b
  turn-kept s s' k (parted b) = split-kept s s' k b
  turn-kept s s' k (dropped b) = taken-kept s s' k b
