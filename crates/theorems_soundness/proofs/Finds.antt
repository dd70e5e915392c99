-- What is found among bindings, also after a round replaced in them.
use Rattle.std.specs.Prelude.{◌≡◌, Bool, ◌⊎◌}
use Rattle.std.proofs.Math.Path.{refl}
use Rattle.std.proofs.Common.{ap, ◌∙◌, sym, subst, inl, inr}
use Rattle.std.proofs.Math.Bool.{true, false}
use Rattle.std.proofs.Math.Option.{none, some}
use mathlib.Core.List.Memᴰ
use mathlib.Core.List.{List, [], ◌∷◌, ◌++◌, Memᴰ}
use Rattle.rules.specs.Base.{Got, got, Limits, each, is_yes}
use Rattle.rules.specs.Trees.{Open, var, quant, par, Names, Ty, opened, Binding, ◌≔◌}
use Rattle.rules.specs.Replacing.{Look, replaceTy, replaceBinding, find, bindings}
use Rattle.rules.specs.Rounds.{State}
use Rattle.laws.proofs.Untouched.{Unbound}
use Rattle.laws.specs.Lists.{All, all-every}
use Rattle.laws.proofs.Lists.{some≢none, yes-is, each-parts, map-to, is-yes}
use Rattle.laws.proofs.Turns.{Bound, Turn, bound, parted, dropped, Ended}
use Rattle.laws.proofs.Occurs.{one-bound}
use Rattle.theorems_soundness.proofs.Steps.{OpenOk}
use Rattle.theorems_soundness.specs.Claims.{key, type_of, keys, Once}
use Rattle.theorems_soundness.proofs.Solved.{same_key}

module _ {N : Type 0} (ν : Names N) where
  pub find-member : (bs : List (Binding N)) (x : N) (t : Ty N) → find ν bs x ≡ some t → Memᴰ (x ≔ t) bs
  unfolding find
  find-member [] x t e = absurd (some≢none (sym e))
  find-member (y ≔ u ∷ bs) x t e = go (is_yes (ν.same x y)) refl (find-member bs x t)
    where
      go : (b : Bool) → is_yes (ν.same x y) ≡ b → (find ν bs x ≡ some t → Memᴰ (x ≔ t) bs) → Memᴰ (x ≔ t) (y ≔ u ∷ bs)
      go true i r =
          let z : some u ≡ some t = rw (i, find) at e in
          let w : x ≡ y = yes-is (ν.same x y) i in
          let v : x ≔ t ≡ y ≔ u = cc in
          Memᴰ.head v
      go false i r = Memᴰ.tail (r (rw (i, find) at e))

  pub find_none : (bs : List (Binding N)) (x : N) → ¬ (Memᴰ x (keys bs)) → find ν bs x ≡ none
  unfolding find
  find_none [] x h = refl
  find_none (y ≔ u ∷ bs) x h = go (is_yes (ν.same x y)) refl (find_none bs x (λ m. h (Memᴰ.tail m)))
    where
      go : (b : Bool) → is_yes (ν.same x y) ≡ b → find ν bs x ≡ none → find ν (y ≔ u ∷ bs) x ≡ none
      go true i r = absurd (h (Memᴰ.head (yes-is (ν.same x y) i)))
      go false i r = rw (i, find) r

  pub find-once : (bs : List (Binding N)) (b : Binding N) → Once (keys bs) → Memᴰ b bs → find ν bs (key b) ≡ some (type_of b)
  unfolding find
  find-once [] b o m = absurd (Memᴰ.not-nil m)
  find-once (y ≔ u ∷ bs) b o m = go (Memᴰ.cases_cons m) (find-once bs b o.1)
    where
      here : b ≡ y ≔ u → find ν (y ≔ u ∷ bs) y ≡ some (type_of b)
      here i = rw (is-yes (ν.same y y) refl, find) (ap (λ (c : Binding N). some (type_of c)) (sym i))

      there : Memᴰ b bs → (c : Bool) → is_yes (ν.same (key b) y) ≡ c → find ν bs (key b) ≡ some (type_of b) → find ν (y ≔ u ∷ bs) (key b) ≡ some (type_of b)
      there i true j r = absurd (o.0 (subst (λ (z : N). Memᴰ z (keys bs)) (yes-is (ν.same (key b) y) j) (map-to key bs b i)))
      there i false j r = rw (j, find) r

      go : (b ≡ y ≔ u) ⊎ Memᴰ b bs → (Memᴰ b bs → find ν bs (key b) ≡ some (type_of b)) → find ν (y ≔ u ∷ bs) (key b) ≡ some (type_of b)
      go (inl i) r = subst (λ (z : N). find ν (y ≔ u ∷ bs) z ≡ some (type_of b)) (sym (ap key i)) (here i)
      go (inr i) r = there i (is_yes (ν.same (key b) y)) refl (r i)

  -- names that are not bound stay
  pub unbound : (bs : List (Binding N)) (P : N → Type 0) (os : List (Open N)) → All (OpenOk P (keys bs)) os → Unbound (bindings ν bs) os
  unfolding bindings
  unbound bs P os h = all-every (λ o. bindings ν bs o ≡ none) os (λ o m. go o (h o m))
    where
      go : (o : Open N) → OpenOk P (keys bs) o → bindings ν bs o ≡ none
      go (var x) i = find_none bs x i.1
      go (quant n) i = refl
      go (par x) i = refl

  -- ══ After a round ══

  find_first : (bs cs : List (Binding N)) (x : N) (t : Ty N) → find ν bs x ≡ some t → find ν (bs ++ cs) x ≡ some t
  unfolding find
  find_first [] cs x t e = absurd (some≢none (sym e))
  find_first (y ≔ u ∷ bs) cs x t e = go (is_yes (ν.same x y)) refl (find_first bs cs x t)
    where
      go : (b : Bool) → is_yes (ν.same x y) ≡ b → (find ν bs x ≡ some t → find ν (bs ++ cs) x ≡ some t) → find ν (y ≔ u ∷ (bs ++ cs)) x ≡ some t
      go true i r = rw (i, find) (rw (i, find) at e)
      go false i r = rw (i, find) (r (rw (i, find) at e))

  find-later : (bs cs : List (Binding N)) (x : N) → find ν bs x ≡ none → find ν (bs ++ cs) x ≡ find ν cs x
  unfolding find
  find-later [] cs x e = refl
  find-later (y ≔ u ∷ bs) cs x e = go (is_yes (ν.same x y)) refl (find-later bs cs x)
    where
      go : (b : Bool) → is_yes (ν.same x y) ≡ b → (find ν bs x ≡ none → find ν (bs ++ cs) x ≡ find ν cs x) → find ν (y ≔ u ∷ (bs ++ cs)) x ≡ find ν cs x
      go true i r = absurd (some≢none (rw (i, find) at e))
      go false i r = rw (i, find) (r (rw (i, find) at e))

  module _ (l : Limits) (look : Look N) where
    replaced-none : (bs bs' : List (Binding N)) (x : N) → each (replaceBinding ν l look) bs ≡ got bs' → find ν bs x ≡ none → find ν bs' x ≡ none
    unfolding find each
    replaced-none [] bs' x e h = let z : [] ≡ bs' = cc in rw (sym z)
    replaced-none (y ≔ u ∷ bs) bs' x e h =
        let w = each-parts (replaceBinding ν l look) (y ≔ u) bs bs' e in
        go w.first w.second (same_key ν l look (y ≔ u) w.first w.gave).0 w.both (is_yes (ν.same x y)) refl (replaced-none bs w.second x w.then)
      where
        go : (b : Binding N) (cs : List (Binding N)) → key b ≡ y → b ∷ cs ≡ bs' → (c : Bool) → is_yes (ν.same x y) ≡ c
            → (find ν bs x ≡ none → find ν cs x ≡ none) → find ν bs' x ≡ none
        go (z ≔ v) cs k j true i r = absurd (some≢none (rw (i, find) at h))
        go (z ≔ v) cs k j false i r = let s : is_yes (ν.same x z) ≡ false = rw k i in rw (sym j) (rw (s, find) (r (rw (i, find) at h)))

    replaced-some : (bs bs' : List (Binding N)) (x : N) (t : Ty N) → each (replaceBinding ν l look) bs ≡ got bs' → find ν bs x ≡ some t
        → (t' : Ty N) × (find ν bs' x ≡ some t') × (replaceTy ν l look t ≡ got t')
    unfolding find each
    replaced-some [] bs' x t e h = absurd (some≢none (sym h))
    replaced-some (y ≔ u ∷ bs) bs' x t e h =
        let w = each-parts (replaceBinding ν l look) (y ≔ u) bs bs' e in
        let s = same_key ν l look (y ≔ u) w.first w.gave in
        go w.first w.second s.0 s.1 w.both (is_yes (ν.same x y)) refl (replaced-some bs w.second x t w.then)
      where
        go : (b : Binding N) (cs : List (Binding N)) → key b ≡ y → replaceTy ν l look u ≡ got (type_of b) → b ∷ cs ≡ bs' → (c : Bool)
            → is_yes (ν.same x y) ≡ c → (find ν bs x ≡ some t → (t' : Ty N) × (find ν cs x ≡ some t') × (replaceTy ν l look t ≡ got t'))
            → (t' : Ty N) × (find ν bs' x ≡ some t') × (replaceTy ν l look t ≡ got t')
        go (z ≔ v) cs k m j true i r =
            let s : is_yes (ν.same x z) ≡ true = rw k i in
            let d : some u ≡ some t = rw (i, find) at h in
            let y' : u ≡ t = cc in
            (v, rw (sym j) (rw (s, find)), rw (sym y') m)
        go (z ≔ v) cs k m j false i r =
            let s : is_yes (ν.same x z) ≡ false = rw k i in
            let a = r (rw (i, find) at h) in
            (a.0, rw (sym j) (rw (s, find) a.1), a.2)

-- ══ A variable that is bound to a variable ══

-- what it becomes at the end of a run
pub record Twins {N : Type 0} (ν : Names N) (bs : List (Binding N)) (s : State N) : Type 0 where
  -- x is bound to z, which waits
  pub waits : (x z : N) → find ν s.binds x ≡ some (opened (var z)) → find ν s.binds z ≡ none → (find ν bs z ≡ none) ⊎ (find ν bs x ≡ find ν bs z)
  -- both are bound to one type
  pub same : (x z : N) (t : Ty N) → find ν s.binds x ≡ some t → find ν s.binds z ≡ some t → find ν bs x ≡ find ν bs z

module _ {N : Type 0} (ν : Names N) (bs : List (Binding N)) where
  pub twins-end : (ns : List N) (s : State N) → Ended ν bs ns s → Twins ν bs s
  twins-end ns s e = record {
    waits = λ x z i j. inl (rw e.binds j);
    same = λ x z t i j. rw e.binds (i ∙ sym j);
  }

  twins-bound : (l : Limits) (s s' : State N) → Bound ν l s s' → Twins ν bs s' → Twins ν bs s
  unfolding replaceTy bindings
  twins-bound l s s' b w = record {
    waits = λ x z i j. waiting x z i j (one-bound ν b.x b.t (var z));
    same = λ x z t i j. let p = moved x t i in let r = moved z t j in let y : p.0 ≡ r.0 = alike p.2 r.2 in w.same x z p.0 p.1 (rw y r.1);
  }
    where
      look : Look N
      look = bindings ν (b.x ≔ b.t ∷ [])

      alike : {m : Got (Ty N)} {u v : Ty N} → m ≡ got u → m ≡ got v → u ≡ v
      alike i j = cc

      -- a bound variable after the round
      moved : (x : N) (t : Ty N) → find ν s.binds x ≡ some t → (t' : Ty N) × (find ν s'.binds x ≡ some t') × (replaceTy ν l look t ≡ got t')
      moved x t i = let r = replaced-some ν l look s.binds b.older x t b.replacedBinds i
          in (r.0, rw b.appended (find_first ν b.older (b.x ≔ b.t ∷ []) x r.0 r.1), r.2)

      -- a variable that wasn't bound
      fresh : (z : N) → find ν s.binds z ≡ none → find ν s'.binds z ≡ look (var z)
      fresh z j = rw b.appended (find-later ν b.older (b.x ≔ b.t ∷ []) z (replaced-none ν l look s.binds b.older z b.replacedBinds j))

      waiting : (x z : N) → find ν s.binds x ≡ some (opened (var z)) → find ν s.binds z ≡ none
          → ((var z ≡ var b.x) × (look (var z) ≡ some b.t)) ⊎ ((var z ≡ var b.x → ⊥) × (look (var z) ≡ none))
          → (find ν bs z ≡ none) ⊎ (find ν bs x ≡ find ν bs z)
      waiting x z i j (inl k) =
          let m = moved x (opened (var z)) i in
          let y : b.t ≡ m.0 = let q : got b.t ≡ got m.0 = rw k.1 at m.2 in cc in
          inr (w.same x z b.t (m.1 ∙ ap some (sym y)) (fresh z j ∙ k.1))
      waiting x z i j (inr k) =
          let m = moved x (opened (var z)) i in
          let y : opened (var z) ≡ m.0 = let q : got (opened (var z)) ≡ got m.0 = rw k.1 at m.2 in cc in
          w.waits x z (m.1 ∙ ap some (sym y)) (fresh z j ∙ k.1)

  pub twins-turn : (l : Limits) (s s' : State N) → Turn ν l s s' → Twins ν bs s' → Twins ν bs s
  twins-turn l s s' (bound b) w = twins-bound l s s' b w
  twins-turn l s s' (parted b) w = record {
    waits = λ x z i j. w.waits x z (rw b.same i) (rw b.same j);
    same = λ x z t i j. w.same x z t (rw b.same i) (rw b.same j);
  }
  twins-turn l s s' (dropped b) w = record {
    waits = λ x z i j. w.waits x z (rw b.same i) (rw b.same j);
    same = λ x z t i j. w.same x z t (rw b.same i) (rw b.same j);
  }
