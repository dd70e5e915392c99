-- The constraints of a well formed line, over held names that differ, are well formed.
use Rattle.std.specs.Prelude.{◌≡◌, Bool}
use Rattle.std.proofs.Math.Path.{refl}
use Rattle.std.proofs.Common.{sym}
use Rattle.std.proofs.Math.Bool.{true, false}
use Rattle.std.proofs.Math.Option.{Option, none, some}
use mathlib.Core.List.{List, [], ◌∷◌, Memᴰ}
use Prim.Native.Nat.{Ordering}
use Rattle.rules.specs.Base.{all}
use Rattle.rules.specs.Exponents.{Exp, one, neg, isZero, goodExp, goodStored}
use Rattle.rules.specs.Trees.{var, free, Names, Ty, basic, boolean, Con, equal, isDim, orderOpen, orderAtom}
use Rattle.rules.specs.Products.{put}
use Rattle.rules.specs.WellFormed.{rising, goodOpen, goodFactor, goodProduct, goodTy, goodCon}
use Rattle.rules.specs.Rules.{rules}
use Rattle.laws.proofs.Order.{after}
use Rattle.laws.specs.Lists.{All, all_nil, all_cons, in_head, Every}
use Rattle.laws.proofs.Lists.{and_both, all_append, every-as, every-all}
use Rattle.theorems_soundness.specs.Claims.{Ordered, Once}
use Rattle.rules.specs.Steps.{
  Two,
  adds,
  subtracts,
  multiplies,
  divides,
  compares,
  LineStep,
  constant,
  reference,
  raises,
  joins,
  chooses,
  Deed,
  gives,
  raised,
  joined,
  chosen,
  takes,
}
use Rattle.theorems_lines.specs.FormedSteps.{FormedStep}
use Rattle.rules.specs.Lines.{its, twoFactors, issuedByTwo, issued, constraints}

one-stored : goodStored one ≡ true
unfolding rules
one-stored = refl

minus-one-stored : goodStored (neg one) ≡ true
unfolding rules
minus-one-stored = refl

module _ {N : Type 0} (ν : Names N) (held : N → Bool) (ord : Ordered ν held) where
  abbrev Good : Con N → Type 0
  Good c = goodCon ν held 0 c ≡ true

  abbrev Held : N → Type 0
  Held x = held x ≡ true

  -- variables on the stack, and those of the steps to come
  pub record Apart (st vs : List N) : Type 0 where
    pub stack : Once st
    pub coming : Once vs
    pub disjoint : Every (λ x. ¬ (Memᴰ x vs)) st
    pub stack-held : Every Held st
    pub coming-held : Every Held vs

  -- ══ Products ══

  power-formed : (x : N) (e : Exp) → Held x → goodExp e ≡ true → goodProduct ν held 0 (put (free (var x)) e []) ≡ true
  unfolding goodProduct goodFactor goodOpen goodStored rising all
  power-formed x e h g = go (isZero e) refl
    where
      go : (z : Bool) → isZero e ≡ z → goodProduct ν held 0 (put (free (var x)) e []) ≡ true
      go true i = rw (i, put)
      go false i = rw (i, put) (rw (h, i, g))

  two_formed : (l r : N) (e : Exp) → Held l → Held r → ¬ (l ≡ r) → goodStored e ≡ true → goodProduct ν held 0 (twoFactors ν l r e) ≡ true
  unfolding goodProduct goodFactor goodOpen rising all twoFactors orderAtom orderOpen
  two_formed l r e h k n g = go (ν.order l r) refl
    where
      go : (o : Ordering) → ν.order l r ≡ o → goodProduct ν held 0 (twoFactors ν l r e) ≡ true
      go Ordering.lt i = rw (i, twoFactors) (rw (h, k, g, one-stored, i))
      go Ordering.eq i = absurd (n (ord.tells.same l r h k i))
      go Ordering.gt i = rw (i, twoFactors) (rw (h, k, g, one-stored, after ord.lawful l r i))

  -- ══ What a step issues ══

  module _ (v : N) (hv : Held v) (l r : N) (hl : Held l) (hr : Held r) where
    dims : {cs : List (Con N)} → All Good cs → All Good (isDim (its l) ∷ isDim (its r) ∷ cs)
    unfolding goodCon goodTy goodOpen
    dims f = all_cons Good hl (all_cons Good hr f)

    both_equal : (t : Ty N) → goodTy ν held 0 t ≡ true → All Good (equal (its l) (its r) ∷ equal (its v) t ∷ [])
    unfolding goodCon goodTy goodOpen
    both_equal t g = all_cons Good (and_both hl hr) (all_cons Good (and_both hv g) (all_nil Good))

    two-issued : ¬ (l ≡ r) → (o : Two) → All Good (issuedByTwo ν v o l r)
    unfolding issuedByTwo goodCon goodTy goodOpen
    two-issued n adds = dims (both_equal (its l) hl)
    two-issued n subtracts = dims (both_equal (its l) hl)
    two-issued n multiplies = dims (all_cons Good (and_both hv (two_formed l r one hl hr n one-stored)) (all_nil Good))
    two-issued n divides = dims (all_cons Good (and_both hv (two_formed l r (neg one) hl hr n minus-one-stored)) (all_nil Good))
    two-issued n compares = dims (both_equal (basic boolean) refl)

    choice-issued : (c : N) → Held c → All Good (issued ν v (chosen c l r))
    unfolding issued goodCon goodTy goodOpen
    choice-issued c hc = all_cons Good (and_both hc refl) (both_equal (its l) hl)

  joined-issued : (o : Two) (v l r : N) → All Good (issuedByTwo ν v o l r) → All Good (issued ν v (joined o l r))
  unfolding issued
  joined-issued o v l r f = f

  power-issued : (v x : N) (e : Exp) → Held v → Held x → goodExp e ≡ true → All Good (issued ν v (raised e x))
  unfolding issued goodCon goodTy goodOpen
  power-issued v x e hv hx g = all_cons Good hx (all_cons Good (and_both hv (power-formed x e hx g)) (all_nil Good))

  type-issued : (v : N) (t : Ty N) → Held v → goodTy ν held 0 t ≡ true → All Good (issued ν v (gives t))
  unfolding issued goodCon goodTy goodOpen
  type-issued v t hv g = all_cons Good (and_both hv g) (all_nil Good)

  -- ══ Step after step ══

  -- after a step: what it issued is well formed, and the stack is as before
  abbrev Onward : N → List N → Option (Deed N N × List N) → Type 0
  Onward v vs none = Unit {0}
  Onward v vs (some d) = All Good (issued ν v d.0) × Apart (v ∷ d.1) vs

  -- the step's variable comes onto a stack that is left
  pub pushed : (v : N) (st vs : List N) → Apart st (v ∷ vs) → Apart (v ∷ st) vs
  pushed v st vs a = record {
    stack = (λ m. not_in st a.disjoint m, a.stack);
    coming = a.coming.1;
    disjoint = (a.coming.0, every-as (λ x f m. f (Memᴰ.tail m)) st a.disjoint);
    stack-held = (a.coming-held.0, a.stack-held);
    coming-held = a.coming-held.1;
  }
    where
      not_in : (xs : List N) → Every (λ x. ¬ (Memᴰ x (v ∷ vs))) xs → Memᴰ v xs → ⊥
      not_in xs f m = every-all (λ x. ¬ (Memᴰ x (v ∷ vs))) xs f v m in_head

  pub popped : (x : N) (st vs : List N) → Apart (x ∷ st) vs → Apart st vs
  popped x st vs a = record { stack = a.stack.1; coming = a.coming; disjoint = a.disjoint.1; stack-held = a.stack-held.1; coming-held = a.coming-held }

  onward : (s : LineStep N) (v : N) (st vs : List N) → Apart st (v ∷ vs) → FormedStep ν held s → Onward v vs (takes s st)
  unfolding takes
  onward (constant t) v st vs a f = (type-issued v t a.coming-held.0 f.0, pushed v st vs a)
  onward (reference t) v st vs a f = (type-issued v t a.coming-held.0 f, pushed v st vs a)
  onward (raises e) v [] vs a f = tt
  onward (raises e) v (x ∷ st) vs a f = (power-issued v x e a.coming-held.0 a.stack-held.0 f, pushed v st vs (popped x st (v ∷ vs) a))
  onward (joins o) v [] vs a f = tt
  onward (joins o) v (r ∷ []) vs a f = tt
  onward (joins o) v (r ∷ l ∷ st) vs a f = (two o, pushed v st vs (popped l st (v ∷ vs) (popped r (l ∷ st) (v ∷ vs) a)))
    where
      two : (o : Two) → All Good (issued ν v (joined o l r))
      two o = joined-issued o v l r (two-issued v a.coming-held.0 l r a.stack-held.1.0 a.stack-held.0 (λ e. a.stack.0 (Memᴰ.head (sym e))) o)
  onward chooses v [] vs a f = tt
  onward chooses v (r ∷ []) vs a f = tt
  onward chooses v (r ∷ l ∷ []) vs a f = tt
  onward chooses v (r ∷ l ∷ c ∷ st) vs a f = (
    choice-issued v a.coming-held.0 l r a.stack-held.1.0 a.stack-held.0 c a.stack-held.1.1.0,
    pushed v st vs (popped c st (v ∷ vs) (popped l (c ∷ st) (v ∷ vs) (popped r (l ∷ c ∷ st) (v ∷ vs) a))),
  )

  pub constraints-formed : (ss : List (LineStep N)) (vs st : List N) → Apart st vs → Every (FormedStep ν held) ss → All Good (constraints ν vs st ss)
  unfolding constraints
  constraints-formed [] vs st a f = all_nil Good
  constraints-formed (s ∷ ss) [] st a f = all_nil Good
  constraints-formed (s ∷ ss) (v ∷ vs) st a f = go (takes s st) refl (onward s v st vs a f.0) (λ rest b. constraints-formed ss vs (v ∷ rest) b f.1)
    where
      go : (d : Option (Deed N N × List N)) → takes s st ≡ d → Onward v vs d
          → ((rest : List N) → Apart (v ∷ rest) vs → All Good (constraints ν vs (v ∷ rest) ss)) → All Good (constraints ν (v ∷ vs) st (s ∷ ss))
      go none e o more = rw (e, constraints) (all_nil Good)
      go (some d) e o more = rw (e, constraints) (all_append Good (issued ν v d.0) o.0 (more d.1 o.1))
