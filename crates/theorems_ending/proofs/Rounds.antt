-- What one round does: it binds a variable, which then stands nowhere in the constraints, or it makes the constraints lighter.
use Rattle.std.specs.Prelude.{◌≡◌, refl, ℕ, suc, ◌+◌, ◌≤◌, ◌<◌, length}
use mathlib.Core.List.{List, [], ◌∷◌, Memᴰ}
use Rattle.std.proofs.Math.Option.{Option, none as nothing, some}
use Rattle.std.proofs.Common.{arith}
use Rattle.std.proofs.Math.ListN.{length-append}
use Rattle.rules.specs.Base.{Got, Limits, bounded, and_then}
use Rattle.rules.specs.Trees.{Open, Names, Ty, Con, equal, isDim, is_scalar, hasField, Binding, ◌≔◌, orderAtom, opens}
use Rattle.rules.specs.Replacing.{replaceTy, replaceCon, replaceBinding, bindings}
use Rattle.rules.specs.Rounds.{Step, bind, split, done, stuck, State, taken, firstStep, sizeState, depthState, limited, perform}
use Rattle.laws.specs.Lists.{Every}
use Rattle.laws.proofs.Lists.{every_append}
use Rattle.laws.specs.Order.{Lawful}
use Rattle.theorems_ending.proofs.Without.{without, shorter}
use Rattle.theorems_ending.proofs.Yields.{Yields, yields, next, within-yields, bounded-yields, each-yields}
use Rattle.theorems_ending.proofs.Fine.{Fine, Any, change}
use Rattle.theorems_ending.proofs.Replaced.{ty-replaced, product-replaced}
use Rattle.theorems_ending.proofs.Weights.{weighCon, weighAll}
use Rattle.theorems_ending.proofs.Weighing.{weigh-append, weigh-all}
use Rattle.theorems_ending.proofs.Steps.{In, Ok, Stepped}
use Rattle.theorems_ending.proofs.Stepping.{Maybe, absent, present, left, try_ok}

-- the most rounds one after another that bind nothing: two for each of the 2,048 records that a state may have
abbrev pub turns : ℕ
turns = 4_096

module _ {N : Type 0} (ν : Names N) where
  abbrev pub OkBinding : Binding N → Type 0
  OkBinding (x ≔ t) = Fine ν Any t

  -- a state whose constraints hold no other variables than these, and weigh no more than a state may
  pub record Over (xs : List N) (s : State N) : Type 0 where
    pub ok : Every (Ok ν xs) s.cons
    pub bound : Every OkBinding s.binds
    pub light : weighAll s.cons ≤ turns

  -- the first step that a rule takes among constraints of the weight w, and the constraints beside it
  abbrev pub Chosen : List N → ℕ → Step N → List (Con N) → Type 0
  Chosen xs w (bind x t) rest = Memᴰ x xs × Fine ν (In (without ν x xs)) t × Every (Ok ν xs) rest
  Chosen xs w (split new) rest = Every (Ok ν xs) new × Every (Ok ν xs) rest × (weighAll rest + weighAll new < w)
  Chosen xs w done rest = Every (Ok ν xs) rest × (weighAll rest < w)
  Chosen xs w stuck rest = ⊥

  abbrev pub First : List N → ℕ → Step N × List (Con N) → Type 0
  First xs w v = Chosen xs w v.0 v.1

  -- the state after it: a binding more and a variable less, or lighter constraints
  abbrev pub Went : List N → ℕ → List (Binding N) → Step N → State N → Type 0
  Went xs w bs (bind x t) s = Over (without ν x xs) s × (length (without ν x xs) < length xs) × (length s.binds ≡ suc (length bs))
  Went xs w bs (split new) s = Over xs s × (weighAll s.cons < w) × (s.binds ≡ bs)
  Went xs w bs done s = Over xs s × (weighAll s.cons < w) × (s.binds ≡ bs)
  Went xs w bs stuck s = ⊥

module _ {N : Type 0} (ν : Names N) (xs : List N) where
  -- ══ The first step ══

  passed : (w : ℕ) (c : Con N) (s : Step N) (rest : List (Con N)) → Ok ν xs c → Chosen ν xs w s rest → Chosen ν xs (weighCon c + w) s (c ∷ rest)
  passed w c (bind x t) rest h k = (k.0, k.1, (h, k.2))
  passed w c (split new) rest h k = (k.0, (h, k.1), omega (arith, k.2))
  passed w c done rest h k = ((h, k.0), omega (arith, k.1))
  passed w c stuck rest h k = k

  taken-ok : {w : ℕ} (s : Step N) (c : Con N) (cs : List (Con N)) (more : Unit {0} → Got (Option (Step N × List (Con N))))
      → Stepped ν xs (weighCon c) s → Ok ν xs c → Every (Ok ν xs) cs → weighAll cs ≤ w → Yields (more tt) (Maybe (First ν xs w))
      → Yields (taken s c cs more) (Maybe (First ν xs (weighCon c + w)))
  unfolding taken
  taken-ok (bind x t) c cs more g h a i k = yields (present {a = (bind x t, cs)} (g.0, g.1, a))
  taken-ok (split new) c cs more g h a i k = yields (present {a = (split new, cs)} (g.0, a, omega (arith, g.1)))
  taken-ok done c cs more g h a i k = yields (present {a = (done, cs)} (a, omega (arith, g)))
  taken-ok {w} stuck c cs more g h a i k = next k (λ r m. yields (go r m))
    where
      go : (r : Option (Step N × List (Con N))) → Maybe (First ν xs w) r → Maybe (First ν xs (weighCon c + w)) (and_then r (λ v. some (v.0, c ∷ v.1)))
      go nothing m = absent
      go (some v) (present m) = present {a = (v.0, c ∷ v.1)} (passed w c v.0 v.1 h m)

module _ {N : Type 0} (ν : Names N) (law : Lawful (orderAtom ν)) (xs : List N) where
  pub first-ok : (l : Limits) (cs : List (Con N)) → Every (Ok ν xs) cs → Yields (firstStep ν l cs) (Maybe (First ν xs (weighAll cs)))
  unfolding firstStep
  first-ok l [] a = yields absent
  first-ok l (c ∷ cs) a = next (try_ok ν law l xs c a.0) (λ s g. taken-ok ν xs s c cs _ g a.0 a.1 (omega arith) (first-ok l cs a.1))

  -- ══ What is done with it ══

  all_any : (os : List (Open N)) → Every Any os
  all_any [] = tt
  all_any (o ∷ os) = (tt, all_any os)

  module _ (l : Limits) (x : N) (t : Ty N) (fine : Fine ν (In (without ν x xs)) t) where
    fine-any : Fine ν Any t
    fine-any = change ν (λ o p q. tt) t fine (all_any (opens t))

    type-replaced : (u : Ty N) → Fine ν (In xs) u → Yields (replaceTy ν l (bindings ν (x ≔ t ∷ [])) u) (Fine ν (In (without ν x xs)))
    type-replaced = ty-replaced ν law l (In xs) (In (without ν x xs)) x t (left ν x xs) fine

    any-replaced : (u : Ty N) → Fine ν Any u → Yields (replaceTy ν l (bindings ν (x ≔ t ∷ [])) u) (Fine ν Any)
    any-replaced = ty-replaced ν law l Any Any x t (λ o p f. tt) fine-any

    con-replaced : (c : Con N) → Ok ν xs c → Yields (replaceCon ν l (bindings ν (x ≔ t ∷ [])) c) (Ok ν (without ν x xs))
    unfolding replaceCon Ok
    con-replaced (equal s u) h = next (type-replaced s h.0) (λ s' i. next (type-replaced u h.1) (λ u' j. yields (i, j)))
    con-replaced (isDim u) h = next (any-replaced u h) (λ u' i. yields i)
    con-replaced (is_scalar p) h = next (product-replaced ν law l (In xs) (In (without ν x xs)) x t (left ν x xs) fine p h) (λ q i. yields i)
    con-replaced (hasField n s u) h = next (type-replaced s h.0) (λ s' i. next (type-replaced u h.1) (λ u' j. yields (i, j)))

    binding-replaced : (b : Binding N) → OkBinding ν b → Yields (replaceBinding ν l (bindings ν (x ≔ t ∷ [])) b) (OkBinding ν)
    unfolding replaceBinding
    binding-replaced (y ≔ u) h = next (any-replaced u h) (λ u' i. yields i)

  -- a state within its limits weighs at most two a record
  limited-ok : {P : State N → Type 0} (s : State N) → (weighAll s.cons ≤ turns → P s) → Yields (limited bounded s) P
  unfolding limited sizeState
  limited-ok s h =
      next (bounded-yields (sizeState s) 2048 s (λ i. h (omega (arith, weigh-all s.cons)))) (λ s' p.
      within-yields bounded (depthState s) 64 s' p)

  pub perform-ok : (w : ℕ) (bs : List (Binding N)) (s : Step N) (rest : List (Con N)) → Every (OkBinding ν) bs → Chosen ν xs w s rest
      → Yields (perform ν bounded bs s rest) (Went ν xs w bs s)
  unfolding perform
  perform-ok w bs (bind x t) rest b k =
      next (each-yields _ (con-replaced bounded x t k.1) rest k.2) (λ cs' c.
      next (each-yields _ (binding-replaced bounded x t k.1) bs b) (λ bs' d.
      limited-ok _ (λ i. (
        record { ok = c.0; bound = every_append (OkBinding ν) bs' (x ≔ t ∷ []) d.0 (fine-any bounded x t k.1, tt); light = i },
        shorter ν x xs k.0,
        simp length-append (omega (arith, d.1)),
      ))))
  perform-ok w bs (split new) rest b k = limited-ok _
      (λ i. (record { ok = every_append (Ok ν xs) rest new k.1 k.0; bound = b; light = i }, rw weigh-append k.2, refl))
  perform-ok w bs done rest b k = limited-ok _ (λ i. (record { ok = k.0; bound = b; light = i }, k.1, refl))
  perform-ok w bs stuck rest b k = absurd k
