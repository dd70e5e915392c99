-- What follows from the definitions of specs/ExactSolve: where the bounded solver answers without 7 and 8, the exact solver answers the same.
use Rattle.std.specs.Prelude.{◌≡◌, refl}
use Rattle.std.proofs.Math.Option.{Option, none, some}
use mathlib.Core.List.{List, [], ◌∷◌}
use Prim.Native.Nat.{ℕ, zero, suc}
use Rattle.rules.specs.Base.{Got, got, refused, bounded, exact, each}
use Rattle.rules.specs.Exponents.{Exp, neg, inverted, timesInverse, quotient}
use Rattle.rules.specs.Trees.{
  var,
  quant,
  par,
  free,
  base,
  Factor,
  ◌↑◌,
  Product,
  Names,
  Ty,
  opened,
  basic,
  dim,
  fn,
  struct,
  list,
  Con,
  equal,
  isDim,
  is_scalar,
  hasField,
  Binding,
  ◌≔◌,
}
use Rattle.rules.specs.Views.{productOf, asVar}
use Rattle.rules.specs.Replacing.{Look, replaceCon, replaceBinding, replaceProduct, bindings}
use Rattle.rules.specs.Rounds.{
  Step,
  bind,
  split,
  done,
  stuck,
  State,
  firstRules,
  orTry,
  dimensions,
  otherSide,
  taken,
  performed,
  by_kind,
  trySatisfy,
  firstStep,
  sizeState,
  depthState,
  limited,
  perform,
  round,
}
use Rattle.rules.specs.Solving.{Answer, after, run}
use Rattle.laws.specs.Exact.{Below}
use Rattle.laws.proofs.Exact.{same, next, sized-below, times_below, divide-below, factors-below, ty_below}
use Rattle.laws.specs.ExactSolve.{Settled}

quotient-below : (a b : Exp) → Below (quotient bounded a b) (quotient exact a b)
unfolding quotient
quotient-below a b = go (inverted b)
  where
    go : (i : Option Exp) → Below (timesInverse bounded a i) (timesInverse exact a i)
    go none = same _
    go (some c) = times_below a c

each_below : {A B : Type 0} (f g : A → Got B) → ((a : A) → Below (f a) (g a)) → (xs : List A) → Below (each f xs) (each g xs)
unfolding each
each_below f g h [] = same _
each_below f g h (x ∷ xs) = next (h x) (λ y. next (each_below f g h xs) (λ ys. same _))

module _ {N : Type 0} (ν : Names N) where
  dimensions-below : (d : Product N) (e : Option (Product N)) (x : Option N) → Below (dimensions ν bounded d e x) (dimensions ν exact d e x)
  unfolding dimensions
  dimensions-below d none x = same _
  dimensions-below d (some e) x = next (divide-below ν d e) (λ q. same _)

  kind-below : (s t : Ty N) → Below (by_kind ν bounded s t) (by_kind ν exact s t)
  unfolding by_kind
  kind-below (opened o) u = same _
  kind-below (basic b) u = same _
  kind-below (dim d) u = dimensions-below d (productOf u) (asVar u)
  kind-below (fn ps r) u = same _
  kind-below (struct n as' fs) u = same _
  kind-below (list t) u = same _

  or-below : (o : Option (Step N)) (m n : Got (Step N)) → Below m n → Below (orTry o m) (orTry o n)
  or-below none m n h = h
  or-below (some r) m n h = same _

  other-below : (k : Exp) (f : Factor N) → Below (otherSide bounded k f) (otherSide exact k f)
  unfolding otherSide
  other-below k (a ↑ j) = next (quotient-below (neg j) k) (λ e. same _)

  pub others_below : (k : Exp) (p : Product N) → Below (each (otherSide bounded k) p) (each (otherSide exact k) p)
  others_below k p = each_below _ _ (other-below k) p

  try-below : (c : Con N) → Below (trySatisfy ν bounded c) (trySatisfy ν exact c)
  unfolding trySatisfy
  try-below (equal s t) = or-below (firstRules ν s t) _ _ (kind-below s t)
  try-below (isDim t) = same _
  try-below (is_scalar []) = same _
  try-below (is_scalar (free (var x) ↑ k ∷ p)) = next (others_below k p) (λ q. same _)
  try-below (is_scalar (free (quant i) ↑ k ∷ p)) = same _
  try-below (is_scalar (free (par x) ↑ k ∷ p)) = same _
  try-below (is_scalar (base n ↑ k ∷ p)) = same _
  try-below (hasField n s t) = same _

  taken-below : (s : Step N) (c : Con N) (cs : List (Con N)) (m n : Unit {0} → Got (Option (Step N × List (Con N)))) → Below (m tt) (n tt)
      → Below (taken s c cs m) (taken s c cs n)
  unfolding taken
  taken-below (bind x t) c cs m n h = same _
  taken-below (split new) c cs m n h = same _
  taken-below done c cs m n h = same _
  taken-below stuck c cs m n h = next h (λ r. same _)

  first_below : (cs : List (Con N)) → Below (firstStep ν bounded cs) (firstStep ν exact cs)
  unfolding firstStep
  first_below [] = same _
  first_below (c ∷ cs) = next (try-below c) (λ s. taken-below s c cs _ _ (first_below cs))

  pub con-below : (look : Look N) (c : Con N) → Below (replaceCon ν bounded look c) (replaceCon ν exact look c)
  unfolding replaceCon replaceProduct
  con-below look (equal s t) = next (ty_below ν look s) (λ s'. next (ty_below ν look t) (λ t'. same _))
  con-below look (isDim t) = next (ty_below ν look t) (λ t'. same _)
  con-below look (is_scalar p) = next (factors-below ν look p p) (λ q. same _)
  con-below look (hasField n s t) = next (ty_below ν look s) (λ s'. next (ty_below ν look t) (λ t'. same _))

  pub binding-below : (look : Look N) (b : Binding N) → Below (replaceBinding ν bounded look b) (replaceBinding ν exact look b)
  unfolding replaceBinding
  binding-below look (x ≔ t) = next (ty_below ν look t) (λ t'. same _)

  limited-below : (s : State N) → Below (limited bounded s) (limited exact s)
  unfolding limited
  limited-below s = sized-below (sizeState s) (depthState s) s

  perform-below : (bs : List (Binding N)) (s : Step N) (cs : List (Con N)) → Below (perform ν bounded bs s cs) (perform ν exact bs s cs)
  unfolding perform
  perform-below bs (bind x t) cs =
      next (each_below _ _ (con-below (bindings ν (x ≔ t ∷ []))) cs) (λ cs'.
      next (each_below _ _ (binding-below (bindings ν (x ≔ t ∷ []))) bs) (λ bs'. limited-below _))
  perform-below bs (split new) cs = limited-below _
  perform-below bs done cs = limited-below _
  perform-below bs stuck cs = same _

  performed-below : (bs : List (Binding N)) (f : Option (Step N × List (Con N))) → Below (performed ν bounded bs f) (performed ν exact bs f)
  unfolding performed
  performed-below bs none = same _
  performed-below bs (some v) = next (perform-below bs v.0 v.1) (λ s. same _)

  round-below : (s : State N) → Below (round ν bounded s) (round ν exact s)
  unfolding round
  round-below s = next (first_below s.cons) (performed-below s.binds)

  after-below : (m n : Got (Option (State N))) (k : ℕ) (s : State N) (f g : State N → Answer N) → Below m n
      → ((s : State N) → Settled ν (f s) → g s ≡ f s) → Settled ν (after ν m k s f) → after ν n k s g ≡ after ν m k s f
  unfolding after
  after-below (refused r) n k s f g b h t = absurd t
  after-below (got none) n k s f g b h t = rw (b.gives none refl)
  after-below (got (some s')) n k s f g b h t = rw (b.gives (some s') refl) (h s' t)

  pub run-below : (f k : ℕ) (s : State N) → Settled ν (run ν bounded f k s) → run ν exact f k s ≡ run ν bounded f k s
  unfolding run
  run-below zero k s t = absurd t
  run-below (suc f) k s t = after-below (round ν bounded s) (round ν exact s) k s _ _ (round-below s) (λ s' t. run-below f (suc k) s' t) t
