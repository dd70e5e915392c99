-- Solving two sets of one closed line that go side by side: round by round the same happens.
use Rattle.std.specs.Prelude.{◌≡◌, Bool, leb}
use Rattle.std.proofs.Math.Path.{refl, ap, subst}
use Rattle.std.proofs.Common.{ap₂, inl}
use Rattle.std.proofs.Math.Bool.{true, false}
use Rattle.std.proofs.Math.Option.{Option, none, some}
use mathlib.Core.List.Memᴰ
use mathlib.Core.List.{List, [], ◌∷◌, ◌++◌}
use Prim.Native.Nat.{ℕ, zero, suc, ◌+◌, max}
use Rattle.rules.specs.Base.{Got, got, refused, ◌>>=◌, bounded, allow, sized, and_then, is_none, each, keep, collect, sum_of, max_of}
use Rattle.rules.specs.Trees.{
  var,
  Names,
  Ty,
  opened,
  basic,
  dim,
  fn,
  struct,
  list,
  Con,
  equal,
  isDim,
  is_scalar,
  hasField,
  Binding,
  ◌≔◌,
  ty-dec,
  orderAtom,
  opens,
  opensCon,
  size,
  depth,
  sizeCon,
  depthCon,
  sizeBinding,
  depthBinding,
}
use Rattle.rules.specs.Contents.{contains, sort}
use Rattle.rules.specs.Replacing.{Look, replaceBinding}
use Rattle.rules.specs.Rounds.{
  Step,
  bind,
  split,
  done,
  stuck,
  State,
  bindTo,
  firstRules,
  trySatisfy,
  taken,
  sizeState,
  depthState,
  limited,
  firstStep,
  perform,
  performed,
  round,
}
use Rattle.rules.specs.Solving.{Answer, accepted, remaining, stopped, boundOf, finished, finish, after, run, solve, enough}
use Rattle.laws.proofs.Alike.{Alike, both, neither, onward}
use Rattle.laws.specs.Order.{Lawful}
use Rattle.laws.specs.Lists.{All, all_nil, all_cons, in_head}
use Rattle.laws.proofs.Lists.{all_append, is-no}
use Rattle.laws.specs.RuleCases.{After}
use Rattle.laws.proofs.RuleCases.{rule, contained}
use Rattle.theorems_lines.proofs.Shut.{Never, Shut, ShutCon, shut-rule, shut-same}
use Rattle.theorems_lines.proofs.Flow.{
  Side,
  shut,
  pair,
  Term,
  side,
  half,
  two,
  Line,
  closed,
  dimension,
  equality,
  Flow,
  end,
  beside,
  define,
  flow-size,
}
use Rattle.theorems_lines.proofs.Putting.{Without, flow-put}

open-shut : {N : Type 0} (v : N) (t : Ty N) → Shut t → opened (var v) ≡ t → ⊥
unfolding opens
open-shut v t h e = (rw (← e) at h) (var v) in_head

module _ {N : Type 0} (ν : Names N) (law : Lawful (orderAtom ν)) (P : N × N → Type 0) where
  abbrev F : List (N × N) → List (Con N) → List (Con N) → Type 0
  F = Flow ν P

  -- ══ Bindings ══

  -- the same closed types, in the same order
  pub data Binds : List (Binding N) → List (Binding N) → Type 0 where
    unbound : Binds [] []
    binds : (x x' : N) (t : Ty N) {bs bs' : List (Binding N)} → P (x, x') → Shut t → Binds bs bs' → Binds (x ≔ t ∷ bs) (x' ≔ t ∷ bs')

  binds-size : {bs bs' : List (Binding N)} → Binds bs bs'
      → (sum_of sizeBinding bs ≡ sum_of sizeBinding bs') × (max_of depthBinding bs ≡ max_of depthBinding bs')
  unfolding sizeBinding depthBinding
  binds-size unbound = (refl, refl)
  binds-size (binds x x' t p h b) = let a = binds-size b in (ap (λ (n : ℕ). suc (size t) + n) a.0, ap (max (depth t)) a.1)

  binds-stay : (look look' : Look N) {bs bs' : List (Binding N)} → Binds bs bs'
      → Alike Binds (each (replaceBinding ν bounded look) bs) (each (replaceBinding ν bounded look') bs')
  unfolding each replaceBinding
  binds-stay look look' unbound = both unbound
  binds-stay look look' (binds x x' t p h b) = rw (shut-same ν bounded look t h, shut-same ν bounded look' t h)
      (onward _ _ (binds-stay look look' b) (λ as' bs q. both (binds x x' t p h q)))

  binds-more : (x x' : N) (t : Ty N) {bs bs' : List (Binding N)} → P (x, x') → Shut t → Binds bs bs' → Binds (bs ++ x ≔ t ∷ []) (bs' ++ x' ≔ t ∷ [])
  binds-more x x' t p h unbound = binds x x' t p h unbound
  binds-more x x' t p h (binds y y' u q g b) = binds y y' u q g (binds-more x x' t p h b)

  -- ══ States ══

  pub record States (s s' : State N) : Type 0 where
    pub flows : F [] s.cons s'.cons
    pub bound : Binds s.binds s'.binds

  limits : (n d : ℕ) (s s' : State N) → States s s' → Alike States (sized bounded n d s) (sized bounded n d s')
  limits n d s s' a = go (leb n 2048) (leb d 64)
    where
      go : (b c : Bool) → Alike States (allow b 8 s >>= λ s. allow c 8 s) (allow b 8 s' >>= λ s. allow c 8 s)
      go false c = neither
      go true false = neither
      go true true = both a

  limited-alike : (s s' : State N) → States s s' → Alike States (limited bounded s) (limited bounded s')
  unfolding limited sizeState depthState
  limited-alike s s' a =
      let f = flow-size ν a.flows in
      let b = binds-size a.bound in
      rw (f.0, f.1, b.0, b.1) (limits (sum_of sizeCon s'.cons + sum_of sizeBinding s'.binds)
      (max (max_of depthCon s'.cons) (max_of depthBinding s'.binds)) s s' a)

  -- ══ The first constraint to which a rule applies ══

  side-shut : {s s' : Ty N} → Side ν [] s s' → (s ≡ s') × Shut s
  side-shut (shut t h) = (refl, h)
  side-shut (pair x x' m) = absurd (Memᴰ.not-nil m)

  term-shut : {s s' : Ty N} → Term ν [] s s' → (s ≡ s') × Shut s
  term-shut (side s) = side-shut s
  term-shut (half x x' e p m l h) = absurd (Memᴰ.not-nil m)
  term-shut (two l l' r r' e m n d d' k) = absurd (Memᴰ.not-nil m)

  line-shut : {c c' : Con N} → Line ν [] c c' → (c ≡ c') × ShutCon c
  unfolding opensCon
  line-shut (closed c h) = (refl, h)
  line-shut (dimension s) = let a = side-shut s in (ap isDim a.0, a.1)
  line-shut (equality {s} {s'} {t} {t'} l r) = let a = side-shut l in let b = side-shut r in (ap₂ equal a.0 b.0, all_append Never (opens s) a.1 b.1)

  data Next (cs cs' : List (Con N)) : Option (Step N × List (Con N)) → Option (Step N × List (Con N)) → Type 0 where
    nothing : cs ≡ cs' → All ShutCon cs → Next cs cs' none none
    parts : (new : List (Con N)) {rest rest' : List (Con N)} → All ShutCon new → F [] rest rest'
        → Next cs cs' (some (split new, rest)) (some (split new, rest'))
    gone : {rest rest' : List (Con N)} → F [] rest rest' → Next cs cs' (some (done, rest)) (some (done, rest'))
    binding : (v v' : N) (t : Ty N) {rest rest' : List (Con N)} → P (v, v') → Shut t → F ((v, v') ∷ []) rest rest'
        → Next cs cs' (some (bind v t, rest)) (some (bind v' t, rest'))

  -- the search goes on behind a closed constraint
  abbrev behind : Con N → Got (Option (Step N × List (Con N))) → Got (Option (Step N × List (Con N)))
  behind c m = m >>= λ r. got (and_then r (λ v. some (v.0, c ∷ v.1)))

  later : (c : Con N) → ShutCon c → {cs cs' : List (Con N)} {m m' : Got (Option (Step N × List (Con N)))} → Alike (Next cs cs') m m'
      → Alike (Next (c ∷ cs) (c ∷ cs')) (behind c m) (behind c m')
  later c h (neither {n = n}) = neither
  later c h (both (nothing e a)) = both (nothing (ap (λ (l : List (Con N)). c ∷ l) e) (all_cons ShutCon h a))
  later c h (both (parts new a f)) = both (parts new a (beside (closed c h) f))
  later c h (both (gone f)) = both (gone (beside (closed c h) f))
  later c h (both (binding v v' t p s f)) = both (binding v v' t p s (beside (closed c h) f))

  -- v = a closed type: v is bound
  pub defines : (v : N) (t : Ty N) → Shut t → trySatisfy ν bounded (equal (opened (var v)) t) ≡ got (bind v t)
  unfolding trySatisfy firstRules bindTo
  defines v t h = rw (is-no (ty-dec ν (opened (var v)) t) (λ e. open-shut v t h e), not_in (contains ν v t) refl)
    where
      not_in : (b : Bool) → contains ν v t ≡ b → contains ν v t ≡ false
      not_in false i = i
      not_in true i = absurd (h (var v) (contained ν v t i))

  stepped : (c : Con N) {cs cs' : List (Con N)} → ShutCon c → F [] cs cs' → Alike (Next cs cs') (firstStep ν bounded cs) (firstStep ν bounded cs')
      → (s : Step N) → After (All ShutCon) (λ x t. ⊥) s
      → Alike (Next (c ∷ cs) (c ∷ cs')) (taken s c cs (λ _. firstStep ν bounded cs)) (taken s c cs' (λ _. firstStep ν bounded cs'))
  unfolding taken
  stepped c h f k (bind x t) a = absurd a
  stepped c h f k (split new) a = both (parts new a f)
  stepped c h f k done a = both (gone f)
  stepped c h f k stuck a = later c h k

  tried : (c : Con N) {cs cs' : List (Con N)} → ShutCon c → F [] cs cs' → Alike (Next cs cs') (firstStep ν bounded cs) (firstStep ν bounded cs')
      → Alike (Next (c ∷ cs) (c ∷ cs')) (firstStep ν bounded (c ∷ cs)) (firstStep ν bounded (c ∷ cs'))
  unfolding firstStep
  tried c {cs} {cs'} h f k = go (trySatisfy ν bounded c) refl
    where
      go : (m : Got (Step N)) → trySatisfy ν bounded c ≡ m
          → Alike (Next (c ∷ cs) (c ∷ cs')) (m >>= λ s. taken s c cs (λ _. firstStep ν bounded cs)) (m >>= λ s. taken s c cs' (λ _. firstStep ν bounded cs'))
      go (refused n) i = neither
      go (got s) i = stepped c h f k s (shut-rule ν c s (rule ν bounded c s i) h)

  first : {cs cs' : List (Con N)} → F [] cs cs' → Alike (Next cs cs') (firstStep ν bounded cs) (firstStep ν bounded cs')
  unfolding firstStep taken
  first end = both (nothing refl (all_nil ShutCon))
  first (beside {c} {c'} {cs} {cs'} l f) = let a = line-shut l
      in subst (λ (d : Con N). Alike (Next (c ∷ cs) (d ∷ cs')) (firstStep ν bounded (c ∷ cs)) (firstStep ν bounded (d ∷ cs'))) a.0
      (tried c a.1 f (first f))
  first (define v v' {t} {t'} {cs} {cs'} p d u f) =
      let a = term-shut u in
      subst (λ (w : Ty N). Alike (Next (equal (opened (var v)) t ∷ cs) (equal (opened (var v')) w ∷ cs'))
      (firstStep ν bounded (equal (opened (var v)) t ∷ cs)) (firstStep ν bounded (equal (opened (var v')) w ∷ cs'))) a.0
      (rw (defines v t a.1, defines v' t a.1) (both (binding v v' t p a.1 f)))

  -- ══ A round ══

  -- the one pair that was defined before is the one that is bound
  only-pair : (v v' : N) (t : Ty N) (h : Shut t) → Without ν law t h v v' ((v, v') ∷ []) []
  only-pair v v' t h = record {
    here = in_head;
    splits = λ x x' m. inl (ap (λ (p : N × N). p.0) (Memᴰ.eq_of_singleton m), ap (λ (p : N × N). p.1) (Memᴰ.eq_of_singleton m));
    within' =
        all_nil _;
  }

  flow-more : {K : List (N × N)} {cs cs' : List (Con N)} (new : List (Con N)) → All ShutCon new → F K cs cs' → F K (cs ++ new) (cs' ++ new)
  flow-more [] a end = end
  flow-more (c ∷ new) a end = beside (closed c (a c in_head)) (flow-more new (λ d m. a d (Memᴰ.tail m)) end)
  flow-more new a (beside l f) = beside l (flow-more new a f)
  flow-more new a (define v v' p d t f) = define v v' p d t (flow-more new a f)

  -- no rule applies, and all constraints are closed; or both go on
  pub data Onward (s s' : State N) : Option (State N) → Option (State N) → Type 0 where
    over : s.cons ≡ s'.cons → All ShutCon s.cons → Onward s s' none none
    on : {a b : State N} → States a b → Onward s s' (some a) (some b)

  goes_on : {s s' : State N} {m m' : Got (State N)} → Alike States m m' → Alike (Onward s s') (m >>= λ a. got (some a)) (m' >>= λ a. got (some a))
  goes_on (neither {n = n}) = neither
  goes_on (both a) = both (on a)

  bound-both : (v v' : N) (t : Ty N) → P (v, v') → Shut t → {bs bs' : List (Binding N)} {cs cs' : List (Con N)} → Binds bs bs'
      → F ((v, v') ∷ []) cs cs' → Alike States (perform ν bounded bs (bind v t) cs) (perform ν bounded bs' (bind v' t) cs')
  unfolding perform
  bound-both v v' t p h b f =
      onward _ _ (flow-put ν law t h v v' (only-pair v v' t h) f) (λ cs cs' g.
      onward _ _ (binds-stay _ _ b) (λ bs bs' c.
      limited-alike (record { cons = cs; binds = bs ++ v ≔ t ∷ [] }) (record { cons = cs'; binds = bs' ++ v' ≔ t ∷ [] })
      (record { flows = g; bound = binds-more v v' t p h c })))

  performs : {s s' : State N} {o o' : Option (Step N × List (Con N))} → Binds s.binds s'.binds → Next s.cons s'.cons o o'
      → Alike (Onward s s') (performed ν bounded s.binds o) (performed ν bounded s'.binds o')
  unfolding performed perform
  performs b (nothing e a) = both (over e a)
  performs {s} {s'} b (parts new {rest} {rest'} a f) = goes_on
      (limited-alike (record { cons = rest ++ new; binds = s.binds }) (record { cons = rest' ++ new; binds = s'.binds })
      (record { flows = flow-more new a f; bound = b }))
  performs {s} {s'} b (gone {rest} {rest'} f) = goes_on
      (limited-alike (record { cons = rest; binds = s.binds }) (record { cons = rest'; binds = s'.binds }) (record { flows = f; bound = b }))
  performs b (binding v v' t p h f) = goes_on (bound-both v v' t p h b f)

  pub rounds : (s s' : State N) → States s s' → Alike (Onward s s') (round ν bounded s) (round ν bounded s')
  unfolding round
  rounds s s' a = onward _ _ (first a.flows) (λ o o' n. performs a.bound n)

  -- ══ All rounds ══

  pub data Answers : Answer N → Answer N → Type 0 where
    accepts : {bs bs' : List (Binding N)} (k : ℕ) → Binds bs bs' → Answers (accepted bs [] k) (accepted bs' [] k)
    remains : (cs : List (Con N)) (k : ℕ) → Answers (remaining cs k) (remaining cs k)
    stops : (n k : ℕ) → Answers (stopped n k) (stopped n k)

  -- a closed constraint gives no bound
  pub no_bound : (c : Con N) → ShutCon c → boundOf c ≡ none
  unfolding boundOf opensCon opens
  no_bound (equal s t) h = refl
  no_bound (isDim (opened o)) h = absurd (h o in_head)
  no_bound (isDim (basic b)) h = refl
  no_bound (isDim (dim p)) h = refl
  no_bound (isDim (fn ps r)) h = refl
  no_bound (isDim (struct n as' fs)) h = refl
  no_bound (isDim (list t)) h = refl
  no_bound (is_scalar p) h = refl
  no_bound (hasField n s t) h = refl

  ends-alike : (cs : List (Con N)) → All ShutCon cs → (k : ℕ) (bs bs' : List (Binding N)) → Binds bs bs'
      → Answers (finish ν k (record { cons = cs; binds = bs })) (finish ν k (record { cons = cs; binds = bs' }))
  unfolding finish finished keep collect sort
  ends-alike [] a k bs bs' b = accepts k b
  ends-alike (c ∷ cs) a k bs bs' b = rw (no_bound c (a c in_head), keep) (remains (c ∷ keep (λ c. is_none (boundOf c)) cs) k)

  turned : (f k : ℕ) (s s' : State N) → States s s' → {m m' : Got (Option (State N))} → Alike (Onward s s') m m'
      → ((r r' : State N) → States r r' → Answers (run ν bounded f (suc k) r) (run ν bounded f (suc k) r'))
      → Answers (after ν m k s (λ r. run ν bounded f (suc k) r)) (after ν m' k s' (λ r. run ν bounded f (suc k) r))
  unfolding after
  turned f k s s' a (neither {n = n}) more = stops n k
  turned f k s s' a (both (over e c)) more = subst
      (λ (cs : List (Con N)). Answers (finish ν k s) (finish ν k (record { cons = cs; binds = s'.binds }))) e
      (ends-alike s.cons c k s.binds s'.binds a.bound)
  turned f k s s' a (both (on {a = r} {b = r'} b)) more = more r r' b

  runs-alike : (f k : ℕ) (s s' : State N) → States s s' → Answers (run ν bounded f k s) (run ν bounded f k s')
  unfolding run
  runs-alike zero k s s' a = stops 0 k
  runs-alike (suc f) k s s' a = turned f k s s' a (rounds s s' a) (λ r r' b. runs-alike f (suc k) r r' b)

  pub solves-alike : (cs cs' : List (Con N)) → F [] cs cs' → Answers (solve ν bounded cs) (solve ν bounded cs')
  unfolding solve
  solves-alike cs cs' f = runs-alike enough 0 (record { cons = cs; binds = [] }) (record { cons = cs'; binds = [] }) (record { flows = f; bound = unbound })
