-- With closed references, a line's answer depends on the lent names in no way, not even on the order of their bytes; only the judge's 7 and 8 may.
use Rattle.std.specs.Prelude.{◌≡◌, Bool, ◌⊎◌, leb, length}
use Rattle.std.proofs.Math.Path.{refl, ap, sym, subst}
use Rattle.std.proofs.Common.{◌∙◌}
use Rattle.std.proofs.Math.Bool.{true, false}
use Rattle.std.proofs.Math.Option.{Option, none, some, get_or}
use Rattle.std.proofs.Math.Logic.{inl, inr}
use mathlib.Core.List.Memᴰ
use mathlib.Core.List.{List, [], ◌∷◌, Memᴰ}
use Prim.Native.Nat.{ℕ, ◌≤◌, Ordering}
use Rattle.rules.specs.Base.{Got, got, refused, ◌>>=◌, need, orRefuse, bounded, is_yes, collect, sum_of}
use Rattle.rules.specs.Exponents.{Exp}
use Rattle.rules.specs.Trees.{Open, var, par, Names, Ty, opened, dim, Con, Binding, ◌≔◌, opens, opensCon, sizeCon}
use Rattle.rules.specs.Contents.{unmixed}
use Rattle.rules.specs.Plain.{plain}
use Rattle.rules.specs.Replacing.{replaceTy, find, bindings}
use Rattle.rules.specs.Solving.{Answer, solve}
use Rattle.rules.specs.Judging.{judge}
use Rattle.rules.specs.Meaning.{Solves}
use Rattle.rules.specs.WellFormed.{goodCon, goodBinding}
use Rattle.laws.proofs.Alike.{Alike, both, neither}
use Rattle.laws.proofs.ByteOrder.{atom-lawful}
use Rattle.laws.proofs.Contents.{apart-names}
use Rattle.laws.proofs.Given.{or-some}
use Rattle.laws.specs.Lists.{All, all_nil, all_cons, in_head, Every, all-every}
use Rattle.laws.proofs.Lists.{some≢none, all_append, map-to, bound-step, is-no, yes-is, no-is, is_all, is-yes}
use Rattle.theorems_soundness.specs.Claims.{Ordered, Once, YesOrLimits}
use Rattle.theorems_soundness.proofs.Soundness.{solved-form, yes-solves}
use Rattle.theorems_soundness.proofs.Judged.{solution-judged}
use Rattle.rules.specs.Steps.{LineStep, whole}
use Rattle.rules.specs.Lines.{its, twoFactors, constraints, last_of, settled, agreed, settledSet, agreedSet, lineType}
use Rattle.theorems_lines.proofs.Shut.{Never}
use Rattle.theorems_lines.proofs.Flow.{
  Side,
  shut,
  pair,
  Term,
  side,
  half,
  two,
  Line,
  closed,
  dimension,
  equality,
  Differs,
  Flow,
  end,
  beside,
  define,
  flow-size,
}
use Rattle.theorems_lines.proofs.Lockstep.{Binds, unbound, binds, Answers, accepts, remains, stops, solves-alike}
use Rattle.theorems_lines.proofs.Beginning.{firsts, seconds, Lent, Coming, begins}
use Rattle.theorems_lines.specs.FormedSteps.{FormedStep}
use Rattle.theorems_lines.proofs.Formed.{constraints-formed}
use Rattle.theorems_lines.proofs.Matching.{Matches, Fact, closed-reads}
use Rattle.theorems_lines.proofs.Stacks.{Ready, runs, last-from}
use Rattle.theorems_lines.proofs.Carried.{carries}
use Rattle.theorems_lines.proofs.Words.{set-settled, agreed-is}

-- ══ No parameter stands in the set of a closed line ══

module _ {N : Type 0} (ν : Names N) (P : N × N → Type 0) where
  abbrev NoPar : Open N → Type 0
  NoPar o = (x : N) → ¬ (o ≡ par x)

  var-no-par : (x : N) → NoPar (var x)
  var-no-par x y e = cc

  shut-no-par : (os : List (Open N)) → All Never os → All NoPar os
  shut-no-par os h o m = absurd (h o m)

  side-no-par : {K : List (N × N)} {s s' : Ty N} → Side ν K s s' → All NoPar (opens s) × All NoPar (opens s')
  unfolding opens
  side-no-par (shut t h) = (shut-no-par (opens t) h, shut-no-par (opens t) h)
  side-no-par (pair x x' m) = (all_cons NoPar (var-no-par x) (all_nil NoPar), all_cons NoPar (var-no-par x') (all_nil NoPar))

  two-no-par : (l r : N) (e : Exp) → All NoPar (opens (dim (twoFactors ν l r e)))
  unfolding opens collect twoFactors
  two-no-par l r e = go (ν.order l r) refl
    where
      go : (o : Ordering) → ν.order l r ≡ o → All NoPar (opens (dim (twoFactors ν l r e)))
      go Ordering.lt i = rw (i, twoFactors) (all_cons NoPar (var-no-par l) (all_cons NoPar (var-no-par r) (all_nil NoPar)))
      go Ordering.eq i = rw (i, twoFactors) (all_cons NoPar (var-no-par l) (all_cons NoPar (var-no-par r) (all_nil NoPar)))
      go Ordering.gt i = rw (i, twoFactors) (all_cons NoPar (var-no-par r) (all_cons NoPar (var-no-par l) (all_nil NoPar)))

  term-no-par : {K : List (N × N)} {s s' : Ty N} → Term ν K s s' → All NoPar (opens s) × All NoPar (opens s')
  unfolding opens collect
  term-no-par (side s) = side-no-par s
  term-no-par (half x x' e p m l h) = (all_cons NoPar (var-no-par x) (shut-no-par _ h), all_cons NoPar (var-no-par x') (shut-no-par _ h))
  term-no-par (two l l' r r' e m n d d' k) = (two-no-par l r e, two-no-par l' r' e)

  line-no-par : {K : List (N × N)} {c c' : Con N} → Line ν K c c' → All NoPar (opensCon c) × All NoPar (opensCon c')
  unfolding opensCon
  line-no-par (closed c h) = (shut-no-par _ h, shut-no-par _ h)
  line-no-par (dimension s) = side-no-par s
  line-no-par (equality {s} {s'} {t} {t'} l r) = let a = side-no-par l in let b = side-no-par r
      in (all_append NoPar (opens s) a.0 b.0, all_append NoPar (opens s') a.1 b.1)

  pub flow-no-par : {K : List (N × N)} {cs cs' : List (Con N)} → Flow ν P K cs cs' → All NoPar (collect opensCon cs) × All NoPar (collect opensCon cs')
  unfolding collect opensCon opens
  flow-no-par end = (all_nil NoPar, all_nil NoPar)
  flow-no-par (beside {c = c} {c' = c'} l f) = let a = line-no-par l in let b = flow-no-par f
      in (all_append NoPar (opensCon c) a.0 b.0, all_append NoPar (opensCon c') a.1 b.1)
  flow-no-par (define v v' {t = t} {t' = t'} p d u f) =
      let a = term-no-par u in
      let b = flow-no-par f in (
        all_append NoPar (var v ∷ opens t) (all_cons NoPar (var-no-par v) a.0) b.0,
        all_append NoPar (var v' ∷ opens t') (all_cons NoPar (var-no-par v') a.1) b.1,
      )

  pub unmixed-set : (os : List (Open N)) → All NoPar os → unmixed ν os ≡ true
  unmixed-set os h = apart-names ν (λ x. ⊥) os (λ x m e. e) (λ x m. h (par x) m x refl)

-- ══ Two lists of lent names, as one list of pairs ══

module _ {N : Type 0} where
  -- a name stands once in a list: the pair is found by it
  first-once : (ps : List (N × N)) → Once (firsts ps) → (p q : N × N) → Memᴰ p ps → Memᴰ q ps → p.0 ≡ q.0 → p ≡ q
  first-once [] o p q m n e = absurd (Memᴰ.not-nil m)
  first-once (r ∷ ps) o p q m n e = go (Memᴰ.cases_cons m) (Memᴰ.cases_cons n) (λ i j. first-once ps o.1 p q i j e)
    where
      go : (p ≡ r) ⊎ Memᴰ p ps → (q ≡ r) ⊎ Memᴰ q ps → (Memᴰ p ps → Memᴰ q ps → p ≡ q) → p ≡ q
      go (inl i) (inl j) k = i ∙ sym j
      go (inl i) (inr j) k = absurd (o.0 (subst (λ (x : N). Memᴰ x (firsts ps)) (sym e ∙ ap (λ (s : N × N). s.0) i) (map-to (λ (s : N × N). s.0) ps q j)))
      go (inr i) (inl j) k = absurd (o.0 (subst (λ (x : N). Memᴰ x (firsts ps)) (e ∙ ap (λ (s : N × N). s.0) j) (map-to (λ (s : N × N). s.0) ps p i)))
      go (inr i) (inr j) k = k i j

  second-once : (ps : List (N × N)) → Once (seconds ps) → (p q : N × N) → Memᴰ p ps → Memᴰ q ps → p.1 ≡ q.1 → p ≡ q
  second-once [] o p q m n e = absurd (Memᴰ.not-nil m)
  second-once (r ∷ ps) o p q m n e = go (Memᴰ.cases_cons m) (Memᴰ.cases_cons n) (λ i j. second-once ps o.1 p q i j e)
    where
      go : (p ≡ r) ⊎ Memᴰ p ps → (q ≡ r) ⊎ Memᴰ q ps → (Memᴰ p ps → Memᴰ q ps → p ≡ q) → p ≡ q
      go (inl i) (inl j) k = i ∙ sym j
      go (inl i) (inr j) k = absurd (o.0 (subst (λ (x : N). Memᴰ x (seconds ps)) (sym e ∙ ap (λ (s : N × N). s.1) i) (map-to (λ (s : N × N). s.1) ps q j)))
      go (inr i) (inl j) k = absurd (o.0 (subst (λ (x : N). Memᴰ x (seconds ps)) (e ∙ ap (λ (s : N × N). s.1) j) (map-to (λ (s : N × N). s.1) ps p i)))
      go (inr i) (inr j) k = k i j

  -- the variable of the last step, in both lists
  last-pair : (ps : List (N × N)) (ss : List (LineStep N)) (v : N) → last_of (firsts ps) ss ≡ some v
      → (p : N × N) × Memᴰ p ps × (p.0 ≡ v) × (last_of (seconds ps) ss ≡ some p.1)
  unfolding last_of
  last-pair ps [] v e = absurd (some≢none (sym e))
  last-pair [] (s ∷ ss) v e = absurd (some≢none (sym e))
  last-pair (p ∷ ps) (s ∷ []) v e = (p, in_head, cc, refl)
  last-pair (p ∷ ps) (s ∷ s' ∷ ss) v e = let r = last-pair ps (s' ∷ ss) v e in (r.0, Memᴰ.tail r.1, r.2, r.3)

module _ {N : Type 0} (ν : Names N) (held : N → Bool) (ord : Ordered ν held) (ps : List (N × N)) (once : Once (firsts ps))
    (once' : Once (seconds ps)) (lent : All (Lent ν held ord ps) ps) where
  abbrev P : N × N → Type 0
  P = Lent ν held ord ps

  coming : (K qs : List (N × N)) → Once (firsts qs) → Once (seconds qs) → All (λ p. All (Differs ν p.0 p.1) K) qs → All P qs → Coming ν held ord ps K qs
  coming K [] o o' d h = tt
  coming K (p ∷ qs) o o' d h = (
    h p in_head,
    d p in_head,
    coming (p ∷ K) qs o.1 o'.1 (λ q m. all_cons _ (differs q m) (d q (Memᴰ.tail m))) (λ q m. h q (Memᴰ.tail m)),
  )
    where
      differs : (q : N × N) → Memᴰ q qs → Differs ν q.0 q.1 p
      differs q m = (
        λ e. o.0 (subst (λ (x : N). Memᴰ x (firsts qs)) (sym e) (map-to (λ (s : N × N). s.0) qs q m)),
        λ e. o'.0 (subst (λ (x : N). Memᴰ x (seconds qs)) (sym e) (map-to (λ (s : N × N). s.1) qs q m)),
      )

  -- what is bound on the left is bound on the right, to the same type
  finds : {bs bs' : List (Binding N)} → Binds ν (atom-lawful ν ord.lawful) P bs bs' → (p : N × N) → P p → (t : Ty N) → find ν bs p.0 ≡ some t
      → find ν bs' p.1 ≡ some t
  unfolding find
  finds unbound p h t e = absurd (some≢none (sym e))
  finds (binds y y' u {bs} {bs'} k s b) p h t e = go (is_yes (ν.same p.0 y)) refl (finds b p h t)
    where
      go : (z : Bool) → is_yes (ν.same p.0 y) ≡ z → (find ν bs p.0 ≡ some t → find ν bs' p.1 ≡ some t) → find ν (y' ≔ u ∷ bs') p.1 ≡ some t
      go true i more =
          let q : p ≡ (y, y') = first-once ps once p (y, y') h.listed k.listed (yes-is (ν.same p.0 y) i) in
          let w : some u ≡ some t = rw (i, find) at e in
          rw (is-yes (ν.same p.1 y') (ap (λ (s : N × N). s.1) q), find) w
      go false i more =
          rw (
            is-no (ν.same p.1 y') (λ j. no-is (ν.same p.0 y) i (ap (λ (s : N × N). s.0) (second-once ps once' p (y, y') h.listed k.listed j))),
            find,
          ) (more (rw (i, find) at e))

  module _ (ss : List (LineStep N)) (formed : Every (FormedStep ν held) ss) (ready : Every Ready ss) where
    abbrev cs : List (Con N)
    cs = constraints ν (firsts ps) [] ss

    abbrev cs' : List (Con N)
    cs' = constraints ν (seconds ps) [] ss

    abbrev BindsHere : List (Binding N) → List (Binding N) → Type 0
    BindsHere = Binds ν (atom-lawful ν ord.lawful) P

    pub flow : Flow ν P [] cs cs'
    flow = begins ν held ord ps ss ps [] [] (all_nil P) tt (coming [] ps once once' (λ p m. all_nil _) lent) ready

    -- ══ The solver: the same refusal, or the same types ══

    pub record Found (f f' : List (Binding N) × List N) : Type 0 where
      pub bound : BindsHere f.0 f'.0
      pub no-bounds : f.1 ≡ []
      pub no-bounds' : f'.1 ≡ []

    answered : {a a' : Answer N} → Answers ν (atom-lawful ν ord.lawful) P a a' → Alike Found (settled a) (settled a')
    unfolding settled
    answered (accepts k b) = both (record { bound = b; no-bounds = refl; no-bounds' = refl })
    answered (remains cs k) = neither
    answered (stops n k) = neither

    pub settled-alike : Alike Found (settledSet ν cs) (settledSet ν cs')
    unfolding settledSet
    settled-alike =
        let z = (flow-size ν flow).0 in
        let u = flow-no-par ν P flow in
        rw (z, unmixed-set ν P (collect opensCon cs) u.0, unmixed-set ν P (collect opensCon cs') u.1) (go (leb (sum_of sizeCon cs') 2048))
      where
        go : (b : Bool) → Alike Found (need b 8 >>= λ _. settled (solve ν bounded cs)) (need b 8 >>= λ _. settled (solve ν bounded cs'))
        go true = answered (solves-alike ν (atom-lawful ν ord.lawful) P cs cs' flow)
        go false = neither

    -- ══ The judge ══

    firsts-held : (qs : List (N × N)) → All P qs → Every (λ x. held x ≡ true) (firsts qs)
    firsts-held [] h = tt
    firsts-held (q ∷ qs) h = ((h q in_head).first-held, firsts-held qs (λ r m. h r (Memᴰ.tail m)))

    seconds-held : (qs : List (N × N)) → All P qs → Every (λ x. held x ≡ true) (seconds qs)
    seconds-held [] h = tt
    seconds-held (q ∷ qs) h = ((h q in_head).second-held, seconds-held qs (λ r m. h r (Memᴰ.tail m)))

    pub good-cs : All (λ c. goodCon ν held 0 c ≡ true) cs
    good-cs = constraints-formed ν held ord ss (firsts ps) []
        (record { stack = tt; coming = once; disjoint = tt; stack-held = tt; coming-held = firsts-held ps lent }) formed

    good-cs' : All (λ c. goodCon ν held 0 c ≡ true) cs'
    good-cs' = constraints-formed ν held ord ss (seconds ps) []
        (record { stack = tt; coming = once'; disjoint = tt; stack-held = tt; coming-held = seconds-held ps lent }) formed

    -- bindings that the solver gave are well formed
    bindings-good : (ds : List (Con N)) → All (λ c. goodCon ν held 0 c ≡ true) ds → (f : List (Binding N) × List N) → settledSet ν ds ≡ got f
        → All (λ b. goodBinding ν held 0 b ≡ true) f.0
    bindings-good ds g f e =
        let s = set-settled ν ds f e in
        (solved-form ν held ord ds (record { well-formed = is_all (goodCon ν held 0) ds g; apart = s.1 }) f.0 f.1 s.0 s.2).bindings-good

    -- where the judge said yes, the last step has a variable
    pub last-there : (f : List (Binding N) × List N) → settledSet ν cs ≡ got f → judge ν bounded f.0 f.1 cs ≡ got true → whole 0 ss ≡ true
        → length ss ≤ length (firsts ps) → (v : N) × (last_of (firsts ps) ss ≡ some v)
    last-there f e j complete long =
        let good = bindings-good cs good-cs f e in
        let n = runs ν held ord f.0 f.1 good ss (firsts ps) [] [] tt complete long ready
        (λ c m. record { formed = good-cs c m; true-under = yes-solves ν cs f.0 f.1 j c m }) in
        (n.variable, last-from (firsts ps) ss ∙ n.last)

    module _ (f f' : List (Binding N) × List N) (e : settledSet ν cs ≡ got f) (e' : settledSet ν cs' ≡ got f') (found : Found f f')
        (yes' : judge ν bounded f.0 f.1 cs ≡ got true) where
      good : All (λ b. goodBinding ν held 0 b ≡ true) f.0
      good = bindings-good cs good-cs f e

      good' : All (λ b. goodBinding ν held 0 b ≡ true) f'.0
      good' = bindings-good cs' good-cs' f' e'

      all_true : Solves ν cs f.0 []
      all_true = yes-solves ν cs f.0 [] (subst (λ (ns : List N). judge ν bounded f.0 ns cs ≡ got true) found.no-bounds yes')

      facts : All (Fact ν held ord f.0 [] good) cs
      facts c m = record { formed = good-cs c m; true-under = all_true c m }

      same-bound : (p : N × N) → P p → (t : Ty N) → bindings ν f.0 (var p.0) ≡ some t → bindings ν f'.0 (var p.1) ≡ some t
      unfolding bindings
      same-bound p h t i = finds found.bound p h t i

      judged-alike : YesOrLimits (judge ν bounded f'.0 f'.1 cs')
      judged-alike =
          subst (λ (ns : List N). YesOrLimits (judge ν bounded f'.0 ns cs')) (sym found.no-bounds')
          (solution-judged ν f'.0 [] cs' (carries ν held ord f.0 f'.0 good good' P same-bound ss ps [] [] tt tt (all-every P ps lent) ready facts good-cs'))

      -- a variable that matches a closed type is bound
      bound-type : (p : N × N) → P p → (u : Ty N) → Matches ν held ord f.0 [] good p.0 u → (ty : Ty N)
          → got (get_or (bindings ν f.0 (var p.0)) (opened (var p.0))) ≡ got ty
          → got (get_or (bindings ν f'.0 (var p.1)) (opened (var p.1))) ≡ got ty
      unfolding plain
      bound-type p h u m ty k = go (bindings ν f.0 (var p.0)) refl
        where
          go : (o : Option (Ty N)) → bindings ν f.0 (var p.0) ≡ o → got (get_or (bindings ν f'.0 (var p.1)) (opened (var p.1))) ≡ got ty
          go none i = absurd (closed-reads u (var p.0) m.closed (sym m.same ∙ ap (λ (o : Option (Ty N)). plain (get_or o (opened (var p.0))) false) i))
          go (some w) i = ap (λ (o : Option (Ty N)). got (get_or o (opened (var p.1)))) (same-bound p h w i)
              ∙ sym (ap (λ (o : Option (Ty N)). got (get_or o (opened (var p.0)))) i) ∙ k

      -- the type of the last step's variable
      last-type : whole 0 ss ≡ true → length ss ≤ length (firsts ps) → (v : N) (ty : Ty N) → last_of (firsts ps) ss ≡ some v
          → replaceTy ν bounded (bindings ν f.0) (its v) ≡ got ty
          → (w : N) × (last_of (seconds ps) ss ≡ some w) × (replaceTy ν bounded (bindings ν f'.0) (its w) ≡ got ty)
      unfolding replaceTy plain
      last-type complete long v ty l r =
          let q = last-pair ps ss v l in
          let n = runs ν held ord f.0 [] good ss (firsts ps) [] [] tt complete long ready facts in
          let i : some n.variable ≡ some v = sym n.last ∙ sym (last-from (firsts ps) ss) ∙ l in
          let j : n.variable ≡ q.0.0 = cc q.2 in
          let k : got (get_or (bindings ν f.0 (var q.0.0)) (opened (var q.0.0))) ≡ got ty =
          ap (λ (x : N). got (get_or (bindings ν f.0 (var x)) (opened (var x)))) q.2 ∙ r in
          let m = subst (λ (x : N). Matches ν held ord f.0 [] good x n.type) j n.matches in
          (q.0.1, q.3, bound-type q.0 (lent q.0 q.1) n.type m ty k)

    -- ══ The answer ══

    abbrev Same : Got (Ty N) → Ty N → Type 0
    Same m ty = (m ≡ got ty) ⊎ ((m ≡ refused 7) ⊎ (m ≡ refused 8))

    both-got : {m m' : Got (List (Binding N) × List N)} → Alike Found m m' → (f : List (Binding N) × List N) → m ≡ got f
        → (f' : List (Binding N) × List N) × (m' ≡ got f') × Found f f'
    both-got (neither {n = n}) f e = absurd (cc)
    both-got (both {a} {b} r) f e = let z : a ≡ f = cc in (b, refl, subst (λ (g : List (Binding N) × List N). Found g b) z r)

    abbrev other : Got (Ty N)
    other = lineType ν ss (seconds ps)

    settles : (f' : List (Binding N) × List N) (w : N) (ty : Ty N) → settledSet ν cs' ≡ got f' → last_of (seconds ps) ss ≡ some w
        → replaceTy ν bounded (bindings ν f'.0) (its w) ≡ got ty → YesOrLimits (judge ν bounded f'.0 f'.1 cs') → Same other ty
    unfolding lineType agreedSet agreed
    settles f' w ty e l r (inl j) = inl (rw (e, j, l, r))
    settles f' w ty e l r (inr (inl j)) = inr (inl (rw (e, j)))
    settles f' w ty e l r (inr (inr j)) = inr (inr (rw (e, j)))

    pub answered-alike : whole 0 ss ≡ true → length ss ≤ length (firsts ps) → (ty : Ty N) → lineType ν ss (firsts ps) ≡ got ty → Same other ty
    unfolding lineType agreedSet
    answered-alike complete long ty i =
        let a = bound-step (agreedSet ν cs) _ ty i in
        let b = bound-step (orRefuse 1 (last_of (firsts ps) ss)) _ ty a.2 in
        let c = bound-step (settledSet ν cs) _ a.0 a.1 in
        let d = bound-step (agreed (judge ν bounded c.0.0 c.0.1 cs)) _ a.0 c.2 in
        let z : c.0.0 ≡ a.0 = cc d.2 in
        let g = both-got settled-alike c.0 c.1 in
        let y = agreed-is (judge ν bounded c.0.0 c.0.1 cs) d.0 d.1 in
        let r = subst (λ (bs : List (Binding N)). replaceTy ν bounded (bindings ν bs) (its b.0) ≡ got ty) (sym z) b.2 in
        let t = last-type c.0 g.0 c.1 g.1 g.2 y complete long b.0 ty (or-some 1 (last_of (firsts ps) ss) b.0 b.1) r in
        settles g.0 t.0 ty g.1 t.1 t.2 (judged-alike c.0 g.0 c.1 g.1 g.2 y)

    -- a refusal of the solver is the same
    both-refused : {m m' : Got (List (Binding N) × List N)} → Alike Found m m' → (n : ℕ) → m ≡ refused n → m' ≡ refused n
    both-refused (neither {n = n}) k e = cc
    both-refused (both r) k e = absurd (cc)

    pub refused-alike : (n : ℕ) → settledSet ν cs ≡ refused n → (lineType ν ss (firsts ps) ≡ refused n) × (other ≡ refused n)
    unfolding lineType agreedSet
    refused-alike n e = (rw e, rw (both-refused settled-alike n e))
