-- With closed references, where the solver accepts, whatever was asked to be a dimension is one. So the premise of soundness holds, and the judge says
-- yes, 7 or 8: 11 needs an open reference.
use Rattle.std.proofs.Math.Path.{◌≡◌, refl, subst}
use Rattle.std.proofs.Common.{ap, ◌∙◌, sym}
use Rattle.std.proofs.Math.Option.{Option, none, some}
use Rattle.std.specs.Prelude.{◌⊎◌}
use Rattle.std.proofs.Math.Logic.{inl, inr}
use mathlib.Core.List.Memᴰ
use mathlib.Core.List.{List, [], ◌∷◌, ◌++◌, Memᴰ}
use Prim.Native.Nat.{ℕ, zero, suc}
use Rattle.rules.specs.Base.{Got, got, bounded, exact, each, keep, is_none}
use Rattle.rules.specs.Trees.{var, Product, Names, Ty, opened, dim, Con, equal, isDim, is_scalar, hasField, Binding, ◌≔◌, orderAtom, opensCon}
use Rattle.rules.specs.Views.{productOf}
use Rattle.rules.specs.Replacing.{Look, asProduct, replaceTy, replaceCon, replaceBinding, find, bindings}
use Rattle.rules.specs.Rounds.{Step, bind, split, done, stuck, State, dimensionParts, trySatisfy, round}
use Rattle.rules.specs.Solving.{accepted, remaining, boundOf, finished, finish, after, run, solve, enough}
use Rattle.rules.specs.Meaning.{IsDimension}
use Rattle.laws.proofs.Alike.{Alike, both, neither}
use Rattle.laws.specs.Order.{Lawful}
use Rattle.laws.specs.Lists.{All, all_nil, all_cons, in_head}
use Rattle.laws.proofs.Lists.{one-step, each-went}
use Rattle.laws.proofs.Occurs.{one-bound}
use Rattle.laws.specs.RuleCases.{parts}
use Rattle.laws.proofs.RuleCases.{product-of}
use Rattle.laws.proofs.Turns.{Found, Turn, bound, parted, dropped, turn}
use Rattle.theorems_soundness.specs.Claims.{Once, keys, type_of}
use Rattle.theorems_soundness.proofs.Finds.{find-once}
use Rattle.theorems_lines.proofs.Shut.{Shut, ShutCon, shut-same}
use Rattle.theorems_lines.proofs.Flow.{Side, shut, pair, Line, closed, dimension, equality, Flow, end, beside, define}
use Rattle.theorems_lines.proofs.Lockstep.{Binds, unbound, binds, States, Onward, over, on, rounds, no_bound}

module _ {N : Type 0} (ν : Names N) (law : Lawful (orderAtom ν)) (P : N × N → Type 0) where
  abbrev F : List (N × N) → List (Con N) → List (Con N) → Type 0
  F = Flow ν P

  -- what is asked to be a dimension is closed, or a variable
  abbrev Plain : Ty N → Type 0
  Plain u = Shut u ⊎ ((y : N) × (u ≡ opened (var y)))

  side-plain : {K : List (N × N)} {s s' : Ty N} → Side ν K s s' → Plain s
  side-plain (shut t h) = inl h
  side-plain (pair x x' m) = inr (x, refl)

  abbrev AskedPlain : Con N → Type 0
  AskedPlain (equal s t) = Unit {0}
  AskedPlain (isDim u) = Plain u
  AskedPlain (is_scalar p) = Unit {0}
  AskedPlain (hasField n s t) = Unit {0}

  shut-plain : (c : Con N) → ShutCon c → AskedPlain c
  unfolding opensCon
  shut-plain (equal s t) h = tt
  shut-plain (isDim u) h = inl h
  shut-plain (is_scalar p) h = tt
  shut-plain (hasField n s t) h = tt

  line_plain : {K : List (N × N)} {c c' : Con N} → Line ν K c c' → AskedPlain c
  line_plain (closed c h) = shut-plain c h
  line_plain (dimension s) = side-plain s
  line_plain (equality l r) = tt

  flow-plain : {K : List (N × N)} {cs cs' : List (Con N)} → F K cs cs' → All AskedPlain cs
  flow-plain end = all_nil AskedPlain
  flow-plain (beside l f) = all_cons AskedPlain (line_plain l) (flow-plain f)
  flow-plain (define v v' p d t f) = all_cons AskedPlain tt (flow-plain f)

  -- closed bindings stay
  binds-same : (look : Look N) {bs bs' : List (Binding N)} → Binds ν law P bs bs' → each (replaceBinding ν bounded look) bs ≡ got bs
  unfolding each replaceBinding
  binds-same look unbound = refl
  binds-same look (binds x x' t p h b) = rw (shut-same ν bounded look t h, binds-same look b)

  binds-shut : {bs bs' : List (Binding N)} → Binds ν law P bs bs' → (b : Binding N) → Memᴰ b bs → Shut (type_of b)
  binds-shut unbound b m = absurd (Memᴰ.not-nil m)
  binds-shut (binds x x' t {bs} {bs'} p h q) b m = go (Memᴰ.cases_cons m) (binds-shut q b)
    where
      go : (b ≡ (x ≔ t)) ⊎ Memᴰ b bs → (Memᴰ b bs → Shut (type_of b)) → Shut (type_of b)
      go (inl i) more = subst (λ (c : Binding N). Shut (type_of c)) (sym i) h
      go (inr i) more = more i

  -- a rule that fits is-dimension takes a dimension apart
  asked-step : (u : Ty N) (s : Step N) → trySatisfy ν bounded (isDim u) ≡ got s
      → (s ≡ stuck) ⊎ ((p : Product N) × (u ≡ dim p) × ((new : List (Con N)) × (s ≡ split new)))
  unfolding trySatisfy dimensionParts
  asked-step u s e = go (productOf u) refl
    where
      go : (o : Option (Product N)) → productOf u ≡ o → (s ≡ stuck) ⊎ ((p : Product N) × (u ≡ dim p) × ((new : List (Con N)) × (s ≡ split new)))
      go none i = let z : got stuck ≡ got s = rw (i, dimensionParts) at e in inl (cc)
      go (some p) i = let z : got (split (parts p)) ≡ got s = rw (i, dimensionParts) at e in inr (p, product-of u p i, (parts p, cc))

  module _ (bs : List (Binding N)) (ns : List N) (j : ℕ) (once : Once (keys bs)) where
    -- with the answer's bindings put in, it is a dimension, or a variable
    abbrev Dim : Con N → Type 0
    Dim (equal s t) = Unit {0}
    Dim (isDim u) = (w : Ty N) → replaceTy ν exact (bindings ν bs) u ≡ got w → IsDimension w
    Dim (is_scalar p) = Unit {0}
    Dim (hasField n s t) = Unit {0}

    dimension-is : (q : Product N) (w : Ty N) → dim q ≡ w → IsDimension w
    unfolding asProduct
    dimension-is q w e = subst IsDimension e (q, refl)

    put-closed : (u w : Ty N) → Shut u → replaceTy ν exact (bindings ν bs) u ≡ got w → u ≡ w
    put-closed u w h e = let z : got u ≡ got w = sym (shut-same ν exact (bindings ν bs) u h) ∙ e in cc

    -- ══ What was bound stays bound ══

    abbrev Stays : State N → Type 0
    Stays s = (b : Binding N) → Memᴰ b s.binds → Memᴰ b bs

    ended : (k : ℕ) (s : State N) → All ShutCon s.cons → finish ν k s ≡ accepted bs ns j → (s.cons ≡ []) × (s.binds ≡ bs)
    unfolding finish finished keep
    ended k s a e = go s.cons refl
      where
        go : (cs : List (Con N)) → s.cons ≡ cs → (s.cons ≡ []) × (s.binds ≡ bs)
        go [] i = let z : finish ν k (record { cons = []; binds = s.binds }) ≡ accepted bs ns j =
            subst (λ (cs : List (Con N)). finish ν k (record { cons = cs; binds = s.binds }) ≡ accepted bs ns j) i e in (i, cc (z))
        go (c ∷ cs) i =
            let z = subst (λ (cs : List (Con N)). finish ν k (record { cons = cs; binds = s.binds }) ≡ accepted bs ns j) i e in
            let y : remaining (c ∷ keep (λ c. is_none (boundOf c)) cs) k ≡ accepted bs ns j = rw (no_bound ν law P c (rw i at a c in_head), keep) at z in
            absurd (cc)

    -- a property of the state that holds at the end, and before a round if after it
    module _ (Q : State N → Type 0) (last : (s : State N) → s.cons ≡ [] → s.binds ≡ bs → Q s)
        (back : (s s' r r' : State N) → States ν law P s s' → States ν law P r r' → Turn ν bounded s r → Q r → Q s) where
      turned : (f k : ℕ) (s s' : State N) → States ν law P s s' → {m m' : Got (Option (State N))} → Alike (Onward ν law P s s') m m'
          → round ν bounded s ≡ m → after ν m k s (λ r. run ν bounded f (suc k) r) ≡ accepted bs ns j
          → ((r r' : State N) → States ν law P r r' → run ν bounded f (suc k) r ≡ accepted bs ns j → Q r) → Q s
      unfolding after
      turned f k s s' a (neither {n = n}) i e more = absurd (cc)
      turned f k s s' a (both (over h c)) i e more = let z = ended k s c e in last s z.0 z.1
      turned f k s s' a (both (on {a = r} {b = r'} b)) i e more = back s s' r r' a b (turn ν bounded s r i) (more r r' b e)

      through : (f k : ℕ) (s s' : State N) → States ν law P s s' → run ν bounded f k s ≡ accepted bs ns j → Q s
      unfolding run
      through zero k s s' a e = absurd (cc)
      through (suc f) k s s' a e = turned f k s s' a (rounds ν law P s s' a) refl e (λ r r' b i. through f (suc k) r r' b i)

    stays-back : (s s' r : State N) → States ν law P s s' → Turn ν bounded s r → Stays r → Stays s
    stays-back s s' r a (bound t) h b m =
        let z : got s.binds ≡ got t.older = sym (binds-same (bindings ν (t.x ≔ t.t ∷ [])) a.bound) ∙ t.replacedBinds in
        let y : s.binds ≡ t.older = cc in
        h b (subst (λ (l : List (Binding N)). Memᴰ b l) (ap (λ (l : List (Binding N)). l ++ t.x ≔ t.t ∷ []) y ∙ sym t.appended)
        (Memᴰ.append_left (t.x ≔ t.t ∷ []) m))
    stays-back s s' r a (parted t) h b m = h b (subst (λ (l : List (Binding N)). Memᴰ b l) (sym t.same) m)
    stays-back s s' r a (dropped t) h b m = h b (subst (λ (l : List (Binding N)). Memᴰ b l) (sym t.same) m)

    -- ══ What was asked ══

    -- it holds of the state that what is bound stays so, and that what is asked is a dimension
    record Fine (s : State N) : Type 0 where
      stays : Stays s
      dims : All Dim s.cons

    var-put : (y : N) (t w : Ty N) → find ν bs y ≡ some t → replaceTy ν exact (bindings ν bs) (opened (var y)) ≡ got w → t ≡ w
    unfolding replaceTy bindings
    var-put y t w f e = let z : got t ≡ got w = rw f at e in cc

    here_put : (look : Look N) (y : N) (t : Ty N) → look (var y) ≡ some t → replaceTy ν bounded look (opened (var y)) ≡ got t
    unfolding replaceTy
    here_put look y t i = rw i

    there-put : (look : Look N) (y : N) → look (var y) ≡ none → replaceTy ν bounded look (opened (var y)) ≡ got (opened (var y))
    unfolding replaceTy
    there-put look y i = rw i

    asked-back : (x : N) (t : Ty N) → Memᴰ (x ≔ t) bs → Shut t → (u u' : Ty N) → Plain u → replaceTy ν bounded (bindings ν (x ≔ t ∷ [])) u ≡ got u'
        → Dim (isDim u') → Dim (isDim u)
    asked-back x t m h u u' (inl s) e d = let z : got u ≡ got u' = sym (shut-same ν bounded (bindings ν (x ≔ t ∷ [])) u s) ∙ e in let y : u ≡ u' = cc
        in subst (λ (v : Ty N). Dim (isDim v)) (sym y) d
    asked-back x t m h u u' (inr (y, i)) e d = go (one-bound ν x t (var y))
      where
        e' : replaceTy ν bounded (bindings ν (x ≔ t ∷ [])) (opened (var y)) ≡ got u'
        e' = subst (λ (v : Ty N). replaceTy ν bounded (bindings ν (x ≔ t ∷ [])) v ≡ got u') i e

        go : ((var y ≡ var x) × (bindings ν (x ≔ t ∷ []) (var y) ≡ some t)) ⊎ ((var y ≡ var x → ⊥) × (bindings ν (x ≔ t ∷ []) (var y) ≡ none)) → Dim (isDim u)
        go (inl (k, l)) =
            let z : got t ≡ got u' = sym (here_put (bindings ν (x ≔ t ∷ [])) y t l) ∙ e' in
            let q : t ≡ u' = cc in
            let n : y ≡ x = cc in
            let f : find ν bs y ≡ some t = ap (find ν bs) n ∙ find-once ν bs (x ≔ t) once m in
            let g : IsDimension t = d t (subst (λ (v : Ty N). replaceTy ν exact (bindings ν bs) v ≡ got t) q (shut-same ν exact (bindings ν bs) t h)) in
            λ w r. subst IsDimension (var-put y t w f (subst (λ (v : Ty N). replaceTy ν exact (bindings ν bs) v ≡ got w) i r)) g
        go (inr (k, l)) =
            let z : got (opened (var y)) ≡ got u' = sym (there-put (bindings ν (x ≔ t ∷ [])) y l) ∙ e' in
            let q : opened (var y) ≡ u' = cc in
            subst (λ (v : Ty N). Dim (isDim v)) (sym (i ∙ q)) d

    -- a constraint that a round replaced x in
    replaced-back : (x : N) (t : Ty N) → Memᴰ (x ≔ t) bs → Shut t → (c c' : Con N) → AskedPlain c
        → replaceCon ν bounded (bindings ν (x ≔ t ∷ [])) c ≡ got c' → Dim c' → Dim c
    unfolding replaceCon
    replaced-back x t m h (equal s u) c' p e d = tt
    replaced-back x t m h (is_scalar q) c' p e d = tt
    replaced-back x t m h (hasField n s u) c' p e d = tt
    replaced-back x t m h (isDim u) c' p e d =
        let w = one-step (replaceTy ν bounded (bindings ν (x ≔ t ∷ [])) u) isDim c' e in
        asked-back x t m h u w.value p w.gave (subst Dim (sym w.is) d)

    -- a constraint that a round took
    taken_back : (c : Con N) (st : Step N) → AskedPlain c → trySatisfy ν bounded c ≡ got st → (st ≡ stuck → ⊥) → Dim c
    taken_back (equal s t) st p e n = tt
    taken_back (is_scalar q) st p e n = tt
    taken_back (hasField k s t) st p e n = tt
    taken_back (isDim u) st p e n = go p (asked-step u st e)
      where
        go : Plain u → (st ≡ stuck) ⊎ ((q : Product N) × (u ≡ dim q) × ((new : List (Con N)) × (st ≡ split new))) → Dim (isDim u)
        go p (inl i) = absurd (n i)
        go (inl h) (inr (q, i, k)) = λ w r. dimension-is q w (sym i ∙ put-closed u w h r)
        go (inr (y, j)) (inr (q, i, k)) = let z : opened (var y) ≡ dim q = sym j ∙ i in absurd (cc)

    fine_back : (s s' r r' : State N) → States ν law P s s' → States ν law P r r' → Turn ν bounded s r → Fine r → Fine s
    fine_back s s' r r' a a' t h = record { stays = stays-back s s' r a t h.stays; dims = go t (flow-plain a.flows) }
      where
        took : (st : Step N) (rest : List (Con N)) (f : Found ν bounded s.cons st rest) → All AskedPlain s.cons → Dim f.con
        took st rest f p = taken_back f.con st (p f.con f.given) f.tried f.moves

        was : (st : Step N) (rest : List (Con N)) (f : Found ν bounded s.cons st rest) → All AskedPlain s.cons → All Dim rest → All Dim s.cons
        was st rest f p d c m = either (f.others c m)
          where
            either : (c ≡ f.con) ⊎ Memᴰ c rest → Dim c
            either (inl i) = subst Dim (sym i) (took st rest f p)
            either (inr i) = d c i

        go : Turn ν bounded s r → All AskedPlain s.cons → All Dim s.cons
        go (parted b) p = was (split b.new) b.rest b.found p
            (λ c m. h.dims c (subst (λ (l : List (Con N)). Memᴰ c l) (sym b.joined) (Memᴰ.append_left b.new m)))
        go (dropped b) p = was done r.cons b.found p h.dims
        go (bound b) p = was (bind b.x b.t) b.rest b.found p
            (λ c m. let w = each-went (replaceCon ν bounded (bindings ν (b.x ≔ b.t ∷ []))) b.rest r.cons b.replaced c m
            in replaced-back b.x b.t (h.stays (b.x ≔ b.t) new) (binds-shut a'.bound (b.x ≔ b.t) new) c w.to (p c (b.found.kept c m)) w.by
            (h.dims w.to w.within))
          where
            new : Memᴰ (b.x ≔ b.t) r.binds
            new = subst (λ (l : List (Binding N)). Memᴰ (b.x ≔ b.t) l) (sym b.appended) (Memᴰ.append_right b.older in_head)

    -- where the solver accepts, all that was asked is a dimension
    pub asked-dimensions : (cs cs' : List (Con N)) → F [] cs cs' → solve ν bounded cs ≡ accepted bs ns j → All Dim cs
    unfolding solve
    asked-dimensions cs cs' f e =
        (through Fine (λ s i k. record {
          stays = λ b m. subst (λ (l : List (Binding N)). Memᴰ b l) k m;
          dims = subst (All Dim) (sym i) (all_nil Dim);
        }) fine_back
        enough 0 (record { cons = cs; binds = [] }) (record { cons = cs'; binds = [] }) (record { flows = f; bound = unbound }) e).dims
