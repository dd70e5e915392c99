-- Soundness over a run: the premise goes forward from round to round, truth goes back.
use Rattle.std.specs.Prelude.{◌≡◌, refl, Bool, true, false, ◌⊎◌, ℕ}
use Rattle.std.proofs.Math.Path.{ap}
use Rattle.std.proofs.Common.{◌∙◌, sym, subst, inl, inr}
use Rattle.std.proofs.Math.Option.{Option, none, some, get_or}
use mathlib.Core.List.{List, [], ◌∷◌, ◌++◌, Memᴰ, cons≢nil}
use Rattle.rules.specs.Base.{got, bounded, exact, all, collect, to_list, is_none, is_yes}
use Rattle.rules.specs.Trees.{Open, var, quant, par, Names, Ty, opened, Con, equal, isDim, is_scalar, hasField, Binding, ◌≔◌, orderAtom, opens, opensCon}
use Rattle.rules.specs.Views.{name_of, variable}
use Rattle.rules.specs.Contents.{among, namesIn, unmixed}
use Rattle.rules.specs.Plain.{plain}
use Rattle.rules.specs.Replacing.{Look, replaceTy, replaceCon, replaceBinding, find, bindings}
use Rattle.rules.specs.Rounds.{State, Step, bind, split, done}
use Rattle.rules.specs.Solving.{accepted, boundOf, solve, enough}
use Rattle.rules.specs.Calls.{opensBinding}
use Rattle.rules.specs.Meaning.{amongBounds, holds, Solves, inProducts, productsOf, Premise}
use Rattle.rules.specs.WellFormed.{goodBinding}
use Rattle.laws.proofs.Contents.{not-mixed, apart-names}
use Rattle.laws.specs.Order.{Lawful, Tells}
use Rattle.laws.proofs.ByteOrder.{atom-lawful}
use Rattle.laws.proofs.Exact.{ty_below}
use Rattle.laws.proofs.ExactSolve.{con-below}
use Rattle.laws.proofs.Untouched.{ty_same}
use Rattle.laws.specs.GoodProducts.{goodAtom}
use Rattle.laws.proofs.GoodProducts.{atom-tells, good-proper}
use Rattle.laws.specs.Lists.{All, all_nil, all_cons, in_head, all-every}
use Rattle.laws.proofs.Lists.{true≢false, some≢none, all_append, keep-none, is_any, Came, each-went}
use Rattle.laws.proofs.Lists.{each-came, Origin, collect-from, collect-to, map-to, is-yes}
use Rattle.laws.proofs.SortedNames.{sort-to}
use Rattle.laws.specs.RuleCases.{After}
use Rattle.laws.proofs.RuleCases.{rule}
use Rattle.laws.proofs.Turns.{Found, Bound, Split, Taken, Turn, bound, parted, dropped, Ended, run-back}
use Rattle.laws.proofs.KeepsGood.{GoodTy, GoodBind, dimension-good, rule-good}
use Rattle.laws.proofs.Occurs.{ty-in, con-in}
use Rattle.theorems_soundness.proofs.Steps.{OpenOk, okFor, rule-in}
use Rattle.theorems_soundness.specs.Claims.{Ordered, Given, key, type_of, keys}
use Rattle.theorems_soundness.proofs.Solved.{same_key, type-good, turn-kept}
use Rattle.theorems_soundness.proofs.Form.{Final, final, ParameterOf, AllKept, start-kept, bound-is, bound-ok}
use Rattle.theorems_soundness.proofs.Putting.{ty-put}
use Rattle.theorems_soundness.proofs.Truth.{FitsIn, Holds, Respects, dimensional-holds, con-back}
use Rattle.theorems_soundness.proofs.Back.{TrueCon, TrueBind, rule-true}
use Rattle.theorems_soundness.proofs.Finds.{find-member, find_none, find-once, unbound, Twins, twins-end, twins-turn}

is_some : {A : Type 0} (o : Option A) → is_none o ≡ false → (a : A) × (o ≡ some a)
is_some none e = absurd (true≢false e)
is_some (some a) e = (a, refl)

module _ {N : Type 0} (ν : Names N) (held : N → Bool) (ord : Ordered ν held) (cs : List (Con N)) (bs : List (Binding N)) (ns : List N) where
  abbrev law : Lawful (orderAtom ν)
  law = atom-lawful ν ord.lawful

  abbrev tells : Tells (λ a. goodAtom ν held 0 a ≡ true) (orderAtom ν)
  tells = atom-tells ν held 0 ord.tells

  abbrev KeptAll : State N → Type 0
  KeptAll = AllKept ν held ord cs

  module _ (f : Final ν held ord cs bs ns) where
    all-good : All (λ b. goodBinding ν held 0 b ≡ true) bs
    all-good = rw f.ended.binds f.kept.binds-good

    σg : (o : Open N) (t : Ty N) → bindings ν bs o ≡ some t → GoodTy ν law held 0 t
    unfolding bindings
    σg (var x) t e = type-good ν law held 0 tells (ParameterOf cs) (x ≔ t) (all-good (x ≔ t) (find-member ν bs x t e))
    σg (quant i) t e = absurd (some≢none (sym e))
    σg (par x) t e = absurd (some≢none (sym e))

    -- parameters aren't bound
    free : (y : N) → ParameterOf cs y → find ν bs y ≡ none
    free y p = rw f.ended.binds (find_none ν f.state.binds y (λ m. f.kept.keys-ok y m p))

    abbrev Fits : Open N → Type 0
    Fits = FitsIn ν law held 0 tells bs ns σg

    abbrev True : Con N → Type 0
    True = Holds ν law held 0 tells bs ns σg

    abbrev Kept-by : N → Ty N → Type 0
    Kept-by = Respects ν law held 0 tells bs ns σg

    -- what stands in products of a state is bound to dimensions
    record Premised (s : State N) : Type 0 where
      cons-fit : All (λ c. All Fits (productsOf c)) s.cons
      binds-fit : All (λ b. All Fits (inProducts (type_of b))) s.binds

    -- what is true of a state
    record Right (s : State N) : Type 0 where
      cons-true : All True s.cons
      binds-true : All (λ b. Kept-by (key b) (type_of b)) s.binds

    -- ══ The end ══

    opened-true : (o : Open N) (y : N) → name_of o ≡ some y → bindings ν bs o ≡ none → Memᴰ y ns → True (isDim (opened o))
    unfolding replaceTy holds amongBounds opens namesIn collect all among
    opened-true o y e i m = dimensional-holds ν bs ns (opened o)
        (record { type = opened o; put_in = rw i; holding = rw (e, is_any (λ z. is_yes (ν.same y z)) ns y m (is-yes (ν.same y y) refl)) })

    end-con : (s : State N) → KeptAll s → Ended ν bs ns s → (c : Con N) → Memᴰ c s.cons → True c
    unfolding bindings
    end-con s k e c m =
        let o = is_some (boundOf c) (keep-none (λ d. is_none (boundOf d)) s.cons e.left c m) in
        go o.0 (in_bounds o.0 o.1) (not-bound o.0 o.1) (bound-is c o.0 o.1)
      where
        among-these : (y : N) → boundOf c ≡ some y → Memᴰ y (collect (λ d. to_list (boundOf d)) s.cons)
        among-these y i = collect-to (λ d. to_list (boundOf d)) s.cons c y m (rw i in_head)

        in_bounds : (y : N) → boundOf c ≡ some y → Memᴰ y ns
        in_bounds y i = rw e.bounds (sort-to ν (λ n. held n ≡ true) ord.tells (collect (λ d. to_list (boundOf d)) s.cons)
            (all-every (λ n. held n ≡ true) _ (λ z n. (bound-ok ν held ord cs s k z n).0)) y (among-these y i))

        not-bound : (y : N) → boundOf c ≡ some y → find ν bs y ≡ none
        not-bound y i = rw e.binds (find_none ν s.binds y (bound-ok ν held ord cs s k y (among-these y i)).1)

        go : (y : N) → Memᴰ y ns → find ν bs y ≡ none → (c ≡ isDim (opened (var y))) ⊎ (c ≡ isDim (opened (par y))) → True c
        go y i j (inl h) = rw h (opened-true (var y) y refl j i)
        go y i j (inr h) = rw h (opened-true (par y) y refl refl i)

    end-bind : (s : State N) → KeptAll s → Ended ν bs ns s → (b : Binding N) → Memᴰ b s.binds → Kept-by (key b) (type_of b)
    unfolding bindings
    end-bind s k e b m =
        let h : All (OpenOk (ParameterOf cs) (keys bs)) (opens (type_of b)) = rw e.binds (k.binds-ok b m) in
        let i : find ν bs (key b) ≡ some (type_of b) = rw e.binds (find-once ν s.binds b k.once m) in
        record { type = type_of b; put_in = ty_same ν exact (bindings ν bs) (type_of b) (unbound ν bs (ParameterOf cs) (opens (type_of b)) h); alike = rw i }

    -- ══ The premise, a round on ══

    split-premised : (s s' : State N) → Split ν bounded s s' → Premised s → Premised s'
    split-premised s s' b p = record {
      cons-fit = rw b.joined (all_append (λ c. All Fits (productsOf c)) b.rest (λ c m. p.cons-fit c (b.found.kept c m))
          (rule-in ν law held 0 Fits b.found.con (split b.new) (rule ν bounded b.found.con (split b.new) b.found.tried)
          (p.cons-fit b.found.con b.found.given)));
      binds-fit = rw b.same p.binds-fit;
    }

    taken-premised : (s s' : State N) → Taken ν bounded s s' → Premised s → Premised s'
    taken-premised s s' b p = record { cons-fit = λ c m. p.cons-fit c (b.found.kept c m); binds-fit = rw b.same p.binds-fit }

    module _ (s s' : State N) (b : Bound ν bounded s s') (k : KeptAll s) (k' : KeptAll s') (w : Twins ν bs s') (p : Premised s) where
      abbrev look : Look N
      look = bindings ν (b.x ≔ b.t ∷ [])

      good-bind : GoodBind ν law held 0 b.x b.t
      good-bind = rule-good ν law held 0 b.found.con (bind b.x b.t) (rule ν bounded b.found.con (bind b.x b.t) b.found.tried)
          (k.cons-good b.found.con b.found.given)

      type-fits : All Fits (inProducts b.t)
      type-fits = rule-in ν law held 0 Fits b.found.con (bind b.x b.t) (rule ν bounded b.found.con (bind b.x b.t) b.found.tried)
          (p.cons-fit b.found.con b.found.given)

      new-bound : Memᴰ (b.x ≔ b.t) s'.binds
      new-bound = subst (λ (l : List (Binding N)). Memᴰ (b.x ≔ b.t) l) (sym b.appended) (mathlib.Core.List.Memᴰ.append_right b.older in_head)

      -- a variable that is put for a fitting one fits
      twin-fits : (o : Open N) → b.t ≡ opened o → Fits (var b.x) → Fits o
      unfolding bindings opens
      twin-fits (quant i) e f = record { bound = λ u j. absurd (some≢none (sym j)) }
      twin-fits (par y) e f = record { bound = λ u j. absurd (some≢none (sym j)) }
      twin-fits (var z) e f = go (w.waits b.x z (find-once ν s'.binds (b.x ≔ b.t) k'.once new-bound ∙ ap some e)
          (find_none ν s'.binds z (k'.binds-ok (b.x ≔ b.t) new-bound (var z) (rw e in_head)).1))
        where
          go : (find ν bs z ≡ none) ⊎ (find ν bs b.x ≡ find ν bs z) → Fits (var z)
          go (inl i) = record { bound = λ u j. absurd (some≢none (sym j ∙ i)) }
          go (inr i) = record { bound = λ u j. f.bound u (i ∙ j) }

      con-from : (d : Con N) → Memᴰ d s'.cons → Came (replaceCon ν bounded look) d b.rest
      con-from d m = each-came (replaceCon ν bounded look) b.rest s'.cons b.replaced d m

      bind-from : (c : Binding N) → Memᴰ c b.older → Came (replaceBinding ν bounded look) c s.binds
      bind-from c m = each-came (replaceBinding ν bounded look) s.binds b.older b.replacedBinds c m

      old-type : (c d : Binding N) → replaceBinding ν bounded look c ≡ got d → replaceTy ν exact look (type_of c) ≡ got (type_of d)
      old-type c d e = (ty_below ν look (type_of c)).gives (type_of d) (same_key ν bounded look c d e).1

      bound-premised : Premised s'
      bound-premised = record {
        cons-fit = λ d m. let c = con-from d m in con-fits c.of d (b.found.kept c.of c.within) c.by;
        binds-fit = subst (λ (l : List (Binding N)). All (λ c. All Fits (inProducts (type_of c))) l) (sym b.appended)
            (all_append (λ c. All Fits (inProducts (type_of c))) b.older old-fits
            (all_cons (λ c. All Fits (inProducts (type_of c))) type-fits (all_nil (λ c. All Fits (inProducts (type_of c))))));
      }
        where
          con-fits : (c d : Con N) → Memᴰ c s.cons → replaceCon ν bounded look c ≡ got d → All Fits (productsOf d)
          con-fits c d m e =
              con-in ν law held 0 tells b.x b.t good-bind.type Fits c d (k.cons-good c m) ((con-below ν look c).gives d e)
              (λ o i n. p.cons-fit c m o i) (λ o i j. twin-fits o i (p.cons-fit c m (var b.x) j)) type-fits

          old-fits : All (λ c. All Fits (inProducts (type_of c))) b.older
          old-fits c m =
              let d = bind-from c m in
              ty-in ν law held 0 tells b.x b.t good-bind.type Fits (type_of d.of) (type_of c)
              (type-good ν law held 0 tells (ParameterOf cs) d.of (k.binds-good d.of d.within)) (old-type d.of c d.by)
              (λ o i n. p.binds-fit d.of d.within o i) (λ o i j. twin-fits o i (p.binds-fit d.of d.within (var b.x) j)) type-fits

    -- ══ Truth, a round back ══

    parameter-free : (s : State N) → KeptAll s → (c : Con N) → Memᴰ c s.cons → (y : N) → Memᴰ (par y) (opensCon c) → find ν bs y ≡ none
    parameter-free s k c m y i = free y (ok c (k.cons_ok c m (par y) i))
      where
        ok : (c : Con N) → okFor (ParameterOf cs) (keys s.binds) c (par y) → ParameterOf cs y
        ok (equal u t) h = h
        ok (isDim t) h = h
        ok (is_scalar q) h = h
        ok (hasField n u t) h = h

    -- the constraint that a rule took away
    module _ (s : State N) (k : KeptAll s) (p : Premised s) (step : Step N) (rest : List (Con N)) (g : Found ν bounded s.cons step rest) where
      taken_true : After (All (TrueCon ν law held 0 tells bs ns σg)) (TrueBind ν law held 0 tells bs ns σg) step → True g.con
      taken_true a = rule-true ν law held 0 tells bs ns σg g.con step (rule ν bounded g.con step g.tried) g.moves (k.cons-good g.con g.given)
          (p.cons-fit g.con g.given) (parameter-free s k g.con g.given) a

      all_true : After (All (TrueCon ν law held 0 tells bs ns σg)) (TrueBind ν law held 0 tells bs ns σg) step → All True rest → All True s.cons
      all_true a h c m = go (g.others c m)
        where
          go : (c ≡ g.con) ⊎ Memᴰ c rest → True c
          go (inl i) = subst True (sym i) (taken_true a)
          go (inr i) = h c i

    split-right : (s s' : State N) → Split ν bounded s s' → KeptAll s → KeptAll s' → Premised s → Premised s' → Right s' → Right s
    split-right s s' b k k' p p' r = record {
      cons-true = all_true s k p (split b.new) b.rest b.found
          (λ d m. let n = there d (mathlib.Core.List.Memᴰ.append_right b.rest m)
          in record { good = k'.cons-good d n; fits = p'.cons-fit d n; holding = r.cons-true d n })
          (λ c m. r.cons-true c (there c (mathlib.Core.List.Memᴰ.append_left b.new m)));
      binds-true = rw (sym b.same) r.binds-true;
    }
      where
        there : (d : Con N) → Memᴰ d (b.rest ++ b.new) → Memᴰ d s'.cons
        there d m = subst (λ (l : List (Con N)). Memᴰ d l) (sym b.joined) m

    taken-right : (s s' : State N) → Taken ν bounded s s' → KeptAll s → Premised s → Right s' → Right s
    taken-right s s' b k p r = record { cons-true = all_true s k p done s'.cons b.found tt r.cons-true; binds-true = rw (sym b.same) r.binds-true }

    bound-right : (s s' : State N) (b : Bound ν bounded s s') → KeptAll s → KeptAll s' → Twins ν bs s' → Premised s → Premised s' → Right s' → Right s
    bound-right s s' b k k' w p p' r = record {
      cons-true = all_true s k p (bind b.x b.t) b.rest b.found new rest-true;
      binds-true = older-true;
    }
      where
        x : N
        x = b.x

        t : Ty N
        t = b.t

        tg : GoodTy ν law held 0 t
        tg = (good-bind s s' b k k' w p).type

        tf : All Fits (inProducts t)
        tf = type-fits s s' b k k' w p

        te : (o : Open N) → t ≡ opened o → Fits (var x) → Fits o
        te = twin-fits s s' b k k' w p

        rx : Kept-by x t
        rx = r.binds-true (x ≔ t) (new-bound s s' b k k' w p)

        new : TrueBind ν law held 0 tells bs ns σg x t
        new = record { good = tg; fits = tf; respected = rx }

        rest-true : All True b.rest
        rest-true c m =
            let d = each-went (replaceCon ν bounded (bindings ν (x ≔ t ∷ []))) b.rest s'.cons b.replaced c m in
            let i = b.found.kept c m in
            con-back ν law held 0 tells bs ns σg x t tg rx tf te c d.to (k.cons-good c i) (k'.cons-good d.to d.within) (p.cons-fit c i)
            (p'.cons-fit d.to d.within) ((con-below ν (bindings ν (x ≔ t ∷ [])) c).gives d.to d.by) (r.cons-true d.to d.within)

        older-true : All (λ c. Kept-by (key c) (type_of c)) s.binds
        older-true c m =
            let d = each-went (replaceBinding ν bounded (bindings ν (x ≔ t ∷ []))) s.binds b.older b.replacedBinds c m in
            let n : Memᴰ d.to s'.binds = subst (λ (l : List (Binding N)). Memᴰ d.to l) (sym b.appended)
            (mathlib.Core.List.Memᴰ.append_left (x ≔ t ∷ []) d.within) in
            let h = r.binds-true d.to n in
            let g = ty-put ν law held 0 tells (bindings ν bs) σg x t tg rx tf te (type_of c) (type_of d.to)
            (type-good ν law held 0 tells (ParameterOf cs) c (k.binds-good c m))
            (type-good ν law held 0 tells (ParameterOf cs) d.to (k'.binds-good d.to n)) (p.binds-fit c m) (p'.binds-fit d.to n)
            (old-type s s' b k k' w p c d.to d.by) in
            let z : got h.type ≡ got g.right = sym h.put_in ∙ g.putRight in
            let y : h.type ≡ g.right = cc in
            let i : key d.to ≡ key c = (same_key ν bounded (bindings ν (x ≔ t ∷ [])) c d.to d.by).0 in
            record {
              type = g.left;
              put_in = g.putLeft;
              alike = ap (λ (v : N). plain (get_or (bindings ν bs (var v)) (opened (var v))) true) (sym i) ∙ h.alike
                  ∙ ap (λ (u : Ty N). plain u true) y ∙ sym g.alike;
            }

    -- ══ The run ══

    record Sound (s : State N) : Type 0 where
      twins : Twins ν bs s
      right : KeptAll s → Premised s → Right s

    sound-turn : (s s' : State N) → Turn ν bounded s s' → Sound s' → Sound s
    sound-turn s s' t h = record {
      twins = twins-turn ν bs bounded s s' t h.twins;
      right = λ k p. go t k p (turn-kept ν law held 0 tells (ParameterOf cs) s s' k t);
    }
      where
        go : Turn ν bounded s s' → KeptAll s → Premised s → KeptAll s' → Right s
        go (bound b) k p k' = let p' = bound-premised s s' b k k' h.twins p in bound-right s s' b k k' h.twins p p' (h.right k' p')
        go (parted b) k p k' = let p' = split-premised s s' b p in split-right s s' b k k' p p' (h.right k' p')
        go (dropped b) k p k' = taken-right s s' b k p (h.right k' (taken-premised s s' b p))

    sound-end : (s : State N) → Ended ν bs ns s → Sound s
    sound-end s e = record { twins = twins-end ν bs ns s e; right = λ k p. record { cons-true = end-con s k e; binds-true = end-bind s k e } }

    -- the premise of soundness, for the state at the start
    start-premised : Premise ν cs bs → Premised (record { cons = cs; binds = [] })
    unfolding bindings
    start-premised p = record { cons-fit = λ c m o i. fit c m o i; binds-fit = all_nil (λ b. All Fits (inProducts (type_of b))) }
      where
        fit : (c : Con N) → Memᴰ c cs → (o : Open N) → Memᴰ o (productsOf c) → Fits o
        fit c m (var x) i = record {
          bound = λ u j. let d = p.dimensions x (collect-to productsOf cs c (var x) m i) u j
              in record {
                product = d.0;
                is = d.1;
                proper = good-proper ν law held 0 d.0 ((dimension-good ν law held 0 u (σg (var x) u j)).holds d.0 d.1);
              };
        }
        fit c m (quant n) i = record { bound = λ u j. absurd (some≢none (sym j)) }
        fit c m (par x) i = record { bound = λ u j. absurd (some≢none (sym j)) }

  -- the judge's check 4 passes on the set and the solver's own answer
  pub answer-apart : Given ν held cs → Final ν held ord cs bs ns → unmixed ν (collect opensCon cs ++ collect opensBinding bs) ≡ true
  unfolding opensBinding
  answer-apart g f = apart-names ν (ParameterOf cs) (collect opensCon cs ++ collect opensBinding bs)
      (λ x m. variables x (mathlib.Core.List.Memᴰ.append_cases (collect opensCon cs) m))
      (λ x m. parameters x (mathlib.Core.List.Memᴰ.append_cases (collect opensCon cs) m))
    where
      s : State N
      s = f.state

      -- an open name of a binding: its variable, or one of its type
      part : (o : Open N) (b : Binding N) → Memᴰ o (opensBinding b) → (o ≡ var (key b)) ⊎ Memᴰ o (opens (type_of b))
      part o (y ≔ t) m = mathlib.Core.List.Memᴰ.cases_cons m

      held_in : (b : Binding N) → Memᴰ b bs → Memᴰ b s.binds
      held_in b m = subst (λ (l : List (Binding N)). Memᴰ b l) f.ended.binds m

      variables : (x : N) → Memᴰ (var x) (collect opensCon cs) ⊎ Memᴰ (var x) (collect opensBinding bs) → ¬ (ParameterOf cs x)
      variables x (inl m) p = not-mixed ν (collect opensCon cs) g.apart x m p
      variables x (inr m) p = let o = collect-from opensBinding bs (var x) m in go o (part (var x) o.one o.from)
        where
          go : (o : Origin opensBinding (var x) bs) → (var x ≡ var (key o.one)) ⊎ Memᴰ (var x) (opens (type_of o.one)) → ⊥
          go o (inl e) = f.kept.keys-ok x
              (let z : x ≡ key o.one = cc in subst (λ (y : N). Memᴰ y (keys s.binds)) (sym z) (map-to key s.binds o.one (held_in o.one o.within))) p
          go o (inr i) = (f.kept.binds-ok o.one (held_in o.one o.within) (var x) i).0 p

      parameters : (x : N) → Memᴰ (par x) (collect opensCon cs) ⊎ Memᴰ (par x) (collect opensBinding bs) → ParameterOf cs x
      parameters x (inl m) = m
      parameters x (inr m) = let o = collect-from opensBinding bs (par x) m in go o (part (par x) o.one o.from)
        where
          go : (o : Origin opensBinding (par x) bs) → (par x ≡ var (key o.one)) ⊎ Memᴰ (par x) (opens (type_of o.one)) → ParameterOf cs x
          go o (inl e) = absurd (some≢none (sym (ap variable e)))
          go o (inr i) = f.kept.binds-ok o.one (held_in o.one o.within) (par x) i

  pub solves : Given ν held cs → (k : ℕ) → solve ν bounded cs ≡ accepted bs ns k → Premise ν cs bs → Solves ν cs bs ns
  unfolding solve
  solves g k e p =
      let f = final ν held ord cs g bs ns k e in
      ((run-back ν bounded bs ns k (Sound f) (sound-end f) (sound-turn f) enough 0 (record { cons = cs; binds = [] }) e).right
      (start-kept ν held ord cs g) (start-premised f p)).cons-true
