-- Eliminating row by row is solving round by round: the rows that stay stand in front, and a row that is bound or gone is a round.
use Rattle.std.specs.Prelude.{◌≡◌, true, get_or}
use Rattle.std.proofs.Math.Path.{refl, ap, ap₂, sym}
use Rattle.std.proofs.Common.{◌∙◌}
use Rattle.std.proofs.Math.Option.{Option, none, some}
use mathlib.Core.List.{List, [], ◌∷◌, ◌++◌, append_assoc, append-nil, map}
use Rattle.std.proofs.lemmas.List.{map-append}
use Prim.Native.Nat.{ℕ, zero, suc, ◌+◌, ◌*◌, ◌≤◌, ◌<◌, max}
use native.Mathlib.Omega.{arith}
use Rattle.std.proofs.Math.ListN.{length}
use Rattle.rules.specs.Base.{Got, got, refused, ◌>>=◌, bounded, each, keep, collect, and_then, is_none, sum_of, max_of}
use Rattle.rules.specs.Exponents.{nought, isZero}
use Rattle.rules.specs.Trees.{var, Atom, free, Names, dim, Con, is_scalar, Binding, ◌≔◌, orderAtom, size, depth, sizeCon, sizeBinding, depthCon, depthBinding}
use Rattle.rules.specs.Contents.{sort}
use Rattle.rules.specs.Replacing.{Look, replaceCon, replaceBinding, bindings}
use Rattle.rules.specs.Rounds.{Step, bind, stuck, State, trySatisfy, taken, sizeState, depthState, limited, firstStep, perform, performed, round}
use Rattle.rules.specs.Solving.{Answer, accepted, remaining, stopped, boundOf, finished, finish, after, run}
use Rattle.laws.specs.Lists.{Every}
use Rattle.laws.proofs.Lists.{every_append, alone, bracket, same_after}
use Rattle.laws.specs.Order.{Lawful}
use Rattle.laws.proofs.Sized.{sized-kept}
use Rattle.rules.specs.Elimination.{
  Row,
  Value,
  ◌gets◌,
  solvedFor,
  putInRow,
  putInValue,
  Fate,
  gone,
  stays,
  binds,
  fate,
  turned,
  Reduced,
  eliminate,
  factors,
  boundBy,
  Settled,
  settled,
  unsettled,
  settledBy,
}
use Rattle.laws.proofs.Alike.{Alike, both, neither, onward, other-more, other-is, other-there, Side, end, beside, each-side}
use Rattle.theorems_engine.proofs.Rows.{Fit, At, factors-few, untouched, Rising, product-row, dimension-row, Does, is-gone, is_stuck, is_bound, does}

-- the solver's answer after k rounds, without bounds
unfoldable pub answered : {N : Type 0} → ℕ → Got (Settled N) → Answer N
answered k (refused n) = stopped n k
answered k (got (settled bs)) = accepted bs [] k
answered k (got (unsettled cs)) = remaining cs k

-- a step, with constraints in front of the others
abbrev beyond : {N : Type 0} → List (Con N) → Option (Step N × List (Con N)) → Option (Step N × List (Con N))
beyond cs f = and_then f (λ v. some (v.0, cs ++ v.1))

module _ {N : Type 0} (ν : Names N) where
  run-goes : (f k : ℕ) (s s' : State N) → round ν bounded s ≡ got (some s') → run ν bounded (suc f) k s ≡ run ν bounded f (suc k) s'
  unfolding run after
  run-goes f k s s' e = rw e refl

  run_ends : (f k : ℕ) (s : State N) → round ν bounded s ≡ got none → run ν bounded (suc f) k s ≡ finish ν k s
  unfolding run after
  run_ends f k s e = rw e refl

  run-stops : (f k n : ℕ) (s : State N) → round ν bounded s ≡ refused n → run ν bounded (suc f) k s ≡ stopped n k
  unfolding run after
  run-stops f k n s e = rw e refl

module _ {N : Type 0} (ν : Names N) (law : Lawful (orderAtom ν)) (cols : List (Atom N)) (few : length cols ≤ 48) (rise : Rising ν cols) where
  -- the constraint of a row
  abbrev con : Row → Con N
  con r = is_scalar (factors cols r)

  -- the rows that stay, the rows that are left to do, and the values
  abbrev state : List Row → List Row → List (Value N) → State N
  state S rows vs = record { cons = map con S ++ map con rows; binds = map (boundBy cols) vs }

  abbrev Stuck : Row → Type 0
  Stuck r = Fit cols r × (trySatisfy ν bounded (con r) ≡ got stuck) × ((c : ℕ) (x : N) → At cols c (free (var x)) → isZero (get_or r c nought) ≡ true)

  abbrev FitValue : Value N → Type 0
  FitValue (x gets r) = Fit cols r

  -- ══ Never over the limits ══

  con-size : (r : Row) → sizeCon (con r) ≤ 50
  unfolding sizeCon size
  con-size r = omega (arith, factors-few cols r)

  cons-size : (rows : List Row) → sum_of sizeCon (map con rows) ≤ 50 * length rows
  cons-size [] = omega arith
  cons-size (r ∷ rows) = omega (arith, con-size r, cons-size rows)

  two_size : (S rows : List Row) → sum_of sizeCon (map con S ++ map con rows) ≤ 50 * (length S + length rows)
  two_size [] rows = omega (arith, cons-size rows)
  two_size (r ∷ S) rows = omega (arith, con-size r, two_size S rows)

  value-size : (v : Value N) → sizeBinding (boundBy cols v) ≤ 50
  unfolding sizeBinding size boundBy
  value-size (x gets r) = omega (arith, factors-few cols r)

  values-size : (vs : List (Value N)) → sum_of sizeBinding (map (boundBy cols) vs) ≤ 50 * length vs
  values-size [] = omega arith
  values-size (v ∷ vs) = omega (arith, value-size v, values-size vs)

  cons-depth : (S rows : List Row) → max_of depthCon (map con S ++ map con rows) ≤ 1
  unfolding depthCon
  cons-depth [] [] = omega arith
  cons-depth [] (r ∷ rows) = omega (arith, cons-depth [] rows)
  cons-depth (r ∷ S) rows = omega (arith, cons-depth S rows)

  value-depth : (v : Value N) → depthBinding (boundBy cols v) ≤ 1
  unfolding depthBinding depth boundBy
  value-depth (x gets r) = omega arith

  values-depth : (vs : List (Value N)) → max_of depthBinding (map (boundBy cols) vs) ≤ 1
  values-depth [] = omega arith
  values-depth (v ∷ vs) = omega (arith, value-depth v, values-depth vs)

  -- at most 24 constraints and bindings of at most 50 records: 1,200
  in-limits : (S rows : List Row) (vs : List (Value N)) → length S + length rows + length vs ≤ 24 → limited bounded (state S rows vs) ≡ got (state S rows vs)
  unfolding limited sizeState depthState
  in-limits S rows vs h =
      sized-kept (sum_of sizeCon (map con S ++ map con rows) + sum_of sizeBinding (map (boundBy cols) vs))
      (max (max_of depthCon (map con S ++ map con rows)) (max_of depthBinding (map (boundBy cols) vs))) (state S rows vs)
      (omega (arith, two_size S rows, values-size vs)) (omega (arith, cons-depth S rows, values-depth vs))

  -- ══ The rows in front are passed ══

  search-on : (S : List Row) (cs : List (Con N)) → Every Stuck S
      → firstStep ν bounded (map con S ++ cs) ≡ (firstStep ν bounded cs >>= λ f. got (beyond (map con S) f))
  unfolding firstStep taken
  search-on [] cs h = sym (same_after (firstStep ν bounded cs) (λ f. got (beyond [] f)) (λ f. got f) whole ∙ alone (firstStep ν bounded cs))
    where
      whole : (f : Option (Step N × List (Con N))) → got (beyond [] f) ≡ got f
      whole none = refl
      whole (some v) = refl
  search-on (r ∷ S) cs h =
      rw (h.0.1, search-on S cs h.1)
      (bracket (firstStep ν bounded cs) (λ f. got (beyond (map con S) f)) (λ f. got (beyond (con r ∷ []) f))
      ∙ same_after (firstStep ν bounded cs) (λ f. got (beyond (con r ∷ []) (beyond (map con S) f))) (λ f. got (beyond (con r ∷ map con S) f)) both-steps)
    where
      both-steps : (f : Option (Step N × List (Con N))) → got (beyond (con r ∷ []) (beyond (map con S) f)) ≡ got (beyond (con r ∷ map con S) f)
      both-steps none = refl
      both-steps (some v) = refl

  -- no rule applies to what stays
  all-stuck : (S : List Row) (vs : List (Value N)) → Every Stuck S → round ν bounded (state S [] vs) ≡ got none
  unfolding round performed firstStep
  all-stuck S vs h = rw (search-on S [] h) refl

  -- what is done in a round with the first row that doesn't stay
  round-at : (S : List Row) (r : Row) (rows : List Row) (vs : List (Value N)) → Every Stuck S
      → round ν bounded (state S (r ∷ rows) vs)
      ≡ (trySatisfy ν bounded (con r) >>= λ s. taken s (con r) (map con rows) (λ _. firstStep ν bounded (map con rows))
      >>= λ f. performed ν bounded (map (boundBy cols) vs) (beyond (map con S) f))
  unfolding round firstStep
  round-at S r rows vs h =
      rw (search-on S (map con (r ∷ rows)) h)
      (bracket (firstStep ν bounded (map con (r ∷ rows))) (λ f. got (beyond (map con S) f)) (performed ν bounded (map (boundBy cols) vs))
      ∙ bracket (trySatisfy ν bounded (con r)) (λ s. taken s (con r) (map con rows) (λ _. firstStep ν bounded (map con rows)))
      (λ f. performed ν bounded (map (boundBy cols) vs) (beyond (map con S) f)))

  -- a row without factors: done
  gone-round : (S : List Row) (r : Row) (rows : List Row) (vs : List (Value N)) → Every Stuck S → factors cols r ≡ [] → length S + length rows + length vs ≤ 24
      → round ν bounded (state S (r ∷ rows) vs) ≡ got (some (state S rows vs))
  unfolding trySatisfy taken performed perform
  gone-round S r rows vs h e n = round-at S r rows vs h ∙ rw e (rw (in-limits S rows vs n) refl)

  -- ══ A variable is put into everything ══

  -- what a round leaves
  abbrev Left : List Row → ℕ → List Row × List (Value N) → State N → Type 0
  Left S n p s = Every (Fit cols) p.0 × Every FitValue p.1 × (length p.0 ≡ n) × (length S + length p.0 + length p.1 ≤ 24) × (s ≡ state S p.0 p.1)

  module _ (c : ℕ) (x : N) (at : At cols c (free (var x))) (w : Row) (fw : Fit cols w) where
    abbrev put-for : Look N
    put-for = bindings ν (x ≔ dim (factors cols w) ∷ [])

    abbrev OfRow : Row → Con N → Type 0
    OfRow r k = Fit cols r × (k ≡ con r)

    abbrev OfValue : Value N → Binding N → Type 0
    OfValue v b = FitValue v × (b ≡ boundBy cols v)

    replace-con : (r : Row) (k : Con N) → OfRow r k → Alike OfRow (putInRow c w r) (replaceCon ν bounded put-for k)
    unfolding replaceCon
    replace-con r k h = rw h.1 (other-more _ (product-row ν law cols (omega arith) rise c x at w fw r h.0) (λ s p t. both (t.fit, ap is_scalar t.is)))

    replace-value : (v : Value N) (b : Binding N) → OfValue v b → Alike OfValue (putInValue c w v) (replaceBinding ν bounded put-for b)
    unfolding replaceBinding putInValue boundBy
    replace-value (y gets r) b h = rw h.1 (onward _ _ (dimension-row ν law cols (omega arith) rise c x at w fw r h.0) (λ s t i. both (i.0, ap (y ≔◌) i.1)))

    -- what stays has no variable
    stuck-same : (r : Row) → Stuck r → replaceCon ν bounded put-for (con r) ≡ got (con r)
    stuck-same r h = let o = other-there r (replace-con r (con r) (h.0, refl)) (untouched cols c w r fw h.0 (h.2 c x at)) in o.1 ∙ ap got o.2.1

    front_same : (S : List Row) (cs : List (Con N)) → Every Stuck S
        → each (replaceCon ν bounded put-for) (map con S ++ cs) ≡ (each (replaceCon ν bounded put-for) cs >>= λ cs'. got (map con S ++ cs'))
    unfolding each
    front_same [] cs h = sym (alone (each (replaceCon ν bounded put-for) cs))
    front_same (r ∷ S) cs h =
        rw (stuck-same r h.0, front_same S cs h.1) (bracket (each (replaceCon ν bounded put-for) cs) (λ cs'. got (map con S ++ cs')) (λ cs'. got (con r ∷ cs')))

    rows-side : (rows : List Row) → Every (Fit cols) rows → Side OfRow rows (map con rows)
    rows-side [] h = end
    rows-side (r ∷ rows) h = beside (h.0, refl) (rows-side rows h.1)

    values-side : (vs : List (Value N)) → Every FitValue vs → Side OfValue vs (map (boundBy cols) vs)
    values-side [] h = end
    values-side (v ∷ vs) h = beside (h.0, refl) (values-side vs h.1)

    side-rows : {rows : List Row} {cs : List (Con N)} → Side OfRow rows cs → Every (Fit cols) rows × (cs ≡ map con rows)
    side-rows end = (tt, refl)
    side-rows (beside h s) = let t = side-rows s in ((h.0, t.0), ap₂ ◌∷◌ h.1 t.1)

    side-values : {vs : List (Value N)} {bs : List (Binding N)} → Side OfValue vs bs → Every FitValue vs × (bs ≡ map (boundBy cols) vs)
    side-values end = (tt, refl)
    side-values (beside h s) = let t = side-values s in ((h.0, t.0), ap₂ ◌∷◌ h.1 t.1)

    state-is : (S rows' : List Row) (vs' : List (Value N)) (cs' : List (Con N)) (bs' : List (Binding N)) → cs' ≡ map con rows' → bs' ≡ map (boundBy cols) vs'
        → record { cons = map con S ++ cs'; binds = bs' ++ (x ≔ dim (factors cols w) ∷ []) } ≡ state S rows' (vs' ++ (x gets w ∷ []))
    unfolding boundBy
    state-is S rows' vs' cs' bs' i j =
        ap₂ (λ (cs : List (Con N)) (bs : List (Binding N)). record { cons = map con S ++ cs; binds = bs }) i
        (ap (λ (bs : List (Binding N)). bs ++ (x ≔ dim (factors cols w) ∷ [])) j ∙ sym (map-append (boundBy cols) vs' (x gets w ∷ [])))

    one-more-value : (vs : List (Value N)) → length (vs ++ (x gets w ∷ [])) ≡ suc (length vs)
    one-more-value [] = refl
    one-more-value (v ∷ vs) = ap suc (one-more-value vs)

    performed-rows : (S rows : List Row) (vs : List (Value N)) → Every Stuck S → Every (Fit cols) rows → Every FitValue vs
        → length S + suc (length rows) + length vs ≤ 24
        → Alike (Left S (length rows)) (each (putInRow c w) rows >>= λ rows'. each (putInValue c w) vs >>= λ vs'. got (rows', vs' ++ (x gets w ∷ [])))
        (perform ν bounded (map (boundBy cols) vs) (bind x (dim (factors cols w))) (map con S ++ map con rows))
    unfolding perform
    performed-rows S rows vs h fr fv n =
        rw (front_same S (map con rows) h, bracket (each (replaceCon ν bounded put-for) (map con rows)) (λ cs'. got (map con S ++ cs')) _)
        (onward _ _ (each-side _ _ replace-con (rows-side rows fr)) (λ rows' cs' i.
        onward _ _ (each-side _ _ replace-value (values-side vs fv)) (λ vs' bs' j.
        let a = side-rows i.0 in
        let b = side-values j.0 in
        let m : length S + length rows' + length (vs' ++ (x gets w ∷ [])) ≤ 24 = omega (arith, i.1, j.1, one-more-value vs') in
        rw (state-is S rows' vs' cs' bs' a.1 b.1, in-limits S rows' (vs' ++ (x gets w ∷ [])) m)
        (both (a.0, every_append FitValue vs' (x gets w ∷ []) b.0 (fw, tt), i.1, m, refl)))))

  -- a round that binds
  bound-round : (S : List Row) (r : Row) (rows : List Row) (vs : List (Value N)) (c : ℕ) (x : N) → Every Stuck S → Every (Fit cols) rows
      → Every FitValue vs → length S + suc (length rows) + length vs ≤ 24
      → At cols c (free (var x)) → Alike (λ w s. Fit cols w × (s ≡ bind x (dim (factors cols w)))) (solvedFor c r) (trySatisfy ν bounded (con r))
      → Alike (λ p o. (s : State N) × Left S (length rows) p s × (o ≡ some s))
      (solvedFor c r >>= λ w. each (putInRow c w) rows >>= λ rows'. each (putInValue c w) vs >>= λ vs'. got (rows', vs' ++ (x gets w ∷ [])))
      (round ν bounded (state S (r ∷ rows) vs))
  unfolding taken performed
  bound-round S r rows vs c x h fr fv n at i =
      other-is (sym (round-at S r rows vs h))
      (onward _ _ i (λ w s t. rw t.1 (other-more _ (performed-rows c x at w t.0 S rows vs h fr fv n) (λ p s' j. both (s', j, refl)))))

  -- ══ Row by row ══

  abbrev Told : ℕ → ℕ → List Row → List Row → List (Value N) → Got (Reduced N) → Type 0
  Told f k S rows vs m = (k' : ℕ) × (run ν bounded f k (state S rows vs) ≡ answered k' (m >>= λ d. got (settledBy cols (S ++ d.left) d.values)))

  abbrev Claim : ℕ → Type 0
  Claim n = (f k : ℕ) (S rows : List Row) (vs : List (Value N)) → length rows ≡ n → n < f → Every Stuck S → Every (Fit cols) rows → Every FitValue vs
      → length S + length rows + length vs ≤ 24
      → Told f k S rows vs (eliminate cols n rows vs)

  -- no bounds, and every constraint counts
  all-kept : (rows : List Row) → keep (λ c. is_none (boundOf c)) (map con rows) ≡ map con rows
  unfolding keep boundOf
  all-kept [] = refl
  all-kept (r ∷ rows) = ap (con r ∷◌) (all-kept rows)

  finishes : (k : ℕ) (S : List Row) (vs : List (Value N)) → finish ν k (state S [] vs) ≡ answered k (got (settledBy cols (S ++ []) vs))
  unfolding finish finished answered settledBy sort collect
  finishes k S vs = rw (append-nil (map con S), append-nil S, all-kept S) (by_rows S)
    where
      by_rows : (S : List Row) → finished ν (map con S) k (record { cons = map con S; binds = map (boundBy cols) vs }) ≡ answered k (got (settledBy cols S vs))
      by_rows [] = refl
      by_rows (r ∷ S) = refl

  module _ (n : ℕ) (again : Claim n) (f k : ℕ) (S : List Row) (r : Row) (rows : List Row) (vs : List (Value N)) (l : length rows ≡ n) (m : n < f)
      (h : Every Stuck S) (fr : Fit cols r × Every (Fit cols) rows) (fv : Every FitValue vs) (few-all : length S + suc (length rows) + length vs ≤ 24) where
    abbrev rest : List Row → List (Value N) → Got (Reduced N)
    rest rows' vs' = eliminate cols n rows' vs'

    abbrev read : Reduced N → Got (Settled N)
    read d = got (settledBy cols (S ++ d.left) d.values)

    -- gone: a round, and on
    turn-gone : factors cols r ≡ [] → Told (suc f) k S (r ∷ rows) vs (turned gone r rows vs rest)
    unfolding turned
    turn-gone e =
        let b = again f (suc k) S rows vs l m h fr.1 fv (omega arith) in
        (b.0, run-goes ν f k (state S (r ∷ rows) vs) (state S rows vs) (gone-round S r rows vs h e (omega arith)) ∙ b.1)

    -- it stays: no round, and it stands in front from now on
    turn-stays : Stuck r → Told (suc f) k S (r ∷ rows) vs (turned stays r rows vs rest)
    unfolding turned
    turn-stays st =
        let moved : map con (S ++ (r ∷ [])) ++ map con rows ≡ map con S ++ map con (r ∷ rows) =
        ap (λ (cs : List (Con N)). cs ++ map con rows) (map-append con S (r ∷ [])) ∙ append_assoc (map con S) (con r ∷ []) (map con rows) in
        let b = again (suc f) k (S ++ (r ∷ [])) rows vs l (omega arith) (every_append Stuck S (r ∷ []) h (st, tt)) fr.1 fv (omega (arith, one-longer S)) in (
          b.0,
          ap (λ (cs : List (Con N)). run ν bounded (suc f) k (record { cons = cs; binds = map (boundBy cols) vs })) (sym moved)
              ∙ b.1
              ∙ ap (answered b.0) (same_after (rest rows vs) _ _
              (λ d. ap (λ (q : List Row). got (settledBy cols q d.values)) (append_assoc S (r ∷ []) d.left))
              ∙ sym (bracket (rest rows vs) _ read)),
        )
      where
        one-longer : (q : List Row) → length (q ++ (r ∷ [])) ≡ suc (length q)
        one-longer [] = refl
        one-longer (x ∷ q) = ap suc (one-longer q)

    -- rows and values after a variable was put in
    abbrev pairs : ℕ → N → Got (List Row × List (Value N))
    pairs c x = solvedFor c r >>= λ w. each (putInRow c w) rows >>= λ rows'. each (putInValue c w) vs >>= λ vs'. got (rows', vs' ++ (x gets w ∷ []))

    in_pairs : (c : ℕ) (x : N) → turned (binds c x) r rows vs rest ≡ (pairs c x >>= λ q. rest q.0 q.1)
    unfolding turned
    in_pairs c x =
        sym (bracket (solvedFor c r) _ _
        ∙ same_after (solvedFor c r) _ _
        (λ w. bracket (each (putInRow c w) rows) _ _
        ∙ same_after (each (putInRow c w) rows) _ _ (λ rows'. bracket (each (putInValue c w) vs) _ _)))

    stop-answer : (j : ℕ) → stopped j k ≡ answered k (◌>>=◌ {A = Reduced N} (refused j) read)
    unfolding answered
    stop-answer j = refl

    -- it binds a variable: a round, and on with all rows and values brought up to date; or both are refused
    turn-binds : (c : ℕ) (x : N) → At cols c (free (var x))
        → Alike (λ w s. Fit cols w × (s ≡ bind x (dim (factors cols w)))) (solvedFor c r) (trySatisfy ν bounded (con r))
        → Told (suc f) k S (r ∷ rows) vs (turned (binds c x) r rows vs rest)
    turn-binds c x at i = went (round ν bounded (state S (r ∷ rows) vs)) (pairs c x) (bound-round S r rows vs c x h fr.1 fv few-all at i) refl refl
      where
        went : (o : Got (Option (State N))) (p : Got (List Row × List (Value N))) → Alike (λ p o. (s : State N) × Left S (length rows) p s × (o ≡ some s)) p o
            → round ν bounded (state S (r ∷ rows) vs) ≡ o → pairs c x ≡ p → Told (suc f) k S (r ∷ rows) vs (turned (binds c x) r rows vs rest)
        went o p (both {a = q} {b = v} j) e g =
            let b = again f (suc k) S q.0 q.1 (j.1.2 ∙ l) m h j.1.0 j.1.1 j.1.3 in (
              b.0,
              run-goes ν f k (state S (r ∷ rows) vs) j.0 (e ∙ ap got j.2) ∙ ap (run ν bounded f (suc k)) j.1.4 ∙ b.1
                  ∙ ap (λ (d : Got (Reduced N)). answered b.0 (d >>= read)) (sym (in_pairs c x ∙ ap (◌>>= λ q. rest q.0 q.1) g)),
            )
        went o p (neither {n = j}) e g = (
          k,
          run-stops ν f k j (state S (r ∷ rows) vs) e ∙ stop-answer j
              ∙ ap (λ (d : Got (Reduced N)). answered k (d >>= read)) (sym (in_pairs c x ∙ ap (◌>>= λ q. rest q.0 q.1) g)),
        )

  by-fate : (n : ℕ) → Claim n → (f k : ℕ) (S : List Row) (r : Row) (rows : List Row) (vs : List (Value N)) → length rows ≡ n → n < f
      → Every Stuck S → Fit cols r × Every (Fit cols) rows → Every FitValue vs → length S + suc (length rows) + length vs ≤ 24
      → (t : Fate N) → Does ν law cols r t → Told (suc f) k S (r ∷ rows) vs (turned t r rows vs (λ rows' vs'. eliminate cols n rows' vs'))
  by-fate n again f k S r rows vs l m h fr fv q gone (is-gone e) = turn-gone n again f k S r rows vs l m h fr fv q e
  by-fate n again f k S r rows vs l m h fr fv q stays (is_stuck e z) = turn-stays n again f k S r rows vs l m h fr fv q (fr.0, e, z)
  by-fate n again f k S r rows vs l m h fr fv q (binds c x) (is_bound at z i) = turn-binds n again f k S r rows vs l m h fr fv q c x at i

  none_left : Claim 0
  unfolding eliminate
  none_left zero k S rows vs l m h fr fv q = absurd (omega arith)
  none_left (suc f) k S [] vs l m h fr fv q = (k, run_ends ν f k (state S [] vs) (all-stuck S vs h) ∙ finishes k S vs)
  none_left (suc f) k S (r ∷ rows) vs l m h fr fv q = absurd (omega arith)

  one-row : (n : ℕ) → Claim n → Claim (suc n)
  unfolding eliminate
  one-row n again zero k S rows vs l m h fr fv q = absurd (omega arith)
  one-row n again (suc f) k S [] vs l m h fr fv q = absurd (omega arith)
  one-row n again (suc f) k S (r ∷ rows) vs l m h fr fv q = by-fate n again f k S r rows vs (omega arith) (omega arith) h fr fv q (fate cols r)
      (does ν law cols r rise fr.0)

  pub row-by-row : (n : ℕ) → Claim n
  row-by-row zero = none_left
  row-by-row (suc n) = one-row n (row-by-row n)
