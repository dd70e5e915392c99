-- What a round did: it bound a variable, put constraints in another's place, or took one away. And how a run ended.
use Rattle.std.proofs.Math.Path.{◌≡◌, refl, ap}
use Rattle.std.proofs.Common.{◌∙◌, sym, inl, inr}
use Rattle.std.proofs.Math.Option.{Option, none, some}
use Rattle.std.specs.Prelude.{◌⊎◌}
use mathlib.Core.List.Memᴰ
use mathlib.Core.List.{List, [], ◌∷◌, ◌++◌, Memᴰ}
use Prim.Native.Nat.{ℕ, zero, suc}
use Rattle.rules.specs.Base.{Got, got, refused, ◌>>=◌, Limits, each, keep, collect, to_list, is_none}
use Rattle.rules.specs.Contents.{sort}
use Rattle.rules.specs.Trees.{Names, Ty, Con, Binding, ◌≔◌}
use Rattle.rules.specs.Replacing.{replaceCon, replaceBinding, bindings}
use Rattle.rules.specs.Rounds.{Step, bind, split, done, stuck, State, trySatisfy, taken, sizeState, depthState, limited, firstStep, perform, performed, round}
use Rattle.rules.specs.Solving.{Answer, accepted, boundOf, finished, finish, after, run}
use Rattle.laws.specs.Lists.{All, all_cons, in_head}
use Rattle.laws.proofs.Lists.{some≢none, got≢refused}
use Rattle.laws.proofs.Sized.{sized_same}

module _ {N : Type 0} (ν : Names N) (l : Limits) where
  -- the constraint that a step was made of, and the others
  pub record Found (cs : List (Con N)) (s : Step N) (rest : List (Con N)) : Type 0 where
    pub con : Con N
    pub given : Memᴰ con cs
    pub tried : trySatisfy ν l con ≡ got s
    pub moves : s ≡ stuck → ⊥
    pub kept : All (λ c. Memᴰ c cs) rest
    pub others : (c : Con N) → Memᴰ c cs → (c ≡ con) ⊎ Memᴰ c rest

  -- the round bound x to t
  pub record Bound (s s' : State N) : Type 0 where
    pub x : N
    pub t : Ty N
    pub rest : List (Con N)
    pub found : Found s.cons (bind x t) rest
    pub older : List (Binding N)
    pub replaced : each (replaceCon ν l (bindings ν (x ≔ t ∷ []))) rest ≡ got s'.cons
    pub replacedBinds : each (replaceBinding ν l (bindings ν (x ≔ t ∷ []))) s.binds ≡ got older
    pub appended : s'.binds ≡ older ++ (x ≔ t ∷ [])

  pub record Split (s s' : State N) : Type 0 where
    pub new : List (Con N)
    pub rest : List (Con N)
    pub found : Found s.cons (split new) rest
    pub joined : s'.cons ≡ rest ++ new
    pub same : s'.binds ≡ s.binds

  pub record Taken (s s' : State N) : Type 0 where
    pub found : Found s.cons done s'.cons
    pub same : s'.binds ≡ s.binds

  pub data Turn (s s' : State N) : Type 0 where
    bound : Bound s s' → Turn s s'
    parted : Split s s' → Turn s s'
    dropped : Taken s s' → Turn s s'

  step-apart : {s : Step N} → (s ≡ stuck → ⊥) → (c : Con N) (cs : List (Con N)) → trySatisfy ν l c ≡ got s → Found (c ∷ cs) s cs
  step-apart h c cs e = record { con = c; given = in_head; tried = e; moves = h; kept = λ d m. Memᴰ.tail m; others = λ d m. Memᴰ.cases_cons m }

  later : (c : Con N) (cs : List (Con N)) (s : Step N) (rest : List (Con N)) → Found cs s rest → Found (c ∷ cs) s (c ∷ rest)
  later c cs s rest f = record {
    con = f.con;
    given = Memᴰ.tail f.given;
    tried = f.tried;
    moves = f.moves;
    kept = all_cons (λ d. Memᴰ d (c ∷ cs)) in_head (λ d m. Memᴰ.tail (f.kept d m));
    others = λ d m. go d (Memᴰ.cases_cons m);
  }
    where
      more : (d : Con N) → (d ≡ f.con) ⊎ Memᴰ d rest → (d ≡ f.con) ⊎ Memᴰ d (c ∷ rest)
      more d (inl i) = inl i
      more d (inr i) = inr (Memᴰ.tail i)

      go : (d : Con N) → (d ≡ c) ⊎ Memᴰ d cs → (d ≡ f.con) ⊎ Memᴰ d (c ∷ rest)
      go d (inl i) = inr (Memᴰ.head i)
      go d (inr i) = more d (f.others d i)

  module _ (c : Con N) (cs : List (Con N)) (v : Step N × List (Con N))
      (again : (w : Step N × List (Con N)) → firstStep ν l cs ≡ got (some w) → Found cs w.0 w.1) where
    taken-found : (s : Step N) → trySatisfy ν l c ≡ got s → taken s c cs (λ _. firstStep ν l cs) ≡ got (some v) → Found (c ∷ cs) v.0 v.1
    unfolding taken
    taken-found (bind x t) i e = let q : (bind x t, cs) ≡ v = cc in rw (sym q) (step-apart (λ z. cc) c cs i)
    taken-found (split new) i e = let q : (split new, cs) ≡ v = cc in rw (sym q) (step-apart (λ z. cc) c cs i)
    taken-found done i e = let q : (done, cs) ≡ v = cc in rw (sym q) (step-apart (λ z. cc) c cs i)
    taken-found stuck i e = go (firstStep ν l cs) refl
      where
        go : (r : Got (Option (Step N × List (Con N)))) → firstStep ν l cs ≡ r → Found (c ∷ cs) v.0 v.1
        go (refused n) j = let z : refused n ≡ got (some v) = rw j at e in absurd (got≢refused (sym z))
        go (got none) j = let z : got none ≡ got (some v) = rw j at e in let y : none ≡ some v = cc in absurd (some≢none (sym y))
        go (got (some w)) j =
            let z : got (some (w.0, c ∷ w.1)) ≡ got (some v) = rw j at e in
            let q : (w.0, c ∷ w.1) ≡ v = cc in
            rw (sym q) (later c cs w.0 w.1 (again w j))

  pub found : (cs : List (Con N)) (v : Step N × List (Con N)) → firstStep ν l cs ≡ got (some v) → Found cs v.0 v.1
  unfolding firstStep
  found [] v e = let y : none ≡ some v = cc in absurd (some≢none (sym y))
  found (c ∷ cs) v e = go (trySatisfy ν l c) refl (found cs)
    where
      go : (r : Got (Step N)) → trySatisfy ν l c ≡ r → ((w : Step N × List (Con N)) → firstStep ν l cs ≡ got (some w) → Found cs w.0 w.1)
          → Found (c ∷ cs) v.0 v.1
      go (refused n) i h = let z : refused n ≡ got (some v) = rw (i, firstStep) at e in absurd (got≢refused (sym z))
      go (got s) i h = taken-found c cs v h s i (rw (i, firstStep) at e)

  limited-same : (s s' : State N) → limited l s ≡ got s' → s ≡ s'
  unfolding limited
  limited-same s s' e = sized_same (sizeState s) (depthState s) s l s' e

  performed-turn : (s s' : State N) (step : Step N) (rest : List (Con N)) → Found s.cons step rest → perform ν l s.binds step rest ≡ got s' → Turn s s'
  unfolding perform
  performed-turn s s' (bind x t) rest f e = go (each (replaceCon ν l (bindings ν (x ≔ t ∷ []))) rest) refl
      (each (replaceBinding ν l (bindings ν (x ≔ t ∷ []))) s.binds) refl
    where
      go : (r : Got (List (Con N))) → each (replaceCon ν l (bindings ν (x ≔ t ∷ []))) rest ≡ r → (q : Got (List (Binding N)))
          → each (replaceBinding ν l (bindings ν (x ≔ t ∷ []))) s.binds ≡ q → Turn s s'
      go (refused n) i q j = let z : refused n ≡ got s' = rw (i, perform) at e in absurd (got≢refused (sym z))
      go (got cs') i (refused n) j = let z : refused n ≡ got s' = rw (i, j, perform) at e in absurd (got≢refused (sym z))
      go (got cs') i (got bs') j =
          let z : limited l (record { cons = cs'; binds = bs' ++ (x ≔ t ∷ []) }) ≡ got s' = rw (i, j, perform) at e in
          let w : record { cons = cs'; binds = bs' ++ (x ≔ t ∷ []) } ≡ s' = limited-same _ s' z in
          bound (record {
            x = x;
            t = t;
            rest = rest;
            found = f;
            older = bs';
            replaced = i ∙ ap (λ (u : State N). got u.cons) w;
            replacedBinds = j;
            appended = ap (λ (u : State N). u.binds) (sym w);
          })
  performed-turn s s' (split new) rest f e =
      let w : record { cons = rest ++ new; binds = s.binds } ≡ s' = limited-same _ s' e in
      parted (record { new = new; rest = rest; found = f; joined = ap (λ (u : State N). u.cons) (sym w); same = ap (λ (u : State N). u.binds) (sym w) })
  performed-turn s s' done rest f e =
      let w : record { cons = rest; binds = s.binds } ≡ s' = limited-same _ s' e in
      dropped (record { found = rw (ap (λ (u : State N). u.cons) (sym w)) f; same = ap (λ (u : State N). u.binds) (sym w) })
  performed-turn s s' stuck rest f e = absurd (f.moves refl)

  pub turn : (s s' : State N) → round ν l s ≡ got (some s') → Turn s s'
  unfolding round performed
  turn s s' e = go (firstStep ν l s.cons) refl
    where
      go : (r : Got (Option (Step N × List (Con N)))) → firstStep ν l s.cons ≡ r → Turn s s'
      go (refused n) i = let z : refused n ≡ got (some s') = rw (i, round) at e in absurd (got≢refused (sym z))
      go (got none) i = let z : got none ≡ got (some s') = rw (i, round) at e in let y : none ≡ some s' = cc in absurd (some≢none (sym y))
      go (got (some v)) i = more (perform ν l s.binds v.0 v.1) refl (rw (i, round) at e)
        where
          more : (r : Got (State N)) → perform ν l s.binds v.0 v.1 ≡ r → (perform ν l s.binds v.0 v.1 >>= λ s''. got (some s'')) ≡ got (some s') → Turn s s'
          more (refused n) j h = let z : refused n ≡ got (some s') = rw j at h in absurd (got≢refused (sym z))
          more (got u) j h = let z : got (some u) ≡ got (some s') = rw j at h in let q : u ≡ s' = cc
              in performed-turn s s' v.0 v.1 (found s.cons v i) (j ∙ ap got q)

-- ══ A run ══

-- the state in which a run ends, and what is answered of it
pub record Ended {N : Type 0} (ν : Names N) (bs : List (Binding N)) (ns : List N) (s : State N) : Type 0 where
  pub left : keep (λ c. is_none (boundOf c)) s.cons ≡ []
  pub binds : bs ≡ s.binds
  pub bounds : ns ≡ sort ν (collect (λ c. to_list (boundOf c)) s.cons)

module _ {N : Type 0} (ν : Names N) (l : Limits) (bs : List (Binding N)) (ns : List N) (j : ℕ) where
  finished-ended : (cs : List (Con N)) (k : ℕ) (s : State N) → keep (λ c. is_none (boundOf c)) s.cons ≡ cs → finished ν cs k s ≡ accepted bs ns j
      → Ended ν bs ns s
  unfolding finished
  finished-ended [] k s i e = record { left = i; binds = cc; bounds = cc }
  finished-ended (c ∷ cs) k s i e = absurd (cc)

  after-back : (P : State N → Type 0) → ((s : State N) → Ended ν bs ns s → P s) → ((s s' : State N) → Turn ν l s s' → P s' → P s)
      → (k : ℕ) (s : State N) (more : State N → Answer N) → ((s' : State N) → more s' ≡ accepted bs ns j → P s')
      → (r : Got (Option (State N))) → round ν l s ≡ r → after ν r k s more ≡ accepted bs ns j → P s
  unfolding after finish
  after-back P end step k s more again (refused n) i e = absurd (cc)
  after-back P end step k s more again (got none) i e = end s (finished-ended (keep (λ c. is_none (boundOf c)) s.cons) k s refl e)
  after-back P end step k s more again (got (some s')) i e = step s s' (turn ν l s s' i) (again s' e)

  -- what holds at the end, and before a round if after it, holds from the start
  pub run-back : (P : State N → Type 0) → ((s : State N) → Ended ν bs ns s → P s) → ((s s' : State N) → Turn ν l s s' → P s' → P s)
      → (f k : ℕ) (s : State N) → run ν l f k s ≡ accepted bs ns j → P s
  unfolding run
  run-back P end step zero k s e = absurd (cc)
  run-back P end step (suc f) k s e = after-back P end step k s (λ s'. run ν l f (suc k) s') (λ s' i. run-back P end step f (suc k) s' i) (round ν l s) refl e
