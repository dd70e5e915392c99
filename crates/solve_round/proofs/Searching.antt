-- The first constraint to which a rule applies: what is left of the search.
use Rattle.std.specs.Prelude.{◌≡◌, true, refl, List, [], ◌∷◌, ◌++◌, ℕ, ◌+◌, ◌≤◌, Ok}
use Rattle.std.proofs.Common.{ap, arith, sym, subst, ◌∙◌}
use Rattle.std.proofs.Math.Bool.{and-eq-true_iff}
use mathlib.Core.List.{append-nil, cons≢nil}
use Rattle.std.proofs.Math.Option.{Option, none, some}
use Rattle.std.proofs.Math.Seq.{append_snoc}
use Rattle.rules.specs.Base.{Got, got, refused, ◌>>=◌, bounded, all, and_then, sum_of}
use Rattle.rules.specs.Rounds.{Step, bind, split, done, stuck, State, trySatisfy, taken, firstStep, perform, performed, round, sizeState, depthState}
use Rattle.rules.specs.Trees.{Con, Binding, sizeCon, depthCon}
use Rattle.laws.proofs.Lists.{and_both, every_append}
use Rattle.records.specs.Good.{goodCon, numbers}
use Rattle.records.specs.Holds.{HoldsCon}
use Rattle.solve_step.specs.Stepped.{Stepped}
use Rattle.solve_step.specs.declared.Step as code
use Rattle.types.specs.declared.Bindings.{Bindings}
use Rattle.types.specs.Sets.{con-some, IsCons, placed}
use Rattle.types.proofs.OnSets.{HoldsCons}
use Rattle.types.specs.Runs.{HoldsEach}
use Rattle.solve_round.specs.declared.Others.{Others}
use Rattle.solve_round.specs.States.{Idle, SoundSet, SoundBinds}
use Rattle.solve_round.specs.Parts.{after, performs, Are, Taken}
use Rattle.solve_round.proofs.Limits.{kept, sound-both, sum_both}

-- constraints with the words that they stand in, and their places there
abbrev pub Rest : Type 0
Rest = List (List ℕ × ℕ × Con ℕ)

cons-join : (s : List ℕ) (cs ds : List (Con ℕ)) (at m : ℕ) → m ≡ at + sum_of sizeCon cs → HoldsCons s cs at → HoldsCons s ds m → HoldsCons s (cs ++ ds) at
unfolding HoldsEach
cons-join s [] ds at m e h k = let z : m ≡ at = omega (arith, e) in subst (HoldsCons s ds) z k
cons-join s (c ∷ cs) ds at m e h k = (h.0, cons-join s cs ds (at + sizeCon c) m (omega (arith, e)) h.1 k)

-- and apart again
cons-part : (s : List ℕ) (cs ds : List (Con ℕ)) (at : ℕ) → HoldsCons s (cs ++ ds) at → HoldsCons s cs at × HoldsCons s ds (at + sum_of sizeCon cs)
unfolding HoldsEach
cons-part s [] ds at h = let z : at ≡ at + 0 = omega arith in (tt, subst (HoldsCons s ds) z h)
cons-part s (c ∷ cs) ds at h =
    let r = cons-part s cs ds (at + sizeCon c) h.1 in
    let z : at + sizeCon c + sum_of sizeCon cs ≡ at + (sizeCon c + sum_of sizeCon cs) = omega arith in
    ((h.0, r.0), subst (HoldsCons s ds) z r.1)

pub is-part : (s : List ℕ) (at n : ℕ) (cs ds : List (Con ℕ)) → IsCons s at n (cs ++ ds)
    → IsCons s at (at + sum_of sizeCon cs) cs × IsCons s (at + sum_of sizeCon cs) n ds
is-part s at n cs ds h =
    let p = cons-part s cs ds at h.held in
    (record { held = p.0; ends = refl }, record { held = p.1; ends = omega (arith, h.ends, sum_both sizeCon cs ds) })

module _ (pool table : List ℕ) where
  -- what the round gives when no rule applies to those before
  unfoldable pub leads : List (Con ℕ) → List (Con ℕ) → List (Binding ℕ) → Got (Option (State ℕ))
  leads before rest bs = firstStep (numbers pool table) bounded rest
      >>= λ f. performed (numbers pool table) bounded bs (and_then f (λ v. some (v.0, before ++ v.1)))

  leads-past : (before : List (Con ℕ)) (c : Con ℕ) (behind : List (Con ℕ)) (bs : List (Binding ℕ)) → trySatisfy (numbers pool table) bounded c ≡ got stuck
      → leads before (c ∷ behind) bs ≡ leads (before ++ c ∷ []) behind bs
  unfolding leads firstStep taken
  leads-past before c behind bs e = rw e (go (firstStep (numbers pool table) bounded behind))
    where
      go : (R : Got (Option (Step ℕ × List (Con ℕ))))
          → ((R >>= λ r. got (and_then {B = Step ℕ × List (Con ℕ)} r (λ v. some (v.0, c ∷ v.1))))
          >>= λ f. performed (numbers pool table) bounded bs (and_then f (λ v. some (v.0, before ++ v.1))))
          ≡ (R >>= λ f. performed (numbers pool table) bounded bs (and_then f (λ v. some (v.0, (before ++ c ∷ []) ++ v.1))))
      go (refused k) = refl
      go (got none) = refl
      go (got (some v)) = ap (λ (l : List (Con ℕ)). performed (numbers pool table) bounded bs (some (v.0, l))) (sym (append_snoc before c v.1))

  -- those to which no rule applies are passed by
  leads-by : (before front rest : List (Con ℕ)) (bs : List (Binding ℕ)) → Idle pool table front
      → leads before (front ++ rest) bs ≡ leads (before ++ front) rest bs
  leads-by before [] rest bs h = ap (λ (l : List (Con ℕ)). leads l rest bs) (sym (append-nil before))
  leads-by before (c ∷ cs) rest bs h =
      leads-past before c (cs ++ rest) bs h.0 ∙ leads-by (before ++ c ∷ []) cs rest bs h.1
      ∙ ap (λ (l : List (Con ℕ)). leads l rest bs) (append_snoc before c cs)

  module _ (w : List ℕ) (from n : ℕ) (set : List (Con ℕ)) (bs : List (Binding ℕ)) where
    abbrev pub whole : Got (Option (State ℕ))
    whole = round (numbers pool table) bounded (record { cons = set; binds = bs })

    -- no rule applies to the constraints before those that are left
    pub record Search (left : Rest) : Type 0 where
      pub before : List (Con ℕ)
      pub rest : List (Con ℕ)
      pub at : ℕ
      pub is : left ≡ placed w at rest
      pub passed : IsCons w from at before
      pub stay : IsCons w at n rest
      pub idle : Idle pool table before
      pub sound_before : SoundSet pool table before
      pub sound : SoundSet pool table rest
      pub short : sum_of sizeCon rest ≤ 2048
      pub decides : whole ≡ leads before rest bs

    all-lead : (cs : List (Con ℕ)) → round (numbers pool table) bounded (record { cons = cs; binds = bs }) ≡ leads [] cs bs
    unfolding round leads
    all-lead cs = go (firstStep (numbers pool table) bounded cs)
      where
        all_left : (f : Option (Step ℕ × List (Con ℕ)))
            → performed (numbers pool table) bounded bs f ≡ performed (numbers pool table) bounded bs (and_then f (λ v. some (v.0, [] ++ v.1)))
        all_left none = refl
        all_left (some v) = refl

        go : (R : Got (Option (Step ℕ × List (Con ℕ)))) → (R >>= λ f. performed (numbers pool table) bounded bs f)
            ≡ (R >>= λ f. performed (numbers pool table) bounded bs (and_then f (λ v. some (v.0, [] ++ v.1))))
        go (got f) = all_left f
        go (refused k) = refl

    pub start : {left : Rest} (front rest : List (Con ℕ)) {at : ℕ} → set ≡ front ++ rest → Idle pool table front → SoundSet pool table front
        → SoundSet pool table rest → IsCons w from at front → IsCons w at n rest → sum_of sizeCon rest ≤ 2048 → left ≡ placed w at rest → Search left
    start front rest i k s t g h few e = record {
      before = front;
      rest = rest;
      at = _;
      is = e;
      passed = g;
      stay = h;
      idle = k;
      sound_before = s;
      sound = t;
      short = few;
      decides = all-lead set ∙ ap (λ (l : List (Con ℕ)). leads [] l bs) i ∙ leads-by [] front rest bs k;
    }

    -- none is left
    pub ended : {left : Rest} → Search left → left ≡ [] → whole ≡ got none
    unfolding leads firstStep performed
    ended {left} s e = s.decides ∙ go s.rest (sym s.is ∙ e)
      where
        go : (cs : List (Con ℕ)) → placed w s.at cs ≡ [] → leads s.before cs bs ≡ got none
        go [] q = refl
        go (c ∷ cs) q = absurd (cons≢nil q)

    -- the next one
    pub record Found (x : List ℕ × ℕ × Con ℕ) (left : Rest) : Type 0 where
      pub before : List (Con ℕ)
      pub behind : List (Con ℕ)
      pub held : HoldsCon w x.2 x.1
      pub good : goodCon pool table 0 x.2 ≡ true
      pub deep : depthCon x.2 ≤ 64
      pub short : sizeCon x.2 + sum_of sizeCon behind ≤ 2048
      pub passed : IsCons w from x.1 before
      pub stay : IsCons w (x.1 + sizeCon x.2) n behind
      pub idle : Idle pool table before
      pub sound_before : SoundSet pool table before
      pub sound_behind : SoundSet pool table behind
      pub decides : whole ≡ leads before (x.2 ∷ behind) bs
      pub is : left ≡ placed w (x.1 + sizeCon x.2) behind

    pub found : {now : Rest} (x : List ℕ × ℕ × Con ℕ) (left : Rest) → Search now → now ≡ x ∷ left → Found x left
    unfolding HoldsEach all
    found {now} x left s e = go s.rest s.stay s.sound s.short s.decides (sym s.is ∙ e)
      where
        go : (cs : List (Con ℕ)) → IsCons w s.at n cs → SoundSet pool table cs → sum_of sizeCon cs ≤ 2048 → whole ≡ leads s.before cs bs
            → placed w s.at cs ≡ x ∷ left → Found x left
        go [] p k few d q = absurd (cons≢nil (sym q))
        go (c ∷ cs) p k few d q =
            let first : (w, s.at, c) ≡ x = cc in
            let rest : placed w (s.at + sizeCon c) cs ≡ left = cc in
            let g = (and-eq-true_iff (goodCon pool table 0 c) (all (goodCon pool table 0) cs)).0 k.good in
            let f : Found (w, s.at, c) left = record {
              before = s.before;
              behind = cs;
              held = p.held.0;
              good = g.0;
              deep = omega (arith, k.flat);
              short = few;
              passed = s.passed;
              stay = record { held = p.held.1; ends = omega (arith, p.ends) };
              idle = s.idle;
              sound_before = s.sound_before;
              sound_behind = record { good = g.1; flat = omega (arith, k.flat) };
              decides = d;
              is = sym rest;
            } in
            subst (λ (y : List ℕ × ℕ × Con ℕ). Found y left) first f

    module _ {x : List ℕ × ℕ × Con ℕ} {left : Rest} (f : Found x left) where
      abbrev c : Con ℕ
      c = x.2

      -- without it: what the constraint that is taken is
      pub is-taken : {d was : List ℕ} {r : code.Step} (o : Others) {p : Others} → SoundBinds pool table o.bindings.trees.0 → Are p f.before f.behind o.bindings
          → Stepped was d 0 (Ok r) (trySatisfy (numbers pool table) bounded c) → Taken pool table d p r c
      is-taken o sound are stepped = record {
        sound = record {
          before = subst (SoundSet pool table) (sym are.before) f.sound_before;
          behind = subst (SoundSet pool table) (sym are.behind) f.sound_behind;
          bindings = subst (λ (b : Bindings). SoundBinds pool table b.trees.0) (sym are.bindings) sound;
        };
        good = f.good;
        deep = f.deep;
        short = omega (arith, f.short);
        was = _;
        stepped = stepped;
      }

      -- a rule applies to it
      pub applied : (o : Others) → o.before.trees.0 ≡ f.before → o.behind.trees.0 ≡ f.behind → o.bindings.trees.0 ≡ bs
          → (trySatisfy (numbers pool table) bounded c ≡ got stuck → ⊥) → whole ≡ performs pool table o c
      unfolding leads firstStep taken performed perform
      applied o i j l some-rule = f.decides ∙ go (trySatisfy (numbers pool table) bounded c) refl
        where
          go : (R : Got (Step ℕ)) → trySatisfy (numbers pool table) bounded c ≡ R → leads f.before (c ∷ f.behind) bs ≡ after pool table o R
          go (got (bind y t)) e = rw (e, i, j, l) refl
          go (got (split new)) e = rw (e, i, j, l) refl
          go (got done) e = rw (e, i, j, l, append-nil (f.before ++ f.behind)) refl
          go (got stuck) e = absurd (some-rule e)
          go (refused k) e = rw e refl

      none-before : x.1 ≡ from → f.before ≡ []
      none-before i = go f.before f.passed.ends
        where
          go : (cs : List (Con ℕ)) → x.1 ≡ from + sum_of sizeCon cs → cs ≡ []
          go [] e = refl
          go (d ∷ ds) e = absurd (omega (arith, i, e, con-some d))

      -- it is the first, and done with
      pub done-first : x.1 ≡ from → trySatisfy (numbers pool table) bounded c ≡ got done → sizeState (record { cons = f.behind; binds = bs }) ≤ 2048
          → depthState (record { cons = f.behind; binds = bs }) ≤ 64 → whole ≡ got (some (record { cons = f.behind; binds = bs }))
      unfolding leads firstStep taken performed perform
      done-first i e few flat = f.decides ∙ rw (none-before i, e) (kept (record { cons = f.behind; binds = bs }) few flat)

      -- it is refused
      pub stops : {k : ℕ} → trySatisfy (numbers pool table) bounded c ≡ refused k → whole ≡ refused k
      unfolding leads firstStep
      stops e = f.decides ∙ rw e refl

      -- or none does
      pub on : trySatisfy (numbers pool table) bounded c ≡ got stuck → Search left
      unfolding HoldsEach all
      on stuck-here = record {
        before = f.before ++ c ∷ [];
        rest = f.behind;
        at = x.1 + sizeCon c;
        is = f.is;
        passed = record {
          held = cons-join w f.before (c ∷ []) from x.1 f.passed.ends f.passed.held (f.held, tt);
          ends = omega (arith, f.passed.ends, sum_both sizeCon f.before (c ∷ []));
        };
        stay = f.stay;
        idle = every_append _ f.before (c ∷ []) f.idle (stuck-here, tt);
        sound_before = sound-both pool table f.before (c ∷ []) f.sound_before (record { good = and_both f.good refl; flat = omega (arith, f.deep) });
        sound = f.sound_behind;
        short = omega (arith, f.short);
        decides = f.decides ∙ leads-past f.before c f.behind bs stuck-here;
      }
