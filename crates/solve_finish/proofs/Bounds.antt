-- Where every constraint is a bound: their names, and bindings and bounds in the result buffer.
use Rattle.std.specs.Prelude.{◌≡◌, Bool, true, false, ℕ, ◌+◌, ◌-◌, ◌*◌, ◌≤◌, ◌<◌, get_or, take}
use Rattle.std.proofs.Math.Path.{refl, sym, ap}
use Rattle.std.proofs.Common.{subst, ◌∙◌, zero-add, add-one}
use Rattle.std.proofs.Math.Bool.{and-eq-true_iff}
use mathlib.Core.List.{List, [], ◌∷◌, ◌++◌, map, cons≢nil}
use Rattle.std.proofs.Math.Option.{Option, none, some}
use Rattle.std.proofs.Math.Nat.{add-zero}
use native.Mathlib.Omega.{arith}
use Rattle.std.proofs.Math.ListN.{length, drop, length-append, length-map}
use Rattle.std.proofs.Math.Seq.{sets, sets-eq, slice, slice_empty, slice-cons, take_at}
use Rattle.rules.specs.Base.{all, keep, collect, to_list, is_none, sum_of}
use Rattle.rules.specs.Calls.{over, resultAfter, unsolved, solvedOf, solvedWords}
use Rattle.rules.specs.Contents.{namesIn, sort}
use Rattle.rules.specs.Rounds.{State}
use Rattle.rules.specs.Solving.{boundOf, finish, finished}
use Rattle.rules.specs.Trees.{
  var,
  quant,
  par,
  opened,
  basic,
  dim,
  fn,
  struct,
  list,
  Con,
  equal,
  isDim,
  is_scalar,
  hasField,
  opens,
  opensCon,
  sizeCon,
  sizeBinding,
}
use Rattle.rules.specs.Writing.{Rec, words, writeCon, writeBinding, writeBound}
use Rattle.laws.proofs.Lists.{every_append}
use Rattle.laws.proofs.KnownNames.{Known, con-known}
use Rattle.laws.specs.Lists.{Every}
use Rattle.laws.proofs.SortedNames.{sort-few}
use Rattle.laws.proofs.Size.{set-length, bindings-length}
use Rattle.laws.proofs.Size.{words-length, words_append}
use Rattle.records.proofs.Buffers.{stored}
use Rattle.records.specs.Good.{Chain, goodCon, numbers, holding}
use Rattle.records.proofs.Held.{shown, parted}
use Rattle.records.specs.Holds.{HoldsCon, HoldsBounds}
use Rattle.records.proofs.Stores.{sets-append}
use Rattle.records.specs.Views.{recOf, from}
use Rattle.records.specs.declared.Open.TheVariants.{Var}
use Rattle.records.specs.declared.View.TheVariants as view
use Rattle.queries.proofs.GoodOpens.{names-held}
use Rattle.queries.specs.Marks.{Filled}
use Rattle.queries.proofs.ScanLaws.{con-opens, chain-opens}
use Rattle.queries.specs.Scans.{choose, opensIn}
use Rattle.queries.specs.declared.Kind.TheVariants.{Both}
use Rattle.replace.proofs.Kept.{cons-weaker, binds-weaker}
use Rattle.replace.proofs.Written.{written-cons, binds-held}
use Rattle.solve_round.specs.States.{StateHeld}
use Rattle.solve_round.specs.declared.Place.{Place}
use Rattle.types.proofs.Puts.{binds-words as bound-words}
use Rattle.types.specs.Sets.{IsCons, Cons, con-some, one-set}
use Rattle.types.proofs.OnSets.{HoldsCons}
use Rattle.types.proofs.Written.{writes}
use Rattle.types.specs.Runs.{HoldsEach}
use Rattle.solve_finish.specs.declared.Finish.TheVariants.{Solved as Bound, Unsolved}
use Rattle.solve_finish.specs.Told.{others, boundRec, bounds, Copied, Accepted, Finished}
use Rattle.solve_finish.proofs.Others.{others-few}

-- ══ Bounds written one after another ══

bound-rec : (x : ℕ) → recOf (view.Bound (Var x)) 1 ≡ boundRec x
unfolding writeBound
bound-rec x = refl

-- what is left to write falls by one
pub bound-step : (names d d' : List ℕ) (k out i : ℕ) {R : List ℕ} → i < k → k ≤ length names
    → d' ≡ sets d ((out + i) * 4) (words (recOf (view.Bound (Var (get_or names i 0))) 1 ∷ []))
    → sets d ((out + i) * 4) (words (map boundRec (slice i k names))) ≡ R → sets d' ((out + (i + 1)) * 4) (words (map boundRec (slice (i + 1) k names))) ≡ R
bound-step names d d' k out i {R} lt le e h =
    let r : Rec = boundRec (get_or names i 0) in
    let rest : List Rec = map boundRec (slice (i + 1) k names) in
    let z : (out + (i + 1)) * 4 ≡ (out + i) * 4 + length (words (r ∷ [])) = omega (arith, words-length (r ∷ [])) in
    let c : slice i k names ≡ get_or names i 0 ∷ slice (i + 1) k names = rw (add-one i) (slice-cons i k names 0 lt le) in
    let b : d' ≡ sets d ((out + i) * 4) (words (r ∷ [])) = e ∙ ap (λ (q : Rec). sets d ((out + i) * 4) (words (q ∷ []))) (bound-rec (get_or names i 0)) in
    rw (z, b) (sym (sets-append (words (r ∷ [])) (words rest) d ((out + i) * 4)))
    ∙ ap (sets d ((out + i) * 4)) (sym (words_append (r ∷ []) rest) ∙ sym (ap (λ (l : List ℕ). words (map boundRec l)) c))
    ∙ h

pub bound-none : (names d : List ℕ) (k out i : ℕ) → i ≡ k → d ≡ sets d ((out + i) * 4) (words (map boundRec (slice i k names)))
unfolding words
bound-none names d k out i e = sym (ap (λ (l : List ℕ). sets d ((out + i) * 4) (words (map boundRec l)))
    (ap (λ (j : ℕ). slice j k names) e ∙ slice_empty k names))

-- written, they are held
bounds-held : (s : List ℕ) (ns : List ℕ) (at : ℕ) (more : List Rec) → from s at ≡ map boundRec ns ++ more → HoldsBounds s (map (λ n. var n) ns) at
unfolding HoldsBounds writeBound
bounds-held s [] at more e = tt
bounds-held s (n ∷ ns) at more e =
    let (x, y, z) = shown s at 1 (view.Bound (Var n)) (boundRec n) (map boundRec ns ++ more) e refl tt in
    ((x, y), bounds-held s ns (at + 1) more (sym z))

-- ══ The names of bounds ══

-- each constraint is a bound, so its names are its bound's
names-bounds : (cs : List (Con ℕ)) → others cs ≡ [] → namesIn (collect opensCon cs) ≡ collect (λ c. to_list (boundOf c)) cs
unfolding keep boundOf namesIn collect opensCon opens
names-bounds [] e = refl
names-bounds (isDim (opened (var x)) ∷ cs) e = ap (x ∷◌) (names-bounds cs e)
names-bounds (isDim (opened (quant i)) ∷ cs) e = absurd (cons≢nil e)
names-bounds (isDim (opened (par x)) ∷ cs) e = ap (x ∷◌) (names-bounds cs e)
names-bounds (isDim (basic b) ∷ cs) e = absurd (cons≢nil e)
names-bounds (isDim (dim p) ∷ cs) e = absurd (cons≢nil e)
names-bounds (isDim (fn ps r) ∷ cs) e = absurd (cons≢nil e)
names-bounds (isDim (struct n as' fs) ∷ cs) e = absurd (cons≢nil e)
names-bounds (isDim (list t) ∷ cs) e = absurd (cons≢nil e)
names-bounds (equal l r ∷ cs) e = absurd (cons≢nil e)
names-bounds (is_scalar p ∷ cs) e = absurd (cons≢nil e)
names-bounds (hasField x l r ∷ cs) e = absurd (cons≢nil e)

-- a bound comes from a constraint of two records at least
option-few : {A : Type 0} (o : Option A) → length (to_list o) ≤ 1
option-few none = omega arith
option-few (some a) = omega arith

names-few : (cs : List (Con ℕ)) → length (collect (λ c. to_list (boundOf c)) cs) ≤ sum_of sizeCon cs
unfolding collect
names-few [] = omega arith
names-few (c ∷ cs) = omega (
  arith,
  length-append (to_list (boundOf c)) (collect (λ c. to_list (boundOf c)) cs),
  option-few (boundOf c),
  con-some c,
  names-few cs,
)

module _ (s : List ℕ) where
  -- the open names of the records are those of the constraints
  part : (c : Con ℕ) (at e : ℕ) → HoldsCon s c at × (e ≡ at + sizeCon c) → (at ≤ e) × (opensIn s at e ≡ opensCon c)
  part c at e h = let z : e - at ≡ sizeCon c = omega (arith, h.1) in (omega (arith, h.1), rw z (con-opens s c at h.0))

  chained : (cs : List (Con ℕ)) (at n : ℕ) → HoldsCons s cs at → n ≡ at + sum_of sizeCon cs → Chain (λ at c e. HoldsCon s c at × (e ≡ at + sizeCon c)) n cs at
  unfolding HoldsEach
  chained [] at n h e = sym (e ∙ add-zero at)
  chained (c ∷ cs) at n h e = (at + sizeCon c, ((h.0, refl), chained cs (at + sizeCon c) n h.1 (omega (arith, e))))

  set-opens : (cs : List (Con ℕ)) (at n : ℕ) → IsCons s at n cs → opensIn s at n ≡ collect opensCon cs
  set-opens cs at n h = (chain-opens s (λ at c e. HoldsCon s c at × (e ≡ at + sizeCon c)) opensCon (λ at c e k. part c at e k) cs at n
      (chained cs at n h.held h.ends)).1

-- ══ A state whose constraints are bounds ══

cons-good : (pool table : List ℕ) (cs : List (Con ℕ)) → all (goodCon pool table 0) cs ≡ true
    → Every (Known (numbers pool table) (holding pool table) 0) (collect opensCon cs)
unfolding all collect
cons-good pool table [] g = tt
cons-good pool table (c ∷ cs) g =
    let r = (and-eq-true_iff (goodCon pool table 0 c) (all (goodCon pool table 0) cs)).0 g in
    every_append _ (opensCon c) (collect opensCon cs) (con-known (numbers pool table) (holding pool table) 0 c r.0) (cons-good pool table cs r.1)

-- those that are no bounds are among them
others-good : (pool table : List ℕ) (cs : List (Con ℕ)) → all (goodCon pool table 0) cs ≡ true → all (goodCon pool table 0) (others cs) ≡ true
unfolding all keep
others-good pool table [] g = refl
others-good pool table (c ∷ cs) g =
    let r = (and-eq-true_iff (goodCon pool table 0 c) (all (goodCon pool table 0) cs)).0 g in
    go (is_none (boundOf c)) r.0 (others-good pool table cs r.1)
  where
    go : (b : Bool) → goodCon pool table 0 c ≡ true → all (goodCon pool table 0) (others cs) ≡ true
        → all (goodCon pool table 0) (elim b [ true ↦ c ∷ others cs | false ↦ others cs ]) ≡ true
    go true a h = (and-eq-true_iff (goodCon pool table 0 c) (all (goodCon pool table 0) (others cs))).1 (a, h)
    go false a h = h

module _ (pool table s : List ℕ) (p : Place) (st : State ℕ) (h : StateHeld pool table s p st) (room : 8192 ≤ length s) where
  abbrev b : ℕ
  b = p.start

  abbrev n : ℕ
  n = p.ends.constraints

  abbrev m : ℕ
  m = p.ends.bindings

  -- whichever constraints stand there, they are those of the state
  pub of-state : {d d' : List ℕ} {k : ℕ} {cs : List (Con ℕ)} → Copied d d' 0 k (others cs) → IsCons s b n cs → Copied d d' 0 k (others st.cons)
  of-state {d} {d'} {k} {cs} c i = subst (λ (y : Cons s b n). Copied d d' 0 k (others y.0)) (one-set s b n (cs, i) (st.cons, h.cons)) c

  -- what `list_names` asks
  pub names-known : Every (λ x. x < get_or table 0 0) (choose Both (opensIn s b n))
  names-known = rw (set-opens s st.cons b n h.cons) (names-held pool table 0 (collect opensCon st.cons) (cons-good pool table st.cons h.sound_cons.good) Both)

  pub names-are : others st.cons ≡ [] → choose Both (opensIn s b n) ≡ collect (λ c. to_list (boundOf c)) st.cons
  names-are e = ap (choose Both) (set-opens s st.cons b n h.cons) ∙ names-bounds st.cons e

  -- what `copy` asks
  pub binds-in : (n ≤ m) × (m * 4 ≤ length s)
  binds-in = (omega (arith, h.binds.ends), omega (arith, h.short, room))

  binds-words : slice (n * 4) (m * 4) s ≡ words (collect writeBinding st.binds)
  binds-words = bound-words s n m (st.binds, h.binds) (omega (arith, binds-in))

  binds-length : length (collect writeBinding st.binds) ≡ m - n
  binds-length = omega (arith, bindings-length st.binds, h.binds.ends, binds-in.0)

  pub bounds-few : length (bounds pool table st) ≤ n
  bounds-few = omega (arith, sort-few (numbers pool table) (collect (λ c. to_list (boundOf c)) st.cons), names-few st.cons, h.cons.ends)

  -- the names that were listed, in a buffer of 256
  module _ (e : others st.cons ≡ []) (l l' : List ℕ) (k : ℕ) (f : Filled (sort (numbers pool table) (choose Both (opensIn s b n))) k l l') where
    listed : Filled (bounds pool table st) k l l'
    listed = subst (λ (xs : List ℕ). Filled (sort (numbers pool table) xs) k l l') (names-are e) f

    pub listed-few : length l' ≡ 256 → (k ≤ length l') × (k ≤ n)
    unfolding over
    listed-few q = (
      omega (
        arith,
        listed.many,
        ap length listed.buffer
            ∙ length-append (bounds pool table st) (drop (length (bounds pool table st)) l),
      ),
      omega (arith, listed.many, bounds-few),
    )

    listed-front : take k l' ≡ bounds pool table st
    unfolding over
    listed-front = ap (take k) listed.buffer ∙ take_at (bounds pool table st) (drop (length (bounds pool table st)) l) k (sym listed.many)

    -- bindings, and then bounds
    pub accepted-as : (d d₁ d₂ : List ℕ) → 8192 ≤ length d → d₁ ≡ sets d 0 (slice (n * 4) (m * 4) s)
        → d₂ ≡ sets d₁ ((m - n) * 4) (words (map boundRec (take k l'))) → Accepted pool table st d d₂ (m - n) k
    unfolding over
    accepted-as d d₁ d₂ room p q =
        let A = collect writeBinding st.binds in
        let B = map boundRec (bounds pool table st) in
        let z : (0 + length A) * 4 ≡ (m - n) * 4 = omega (arith, binds-length) in
        let w : d₂ ≡ sets d 0 (words (A ++ B)) = writes d d₁ d₂ A B 0 (p ∙ ap (sets d 0) binds-words)
        (rw z (q ∙ ap (λ (l : List ℕ). sets d₁ ((m - n) * 4) (words (map boundRec l))) listed-front)) in
        let a = binds-in in
        let i = length-map (bounds pool table st) boundRec in
        let l = length-append A B in
        let long : length (words (A ++ B)) ≤ 8192 = omega (arith, words-length (A ++ B), l, i, binds-length, bounds-few, h.short, a.0) in
        let there : from d₂ 0 ≡ (A ++ B) ++ from d (0 + length (A ++ B)) = ap (λ (v : List ℕ). from v 0) w
        ∙ stored d (A ++ B) 0 (omega (arith, l, i, binds-length, bounds-few, h.short, a.0, room)) in
        let (u, v) = parted d₂ A B (from d (0 + length (A ++ B))) 0 (m - n) binds-length there in
        let v' : from d₂ (m - n) ≡ B ++ from d (0 + length (A ++ B)) = rw (zero-add (m - n)) at v in
        record {
          rows = record {
            binds = record {
              held = binds-held pool table d₂ st.binds 0 _ (binds-weaker pool table st.binds h.sound_binds.good) u;
              ends = omega (arith, h.binds.ends, a.0);
            };
            bounds = record { held = bounds-held d₂ (bounds pool table st) (m - n) _ v'; ends = omega (arith, listed.many) };
          };
          many = listed.many;
          buffer = w ∙ sets-eq (words (A ++ B)) d 0 (omega arith) ∙ ap (λ (j : ℕ). words (A ++ B) ++ drop j d) (zero-add (length (words (A ++ B))));
        }

-- ══ The answer ══

module _ (pool table : List ℕ) (st : State ℕ) (d d' : List ℕ) (left : ℕ) (c : Copied d d' 0 left (others st.cons)) where
  -- they are held where they were written
  left-held : sum_of sizeCon st.cons ≤ 2048 → 8192 ≤ length d → all (goodCon pool table 0) st.cons ≡ true → IsCons d' 0 left (others st.cons)
  left-held few room good =
      let n : 0 + sum_of sizeCon (others st.cons) ≡ left = omega (arith, c.many) in
      rw n at (written-cons pool table d d' 0 (others st.cons) c.buffer (omega (arith, others-few st.cons, few, room))
      (cons-weaker pool table (others st.cons) (others-good pool table st.cons good)))

  -- some remain
  pub finished-remaining : 0 < left → sum_of sizeCon st.cons ≤ 2048 → 8192 ≤ length d → all (goodCon pool table 0) st.cons ≡ true
      → Finished pool table st d d' (Unsolved left)
  unfolding finish finished solvedOf solvedWords resultAfter over
  finished-remaining lt few room good = go (others st.cons) refl c (others-few st.cons) (left-held few room good)
    where
      go : (cs : List (Con ℕ)) → others st.cons ≡ cs → Copied d d' 0 left cs → sum_of sizeCon cs ≤ sum_of sizeCon st.cons → IsCons d' 0 left cs
          → Finished pool table st d d' (Unsolved left)
      go [] e k f g = absurd (omega (arith, k.many))
      go (x ∷ cs) e k f g =
          let n = words-length (collect writeCon (x ∷ cs)) in
          let i = set-length (x ∷ cs) in
          record {
            answer = λ j. rw e (let z : left ≡ sum_of sizeCon (x ∷ cs) = omega (arith, k.many) in ap (λ (i : ℕ). unsolved i j) z);
            rows = λ j. rw e (refl, g);
            buffer = λ j. rw e (k.buffer ∙ sets-eq (words (collect writeCon (x ∷ cs))) d 0 (omega arith)
                ∙ ap (λ (i : ℕ). words (collect writeCon (x ∷ cs)) ++ drop i d) (zero-add (length (words (collect writeCon (x ∷ cs))))));
          }

-- none remains, and nothing was copied
pub none-remains : (d d' : List ℕ) (left : ℕ) (cs : List (Con ℕ)) → Copied d d' 0 left cs → left ≤ 0 → (cs ≡ []) × (d' ≡ d)
unfolding collect words
none-remains d d' left [] k le = (refl, k.buffer)
none-remains d d' left (x ∷ cs) k le = absurd (omega (arith, k.many, con-some x))

pub finished-accepted : (pool table s : List ℕ) (p : Place) (st : State ℕ) (d d₁ d' : List ℕ) (r : ℕ) → StateHeld pool table s p st
    → others st.cons ≡ [] → d₁ ≡ d → Accepted pool table st d₁ d' (p.ends.bindings - p.ends.constraints) r
    → Finished pool table st d d' (Bound (p.ends.bindings - p.ends.constraints) r)
unfolding finish finished solvedOf solvedWords resultAfter
finished-accepted pool table s p st d d₁ d' r h e i a =
    let q : p.ends.bindings - p.ends.constraints ≡ sum_of sizeBinding st.binds = omega (arith, h.binds.ends) in
    record {
      answer = λ j. rw e (rw (q, a.many));
      rows = λ j. rw e (refl, a.rows);
      buffer = λ j. rw (e, ← i) a.buffer;
    }
