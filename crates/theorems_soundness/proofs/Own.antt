-- What solving wrote can be judged where it stands: entries that point at the bound types in the result buffer, and the bounds behind them.
use Rattle.std.proofs.Math.Path.{◌≡◌, refl, ap, sym, subst}
use Rattle.std.proofs.Common.{◌∙◌, add-one, take_at, drop-drop}
use Rattle.std.specs.Prelude.{Bool, false, eqb, take}
use Rattle.std.proofs.Math.Bool.{true}
use Rattle.std.proofs.Math.Option.{Option, none, some}
use mathlib.Core.List.{List, [], ◌∷◌, ◌++◌, map, append_assoc, Memᴰ}
use Prim.Native.Nat.{ℕ, zero, suc, ◌+◌, ◌*◌, ◌<◌, ◌≤◌}
use native.Mathlib.Omega.{arith}
use borrow.Author.Tests.{eqb-true, ne_eqb, le-leb, leb-true}
use Rattle.std.proofs.Math.Dec.{leb}
use Rattle.std.proofs.Math.ListN.{length, drop}
use Rattle.std.proofs.lemmas.List.{length-map}
use Rattle.std.proofs.Math.Seq.{drop_at}
use Rattle.rules.specs.Base.{Got, got, refused, ◌>>◌, bounded, any, all, each, collect, to_list, sum_of, max_of}
use Rattle.rules.specs.Exponents.{frac}
use Rattle.rules.specs.Trees.{
  var,
  quant,
  par,
  free,
  base,
  ◌↑◌,
  Product,
  Names,
  Ty,
  opened,
  basic,
  boolean,
  string,
  datetime,
  dim,
  fn,
  struct,
  list,
  Tys,
  nil,
  cons,
  Fields,
  noFields,
  field,
  Con,
  equal,
  isDim,
  is_scalar,
  hasField,
  Binding,
  ◌≔◌,
}
use Rattle.rules.specs.Trees.{size, sizeTys, sizeFields, sizeCon, sizeBinding, depth, depthBinding, count, countFields}
use Rattle.rules.specs.Contents.{sort}
use Rattle.rules.specs.Names.{Table, table_of, numbersOf, is_held}
use Rattle.rules.specs.Replacing.{replaceCon, replaceBinding, bindings}
use Rattle.rules.specs.Rounds.{Step, bind, split, done, stuck, State, sizeState, depthState, limited, firstStep, perform, performed, round}
use Rattle.rules.specs.Solving.{Answer, accepted, boundOf, finished, finish, after, run, enough, solve}
use Rattle.rules.specs.Writing.{Rec, rec, head, kindIn, words, word_of, writeFactor, writeProduct, writeTy, writeTys, writeFields, writeBinding, writeBound}
use Rattle.rules.specs.Reading.{readBound, read_all}
use Rattle.rules.specs.WellFormed.{rising, goodOpen, goodTy, goodBinding}
use Rattle.rules.specs.Calls.{
  lentWork,
  shortLists,
  shortNumbers,
  listGiven,
  boundsGiven,
  numbersGiven,
  over,
  Entry,
  differ,
  type_at,
  bindingOf,
  entriesGiven,
  risingBounds,
  solveCall,
}
use Rattle.laws.proofs.Checks.{need-passed}
use Rattle.laws.proofs.Given.{set-read}
use Rattle.laws.specs.Heads.{kind-head}
use Rattle.laws.specs.Lists.{and_left, and_right, Every, All, all-every}
use Rattle.laws.proofs.Lists.{some≢none, one-step, bound-step, is_all, map-from, any-is}
use Rattle.laws.proofs.Reading.{read-ty, good-fits}
use Rattle.laws.specs.ReadLists.{IsBound}
use Rattle.laws.proofs.ReadLists.{read-bound, read-all, words_back}
use Rattle.laws.proofs.Size.{size-ty, words-length, bindings-length, words_append}
use Rattle.laws.proofs.Sized.{sized_same, sized-small, sized-flat}
use Rattle.laws.proofs.SortedNames.{sort-few}
use Rattle.laws.proofs.Turns.{found}
use Rattle.theorems_soundness.specs.Claims.{Once, keys, Proposes, pointed, bindingsIn, boundsIn, SoundAnswer}

-- ══ An accepted answer keeps the limits ══

module _ {N : Type 0} (ν : Names N) where
  record Flat (s : State N) : Type 0 where
    small : sizeState s ≤ 2048
    flat : depthState s ≤ 64

  limited-flat : (s s' : State N) → limited bounded s ≡ got s' → Flat s'
  unfolding limited
  limited-flat s s' e = subst Flat (sized_same (sizeState s) (depthState s) s bounded s' e)
      (record { small = sized-small (sizeState s) (depthState s) s s' e; flat = sized-flat (sizeState s) (depthState s) s s' e })

  performed-flat : (bs : List (Binding N)) (step : Step N) (rest : List (Con N)) (s' : State N) → (step ≡ stuck → ⊥)
      → perform ν bounded bs step rest ≡ got s' → Flat s'
  unfolding perform
  performed-flat bs (bind x t) rest s' m e =
      let a = bound-step (each (replaceCon ν bounded (bindings ν (x ≔ t ∷ []))) rest) _ s' e in
      let b = bound-step (each (replaceBinding ν bounded (bindings ν (x ≔ t ∷ []))) bs) _ s' a.2 in
      limited-flat _ s' b.2
  performed-flat bs (split new) rest s' m e = limited-flat _ s' e
  performed-flat bs done rest s' m e = limited-flat _ s' e
  performed-flat bs stuck rest s' m e = absurd (m refl)

  step-flat : (s s' : State N) (r : Option (Step N × List (Con N))) → firstStep ν bounded s.cons ≡ got r
      → performed ν bounded s.binds r ≡ got (some s') → Flat s'
  unfolding performed
  step-flat s s' none i e = let y : none ≡ some s' = cc in absurd (some≢none (sym y))
  step-flat s s' (some v) i e =
      let p = one-step (perform ν bounded s.binds v.0 v.1) (λ (u : State N). some u) (some s') e in
      let q : p.value ≡ s' = cc p.is in
      performed-flat s.binds v.0 v.1 s' (found ν bounded s.cons v i).moves (p.gave ∙ ap got q)

  round-flat : (s s' : State N) → round ν bounded s ≡ got (some s') → Flat s'
  unfolding round
  round-flat s s' e = let a = bound-step (firstStep ν bounded s.cons) _ (some s') e in step-flat s s' a.0 a.1 a.2

  -- what holds from the start of a run to its end
  record Fine (s : State N) : Type 0 where
    few : length s.cons ≤ 2048
    small : sum_of sizeBinding s.binds ≤ 2048
    flat : max_of depthBinding s.binds ≤ 64

  con-some : (c : Con N) → 1 ≤ sizeCon c
  unfolding sizeCon
  con-some (equal s t) = omega arith
  con-some (isDim t) = omega arith
  con-some (is_scalar p) = omega arith
  con-some (hasField n s t) = omega arith

  cons-some : (cs : List (Con N)) → length cs ≤ sum_of sizeCon cs
  cons-some [] = omega arith
  cons-some (c ∷ cs) = omega (arith, con-some c, cons-some cs)

  flat-fine : (s : State N) → Flat s → Fine s
  unfolding sizeState depthState
  flat-fine s f = record { few = omega (arith, cons-some s.cons, f.small); small = omega (arith, f.small); flat = omega (arith, f.flat) }

  -- ══ The answer ══

  -- the bindings and bounds of an answer, within the limits
  pub record Within (bs : List (Binding N)) (ns : List N) : Type 0 where
    pub few : length ns ≤ 2048
    pub small : sum_of sizeBinding bs ≤ 2048
    pub flat : max_of depthBinding bs ≤ 64

  bounds-few : (cs : List (Con N)) → length (collect (λ c. to_list (boundOf c)) cs) ≤ length cs
  unfolding collect
  bounds-few [] = omega arith
  bounds-few (c ∷ cs) = go (boundOf c) (bounds-few cs)
    where
      go : (o : Option N) → length (collect (λ c. to_list (boundOf c)) cs) ≤ length cs
          → length (to_list o ++ collect (λ c. to_list (boundOf c)) cs) ≤ suc (length cs)
      go none h = omega arith
      go (some n) h = omega arith

  module _ (bs : List (Binding N)) (ns : List N) (j : ℕ) where
    finished-within : (cs : List (Con N)) (k : ℕ) (s : State N) → Fine s → finished ν cs k s ≡ accepted bs ns j → Within bs ns
    unfolding finished
    finished-within [] k s h e =
        let b : s.binds ≡ bs = cc in
        let n : sort ν (collect (λ c. to_list (boundOf c)) s.cons) ≡ ns = cc in
        record {
          few = rw (sym n) (omega (arith, sort-few ν (collect (λ c. to_list (boundOf c)) s.cons), bounds-few s.cons, h.few));
          small = rw b at h.small;
          flat = rw b at h.flat;
        }
    finished-within (c ∷ cs) k s h e = absurd (cc)

    after-within : (k : ℕ) (s : State N) → Fine s → (more : State N → Answer N)
        → ((s' : State N) → Fine s' → more s' ≡ accepted bs ns j → Within bs ns) → (r : Got (Option (State N))) → round ν bounded s ≡ r
        → after ν r k s more ≡ accepted bs ns j → Within bs ns
    unfolding after finish
    after-within k s h more again (refused n) i e = absurd (cc)
    after-within k s h more again (got none) i e = finished-within _ k s h e
    after-within k s h more again (got (some s')) i e = again s' (flat-fine s' (round-flat s s' i)) e

    run-within : (f k : ℕ) (s : State N) → Fine s → run ν bounded f k s ≡ accepted bs ns j → Within bs ns
    unfolding run
    run-within zero k s h e = absurd (cc)
    run-within (suc f) k s h e = after-within k s h (λ s'. run ν bounded f (suc k) s') (λ s' g i. run-within f (suc k) s' g i) (round ν bounded s) refl e

    pub answer-within : (cs : List (Con N)) → length cs ≤ 2048 → solve ν bounded cs ≡ accepted bs ns j → Within bs ns
    unfolding solve
    answer-within cs h e = run-within enough 0 (record { cons = cs; binds = [] }) (record { few = h; small = omega arith; flat = omega arith }) e

-- ══ Entries from the words ══

module _ (rest : List Rec) where
  from : (m n : ℕ) → m ≡ n → pointed m (words rest) ≡ pointed n (words rest)
  from m n e = ap (λ (k : ℕ). pointed k (words rest)) e

-- a record of another kind is passed over, and one that begins a binding is taken, whatever its length
pass-over : (k n a b c at : ℕ) (rs : List Rec) → k < 24 → pointed at (words (rec (head k n) a b c ∷ rs)) ≡ pointed (suc at) (words rs)
unfolding pointed words
pass-over k n a b c at rs h = rw (kind-head k n (omega arith), ne_eqb k 24 (λ e. omega arith))

taken : (n a at : ℕ) (rs : List Rec) → pointed at (words (rec (head 24 n) a 0 0 ∷ rs)) ≡ record { variable = a; place = suc at } ∷ pointed (suc at) (words rs)
unfolding pointed words
taken n a at rs = rw (kind-head 24 n (omega arith))

pass-factors : (p : Product ℕ) (at : ℕ) (rest : List Rec) → pointed at (words (map writeFactor p ++ rest)) ≡ pointed (at + length p) (words rest)
unfolding pointed words writeFactor head kindIn
pass-factors [] at rest = from rest at (at + 0) (omega arith)
pass-factors (free (var x) ↑ frac n d ∷ p) at rest = pass-factors p (suc at) rest ∙ from rest (suc at + length p) (at + suc (length p)) (omega arith)
pass-factors (free (quant x) ↑ frac n d ∷ p) at rest = pass-factors p (suc at) rest ∙ from rest (suc at + length p) (at + suc (length p)) (omega arith)
pass-factors (free (par x) ↑ frac n d ∷ p) at rest = pass-factors p (suc at) rest ∙ from rest (suc at + length p) (at + suc (length p)) (omega arith)
pass-factors (base x ↑ frac n d ∷ p) at rest = pass-factors p (suc at) rest ∙ from rest (suc at + length p) (at + suc (length p)) (omega arith)

-- no record of a type begins a binding
mutual
  unfolding pointed words writeTy writeProduct size head kindIn

  pass-ty : (t : Ty ℕ) (at : ℕ) (rest : List Rec) → pointed at (words (writeTy t ++ rest)) ≡ pointed (at + size t) (words rest)
  pass-ty (opened (var x)) at rest = from rest (suc at) (at + 1) (omega arith)
  pass-ty (opened (quant x)) at rest = from rest (suc at) (at + 1) (omega arith)
  pass-ty (opened (par x)) at rest = from rest (suc at) (at + 1) (omega arith)
  pass-ty (basic boolean) at rest = from rest (suc at) (at + 1) (omega arith)
  pass-ty (basic string) at rest = from rest (suc at) (at + 1) (omega arith)
  pass-ty (basic datetime) at rest = from rest (suc at) (at + 1) (omega arith)
  pass-ty (dim p) at rest =
      pass-over 3 (suc (length p)) (length p) 0 0 at (map writeFactor p ++ rest) (omega arith)
      ∙ pass-factors p (suc at) rest
      ∙ from rest (suc at + length p) (at + suc (length p)) (omega arith)
  pass-ty (fn ps r) at rest =
      rw (append_assoc (writeTys ps) (writeTy r) rest)
      (pass-over 7 (size (fn ps r)) (count ps) 0 0 at (writeTys ps ++ (writeTy r ++ rest)) (omega arith)
      ∙ pass-tys ps (suc at) (writeTy r ++ rest) ∙ pass-ty r (suc at + sizeTys ps) rest
      ∙ from rest (suc at + sizeTys ps + size r) (at + size (fn ps r)) (omega arith))
  pass-ty (struct n as' fs) at rest =
      rw (append_assoc (writeTys as') (writeFields fs) rest)
      (pass-over 8 (size (struct n as' fs)) n (count as') (countFields fs) at (writeTys as' ++ (writeFields fs ++ rest)) (omega arith)
      ∙ pass-tys as' (suc at) (writeFields fs ++ rest) ∙ pass-fields fs (suc at + sizeTys as') rest
      ∙ from rest (suc at + sizeTys as' + sizeFields fs) (at + size (struct n as' fs)) (omega arith))
  pass-ty (list t) at rest =
      pass-over 10 (size (list t)) 0 0 0 at (writeTy t ++ rest) (omega arith)
      ∙ pass-ty t (suc at) rest
      ∙ from rest (suc at + size t) (at + suc (size t)) (omega arith)

  pass-tys : (ts : Tys ℕ) (at : ℕ) (rest : List Rec) → pointed at (words (writeTys ts ++ rest)) ≡ pointed (at + sizeTys ts) (words rest)
  pass-tys nil at rest = from rest at (at + 0) (omega arith)
  pass-tys (cons t ts) at rest =
      rw (append_assoc (writeTy t) (writeTys ts) rest)
      (pass-ty t at (writeTys ts ++ rest) ∙ pass-tys ts (at + size t) rest ∙ from rest (at + size t + sizeTys ts) (at + sizeTys (cons t ts)) (omega arith))

  pass-fields : (fs : Fields ℕ) (at : ℕ) (rest : List Rec) → pointed at (words (writeFields fs ++ rest)) ≡ pointed (at + sizeFields fs) (words rest)
  pass-fields noFields at rest = from rest at (at + 0) (omega arith)
  pass-fields (field n t fs) at rest =
      rw (append_assoc (writeTy t) (writeFields fs) rest)
      (pass-over 9 (suc (size t)) n 0 0 at (writeTy t ++ (writeFields fs ++ rest)) (omega arith)
      ∙ pass-ty t (suc at) (writeFields fs ++ rest) ∙ pass-fields fs (suc at + size t) rest
      ∙ from rest (suc at + size t + sizeFields fs) (at + sizeFields (field n t fs)) (omega arith))

-- the entries of bindings that are written from a place on
entriesFrom : ℕ → List (Binding ℕ) → List Entry
entriesFrom at [] = []
entriesFrom at (x ≔ t ∷ bs) = record { variable = x; place = suc at } ∷ entriesFrom (suc at + size t) bs

pointed-is : (bs : List (Binding ℕ)) (at : ℕ) → pointed at (words (collect writeBinding bs)) ≡ entriesFrom at bs
unfolding pointed words collect writeBinding entriesFrom
pointed-is [] at = refl
pointed-is (x ≔ t ∷ bs) at =
    taken (sizeBinding (x ≔ t)) x at (writeTy t ++ collect writeBinding bs)
    ∙ ap (λ (es : List Entry). record { variable = x; place = suc at } ∷ es) (pass-ty t (suc at) (collect writeBinding bs) ∙ pointed-is bs (suc at + size t))

entries-few : (bs : List (Binding ℕ)) (at : ℕ) → length (entriesFrom at bs) ≤ sum_of sizeBinding bs
unfolding entriesFrom sizeBinding
entries-few [] at = omega arith
entries-few (x ≔ t ∷ bs) at = omega (arith, entries-few bs (suc at + size t))

entries-keys : (bs : List (Binding ℕ)) (at : ℕ) → map (λ (e : Entry). e.variable) (entriesFrom at bs) ≡ keys bs
unfolding entriesFrom
entries-keys [] at = refl
entries-keys (x ≔ t ∷ bs) at = ap (x ∷◌) (entries-keys bs (suc at + size t))

-- ══ The judge reads them back ══

not-any : (x : ℕ) (xs : List ℕ) → ¬ (Memᴰ x xs) → any (eqb x) xs ≡ false
not-any x xs h = go (any (eqb x) xs) refl
  where
    go : (b : Bool) → any (eqb x) xs ≡ b → any (eqb x) xs ≡ false
    go false e = e
    go true e = let s = any-is (eqb x) xs e in absurd (h (rw (eqb-true x s.one s.fits) s.within))

once-differ : (xs : List ℕ) → Once xs → differ xs ≡ true
unfolding differ
once-differ [] h = refl
once-differ (x ∷ xs) h = rw (not-any x xs h.0, once-differ xs h.1)

abbrev boundRecs : List ℕ → List Rec
boundRecs ns = map (λ n. writeBound (var n)) ns

module _ (t : Table) where
  type-back : (rs : List Rec) (ty : Ty ℕ) (i : ℕ) (rest : List Rec) → drop i rs ≡ writeTy ty ++ rest → goodTy (numbersOf t) (is_held t) 0 ty ≡ true
      → depth ty ≤ 64 → type_at t rs i ≡ got ty
  unfolding type_at
  type-back rs ty i rest e g d = rw (e, read-ty ty 63 rest (good-fits (numbersOf t) (is_held t) 0 ty g) d, g)

  bindings-back : (rs : List Rec) (bs : List (Binding ℕ)) (at : ℕ) → drop at rs ≡ collect writeBinding bs
      → Every (λ b. goodBinding (numbersOf t) (is_held t) 0 b ≡ true) bs → max_of depthBinding bs ≤ 64
      → each (bindingOf t rs) (entriesFrom at bs) ≡ got bs
  unfolding each collect bindingOf numbersGiven goodBinding writeBinding all depthBinding entriesFrom
  bindings-back rs [] at e g d = refl
  bindings-back rs (x ≔ ty ∷ bs) at e g d =
      let one : drop (suc at) rs ≡ writeTy ty ++ collect writeBinding bs = ap (λ (n : ℕ). drop n rs) (sym (add-one at)) ∙ sym (drop-drop 1 at rs)
      ∙ ap (drop 1) e in
      let two : drop (suc at + size ty) rs ≡ collect writeBinding bs = sym (drop-drop (size ty) (suc at) rs) ∙ ap (drop (size ty)) one
      ∙ drop_at (writeTy ty) (collect writeBinding bs) (size ty) (size-ty ty) in
      let h : is_held t x ≡ true = and_left (is_held t x) _ g.0 in
      let b : type_at t rs (suc at) ≡ got ty = type-back rs ty (suc at) (collect writeBinding bs) one (and_right (is_held t x) _ g.0) (omega arith) in
      rw (h, b, bindings-back rs bs (suc at + size ty) two g.1 (omega arith))

  entries-back : (bs : List (Binding ℕ)) → Once (keys bs) → Every (λ b. goodBinding (numbersOf t) (is_held t) 0 b ≡ true) bs
      → max_of depthBinding bs ≤ 64 → entriesGiven t (entriesFrom 0 bs) (words (collect writeBinding bs)) ≡ got bs
  unfolding entriesGiven
  entries-back bs o g d = rw (words_back (collect writeBinding bs), entries-keys bs 0, once-differ (keys bs) o)
      (bindings-back (collect writeBinding bs) bs 0 refl g d)

  one_each : (ns : List ℕ) → collect (λ o. writeBound o ∷ []) (map (λ n. var n) ns) ≡ boundRecs ns
  unfolding collect
  one_each [] = refl
  one_each (n ∷ ns) = ap (writeBound (var n) ∷◌) (one_each ns)

  all-names : (ns : List ℕ) → Every IsBound (map (λ n. var n) ns)
  all-names [] = tt
  all-names (n ∷ ns) = (tt, all-names ns)

  bounds-there : (ns : List ℕ) → read_all readBound (length (boundRecs ns)) (boundRecs ns) ≡ some (map (λ n. var n) ns)
  bounds-there ns =
      rw (one_each ns) at
      (read-all readBound (λ o. writeBound o ∷ []) IsBound (λ o. omega arith) (λ o rest h. read-bound o rest h) (map (λ n. var n) ns)
      (length (boundRecs ns)) (omega (arith, ap length (one_each ns))) (all-names ns))

  all_held : (ns : List ℕ) → All (λ n. is_held t n ≡ true) ns → all (goodOpen (numbersOf t) (is_held t) 0) (map (λ n. var n) ns) ≡ true
  unfolding goodOpen
  all_held ns h = is_all (goodOpen (numbersOf t) (is_held t) 0) (map (λ n. var n) ns)
      (λ o m. let i = map-from (λ n. var n) ns o m in rw i.is (h i.one i.within))

  same_names : (ns : List ℕ) → map word_of (map (λ n. var n) ns) ≡ ns
  same_names [] = refl
  same_names (n ∷ ns) = ap (n ∷◌) (same_names ns)

  bounds-back : (ns : List ℕ) → All (λ n. is_held t n ≡ true) ns → rising (numbersOf t).order ns ≡ true → risingBounds t (words (boundRecs ns)) ≡ got ns
  unfolding risingBounds boundsGiven listGiven
  bounds-back ns h r = rw (words_back (boundRecs ns), bounds-there ns, all_held ns h, same_names ns, r)

-- ══ What solving wrote ══

module _ (pool table set result work : List ℕ) (records bounds rounds : ℕ) (s : SoundAnswer pool table set result work records bounds rounds) where
  within : Within (numbersOf (table_of pool table)) s.bs s.ns
  unfolding shortLists all
  within =
      let h = leb-true (length set) 8192 (and_left (leb (length set) 8192) _ (need-passed _ 8 s.short)) in
      answer-within (numbersOf (table_of pool table)) s.bs s.ns rounds s.cs (omega (arith, h, (set-read (table_of pool table) set s.cs s.read).1)) s.accepts

  abbrev left : List ℕ
  left = (solveCall pool table set result work).result

  abbrev bindingRecs : List Rec
  bindingRecs = collect writeBinding s.bs

  -- what the result buffer held behind bindings and bounds
  abbrev rest : List ℕ
  rest = drop (length (words (bindingRecs ++ boundRecs s.ns))) result

  left_is : left ≡ words bindingRecs ++ (words (boundRecs s.ns) ++ rest)
  unfolding over
  left_is = s.written ∙ ap (λ (l : List ℕ). l ++ rest) (words_append bindingRecs (boundRecs s.ns))
      ∙ append_assoc (words bindingRecs) (words (boundRecs s.ns)) rest

  bindings-long : length (words bindingRecs) ≡ records * 4
  bindings-long = words-length bindingRecs ∙ ap (λ (n : ℕ). n * 4) (bindings-length s.bs ∙ s.binding-records)

  bounds-long : length (words (boundRecs s.ns)) ≡ bounds * 4
  bounds-long = words-length (boundRecs s.ns) ∙ ap (λ (n : ℕ). n * 4) (simp length-map s.bound-records)

  bindings-part : bindingsIn left records ≡ words bindingRecs
  bindings-part = ap (take (records * 4)) (left_is) ∙ take_at (words bindingRecs) _ (records * 4) bindings-long

  bounds-part : boundsIn left records bounds ≡ words (boundRecs s.ns)
  bounds-part =
      ap (λ (l : List ℕ). take (bounds * 4) (drop (records * 4) l)) (left_is)
      ∙ ap (take (bounds * 4)) (drop_at (words bindingRecs) _ (records * 4) bindings-long)
      ∙ take_at (words (boundRecs s.ns)) _ (bounds * 4) bounds-long

  -- the lists that are lent to the judge are short enough
  all_short : (shortLists (set ∷ words bindingRecs ∷ words (boundRecs s.ns) ∷ []) >> shortNumbers (entriesFrom 0 s.bs)) ≡ got tt
  unfolding shortLists shortNumbers all
  all_short =
      let h : leb (length set) 8192 ≡ true = and_left (leb (length set) 8192) _ (need-passed _ 8 s.short) in
      let a : leb (length (words bindingRecs)) 8192 ≡ true = le-leb (length (words bindingRecs)) 8192
      (omega (arith, bindings-long, s.binding-records, within.small)) in
      let b : leb (length (words (boundRecs s.ns))) 8192 ≡ true =
      le-leb (length (words (boundRecs s.ns))) 8192 (omega (arith, bounds-long, s.bound-records, within.few)) in
      let c : leb (length (entriesFrom 0 s.bs)) 2048 ≡ true = le-leb (length (entriesFrom 0 s.bs)) 2048 (omega (arith, entries-few s.bs 0, within.small)) in
      rw (h, a, b, c)

  -- the written answer can be proposed to the judge
  pub own-proposed : (buffer : List ℕ) → lentWork buffer ≡ got tt
      → Proposes pool table set s.bs s.ns (pointed 0 (bindingsIn left records)) (bindingsIn left records) (boundsIn left records bounds) buffer
  own-proposed buffer lent = rw (bindings-part, bounds-part, pointed-is s.bs 0) (record {
    entries-read = entries-back (table_of pool table) s.bs s.form.once
        (all-every (λ b. goodBinding (numbersOf (table_of pool table)) (is_held (table_of pool table)) 0 b ≡ true) s.bs s.form.bindings-good)
        within.flat;
    bounds-read = bounds-back (table_of pool table) s.ns s.form.bounds-held s.form.bounds-rise;
    short = all_short;
    lent = lent;
  })
