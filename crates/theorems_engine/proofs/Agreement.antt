-- The second engine's answer is the solver's without the rounds, on every set that fits the engine, whatever the
-- counts. The proofs for trees stand in the other files.
use Rattle.std.proofs.Math.Path.{◌≡◌, refl, ap, sym, subst}
use Rattle.std.proofs.Common.{ap₂, ◌∙◌}
use Rattle.std.specs.Prelude.{Bool, false, ◌&&◌, ◌⊎◌, ℕ, length}
use Rattle.std.proofs.Math.Bool.{true}
use Rattle.std.proofs.Math.Logic.{inl, inr}
use Rattle.std.proofs.Math.Option.{Option, none, some}
use mathlib.Core.List.{List, [], ◌∷◌, map, append-nil}
use Rattle.std.proofs.Math.Dec.{leb}
use Rattle.rules.specs.Base.{Got, got, refused, ◌>>=◌, ◌>>◌, need, orRefuse, bounded, all, each, collect, sum_of}
use Rattle.rules.specs.Trees.{Product, Names, Con, equal, isDim, is_scalar, hasField, opensCon, sizeCon, sizeBinding}
use Rattle.rules.specs.Names.{Table, table_of, tableGood, numbersOf, is_held, lentTable}
use Rattle.rules.specs.Contents.{unmixed}
use Rattle.rules.specs.Reading.{readCon, read_all, records}
use Rattle.rules.specs.WellFormed.{goodProduct, goodCon}
use Rattle.rules.specs.Writing.{words, writeBinding}
use Rattle.rules.specs.Solving.{Answer, solve}
use Rattle.rules.specs.Calls.{
  lentResult,
  lentWork,
  lent,
  shortLists,
  tableKept,
  listGiven,
  setGiven,
  apart,
  resultAfter,
  solvedOf,
  solvedWords,
  solvedSet,
  solveCall,
  solved,
  unsolved,
  refusedAfter,
}
use Rattle.laws.proofs.NameTable.{held-apart}
use Rattle.laws.proofs.ByteOrder.{atom-lawful, numbered-lawful}
use Rattle.laws.proofs.Checks.{need-passed}
use Rattle.laws.proofs.Given.{lent-long, set-read}
use Rattle.laws.specs.Lists.{Every, and_left, and_right}
use Rattle.laws.proofs.Lists.{bound-step, bracket, same_after, each-parts, got≢refused, same-number}
use Rattle.rules.specs.Elimination.{
  scalarOf,
  fits,
  fitting,
  eliminated,
  Settled,
  settled,
  unsettled,
  setChecked,
  eliminatedSet,
  eliminatedOf,
  eliminatedWords,
  eliminateCall,
  withRounds,
  Eliminated,
  allBound,
  someLeft,
  refusedWith,
}
use Rattle.theorems_engine.specs.Claims.{Agree, Unfit, Alike, refuse-alike, accept-alike, remain-alike}
use Rattle.theorems_engine.proofs.Runs.{answered}
use Rattle.theorems_engine.proofs.Laid.{as-solved}
use Rattle.laws.proofs.Refusing.{Refuses, given, needs, next, refusing}
use Rattle.engine_matrix.proofs.Sevens.{Seven, eliminated-seven}

-- ══ What the checks at entry say ══

scalar_is : {N : Type 0} (c : Con N) (p : Product N) → scalarOf c ≡ got p → c ≡ is_scalar p
unfolding scalarOf
scalar_is (equal l r) p e = absurd (got≢refused (sym e))
scalar_is (isDim t) p e = absurd (got≢refused (sym e))
scalar_is (is_scalar q) p e = let z : q ≡ p = cc in ap is_scalar z
scalar_is (hasField n l r) p e = absurd (got≢refused (sym e))

-- equal-scalars alone, and their products
pub scalars : {N : Type 0} (cs : List (Con N)) (ps : List (Product N)) → each scalarOf cs ≡ got ps → cs ≡ map is_scalar ps
unfolding each
scalars [] ps e = let z : [] ≡ ps = cc in rw (sym z)
scalars (c ∷ cs) ps e =
    let t = each-parts scalarOf c cs ps e in
    rw (sym t.both) (ap₂ ◌∷◌ (scalar_is c t.first t.gave) (scalars cs t.second t.then))

scalar-refuses : {N : Type 0} (c : Con N) (n : ℕ) → scalarOf c ≡ refused n → n ≡ 8
unfolding scalarOf
scalar-refuses (equal l r) n e = cc
scalar-refuses (isDim t) n e = cc
scalar-refuses (is_scalar q) n e = absurd (got≢refused e)
scalar-refuses (hasField m l r) n e = cc

pub scalars-refuse : {N : Type 0} (cs : List (Con N)) (n : ℕ) → each scalarOf cs ≡ refused n → n ≡ 8
unfolding each
scalars-refuse [] n e = absurd (got≢refused e)
scalars-refuse {N} (c ∷ cs) n e = first (scalarOf c) refl (scalars-refuse cs)
  where
    then : (p : Product N) (m : Got (List (Product N))) → each scalarOf cs ≡ m → scalarOf c ≡ got p → ((n : ℕ) → each scalarOf cs ≡ refused n → n ≡ 8) → n ≡ 8
    then p (got ps) i j r = let z : got (p ∷ ps) ≡ refused n = rw (j, i) at e in absurd (got≢refused z)
    then p (refused k) i j r = sym (same-number (rw (j, i) at e)) ∙ r k i

    first : (m : Got (Product N)) → scalarOf c ≡ m → ((n : ℕ) → each scalarOf cs ≡ refused n → n ≡ 8) → n ≡ 8
    first (got p) j r = then p (each scalarOf cs) refl j r
    first (refused k) j r = sym (same-number (rw j at e)) ∙ scalar-refuses c k j

pub products-good : {N : Type 0} (ν : Names N) (held : N → Bool) (ps : List (Product N)) → all (goodCon ν held 0) (map is_scalar ps) ≡ true
    → Every (λ p. goodProduct ν held 0 p ≡ true) ps
unfolding all goodCon
products-good ν held [] h = tt
products-good ν held (p ∷ ps) h = (and_left (goodProduct ν held 0 p) _ h, products-good ν held ps (and_right (goodProduct ν held 0 p) _ h))

-- ══ A set that fits ══

module _ (pool table set : List ℕ) where
  abbrev t : Table
  t = table_of pool table

  abbrev ν : Names ℕ
  ν = numbersOf t

  -- a set that fits the engine: equal-scalar constraints alone, at most 24, with at most 24 variables, and 24 parameters and base dimensions
  abbrev pub Fits : List (Con ℕ) → List (Product ℕ) → Type 0
  Fits cs ps = fitting ν cs ≡ got ps

  -- solving begins with the same checks
  solved-checked : solvedSet t set ≡ (setChecked t set >>= λ cs. got (solve ν bounded cs))
  unfolding solvedSet setChecked
  solved-checked =
      sym (bracket (shortLists (set ∷ [])) _ _ ∙ same_after (shortLists (set ∷ [])) _ _ (λ _.
      bracket (tableKept t) _ _ ∙ same_after (tableKept t) _ _ (λ _.
      bracket (setGiven t set) _ _ ∙ same_after (setGiven t set) _ _ (λ cs. bracket (apart t (collect opensCon cs)) _ _))))

  -- a set that passed, and fits: the engine's answer is the solver's after some rounds
  module _ (u : Unit {0}) (long : lentTable pool table ≡ got u) (cs : List (Con ℕ)) (ps : List (Product ℕ)) (checked : setChecked t set ≡ got cs)
      (fit : Fits cs ps) where
    fits_both : (k : ℕ) × (solve ν bounded cs ≡ answered k (eliminated ν ps))
    unfolding setChecked tableKept fitting
    fits_both =
        let a = bound-step (shortLists (set ∷ [])) _ cs checked in
        let b = bound-step (need (tableGood t) 1) _ cs a.2 in
        let c = bound-step (setGiven t set) _ cs b.2 in
        let d = bound-step (apart t (collect opensCon c.0)) _ cs c.2 in
        let same : c.0 ≡ cs = cc d.2 in
        let e = bound-step (each scalarOf cs) _ ps fit in
        let f = bound-step (need (fits ν e.0) 8) _ ps e.2 in
        let p : e.0 ≡ ps = cc f.2 in
        let l = lent-long pool table u long in
        let is : cs ≡ map is_scalar ps = scalars cs ps (e.1 ∙ ap got p) in
        let good = products-good ν (is_held t) ps
        (subst (λ (x : List (Con ℕ)). all (goodCon ν (is_held t) 0) x ≡ true) (same ∙ is) (set-read t set c.0 c.1).0) in
        let tells = held-apart pool table (record { bytes = l.0; words = l.1; good = need-passed (tableGood t) 1 b.1 }) in
        let few : fits ν ps ≡ true = subst (λ (x : List (Product ℕ)). fits ν x ≡ true) p (need-passed (fits ν e.0) 8 f.1) in
        let r = as-solved ν (atom-lawful ν (numbered-lawful _)) (is_held t) tells ps good few in
        (r.0, ap (solve ν bounded) is ∙ r.1)

-- ══ The theorem ══

module _ (k n : ℕ) where
  with-refused : withRounds k (refusedWith n) ≡ refusedAfter n k
  unfolding withRounds
  with-refused = refl

  with_bound : withRounds k (allBound n) ≡ solved n 0 k
  unfolding withRounds
  with_bound = refl

  with-left : withRounds k (someLeft n) ≡ unsolved n k
  unfolding withRounds
  with-left = refl

told-alike : (k : ℕ) (m : Got (Settled ℕ)) → solvedOf (got (answered k m)) ≡ withRounds k (eliminatedOf m)
unfolding solvedOf answered withRounds eliminatedOf
told-alike k (refused n) = refl
told-alike k (got (settled bs)) = refl
told-alike k (got (unsettled cs)) = refl

words-alike : (k : ℕ) (m : Got (Settled ℕ)) → solvedWords (got (answered k m)) ≡ eliminatedWords m
unfolding solvedWords answered eliminatedWords
words-alike k (refused n) = refl
words-alike k (got (settled bs)) = ap (λ (rs : List _). got (words rs)) (append-nil (collect writeBinding bs))
words-alike k (got (unsettled cs)) = refl

pub fitting-refuses : (ν : Names ℕ) (cs : List (Con ℕ)) (n : ℕ) → fitting ν cs ≡ refused n → n ≡ 8
unfolding fitting
fitting-refuses ν cs n e = go (each scalarOf cs) refl
  where
    counted : (ps : List (Product ℕ)) (b : Bool) → (need b 8 >> got ps) ≡ refused n → n ≡ 8
    counted ps true i = absurd (got≢refused i)
    counted ps false i = cc

    go : (m : Got (List (Product ℕ))) → each scalarOf cs ≡ m → n ≡ 8
    go (got ps) i = counted ps (fits ν ps) (rw i at e)
    go (refused k) i = sym (same-number (rw i at e)) ∙ scalars-refuse cs k i

-- 10, 1, 4, 8 or 7
abbrev Known : ℕ → Type 0
Known n = (n ≡ 10) ⊎ ((n ≡ 1) ⊎ ((n ≡ 4) ⊎ ((n ≡ 8) ⊎ (n ≡ 7))))

or-refuses : {A : Type 0} (n : ℕ) (o : Option A) → Known n → Refuses Known (orRefuse n o)
or-refuses n none h = refusing h
or-refuses n (some a) h = given

refusal-only : (j n k : ℕ) (m : Got (Settled ℕ)) → Seven m → solvedOf (got (answered j m)) ≡ refusedAfter n k → n ≡ 7
unfolding solvedOf answered
refusal-only j n k (refused i) h e = (cc) ∙ h.only i refl
refusal-only j n k (got (settled bs)) h e = absurd (cc)
refusal-only j n k (got (unsettled cs)) h e = absurd (cc)

-- ══ For any input ══

module _ (pool table set result work : List ℕ) where
  abbrev first : Got (Unit {0})
  first = lent pool table result work

  abbrev solving : Got (Answer ℕ)
  solving = first >> solvedSet (table_of pool table) set

  abbrev eliminating : Got (Settled ℕ)
  eliminating = first >> eliminatedSet (table_of pool table) set

  -- both are refused before anything is solved
  same-refusal : (n : ℕ) → solving ≡ refused n → eliminating ≡ refused n → Agree pool table set result work
  unfolding solveCall eliminateCall solvedOf solvedWords eliminatedOf eliminatedWords withRounds
  same-refusal n i j = record { rounds = 0; answer = rw (i, j) refl; results = rw (i, j) refl; works = refl }

  same_answer : (k : ℕ) (m : Got (Settled ℕ)) → solving ≡ got (answered k m) → eliminating ≡ m → Agree pool table set result work
  unfolding solveCall eliminateCall
  same_answer k m i j = record {
    rounds = k;
    answer = rw (i, j) (told-alike k m);
    results = ap (λ (w : Got (List ℕ)). resultAfter w result) (ap solvedWords i ∙ words-alike k m ∙ ap eliminatedWords (sym j));
    works = refl;
  }

  lent-table : (u : Unit {0}) → first ≡ got u → (v : Unit {0}) × (lentTable pool table ≡ got v)
  unfolding lent
  lent-table u e =
      let a = bound-step (lentTable pool table >> lentResult result) _ u e in
      let b = bound-step (lentTable pool table) _ a.0 a.1 in
      (b.0, b.1)

  -- for every input at all: they agree, or the set doesn't fit
  pub always : Agree pool table set result work ⊎ Unfit pool table set result work
  unfolding eliminatedSet
  always = after-lent first refl
    where
      after-fit : (u : Unit {0}) → first ≡ got u → (cs : List (Con ℕ)) → setChecked (table_of pool table) set ≡ got cs → (m : Got (List (Product ℕ)))
          → fitting (numbersOf (table_of pool table)) cs ≡ m → Agree pool table set result work ⊎ Unfit pool table set result work
      after-fit u i cs j (refused n) f = inr
          (record { cs = cs; long = i; checked = j; unfit = f ∙ ap refused (fitting-refuses (numbersOf (table_of pool table)) cs n f) })
      after-fit u i cs j (got ps) f =
          let v = lent-table u i in
          let b = fits_both pool table set v.0 v.1 cs ps j f in
          inl (same_answer b.0 (eliminated (numbersOf (table_of pool table)) ps) (rw (i, solved-checked pool table set, j) (ap got b.1)) (rw (i, j, f) refl))

      after_check : (u : Unit {0}) → first ≡ got u → (m : Got (List (Con ℕ))) → setChecked (table_of pool table) set ≡ m
          → Agree pool table set result work ⊎ Unfit pool table set result work
      after_check u i (refused n) j = inl (same-refusal n (rw (i, solved-checked pool table set, j) refl) (rw (i, j) refl))
      after_check u i (got cs) j = after-fit u i cs j (fitting (numbersOf (table_of pool table)) cs) refl

      after-lent : (m : Got (Unit {0})) → first ≡ m → Agree pool table set result work ⊎ Unfit pool table set result work
      after-lent (refused n) i = inl (same-refusal n (rw i refl) (rw i refl))
      after-lent (got u) i = after_check u i (setChecked (table_of pool table) set) refl

  -- where the set doesn't fit, the engine answers 8
  pub unfit-answer : Unfit pool table set result work → (eliminateCall pool table set result work).answer ≡ refusedWith 8
  unfolding eliminateCall eliminatedSet eliminatedOf
  unfit-answer h = rw (h.long, h.checked, h.unfit) refl

  -- on every set that fits
  pub on-fitting : ((cs : List (Con ℕ)) → setChecked (table_of pool table) set ≡ got cs → (ps : List (Product ℕ))
      × (fitting (numbersOf (table_of pool table)) cs ≡ got ps))
      → Agree pool table set result work
  on-fitting fit = go always
    where
      go : Agree pool table set result work ⊎ Unfit pool table set result work → Agree pool table set result work
      go (inl a) = a
      go (inr h) = let f = fit h.cs h.checked in absurd (got≢refused (sym f.1 ∙ h.unfit))

  -- such a set that passed the checks at entry is refused with 7 alone, by the engine and by the solver: never with 8
  pub only-7 : (cs : List (Con ℕ)) (ps : List (Product ℕ)) → lent pool table result work ≡ got tt → setChecked (table_of pool table) set ≡ got cs
      → fitting (numbersOf (table_of pool table)) cs ≡ got ps
      → (n k : ℕ) → (solveCall pool table set result work).answer ≡ refusedAfter n k → n ≡ 7
  unfolding eliminatedSet solveCall
  only-7 cs ps i j f n k e =
      let v = lent-table tt i in
      let b = fits_both pool table set v.0 v.1 cs ps j f in
      let s : solving ≡ got (answered b.0 (eliminated (numbersOf (table_of pool table)) ps)) = rw (i, solved-checked pool table set, j) (ap got b.1) in
      refusal-only b.0 n k (eliminated (numbersOf (table_of pool table)) ps) (eliminated-seven (numbersOf (table_of pool table)) ps) (sym (ap solvedOf s) ∙ e)

  -- ══ As it was asked for ══

  -- where the engine doesn't answer 8, they agree
  pub without-8 : ((eliminateCall pool table set result work).answer ≡ refusedWith 8 → ⊥) → Agree pool table set result work
  without-8 h = go always
    where
      go : Agree pool table set result work ⊎ Unfit pool table set result work → Agree pool table set result work
      go (inl a) = a
      go (inr u) = absurd (h (unfit-answer u))

  lent-refuses : Refuses Known first
  unfolding lent lentTable lentResult lentWork
  lent-refuses =
      next (lentTable pool table >> lentResult result) _
      (next (lentTable pool table) _ (needs (leb 8192 (length pool) && leb 257 (length table)) 10 ten)
      (λ _. needs (leb 8192 (length result)) 10 ten)) (λ _. needs (leb 16384 (length work)) 10 ten)
    where
      ten : Known 10
      ten = inl refl

  given-refuses : Refuses Known (setGiven (table_of pool table) set)
  unfolding setGiven listGiven
  given-refuses =
      next (orRefuse 1 (records set)) _ (or-refuses 1 (records set) one) (λ rs.
      next (orRefuse 1 (read_all readCon (length rs) rs)) _ (or-refuses 1 (read_all readCon (length rs) rs) one) (λ cs.
      next (need (all (goodCon (numbersOf (table_of pool table)) (is_held (table_of pool table)) 0) cs) 1) _
      (needs (all (goodCon (numbersOf (table_of pool table)) (is_held (table_of pool table)) 0) cs) 1 one) (λ _. given)))
    where
      one : Known 1
      one = inr (inl refl)

  checks-refuse : Refuses Known (setChecked (table_of pool table) set)
  unfolding setChecked shortLists tableKept apart
  checks-refuse =
      next (shortLists (set ∷ [])) _ (needs (all (λ ws. leb (length ws) 8192) (set ∷ [])) 8 (inr (inr (inr (inl refl))))) (λ _.
      next (tableKept (table_of pool table)) _ (needs (tableGood (table_of pool table)) 1 (inr (inl refl))) (λ _.
      next (setGiven (table_of pool table) set) _ given-refuses (λ cs.
      next (apart (table_of pool table) (collect opensCon cs)) _
      (needs (unmixed (numbersOf (table_of pool table)) (collect opensCon cs)) 4 (inr (inr (inl refl)))) (λ _. given))))

  call-refuses : Refuses Known eliminating
  unfolding eliminatedSet
  call-refuses =
      next first _ lent-refuses (λ _.
      next (setChecked (table_of pool table) set) _ checks-refuse (λ cs.
      next (fitting (numbersOf (table_of pool table)) cs) _
      (record { only = λ n e. inr (inr (inr (inl (fitting-refuses (numbersOf (table_of pool table)) cs n e)))) }) (λ ps.
      record { only = λ n e. inr (inr (inr (inr ((eliminated-seven (numbersOf (table_of pool table)) ps).only n e)))) })))

  answer-refuses : (n : ℕ) → (eliminateCall pool table set result work).answer ≡ refusedWith n → Known n
  unfolding eliminateCall eliminatedOf
  answer-refuses n e = go eliminating refl
    where
      go : (m : Got (Settled ℕ)) → eliminating ≡ m → Known n
      go (refused j) i = let z : refusedWith j ≡ refusedWith n = rw i at e in subst Known (cc) (call-refuses.only j i)
      go (got (settled bs)) i = let z : allBound (sum_of sizeBinding bs) ≡ refusedWith n = rw i at e in absurd (cc)
      go (got (unsettled cs)) i = let z : someLeft (sum_of sizeCon cs) ≡ refusedWith n = rw i at e in absurd (cc)

  -- 'where neither engine answers 7 or 8, both refuse alike ..'. It is enough that this engine doesn't
  pub unless-limited : ((n : ℕ) → (n ≡ 7) ⊎ (n ≡ 8) → (eliminateCall pool table set result work).answer ≡ refusedWith n → ⊥) → Alike pool table set result work
  unless-limited none-of-these = go (eliminateCall pool table set result work).answer refl
    where
      agreed : Agree pool table set result work
      agreed = without-8 (none-of-these 8 (inr refl))

      told : (a : Eliminated) → (eliminateCall pool table set result work).answer ≡ a
          → (solveCall pool table set result work).answer ≡ withRounds agreed.rounds a
      told a i = agreed.answer ∙ ap (withRounds agreed.rounds) i

      at_entry : (n : ℕ) → (eliminateCall pool table set result work).answer ≡ refusedWith n → Known n → (n ≡ 1) ⊎ ((n ≡ 4) ⊎ (n ≡ 10))
      at_entry n i (inl e) = inr (inr e)
      at_entry n i (inr (inl e)) = inl e
      at_entry n i (inr (inr (inl e))) = inr (inl e)
      at_entry n i (inr (inr (inr (inl e)))) = absurd (none-of-these n (inr e) i)
      at_entry n i (inr (inr (inr (inr e)))) = absurd (none-of-these n (inl e) i)

      go : (a : Eliminated) → (eliminateCall pool table set result work).answer ≡ a → Alike pool table set result work
      go (refusedWith n) i = refuse-alike (at_entry n i (answer-refuses n i)) i (told (refusedWith n) i ∙ with-refused agreed.rounds n)
      go (allBound n) i = accept-alike i (told (allBound n) i ∙ with_bound agreed.rounds n) agreed.results
      go (someLeft n) i = remain-alike i (told (someLeft n) i ∙ with-left agreed.rounds n) agreed.results
