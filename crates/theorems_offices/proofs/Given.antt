-- What the checks at entry make of lists that read alike, over two good tables.
use Rattle.std.specs.Prelude.{◌≡◌, Bool, true, ◌&&◌, ℕ, suc, leb, length}
use Rattle.std.proofs.Math.Path.{refl, ap}
use Rattle.std.proofs.Common.{ap₂, sym, ◌∙◌, arith}
use mathlib.Core.List.{List, [], ◌∷◌, ◌++◌, map, map-append}
use borrow.Author.Tests.{le-leb, ltb-true}
use Rattle.std.proofs.lemmas.List.{length-map}
use Rattle.rules.specs.Base.{Got, got, ◌>>◌, need, orRefuse, all, collect}
use Rattle.rules.specs.Trees.{Open, var, quant, par, Ty, Con, Binding, opens, opensCon}
use Rattle.rules.specs.Names.{Table, table_of, numbersOf, is_held, lentTable}
use Rattle.rules.specs.Contents.{unmixed}
use Rattle.rules.specs.Schemes.{Scheme, concrete, scheme}
use Rattle.rules.specs.Writing.{word_of}
use Rattle.rules.specs.Reading.{Reader, records, read_all, readTy, readCon, readBinding, readBound, schemeOf}
use Rattle.rules.specs.WellFormed.{goodTy, goodCon, goodOpen, goodBinding}
use Rattle.rules.specs.Calls.{
  lentResult,
  lentWork,
  lent,
  shortLists,
  shortNumbers,
  only,
  listGiven,
  tableKept,
  setGiven,
  typeGiven,
  bindingsGiven,
  boundsGiven,
  goodScheme,
  schemeGiven,
  numbersGiven,
  apart,
  opensBinding,
  opensScheme,
}
use Rattle.rules.specs.Offices.{
  Name,
  stray,
  byBytes,
  nameNo,
  readBack,
  ReadAlike,
  NumbersAlike,
  LentAlike,
  mapOpen,
  mapTy,
  mapCon,
  mapGot,
  mapBinding,
  mapScheme,
}
use Rattle.laws.proofs.Checks.{need-passed, first-passed, next-passed}
use Rattle.laws.specs.Lists.{and_left, and_right}
use Rattle.laws.proofs.Lists.{bound-step}
use Rattle.laws.specs.NameTable.{Good}
use Rattle.theorems_offices.proofs.Over.{Over, gives, collect-over}
use Rattle.laws.proofs.Alike.{both, neither, onward}
use Rattle.theorems_offices.proofs.Both.{Both, with-names-equal, there, through, needed}
use Rattle.theorems_offices.proofs.Contents.{all_map, unmixed-map}
use Rattle.theorems_offices.proofs.Sizes.{opens-map, opens-con, opens-binding}
use Rattle.theorems_offices.proofs.WellFormed.{good-open, good-ty, good-con, good-binding}
use Rattle.theorems_offices.proofs.Reading.{same_length, Readers, records-alike, ty-agree, con-agree, binding-agree, bound-agree, all-agree}
use Rattle.theorems_offices.proofs.ReadSchemes.{scheme-alike}
use Rattle.theorems_offices.proofs.Naming.{isNamed, held-named, keeps}

-- ══ Lengths ══

back-length : (t : Table) (ws : List ℕ) → length (readBack t ws) ≡ length ws
unfolding readBack
back-length t [] = refl
back-length t (k ∷ []) = refl
back-length t (k ∷ a ∷ []) = refl
back-length t (k ∷ a ∷ b ∷ []) = refl
back-length t (k ∷ a ∷ b ∷ c ∷ ws) = ap (λ (n : ℕ). suc (suc (suc (suc n)))) (back-length t ws)

pub as_long : {t t' : Table} {ws ws' : List ℕ} → ReadAlike t t' ws ws' → length ws ≡ length ws'
as_long {t} {t'} {ws} {ws'} e = sym (back-length t ws) ∙ ap length e.words ∙ back-length t' ws'

pub as_many : {t t' : Table} {ns ns' : List ℕ} → NumbersAlike t t' ns ns' → length ns ≡ length ns'
as_many {t} {t'} {ns} {ns'} e = sym (length-map ns (nameNo t)) ∙ ap length e.names ∙ length-map ns' (nameNo t')

-- exactly one
only-over : {A B : Type 0} (g : A → B) (xs : List A) → Over g (only xs) (only (map g xs))
unfolding only
only-over g [] = record { is = refl }
only-over g (x ∷ []) = gives refl
only-over g (x ∷ y ∷ xs) = record { is = refl }

pub only-alike : {A B : Type 0} (g g' : A → B) (xs xs' : List A) → map g xs ≡ map g' xs' → Both g g' (only xs) (only xs')
only-alike g g' xs xs' e = through (only-over g xs) (only-over g' xs') (ap only e)

-- ══ What is well formed, and bounds, with names in them ══

-- well formed, over names themselves
goodNamed : Scheme Name → Bool
goodNamed (concrete u) = goodTy byBytes isNamed 0 u
goodNamed (scheme n u bs) = goodTy byBytes isNamed n u && all (goodOpen byBytes isNamed n) bs

scheme-good : {pool table : List ℕ} (good : Good pool table) (s : Scheme ℕ)
    → goodNamed (mapScheme (nameNo (table_of pool table)) s) ≡ goodScheme (table_of pool table) s
unfolding goodNamed goodScheme mapScheme
scheme-good {pool} {table} good (concrete u) = good-ty _ byBytes (nameNo (table_of pool table)) (keeps good) _ isNamed (held-named (table_of pool table)) 0 u
scheme-good {pool} {table} good (scheme n u bs) =
    rw (
      good-ty _ byBytes (nameNo (table_of pool table)) (keeps good) _ isNamed (held-named (table_of pool table)) n u,
      all_map (mapOpen (nameNo (table_of pool table))) (goodOpen (numbersOf (table_of pool table)) (is_held (table_of pool table)) n)
          (goodOpen byBytes isNamed n) (good-open _ byBytes (nameNo (table_of pool table)) (keeps good) _ isNamed (held-named (table_of pool table))
          n) bs,
    )

opens-scheme : {N M : Type 0} (f : N → M) (s : Scheme N) → opensScheme (mapScheme f s) ≡ map (mapOpen f) (opensScheme s)
unfolding opensScheme mapScheme
opens-scheme f (concrete u) = opens-map f u
opens-scheme f (scheme n u bs) = opens-map f u

-- bounds outside a scheme carry names only, so their words are numbers of names
abbrev nameIn : Open Name → Name
nameIn (var x) = x
nameIn (quant i) = stray i
nameIn (par x) = x

module _ (t : Table) where
  bound-named : (o : Open ℕ) → goodOpen (numbersOf t) (is_held t) 0 o ≡ true → nameNo t (word_of o) ≡ nameIn (mapOpen (nameNo t) o)
  unfolding goodOpen
  bound-named (var x) h = refl
  bound-named (quant i) h = absurd (let k = ltb-true i 0 h in omega arith)
  bound-named (par x) h = refl

  bounds-named : (os : List (Open ℕ)) → all (goodOpen (numbersOf t) (is_held t) 0) os ≡ true
      → map (nameNo t) (map word_of os) ≡ map nameIn (map (mapOpen (nameNo t)) os)
  unfolding all
  bounds-named [] h = refl
  bounds-named (o ∷ os) h = rw (bound-named o (and_left _ _ h), bounds-named os (and_right (goodOpen (numbersOf t) (is_held t) 0 o) _ h))

given-good : {A : Type 0} (r : Reader A) (goodA : A → Bool) (ws : List ℕ) (as' : List A) → listGiven r goodA ws ≡ got as' → all goodA as' ≡ true
unfolding listGiven
given-good {A} r goodA ws as' e =
    let x = bound-step (orRefuse 1 (records ws)) _ as' e in
    let y = bound-step (orRefuse 1 (read_all r (length x.0) x.0)) _ as' x.2 in
    passes y.0 y.2
  where
    passes : (bs : List A) → (need (all goodA bs) 1 >> got bs) ≡ got as' → all goodA as' ≡ true
    passes bs h = rw (inside (next-passed (got bs) as' (need (all goodA bs) 1) h)) at
        (need-passed (all goodA bs) 1 (first-passed (got bs) as' (need (all goodA bs) 1) h))
      where
        inside : {x y : List A} → got x ≡ got y → x ≡ y
        inside e = cc

bounds-good : (t : Table) (ws : List ℕ) (os : List (Open ℕ)) → boundsGiven t ws ≡ got os → all (goodOpen (numbersOf t) (is_held t) 0) os ≡ true
unfolding boundsGiven
bounds-good t ws os e = given-good readBound (goodOpen (numbersOf t) (is_held t) 0) ws os e

-- ══ The checks that look at lengths ══

-- 8 looks at lengths alone
pub short : (ls ls' : List (List ℕ)) → map length ls ≡ map length ls' → shortLists ls ≡ shortLists ls'
unfolding shortLists
short ls ls' e = ap (λ (b : Bool). need b 8)
    (sym (all_map length (λ ws. leb (length ws) 8192) (λ n. leb n 8192) (λ ws. refl) ls) ∙ ap (all (λ n. leb n 8192)) e
    ∙ all_map length (λ ws. leb (length ws) 8192) (λ n. leb n 8192) (λ ws. refl) ls')

pub few : {A : Type 0} (ns ns' : List A) → length ns ≡ length ns' → shortNumbers ns ≡ shortNumbers ns'
unfolding shortNumbers
few ns ns' e = rw e

-- and so does 10
pub lent-result : (result result' : List ℕ) → length result ≡ length result' → lentResult result ≡ lentResult result'
unfolding lentResult
lent-result result result' e = rw e

pub lent-work : (work work' : List ℕ) → length work ≡ length work' → lentWork work ≡ lentWork work'
unfolding lentWork
lent-work work work' e = rw e

-- ══ Over two good tables ══

module _ {pool table pool' table' : List ℕ} (good : Good pool table) (good' : Good pool' table') where
  abbrev pub Alike : List ℕ → List ℕ → Type 0
  Alike = ReadAlike (table_of pool table) (table_of pool' table')

  abbrev pub ν : ℕ → Name
  ν = nameNo (table_of pool table)

  abbrev pub ν' : ℕ → Name
  ν' = nameNo (table_of pool' table')

  pub kept-alike : tableKept (table_of pool table) ≡ tableKept (table_of pool' table')
  unfolding tableKept
  kept-alike = rw (good.good, good'.good)

  pub lent-table : lentTable pool table ≡ lentTable pool' table'
  unfolding lentTable
  lent-table = rw (
    le-leb 8192 (length pool) good.bytes,
    le-leb 257 (length table) good.words,
    le-leb 8192 (length pool') good'.bytes,
    le-leb 257 (length table') good'.words,
  )

  module _ {A B : Type 0} {g g' : A → B} (r : Reader A) (reads : Readers (table_of pool table) (table_of pool' table') g g' r r) (goodN : B → Bool)
      (goodA goodA' : A → Bool)
      (is : (a : A) → goodN (g a) ≡ goodA a) (is' : (a : A) → goodN (g' a) ≡ goodA' a) where
    list-given : (ws ws' : List ℕ) → Alike ws ws' → Both (map g) (map g') (listGiven r goodA ws) (listGiven r goodA' ws')
    unfolding listGiven
    list-given ws ws' e =
        onward _ _ (there 1 (records ws) (records ws') (records-alike (table_of pool table) (table_of pool' table') ws ws' e)) (λ rs rs' i.
        onward _ _ (there 1 (read_all r (length rs) rs) (read_all r (length rs') rs')
        (rw (same_length (table_of pool table) (table_of pool' table') rs rs' i)
        (all-agree (table_of pool table) (table_of pool' table') r reads (length rs') rs rs' i))) (λ as' bs j.
        onward _ _ (needed 1 (sym (all_map g goodA goodN is as') ∙ ap (all goodN) j ∙ all_map g' goodA' goodN is' bs)) (λ u u' l. both j)))

  -- ══ Each list that a call is lent ══

  pub constraints-given : (ws ws' : List ℕ) → Alike ws ws'
      → Both (map (mapCon ν)) (map (mapCon ν')) (setGiven (table_of pool table) ws) (setGiven (table_of pool' table') ws')
  unfolding setGiven
  constraints-given = list-given readCon (con-agree (table_of pool table) (table_of pool' table')) (goodCon byBytes isNamed 0) _ _
      (good-con _ byBytes ν (keeps good) _ isNamed (held-named (table_of pool table)) 0)
      (good-con _ byBytes ν' (keeps good') _ isNamed (held-named (table_of pool' table')) 0)

  -- as one equation: what the second list is read as, with names in it, is what the first one is
  pub set_given : (ws ws' : List ℕ) → Alike ws ws'
      → Over (map (mapCon ν')) (setGiven (table_of pool' table') ws') (mapGot (map (mapCon ν)) (setGiven (table_of pool table) ws))
  set_given ws ws' e = record { is = with-names-equal (constraints-given ws ws' e) }

  pub type-given : (ws ws' : List ℕ) → Alike ws ws' → Both (mapTy ν) (mapTy ν') (typeGiven (table_of pool table) ws) (typeGiven (table_of pool' table') ws')
  unfolding typeGiven
  type-given ws ws' e = onward _ _ (list-given (readTy 64) (ty-agree (table_of pool table) (table_of pool' table') 64) (goodTy byBytes isNamed 0) _ _
      (good-ty _ byBytes ν (keeps good) _ isNamed (held-named (table_of pool table)) 0)
      (good-ty _ byBytes ν' (keeps good') _ isNamed (held-named (table_of pool' table')) 0) ws ws' e) (only-alike (mapTy ν) (mapTy ν'))

  pub bindings-given : (ws ws' : List ℕ) → Alike ws ws'
      → Both (map (mapBinding ν)) (map (mapBinding ν')) (bindingsGiven (table_of pool table) ws) (bindingsGiven (table_of pool' table') ws')
  unfolding bindingsGiven
  bindings-given = list-given readBinding (binding-agree (table_of pool table) (table_of pool' table')) (goodBinding byBytes isNamed 0) _ _
      (good-binding _ byBytes ν (keeps good) _ isNamed (held-named (table_of pool table)) 0)
      (good-binding _ byBytes ν' (keeps good') _ isNamed (held-named (table_of pool' table')) 0)

  pub bounds-given : (ws ws' : List ℕ) → Alike ws ws'
      → Both (map (mapOpen ν)) (map (mapOpen ν')) (boundsGiven (table_of pool table) ws) (boundsGiven (table_of pool' table') ws')
  unfolding boundsGiven
  bounds-given = list-given readBound (bound-agree (table_of pool table) (table_of pool' table')) (goodOpen byBytes isNamed 0) _ _
      (good-open _ byBytes ν (keeps good) _ isNamed (held-named (table_of pool table)) 0)
      (good-open _ byBytes ν' (keeps good') _ isNamed (held-named (table_of pool' table')) 0)

  pub scheme-given : (ws ws' : List ℕ) → Alike ws ws'
      → Both (mapScheme ν) (mapScheme ν') (schemeGiven (table_of pool table) ws) (schemeGiven (table_of pool' table') ws')
  unfolding schemeGiven
  scheme-given ws ws' e =
      onward _ _ (there 1 (records ws) (records ws') (records-alike (table_of pool table) (table_of pool' table') ws ws' e)) (λ rs rs' i.
      onward _ _ (there 1 (schemeOf rs) (schemeOf rs') (scheme-alike (table_of pool table) (table_of pool' table') rs rs' i)) (λ s s' j.
      onward _ _ (needed 1 (sym (scheme-good good s) ∙ ap goodNamed j ∙ scheme-good good' s')) (λ u u' l. both j)))

  pub numbers-given : (ns ns' : List ℕ) → map ν ns ≡ map ν' ns' → numbersGiven (table_of pool table) ns ≡ numbersGiven (table_of pool' table') ns'
  unfolding numbersGiven
  numbers-given ns ns' e = ap (λ (b : Bool). need b 1)
      (sym (all_map ν (is_held (table_of pool table)) isNamed (held-named (table_of pool table)) ns) ∙ ap (all isNamed) e
      ∙ all_map ν' (is_held (table_of pool' table')) isNamed (held-named (table_of pool' table')) ns')

  pub apart-alike : (os os' : List (Open ℕ)) → map (mapOpen ν) os ≡ map (mapOpen ν') os' → apart (table_of pool table) os ≡ apart (table_of pool' table') os'
  unfolding apart
  apart-alike os os' e = ap (λ (b : Bool). need b 4)
      (sym (unmixed-map _ byBytes ν (keeps good) os) ∙ ap (unmixed byBytes) e ∙ unmixed-map _ byBytes ν' (keeps good') os')

  pub opens-alike : (u u' : Ty ℕ) → mapTy ν u ≡ mapTy ν' u' → map (mapOpen ν) (opens u) ≡ map (mapOpen ν') (opens u')
  opens-alike u u' e = sym (opens-map ν u) ∙ ap opens e ∙ opens-map ν' u'

  pub set-opens : (cs cs' : List (Con ℕ)) → map (mapCon ν) cs ≡ map (mapCon ν') cs'
      → map (mapOpen ν) (collect opensCon cs) ≡ map (mapOpen ν') (collect opensCon cs')
  set-opens cs cs' e = sym (collect-over (mapCon ν) (mapOpen ν) opensCon opensCon (opens-con ν) cs) ∙ ap (collect opensCon) e
      ∙ collect-over (mapCon ν') (mapOpen ν') opensCon opensCon (opens-con ν') cs'

  pub binding-opens : (bs bs' : List (Binding ℕ)) → map (mapBinding ν) bs ≡ map (mapBinding ν') bs'
      → map (mapOpen ν) (collect opensBinding bs) ≡ map (mapOpen ν') (collect opensBinding bs')
  binding-opens bs bs' e = sym (collect-over (mapBinding ν) (mapOpen ν) opensBinding opensBinding (opens-binding ν) bs) ∙ ap (collect opensBinding) e
      ∙ collect-over (mapBinding ν') (mapOpen ν') opensBinding opensBinding (opens-binding ν') bs'

  pub joined : (os os' ps ps' : List (Open ℕ)) → map (mapOpen ν) os ≡ map (mapOpen ν') os' → map (mapOpen ν) ps ≡ map (mapOpen ν') ps'
      → map (mapOpen ν) (os ++ ps) ≡ map (mapOpen ν') (os' ++ ps')
  joined os os' ps ps' e f = map-append (mapOpen ν) os ps ∙ ap₂ (λ (a b : List (Open Name)). a ++ b) e f ∙ sym (map-append (mapOpen ν') os' ps')

  pub scheme-opens : (s s' : Scheme ℕ) → mapScheme ν s ≡ mapScheme ν' s' → map (mapOpen ν) (opensScheme s) ≡ map (mapOpen ν') (opensScheme s')
  scheme-opens s s' e = sym (opens-scheme ν s) ∙ ap opensScheme e ∙ opens-scheme ν' s'

  pub lent_alike : (result result' work work' : List ℕ) → LentAlike result result' work work' → lent pool table result work ≡ lent pool' table' result' work'
  unfolding lent
  lent_alike result result' work work' e = rw (lent-table, lent-result result result' e.results, lent-work work work' e.works)

  -- bounds, as names
  pub names-given : (ws ws' : List ℕ) → Alike ws ws'
      → Both (λ os. map ν (map word_of os)) (λ os. map ν' (map word_of os)) (boundsGiven (table_of pool table) ws) (boundsGiven (table_of pool' table') ws')
  names-given ws ws' e = go (boundsGiven (table_of pool table) ws) refl (boundsGiven (table_of pool' table') ws') refl (bounds-given ws ws' e)
    where
      go : (m : Got (List (Open ℕ))) → boundsGiven (table_of pool table) ws ≡ m → (m' : Got (List (Open ℕ))) → boundsGiven (table_of pool' table') ws' ≡ m'
          → Both (map (mapOpen ν)) (map (mapOpen ν')) m m' → Both (λ os. map ν (map word_of os)) (λ os. map ν' (map word_of os)) m m'
      go m p m' q neither = neither
      go m p m' q (both {a = os} {b = os'} i) = both
          (bounds-named (table_of pool table) os (bounds-good (table_of pool table) ws os p) ∙ ap (map nameIn) i
          ∙ sym (bounds-named (table_of pool' table') os' (bounds-good (table_of pool' table') ws' os' q)))
