-- What contains, closed and variables answer, from what the passes over the records find.
use Rattle.std.specs.Prelude.{◌≡◌, refl, Bool, true, false, ◌&&◌, List, ℕ, ◌+◌, ◌/◌, ◌≤◌, ◌<◌, eqb, ltb, length, get_or}
use Rattle.std.proofs.Math.Path.{sym, ap}
use Rattle.std.proofs.Common.{◌∙◌}
use borrow.Author.Tests.{le-leb, lt-leb}
use Rattle.std.proofs.Math.Dec.{leb}
use Rattle.rules.specs.Base.{Got, got, refused, ◌>>=◌, ◌>>◌, need, any, all, isNil}
use Rattle.rules.specs.Trees.{Ty, opens, size}
use Rattle.rules.specs.Names.{table_of, names_of, lentTable}
use Rattle.rules.specs.Contents.{closed, contains, containsName, variables, unmixed, sort, namesIn}
use Rattle.rules.specs.Calls.{
  lentResult,
  typeGiven,
  numbersGiven,
  apart,
  Listed,
  listing,
  resultAfter,
  aloneGiven,
  typeCall,
  containsCall,
  closedCall,
  variablesCall,
}
use Rattle.laws.specs.NameTable.{Good}
use Rattle.laws.proofs.NameTable.{good-laid}
use Rattle.laws.proofs.Checks.{passed, stopped}
use Rattle.laws.proofs.Lists.{same-number}
use Rattle.laws.specs.Lists.{Every}
use Rattle.laws.proofs.KnownNames.{Known, ty-known}
use Rattle.records.specs.Found.{Words32}
use Rattle.records.specs.Good.{GoodTy, numbers, holding}
use Rattle.records.proofs.Whole.{entry-good, type-is}
use Rattle.queries.specs.declared.Kind.{Kind}
use Rattle.queries.specs.Told.{kind_of}
use Rattle.queries.specs.Scans.{choose, opensIn}
use Rattle.queries.specs.Marks.{Small, Filled}
use Rattle.queries.proofs.ScanLaws.{type-opens}
use Rattle.laws.proofs.Contents.{same-eqb, contains-eqb}
use Rattle.queries.proofs.GoodOpens.{names-held, names-small}

-- ══ A row of checks, and what comes after ══

-- a refusal leaves the result buffer as it is
abbrev unlisted : ℕ → List ℕ → Listed
unlisted n result = record { answer = refused n; result = result }

lent-short : (b : Bool) (r : Got (Unit {0})) (m : Got (List ℕ)) (result : List ℕ) → r ≡ refused 10 → listing ((need b 10 >> r) >> m) result ≡ unlisted 10 result
unfolding listing resultAfter
lent-short true r m result e = rw e
lent-short false r m result e = refl

lent-stopped : {A : Type 0} (l r a : Got (Unit {0})) (m : Got A) (f : A → Got (List ℕ)) (n : ℕ) (result : List ℕ) → r ≡ got tt
    → ((j : ℕ) → l ≡ refused j → a ≡ refused j) → (a >> m >> got (tt {0})) ≡ refused n
    → listing ((l >> r) >> (a >>= λ _. m >>= f)) result ≡ unlisted n result
unfolding listing resultAfter
lent-stopped (got u) r a m f n result e g h = rw (e, stopped a m f n h)
lent-stopped (refused j) r a m f n result e g h =
    let q : ◌≡◌ {A = Got (Unit {0})} (refused j) (refused n) = ap (λ (x : Got (Unit {0})). x >> m >> got (tt {0})) (sym (g j refl)) ∙ h in
    rw (same-number q)

-- a name among those of the kind that is asked for
names-said : (pool table : List ℕ) (x : ℕ) (p : Bool) (t : Ty ℕ) → any (eqb x) (choose (kind_of p) (opens t)) ≡ containsName (numbers pool table) p x t
unfolding containsName contains
names-said pool table x true t = sym (same-eqb (names_of (table_of pool table)) x (namesIn (opens t)))
names-said pool table x false t = sym (contains-eqb (names_of (table_of pool table)) x (opens t))

names-sorted : (pool table : List ℕ) (p : Bool) (t : Ty ℕ) → variables (numbers pool table) p t ≡ sort (numbers pool table) (choose (kind_of p) (opens t))
unfolding variables
names-sorted pool table true t = refl
names-sorted pool table false t = refl

module _ (pool table ws : List ℕ) where
  -- the words are those of a well formed type
  pub record Typed (t : Ty ℕ) : Type 0 where
    pub alone : aloneGiven pool table ws ≡ got tt
    pub typed : typeGiven (table_of pool table) ws ≡ got t
    pub held : GoodTy pool table 0 ws 64 0 t (length ws / 4)

  module _ (w : Words32 ws) where
    pub typed : typeCall pool table ws ≡ got tt → (t : Ty ℕ) × Typed t
    unfolding typeCall
    typed e =
        let (t, (a, m)) = passed (aloneGiven pool table ws) (typeGiven (table_of pool table) ws) e in
        (t, record { alone = a; typed = m; held = type-is pool table ws w t m })

  module _ (t : Ty ℕ) (k : Typed t) where
    pub typed-good : Good pool table
    typed-good = entry-good pool table ws k.alone

    pub typed-opens : opensIn ws 0 (length ws / 4) ≡ opens t
    typed-opens = let z : length ws / 4 ≡ 0 + size t = k.held.past in rw z (type-opens ws t 0 k.held.held)

    known : Every (Known (numbers pool table) (holding pool table) 0) (opensIn ws 0 (length ws / 4))
    known = rw typed-opens (ty-known (numbers pool table) (holding pool table) 0 t k.held.good)

    pub typed-small : Small (opensIn ws 0 (length ws / 4))
    typed-small = names-small pool table 0 (opensIn ws 0 (length ws / 4)) known (good-laid typed-good).few

    pub typed-held : (i : Kind) → Every (λ x. x < get_or table 0 0) (choose i (opensIn ws 0 (length ws / 4)))
    typed-held i = names-held pool table 0 (opensIn ws 0 (length ws / 4)) known i

  -- ══ Contains ══

  module _ (x : ℕ) (p : Bool) where
    pub contains-refused : (n : ℕ) → typeCall pool table ws ≡ refused n → containsCall pool table ws x p ≡ refused n
    unfolding typeCall containsCall
    contains-refused n e = stopped (aloneGiven pool table ws) (typeGiven (table_of pool table) ws) _ n e

    module _ (t : Ty ℕ) (k : Typed t) where
      contains-call : containsCall pool table ws x p
          ≡ (need (ltb x (get_or table 0 0) && true) 1
          >> (need (unmixed (numbers pool table) (opens t)) 4 >> got (containsName (numbers pool table) p x t)))
      unfolding containsCall numbersGiven apart all table_of
      contains-call = rw (k.alone, k.typed)

      pub contains-unheld : ltb x (get_or table 0 0) ≡ false → containsCall pool table ws x p ≡ refused 1
      contains-unheld e = contains-call ∙ rw e

      pub contains-mixed : ltb x (get_or table 0 0) ≡ true → unmixed (numbers pool table) (opensIn ws 0 (length ws / 4)) ≡ false
          → containsCall pool table ws x p ≡ refused 4
      contains-mixed e q = let z = rw (typed-opens t k) at q in contains-call ∙ rw (e, z)

      pub contains-said : ltb x (get_or table 0 0) ≡ true → unmixed (numbers pool table) (opensIn ws 0 (length ws / 4)) ≡ true
          → got (any (eqb x) (choose (kind_of p) (opensIn ws 0 (length ws / 4)))) ≡ containsCall pool table ws x p
      contains-said e q =
          let z = rw (typed-opens t k) at q in
          rw (typed-opens t k) (ap got (names-said pool table x p t) ∙ sym (contains-call ∙ rw (e, z)))

  -- ══ Closed ══

  pub closed-refused : (n : ℕ) → typeCall pool table ws ≡ refused n → closedCall pool table ws ≡ refused n
  unfolding typeCall closedCall
  closed-refused n e = stopped (aloneGiven pool table ws) (typeGiven (table_of pool table) ws) _ n e

  module _ (t : Ty ℕ) (k : Typed t) where
    closed-call : closedCall pool table ws ≡ (need (unmixed (numbers pool table) (opens t)) 4 >> got (closed t))
    unfolding closedCall apart
    closed-call = rw (k.alone, k.typed)

    pub closed-mixed : unmixed (numbers pool table) (opensIn ws 0 (length ws / 4)) ≡ false → closedCall pool table ws ≡ refused 4
    closed-mixed q = let z = rw (typed-opens t k) at q in closed-call ∙ rw z

    pub closed_said : unmixed (numbers pool table) (opensIn ws 0 (length ws / 4)) ≡ true → got (isNil (opensIn ws 0 (length ws / 4))) ≡ closedCall pool table ws
    unfolding closed
    closed_said q = let z = rw (typed-opens t k) at q in rw (typed-opens t k) (sym (closed-call ∙ rw z))

  -- ══ Variables ══

  module _ (p : Bool) (result : List ℕ) where
    pub variables-short : length result < 8192 → unlisted 10 result ≡ variablesCall pool table ws p result
    unfolding variablesCall lentTable lentResult
    variables-short h = sym (lent-short (leb 8192 (length pool) && leb 257 (length table)) (lentResult result) _ result (rw (lt-leb 8192 (length result) h)))

    pub variables-refused : (n : ℕ) → 8192 ≤ length result → typeCall pool table ws ≡ refused n → unlisted n result ≡ variablesCall pool table ws p result
    unfolding variablesCall typeCall lentResult aloneGiven
    variables-refused n h e =
        sym (lent-stopped (lentTable pool table) (lentResult result) (aloneGiven pool table ws) (typeGiven (table_of pool table) ws) _ n result
        (rw (le-leb 8192 (length result) h)) (λ j q. rw q) e)

    module _ (t : Ty ℕ) (k : Typed t) (h : 8192 ≤ length result) where
      variables-call : variablesCall pool table ws p result
          ≡ listing (need (unmixed (numbers pool table) (opens t)) 4 >> got (variables (numbers pool table) p t)) result
      unfolding variablesCall lentTable lentResult apart
      variables-call = rw (
        le-leb 8192 (length pool) (typed-good t k).bytes,
        le-leb 257 (length table) (typed-good t k).words,
        le-leb 8192 (length result) h,
        k.alone,
        k.typed,
      )

      pub variables-mixed : unmixed (numbers pool table) (opensIn ws 0 (length ws / 4)) ≡ false → unlisted 4 result ≡ variablesCall pool table ws p result
      unfolding listing resultAfter
      variables-mixed q = let z = rw (typed-opens t k) at q in sym (variables-call ∙ rw z)

      pub variables-said : unmixed (numbers pool table) (opensIn ws 0 (length ws / 4)) ≡ true → (r : ℕ) (after : List ℕ)
          → Filled (sort (numbers pool table) (choose (kind_of p) (opensIn ws 0 (length ws / 4)))) r result after
          → record { answer = got r; result = after } ≡ variablesCall pool table ws p result
      unfolding listing resultAfter
      variables-said q r after f =
          let z = rw (typed-opens t k) at q in
          let s : sort (numbers pool table) (choose (kind_of p) (opensIn ws 0 (length ws / 4))) ≡ variables (numbers pool table) p t =
          ap (λ os. sort (numbers pool table) (choose (kind_of p) os)) (typed-opens t k) ∙ sym (names-sorted pool table p t) in
          rw (f.many, f.buffer, s) (sym (variables-call ∙ rw z))
