-- The tests of a list over a name table: where one of them refuses, so does the whole; where all are passed, what the list holds is there.
use Rattle.std.specs.Prelude.{Result, Ok, Err, IfOk, ◌≡◌, refl, Bool, true, ◌&&◌, List, [], ◌∷◌, ℕ, ◌%◌, ◌≤◌, ◌<◌, eqb, length}
use Rattle.std.proofs.Common.{sym, ap, ap₂, subst, ◌∙◌, le-leb}
use Rattle.std.proofs.lemmas.Bool.{lt-leb}
use borrow.Author.Tests.{eqb-true}
use Rattle.rules.specs.Base.{Got, got, refused, ◌>>=◌, ◌>>◌, need, all}
use Rattle.rules.specs.Calls.{shortLists, tableKept}
use Rattle.rules.specs.Names.{Table, table_of, tableGiven, lentTable}
use Rattle.rules.specs.Refusals.{number_of, told, toldBy}
use Rattle.rules.specs.declared.Refusal.{Refusal}
use Rattle.laws.proofs.Checks.{need-passed, first-passed, next-passed, list-short}
use Rattle.laws.specs.Lists.{and_left, and_right}
use Rattle.laws.proofs.Lists.{clash, refused-before}
use Rattle.names.specs.Told.{unit_of}
use Rattle.names.specs.declared.tables.NameTable.{NameTable}
use Rattle.types.specs.Given.{list_over, short_over}

abbrev pub over : NameTable → Table
over n = table_of n.pool.now n.table.now

-- two lists over one table
pub same_table : {names : Result NameTable Refusal} {n m : NameTable} → names ≡ Ok n → names ≡ Ok m → n ≡ m
same_table i j = cc

-- a table that was tested is kept
pub kept : (n : NameTable) → tableKept (over n) ≡ got tt
unfolding tableKept
kept n = rw n.good.good

-- a check, and then a refusal, whatever would have come
pub as-refused : {A B : Type 0} (l : Got (Unit {0})) (n k : ℕ) → ◌≡◌ {A = Got A} (refused n) (l >> refused k) → ◌≡◌ {A = Got B} (l >> refused k) (refused n)
as-refused (refused i) n k e = cc
as-refused (got x) n k e = cc

-- past a table that is kept, what comes before it and what is read over it come at once
pub past_table : {A B : Type 0} (before table : Got (Unit {0})) (m : Got A) (g : A → Got B) → table ≡ got tt
    → (before >> (table >> (m >>= g))) ≡ ((before >> m) >>= g)
past_table (refused i) table m g e = refl
past_table (got u) (got v) m g e = refl
past_table (got u) (refused i) m g e = clash e

-- A call over the table that was tested is the call, which asks for the table where `past` has it. Of `over_names` is known what it is over a table that is
-- there, and where the table was refused.
module _ {B : Type 0} (past : Table → Got (Unit {0}) → B) (pool table : List ℕ) (lent : lentTable pool table ≡ got tt)
    (over_names : Result NameTable Refusal → B)
    (there : (n : NameTable) → over_names (Ok n) ≡ past (over n) (tableKept (over n)))
    (missing : (why : Refusal) → over_names (Err why) ≡ past (table_of pool table) (refused (number_of why))) where
  unkept : (k : ℕ) (kept_as : Got (Unit {0})) → refused k ≡ (lentTable pool table >> kept_as) → refused k ≡ kept_as
  unkept k kept_as e = rw lent at e

  pub tested : (names : Result NameTable Refusal) → toldBy unit_of names ≡ tableGiven pool table
      → IfOk names (λ n. (n.pool.now ≡ pool) × (n.table.now ≡ table)) → over_names names ≡ past (table_of pool table) (tableKept (table_of pool table))
  unfolding tableGiven tableKept
  tested (Ok n) e i = there n ∙ ap₂ (λ (p t : List ℕ). past (table_of p t) (tableKept (table_of p t))) i.0 i.1
  tested (Err why) e i = missing why ∙ ap (past (table_of pool table)) (unkept (number_of why) (tableKept (table_of pool table)) e)

module _ (ws : List ℕ) where
  pub short : length ws ≤ 8192 → shortLists (ws ∷ []) ≡ got tt
  unfolding shortLists all
  short h = rw (le-leb (length ws) 8192 h)

  pub too_long : 8192 < length ws → refused 8 ≡ shortLists (ws ∷ [])
  unfolding shortLists all
  too_long h = sym (rw (lt-leb (length ws) 8192 h))

  short-enough : {A : Type 0} (a : A) (m : Got A) → got a ≡ (shortLists (ws ∷ []) >> m) → (length ws ≤ 8192) × (m ≡ got a)
  short-enough a m e =
      let s = sym e in (list-short ws (first-passed m a (shortLists (ws ∷ [])) s), next-passed m a (shortLists (ws ∷ [])) s)

  -- a list of whole records that passed
  pub whole : (b : Bool) → got tt ≡ need (eqb (length ws % 4) 0 && b) 1 → (length ws % 4 ≡ 0) × (b ≡ true)
  whole b e =
      let p = need-passed (eqb (length ws % 4) 0 && b) 1 (sym e) in
      (eqb-true (length ws % 4) 0 (and_left (eqb (length ws % 4) 0) b p), and_right (eqb (length ws % 4) 0) b p)

  module _ {A : Type 0} (f : Table → List ℕ → Got A) (names : Result NameTable Refusal) where
    -- the table is there
    module _ (n : NameTable) (e : got n ≡ short_over names ws) where
      pub table-is : (length ws ≤ 8192) × (names ≡ Ok n)
      table-is = let s = short-enough n (told names) e in (s.0, go names s.1)
        where
          go : (r : Result NameTable Refusal) → told r ≡ got n → r ≡ Ok n
          go (Ok m) q = cc
          go (Err why) q = clash q

      pub comes-to : {m : Got A} → f (over n) ws ≡ m → m ≡ list_over f names ws
      comes-to h = sym (rw (table-is.1, short table-is.0, h))

      pub not-passed : (b : Bool) → (f (over n) ws >> got (tt {0})) ≡ need (eqb (length ws % 4) 0 && b) 1 → {k : ℕ}
          → refused k ≡ need (eqb (length ws % 4) 0 && b) 1 → refused k ≡ list_over f names ws
      not-passed b h {k} q = comes-to (refused-before (f (over n) ws) (λ x. tt) k (sym (h ∙ sym q)))

    -- a list that was given
    pub given : (n : NameTable) → names ≡ Ok n → (a : A) → got a ≡ list_over f names ws → (length ws ≤ 8192) × (f (over n) ws ≡ got a)
    given n i a e = short-enough a (f (over n) ws) (rw i at e)

-- what a list holds, in one way, was read of it; and there is more that is known of it
module _ {A : Type 0} {In : A → Type 0} (one : IsProp ((a : A) × In a)) (m : Got A) (Known : A → Type 0) where
  pub record Held : Type 0 where
    pub its : (a : A) × In a
    pub given : m ≡ got its.0
    pub known : Known its.0

  -- whichever way it is told
  module _ (h : Held) (a : A) (i : In a) where
    pub is-given : m ≡ got a
    is-given = h.given ∙ ap (λ (k : (a : A) × In a). got k.0) (one h.its (a, i))

    pub is-known : Known a
    is-known = subst (λ (k : (a : A) × In a). Known k.0) (one h.its (a, i)) h.known
