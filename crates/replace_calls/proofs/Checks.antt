-- The checks of two lists over a name table that was tested before: where one of them refuses, so does the call.
use Rattle.std.specs.Prelude.{Result, Ok, Err, IfOk, ◌≡◌, refl, Bool, true, false, ◌&&◌, List, [], ◌∷◌, ◌++◌, ℕ, leb, length}
use Rattle.std.proofs.Common.{sym, ap, ap₂, ◌∙◌}
use Rattle.rules.specs.Base.{Got, got, refused, ◌>>=◌, ◌>>◌, need, all, collect}
use Rattle.rules.specs.Calls.{shortLists, tableKept, bindingsGiven, apart, opensBinding}
use Rattle.rules.specs.Contents.{unmixed}
use Rattle.rules.specs.Names.{Table, table_of, numbersOf, tableGiven, lentTable}
use Rattle.rules.specs.Refusals.{number_of, toldBy}
use Rattle.rules.specs.Trees.{Open, Binding}
use Rattle.rules.specs.declared.Refusal.{Refusal}
use Rattle.names.specs.Told.{unit_of}
use Rattle.names.specs.declared.tables.NameTable.{NameTable}
use Rattle.types.specs.Given.{list_over}
use Rattle.types.proofs.Tested as over_table
use Rattle.types.proofs.Tested.{over, kept, past_table, as-refused, short, given}
use Rattle.replace_calls.specs.Entry.{both_over}

-- ══ The check of 8 ══

-- two lists are short where the second is, and then the first
second-first : (ws binds : List ℕ) → shortLists (ws ∷ binds ∷ []) ≡ (shortLists (binds ∷ []) >> shortLists (ws ∷ []))
unfolding shortLists all
second-first ws binds = go (leb (length ws) 8192) (leb (length binds) 8192)
  where
    go : (a b : Bool) → need (a && (b && true)) 8 ≡ (need (b && true) 8 >> need (a && true) 8)
    go true true = refl
    go true false = refl
    go false true = refl
    go false false = refl

-- ══ The calls ══

-- what refuses before the table is asked, or over it, refuses whatever comes behind
unmet : {A B : Type 0} (s k : Got (Unit {0})) (m : Got A) (g : A → Got B) (n : ℕ) → k ≡ got tt → refused n ≡ (s >> m) → (s >> (k >> (m >>= g))) ≡ refused n
unmet s k m g n h e = past_table s k m g h ∙ ap (λ x. x >>= g) (sym e)

-- a list and bindings, no name of both a variable and a parameter; what is made of them
module _ {A B : Type 0} (first : Table → List ℕ → Got A) (os : A → List (Open ℕ)) (make : Table → A → List (Binding ℕ) → Got B) where
  abbrev past : Table → Got (Unit {0}) → List ℕ → List ℕ → Got B
  past t k ws binds = shortLists (ws ∷ binds ∷ []) >> (k >> (first t ws >>= λ a. bindingsGiven t binds
      >>= λ bs. apart t (os a ++ collect opensBinding bs) >> make t a bs))

  abbrev pub asked : Table → List ℕ → List ℕ → Got B
  asked t ws binds = past t (tableKept t) ws binds

  module _ (ws binds : List ℕ) where
    pub second-too-long : (names : Result NameTable Refusal) (k : ℕ) → refused k ≡ shortLists (binds ∷ []) → both_over names asked ws binds ≡ refused k
    second-too-long (Ok n) k h = rw (second-first ws binds, ← h)
    second-too-long (Err why) k h = rw (second-first ws binds, ← h)

    pub first-stops : (names : Result NameTable Refusal) → got tt ≡ shortLists (binds ∷ []) → (k : ℕ) → refused k ≡ list_over first names ws
        → both_over names asked ws binds ≡ refused k
    first-stops (Ok n) h k e = rw (second-first ws binds, ← h) (unmet (shortLists (ws ∷ [])) (tableKept (over n)) (first (over n) ws) _ k (kept n) e)
    first-stops (Err why) h k e = rw (second-first ws binds, ← h) (as-refused (shortLists (ws ∷ [])) k (number_of why) e)

    module _ (names : Result NameTable Refusal) (n : NameTable) (i : names ≡ Ok n) (a : A) (e : got a ≡ list_over first names ws) where
      its : first (over n) ws ≡ got a
      its = (given ws first names n i a e).1

      both-short : got tt ≡ shortLists (binds ∷ []) → shortLists (ws ∷ binds ∷ []) ≡ got tt
      both-short l = rw (second-first ws binds, ← l) (short ws (given ws first names n i a e).0)

      pub second-stops : got tt ≡ shortLists (binds ∷ []) → (k : ℕ) → refused k ≡ list_over bindingsGiven names binds
          → both_over names asked ws binds ≡ refused k
      second-stops l k q =
          let f : bindingsGiven (over n) binds ≡ refused k = sym (rw (i, ← l) at q) in
          rw (i, both-short l, kept n, its, f)

      -- the answer of the check of 4, with what comes behind it
      module _ (bs : List (Binding ℕ)) (g : got bs ≡ list_over bindingsGiven names binds) where
        its-bindings : bindingsGiven (over n) binds ≡ got bs
        its-bindings = (given binds bindingsGiven names n i bs g).1

        module _ (opened binds-opened : List (Open ℕ)) (o : opened ≡ os a) (p : binds-opened ≡ collect opensBinding bs) where
          pub asked-apart : (r : Got (Unit {0})) → r ≡ need (unmixed (numbersOf (over n)) (opened ++ binds-opened)) 4
              → both_over names asked ws binds ≡ (r >> make (over n) a bs)
          unfolding apart
          asked-apart r h =
              let k : r ≡ apart (over n) (os a ++ collect opensBinding bs) =
              h ∙ ap₂ (λ (x y : List (Open ℕ)). need (unmixed (numbersOf (over n)) (x ++ y)) 4) o p in
              rw (i, both-short (sym (short binds (given binds bindingsGiven names n i bs g).0)), kept n, its, its-bindings, k)

  -- over the table that was tested it is what the call asks
  module _ (pool table : List ℕ) (l : lentTable pool table ≡ got tt) (ws binds : List ℕ) where
    pub tested : (names : Result NameTable Refusal) → toldBy unit_of names ≡ tableGiven pool table
        → IfOk names (λ n. (n.pool.now ≡ pool) × (n.table.now ≡ table)) → both_over names asked ws binds ≡ asked (table_of pool table) ws binds
    tested = over_table.tested (λ t k. past t k ws binds) pool table l (λ names. both_over names asked ws binds) (λ n. refl) (λ why. refl)
