-- A set over a table, whose names are apart: the checks past that of 10 of a call that takes one set, and what is known where they are met.
use Rattle.std.specs.Prelude.{Result, Ok, Err, IfOk, ◌≡◌, Bool, List, [], ◌∷◌, ℕ, ◌/◌, length}
use Rattle.std.proofs.Common.{refl, sym, ap, ◌∙◌, le-leb}
use Rattle.rules.specs.Base.{Got, got, refused, ◌>>=◌, ◌>>◌, need, all, collect}
use Rattle.rules.specs.Calls.{shortLists, tableKept, setGiven, apart}
use Rattle.rules.specs.Contents.{unmixed}
use Rattle.rules.specs.Names.{Table, table_of, tableGiven, lentTable}
use Rattle.rules.specs.Refusals.{number_of, toldBy}
use Rattle.rules.specs.Trees.{Con, opensCon}
use Rattle.rules.specs.declared.Refusal.{Refusal}
use Rattle.laws.proofs.Lists.{clash, bracket, same_after}
use Rattle.laws.proofs.NameTable.{good-laid}
use Rattle.names.specs.Told.{unit_of}
use Rattle.names.specs.declared.tables.NameTable.{NameTable}
use Rattle.records.specs.Found.{Words32}
use Rattle.records.specs.Good.{numbers}
use Rattle.records.proofs.Whole.{set_is}
use Rattle.queries.specs.Marks.{Small}
use Rattle.queries.proofs.Runs.{set-small, set-opens}
use Rattle.queries.specs.Scans.{opensIn}
use Rattle.types.proofs.GivenSets.{Given, given-in}
use Rattle.types.proofs.Tested.{kept, as-refused, past_table, tested}
use Rattle.types.specs.Given.{call_over, constraints_in, entered}
use Rattle.types.specs.declared.GivenSet.{GivenSet}

-- ══ A row of checks ══

module _ {A B : Type 0} (u : A → Got (Unit {0})) (g : A → Got B) where
  -- the checks as the rules have them, and then the answer
  abbrev whole : Got (Unit {0}) → Got (Unit {0}) → Got A → Got B
  whole s k m = s >>= λ _. k >>= λ _. m >>= λ a. u a >>= λ _. g a

  -- past a table that is kept they come to what entering comes to, and then the answer
  at_once : (s k : Got (Unit {0})) (m : Got A) → k ≡ got tt → whole s k m ≡ ((s >> (m >>= λ x. u x >> got x)) >>= g)
  at_once s k m h =
      let inner : ((m >>= λ x. u x >> got x) >>= g) ≡ (m >>= λ a. u a >> g a) = bracket m (λ x. u x >> got x) g
      ∙ same_after m (λ x. (u x >> got x) >>= g) (λ a. u a >> g a) (λ a. bracket (u a) (λ _. got a) g) in
      ap (λ (r : Got B). s >> (k >> r)) (sym inner) ∙ past_table s k (m >>= λ x. u x >> got x) g h

-- what is made of a set whose names are apart
module _ {A : Type 0} (g : Table → List (Con ℕ) → Got A) where
  abbrev made_past : Table → Got (Unit {0}) → List ℕ → Got A
  made_past t k ws = shortLists (ws ∷ []) >>= λ _. k >>= λ _. setGiven t ws >>= λ cs. apart t (collect opensCon cs) >>= λ _. g t cs

  abbrev pub made : Table → List ℕ → Got A
  made t ws = made_past t (tableKept t) ws

  module _ (ws : List ℕ) where
    pub came-in : (names : Result NameTable Refusal) (s : GivenSet) → names ≡ Ok s.names → got (constraints_in s) ≡ entered names ws
        → call_over names made ws ≡ g (table_of s.names.pool.now s.names.table.now) (constraints_in s)
    came-in names s i e =
        let t = table_of s.names.pool.now s.names.table.now in
        rw i
        (at_once (λ cs. apart t (collect opensCon cs)) (g t) (shortLists (ws ∷ [])) (tableKept t) (setGiven t ws) (kept s.names)
        ∙ ap (◌>>= g t) (sym (rw i at e)))

    pub kept_out : (names : Result NameTable Refusal) (n : ℕ) → refused n ≡ entered names ws → call_over names made ws ≡ refused n
    kept_out (Err why) n e = as-refused (shortLists (ws ∷ [])) n (number_of why) e
    kept_out (Ok names) n e =
        let t = table_of names.pool.now names.table.now in
        at_once (λ cs. apart t (collect opensCon cs)) (g t) (shortLists (ws ∷ [])) (tableKept t) (setGiven t ws) (kept names) ∙ ap (◌>>= g t) (sym e)

  -- over the table that was tested it is what the call asks
  pub over_tested : (pool table : List ℕ) → lentTable pool table ≡ got tt → (names : Result NameTable Refusal) → toldBy unit_of names ≡ tableGiven pool table
      → IfOk names (λ n. (n.pool.now ≡ pool) × (n.table.now ≡ table)) → ◌≡◌ {A = List ℕ → Got A} (call_over names made) (made (table_of pool table))
  over_tested pool table l = tested made_past pool table l (λ names. call_over names made) (λ n. refl) (λ why. refl)

-- ══ What is known of a set that came in ══

through : {A : Type 0} (l : Got (Unit {0})) (m : Got A) (u : A → Got (Unit {0})) (a : A) → got a ≡ (l >> (m >>= λ x. u x >> got x)) → got a ≡ (l >> m)
through (refused i) m u a e = e
through (got x) (refused i) u a e = e
through (got x) (got z) u a e = go (u z) refl
  where
    go : (v : Got (Unit {0})) → u z ≡ v → got a ≡ got z
    go (refused i) q = clash (let n : refused i ≡ got a = sym (rw q at e) in n)
    go (got w) q = rw q at e

pub entered-given : (ws : List ℕ) (names : Result NameTable Refusal) (s : GivenSet) → names ≡ Ok s.names → got (constraints_in s) ≡ entered names ws
    → Given ws s
entered-given ws names s i e =
    let t = table_of s.names.pool.now s.names.table.now in
    given-in (Ok s.names) ws s refl (through (shortLists (ws ∷ [])) (setGiven t ws) (λ cs. apart t (collect opensCon cs)) (constraints_in s) (rw i at e))

module _ (ws : List ℕ) (w : Words32 ws) (s : GivenSet) (x : Given ws s) where
  -- what the check of 4 asks
  pub entry-small : Small (opensIn ws 0 (length ws / 4))
  entry-small =
      let n = s.names in
      set-small n.pool.now n.table.now 0 ws (constraints_in s) 0 (length ws / 4) (set_is n.pool.now n.table.now ws w (constraints_in s) x.is)
      (good-laid n.good).few

  pub entry-opens : opensIn ws 0 (length ws / 4) ≡ collect opensCon (constraints_in s)
  entry-opens =
      let n = s.names in
      set-opens n.pool.now n.table.now 0 ws (constraints_in s) 0 (length ws / 4) (set_is n.pool.now n.table.now ws w (constraints_in s) x.is)

  -- what it says of the set
  pub let-in : (names : Result NameTable Refusal) (b : Bool) → names ≡ Ok s.names
      → b ≡ unmixed (numbers s.names.pool.now s.names.table.now) (opensIn ws 0 (length ws / 4)) → (need b 4 >> got (constraints_in s)) ≡ entered names ws
  unfolding shortLists all apart
  let-in names b i e = rw (e, entry-opens, i, le-leb (length ws) 8192 x.short, x.is) refl
