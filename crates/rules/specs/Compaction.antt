-- Compaction: room back in the name table. Names that occur in no set are dropped, the others move up and the sets are renumbered.
use Rattle.std.specs.Prelude.{
  ◌≡◌,
  Bool,
  true,
  false,
  ◌&&◌,
  ◌||◌,
  List,
  [],
  ◌∷◌,
  ◌++◌,
  ℕ,
  zero,
  suc,
  ◌+◌,
  ◌*◌,
  ◌-◌,
  eqb,
  leb,
  ltb,
  length,
  get_or,
  replicate,
}
use Rattle.rules.specs.Base.{Got, got, refused, ◌>>◌, need, any, all, collect, oneIf, sum_of}
use Rattle.rules.specs.Batches.{cutSets}
use Rattle.rules.specs.Calls.{over, tableKept, setGiven}
use Rattle.rules.specs.Names.{Bytes, Table, table_of, held, names_of, used, sameBytes, lentTable}
use Rattle.rules.specs.Offices.{namesOne, ReadAlike}
use Rattle.rules.specs.Writing.{kindIn}

-- ══ What occurs, and its new number ══

-- 'a name occurs if any record of a set names it': in word a, where the record is of a kind that has a name there
unfoldable pub occurs : List ℕ → ℕ → Bool
occurs [] i = false
occurs (w ∷ []) i = false
occurs (w ∷ a ∷ []) i = false
occurs (w ∷ a ∷ b ∷ []) i = false
occurs (w ∷ a ∷ b ∷ c ∷ ws) i = (namesOne (kindIn w) b && eqb a i) || occurs ws i

-- 'keeps exactly the names that occur in them': the held numbers that do
unfoldable pub keeps : ℕ → List ℕ → ℕ → Bool
keeps count ws i = ltb i count && occurs ws i

-- a name's new number: how many of the names before it are kept
unfoldable pub newNumber : (ℕ → Bool) → ℕ → ℕ
newNumber p zero = 0
newNumber p (suc i) = newNumber p i + oneIf (p i)

abbrev pub renumberIf : Bool → (ℕ → Bool) → ℕ → ℕ
renumberIf true p a = newNumber p a
renumberIf false p a = a

-- 'renumbers the sets': word a of each record that names one; nothing else changes
unfoldable pub renumbered : (ℕ → Bool) → List ℕ → List ℕ
renumbered p [] = []
renumbered p (w ∷ []) = w ∷ []
renumbered p (w ∷ a ∷ []) = w ∷ a ∷ []
renumbered p (w ∷ a ∷ b ∷ []) = w ∷ a ∷ b ∷ []
renumbered p (w ∷ a ∷ b ∷ c ∷ ws) = w ∷ renumberIf (namesOne (kindIn w) b) p a ∷ b ∷ c ∷ renumbered p ws

-- ══ Pool and table ══

abbrev pub consIf : {A : Type 0} → Bool → A → List A → List A
consIf true a as' = a ∷ as'
consIf false a as' = as'

-- the names that are kept, 'in the old order', of names numbered from i on
unfoldable pub keptFrom : (ℕ → Bool) → ℕ → List Bytes → List Bytes
keptFrom p i [] = []
keptFrom p i (n ∷ ns) = consIf (p i) n (keptFrom p (suc i) ns)

-- names behind one another, and where each of them ends
unfoldable pub joined : List Bytes → List ℕ
unfolding collect
joined ns = collect (λ n. n) ns

unfoldable pub endsFrom : ℕ → List Bytes → List ℕ
endsFrom at [] = []
endsFrom at (n ∷ ns) = (at + length n) ∷ endsFrom (at + length n) ns

-- 'closes the gaps in the pool'; 'freed pool bytes and ends become 0': up to the old last end, and the old count
unfoldable pub poolOf : List Bytes → ℕ → List ℕ → List ℕ
poolOf ns end pool = over (joined ns ++ replicate (end - length (joined ns)) 0) pool

unfoldable pub endsOver : List Bytes → ℕ → List ℕ → List ℕ
endsOver ns count table = over (length ns ∷ (endsFrom 0 ns ++ replicate (count - length ns) 0)) table

-- ══ The call ══

-- how many names are kept, or the refusal; and all that is changed in place
pub record Compacted : Type 0 where
  pub answer : Got ℕ
  pub pool : List ℕ
  pub table : List ℕ
  pub sets : List ℕ

-- 'any malformed set' is 1
unfoldable pub eachGiven : Table → List (List ℕ) → Got (Unit {0})
eachGiven t [] = got tt
eachGiven t (ws ∷ wss) = setGiven t ws >> eachGiven t wss

-- 10; 'more than 64 sets or a set over 2,048 records is 8, then any malformed set or table is 1', and so are lengths that don't add up
unfoldable pub compactChecks : List ℕ → List ℕ → List ℕ → List ℕ → Got (Unit {0})
compactChecks pool table sets lengths = do
  lentTable pool table
  need (leb (length lengths) 64 && all (λ n. leb n 2048) lengths) 8
  tableKept (table_of pool table)
  need (eqb (sum_of (λ n. n) lengths * 4) (length sets)) 1
  eachGiven (table_of pool table) (cutSets lengths sets)

-- what is left of a table of which the names p are kept
unfoldable pub squeezed : (ℕ → Bool) → List ℕ → List ℕ → List ℕ → Compacted
squeezed p pool table sets = record {
  answer = got (length kept);
  pool = poolOf kept (used 0 (held t)) pool;
  table = endsOver kept t.count table;
  sets = renumbered p sets;
}
  where
    t : Table
    t = table_of pool table

    kept : List Bytes
    kept = keptFrom p 0 (names_of t)

-- 'a refusal changes nothing'
unfoldable pub compactIf : Got (Unit {0}) → List ℕ → List ℕ → List ℕ → Compacted
compactIf (got u) pool table sets = squeezed (keeps (table_of pool table).count sets) pool table sets
compactIf (refused n) pool table sets = record { answer = refused n; pool = pool; table = table; sets = sets }

unfoldable pub compactCall : List ℕ → List ℕ → List ℕ → List ℕ → Compacted
compactCall pool table sets lengths = compactIf (compactChecks pool table sets lengths) pool table sets

-- ══ Two offices ══

-- is it the name of a number of the table
unfoldable pub namesIt : Table → Bytes → Bool
namesIt t n = any (sameBytes n) (names_of t)

-- two calls, each over its own table
module _ (pool table sets lengths pool' table' sets' lengths' : List ℕ) where
  abbrev pub after : Compacted
  after = compactCall pool table sets lengths

  abbrev pub after' : Compacted
  after' = compactCall pool' table' sets' lengths'

  pub record CompactedAlike : Type 0 where
    -- a set that read alike in both still does, each over what is left of its table, whatever sets the other office put into either call,
    -- and also where one is refused
    pub each : (k k' : ℕ) → ReadAlike (table_of pool table) (table_of pool' table') (get_or (cutSets lengths sets) k []) (get_or (cutSets lengths' sets') k' [])
        → ReadAlike (table_of after.pool after.table) (table_of after'.pool after'.table) (get_or (cutSets lengths after.sets) k [])
        (get_or (cutSets lengths' after'.sets) k' [])
    -- where all sets read alike, the answers are the same,
    pub answer : lengths ≡ lengths' → ReadAlike (table_of pool table) (table_of pool' table') sets sets' → after.answer ≡ after'.answer
    -- and the same names are kept; their order is that of each table, so it may differ, as their numbers may
    pub names : lengths ≡ lengths' → ReadAlike (table_of pool table) (table_of pool' table') sets sets' → (n : ℕ) → after.answer ≡ got n
        → (m : Bytes) → namesIt (table_of after.pool after.table) m ≡ namesIt (table_of after'.pool after'.table) m
