-- What entering a name promises. A name without room is refused, never replaced by another.
-- `nameAsked pool table i ≡ got n` reads: the number i has the name n. `enter pool table name` is the answer, and what pool and table hold
-- afterwards; the contract of the code is an equation with it. The answer is a number with new or known, or a refusal. Each promise is proved in
-- Kept, for every pool, table and name.
use Rattle.std.specs.Prelude.{◌≡◌, ◌⊎◌, List, [], ℕ, ◌-◌, ◌≤◌, ◌<◌, length, take, drop, get_or}
use Prim.Native.Nat.{Ordering}
use Rattle.rules.specs.Base.{got, refused}
use Rattle.rules.specs.Names.{Bytes, table_of, held, used, names_of, numbersOf, tableGiven, nameAsked, partAsked, unchanged, enterChecks, enter}
use Rattle.rules.specs.declared.Was.{Was}
use Rattle.rules.specs.declared.Was.TheVariants.{New, Known}

module _ (pool table : List ℕ) (name : Bytes) where
  -- no number has this name
  abbrev pub Unheld : Type 0
  Unheld = (j : ℕ) → nameAsked pool table j ≡ got name → ⊥

  -- no number is left, or fewer free bytes than the name has
  abbrev pub NoRoom : Type 0
  NoRoom = (256 ≤ (table_of pool table).count) ⊎ (8192 - used 0 (held (table_of pool table)) < length name)

  pub record Promises : Type 0 where
    -- where the answer is a number, pool and table pass every check afterwards,
    pub wellFormed : (i : ℕ) (w : Was) → (enter pool table name).answer ≡ got (i, w)
        → tableGiven (enter pool table name).pool (enter pool table name).table ≡ got tt
    -- that number has the entered name,
    pub named : (i : ℕ) (w : Was) → (enter pool table name).answer ≡ got (i, w)
        → nameAsked (enter pool table name).pool (enter pool table name).table i ≡ got name
    -- and no other
    pub noOther : (i : ℕ) (w : Was) (n : Bytes) → (enter pool table name).answer ≡ got (i, w)
        → nameAsked (enter pool table name).pool (enter pool table name).table i ≡ got n → n ≡ name
    -- every number keeps the name that it had
    pub kept : (j : ℕ) (n : Bytes) → nameAsked pool table j ≡ got n → nameAsked (enter pool table name).pool (enter pool table name).table j ≡ got n
    -- a name that is held gets its number again and is said to be known, also when the table is full, and nothing changes
    pub again : (i : ℕ) → nameAsked pool table i ≡ got name → enter pool table name ≡ unchanged pool table (got (i, Known))
    -- 'known' means just this
    pub knownOnly : (i : ℕ) → (enter pool table name).answer ≡ got (i, Known) → nameAsked pool table i ≡ got name
    -- 'new' is said of a name that no number had, which gets the next number,
    pub newOnly : (i : ℕ) → (enter pool table name).answer ≡ got (i, New) → Unheld × (i ≡ (table_of pool table).count)
    -- and of every such name that gets one
    pub newAlways : (i : ℕ) (w : Was) → (enter pool table name).answer ≡ got (i, w) → Unheld → w ≡ New
    -- once it is entered, entering it again says known with the same number, and nothing changes
    pub twice : (i : ℕ) (w : Was) → (enter pool table name).answer ≡ got (i, w)
        → enter (enter pool table name).pool (enter pool table name).table name
        ≡ unchanged (enter pool table name).pool (enter pool table name).table (got (i, Known))
    -- a new name without room is refused with 3,
    pub withoutRoom : enterChecks pool table name ≡ got tt → Unheld → NoRoom → enter pool table name ≡ unchanged pool table (refused 3)
    -- and a 3 means just this
    pub only : (enter pool table name).answer ≡ refused 3 → Unheld × NoRoom
    -- a refusal changes nothing
    pub refusal : (k : ℕ) → (enter pool table name).answer ≡ refused k → enter pool table name ≡ unchanged pool table (refused k)
    -- what lies behind the first 8,192 bytes and the first 257 words stays as it was
    pub behindPool : drop 8192 (enter pool table name).pool ≡ drop 8192 pool
    pub behindTable : drop 257 (enter pool table name).table ≡ drop 257 table

pub record NumberPromises (pool table : List ℕ) : Type 0 where
  -- two different numbers never have the same name
  pub noNameTwice : (i j : ℕ) (n : Bytes) → nameAsked pool table i ≡ got n → nameAsked pool table j ≡ got n → i ≡ j
  -- a name is never empty: the empty part is a refusal
  pub neverEmpty : (i : ℕ) → nameAsked pool table i ≡ got [] → ⊥
  -- a name's bytes are those of the pool from the start of its part on
  pub fromThePool : (i : ℕ) (n : Bytes) → nameAsked pool table i ≡ got n → n ≡ take (length n) (drop (partAsked pool table i).start pool)

-- two lendings that are long enough and begin alike get the same answers, whatever stands behind
pub record FrontDecides (pool table pool' table' : List ℕ) : Type 0 where
  pub entering : (name : Bytes) → (enter pool table name).answer ≡ (enter pool' table' name).answer
  pub asking : (i : ℕ) → nameAsked pool table i ≡ nameAsked pool' table' i

-- of two held numbers: the same number, the same name, equal in the order of bytes, all or none
pub record Alike (pool table : List ℕ) (i j : ℕ) : Type 0 where
  pub toNames : i ≡ j → get_or (names_of (table_of pool table)) i [] ≡ get_or (names_of (table_of pool table)) j []
  pub toOrder : get_or (names_of (table_of pool table)) i [] ≡ get_or (names_of (table_of pool table)) j []
      → (numbersOf (table_of pool table)).order i j ≡ Ordering.eq
  pub toNumbers : (numbersOf (table_of pool table)).order i j ≡ Ordering.eq → i ≡ j
