-- The pool, the table, entering a name and asking for one. Entering says whether a name is new.
use Rattle.std.specs.Prelude.{Bool, true, false, not, ◌&&◌, List, [], ◌∷◌, ◌++◌, leb, ltb, length, take, drop, get_or, set}
use Rattle.std.proofs.Math.Option.{Option, none, some}
use Prim.Native.Nat.{ℕ, zero, suc, ◌+◌, ◌-◌, compare, Ordering}
use Rattle.std.proofs.Math.Decide.{ℕ_discrete}
use Rattle.rules.specs.Base.{is_yes, list-dec, any, Got, got, refused, ◌>>◌, need}
use Rattle.rules.specs.Trees.{Names}
use Rattle.rules.specs.declared.Was.{Was}
use Rattle.rules.specs.declared.Was.TheVariants.{New, Known}

abbrev pub Bytes : Type 0
Bytes = List ℕ

-- ══ The order of names: by bytes ══

abbrev pub then : Ordering → Ordering → Ordering
then Ordering.lt o = Ordering.lt
then Ordering.eq o = o
then Ordering.gt o = Ordering.gt

-- the first byte that differs decides; a name comes before a longer one that begins with it
unfoldable pub orderBytes : Bytes → Bytes → Ordering
orderBytes [] [] = Ordering.eq
orderBytes [] (y ∷ ys) = Ordering.lt
orderBytes (x ∷ xs) [] = Ordering.gt
orderBytes (x ∷ xs) (y ∷ ys) = then (compare x y) (orderBytes xs ys)

-- numbers of the names of a list: told apart by number, ordered by bytes
unfoldable pub numbered : List Bytes → Names ℕ
unfolding ℕ_discrete
numbered names = record { same = ℕ_discrete; order = λ i j. orderBytes (get_or names i []) (get_or names j []) }

-- ══ The table ══

-- a count, the ends of names in the pool, and the pool
pub record Table : Type 0 where
  pub count : ℕ
  pub ends : List ℕ
  pub pool : List ℕ

-- 'the pool is the first 8,192 lent bytes; the table is a count and 256 ends of names'
unfoldable pub table_of : List ℕ → List ℕ → Table
table_of pool table = record { count = get_or table 0 0; ends = take 256 (drop 1 table); pool = take 8192 pool }

-- the ends that count: what lies past the count is not looked at
abbrev pub held : Table → List ℕ
held t = take t.count t.ends

-- the names between one end and the next, from the place `at` on
unfoldable pub cut : ℕ → List ℕ → List ℕ → List Bytes
cut at [] pool = []
cut at (e ∷ es) pool = take (e - at) (drop at pool) ∷ cut e es pool

-- 'a name gets the next number from 0': the names in the order of their numbers
unfoldable pub names_of : Table → List Bytes
names_of t = cut 0 (held t) t.pool

-- the numbers of the names held: 0 up to the count
abbrev pub is_held : Table → ℕ → Bool
is_held t i = ltb i t.count

abbrev pub numbersOf : Table → Names ℕ
numbersOf t = numbered (names_of t)

-- the first free pool byte: the last end
unfoldable pub used : ℕ → List ℕ → ℕ
used at [] = at
used at (e ∷ es) = used e es

-- ends that rise within the pool, each 1 to 48 bytes after the one before
unfoldable pub lengthsGood : ℕ → List ℕ → Bool
lengthsGood at [] = leb at 8192
lengthsGood at (e ∷ es) = ltb at e && leb e (at + 48) && lengthsGood e es

unfoldable pub sameBytes : Bytes → Bytes → Bool
unfolding ℕ_discrete list-dec
sameBytes n m = is_yes (list-dec ℕ_discrete n m)

unfoldable pub distinct : List Bytes → Bool
distinct [] = true
distinct (n ∷ ns) = not (any (sameBytes n) ns) && distinct ns

-- 'a table is well formed when at most 256 ends rise within the pool, lengths are 1 to 48, names are distinct'
unfoldable pub tableGood : Table → Bool
tableGood t = leb t.count 256 && lengthsGood 0 (held t) && distinct (names_of t)

-- ══ Entering and asking ══

-- the number of a name among these, the first of which has the number i
unfoldable pub number_of : ℕ → Bytes → List Bytes → Option ℕ
number_of i n [] = none
number_of i n (m ∷ ms) = elim (sameBytes n m) [ true ↦ some i | false ↦ number_of (suc i) n ms ]

-- what entering answers, and what pool and table hold afterwards: 'the answer carries the number and new or known'
pub record Entered : Type 0 where
  pub answer : Got (ℕ × Was)
  pub pool : List ℕ
  pub table : List ℕ

-- refusal 10: a short pool or table
unfoldable pub lentTable : List ℕ → List ℕ → Got (Unit {0})
lentTable pool table = need (leb 8192 (length pool) && leb 257 (length table)) 10

-- 10, then 1: what every call asks of pool and table
unfoldable pub tableGiven : List ℕ → List ℕ → Got (Unit {0})
tableGiven pool table = lentTable pool table >> need (tableGood (table_of pool table)) 1

-- 'the order is 10 (short pool or table), 1, 2'
unfoldable pub enterChecks : List ℕ → List ℕ → Bytes → Got (Unit {0})
enterChecks pool table name = do
  tableGiven pool table
  need (leb 1 (length name) && leb (length name) 48) 2

-- 'entering an unknown name when 256 names are held or fewer free pool bytes than its length'
unfoldable pub hasRoom : Table → Bytes → Bool
hasRoom t name = ltb t.count 256 && leb (used 0 (held t) + length name) 8192

-- 'a refusal changes nothing'
abbrev pub unchanged : List ℕ → List ℕ → Got (ℕ × Was) → Entered
unchanged pool table a = record { answer = a; pool = pool; table = table }

-- 'a new name is copied in at the first free pool byte', and gets the next number
unfoldable pub enterNew : List ℕ → List ℕ → Bytes → Entered
enterNew pool table name = record {
  answer = got (count, New);
  pool = take free pool ++ name ++ drop (free + length name) pool;
  table = set (set table 0 (suc count)) (suc count) (free + length name);
}
  where
    count : ℕ
    count = (table_of pool table).count

    free : ℕ
    free = used 0 (held (table_of pool table))

-- 'equal bytes get the same number, also when the table is full', and it 'says known' there too; else 3, or the name is new
unfoldable pub enterKnown : Option ℕ → Bool → List ℕ → List ℕ → Bytes → Entered
enterKnown (some i) room pool table name = unchanged pool table (got (i, Known))
enterKnown none false pool table name = unchanged pool table (refused 3)
enterKnown none true pool table name = enterNew pool table name

unfoldable pub enterChecked : Got (Unit {0}) → List ℕ → List ℕ → Bytes → Entered
enterChecked (refused n) pool table name = unchanged pool table (refused n)
enterChecked (got u) pool table name = enterKnown (number_of 0 name (names_of (table_of pool table))) (hasRoom (table_of pool table) name) pool table name

-- entering a name
unfoldable pub enter : List ℕ → List ℕ → Bytes → Entered
enter pool table name = enterChecked (enterChecks pool table name) pool table name

-- asking for a number's name: 10, 1, and 3 for a number not held
unfoldable pub nameAsked : List ℕ → List ℕ → ℕ → Got Bytes
nameAsked pool table i = do
  tableGiven pool table
  need (is_held (table_of pool table) i) 3
  got (get_or (names_of (table_of pool table)) i [])

-- 'refusals give the empty part'
abbrev pub part_of : Got Bytes → Bytes
part_of (got name) = name
part_of (refused n) = []

-- where a name starts in the pool: at the end of the one before it
unfoldable pub start_in : Table → ℕ → ℕ
start_in t zero = 0
start_in t (suc i) = get_or (held t) i 0

-- a part of the pool: where it starts, and its bytes
pub record PoolPart : Type 0 where
  pub start : ℕ
  pub bytes : Bytes

-- 'asking for a number's name gives back that part of the pool itself. Refusals give the empty part'
unfoldable pub partFrom : ℕ → Got Bytes → PoolPart
partFrom start (got name) = record { start = start; bytes = name }
partFrom start (refused n) = record { start = 0; bytes = [] }

unfoldable pub partAsked : List ℕ → List ℕ → ℕ → PoolPart
partAsked pool table i = partFrom (start_in (table_of pool table) i) (nameAsked pool table i)
