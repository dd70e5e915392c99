-- Every public call on lists as one function, from all that is lent to the whole outcome: the answer or
-- the refusal, and what each lent buffer holds afterwards. Names, exponents and products have their calls in Names and Values.
use Rattle.std.specs.Prelude.{Bool, true, not, ◌&&◌, List, [], ◌∷◌, ◌++◌, map, ℕ, ◌*◌, eqb, leb, length, take, drop, replicate}
use Rattle.std.proofs.Math.Option.{some}
use Rattle.rules.specs.Base.{Got, got, refused, ◌>>=◌, ◌>>◌, need, orRefuse, bounded, sized, and_then, any, all, each, collect, sum_of}
use Rattle.rules.specs.Trees.{Open, var, Ty, Con, Binding, ◌≔◌, opens, opensCon, size, depth, sizeCon, sizeBinding}
use Rattle.rules.specs.Names.{Table, table_of, tableGood, numbersOf, is_held, lentTable}
use Rattle.rules.specs.Contents.{closed, containsName, variables, unmixed}
use Rattle.rules.specs.Writing.{Rec, words, word_of, writeTy, writeCon, writeBinding, writeBound, writeScheme}
use Rattle.rules.specs.Reading.{Reader, records, read_all, readTy, readCon, readBinding, readBound, schemeOf}
use Rattle.rules.specs.WellFormed.{goodTy, goodCon, goodOpen, goodBinding, rising}
use Rattle.rules.specs.Replacing.{replaceTy, replaceCon, bindings}
use Rattle.rules.specs.Adding.{Added, satisfied, violated, unknown, add}
use Rattle.rules.specs.Rounds.{limited}
use Rattle.rules.specs.Solving.{Answer, accepted, remaining, stopped, solve}
use Rattle.rules.specs.Schemes.{Scheme, concrete, scheme, quantify, generalise, instantiate}
use Rattle.rules.specs.Judging.{judge}

-- ══ Checks at entry: 'order at entry: 10, 8, 1, 4, 9' ══

-- 10: 'a result buffer holds at least 2,048 records, a work buffer 4,096'; a record is four words
unfoldable pub lentResult : List ℕ → Got (Unit {0})
lentResult result = need (leb 8192 (length result)) 10

unfoldable pub lentWork : List ℕ → Got (Unit {0})
lentWork work = need (leb 16384 (length work)) 10

unfoldable pub lent : List ℕ → List ℕ → List ℕ → List ℕ → Got (Unit {0})
lent pool table result work = lentTable pool table >> lentResult result >> lentWork work

-- 8: lists of over 2,048 records, and over 2,048 handed numbers or entries
unfoldable pub shortLists : List (List ℕ) → Got (Unit {0})
shortLists lists = need (all (λ ws. leb (length ws) 8192) lists) 8

unfoldable pub shortNumbers : {A : Type 0} → List A → Got (Unit {0})
shortNumbers ns = need (leb (length ns) 2048) 8

-- exactly one
unfoldable pub only : {A : Type 0} → List A → Got A
only [] = refused 1
only (a ∷ []) = got a
only (a ∷ b ∷ as') = refused 1

-- words as records, all of them read by r and well formed
unfoldable pub listGiven : {A : Type 0} → Reader A → (A → Bool) → List ℕ → Got (List A)
listGiven r good ws = do
  rs ← orRefuse 1 (records ws)
  as' ← orRefuse 1 (read_all r (length rs) rs)
  need (all good as') 1
  got as'

-- 1: the table, and what the words of a list hold over it
module _ (t : Table) where
  unfoldable pub tableKept : Got (Unit {0})
  tableKept = need (tableGood t) 1

  unfoldable pub setGiven : List ℕ → Got (List (Con ℕ))
  setGiven ws = listGiven readCon (goodCon (numbersOf t) (is_held t) 0) ws

  unfoldable pub typeGiven : List ℕ → Got (Ty ℕ)
  typeGiven ws = listGiven (readTy 64) (goodTy (numbersOf t) (is_held t) 0) ws >>= only

  unfoldable pub bindingsGiven : List ℕ → Got (List (Binding ℕ))
  bindingsGiven ws = listGiven readBinding (goodBinding (numbersOf t) (is_held t) 0) ws

  -- bounds outside a scheme carry names only
  unfoldable pub boundsGiven : List ℕ → Got (List (Open ℕ))
  boundsGiven ws = listGiven readBound (goodOpen (numbersOf t) (is_held t) 0) ws

  unfoldable pub goodScheme : Scheme ℕ → Bool
  goodScheme (concrete type) = goodTy (numbersOf t) (is_held t) 0 type
  goodScheme (scheme n type bs) = goodTy (numbersOf t) (is_held t) n type && all (goodOpen (numbersOf t) (is_held t) n) bs

  unfoldable pub schemeGiven : List ℕ → Got (Scheme ℕ)
  schemeGiven ws = do
    rs ← orRefuse 1 (records ws)
    s ← orRefuse 1 (schemeOf rs)
    need (goodScheme s) 1
    got s

  unfoldable pub numbersGiven : List ℕ → Got (Unit {0})
  numbersGiven ns = need (all (is_held t) ns) 1

  -- 4: 'one name is both a variable and a parameter'
  unfoldable pub apart : List (Open ℕ) → Got (Unit {0})
  apart os = need (unmixed (numbersOf t) os) 4

-- a binding's variable counts as a variable
unfoldable pub opensBinding : {N : Type 0} → Binding N → List (Open N)
opensBinding (x ≔ t) = var x ∷ opens t

-- names of a scheme's bounds don't count
unfoldable pub opensScheme : {N : Type 0} → Scheme N → List (Open N)
opensScheme (concrete t) = opens t
opensScheme (scheme n t bs) = opens t

-- ══ What a call leaves behind ══

-- words at the front of a buffer; what lies past them stays
unfoldable pub over : List ℕ → List ℕ → List ℕ
over ws buffer = ws ++ drop (length ws) buffer

-- 'on other refusals, and past the answer, it is unchanged'
unfoldable pub resultAfter : Got (List ℕ) → List ℕ → List ℕ
resultAfter (got ws) result = over ws result
resultAfter (refused n) result = result

-- 'the work buffer is all zero after every call except 10, which changes nothing'
unfoldable pub workAfter : Got (Unit {0}) → List ℕ → List ℕ
workAfter (got u) work = replicate (length work) 0
workAfter (refused n) work = work

-- a call that writes records: how many, and the two buffers
pub record Written : Type 0 where
  pub answer : Got ℕ
  pub result : List ℕ
  pub work : List ℕ

-- from the check of 10, and what comes after it
unfoldable pub writing : Got (Unit {0}) → Got (List Rec) → List ℕ → List ℕ → Written
writing room rest result work = record {
  answer = room >> rest >>= λ rs. got (length rs);
  result = resultAfter (room >> rest >>= λ rs. got (words rs)) result;
  work = workAfter room work;
}

-- a call that writes names' numbers: how many, and the result buffer
pub record Listed : Type 0 where
  pub answer : Got ℕ
  pub result : List ℕ

unfoldable pub listing : Got (List ℕ) → List ℕ → Listed
listing ns result = record { answer = ns >>= λ ns. got (length ns); result = resultAfter ns result }

-- ══ Is a list well formed: 10, 8, 1 ══

module _ (pool table : List ℕ) where
  -- what comes before reading a list alone
  unfoldable pub aloneGiven : List ℕ → Got (Unit {0})
  aloneGiven ws = lentTable pool table >> shortLists (ws ∷ []) >> tableKept (table_of pool table)

  unfoldable pub setCall : List ℕ → Got (Unit {0})
  setCall ws = aloneGiven ws >> setGiven (table_of pool table) ws >> got tt

  unfoldable pub typeCall : List ℕ → Got (Unit {0})
  typeCall ws = aloneGiven ws >> typeGiven (table_of pool table) ws >> got tt

  unfoldable pub schemeCall : List ℕ → Got (Unit {0})
  schemeCall ws = aloneGiven ws >> schemeGiven (table_of pool table) ws >> got tt

  unfoldable pub bindingsCall : List ℕ → Got (Unit {0})
  bindingsCall ws = aloneGiven ws >> bindingsGiven (table_of pool table) ws >> got tt

-- ══ Contains, closed, variables: 10, 8, 1, 4 ══

module _ (pool table : List ℕ) where
  -- does the type contain a variable of that name or, where asked, a parameter; a number not held is 1
  unfoldable pub containsCall : List ℕ → ℕ → Bool → Got Bool
  containsCall ws x parameters = do
    aloneGiven pool table ws
    t ← typeGiven (table_of pool table) ws
    numbersGiven (table_of pool table) (x ∷ [])
    apart (table_of pool table) (opens t)
    got (containsName (numbersOf (table_of pool table)) parameters x t)

  unfoldable pub closedCall : List ℕ → Got Bool
  closedCall ws = do
    aloneGiven pool table ws
    t ← typeGiven (table_of pool table) ws
    apart (table_of pool table) (opens t)
    got (closed t)

  unfoldable pub variablesCall : List ℕ → Bool → List ℕ → Listed
  variablesCall ws parameters result = listing (do
    lentTable pool table >> lentResult result
    aloneGiven pool table ws
    t ← typeGiven (table_of pool table) ws
    apart (table_of pool table) (opens t)
    got (variables (numbersOf (table_of pool table)) parameters t)) result

-- ══ Replacing ══

module _ (t : Table) where
  unfoldable pub replacedType : List ℕ → List ℕ → Got (List Rec)
  replacedType type binds = do
    shortLists (type ∷ binds ∷ [])
    tableKept t
    ty ← typeGiven t type
    bs ← bindingsGiven t binds
    apart t (opens ty ++ collect opensBinding bs)
    r ← replaceTy (numbersOf t) bounded (bindings (numbersOf t) bs) ty
    r ← sized bounded (size r) (depth r) r
    got (writeTy r)

  unfoldable pub replacedSet : List ℕ → List ℕ → Got (List Rec)
  replacedSet set binds = do
    shortLists (set ∷ binds ∷ [])
    tableKept t
    cs ← setGiven t set
    bs ← bindingsGiven t binds
    apart t (collect opensCon cs ++ collect opensBinding bs)
    r ← each (replaceCon (numbersOf t) bounded (bindings (numbersOf t) bs)) cs
    s ← limited bounded (record { cons = r; binds = [] })
    got (collect writeCon s.cons)

module _ (pool table : List ℕ) where
  unfoldable pub replaceTypeCall : List ℕ → List ℕ → List ℕ → List ℕ → Written
  replaceTypeCall type binds result work = writing (lent pool table result work) (replacedType (table_of pool table) type binds) result work

  unfoldable pub replaceSetCall : List ℕ → List ℕ → List ℕ → List ℕ → Written
  replaceSetCall set binds result work = writing (lent pool table result work) (replacedSet (table_of pool table) set binds) result work

-- ══ Adding ══

-- what adding answers with the new count of records, and the buffer that holds the set
pub record AddedTo : Type 0 where
  pub answer : Got (Added × ℕ)
  pub buffer : List ℕ

-- a stored constraint follows the set; 'a refusal leaves the set unchanged'
unfoldable pub bufferAfter : Got (Added × ℕ) → ℕ → List ℕ → List ℕ → List ℕ
bufferAfter (refused n) at con buffer = buffer
bufferAfter (got r) at con buffer = elim r.0 [
  | satisfied ↦ buffer
  | violated ↦ take at buffer ++ over con (drop at buffer)
  | unknown ↦ take at buffer ++ over con (drop at buffer)
]

module _ (pool table : List ℕ) where
  -- the set is the first `count` records of the buffer; the check of 4 isn't made here
  unfoldable pub addedTo : List ℕ → ℕ → List ℕ → Got (Added × ℕ)
  addedTo buffer count con = do
    lentTable pool table >> lentResult buffer
    need (leb count 2048) 8 >> shortLists (con ∷ [])
    tableKept (table_of pool table)
    cs ← setGiven (table_of pool table) (take (count * 4) buffer)
    c ← (setGiven (table_of pool table) con >>= only)
    r ← add (numbersOf (table_of pool table)) cs c
    got (r.0, sum_of sizeCon r.1)

  unfoldable pub addCall : List ℕ → ℕ → List ℕ → AddedTo
  addCall buffer count con = record {
    answer = addedTo buffer count con;
    buffer = bufferAfter (addedTo buffer count con) (count * 4) con buffer;
  }

-- ══ Solving ══

-- accepted: records of bindings, bounds; 5: records that remain; another refusal. Each with the completed rounds
pub data Solved : Type 0 where
  solved : ℕ → ℕ → ℕ → Solved
  unsolved : ℕ → ℕ → Solved
  refusedAfter : ℕ → ℕ → Solved

pub record Solution : Type 0 where
  pub answer : Solved
  pub result : List ℕ
  pub work : List ℕ

unfoldable pub solvedOf : Got (Answer ℕ) → Solved
solvedOf (refused n) = refusedAfter n 0
solvedOf (got (accepted bs ns k)) = solved (sum_of sizeBinding bs) (length ns) k
solvedOf (got (remaining cs k)) = unsolved (sum_of sizeCon cs) k
solvedOf (got (stopped n k)) = refusedAfter n k

-- 'on 5 the result buffer begins with these remaining constraints in their order'
unfoldable pub solvedWords : Got (Answer ℕ) → Got (List ℕ)
solvedWords (refused n) = refused n
solvedWords (got (accepted bs ns k)) = got (words (collect writeBinding bs ++ map (λ n. writeBound (var n)) ns))
solvedWords (got (remaining cs k)) = got (words (collect writeCon cs))
solvedWords (got (stopped n k)) = refused n

unfoldable pub solvedSet : Table → List ℕ → Got (Answer ℕ)
solvedSet t set = do
  shortLists (set ∷ [])
  tableKept t
  cs ← setGiven t set
  apart t (collect opensCon cs)
  got (solve (numbersOf t) bounded cs)

unfoldable pub solveCall : List ℕ → List ℕ → List ℕ → List ℕ → List ℕ → Solution
solveCall pool table set result work = record {
  answer = solvedOf (lent pool table result work >> solvedSet (table_of pool table) set);
  result = resultAfter (solvedWords (lent pool table result work >> solvedSet (table_of pool table) set)) result;
  work = workAfter (lent pool table result work) work;
}

-- ══ Schemes ══

module _ (t : Table) where
  unfoldable pub quantified : List ℕ → List ℕ → List ℕ → Got (List Rec)
  quantified type bounds names = do
    shortLists (type ∷ bounds ∷ []) >> shortNumbers names
    tableKept t
    ty ← typeGiven t type
    bs ← boundsGiven t bounds
    numbersGiven t names
    apart t (opens ty)
    s ← quantify (numbersOf t) bounded names ty bs
    got (writeScheme s)

  unfoldable pub generalised : List ℕ → List ℕ → Got (List Rec)
  generalised given bounds = do
    shortLists (given ∷ bounds ∷ [])
    tableKept t
    s ← schemeGiven t given
    bs ← boundsGiven t bounds
    apart t (opensScheme s)
    r ← generalise (numbersOf t) bounded (map word_of bs) s
    got (writeScheme r)

  unfoldable pub instantiated : List ℕ → List ℕ → Got (List Rec)
  instantiated given names = do
    shortLists (given ∷ []) >> shortNumbers names
    tableKept t
    s ← schemeGiven t given
    numbersGiven t names
    apart t (opensScheme s)
    r ← instantiate (numbersOf t) bounded names s
    got (writeTy r.0 ++ map writeBound r.1)

module _ (pool table : List ℕ) where
  unfoldable pub quantifyCall : List ℕ → List ℕ → List ℕ → List ℕ → List ℕ → Written
  quantifyCall type bounds names result work = writing (lent pool table result work) (quantified (table_of pool table) type bounds names) result work

  unfoldable pub generaliseCall : List ℕ → List ℕ → List ℕ → List ℕ → Written
  generaliseCall given bounds result work = writing (lent pool table result work) (generalised (table_of pool table) given bounds) result work

  unfoldable pub instantiateCall : List ℕ → List ℕ → List ℕ → List ℕ → Written
  instantiateCall given names result work = writing (lent pool table result work) (instantiated (table_of pool table) given names) result work

-- ══ The judge ══

-- an entry: a variable, and the place of its type in a record list
pub record Entry : Type 0 where
  pub variable : ℕ
  pub place : ℕ

-- yes, no or the refusal, and the work buffer
pub record Judged : Type 0 where
  pub answer : Got Bool
  pub work : List ℕ

-- no 'variable twice'
unfoldable pub differ : List ℕ → Bool
differ [] = true
differ (x ∷ xs) = not (any (eqb x) xs) && differ xs

module _ (t : Table) where
  -- 'a place where no well formed type starts': 1
  unfoldable pub type_at : List Rec → ℕ → Got (Ty ℕ)
  type_at rs i = do
    ty ← orRefuse 1 (and_then (readTy 64 (drop i rs)) (λ r. some r.0))
    need (goodTy (numbersOf t) (is_held t) 0 ty) 1
    got ty

  unfoldable pub bindingOf : List Rec → Entry → Got (Binding ℕ)
  bindingOf rs e = do
    numbersGiven t (e.variable ∷ [])
    ty ← type_at rs e.place
    got (e.variable ≔ ty)

  unfoldable pub entriesGiven : List Entry → List ℕ → Got (List (Binding ℕ))
  entriesGiven entries types = do
    rs ← orRefuse 1 (records types)
    need (differ (map (λ e. e.variable) entries)) 1
    each (bindingOf rs) entries

  -- 'bounds not rising': 1
  unfoldable pub risingBounds : List ℕ → Got (List ℕ)
  risingBounds bounds = do
    os ← boundsGiven t bounds
    need (rising (numbersOf t).order (map word_of os)) 1
    got (map word_of os)

  unfoldable pub judgedSet : List ℕ → List Entry → List ℕ → List ℕ → Got Bool
  judgedSet set entries types bounds = do
    shortLists (set ∷ types ∷ bounds ∷ []) >> shortNumbers entries
    tableKept t
    cs ← setGiven t set
    bs ← entriesGiven entries types
    ns ← risingBounds bounds
    apart t (collect opensCon cs ++ collect opensBinding bs)
    judge (numbersOf t) bounded bs ns cs

unfoldable pub judgeCall : List ℕ → List ℕ → List ℕ → List Entry → List ℕ → List ℕ → List ℕ → Judged
judgeCall pool table set entries types bounds work = record {
  answer = lentTable pool table >> lentWork work >> judgedSet (table_of pool table) set entries types bounds;
  work = workAfter (lentTable pool table >> lentWork work) work;
}
