-- A second office on the same names. Lists with names in place of numbers, and what each office enters.
use Rattle.std.specs.Prelude.{◌≡◌, Bool, true, false, not, ◌&&◌, ◌||◌, List, [], ◌∷◌, ◌++◌, map, ℕ, ◌+◌, ◌*◌, eqb, leb, ltb, length, take, get_or}
use Rattle.std.proofs.Math.Option.{Option, none, some}
use Rattle.std.proofs.Math.Decide.{ℕ_discrete}
use Rattle.rules.specs.Base.{Got, got, refused, ◌>>◌, need, list-dec, any, all, collect}
use Rattle.rules.specs.Exponents.{Exp}
use Rattle.rules.specs.Trees.{Open, var, quant, par, Atom, free, base, Factor, ◌↑◌, Product, Ty, opened, basic, dim, fn}
use Rattle.rules.specs.Trees.{struct, list, Tys, nil, cons, Fields, noFields, field, Con, equal, isDim, is_scalar, hasField, Binding, ◌≔◌, Names}
use Rattle.rules.specs.Names.{Bytes, orderBytes, Table, table_of, names_of, is_held, nameAsked, enter}
use Rattle.rules.specs.Schemes.{Scheme, concrete, scheme}
use Rattle.rules.specs.Values.{FactorValue, ProductValue, productIn, multiplyCall, divideCall, inverseCall, raiseCall}
use Rattle.rules.specs.Writing.{Rec, rec, kindIn, words}
use Rattle.rules.specs.Adding.{Added, satisfied, violated, unknown}
use Rattle.rules.specs.Solving.{Answer, accepted, remaining, stopped}
use Rattle.rules.specs.Calls.{Written, Listed, Solved, solved, unsolved, refusedAfter, Solution, AddedTo, Entry, setCall, typeCall, schemeCall}
use Rattle.rules.specs.Batches.{Batch, batchCall}
use Rattle.rules.specs.Confirming.{confirmCall}
use Rattle.rules.specs.Conflicts.{Conflicts, conflictCall}
use Rattle.rules.specs.Ceiling.{ceilingCall}
use Rattle.rules.specs.Elimination.{Eliminated, allBound, someLeft, refusedWith, Elimination, eliminateCall}
use Rattle.rules.specs.Rescue.{words_in, Rescued, rescueCall}
use Rattle.rules.specs.TextWriting.{writeTextCall}
use Rattle.rules.specs.TextReading.{ReadAnswer, wasRead, notRead, TextRead, readTextCall}
use Rattle.rules.specs.Calls.{
  bindingsCall,
  containsCall,
  closedCall,
  variablesCall,
  replaceTypeCall,
  replaceSetCall,
  addCall,
  solveCall,
  quantifyCall,
  generaliseCall,
  instantiateCall,
  judgeCall,
}

-- ══ Other names in place of names, in every tree ══

-- f keeps names apart (each can be had back) and keeps their order
pub record Keeps {N M : Type 0} (ν : Names N) (μ : Names M) (f : N → M) : Type 0 where
  pub back : M → N
  pub returns : (a : N) → back (f a) ≡ a
  pub ordered : (a b : N) → μ.order (f a) (f b) ≡ ν.order a b

module _ {N M : Type 0} (f : N → M) where
  abbrev pub mapOpen : Open N → Open M
  mapOpen (var x) = var (f x)
  mapOpen (quant i) = quant i
  mapOpen (par x) = par (f x)

  abbrev pub mapAtom : Atom N → Atom M
  mapAtom (free o) = free (mapOpen o)
  mapAtom (base n) = base (f n)

  abbrev pub mapFactor : Factor N → Factor M
  mapFactor (a ↑ e) = mapAtom a ↑ e

  unfoldable mutual
    pub mapTy : Ty N → Ty M
    mapTy (opened o) = opened (mapOpen o)
    mapTy (basic b) = basic b
    mapTy (dim p) = dim (map mapFactor p)
    mapTy (fn ps r) = fn (map_tys ps) (mapTy r)
    mapTy (struct n as' fs) = struct (f n) (map_tys as') (mapFields fs)
    mapTy (list t) = list (mapTy t)

    pub map_tys : Tys N → Tys M
    map_tys nil = nil
    map_tys (cons t ts) = cons (mapTy t) (map_tys ts)

    pub mapFields : Fields N → Fields M
    mapFields noFields = noFields
    mapFields (field n t fs) = field (f n) (mapTy t) (mapFields fs)

  unfoldable pub mapCon : Con N → Con M
  unfolding mapTy
  mapCon (equal s t) = equal (mapTy s) (mapTy t)
  mapCon (isDim t) = isDim (mapTy t)
  mapCon (is_scalar p) = is_scalar (map mapFactor p)
  mapCon (hasField n s t) = hasField (f n) (mapTy s) (mapTy t)

  unfoldable pub mapBinding : Binding N → Binding M
  mapBinding (x ≔ t) = f x ≔ mapTy t

  unfoldable pub mapScheme : Scheme N → Scheme M
  mapScheme (concrete t) = concrete (mapTy t)
  mapScheme (scheme n t bs) = scheme n (mapTy t) (map mapOpen bs)

  unfoldable pub mapAnswer : Answer N → Answer M
  mapAnswer (accepted bs ns k) = accepted (map mapBinding bs) (map f ns) k
  mapAnswer (remaining cs k) = remaining (map mapCon cs) k
  mapAnswer (stopped n k) = stopped n k

abbrev pub mapGot : {A B : Type 0} → (A → B) → Got A → Got B
mapGot g (got a) = got (g a)
mapGot g (refused n) = refused n

abbrev pub mapOption : {A B : Type 0} → (A → B) → Option A → Option B
mapOption g none = none
mapOption g (some a) = some (g a)

-- ══ Names in place of numbers, in words ══

-- what a number stands for over a table: the bytes of its name; a stray number, under which no name is held, stands for itself
pub data Name : Type 0 where
  named : Bytes → Name
  stray : ℕ → Name
  deriving Discrete as Name-discrete

abbrev pub bytesIn : Name → Bytes
bytesIn (named n) = n
bytesIn (stray i) = []

-- names themselves: told apart and ordered by bytes
unfoldable pub byBytes : Names Name
unfolding ℕ_discrete list-dec
byBytes = record { same = Name-discrete (list-dec ℕ_discrete) ℕ_discrete; order = λ a b. orderBytes (bytesIn a) (bytesIn b) }

abbrev pub nameIf : Bool → Bytes → ℕ → Name
nameIf true n i = named n
nameIf false n i = stray i

unfoldable pub nameNo : Table → ℕ → Name
nameNo t i = nameIf (is_held t i) (get_or (names_of t) i []) i

-- a word of a list: a number, or a name
pub data Word : Type 0 where
  number : ℕ → Word
  name : Name → Word

-- the kinds of records whose word a is a name's number: variable, parameter, struct, field, the three factors, has-field, binding, and a
-- bound with b 0
unfoldable pub namesOne : ℕ → ℕ → Bool
unfolding any
namesOne k b = any (eqb k) (1 ∷ 2 ∷ 8 ∷ 9 ∷ 11 ∷ 12 ∷ 13 ∷ 23 ∷ 24 ∷ []) || (eqb k 25 && eqb b 0)

abbrev pub wordIf : Bool → Table → ℕ → Word
wordIf true t a = name (nameNo t a)
wordIf false t a = number a

-- 'read back with names in place of numbers': record by record; words that are no whole record stay numbers
unfoldable pub readBack : Table → List ℕ → List Word
readBack t [] = []
readBack t (w ∷ []) = number w ∷ []
readBack t (w ∷ a ∷ []) = number w ∷ number a ∷ []
readBack t (w ∷ a ∷ b ∷ []) = number w ∷ number a ∷ number b ∷ []
readBack t (w ∷ a ∷ b ∷ c ∷ ws) = number w ∷ wordIf (namesOne (kindIn w) b) t a ∷ number b ∷ number c ∷ readBack t ws

-- two lists, each over its own table, that read alike; and numbers of names that do
pub record ReadAlike (t t' : Table) (ws ws' : List ℕ) : Type 0 where
  pub words : readBack t ws ≡ readBack t' ws'

pub record NumbersAlike (t t' : Table) (ns ns' : List ℕ) : Type 0 where
  pub names : map (nameNo t) ns ≡ map (nameNo t') ns'

-- ══ Calls that answer alike ══

-- the records at the front of a buffer, as many as were answered
abbrev pub front : Got ℕ → List ℕ → List ℕ
front (got n) buffer = take (n * 4) buffer
front (refused k) buffer = []

-- the same count or refusal, and records that read alike
pub record WrittenAlike (t t' : Table) (w w' : Written) : Type 0 where
  pub answer : w.answer ≡ w'.answer
  pub records : ReadAlike t t' (front w.answer w.result) (front w'.answer w'.result)

abbrev pub frontListed : Got ℕ → List ℕ → List ℕ
frontListed (got n) buffer = take n buffer
frontListed (refused k) buffer = []

-- the same count or refusal, and the same names in the same order
pub record ListedAlike (t t' : Table) (w w' : Listed) : Type 0 where
  pub answer : w.answer ≡ w'.answer
  pub numbers : NumbersAlike t t' (frontListed w.answer w.result) (frontListed w'.answer w'.result)

abbrev pub frontSolved : Solved → List ℕ → List ℕ
frontSolved (solved m n k) buffer = take ((m + n) * 4) buffer
frontSolved (unsolved m k) buffer = take (m * 4) buffer
frontSolved (refusedAfter n k) buffer = []

-- the same refusal, completed rounds and counts; bindings and bounds, or what remains, read alike, in the same order
pub record SolvedAlike (t t' : Table) (s s' : Solution) : Type 0 where
  pub answer : s.answer ≡ s'.answer
  pub records : ReadAlike t t' (frontSolved s.answer s.result) (frontSolved s'.answer s'.result)

-- the places at the front of the result buffer
abbrev pub frontConflict : Got (Option ℕ) → List ℕ → List ℕ
frontConflict (got (some n)) buffer = take n buffer
frontConflict (got none) buffer = []
frontConflict (refused k) buffer = []

-- the same refusal, or the same lines conflict, by their places in the set
pub record ConflictAlike (c c' : Conflicts) : Type 0 where
  pub answer : c.answer ≡ c'.answer
  pub places : frontConflict c.answer c.result ≡ frontConflict c'.answer c'.result

-- the set after adding: its n records from before and, where it was stored, the constraint behind them
abbrev pub frontAdded : Got (Added × ℕ) → ℕ → List ℕ → List ℕ → List ℕ
frontAdded (got r) n c buffer = elim r.0 [
  | satisfied ↦ take (n * 4) buffer
  | violated ↦ take (n * 4 + length c) buffer
  | unknown ↦ take (n * 4 + length c) buffer
]
frontAdded (refused k) n c buffer = take (n * 4) buffer

-- the same answer and count, and the sets afterwards read alike
pub record AddedAlike (t t' : Table) (n : ℕ) (c c' : List ℕ) (a a' : AddedTo) : Type 0 where
  pub answer : a.answer ≡ a'.answer
  pub records : ReadAlike t t' (frontAdded a.answer n c a.buffer) (frontAdded a'.answer n c' a'.buffer)

-- buffers of the same lengths are lent
pub record LentAlike (result result' work work' : List ℕ) : Type 0 where
  pub results : length result ≡ length result'
  pub works : length work ≡ length work'

-- four words a set, where the batch is answered
abbrev pub frontTold : Got ℕ → ℕ → List ℕ → List ℕ
frontTold (got m) n buffer = take (n * 4) buffer
frontTold (refused k) n buffer = []

-- a batch of n sets: the same count or refusal, the same four words for each set, and records that read alike
pub record BatchAlike (t t' : Table) (n : ℕ) (b b' : Batch) : Type 0 where
  pub answer : b.answer ≡ b'.answer
  pub told : frontTold b.answer n b.answers ≡ frontTold b'.answer n b'.answers
  pub records : ReadAlike t t' (front b.answer b.result) (front b'.answer b'.result)

-- the second engine
abbrev pub frontEliminated : Eliminated → List ℕ → List ℕ
frontEliminated (allBound n) buffer = take (n * 4) buffer
frontEliminated (someLeft n) buffer = take (n * 4) buffer
frontEliminated (refusedWith k) buffer = []

-- the same count or refusal; bindings, or what remains, read alike, in the same order
pub record EliminatedAlike (t t' : Table) (e e' : Elimination) : Type 0 where
  pub answer : e.answer ≡ e'.answer
  pub records : ReadAlike t t' (frontEliminated e.answer e.result) (frontEliminated e'.answer e'.result)

-- a set written as text: the same count or refusal, and the same bytes
pub record TextAlike (w w' : Listed) : Type 0 where
  pub answer : w.answer ≡ w'.answer
  pub bytes : frontListed w.answer w.result ≡ frontListed w'.answer w'.result

-- reading text enters names, so how many of them are new may differ
abbrev pub newAside : ReadAnswer → ReadAnswer
newAside (wasRead records constraints fresh) = wasRead records constraints 0
newAside (notRead n l c) = notRead n l c

abbrev pub meetsThree : ReadAnswer → Bool
meetsThree (wasRead records constraints fresh) = false
meetsThree (notRead n l c) = eqb n 3

abbrev pub frontRead : ReadAnswer → List ℕ → List ℕ
frontRead (wasRead records constraints fresh) buffer = take (records * 4) buffer
frontRead (notRead n l c) buffer = []

-- a sheet that was read: as many records and constraints, which read alike, each over its table with the names that were entered;
-- or the same refusal, at the same line and column
pub record TextReadAlike (r r' : TextRead) : Type 0 where
  pub answer : newAside r.answer ≡ newAside r'.answer
  pub records : ReadAlike (table_of r.pool r.table) (table_of r'.pool r'.table) (frontRead r.answer r.result) (frontRead r'.answer r'.result)

-- the bytes of the records that are kept, and the places of those that are not
abbrev pub frontKept : Got (ℕ × ℕ) → List ℕ → List ℕ
frontKept (got v) buffer = take (v.0 * 16) buffer
frontKept (refused k) buffer = []

abbrev pub frontSkipped : Got (ℕ × ℕ) → List ℕ → List ℕ
frontSkipped (got v) buffer = take v.1 buffer
frontSkipped (refused k) buffer = []

-- a rescued file: the same counts or refusal, the kept records read alike, and the same places were skipped
pub record RescuedAlike (t t' : Table) (r r' : Rescued) : Type 0 where
  pub answer : r.answer ≡ r'.answer
  pub kept : ReadAlike t t' (words_in (frontKept r.answer r.kept)) (words_in (frontKept r'.answer r'.kept))
  pub skipped : frontSkipped r.answer r.skipped ≡ frontSkipped r'.answer r'.skipped

-- two files of bytes, as long as one another, whose records read alike
pub record FilesAlike (t t' : Table) (file file' : List ℕ) : Type 0 where
  pub bytes : all (λ b. ltb b 256) file ≡ true
  pub bytes' : all (λ b. ltb b 256) file' ≡ true
  pub long : length file ≡ length file'
  pub records : ReadAlike t t' (words_in file) (words_in file')

-- variables of entries that are alike, each with the same place
pub record EntriesAlike (t t' : Table) (es es' : List Entry) : Type 0 where
  pub variables : NumbersAlike t t' (map (λ e. e.variable) es) (map (λ e. e.variable) es')
  pub places : map (λ e. e.place) es ≡ map (λ e. e.place) es'

-- product values that read alike, and answers of the calls on them: the same refusal, or the same factors in the same order
pub record ValuesAlike (t t' : Table) (v v' : ProductValue) : Type 0 where
  pub product : mapOption (map (mapFactor (nameNo t))) (productIn v) ≡ mapOption (map (mapFactor (nameNo t'))) (productIn v')

pub record ProductsAlike (t t' : Table) (p p' : Got (Product ℕ)) : Type 0 where
  pub product : mapGot (map (mapFactor (nameNo t))) p ≡ mapGot (map (mapFactor (nameNo t'))) p'

-- the promise for two lendings of pool and table: lists, numbers and products that read alike are answered alike, by every call that takes names
module _ (pool table pool' table' : List ℕ) where
  abbrev pub Lists : List ℕ → List ℕ → Type 0
  Lists = ReadAlike (table_of pool table) (table_of pool' table')

  abbrev pub Numbers : List ℕ → List ℕ → Type 0
  Numbers = NumbersAlike (table_of pool table) (table_of pool' table')

  abbrev pub Writes : Written → Written → Type 0
  Writes = WrittenAlike (table_of pool table) (table_of pool' table')

  abbrev pub Values : ProductValue → ProductValue → Type 0
  Values = ValuesAlike (table_of pool table) (table_of pool' table')

  abbrev pub Products : Got (Product ℕ) → Got (Product ℕ) → Type 0
  Products = ProductsAlike (table_of pool table) (table_of pool' table')

  pub record CallsAlike : Type 0 where
    -- asking for a name; products by value
    pub asked : (i i' : ℕ) → nameNo (table_of pool table) i ≡ nameNo (table_of pool' table') i' → nameAsked pool table i ≡ nameAsked pool' table' i'
    pub multiply : (v v' w w' : ProductValue) → Values v v' → Values w w' → Products (multiplyCall pool table v w) (multiplyCall pool' table' v' w')
    pub divide : (v v' w w' : ProductValue) → Values v v' → Values w w' → Products (divideCall pool table v w) (divideCall pool' table' v' w')
    pub inverse : (v v' : ProductValue) → Values v v' → Products (inverseCall pool table v) (inverseCall pool' table' v')
    pub raise : (v v' : ProductValue) (k : Exp) → Values v v' → Products (raiseCall pool table v k) (raiseCall pool' table' v' k)
    -- is a list well formed
    pub set : (ws ws' : List ℕ) → Lists ws ws' → setCall pool table ws ≡ setCall pool' table' ws'
    pub type : (ws ws' : List ℕ) → Lists ws ws' → typeCall pool table ws ≡ typeCall pool' table' ws'
    pub scheme : (ws ws' : List ℕ) → Lists ws ws' → schemeCall pool table ws ≡ schemeCall pool' table' ws'
    pub bindings : (ws ws' : List ℕ) → Lists ws ws' → bindingsCall pool table ws ≡ bindingsCall pool' table' ws'
    -- contains, closed, variables
    pub contains : (ws ws' : List ℕ) (x x' : ℕ) (b : Bool) → Lists ws ws' → nameNo (table_of pool table) x ≡ nameNo (table_of pool' table') x'
        → containsCall pool table ws x b ≡ containsCall pool' table' ws' x' b
    pub closed : (ws ws' : List ℕ) → Lists ws ws' → closedCall pool table ws ≡ closedCall pool' table' ws'
    pub variables : (ws ws' : List ℕ) (b : Bool) (result result' : List ℕ) → Lists ws ws' → length result ≡ length result'
        → ListedAlike (table_of pool table) (table_of pool' table') (variablesCall pool table ws b result) (variablesCall pool' table' ws' b result')
    -- replacing
    pub replaceType : (ws ws' bs bs' result result' work work' : List ℕ) → Lists ws ws' → Lists bs bs' → LentAlike result result' work work'
        → Writes (replaceTypeCall pool table ws bs result work) (replaceTypeCall pool' table' ws' bs' result' work')
    pub replaceSet : (ws ws' bs bs' result result' work work' : List ℕ) → Lists ws ws' → Lists bs bs' → LentAlike result result' work work'
        → Writes (replaceSetCall pool table ws bs result work) (replaceSetCall pool' table' ws' bs' result' work')
    -- adding and solving
    pub add : (buffer buffer' : List ℕ) (n : ℕ) (c c' : List ℕ) → Lists (take (n * 4) buffer) (take (n * 4) buffer') → Lists c c' → length buffer
        ≡ length buffer'
        → AddedAlike (table_of pool table) (table_of pool' table') n c c' (addCall pool table buffer n c) (addCall pool' table' buffer' n c')
    pub solve : (ws ws' result result' work work' : List ℕ) → Lists ws ws' → LentAlike result result' work work'
        → SolvedAlike (table_of pool table) (table_of pool' table') (solveCall pool table ws result work) (solveCall pool' table' ws' result' work')
    pub batch : (ws ws' lengths result result' answers answers' work work' : List ℕ) → Lists ws ws' → LentAlike result result' work work' → length answers
        ≡ length answers'
        → BatchAlike (table_of pool table) (table_of pool' table') (length lengths) (batchCall pool table ws lengths result answers work)
        (batchCall pool' table' ws' lengths result' answers' work')
    -- solving, with an answer that the judge confirms; which lines conflict
    pub confirm : (ws ws' result result' work work' : List ℕ) → Lists ws ws' → LentAlike result result' work work'
        → SolvedAlike (table_of pool table) (table_of pool' table') (confirmCall pool table ws result work) (confirmCall pool' table' ws' result' work')
    pub conflict : (ws ws' result result' work work' : List ℕ) → Lists ws ws' → LentAlike result result' work work'
        → ConflictAlike (conflictCall pool table ws result work) (conflictCall pool' table' ws' result' work')
    -- the ceiling on rounds
    pub ceiling : (ws ws' : List ℕ) → Lists ws ws' → ceilingCall pool table ws ≡ ceilingCall pool' table' ws'
    -- schemes
    pub quantify : (ws ws' bs bs' ns ns' result result' work work' : List ℕ) → Lists ws ws' → Lists bs bs' → Numbers ns ns'
        → LentAlike result result' work work'
        → Writes (quantifyCall pool table ws bs ns result work) (quantifyCall pool' table' ws' bs' ns' result' work')
    pub generalise : (ws ws' bs bs' result result' work work' : List ℕ) → Lists ws ws' → Lists bs bs' → LentAlike result result' work work'
        → Writes (generaliseCall pool table ws bs result work) (generaliseCall pool' table' ws' bs' result' work')
    pub instantiate : (ws ws' ns ns' result result' work work' : List ℕ) → Lists ws ws' → Numbers ns ns' → LentAlike result result' work work'
        → Writes (instantiateCall pool table ws ns result work) (instantiateCall pool' table' ws' ns' result' work')
    -- the judge
    pub judge : (ws ws' : List ℕ) (es es' : List Entry) (ts ts' bs bs' work work' : List ℕ)
        → Lists ws ws' → EntriesAlike (table_of pool table) (table_of pool' table') es es' → Lists ts ts' → Lists bs bs' → length work ≡ length work'
        → (judgeCall pool table ws es ts bs work).answer ≡ (judgeCall pool' table' ws' es' ts' bs' work').answer
    -- the second engine
    pub eliminate : (ws ws' result result' work work' : List ℕ) → Lists ws ws' → LentAlike result result' work work'
        → EliminatedAlike (table_of pool table) (table_of pool' table') (eliminateCall pool table ws result work) (eliminateCall pool' table' ws' result' work')
    -- text: written, byte for byte; and read, where neither reading meets 3
    pub writeText : (ws ws' : List ℕ) (text text' : Bytes) → Lists ws ws' → length text ≡ length text'
        → TextAlike (writeTextCall pool table ws text) (writeTextCall pool' table' ws' text')
    pub readText : (text : Bytes) (result result' work work' : List ℕ) → LentAlike result result' work work'
        → meetsThree (readTextCall pool table text result work).answer ≡ false → meetsThree (readTextCall pool' table' text result' work').answer ≡ false
        → TextReadAlike (readTextCall pool table text result work) (readTextCall pool' table' text result' work')
    -- damaged files
    pub rescue : (file file' kept kept' skipped skipped' : List ℕ) → FilesAlike (table_of pool table) (table_of pool' table') file file'
        → length kept ≡ length kept' → length skipped ≡ length skipped'
        → RescuedAlike (table_of pool table) (table_of pool' table') (rescueCall pool table file kept skipped) (rescueCall pool' table' file' kept' skipped')

-- ══ Two offices ══

pub data Office : Type 0 where
  here there : Office

abbrev pub sameOffice : Office → Office → Bool
sameOffice here here = true
sameOffice here there = false
sameOffice there here = false
sameOffice there there = true

-- an office enters a name
pub record Entering : Type 0 where
  pub by : Office
  pub name : Bytes

-- the pool and the table that both offices are lent
pub record Shared : Type 0 where
  pub pool : List ℕ
  pub table : List ℕ

abbrev pub tableIn : Shared → Table
tableIn s = table_of s.pool s.table

-- after an entry, and after a history: entries in the order in which they were made, by either office
unfoldable pub entered : Shared → Bytes → Shared
entered s n = record { pool = (enter s.pool s.table n).pool; table = (enter s.pool s.table n).table }

unfoldable pub afterAll : Shared → List Entering → Shared
afterAll s [] = s
afterAll s (e ∷ es) = afterAll (entered s e.name) es

-- the names that an office entered, in turn
unfoldable pub namesBy : Office → List Entering → List Bytes
namesBy o [] = []
namesBy o (e ∷ es) = elim (sameOffice o e.by) [ true ↦ e.name ∷ namesBy o es | false ↦ namesBy o es ]

-- the number that an entry is answered, or its refusal; new or known may differ
abbrev pub answered : Shared → Bytes → Got ℕ
answered s n = mapGot (λ a. a.0) (enter s.pool s.table n).answer

-- what an office was answered, in turn
unfoldable pub answersTo : Office → Shared → List Entering → List (Got ℕ)
answersTo o s [] = []
answersTo o s (e ∷ es) = elim (sameOffice o e.by) [
  | true ↦ answered s e.name ∷ answersTo o (entered s e.name) es
  | false ↦ answersTo o (entered s e.name) es
]

-- what an entry that meets no 3 is answered: 2 for a name of no byte or of over 48, else a number of that name
abbrev pub answerFor : Bytes → Got Name
answerFor n = need (leb 1 (length n) && leb (length n) 48) 2 >> got (named n)

-- it met no 3
abbrev pub noThree : Got ℕ → Bool
noThree (got n) = true
noThree (refused k) = not (eqb k 3)

unfoldable pub hadRoom : List (Got ℕ) → Bool
hadRoom as' = all noThree as'

-- the numbers that it was given, in turn
abbrev pub givenNumber : Got ℕ → List ℕ
givenNumber (got n) = n ∷ []
givenNumber (refused k) = []

unfoldable pub given : List (Got ℕ) → List ℕ
given as' = collect givenNumber as'

-- a list that an office writes with its numbers: where a draft has 0, 1, .. at the place of a name, it writes the first, second, .. number that it
-- was given. All other words it writes as it likes, also behind the last whole record
unfoldable pub fill : List ℕ → Rec → Rec
fill ns (rec w a b c) = elim (namesOne (kindIn w) b) [ true ↦ rec w (get_or ns a 0) b c | false ↦ rec w a b c ]

unfoldable pub written : List ℕ → List Rec → List ℕ → List ℕ
written ns draft rest = words (map (fill ns) draft) ++ rest

-- a draft that names only the first n numbers
unfoldable pub ownRec : ℕ → Rec → Bool
ownRec n (rec w a b c) = elim (namesOne (kindIn w) b) [ true ↦ ltb a n | false ↦ true ]

unfoldable pub own : ℕ → List Rec → Bool
own n draft = all (ownRec n) draft

-- the same for a product by value; places past its count are not looked at
unfoldable pub fillFactor : List ℕ → FactorValue → FactorValue
fillFactor ns f = elim (namesOne f.kind 0) [ true ↦ record { kind = f.kind; name = get_or ns f.name 0; exp = f.exp } | false ↦ f ]

unfoldable pub fillValue : List ℕ → ProductValue → ProductValue
fillValue ns v = record { factors = map (fillFactor ns) v.factors; len = v.len }

unfoldable pub ownFactor : ℕ → FactorValue → Bool
ownFactor n f = elim (namesOne f.kind 0) [ true ↦ ltb f.name n | false ↦ true ]

unfoldable pub ownValue : ℕ → ProductValue → Bool
ownValue n v = all (ownFactor n) (take v.len v.factors)

-- what an office may rely on, after each of two histories, whatever the other office entered and met in them
module _ (o : Office) (s s' : Shared) (es es' : List Entering) where
  abbrev pub T : Table
  T = tableIn (afterAll s es)

  abbrev pub T' : Table
  T' = tableIn (afterAll s' es')

  pub record Unmoved : Type 0 where
    -- what it was given are numbers of the names that it entered, also after all later entries,
    pub names : map (mapGot (nameNo T)) (answersTo o s es) ≡ map answerFor (namesBy o es)
    -- so at each entry it met the same refusal, or a number of the same name
    pub answers : map (mapGot (nameNo T)) (answersTo o s es) ≡ map (mapGot (nameNo T')) (answersTo o s' es')
    -- a list that it writes with its numbers reads alike,
    pub lists : (draft : List Rec) (rest : List ℕ) → own (length (given (answersTo o s es))) draft ≡ true → ltb (length rest) 4 ≡ true
        → ReadAlike T T' (written (given (answersTo o s es)) draft rest) (written (given (answersTo o s' es')) draft rest)
    -- so does a product by value,
    pub values : (v : ProductValue) → ownValue (length (given (answersTo o s es))) v ≡ true
        → ValuesAlike T T' (fillValue (given (answersTo o s es)) v) (fillValue (given (answersTo o s' es')) v)
    -- and so do its numbers handed beside lists
    pub numbers : (is : List ℕ) → all (λ i. ltb i (length (given (answersTo o s es)))) is ≡ true
        → NumbersAlike T T' (map (λ i. get_or (given (answersTo o s es)) i 0) is) (map (λ i. get_or (given (answersTo o s' es')) i 0) is)
    -- and every call answers them alike
    pub calls : CallsAlike (afterAll s es).pool (afterAll s es).table (afterAll s' es').pool (afterAll s' es').table
