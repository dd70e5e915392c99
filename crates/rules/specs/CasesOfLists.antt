-- Small cases of the calls on lists, by computation: each refusal, and each place where the rules had to be read one way.
use Rattle.std.specs.Prelude.{◌≡◌, refl, Bool, true, false, List, [], ◌∷◌, ◌++◌, map, ℕ, zero, suc, ◌+◌, ◌*◌, length, replicate, take, drop}
use Rattle.rules.specs.Base.{Got, got, refused, ◌>>=◌}
use Rattle.rules.specs.Writing.{Rec, rec, head, words}
use Rattle.rules.specs.Lengths.{sized, sizedWords, counting}
use Rattle.rules.specs.Adding.{satisfied, violated, unknown}
use Rattle.rules.specs.Names.{table_of}
use Rattle.rules.specs.Calls.{
  setCall,
  typeCall,
  schemeCall,
  bindingsCall,
  containsCall,
  closedCall,
  variablesCall,
  replacedType,
  replacedSet,
  replaceTypeCall,
  addedTo,
  addCall,
  Solved,
  solved,
  unsolved,
  refusedAfter,
  solvedOf,
  solvedWords,
  solvedSet,
  quantified,
  generalised,
  instantiated,
  Entry,
  judgedSet,
}
use Rattle.rules.specs.Ceiling.{variablesOf, ceilingFor, ceilingCall}
use Rattle.rules.specs.Rules.{rules}
use Rattle.rules.specs.Examples.{pool, table, result, work, minus, x, y, z, a, L, P}

-- records that the cases are made of
abbrev v : ℕ → Rec
v n = rec 1 n 0 0

abbrev bool : Rec
bool = rec 4 0 0 0

abbrev eq : Rec
eq = rec 20 0 0 0

abbrev seq : Rec
seq = rec 10 0 0 0

abbrev dims : ℕ → Rec
dims n = rec 3 n 0 0

-- a factor: variable, parameter, base dimension, to a power that is a whole number
abbrev fv : ℕ → ℕ → Rec
fv n k = rec 11 n k 1

abbrev fp : ℕ → ℕ → Rec
fp n k = rec 12 n k 1

abbrev fb : ℕ → ℕ → Rec
fb n k = rec 13 n k 1

-- ══ Is a list well formed ══

abbrev is_set : List Rec → Got (Unit {0})
is_set rs = setCall pool table (sizedWords rs)

abbrev is_type : List Rec → Got (Unit {0})
is_type rs = typeCall pool table (sizedWords rs)

-- lengths: over 8,192 words is 8, also where they aren't whole records; any other length that isn't a multiple of four is 1
lengths : map (λ (n : ℕ). setCall pool table (replicate n 0)) (0 ∷ 1 ∷ 5 ∷ 8192 ∷ 8193 ∷ 8196 ∷ [])
    ≡ got tt ∷ refused 1 ∷ refused 1 ∷ refused 1 ∷ refused 8 ∷ refused 8 ∷ []
unfolding rules counting pool table
lengths = refl

-- 10 comes before 8, 8 before 1
entry : setCall (replicate 8191 0) table (replicate 8193 0) ∷ setCall pool (replicate 256 0) [] ∷ setCall pool (257 ∷ replicate 256 0) (replicate 8193 0)
    ∷ setCall pool (257 ∷ replicate 256 0) [] ∷ [] ≡ refused 10 ∷ refused 10 ∷ refused 8 ∷ refused 1 ∷ []
unfolding rules counting pool table
entry = refl

-- unused words are 0; a name number is held; a numerator isn't 0; lowest terms
badRecords : map is_type (
    (v x ∷ [])
    ∷ (rec 1 x 1 0 ∷ [])
    ∷ (rec 1 x 0 1 ∷ [])
    ∷ (rec 4 1 0 0 ∷ [])
    ∷ (v 6 ∷ [])
    ∷ (dims 1 ∷ fv x 0 ∷ [])
    ∷ (dims 1 ∷ rec 11 x 2 2 ∷ [])
    ∷ (dims 1 ∷ rec 11 x 1 0 ∷ [])
    ∷ (dims 1 ∷ rec 11 x 2_147_483_648 1 ∷ [])
    ∷ (dims 1 ∷ rec 11 x 2_147_483_649 1 ∷ [])
    ∷ (rec 9 x 0 0 ∷ bool ∷ [])
    ∷ (rec 14 0 0 0 ∷ [])
    ∷ (bool ∷ bool ∷ [])
    ∷ []
    ∷ [])
    ≡ got tt ∷ refused 1 ∷ refused 1 ∷ refused 1 ∷ refused 1 ∷ refused 1 ∷ refused 1 ∷ refused 1 ∷ refused 1 ∷ got tt ∷ refused 1 ∷ refused 1 ∷ refused 1
    ∷ refused 1 ∷ []
unfolding rules counting pool table
badRecords = refl

-- factors rise: x before y, and a parameter before a base dimension; fields rise by bytes: L, P, a, x
rises : map is_type (
    (dims 2 ∷ fv x 1 ∷ fv y 1 ∷ [])
    ∷ (dims 2 ∷ fv y 1 ∷ fv x 1 ∷ [])
    ∷ (dims 2 ∷ fv x 1 ∷ fv x 1 ∷ [])
    ∷ (dims 2 ∷ fp a 1 ∷ fb L 1 ∷ [])
    ∷ (dims 2 ∷ fb L 1 ∷ fp a 1 ∷ [])
    ∷ (rec 8 P 0 2 ∷ rec 9 a 0 0 ∷ bool ∷ rec 9 x 0 0 ∷ bool ∷ [])
    ∷ (rec 8 P 0 2 ∷ rec 9 x 0 0 ∷ bool ∷ rec 9 a 0 0 ∷ bool ∷ [])
    ∷ (rec 8 P 0 2 ∷ rec 9 x 0 0 ∷ bool ∷ rec 9 x 0 0 ∷ bool ∷ [])
    ∷ [])
    ≡ got tt ∷ refused 1 ∷ refused 1 ∷ got tt ∷ refused 1 ∷ got tt ∷ refused 1 ∷ refused 1 ∷ []
unfolding rules counting pool table
rises = refl

-- 64 nested types are good, 65 are not: a list of lists; a function's return and a field's type are one deeper, a field record isn't
nested : map (λ (n : ℕ). is_type (replicate n seq ++ bool ∷ [])) (63 ∷ 64 ∷ [])
    ++ map (λ (n : ℕ). is_type (replicate n (rec 7 0 0 0) ++ bool ∷ [])) (63 ∷ 64 ∷ [])
    ++ map (λ (n : ℕ). is_type (rec 8 P 0 1 ∷ rec 9 x 0 0 ∷ replicate n seq ++ bool ∷ [])) (62 ∷ 63 ∷ [])
    ≡ got tt ∷ refused 1 ∷ got tt ∷ refused 1 ∷ got tt ∷ refused 1 ∷ []
unfolding rules counting pool table
nested = refl

-- has-field takes any type for its struct; equal-scalar takes kind 3 only; a binding or a bound isn't a constraint
sets : map is_set ((rec 23 x 0 0 ∷ bool ∷ v y ∷ []) ∷ (rec 22 0 0 0 ∷ dims 0 ∷ []) ∷ (rec 22 0 0 0 ∷ v x ∷ []) ∷ (rec 24 x 0 0 ∷ bool ∷ [])
    ∷ (rec 25 x 0 0 ∷ []) ∷ (eq ∷ bool ∷ []) ∷ []) ≡ got tt ∷ got tt ∷ refused 1 ∷ refused 1 ∷ refused 1 ∷ refused 1 ∷ []
unfolding rules counting pool table
sets = refl

-- a constraint's types too
nestedIn : map (λ (n : ℕ). is_set (rec 21 0 0 0 ∷ replicate n seq ++ bool ∷ [])) (63 ∷ 64 ∷ []) ≡ got tt ∷ refused 1 ∷ []
unfolding rules counting pool table
nestedIn = refl

-- K2's records with their lengths
secondExample : sized (eq ∷ v x ∷ bool ∷ []) ≡ rec (20 + 3 * 65_536) 0 0 0 ∷ rec (1 + 65_536) x 0 0 ∷ rec (4 + 65_536) 0 0 0 ∷ []
unfolding rules counting
secondExample = refl

-- one length of a list made greater by one
unfoldable longer : ℕ → List Rec → List Rec
longer n [] = []
longer zero (rec w a b c ∷ rs) = rec (w + 65_536) a b c ∷ rs
longer (suc n) (r ∷ rs) = r ∷ longer n rs

-- each false length makes a list malformed: of a constraint, a function, a struct, its field, a list, a product, its factors, leaves
falseLengths : map (λ (n : ℕ). setCall pool table (words (longer n (sized (eq ∷ rec 7 1 0 0 ∷ rec 8 P 1 1 ∷ v x ∷ rec 9 y 0 0 ∷ seq ∷ bool ∷ dims 2 ∷ fv y 1
    ∷ fb L 1 ∷ v z ∷ []))))) (11 ∷ 0 ∷ 1 ∷ 2 ∷ 3 ∷ 4 ∷ 5 ∷ 6 ∷ 7 ∷ 8 ∷ 9 ∷ 10 ∷ [])
    ++ map (λ (n : ℕ). schemeCall pool table (words (longer n (sized (rec 26 1 0 0 ∷ rec 14 0 0 0 ∷ rec 25 0 1 0 ∷ []))))) (3 ∷ 0 ∷ 1 ∷ 2 ∷ [])
    ++ map (λ (n : ℕ). bindingsCall pool table (words (longer n (sized (rec 24 x 0 0 ∷ dims 0 ∷ []))))) (2 ∷ 0 ∷ 1 ∷ [])
    ≡ got tt ∷ replicate 11 (refused 1) ++ got tt ∷ replicate 3 (refused 1) ++ got tt ∷ replicate 2 (refused 1)
unfolding rules counting pool table longer
falseLengths = refl

-- records without lengths, as they were before
noLengths : map (λ (rs : List Rec). setCall pool table (words rs)) ((eq ∷ v x ∷ bool ∷ []) ∷ (rec (head 20 3) 0 0 0 ∷ v x ∷ rec (head 4 1) 0 0 0 ∷ []) ∷ [])
    ≡ refused 1 ∷ refused 1 ∷ []
unfolding rules pool table
noLengths = refl

-- schemes: an index below the count, which may be any word; bounds by index or by name; a concrete scheme has count 0 and no bounds
schemes : map (λ (rs : List Rec). schemeCall pool table (sizedWords rs)) (
    (rec 26 1 0 0 ∷ rec 14 0 0 0 ∷ rec 25 0 1 0 ∷ rec 25 x 0 0 ∷ [])
    ∷ (rec 26 1 0 0 ∷ rec 14 1 0 0 ∷ [])
    ∷ (rec 26 4_294_967_295 0 0 ∷ dims 1 ∷ rec 15 4_000_000_000 1 1 ∷ [])
    ∷ (rec 26 1 0 0 ∷ bool ∷ rec 25 1 1 0 ∷ [])
    ∷ (rec 26 1 0 0 ∷ bool ∷ rec 25 0 2 0 ∷ [])
    ∷ (rec 26 0 1 0 ∷ bool ∷ [])
    ∷ (rec 26 1 1 0 ∷ bool ∷ [])
    ∷ (rec 26 0 1 0 ∷ bool ∷ rec 25 x 0 0 ∷ [])
    ∷ (rec 26 0 1 0 ∷ rec 14 0 0 0 ∷ [])
    ∷ [])
    ≡ got tt ∷ refused 1 ∷ got tt ∷ refused 1 ∷ refused 1 ∷ got tt ∷ refused 1 ∷ refused 1 ∷ refused 1 ∷ []
unfolding rules counting pool table
schemes = refl

-- n factors of quantified variables, from the index i on
unfoldable indexes : ℕ → ℕ → List Rec
indexes i zero = []
indexes i (suc n) = rec 15 i 1 1 ∷ indexes (suc i) n

-- 64 factors are good, 65 are 1
sixtyFour : map (λ (n : ℕ). schemeCall pool table (sizedWords (rec 26 100 0 0 ∷ dims n ∷ indexes 0 n))) (64 ∷ 65 ∷ []) ≡ got tt ∷ refused 1 ∷ []
unfolding rules counting pool table indexes
sixtyFour = refl

-- ══ Contains, closed, variables ══

-- P of x, with a field y of type parameter a
abbrev both : List Rec
both = rec 8 P 1 1 ∷ v x ∷ rec 9 y 0 0 ∷ rec 2 a 0 0 ∷ []

-- arguments and fields are looked into; the names of structs and fields are neither; parameters where asked; a number not held is 1
contained : map (λ (c : ℕ × Bool). containsCall pool table (sizedWords both) c.0 c.1) ((x, false) ∷ (a, false) ∷ (a, true) ∷ (y, true) ∷ (P, true)
    ∷ (6, true) ∷ []) ≡ got true ∷ got false ∷ got true ∷ got false ∷ got false ∷ refused 1 ∷ []
unfolding rules counting pool table
contained = refl

-- a parameter opens a type, a base dimension doesn't; 4 is checked here too
closes : map (λ (rs : List Rec). closedCall pool table (sizedWords rs)) (both ∷ (rec 2 a 0 0 ∷ []) ∷ (dims 1 ∷ fb L 1 ∷ []) ∷ (dims 1 ∷ fp a 1 ∷ [])
    ∷ (seq ∷ bool ∷ []) ∷ (rec 7 1 0 0 ∷ v x ∷ rec 2 x 0 0 ∷ []) ∷ []) ≡ got false ∷ got false ∷ got true ∷ got false ∷ got true ∷ refused 4 ∷ []
unfolding rules counting pool table
closes = refl

-- sorted by bytes (a is 97, x 120), once each; past the answer the buffer stays
listed : take 4 (variablesCall pool table (sizedWords (rec 7 2 0 0 ∷ v y ∷ v x ∷ dims 2 ∷ fv x 1 ∷ fp a 2 ∷ [])) true result).result
    ++ take 4 (variablesCall pool table (sizedWords (rec 7 2 0 0 ∷ v y ∷ v x ∷ dims 2 ∷ fv x 1 ∷ fp a 2 ∷ [])) false result).result
    ≡ a ∷ x ∷ y ∷ 7 ∷ x ∷ y ∷ 7 ∷ 7 ∷ []
unfolding rules counting pool table result
listed = refl

-- ══ Replacing ══

-- a type, and bindings
abbrev replace : List Rec × List Rec → Got (List Rec)
replace c = replacedType (table_of pool table) (sizedWords c.0) (sizedWords c.1)

replacements : map replace (
    -- x by boolean, also where it is a product to the power 1
    (seq ∷ v x ∷ [], rec 24 x 0 0 ∷ bool ∷ [])
    ∷ (dims 1 ∷ fv x 1 ∷ [], rec 24 x 0 0 ∷ bool ∷ [])
    -- x^2 with x by boolean: 6; by a parameter: 6; by the variable y: y^2
    ∷ (dims 1 ∷ fv x 2 ∷ [], rec 24 x 0 0 ∷ bool ∷ [])
    ∷ (dims 1 ∷ fv x 2 ∷ [], rec 24 x 0 0 ∷ rec 2 a 0 0 ∷ [])
    ∷ (dims 1 ∷ fv x 2 ∷ [], rec 24 x 0 0 ∷ v y ∷ [])
    -- of two bindings the first counts, and bound types aren't replaced again
    ∷ (v x ∷ [], rec 24 x 0 0 ∷ v y ∷ rec 24 x 0 0 ∷ bool ∷ rec 24 y 0 0 ∷ bool ∷ [])
    -- x y with x by y^-1: scalar; x^(1/2) with x by L^4: L^2
    ∷ (dims 2 ∷ fv x 1 ∷ fv y 1 ∷ [], rec 24 x 0 0 ∷ dims 1 ∷ fv y (minus 1) ∷ [])
    ∷ (dims 1 ∷ rec 11 x 1 2 ∷ [], rec 24 x 0 0 ∷ dims 1 ∷ fb L 4 ∷ [])
    -- anything but bindings in that list: 1; a bound variable that is a parameter of the type: 4
    ∷ (v x ∷ [], rec 25 x 0 0 ∷ [])
    ∷ (rec 2 x 0 0 ∷ [], rec 24 x 0 0 ∷ bool ∷ [])
    -- 7: x y^M with x by y
    ∷ (dims 2 ∷ fv x 1 ∷ fv y 2_147_483_647 ∷ [], rec 24 x 0 0 ∷ v y ∷ [])
    ∷ [])
    ≡ got (sized (seq ∷ bool ∷ []))
    ∷ got (sized (bool ∷ []))
    ∷ refused 6
    ∷ refused 6
    ∷ got (sized (dims 1 ∷ fv y 2 ∷ []))
    ∷ got (sized (v y ∷ []))
    ∷ got (sized (dims 0 ∷ []))
    ∷ got (sized (dims 1 ∷ fb L 2 ∷ []))
    ∷ refused 1
    ∷ refused 4
    ∷ refused 7
    ∷ []
unfolding rules counting pool table
replacements = refl

-- x y z^-M with x and y by z^M, z by boolean: in x's turn z^-M z^M cancel, in y's turn nothing does, in z's turn it is 6 before it is 7
sixFirst : replace (
  dims 3 ∷ fv x 1 ∷ fv y 1 ∷ fv z (minus 2_147_483_647) ∷ [],
  rec 24 x 0 0 ∷ dims 1 ∷ fv z 2_147_483_647 ∷ rec 24 y 0 0 ∷ dims 1
      ∷ fv z 2_147_483_647 ∷ rec 24 z 0 0 ∷ bool ∷ [],
) ≡ refused 6
unfolding rules counting pool table
sixFirst = refl

-- the product of an equal-scalar is replaced as a product, even at power 1
scalars : map (λ (b : List Rec). replacedSet (table_of pool table) (sizedWords (rec 22 0 0 0 ∷ dims 1 ∷ fv x 1 ∷ [])) (sizedWords b)) ((rec 24 x 0 0 ∷ bool
    ∷ []) ∷ (rec 24 x 0 0 ∷ v y ∷ []) ∷ []) ≡ refused 6 ∷ got (sized (rec 22 0 0 0 ∷ dims 1 ∷ fv y 1 ∷ [])) ∷ []
unfolding rules counting pool table
scalars = refl

-- a function of n parameters x
abbrev uses : ℕ → List Rec
uses n = rec 7 n 0 0 ∷ replicate n (v x) ++ bool ∷ []

-- 1,023 times two records and two more are 2,048; 1,024 times are 8; a later 6 comes before that 8
tooLarge : map (λ (c : List Rec). replace (c, rec 24 x 0 0 ∷ seq ∷ bool ∷ rec 24 y 0 0 ∷ bool ∷ []) >>= λ rs. got (length rs)) (uses 1023 ∷ uses 1024
    ∷ (rec 7 1024 0 0 ∷ replicate 1024 (v x) ++ dims 1 ∷ fv y 2 ∷ []) ∷ []) ≡ got 2048 ∷ refused 8 ∷ refused 6 ∷ []
unfolding rules counting pool table
tooLarge = refl

-- nested 65 deep after replacing: 8
tooDeep : map (λ (n : ℕ). replace (replicate n seq ++ v x ∷ [], rec 24 x 0 0 ∷ seq ∷ bool ∷ []) >>= λ rs. got (length rs)) (62 ∷ 63 ∷ [])
    ≡ got 64 ∷ refused 8 ∷ []
unfolding rules counting pool table
tooDeep = refl

-- the buffers: the answer and then what was there; the work buffer zero as a whole, on a refusal too; 10 changes nothing
buffers : take 5 (replaceTypeCall pool table (sizedWords (v x ∷ [])) (sizedWords (rec 24 x 0 0 ∷ bool ∷ [])) result work).result
    ++ take 5 (replaceTypeCall pool table [] [] result work).result
    ++ take 1 (replaceTypeCall pool table [] [] result work).work
    ++ drop 16383 (replaceTypeCall pool table [] [] result work).work
    ++ take 1 (replaceTypeCall pool table (sizedWords (v x ∷ [])) [] (replicate 8191 7) work).work
    ≡ head 4 1 ∷ 0 ∷ 0 ∷ 0 ∷ 7 ∷ 7 ∷ 7 ∷ 7 ∷ 7 ∷ 7 ∷ 0 ∷ 0 ∷ 9 ∷ []
unfolding rules counting pool table result work
buffers = refl

-- ══ Adding ══

-- a constraint added to the empty set: what is answered, and how many records are stored then
adding : map (λ (c : List Rec). addedTo pool table result 0 (sizedWords c)) (
    (eq ∷ bool ∷ bool ∷ [])
    ∷ (eq ∷ bool ∷ rec 5 0 0 0 ∷ [])
    ∷ (eq ∷ rec 7 1 0 0 ∷ v x ∷ bool ∷ rec 7 0 0 0 ∷ bool ∷ [])
    ∷ (eq ∷ seq ∷ v x ∷ bool ∷ [])
    ∷ (eq ∷ rec 2 a 0 0 ∷ rec 2 a 0 0 ∷ [])
    -- one variable to the power 1 counts as a variable, on either side; no other product does
    ∷ (eq ∷ dims 1 ∷ fv x 1 ∷ bool ∷ [])
    ∷ (eq ∷ seq ∷ v y ∷ dims 1 ∷ fv x 1 ∷ [])
    ∷ (eq ∷ dims 1 ∷ fv x 2 ∷ bool ∷ [])
    ∷ (eq ∷ dims 2 ∷ fv x 1 ∷ fv y 1 ∷ bool ∷ [])
    ∷ (eq ∷ dims 1 ∷ fp a 1 ∷ bool ∷ [])
    ∷ (rec 21 0 0 0 ∷ dims 1 ∷ fb L 1 ∷ [])
    ∷ (rec 21 0 0 0 ∷ bool ∷ [])
    ∷ (rec 21 0 0 0 ∷ rec 2 a 0 0 ∷ [])
    ∷ (rec 22 0 0 0 ∷ dims 0 ∷ [])
    ∷ (rec 22 0 0 0 ∷ dims 1 ∷ fp a 1 ∷ [])
    ∷ (rec 22 0 0 0 ∷ dims 1 ∷ fv x 1 ∷ [])
    ∷ (rec 23 x 0 0 ∷ bool ∷ bool ∷ [])
    -- one name as variable and parameter isn't checked here; not exactly one constraint is 1
    ∷ (eq ∷ v x ∷ rec 2 x 0 0 ∷ [])
    ∷ []
    ∷ (rec 21 0 0 0 ∷ bool ∷ rec 21 0 0 0 ∷ bool ∷ [])
    ∷ [])
    ≡ got (satisfied, 0)
    ∷ got (violated, 3)
    ∷ got (violated, 6)
    ∷ got (violated, 4)
    ∷ got (unknown, 3)
    ∷ got (unknown, 4)
    ∷ got (unknown, 5)
    ∷ got (violated, 4)
    ∷ got (violated, 5)
    ∷ got (violated, 4)
    ∷ got (satisfied, 0)
    ∷ got (violated, 2)
    ∷ got (unknown, 2)
    ∷ got (satisfied, 0)
    ∷ got (violated, 3)
    ∷ got (unknown, 3)
    ∷ got (unknown, 3)
    ∷ got (unknown, 3)
    ∷ refused 1
    ∷ refused 1
    ∷ []
unfolding rules counting pool table result
adding = refl

-- a set of 2,048 records in its buffer: is-dimension of x, 1,024 times
unfoldable full : ℕ → List ℕ
full zero = 9 ∷ []
full (suc n) = head 21 2 ∷ 0 ∷ 0 ∷ 0 ∷ head 1 1 ∷ x ∷ 0 ∷ 0 ∷ full n

-- what is Satisfied isn't stored, so it is no 8; the buffer stays on a refusal, and what is stored follows the set
storing : map (λ (c : List Rec). (addCall pool table (full 1024) 2048 (sizedWords c)).answer) ((rec 22 0 0 0 ∷ dims 0 ∷ []) ∷ (rec 21 0 0 0 ∷ v x ∷ [])
    ∷ []) ≡ got (satisfied, 2048) ∷ refused 8 ∷ []
unfolding rules counting pool table full
storing = refl

stored : take 13 (addCall pool table result 0 (sizedWords (rec 21 0 0 0 ∷ v x ∷ []))).buffer
    ++ drop 8188 (addCall pool table (full 1024) 2047 (sizedWords (rec 21 0 0 0 ∷ v x ∷ []))).buffer
    ≡ head 21 2 ∷ 0 ∷ 0 ∷ 0 ∷ head 1 1 ∷ x ∷ 0 ∷ 0 ∷ 7 ∷ 7 ∷ 7 ∷ 7 ∷ 7 ∷ head 1 1 ∷ x ∷ 0 ∷ 0 ∷ 9 ∷ []
unfolding rules counting pool table result full
stored = refl

-- ══ Solving ══

-- a set: the answer, and the words of the result
abbrev solves : List Rec → Solved × Got (List ℕ)
solves rs = (solvedOf (solvedSet (table_of pool table) (sizedWords rs)), solvedWords (solvedSet (table_of pool table) (sizedWords rs)))

solving : map solves (
    -- K14: equal-scalar x^(1/2) y^2147483647 is 7; with x^1 it is accepted
    (rec 22 0 0 0 ∷ dims 2 ∷ rec 11 x 1 2 ∷ fv y 2_147_483_647 ∷ [])
    ∷ (rec 22 0 0 0 ∷ dims 2 ∷ fv x 1 ∷ fv y 2_147_483_647 ∷ [])
    -- is-dimension of x a: bounds a and x, by bytes; of no factors: a round that adds nothing
    ∷ (rec 21 0 0 0 ∷ dims 2 ∷ fv x 1 ∷ fp a 1 ∷ [])
    ∷ (rec 21 0 0 0 ∷ dims 0 ∷ [])
    -- structs without arguments: a round, and their fields aren't compared
    ∷ (eq ∷ rec 8 P 0 1 ∷ rec 9 x 0 0 ∷ bool ∷ rec 8 P 0 1 ∷ rec 9 x 0 0 ∷ rec 5 0 0 0 ∷ [])
    -- 5: is-dimension of a variable isn't among what remains
    ∷ (rec 21 0 0 0 ∷ v x ∷ rec 21 0 0 0 ∷ bool ∷ [])
    -- x = y: the left is bound; a = x: the right; dimension y = list of x: rule 3
    ∷ (eq ∷ v x ∷ v y ∷ [])
    ∷ (eq ∷ rec 2 a 0 0 ∷ v x ∷ [])
    ∷ (eq ∷ dims 1 ∷ fv y 1 ∷ seq ∷ v x ∷ [])
    -- x = P of x: contained in an argument
    ∷ (eq ∷ v x ∷ rec 8 P 1 0 ∷ v x ∷ [])
    -- functions: returns, then parameters
    ∷ (eq ∷ rec 7 1 0 0 ∷ v x ∷ v y ∷ rec 7 1 0 0 ∷ bool ∷ rec 5 0 0 0 ∷ [])
    -- has-field on a closed struct; on an open one it stays
    ∷ (rec 23 x 0 0 ∷ rec 8 P 0 1 ∷ rec 9 x 0 0 ∷ bool ∷ v y ∷ [])
    ∷ (rec 23 x 0 0 ∷ rec 8 P 0 1 ∷ rec 9 x 0 0 ∷ v z ∷ v y ∷ [])
    ∷ [])
    ≡ (refusedAfter 7 0, refused 7)
    ∷ (solved 3 0 1, got (sizedWords (rec 24 x 0 0 ∷ dims 1 ∷ fv y (minus 2_147_483_647) ∷ [])))
    ∷ (solved 0 2 1, got (sizedWords (rec 25 a 0 0 ∷ rec 25 x 0 0 ∷ [])))
    ∷ (solved 0 0 1, got [])
    ∷ (solved 0 0 1, got [])
    ∷ (unsolved 2 0, got (sizedWords (rec 21 0 0 0 ∷ bool ∷ [])))
    ∷ (solved 2 0 1, got (sizedWords (rec 24 x 0 0 ∷ v y ∷ [])))
    ∷ (solved 2 0 1, got (sizedWords (rec 24 x 0 0 ∷ rec 2 a 0 0 ∷ [])))
    ∷ (solved 3 0 1, got (sizedWords (rec 24 y 0 0 ∷ seq ∷ v x ∷ [])))
    ∷ (unsolved 4 0, got (sizedWords (eq ∷ v x ∷ rec 8 P 1 0 ∷ v x ∷ [])))
    ∷ (solved 4 0 3, got (sizedWords (rec 24 y 0 0 ∷ rec 5 0 0 0 ∷ rec 24 x 0 0 ∷ bool ∷ [])))
    ∷ (solved 2 0 2, got (sizedWords (rec 24 y 0 0 ∷ bool ∷ [])))
    ∷ (unsolved 5 0, got (sizedWords (rec 23 x 0 0 ∷ rec 8 P 0 1 ∷ rec 9 x 0 0 ∷ v z ∷ v y ∷ [])))
    ∷ []
unfolding rules counting pool table
solving = refl

-- The ceiling's V: none; x twice and y are two; a parameter is none; x as variable and parameter is one, where solving is 4; a type is no set
ceilings : map (λ (rs : List Rec). ceilingCall pool table (sizedWords rs)) (
    []
    ∷ (eq ∷ v x ∷ seq ∷ v y ∷ eq ∷ v y ∷ v x ∷ [])
    ∷ (eq ∷ dims 2 ∷ fv x 1 ∷ fp a 1 ∷ rec 2 a 0 0 ∷ [])
    ∷ (eq ∷ v x ∷ rec 2 x 0 0 ∷ [])
    ∷ (v x ∷ [])
    ∷ [])
    ≡ got (record { variables = 0; rounds = 6_144 })
    ∷ got (record { variables = 2; rounds = 18_434 })
    ∷ got (record { variables = 1; rounds = 12_289 })
    ∷ got (record { variables = 1; rounds = 12_289 })
    ∷ refused 1
    ∷ []
unfolding rules counting pool table variablesOf ceilingCall
ceilings = refl

-- 'with at most 256 names that is 1,579,264'
highest : (ceilingFor 256).rounds ≡ 1_579_264
highest = refl

-- ══ Schemes ══

quantifying : map (λ (c : List Rec × List ℕ). quantified (table_of pool table) (sizedWords c.0) (sizedWords (rec 25 x 0 0 ∷ rec 25 y 0 0 ∷ [])) c.1) (
    -- x and a in turn; dimension a stays a product, and a name twice counts twice
    (rec 7 2 0 0 ∷ dims 1 ∷ fv x 1 ∷ dims 1 ∷ fp a 1 ∷ dims 2 ∷ fv x 1 ∷ fp a 2 ∷ [], x ∷ a ∷ x ∷ [])
    -- a number not held is 1; the handed names don't count for 4, the type's do
    ∷ (v x ∷ [], 6 ∷ [])
    ∷ (rec 7 1 0 0 ∷ v x ∷ rec 2 x 0 0 ∷ [], [])
    ∷ [])
    ≡ got (sized (rec 26 3 0 0 ∷ rec 7 2 0 0 ∷ rec 14 0 0 0 ∷ dims 1 ∷ rec 15 1 1 1 ∷ dims 2 ∷ rec 15 0 1 1 ∷ rec 15 1 2 1 ∷ rec 25 0 1 0 ∷ rec 25 y 0 0 ∷ []))
    ∷ refused 1
    ∷ refused 4
    ∷ []
unfolding rules counting pool table
quantifying = refl

-- sorted by bytes: a is 0, x is 1; bounds that the type doesn't contain go, repeats stay; a scheme not concrete is unchanged
generalising : map (λ (s : List Rec). generalised (table_of pool table) (sizedWords s) (sizedWords (rec 25 x 0 0 ∷ rec 25 y 0 0 ∷ rec 25 x 0 0
    ∷ []))) ((rec 26 0 1 0 ∷ rec 7 1 0 0 ∷ v x ∷ rec 2 a 0 0 ∷ []) ∷ (rec 26 1 0 0 ∷ v x ∷ rec 25 0 1 0 ∷ []) ∷ [])
    ≡ got (sized (rec 26 2 0 0 ∷ rec 7 1 0 0 ∷ rec 14 1 0 0 ∷ rec 14 0 0 0 ∷ rec 25 1 1 0 ∷ rec 25 1 1 0 ∷ []))
    ∷ got (sized (rec 26 1 0 0 ∷ v x ∷ rec 25 0 1 0 ∷ []))
    ∷ []
unfolding rules counting pool table
generalising = refl

instantiating : map (λ (c : List Rec × List ℕ). instantiated (table_of pool table) (sizedWords c.0) c.1) (
    -- q0^(1/2) q1^(1/2) at x, x is x itself; a product that was one variable before comes back as it too
    (rec 26 2 0 0 ∷ dims 2 ∷ rec 15 0 1 2 ∷ rec 15 1 1 2 ∷ rec 25 1 1 0 ∷ [], x ∷ x ∷ [])
    ∷ (rec 26 0 0 0 ∷ seq ∷ dims 1 ∷ fv y 1 ∷ rec 25 z 0 0 ∷ [], [])
    -- x^M q0^M q1^-M with x twice: equal variables are added from left to right
    ∷ (rec 26 2 0 0 ∷ dims 3 ∷ fv x 2_147_483_647 ∷ rec 15 0 2_147_483_647 1 ∷ rec 15 1 (minus 2_147_483_647) 1 ∷ [], x ∷ x ∷ [])
    -- 9: a wrong count, a concrete type; 1 and 4 come before it
    ∷ (rec 26 1 0 0 ∷ rec 14 0 0 0 ∷ [], [])
    ∷ (rec 26 0 1 0 ∷ bool ∷ [], [])
    ∷ (rec 26 0 1 0 ∷ bool ∷ [], 6 ∷ [])
    ∷ (rec 26 0 1 0 ∷ rec 7 1 0 0 ∷ v x ∷ rec 2 x 0 0 ∷ [], [])
    ∷ [])
    ≡ got (sized (v x ∷ rec 25 x 0 0 ∷ []))
    ∷ got (sized (seq ∷ v y ∷ rec 25 z 0 0 ∷ []))
    ∷ refused 7
    ∷ refused 9
    ∷ refused 9
    ∷ refused 1
    ∷ refused 4
    ∷ []
unfolding rules counting pool table
instantiating = refl

-- more than 2,048 handed names is 8, before 1
handed : quantified (table_of pool table) (sizedWords (v x ∷ [])) [] (replicate 2049 9)
    ∷ quantified (table_of pool table) (sizedWords (v x ∷ [])) [] (replicate 2048 9) ∷ [] ≡ refused 8 ∷ refused 1 ∷ []
unfolding rules counting pool table
handed = refl

-- ══ The judge ══

abbrev entry_of : ℕ → ℕ → Entry
entry_of n at = record { variable = n; place = at }

-- a set, entries and their record list, bounds
abbrev judges : List Rec × List Entry × List Rec × List Rec → Got Bool
judges c = judgedSet (table_of pool table) (sizedWords c.0) c.1 (sizedWords c.2) (sizedWords c.3)

judging : map judges (
    -- x = boolean, with x boolean: yes; with x string: no
    (eq ∷ v x ∷ bool ∷ [], entry_of x 0 ∷ [], bool ∷ rec 5 0 0 0 ∷ [], [])
    ∷ (eq ∷ v x ∷ bool ∷ [], entry_of x 1 ∷ [], bool ∷ rec 5 0 0 0 ∷ [], [])
    -- all at once: x = y with x by y and y by x holds not; with x by y alone it does
    ∷ (eq ∷ v x ∷ v y ∷ [], entry_of x 0 ∷ entry_of y 1 ∷ [], v y ∷ v x ∷ [], [])
    ∷ (eq ∷ v x ∷ v y ∷ [], entry_of x 0 ∷ [], v y ∷ [], [])
    -- and not one after another: x = boolean with x by y and y by boolean
    ∷ (eq ∷ v x ∷ bool ∷ [], entry_of x 0 ∷ entry_of y 1 ∷ [], v y ∷ bool ∷ [], [])
    -- a variable twice, a place past the list, a place where no type starts, bounds that don't rise: 1
    ∷ (eq ∷ v x ∷ bool ∷ [], entry_of x 0 ∷ entry_of x 0 ∷ [], bool ∷ [], [])
    ∷ (eq ∷ v x ∷ bool ∷ [], entry_of x 1 ∷ [], bool ∷ [], [])
    ∷ (eq ∷ v x ∷ bool ∷ [], entry_of x 0 ∷ [], eq ∷ bool ∷ [], [])
    ∷ ([], [], [], rec 25 x 0 0 ∷ rec 25 a 0 0 ∷ [])
    -- records that no entry points to are not looked at
    ∷ (eq ∷ v x ∷ bool ∷ [], entry_of x 1 ∷ [], rec 99 9 9 9 ∷ bool ∷ [], [])
    -- 4: an entry's variable that is a parameter of the set
    ∷ (eq ∷ rec 2 a 0 0 ∷ bool ∷ [], entry_of a 0 ∷ [], bool ∷ [], [])
    -- 6 counts as failure; the first failure decides, before a later 7
    ∷ (rec 22 0 0 0 ∷ dims 1 ∷ fv x 1 ∷ [], entry_of x 0 ∷ [], bool ∷ [], [])
    ∷ (eq ∷ bool ∷ rec 5 0 0 0 ∷ rec 22 0 0 0 ∷ dims 2 ∷ fv x 1 ∷ fv y 2_147_483_647 ∷ [], entry_of x 0 ∷ [], v y ∷ [], [])
    ∷ (rec 22 0 0 0 ∷ dims 2 ∷ fv x 1 ∷ fv y 2_147_483_647 ∷ eq ∷ bool ∷ rec 5 0 0 0 ∷ [], entry_of x 0 ∷ [], v y ∷ [], [])
    -- a single variable to the power 1 means the variable; a single parameter isn't the parameter; fields aren't compared
    ∷ (eq ∷ seq ∷ dims 1 ∷ fv x 1 ∷ seq ∷ v x ∷ [], [], [], [])
    ∷ (eq ∷ dims 1 ∷ fp a 1 ∷ rec 2 a 0 0 ∷ [], [], [], [])
    ∷ (eq ∷ rec 8 P 0 1 ∷ rec 9 x 0 0 ∷ bool ∷ rec 8 P 0 0 ∷ [], [], [], [])
    -- is-dimension: open names among the bounds; has-field on an open struct
    ∷ (rec 21 0 0 0 ∷ v x ∷ [], [], [], rec 25 x 0 0 ∷ [])
    ∷ (rec 21 0 0 0 ∷ v x ∷ [], [], [], rec 25 y 0 0 ∷ [])
    ∷ (rec 21 0 0 0 ∷ bool ∷ [], [], [], [])
    ∷ (rec 23 x 0 0 ∷ rec 8 P 0 1 ∷ rec 9 x 0 0 ∷ v z ∷ v z ∷ [], [], [], [])
    ∷ [])
    ≡ got true ∷ got false ∷ got false ∷ got true ∷ got false ∷ refused 1 ∷ refused 1 ∷ refused 1 ∷ refused 1 ∷ got true ∷ refused 4 ∷ got false ∷ got false
    ∷ refused 7 ∷ got true ∷ got false ∷ got true ∷ got true ∷ got false ∷ got false ∷ got true ∷ []
unfolding rules counting pool table
judging = refl
