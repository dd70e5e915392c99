-- Lines by computation: each kind of step, each refusal with its number, and the run of the same line.
use Rattle.std.specs.Prelude.{◌≡◌, refl, List, [], ◌∷◌, ◌++◌, map, ℕ, zero, suc, ◌+◌, pos, negsuc, length, replicate, take}
use Rattle.rules.specs.Base.{Got, got, refused, ◌>>=◌, collect}
use Rattle.rules.specs.Exponents.{frac}
use Rattle.rules.specs.Trees.{var, par, base, Factor, ◌↑◌, Ty, opened, basic, dim, fn, struct, Tys, nil, cons, noFields, field, boolean, size}
use Rattle.rules.specs.Names.{table_of, numbersOf}
use Rattle.rules.specs.Writing.{Rec, words, writeTy}
use Rattle.rules.specs.Rules.{rules}
use Rattle.rules.specs.Steps.{
  adds,
  LineStep,
  constant,
  raises,
  joins,
  chooses,
  takes,
  whole,
  stepWords,
  stepKind,
  zeros,
  number_at,
  constantAt,
  referenceTo,
  raiseBy,
  step_of,
  stepGiven,
  lineGiven,
}
use Rattle.rules.specs.Lines.{
  twoFactors,
  issuedByTwo,
  issued,
  constraints,
  last_of,
  settled,
  agreed,
  settledSet,
  agreedSet,
  lineType,
  namesOfTy,
  namesOfStep,
  fresh,
  lineLent,
  lineShort,
  checkedLine,
  checkLineCall,
}
use Rattle.rules.specs.Running.{
  Fault,
  missing,
  notDimension,
  unequal,
  notBoolean,
  powers,
  Ran,
  ran,
  fault,
  dimensionOf,
  alike,
  isCondition,
  sameDimensions,
  ofDimensions,
  doesTwo,
  does,
  run_from,
  runLine,
}

-- every definition of the three files under one name
unfoldable pub lines : Type 0
unfolding rules takes whole stepWords stepKind zeros number_at constantAt referenceTo raiseBy step_of stepGiven lineGiven twoFactors issuedByTwo issued
    constraints last_of settled agreed settledSet agreedSet lineType namesOfTy namesOfStep fresh lineLent lineShort checkedLine checkLineCall dimensionOf
    alike isCondition sameDimensions ofDimensions doesTwo does run_from runLine
lines = Unit {0}

-- ══ Names: k (kilometre), h (hour), m (money), P and Q (records), x (open), f (a field), and a to g, which are lent ══

abbrev pub k : ℕ
k = 0

abbrev pub h : ℕ
h = 1

abbrev m : ℕ
m = 2

abbrev P : ℕ
P = 3

abbrev Q : ℕ
Q = 4

abbrev x : ℕ
x = 5

abbrev f : ℕ
f = 6

unfoldable pub pool : List ℕ
pool = 107 ∷ 104 ∷ 109 ∷ 80 ∷ 81 ∷ 120 ∷ 102 ∷ 97 ∷ 98 ∷ 99 ∷ 100 ∷ 101 ∷ 110 ∷ replicate 8179 0

unfoldable pub table : List ℕ
table = 13 ∷ 1 ∷ 2 ∷ 3 ∷ 4 ∷ 5 ∷ 6 ∷ 7 ∷ 8 ∷ 9 ∷ 10 ∷ 11 ∷ 12 ∷ 13 ∷ replicate 243 0

abbrev pub lent : List ℕ
lent = 7 ∷ 8 ∷ 9 ∷ 10 ∷ 11 ∷ 12 ∷ []

unfoldable pub result : List ℕ
result = replicate 8192 7

unfoldable pub work : List ℕ
work = replicate 16384 9

-- ══ Types, each one behind the one before ══

abbrev pub to : ℕ → ℕ → Factor ℕ
to b n = base b ↑ frac (pos n) 1

abbrev pub under : ℕ → ℕ → Factor ℕ
under b n = base b ↑ frac (negsuc n) 1

-- a record of a payee whose field f is of that type
abbrev payee : ℕ → Ty ℕ → Ty ℕ
payee n t = struct n nil (field f t noFields)

abbrev bool : Ty ℕ
bool = basic boolean

-- kilometres, hours, money, a boolean, the scalar, the variable x, kilometres squared, P with field f, Q with field f, the parameter x, hours^M, P without
-- fields
abbrev pub kinds : List (Ty ℕ)
kinds =
    dim (to k 1 ∷ [])
    ∷ dim (to h 1 ∷ [])
    ∷ dim (to m 1 ∷ [])
    ∷ bool
    ∷ dim []
    ∷ opened (var x)
    ∷ dim (to k 2 ∷ [])
    ∷ payee P bool
    ∷ payee Q bool
    ∷ opened (par x)
    ∷ dim (to h 2_147_483_647 ∷ [])
    ∷ struct P nil noFields
    ∷ []

-- where the n-th of them starts
unfoldable pub placed : ℕ → List (Ty ℕ) → ℕ
placed n [] = 0
placed zero (t ∷ ts) = 0
placed (suc n) (t ∷ ts) = size t + placed n ts

abbrev pub types : List ℕ
types = words (collect writeTy kinds)

-- the earlier line n is of the n-th of them
abbrev pub earlier : List ℕ
earlier = map (λ (n : ℕ). placed n kinds) (0 ∷ 1 ∷ 2 ∷ 3 ∷ 4 ∷ 5 ∷ 6 ∷ 7 ∷ 8 ∷ 9 ∷ 10 ∷ 11 ∷ [])

-- ══ Steps ══

-- a constant of the n-th type; a reference to the earlier line n
abbrev pub c : ℕ → List ℕ
c n = 1 ∷ placed n kinds ∷ 0 ∷ 0 ∷ []

abbrev pub r : ℕ → List ℕ
r n = 2 ∷ n ∷ 0 ∷ 0 ∷ []

abbrev pub op : ℕ → List ℕ
op n = n ∷ 0 ∷ 0 ∷ 0 ∷ []

abbrev raise : ℕ → ℕ → List ℕ
raise n d = 7 ∷ 0 ∷ n ∷ d ∷ []

abbrev check : List (List ℕ) → Got (List Rec)
check steps = checkedLine (table_of pool table) (collect (λ s. s) steps) types earlier lent

abbrev of : Ty ℕ → Got (List Rec)
of t = got (writeTy t)

-- what is left after the run of a line
unfoldable ranOf : Got (List (LineStep ℕ)) → Ran (List (Ty ℕ))
ranOf (got ss) = runLine (numbersOf (table_of pool table)) ss
ranOf (refused n) = fault (powers n)

abbrev run : List (List ℕ) → Ran (List (Ty ℕ))
run steps = ranOf (lineGiven (table_of pool table) (collect (λ s. s) steps) types earlier)

-- ══ Each kind of step ══

-- kilometres; a reference to hours; kilometres + kilometres; - ; kilometres times hours; divided by hours; kilometres < kilometres;
-- a boolean chooses between hours and hours
abbrev good : List (List (List ℕ))
good =
    (c 0 ∷ [])
    ∷ (r 1 ∷ [])
    ∷ (c 0 ∷ r 0 ∷ op 3 ∷ [])
    ∷ (c 0 ∷ r 0 ∷ op 4 ∷ [])
    ∷ (c 0 ∷ r 1 ∷ op 5 ∷ [])
    ∷ (c 0 ∷ r 1 ∷ op 6 ∷ [])
    ∷ (c 0 ∷ r 0 ∷ op 8 ∷ [])
    ∷ (r 3 ∷ c 1 ∷ r 1 ∷ op 9 ∷ [])
    ∷ []

abbrev answers : List (Ty ℕ)
answers =
    dim (to k 1 ∷ [])
    ∷ dim (to h 1 ∷ [])
    ∷ dim (to k 1 ∷ [])
    ∷ dim (to k 1 ∷ [])
    ∷ dim (to h 1 ∷ to k 1 ∷ [])
    ∷ dim (under h 0 ∷ to k 1 ∷ [])
    ∷ bool
    ∷ dim (to h 1 ∷ [])
    ∷ []

each_step : map check good ≡ map of answers
unfolding lines pool table placed
each_step = refl

each-run : map run good ≡ map (λ (t : Ty ℕ). ran (t ∷ [])) answers
unfolding lines pool table placed ranOf
each-run = refl

-- ══ Each refusal ══

-- lines that are refused by the solver, each with its number
abbrev bad : List (List (List ℕ))
bad =
    -- kilometres plus hours, compared with hours
    (c 0 ∷ c 1 ∷ op 3 ∷ [])
    ∷ (c 0 ∷ c 1 ∷ op 8 ∷ [])
    -- a boolean multiplied, added, raised to 0, to 1 and to 2
    ∷ (c 3 ∷ c 0 ∷ op 5 ∷ [])
    ∷ (c 3 ∷ c 3 ∷ op 3 ∷ [])
    ∷ (c 3 ∷ raise 0 1 ∷ [])
    ∷ (c 3 ∷ raise 1 1 ∷ [])
    ∷ (c 3 ∷ raise 2 1 ∷ [])
    -- a condition that is money; arms that differ
    ∷ (c 2 ∷ c 0 ∷ c 0 ∷ op 9 ∷ [])
    ∷ (c 3 ∷ c 0 ∷ c 1 ∷ op 9 ∷ [])
    -- a payee's record compared with another's, and chosen beside another's
    ∷ (c 7 ∷ c 8 ∷ op 8 ∷ [])
    ∷ (c 3 ∷ c 7 ∷ c 8 ∷ op 9 ∷ [])
    ∷ []

refusals : map check bad
    ≡ refused 5 ∷ refused 5 ∷ refused 6 ∷ refused 5 ∷ refused 5 ∷ refused 5 ∷ refused 6 ∷ refused 5 ∷ refused 5 ∷ refused 5 ∷ refused 5 ∷ []
unfolding lines pool table placed
refusals = refl

faults : map run bad ≡ map (λ (f : Fault). fault f) (unequal ∷ unequal ∷ notDimension ∷ notDimension ∷ notDimension ∷ notDimension ∷ notDimension
    ∷ notBoolean ∷ unequal ∷ notDimension ∷ unequal ∷ [])
unfolding lines pool table placed ranOf
faults = refl

-- a missing operand is found first: a boolean alone, then add; nothing, then raise
missing-found : map (runLine (numbersOf (table_of pool table))) ((constant bool ∷ joins adds ∷ []) ∷ (raises (frac (pos 1) 1) ∷ []) ∷ (chooses ∷ []) ∷ [])
    ≡ replicate 3 (fault missing)
unfolding lines pool table
missing-found = refl

-- ══ Powers ══

-- kilometres squared to the power 0, 1/2, 2, -2147483647 (which doubles it: 7), kilometres to -2147483647; hours^M times hours: 7, though it runs
abbrev powered : List (List (List ℕ))
powered =
    (c 6 ∷ raise 0 1 ∷ [])
    ∷ (c 6 ∷ raise 1 2 ∷ [])
    ∷ (c 6 ∷ raise 2 1 ∷ [])
    ∷ (c 6 ∷ raise 2_147_483_649 1 ∷ [])
    ∷ (c 0 ∷ raise 2_147_483_649 1 ∷ [])
    ∷ (c 10 ∷ c 1 ∷ op 5 ∷ [])
    ∷ []

raised-to : map check powered
    ≡ of (dim []) ∷ of (dim (to k 1 ∷ [])) ∷ of (dim (to k 4 ∷ [])) ∷ refused 7 ∷ of (dim (under k 2_147_483_646 ∷ [])) ∷ refused 7 ∷ []
unfolding lines pool table placed
raised-to = refl

-- the run is in exact powers
raised-run : map run powered
    ≡ map (λ (t : Ty ℕ). ran (t ∷ [])) (dim [] ∷ dim (to k 1 ∷ []) ∷ dim (to k 4 ∷ []) ∷ dim (under k 4_294_967_293 ∷ []) ∷ dim (under k 2_147_483_646 ∷ [])
    ∷ dim (to h 2_147_483_648 ∷ []) ∷ [])
unfolding lines pool table placed ranOf
raised-run = refl

-- fractions that are no exponent of the rules: 0/2, 2/4, 1/0, -2147483648
no-exponent : map check ((c 0 ∷ raise 0 2 ∷ []) ∷ (c 0 ∷ raise 2 4 ∷ []) ∷ (c 0 ∷ raise 1 0 ∷ []) ∷ (c 0 ∷ raise 2_147_483_648 1 ∷ []) ∷ [])
    ≡ refused 1 ∷ refused 1 ∷ refused 1 ∷ refused 1 ∷ []
unfolding lines pool table placed
no-exponent = refl

-- ══ Structs mean the same by name and arguments ══

-- P with a field chosen beside P without: the type of the first arm
arms : check (c 3 ∷ c 7 ∷ c 11 ∷ op 9 ∷ []) ∷ check (c 3 ∷ c 11 ∷ c 7 ∷ op 9 ∷ []) ∷ [] ≡ of (payee P bool) ∷ of (struct P nil noFields) ∷ []
unfolding lines pool table placed
arms = refl

-- ══ Open references ══

-- x + kilometres is kilometres; x alone is x; x compared with itself is boolean; x as a condition of x and x; the variable and the parameter x: 4
open-lines : map check ((r 5 ∷ c 0 ∷ op 3 ∷ []) ∷ (r 5 ∷ []) ∷ (r 5 ∷ r 5 ∷ op 8 ∷ []) ∷ (r 5 ∷ r 5 ∷ r 5 ∷ op 9 ∷ []) ∷ (r 5 ∷ r 9 ∷ op 3 ∷ []) ∷ [])
    ≡ of (dim (to k 1 ∷ [])) ∷ of (opened (var x)) ∷ of bool ∷ of bool ∷ refused 4 ∷ []
unfolding lines pool table placed
open-lines = refl

-- 11: the scalar times a parameter. The solver accepts, since a product of one variable is replaced by its type, and the judge says no; the
-- other way round it is 6; with a closed reference in its place it is accepted
eleven : map check ((c 4 ∷ r 9 ∷ op 5 ∷ []) ∷ (r 9 ∷ c 4 ∷ op 5 ∷ []) ∷ (c 4 ∷ r 1 ∷ op 5 ∷ []) ∷ []) ≡ refused 11 ∷ refused 6 ∷ of (dim (to h 1 ∷ [])) ∷ []
unfolding lines pool table placed
eleven = refl

-- ══ Not well formed: 1 ══

-- a missing operand; two types left; no step; an unknown step; unused words; an unknown reference; a constant that isn't closed; a place where
-- no type starts, and one behind the types; steps that are no whole records
not-formed : map check (
    (c 0 ∷ op 3 ∷ [])
    ∷ (raise 1 1 ∷ [])
    ∷ (c 3 ∷ c 0 ∷ op 9 ∷ [])
    ∷ (c 0 ∷ c 0 ∷ [])
    ∷ []
    ∷ (op 0 ∷ [])
    ∷ (c 0 ∷ op 10 ∷ [])
    ∷ ((1 ∷ 0 ∷ 1 ∷ 0 ∷ []) ∷ [])
    ∷ ((2 ∷ 0 ∷ 0 ∷ 1 ∷ []) ∷ [])
    ∷ (c 0 ∷ c 0 ∷ (3 ∷ 1 ∷ 0 ∷ 0 ∷ []) ∷ [])
    ∷ (c 0 ∷ (7 ∷ 1 ∷ 1 ∷ 1 ∷ []) ∷ [])
    ∷ (r 12 ∷ [])
    ∷ (c 5 ∷ [])
    ∷ ((1 ∷ 1 ∷ 0 ∷ 0 ∷ []) ∷ [])
    ∷ ((1 ∷ 99 ∷ 0 ∷ 0 ∷ []) ∷ [])
    ∷ ((1 ∷ 0 ∷ 0 ∷ []) ∷ [])
    ∷ [])
    ≡ replicate 16 (refused 1)
unfolding lines pool table placed
not-formed = refl

-- ══ Lent names ══

abbrev lending : List ℕ → List (List ℕ) → Got ℕ
lending names steps = (checkLineCall pool table (collect (λ s. s) steps) types earlier names result work).answer

-- kilometres + kilometres with three names, two (10), one twice (4), one that is the dimension of a type (4), one not held (3), a fourth that
-- is twice or not held; P's field as a name: 4, P itself: 4; x, a variable of no type of the line: fine; 1 comes before 4
lent-names : map (λ (names : List ℕ). lending names (c 0 ∷ c 0 ∷ op 3 ∷ [])) (
    (7 ∷ 8 ∷ 9 ∷ [])
    ∷ (7 ∷ 8 ∷ [])
    ∷ (7 ∷ 8 ∷ 7 ∷ [])
    ∷ (7 ∷ 8 ∷ k ∷ [])
    ∷ (7 ∷ 8 ∷ 13 ∷ [])
    ∷ (7 ∷ 8 ∷ 9 ∷ 8 ∷ [])
    ∷ (7 ∷ 8 ∷ 9 ∷ 13 ∷ [])
    ∷ (13 ∷ 13 ∷ 9 ∷ [])
    ∷ (x ∷ h ∷ f ∷ [])
    ∷ [])
    ++ lending (f ∷ []) (c 7 ∷ []) ∷ lending (P ∷ []) (r 7 ∷ []) ∷ lending (x ∷ []) (r 5 ∷ []) ∷ lending (x ∷ []) (r 9 ∷ [])
    ∷ lending (7 ∷ 7 ∷ []) (c 0 ∷ c 0 ∷ []) ∷ []
    ≡ got 2 ∷ refused 10 ∷ refused 4 ∷ refused 4 ∷ refused 3 ∷ refused 4 ∷ refused 3 ∷ refused 4 ∷ got 2 ∷ refused 4 ∷ refused 4 ∷ refused 4 ∷ refused 4
    ∷ refused 1 ∷ []
unfolding lines pool table placed result work
lent-names = refl

-- ══ Sizes ══

-- n names from the number i on, which need not be held
unfoldable up_from : ℕ → ℕ → List ℕ
up_from i zero = []
up_from i (suc n) = i ∷ up_from (suc i) n

-- a line of n steps that is well formed: a boolean raised again and again. Under the names lent here 128 steps come as far as 3, 129 are 8
long : map (λ (n : ℕ). (checkLineCall pool table (c 0 ++ collect (λ s. s) (replicate n (raise 1 1))) types earlier (up_from 7 200) result work).answer) (127
    ∷ 128 ∷ []) ≡ refused 3 ∷ refused 8 ∷ []
unfolding lines pool table placed result work up_from
long = refl

-- over 512 words is 8, also where they are no whole records; so are 8,193 words of types, 2,049 earlier lines or names; 10 comes first
sizes : map (λ (n : ℕ). (checkLineCall pool table (replicate n 0) types earlier (up_from 7 129) result work).answer) (511 ∷ 513 ∷ 517 ∷ [])
    ++ map (λ (n : ℕ). (checkLineCall pool table (c 0) (replicate n 0) earlier (7 ∷ []) result work).answer) (8192 ∷ 8193 ∷ 1 ∷ [])
    ++ map (λ (n : ℕ). (checkLineCall pool table (c 0) types (replicate n 0) (7 ∷ []) result work).answer) (2048 ∷ 2049 ∷ [])
    ++ map (λ (n : ℕ). (checkLineCall pool table (c 0) types earlier (replicate n 7) result work).answer) (2048 ∷ 2049 ∷ [])
    ≡ refused 1 ∷ refused 8 ∷ refused 10 ∷ refused 1 ∷ refused 8 ∷ refused 1 ∷ got 2 ∷ refused 8 ∷ refused 4 ∷ refused 8 ∷ []
unfolding lines pool table placed result work up_from
sizes = refl

-- a function of n booleans
unfoldable params : ℕ → Tys ℕ
params zero = nil
params (suc n) = cons bool (params n)

-- chosen beside itself: with 400 parameters the line has that type, with 1,015 its set has 2,050 records: 8
abbrev chosen-large : ℕ → Got (List Rec)
chosen-large n = checkedLine (table_of pool table) (1 ∷ 0 ∷ 0 ∷ 0 ∷ 1 ∷ 1 ∷ 0 ∷ 0 ∷ 1 ∷ 1 ∷ 0 ∷ 0
    ∷ op 9) (words (writeTy bool ++ writeTy (fn (params n) bool))) [] lent

large : map (λ (n : ℕ). chosen-large n >>= λ rs. got (length rs)) (400 ∷ 1015 ∷ []) ≡ got 402 ∷ refused 8 ∷ []
unfolding lines pool table params
large = refl

-- the buffers: the type at the front, and then what was there; the work buffer zero, also on a refusal; 10 changes nothing
buffers : take 13 (checkLineCall pool table (c 0 ++ c 1 ++ op 6) types earlier lent result work).result
    ++ take 1 (checkLineCall pool table (c 0 ++ c 1 ++ op 3) types earlier lent result work).result
    ++ take 1 (checkLineCall pool table (c 0 ++ c 1 ++ op 3) types earlier lent result work).work
    ++ take 1 (checkLineCall pool table (c 0 ++ c 1 ++ op 3) types earlier [] result work).work
    ≡ words (writeTy (dim (under h 0 ∷ to k 1 ∷ []))) ++ 7 ∷ 7 ∷ 0 ∷ 9 ∷ []
unfolding lines pool table placed result work
buffers = refl

-- ══ Where the order of the lent names shows ══

-- 64 base dimensions, the bytes 48 to 111, and three names behind them that are lent
unfoldable bytes : ℕ → ℕ → List ℕ
bytes i zero = []
bytes i (suc n) = i ∷ bytes (suc i) n

unfoldable many : List ℕ
unfolding bytes
many = bytes 48 67 ++ replicate 8125 0

unfoldable manyEnds : List ℕ
unfolding bytes
manyEnds = 67 ∷ bytes 1 67 ++ replicate 189 0

unfoldable factors : ℕ → ℕ → List (Factor ℕ)
factors i zero = []
factors i (suc n) = to i 1 ∷ factors (suc i) n

-- the scalar times a product of 64 factors: the judge puts the operands in by the order of their names, so that in the second lending 64 factors stand
-- beside a variable: 8. In three steps, and only the judge's 8 shows it (crates/theorems_lines/specs/Theorems: `lent-names`)
by_order : map (λ (names : List ℕ). checkedLine (table_of many manyEnds) (1 ∷ 0 ∷ 0 ∷ 0 ∷ 1 ∷ 1 ∷ 0 ∷ 0
    ∷ op 5) (words (writeTy (dim []) ++ writeTy (dim (factors 0 64)))) [] names) ((64 ∷ 65 ∷ 66 ∷ []) ∷ (65 ∷ 64 ∷ 66 ∷ []) ∷ [])
    ≡ of (dim (factors 0 64)) ∷ refused 8 ∷ []
unfolding lines many manyEnds bytes factors
by_order = refl
