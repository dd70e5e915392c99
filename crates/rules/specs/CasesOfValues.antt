-- Small cases of the calls on exponents, names and products, by computation.
use Rattle.std.specs.Prelude.{◌≡◌, refl, true, false, List, [], ◌∷◌, ◌++◌, map, ℕ, zero, suc, pos, negsuc, length, replicate, take, drop}
use Rattle.rules.specs.Base.{Got, got, refused, ◌>>=◌}
use Rattle.rules.specs.Exponents.{Exp, frac, nought, one}
use Rattle.rules.specs.Trees.{var, quant, par, free, base, ◌↑◌}
use Rattle.rules.specs.Names.{Entered, enter, hasRoom, nameAsked}
use Rattle.rules.specs.declared.Was.{Was}
use Rattle.rules.specs.declared.Was.TheVariants.{New, Known}
use Rattle.rules.specs.Values.{sumCall, timesCall, negationCall, quotientCall, FactorValue, ProductValue, multiplyCall, divideCall, inverseCall, raiseCall}
use Rattle.rules.specs.Rules.{rules}
use Rattle.rules.specs.Examples.{pool, table, x, y, a, L}

-- ══ Exponents ══

abbrev most : ℕ
most = 2_147_483_647

-- exact, then reduced; 7 at the edges of the range; 1 for what isn't an exponent: 2/4, 1/0, 0/2, the numerator -2,147,483,648
sums : map (λ (c : Exp × Exp). sumCall c.0 c.1) (
    (frac (pos 1) 2, frac (pos 1) 3)
    ∷ (frac (pos 1) 2, frac (negsuc 0) 2)
    ∷ (frac (pos most) 1, nought)
    ∷ (frac (pos most) 1, one)
    ∷ (frac (negsuc 2_147_483_646) 1, frac (negsuc 0) 1)
    ∷ (frac (pos 1) most, frac (pos 1) 2)
    ∷ (frac (pos 2) 4, one)
    ∷ (one, frac (pos 1) 0)
    ∷ (frac (pos 0) 2, one)
    ∷ (frac (negsuc 2_147_483_647) 1, one)
    ∷ (one, frac (pos 1) 2_147_483_648)
    ∷ [])
    ≡ got (frac (pos 5) 6) ∷ got nought ∷ got (frac (pos most) 1) ∷ refused 7 ∷ refused 7 ∷ refused 7 ∷ refused 1 ∷ refused 1 ∷ refused 1 ∷ refused 1
    ∷ refused 1 ∷ []
unfolding rules
sums = refl

products : map (λ (c : Exp × Exp). timesCall c.0 c.1) ((frac (pos 2) 3, frac (negsuc 2) 4) ∷ (nought, frac (pos 5) 7) ∷ (frac (pos most) 2, frac (pos 2) 1)
    ∷ (frac (pos 1) most, frac (pos 1) 2) ∷ (frac (pos 2) 2, one) ∷ [])
    ≡ got (frac (negsuc 0) 2) ∷ got nought ∷ got (frac (pos most) 1) ∷ refused 7 ∷ refused 1 ∷ []
unfolding rules
products = refl

negations : map negationCall (frac (pos 1) 2 ∷ nought ∷ frac (negsuc 2_147_483_646) 1 ∷ frac (negsuc 2_147_483_647) 1 ∷ [])
    ≡ got (frac (negsuc 0) 2) ∷ got nought ∷ got (frac (pos most) 1) ∷ refused 1 ∷ []
unfolding rules
negations = refl

-- by 0: 7; a malformed exponent comes first
quotients : map (λ (c : Exp × Exp). quotientCall c.0 c.1) ((frac (pos 1) 2, frac (negsuc 2) 4) ∷ (one, nought) ∷ (nought, nought) ∷ (frac (pos 2) 4, nought)
    ∷ (frac (pos most) 1, frac (pos 1) 2) ∷ (nought, frac (negsuc 1) 3) ∷ [])
    ≡ got (frac (negsuc 1) 3) ∷ refused 7 ∷ refused 7 ∷ refused 1 ∷ refused 7 ∷ got nought ∷ []
unfolding rules
quotients = refl

-- ══ Names ══

-- what is seen of entering: the answer, the pool's first ten bytes, the table's first ten words
abbrev seen : Entered → Got (ℕ × Was) × List ℕ × List ℕ
seen e = (e.answer, take 10 e.pool, take 10 e.table)

abbrev before : Got (ℕ × Was) → Got (ℕ × Was) × List ℕ × List ℕ
before g = (g, 120 ∷ 121 ∷ 122 ∷ 97 ∷ 76 ∷ 80 ∷ 0 ∷ 0 ∷ 0 ∷ 0 ∷ [], 6 ∷ 1 ∷ 2 ∷ 3 ∷ 4 ∷ 5 ∷ 6 ∷ 0 ∷ 0 ∷ 0 ∷ [])

-- z is held as 2 and known; 'hi' is new and gets 6, at the first free byte; no byte and 49 bytes are 2
entered : map (λ (n : List ℕ). seen (enter pool table n)) ((122 ∷ []) ∷ (104 ∷ 105 ∷ []) ∷ [] ∷ replicate 49 65 ∷ [])
    ≡ before (got (2, Known))
    ∷ (got (6, New), 120 ∷ 121 ∷ 122 ∷ 97 ∷ 76 ∷ 80 ∷ 104 ∷ 105 ∷ 0 ∷ 0 ∷ [], 7 ∷ 1 ∷ 2 ∷ 3 ∷ 4 ∷ 5 ∷ 6 ∷ 8 ∷ 0 ∷ 0 ∷ [])
    ∷ before (refused 2)
    ∷ before (refused 2)
    ∷ []
unfolding rules pool table
entered = refl

-- a name of 48 bytes is good
longest : (enter pool table (replicate 48 65)).answer ≡ got (6, New)
unfolding rules pool table
longest = refl

-- a table that is full: 256 names of one byte each, byte after byte
unfoldable up_to : ℕ → ℕ → List ℕ
up_to from zero = []
up_to from (suc n) = from ∷ up_to (suc from) n

abbrev fullPool : List ℕ
fullPool = up_to 0 256 ++ replicate 7936 0

abbrev fullTable : List ℕ
fullTable = 256 ∷ up_to 1 256

-- in it a known name is found and said to be known, an unknown one is 3
whenFull : map (λ (n : List ℕ). (enter fullPool fullTable n).answer) ((255 ∷ []) ∷ (65 ∷ 66 ∷ []) ∷ []) ≡ got (255, Known) ∷ refused 3 ∷ []
unfolding rules up_to
whenFull = refl

-- 'fewer free pool bytes than its length': with 32 bytes free a name of 32 has room and one of 33 has none; with 256 names held none has
room : map (λ (n : ℕ). hasRoom (record { count = 1; ends = 8160 ∷ []; pool = [] }) (replicate n 65)) (32 ∷ 33 ∷ [])
    ++ hasRoom (record { count = 256; ends = up_to 1 256; pool = [] }) (65 ∷ []) ∷ [] ≡ true ∷ false ∷ false ∷ []
unfolding rules up_to
room = refl

-- tables that aren't well formed: 257 names, an end that doesn't rise, a name of 49 bytes, a name twice, an end past the pool
malformed : map (λ (t : List ℕ). (enter (replicate 8192 0) t (65 ∷ [])).answer) (
    (257 ∷ replicate 256 1)
    ∷ (2 ∷ 1 ∷ 1 ∷ replicate 254 0)
    ∷ (1 ∷ 49 ∷ replicate 255 0)
    ∷ (2 ∷ 1 ∷ 2 ∷ replicate 254 0)
    ∷ (1 ∷ 8193 ∷ replicate 255 0)
    ∷ [])
    ≡ refused 1 ∷ refused 1 ∷ refused 1 ∷ refused 1 ∷ refused 1 ∷ []
unfolding rules
malformed = refl

-- short pool, short table: 10, before 1 and 2. What lies behind 8,192 bytes and 257 words is neither read nor changed
tooShort : (enter (replicate 8191 0) (257 ∷ replicate 256 1) []).answer ∷ (enter pool (replicate 256 0) []).answer ∷ [] ≡ refused 10 ∷ refused 10 ∷ []
unfolding rules pool
tooShort = refl

behind : drop 8192 (enter (pool ++ 5 ∷ []) (table ++ 6 ∷ []) (65 ∷ [])).pool ++ drop 257 (enter (pool ++ 5 ∷ []) (table ++ 6 ∷ []) (65 ∷ [])).table ≡ 5 ∷ 6 ∷ []
unfolding rules pool table
behind = refl

asked : map (nameAsked pool table) (0 ∷ 5 ∷ 6 ∷ []) ≡ got (120 ∷ []) ∷ got (80 ∷ []) ∷ refused 3 ∷ []
unfolding rules pool table
asked = refl

-- ══ Products ══

abbrev power : ℕ → ℕ → Exp → FactorValue
power k n e = record { kind = k; name = n; exp = e }

-- a value of these factors; the unused places are not looked at
abbrev value : List FactorValue → ProductValue
value fs = record { factors = fs ++ replicate 64 (power 9 9 nought); len = length fs }

-- x a^2 L^-1 times x^-1 L: parameters come before base dimensions, and zeros are dropped
multiplied : multiplyCall pool table (value (power 11 x one ∷ power 12 a (frac (pos 2) 1) ∷ power 13 L (frac (negsuc 0) 1)
    ∷ [])) (value (power 11 x (frac (negsuc 0) 1) ∷ power 13 L one ∷ []))
    ≡ got (free (par a) ↑ frac (pos 2) 1 ∷ [])
unfolding rules pool table
multiplied = refl

-- the order: named variables, quantified variables, parameters, base dimensions (L comes before a by its byte, and stands behind it)
ordered : multiplyCall pool table (value (power 13 L one ∷ [])) (value (power 12 a one ∷ []))
    ∷ multiplyCall pool table (value (power 12 a one ∷ [])) (value (power 15 3 one ∷ []))
    ∷ multiplyCall pool table (value (power 15 3 one ∷ [])) (value (power 11 y one ∷ [])) ∷ []
    ≡ got (free (par a) ↑ one ∷ base L ↑ one ∷ [])
    ∷ got (free (quant 3) ↑ one ∷ free (par a) ↑ one ∷ [])
    ∷ got (free (var y) ↑ one ∷ free (quant 3) ↑ one ∷ [])
    ∷ []
unfolding rules pool table
ordered = refl

-- not products: factors that don't rise, a zero power, kind 14, a name not held, 65 factors counted
refusedValues : map (λ (v : ProductValue). inverseCall pool table v >>= λ p. got (length p)) (
    value (power 11 y one ∷ power 11 x one ∷ [])
    ∷ value (power 11 x one ∷ power 11 x one ∷ [])
    ∷ value (power 13 L one ∷ power 12 a one ∷ [])
    ∷ value (power 11 x nought ∷ [])
    ∷ value (power 14 x one ∷ [])
    ∷ value (power 11 6 one ∷ [])
    ∷ record { factors = replicate 64 (power 11 x one); len = 65 }
    ∷ value (power 15 4_000_000_000 one ∷ [])
    ∷ [])
    ≡ refused 1 ∷ refused 1 ∷ refused 1 ∷ refused 1 ∷ refused 1 ∷ refused 1 ∷ refused 1 ∷ got 1 ∷ []
unfolding rules pool table
refusedValues = refl

-- n quantified variables from the number i on, each to the power e
unfoldable many : ℕ → ℕ → Exp → List FactorValue
many i zero e = []
many i (suc n) e = power 15 i e ∷ many (suc i) n e

-- 64 factors are good, 65 left are 8, and 7 comes first; what passes 64 on the way doesn't count
sixtyFour : map (λ (c : ProductValue × ProductValue). multiplyCall pool table c.0 c.1 >>= λ p. got (length p)) (
    (value (many 0 63 one), value (many 100 1 one))
    ∷ (value (many 0 64 one), value (many 100 1 one))
    ∷ (value (many 0 64 (frac (pos most) 1)), value (many 63 2 one))
    ∷ (value (many 0 64 one), value (many 0 64 (frac (negsuc 0) 1)))
    ∷ [])
    ≡ got 64 ∷ refused 8 ∷ refused 7 ∷ got 0 ∷ []
unfolding rules pool table many
sixtyFour = refl

raised : map (λ (e : Exp). raiseCall pool table (value (power 11 x (frac (pos 3) 2) ∷ power 13 L one ∷ [])) e) (frac (pos 2) 3 ∷ nought ∷ frac (pos most) 1
    ∷ frac (pos 2) 4 ∷ [])
    ≡ got (free (var x) ↑ one ∷ base L ↑ frac (pos 2) 3 ∷ []) ∷ got [] ∷ refused 7 ∷ refused 1 ∷ []
unfolding rules pool table
raised = refl

divided : divideCall pool table (value (power 11 x one ∷ [])) (value (power 11 x one ∷ power 11 y (frac (pos 1) 2) ∷ []))
    ≡ got (free (var y) ↑ frac (negsuc 0) 2 ∷ [])
unfolding rules pool table
divided = refl

-- 10, then 1 for the table
lentFirst : multiplyCall (replicate 8191 0) table (value (power 14 x one ∷ [])) (value []) ∷ multiplyCall pool (257 ∷ replicate 256 1) (value []) (value [])
    ∷ [] ≡ refused 10 ∷ refused 1 ∷ []
unfolding rules pool table
lentFirst = refl
