-- Sheets by computation, over the names of rules' Examples (x, y, z, a, L, P): every production, every refusal with its line and column.
use Rattle.std.specs.Prelude.{◌≡◌, refl, List, [], ◌∷◌, ◌++◌, map, ℕ, zero, suc, pos, negsuc, length, replicate, take}
use Prim.Native.String.{String}
use Rattle.rules.specs.Base.{Got, got, refused, collect, ◌>>=◌}
use Rattle.rules.specs.Exponents.{frac, one}
use Rattle.rules.specs.Trees.{
  var,
  par,
  free,
  base,
  ◌↑◌,
  boolean,
  string,
  datetime,
  opened,
  basic,
  dim,
  fn,
  struct,
  list,
  nil,
  cons,
  noFields,
  field,
  Con,
  equal,
  isDim,
  is_scalar,
  hasField,
}
use Rattle.rules.specs.Names.{Bytes, table_of}
use Rattle.rules.specs.Calls.{setGiven}
use Rattle.rules.specs.Writing.{Rec, rec, words, writeCon}
use Rattle.rules.specs.Lengths.{sized, sizedWords, counting}
use Rattle.rules.specs.Examples.{x, y, z, a, L, P, pool, table, result, work}
use Rattle.rules.specs.Rules.{rules}
use Rattle.rules.specs.Grammar.{ascii}
use Rattle.rules.specs.TextReading.{Sofar, Told, told, refusedAt, lineRead, Sheet, sheet, refusedIn, sheetRead, wasRead, notRead, readTextCall}
use Rattle.rules.specs.TextWriting.{decimal, setText, namesIn, text_of}
use Rattle.rules.specs.Sheets.{sheets}

-- constraints, new names, records; or refusal, line, column
data Brief : Type 0 where
  holds : List (Con ℕ) → ℕ → ℕ → Brief
  bad : ℕ → ℕ → ℕ → Brief

abbrev brief : Sheet → Brief
brief (sheet cs s) = holds cs s.fresh s.records
brief (refusedIn n k c) = bad n k c

abbrev of : String → Brief
of t = brief (sheetRead pool table (ascii t))

-- 'line' and 'type': each production
productions : map of (
    "?x ~ Bool"
    ∷ "!a: DType"
    ∷ "[?x * ?y^(-3/2)] = Scalar"
    ∷ "HasField(@P<?x>{a: String}, \"a\", DateTime)"
    ∷ "Fn[(?x, List<Bool>) -> !a] ~ ?y"
    ∷ "Fn[() -> Bool]: DType"
    ∷ "[] = Scalar"
    ∷ "[]: DType"
    ∷ "@P<?x, Bool>{L: Bool, a: []}: DType"
    ∷ "@P ~ [!a * #L]"
    ∷ [])
    ≡ holds (equal (opened (var x)) (basic boolean) ∷ []) 0 3
    ∷ holds (isDim (opened (par a)) ∷ []) 0 2
    ∷ holds (is_scalar (free (var x) ↑ one ∷ free (var y) ↑ frac (negsuc 2) 2 ∷ []) ∷ []) 0 4
    ∷ holds (hasField a (struct P (cons (opened (var x)) nil) (field a (basic string) noFields)) (basic datetime) ∷ []) 0 6
    ∷ holds (equal (fn (cons (opened (var x)) (cons (list (basic boolean)) nil)) (opened (par a))) (opened (var y)) ∷ []) 0 7
    ∷ holds (isDim (fn nil (basic boolean)) ∷ []) 0 3
    ∷ holds (is_scalar [] ∷ []) 0 2
    ∷ holds (isDim (dim []) ∷ []) 0 2
    ∷ holds (isDim (struct P (cons (opened (var x)) (cons (basic boolean) nil)) (field L (basic boolean) (field a (dim []) noFields))) ∷ []) 0 8
    ∷ holds (equal (struct P nil noFields) (dim (free (par a) ↑ one ∷ base L ↑ one ∷ [])) ∷ []) 0 5
    ∷ []
unfolding rules sheets pool table
productions = refl

-- blank lines, comments, carriage returns, no last line feed, blanks between signs
blanks : map of (
    ""
    ∷ " \t\r"
    ∷ "\n\n"
    ∷ "-- anything ~ [\n--"
    ∷ "  --x\r\n?x ~ Bool\r\n\n?y: DType\r\n"
    ∷ "\t[ ?x ^ ( - 1 / 2 ) * #L ] = Scalar \r"
    ∷ "HasField ( ?x , \"x\" , Fn [ ( ) -> @P < Bool > { a : Bool } ] )"
    ∷ "[]=Scalar"
    ∷ [])
    ≡ holds [] 0 0
    ∷ holds [] 0 0
    ∷ holds [] 0 0
    ∷ holds [] 0 0
    ∷ holds (equal (opened (var x)) (basic boolean) ∷ isDim (opened (var y)) ∷ []) 0 5
    ∷ holds (is_scalar (free (var x) ↑ frac (negsuc 0) 2 ∷ base L ↑ one ∷ []) ∷ []) 0 4
    ∷ holds (hasField x (opened (var x)) (fn nil (struct P (cons (basic boolean) nil) (field a (basic boolean) noFields))) ∷ []) 0 7
    ∷ holds (is_scalar [] ∷ []) 0 2
    ∷ []
unfolding rules sheets pool table
blanks = refl

-- factors in any order, twice, vanishing, with power 0, not reduced
powers : map of (
    "[#L * ?x * #L^(2/4)]: DType"
    ∷ "[?x^(0)]: DType"
    ∷ "[?x * ?x^(-1)]: DType"
    ∷ "[#L^(-0/7) * !a^(02)]: DType"
    ∷ "[?x^(-2147483647/2147483647)]: DType"
    ∷ [])
    ≡ holds (isDim (dim (free (var x) ↑ one ∷ base L ↑ frac (pos 3) 2 ∷ [])) ∷ []) 0 4
    ∷ holds (isDim (dim []) ∷ []) 0 2
    ∷ holds (isDim (dim []) ∷ []) 0 2
    ∷ holds (isDim (dim (free (par a) ↑ frac (pos 2) 1 ∷ [])) ∷ []) 0 3
    ∷ holds (isDim (dim (free (var x) ↑ frac (negsuc 0) 1 ∷ [])) ∷ []) 0 3
    ∷ []
unfolding rules sheets pool table
powers = refl

-- new names are entered where they stand, once, also where a factor vanishes; every byte can be written
entering : map of (
    "?new ~ [!old * ?new^(0) * #q^(0)]"
    ∷ "?\\78 ~ [#\\4c * #\\4C]"
    ∷ "@\\0a\\22{\\5c: Bool}: DType"
    ∷ [])
    ≡ holds (equal (opened (var 6)) (dim (free (par 7) ↑ one ∷ [])) ∷ []) 3 4
    ∷ holds (equal (opened (var x)) (dim (base L ↑ frac (pos 2) 1 ∷ [])) ∷ []) 0 4
    ∷ holds (isDim (struct 6 nil (field 7 (basic boolean) noFields)) ∷ []) 2 4
    ∷ []
unfolding rules sheets pool table
entering = refl

-- 12: the first byte that fits nothing; the end of the line counts as a byte
outside : map of (
    "Bool"
    ∷ "Bool ~"
    ∷ "Bool ~\r"
    ∷ "Bool~Bool x"
    ∷ "Box"
    ∷ "B ool"
    ∷ "- -"
    ∷ "~"
    ∷ "?x = Scalar"
    ∷ "? x: DType"
    ∷ "?x: DTypes"
    ∷ "[?x *]: DType"
    ∷ "[,]: DType"
    ∷ "[@P]: DType"
    ∷ "[?x #L]: DType"
    ∷ "?a\\z: DType"
    ∷ "?a\\7"
    ∷ "[?x^1]: DType"
    ∷ "[?x^()]: DType"
    ∷ "[?x^(1/)]: DType"
    ∷ "[?x^(1 2)]: DType"
    ∷ "[?x^(--1)]: DType"
    ∷ "@P<>: DType"
    ∷ "@P{}: DType"
    ∷ "@P{a: Bool}<Bool>: DType"
    ∷ "Fn[(?x,) -> Bool]: DType"
    ∷ "Fn[() - > Bool]: DType"
    ∷ "List<Bool: DType"
    ∷ "HasField(?x, \"f \", Bool)"
    ∷ "HasField(?x, \" f\", Bool)"
    ∷ "HasField(?x, f, Bool)"
    ∷ "#L: DType"
    ∷ "\"x\": DType"
    ∷ [])
    ≡ map (bad 12 1) (5 ∷ 7 ∷ 8 ∷ 11 ∷ 3 ∷ 2 ∷ 2 ∷ 1 ∷ 4 ∷ 3 ∷ 10 ∷ 6 ∷ 2 ∷ 2 ∷ 5 ∷ 4 ∷ 5 ∷ 5 ∷ 6 ∷ 8 ∷ 8 ∷ 7 ∷ 4 ∷ 4 ∷ 12 ∷ 8 ∷ 8 ∷ 10 ∷ 16 ∷ 15 ∷ 14 ∷ 1
    ∷ 1 ∷ [])
unfolding rules sheets pool table
outside = refl

-- the first bad line is told, by its number; 12 comes before all that names and powers say
lines : map of (
    "Bool: DType\n?x ~\n?"
    ∷ "\n--\n?: DType\n~"
    ∷ "?: DType ~"
    ∷ "[?x^(1/0)] = Scala"
    ∷ [])
    ≡ bad 12 2 5 ∷ bad 2 3 2 ∷ bad 12 1 10 ∷ bad 12 1 19 ∷ []
unfolding rules sheets pool table
lines = refl

-- 2 at a name; 7 at a power or at a factor; 1 at a field that doesn't rise; the leftmost decides
leftmost : map of (
    "?: DType"
    ∷ "[#]: DType"
    ∷ "@: DType"
    ∷ "@P{ : Bool}: DType"
    ∷ "HasField(Bool, \"\", Bool)"
    ∷ "[?x^(2147483648)]: DType"
    ∷ "[?x^(1/2147483648)]: DType"
    ∷ "[?x^(4294967294/2)]: DType"
    ∷ "[?x^(1/0)]: DType"
    ∷ "[?x^(2147483647)*?x]: DType"
    ∷ "[?^(1/0)]: DType"
    ∷ "@P{x: Bool, a: Bool}: DType"
    ∷ "@P{x: Bool, x: Bool}: DType"
    ∷ "@P{x: Bool, : Bool}: DType"
    ∷ "@P{x: ?, a: Bool}: DType"
    ∷ [])
    ≡ bad 2 1 2 ∷ bad 2 1 3 ∷ bad 2 1 2 ∷ bad 2 1 5 ∷ bad 2 1 17 ∷ bad 7 1 4 ∷ bad 7 1 4 ∷ bad 7 1 4 ∷ bad 7 1 4 ∷ bad 7 1 18 ∷ bad 2 1 3 ∷ bad 1 1 13
    ∷ bad 1 1 13 ∷ bad 2 1 13 ∷ bad 2 1 8 ∷ []
unfolding rules sheets pool table
leftmost = refl

-- bytes in place of a quoted text
abbrev of_bytes : Bytes → Brief
of_bytes t = brief (sheetRead pool table t)

abbrev times : ℕ → String → Bytes
times n t = collect (λ (i : ℕ). ascii t) (replicate n 0)

-- names of 48 and 49 bytes
long : map (λ (n : ℕ). of_bytes (ascii "?" ++ (times n "v" ++ ascii ": DType"))) (48 ∷ 49 ∷ []) ≡ holds (isDim (opened (var 6)) ∷ []) 1 2 ∷ bad 2 1 2 ∷ []
unfolding rules sheets pool table
long = refl

-- a type nested 64 deep is good; one nested 65 deep is 1 at its first byte, and nothing behind that is looked at; where no type begins it is 12
deep : map of_bytes (
    (times 64 "List<" ++ (ascii "Bool" ++ (times 64 ">" ++ ascii ": DType")))
    ∷ (times 64 "List<" ++ ascii "Bxx>~")
    ∷ (times 64 "List<" ++ ascii ">")
    ∷ times 64 "List<"
    ∷ (ascii "Fn[(?) -> " ++ times 64 "List<" ++ ascii "?")
    ∷ [])
    ≡ bad 1 1 321 ∷ bad 1 1 321 ∷ bad 12 1 321 ∷ bad 12 1 321 ∷ bad 2 1 6 ∷ []
unfolding rules sheets pool table
deep = refl

-- 64 types deep: two records and 62 lists more
sixtyFour : of_bytes (times 63 "List<" ++ (ascii "Bool" ++ (times 63 ">" ++ ascii ": DType\n")))
    ≡ of_bytes (times 63 "List<" ++ (ascii "Bool" ++ (times 63 " >" ++ ascii ": DType")))
unfolding rules sheets pool table
sixtyFour = refl

unfoldable up_to : ℕ → ℕ → List ℕ
up_to i zero = []
up_to i (suc n) = i ∷ up_to (suc i) n

abbrev shape : Brief → ℕ × ℕ × ℕ
shape (holds cs n r) = (length cs, n, r)
shape (bad n k c) = (n, k, c)

-- 256 names of one byte each
abbrev fullPool : List ℕ
fullPool = up_to 0 256 ++ replicate 7936 0

abbrev fullTable : List ℕ
fullTable = 256 ∷ up_to 1 256

abbrev ofFull : Bytes → ℕ × ℕ × ℕ
ofFull t = shape (brief (sheetRead fullPool fullTable t))

-- n factors more, of names \11, \12 and so on
abbrev bytes_of : ℕ → Bytes
bytes_of n = collect (λ (i : ℕ). ascii " * ?\\" ++ decimal 2 i) (up_to 11 n)

-- 64 factors are good; the 65th is 8 at its mark, though it vanishes behind; a 65th factor whose new name finds the table full is 3
factors64 : map (λ (t : Bytes). ofFull (ascii "[?\\10" ++ (bytes_of 63 ++ t))) (ascii "]: DType" ∷ ascii " * ?x * ?x^(-1)]: DType" ∷ ascii " * ?new]: DType"
    ∷ [])
    ≡ (1, 0, 66) ∷ (8, 1, 450) ∷ (3, 1, 451) ∷ []
unfolding rules sheets up_to
factors64 = refl

-- a held name is known also when the table is full, a 257th is 3
tableFull : map ofFull (ascii "?\\ff: DType" ∷ ascii "?new: DType" ∷ []) ≡ (1, 0, 2) ∷ (3, 1, 2) ∷ []
unfolding rules sheets up_to
tableFull = refl

-- with so many records before this line
abbrev from : ℕ → Sofar
from n = record { pool = pool; table = table; fresh = 0; records = n }

abbrev refusal : Told (List (Con ℕ)) → ℕ × ℕ
refusal (told cs s) = (0, s.records)
refusal (refusedAt n c) = (n, c)

abbrev behind : ℕ × String → ℕ × ℕ
behind p = refusal (lineRead (ascii p.1) (from p.0))

-- 8 at the first record past 2,048: a constraint's at the line's first sign, a type's at its first byte, a field's at its name, factors at the closing
-- bracket; 2 and 1 before 8 at one column
full : map behind (
    (2046, "  Bool: DType")
    ∷ (2047, "  Bool: DType")
    ∷ (2048, "  Bool: DType")
    ∷ (2046, "?x ~ Bool")
    ∷ (2048, "HasField(?, \"\", Bool)")
    ∷ (2044, "[?x*?y]: DType")
    ∷ (2045, "[?x*?y]: DType")
    ∷ (2045, "[?x*?x^(-1)]: DType")
    ∷ (2047, "[?]: DType")
    ∷ (2046, "[?]: DType")
    ∷ (2046, "@P{a: Bool}: DType")
    ∷ (2045, "@P{a: Bool}: DType")
    ∷ (2046, "@P{: Bool}: DType")
    ∷ (2047, "?: DType")
    ∷ (2048, "-- nothing")
    ∷ (2048, "~")
    ∷ [])
    ≡ (0, 2048) ∷ (8, 3) ∷ (8, 3) ∷ (8, 6) ∷ (8, 1) ∷ (0, 2048) ∷ (8, 7) ∷ (0, 2047) ∷ (8, 1) ∷ (2, 3) ∷ (8, 4) ∷ (8, 7) ∷ (2, 4) ∷ (8, 1) ∷ (0, 2048)
    ∷ (12, 1) ∷ []
unfolding rules sheets pool table
full = refl

-- at a type nested 65 deep 1 comes before 8
deepAndFull : refusal (lineRead (times 64 "List<" ++ ascii "Bool") (from 1983)) ∷ refusal (lineRead (times 64 "List<" ++ ascii "Bool") (from 1984)) ∷ []
    ≡ (1, 321) ∷ (8, 316) ∷ []
unfolding rules sheets pool table
deepAndFull = refl

-- ══ The calls ══

-- records, constraints, new names; the records at the front of the result buffer; a new name's end in the table
readBack : ((readTextCall pool table (ascii "?x ~ Bool\n[#L]: DType\n") result work).answer ≡ wasRead 6 2 0)
    × (take 28 (readTextCall pool table (ascii "?x ~ Bool\n[#L]: DType\n") result work).result
    ≡ sizedWords (rec 20 0 0 0 ∷ rec 1 x 0 0 ∷ rec 4 0 0 0 ∷ rec 21 0 0 0 ∷ rec 3 1 0 0 ∷ rec 13 L 1 1 ∷ []) ++ replicate 4 7)
    × (take 8 (readTextCall pool table (ascii "?new: DType") result work).table ≡ 7 ∷ 1 ∷ 2 ∷ 3 ∷ 4 ∷ 5 ∷ 6 ∷ 9 ∷ [])
unfolding rules sheets pool table result work counting
readBack = (refl, refl, refl)

-- 10 and a table's 1 come with line 0 and column 0; a refused sheet leaves pool, table and result as they were
refusedCalls : ((readTextCall pool table (ascii "~") (replicate 8191 7) work).answer ≡ notRead 10 0 0)
    × ((readTextCall pool (257 ∷ replicate 256 0) (ascii "~") result work).answer ≡ notRead 1 0 0)
    × (readTextCall pool table (ascii "?new ~ Bool\n?: DType") result work
    ≡ record { answer = notRead 2 2 2; pool = pool; table = table; result = result; work = replicate 16384 0 })
unfolding rules sheets pool table result work
refusedCalls = (refl, refl, refl)

-- a set, and its text
abbrev four : List Rec
four = collect writeCon (
    equal (opened (var x)) (dim (free (var y) ↑ frac (negsuc 1) 1 ∷ free (par a) ↑ one ∷ base L ↑ frac (negsuc 2) 2 ∷ []))
    ∷ isDim (fn (cons (opened (par a)) (cons (list (basic boolean)) nil)) (dim []))
    ∷ is_scalar (base L ↑ frac (pos 3) 10 ∷ [])
    ∷ hasField y (struct P (cons (basic string) nil) (field a (basic datetime) (field x (struct L nil noFields) noFields))) (opened (var z))
    ∷ [])

abbrev fourText : Bytes
fourText = ascii "?x ~ [?y^(-2) * !a * #L^(-3/2)]\nFn[(!a, List<Bool>) -> []]: DType\n[#L^(3/10)] = Scalar\n"
    ++ ascii "HasField(@P<String>{a: DateTime, x: @L}, \"y\", ?z)\n"

-- what is written of a set's words
abbrev shown : List ℕ → List Rec → Got Bytes
shown bytes rs = setGiven (table_of bytes table) (words rs) >>= λ cs. got (setText (namesIn (table_of bytes table)) cs)

writes : shown pool four ≡ got fourText
unfolding rules sheets pool table
writes = refl

-- names whose bytes can't stand for themselves
escapes : shown (0 ∷ 10 ∷ 255 ∷ 92 ∷ 32 ∷ 95
    ∷ replicate 8186 0) (sized (rec 21 0 0 0 ∷ rec 8 0 2 0 ∷ rec 1 1 0 0 ∷ rec 8 2 3 0 ∷ rec 1 3 0 0 ∷ rec 1 4 0 0 ∷ rec 1 5 0 0 ∷ []))
    ≡ got (ascii "@\\00<?\\0a, @" ++ (255 ∷ ascii "<?\\5c, ?\\20, ?_>>: DType\n"))
unfolding rules sheets table counting
escapes = refl

-- a text buffer that suffices
unfoldable room : List ℕ
room = replicate 354304 7

-- 10, 8, 1, in this order
refusedWrites : text_of pool table (replicate 8196 0) (replicate 173 0) ∷ text_of pool table (replicate 8196 0) room
    ∷ text_of pool table (replicate 4 0) room ∷ [] ≡ refused 10 ∷ refused 8 ∷ refused 1 ∷ []
unfolding rules sheets pool table room
refusedWrites = refl
