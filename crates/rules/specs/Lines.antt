-- The constraints that the steps of a line issue, and the call that checks a whole line.
use Rattle.std.specs.Prelude.{Bool, true, false, not, ◌&&◌, List, [], ◌∷◌, ◌++◌, ℕ, ◌*◌, eqb, leb, length}
use Rattle.std.proofs.Math.Option.{Option, none, some}
use Prim.Native.Nat.{Ordering}
use Rattle.rules.specs.Base.{Got, got, refused, ◌>>=◌, ◌>>◌, need, orRefuse, bounded, any, all, collect, to_list, sum_of}
use Rattle.rules.specs.Exponents.{Exp, one, neg}
use Rattle.rules.specs.Trees.{
  var,
  free,
  base,
  Factor,
  ◌↑◌,
  Product,
  Names,
  Ty,
  opened,
  basic,
  dim,
  fn,
  struct,
  list,
  Tys,
  nil,
  cons,
  Fields,
  noFields,
  field,
  boolean,
  Con,
  equal,
  isDim,
  Binding,
  opensCon,
  sizeCon,
}
use Rattle.rules.specs.Views.{name_of}
use Rattle.rules.specs.Contents.{unmixed}
use Rattle.rules.specs.Products.{put}
use Rattle.rules.specs.Replacing.{replaceTy, bindings}
use Rattle.rules.specs.Solving.{Answer, accepted, remaining, stopped, solve}
use Rattle.rules.specs.Judging.{judge}
use Rattle.rules.specs.Names.{Table, table_of, numbersOf, is_held}
use Rattle.rules.specs.Writing.{Rec, writeTy}
use Rattle.rules.specs.Calls.{lent, shortLists, shortNumbers, tableKept, differ, Written, writing}
use Rattle.rules.specs.Steps.{
  Two,
  adds,
  subtracts,
  multiplies,
  divides,
  compares,
  LineStep,
  constant,
  reference,
  raises,
  joins,
  chooses,
  Deed,
  gives,
  raised,
  joined,
  chosen,
  takes,
  lineGiven,
}

-- ══ What a step issues ══

module _ {N : Type 0} where
  -- the variable of a step, as a type
  abbrev pub its : N → Ty N
  its x = opened (var x)

  -- 'arithmetic and comparison ask for dimension types'
  abbrev pub dimensions : N → N → List (Con N)
  dimensions l r = isDim (its l) ∷ isDim (its r) ∷ []

  -- the variable of the last step
  unfoldable pub last_of : List N → List (LineStep N) → Option N
  last_of vs [] = none
  last_of [] (s ∷ ss) = none
  last_of (v ∷ vs) (s ∷ []) = some v
  last_of (v ∷ vs) (s ∷ s' ∷ ss) = last_of vs (s' ∷ ss)

module _ {N : Type 0} (ν : Names N) where
  -- 'dimension left right^(1 or -1)', its two factors in stored order
  unfoldable pub twoFactors : N → N → Exp → Product N
  twoFactors l r e = elim (ν.order l r) [
    | Ordering.lt ↦ free (var l) ↑ one ∷ free (var r) ↑ e ∷ []
    | Ordering.eq ↦ free (var l) ↑ one ∷ free (var r) ↑ e ∷ []
    | Ordering.gt ↦ free (var r) ↑ e ∷ free (var l) ↑ one ∷ []
  ]

  -- 'add, subtract, compare .. ask for equal types'; add and subtract give the left one's, compare a boolean
  unfoldable pub issuedByTwo : N → Two → N → N → List (Con N)
  issuedByTwo v adds l r = dimensions l r ++ equal (its l) (its r) ∷ equal (its v) (its l) ∷ []
  issuedByTwo v subtracts l r = dimensions l r ++ equal (its l) (its r) ∷ equal (its v) (its l) ∷ []
  issuedByTwo v multiplies l r = dimensions l r ++ equal (its v) (dim (twoFactors l r one)) ∷ []
  issuedByTwo v divides l r = dimensions l r ++ equal (its v) (dim (twoFactors l r (neg one))) ∷ []
  issuedByTwo v compares l r = dimensions l r ++ equal (its l) (its r) ∷ equal (its v) (basic boolean) ∷ []

  -- what the step with the variable v adds to the set; the power 0 gives the scalar
  unfoldable pub issued : N → Deed N N → List (Con N)
  issued v (gives t) = equal (its v) t ∷ []
  issued v (raised e x) = isDim (its x) ∷ equal (its v) (dim (put (free (var x)) e [])) ∷ []
  issued v (joined o l r) = issuedByTwo v o l r
  issued v (chosen c l r) = equal (its c) (basic boolean) ∷ equal (its l) (its r) ∷ equal (its v) (its l) ∷ []

  -- 'each step a fresh variable from names that the caller lends': the first step has the first name. The stack holds the operands' variables
  unfoldable pub constraints : List N → List N → List (LineStep N) → List (Con N)
  constraints vs st [] = []
  constraints [] st (s ∷ ss) = []
  constraints (v ∷ vs) st (s ∷ ss) = elim (takes s st) [ none ↦ [] | some d ↦ issued v d.0 ++ constraints vs (v ∷ d.1) ss ]

-- ══ Solving and judging a line ══

module _ {N : Type 0} where
  -- 'refusals of .. solver .. pass through unchanged': bindings and bounds, or the refusal
  unfoldable pub settled : Answer N → Got (List (Binding N) × List N)
  settled (accepted bs ns k) = got (bs, ns)
  settled (remaining cs k) = refused 5
  settled (stopped n k) = refused n

-- 'a judge's no is a new refusal 11'
unfoldable pub agreed : Got Bool → Got (Unit {0})
agreed (refused n) = refused n
agreed (got true) = got tt
agreed (got false) = refused 11

module _ {N : Type 0} (ν : Names N) where
  -- the set is solved, as by the call that solves: 8 for over 2,048 records, 4 where references mix a name
  unfoldable pub settledSet : List (Con N) → Got (List (Binding N) × List N)
  settledSet cs = do
    need (leb (sum_of sizeCon cs) 2048) 8
    need (unmixed ν (collect opensCon cs)) 4
    settled (solve ν bounded cs)

  -- 'it accepts a line only if the judge says yes'
  unfoldable pub agreedSet : List (Con N) → Got (List (Binding N))
  agreedSet cs = do
    found ← settledSet cs
    agreed (judge ν bounded found.0 found.1 cs)
    got found.0

  -- the type of the last step's variable with the bindings put in
  unfoldable pub lineType : List (LineStep N) → List N → Got (Ty N)
  lineType ss names = do
    bs ← agreedSet (constraints ν names [] ss)
    v ← orRefuse 1 (last_of names ss)
    replaceTy ν bounded (bindings ν bs) (its v)

-- ══ Fresh names ══

module _ {N : Type 0} where
  abbrev pub namesOfFactor : Factor N → List N
  namesOfFactor (free o ↑ e) = to_list (name_of o)
  namesOfFactor (base n ↑ e) = n ∷ []

  -- every name that a type uses: 'as variable, parameter, base dimension, struct or field'
  unfoldable mutual
    unfolding collect

    pub namesOfTy : Ty N → List N
    namesOfTy (opened o) = to_list (name_of o)
    namesOfTy (basic b) = []
    namesOfTy (dim p) = collect namesOfFactor p
    namesOfTy (fn ps r) = namesOfTys ps ++ namesOfTy r
    namesOfTy (struct n as' fs) = n ∷ (namesOfTys as' ++ namesOfFields fs)
    namesOfTy (list t) = namesOfTy t

    pub namesOfTys : Tys N → List N
    namesOfTys nil = []
    namesOfTys (cons t ts) = namesOfTy t ++ namesOfTys ts

    pub namesOfFields : Fields N → List N
    namesOfFields noFields = []
    namesOfFields (field n t fs) = n ∷ (namesOfTy t ++ namesOfFields fs)

  unfoldable pub namesOfStep : LineStep N → List N
  namesOfStep (constant t) = namesOfTy t
  namesOfStep (reference t) = namesOfTy t
  namesOfStep (raises e) = []
  namesOfStep (joins o) = []
  namesOfStep chooses = []

-- 'a lent name given twice or already used in a type of the line': 4
unfoldable pub fresh : List ℕ → List (LineStep ℕ) → Bool
fresh names ss = differ names && all (λ n. not (any (eqb n) (collect namesOfStep ss))) names

-- ══ The call ══

-- 10: also 'fewer lent names than steps'
unfoldable pub lineLent : List ℕ → List ℕ → List ℕ → List ℕ → List ℕ → List ℕ → Got (Unit {0})
lineLent pool table steps names result work = lent pool table result work >> need (leb (length steps) (length names * 4)) 10

-- 8: 'more than 128 steps'; over 2,048 records of types, earlier lines or lent names
unfoldable pub lineShort : List ℕ → List ℕ → List ℕ → List ℕ → Got (Unit {0})
lineShort steps types lines names = need (leb (length steps) 512) 8 >> shortLists (types ∷ []) >> shortNumbers lines >> shortNumbers names

-- 'checked as 10, 8, 1, 4'; then 3, a lent number that isn't held; then the solver's refusals, the judge's, and 11
unfoldable pub checkedLine : Table → List ℕ → List ℕ → List ℕ → List ℕ → Got (List Rec)
checkedLine t steps types lines names = do
  lineShort steps types lines names
  tableKept t
  ss ← lineGiven t steps types lines
  need (fresh names ss) 4
  need (all (is_held t) names) 3
  ty ← lineType (numbersOf t) ss names
  got (writeTy ty)

unfoldable pub checkLineCall : List ℕ → List ℕ → List ℕ → List ℕ → List ℕ → List ℕ → List ℕ → List ℕ → Written
checkLineCall pool table steps types lines names result work =
    writing (lineLent pool table steps names result work) (checkedLine (table_of pool table) steps types lines names) result work
