-- What is proved of the rules by themselves. The functions of src promise these statements; the lemmas stand in the other files, the last step in proofs/.
use Rattle.std.specs.Prelude.{◌≡◌, Bool, true, List, [], ℕ, ◌⊎◌, ◌+◌, ◌≤◌, length, map}
use Rattle.std.proofs.Math.Option.{none, some}
use Prim.Native.Nat.{suc}
use mathlib.Core.List.{◌∷◌, ◌++◌, Memᴰ}
use Rattle.rules.specs.Base.{got, ◌>>=◌, Limits, bounded, exact, each, collect}
use Rattle.rules.specs.Exponents.{Exp, nought, one, neg, plus, mul, inverted, sum, times}
use Rattle.rules.specs.Trees.{Open, var, Atom, Product, Names, Ty, Con, Binding, ◌≔◌, orderAtom, opens, opensCon, depth, depthCon, depthBinding}
use Rattle.rules.specs.Products.{inverse, multiply, divide, raise}
use Rattle.rules.specs.Replacing.{Look, replaceProduct, replaceTy, replaceCon, replaceBinding, bindings}
use Rattle.rules.specs.WellFormed.{goodProduct, goodTy, goodCon, goodBinding}
use Rattle.rules.specs.Rounds.{State, Step, bind, split, done, trySatisfy, depthState, firstStep, perform}
use Rattle.rules.specs.Solving.{run}
use Rattle.rules.specs.Writing.{Rec, words, writeFactor, writeTy, writeCon, writeBinding, writeBound}
use Rattle.rules.specs.Reading.{read_all, readFactors, readTy, readCon, readBinding, readBound, records}
use Rattle.laws.specs.Order.{Lawful, Tells}
use Rattle.laws.specs.Lists.{Every}
use Rattle.laws.specs.Fractions.{Lowest}
use Rattle.laws.specs.ExactProducts.{mergeE, raiseE}
use Rattle.laws.specs.Powers.{powerOf, Proper}
use Rattle.laws.specs.GoodProducts.{goodAtom}
use Rattle.laws.specs.Nesting.{Shallow, counting}
use Rattle.laws.specs.Exact.{Below}
use Rattle.laws.specs.ExactSolve.{Settled}
use Rattle.laws.specs.Written.{Reads, Small, Is}
use Rattle.laws.specs.Reading.{FitsProduct, Fits}
use Rattle.laws.specs.ReadLists.{FitsBinding, IsBound, Writable, Words}

-- ══ Replacing ══

-- a type in which nothing is open stays as it is, whatever the limits
abbrev pub ClosedStays : Type 0 → Type 0
ClosedStays N = (ν : Names N) (l : Limits) (look : Look N) (t : Ty N) → opens t ≡ [] → replaceTy ν l look t ≡ got t

-- with well formed types put in, a well formed product, type, constraint or binding gives a well formed one, or a refusal
pub record KeepsGood (N : Type 0) (ν : Names N) (held : N → Bool) (q : ℕ) (look : Look N) : Type 0 where
  pub types : (t u : Ty N) → goodTy ν held q t ≡ true → replaceTy ν bounded look t ≡ got u → goodTy ν held q u ≡ true
  pub products : (p r : Product N) → goodProduct ν held q p ≡ true → replaceProduct ν bounded look p ≡ got r → goodProduct ν held q r ≡ true
  pub constraints : (c d : Con N) → goodCon ν held q c ≡ true → replaceCon ν bounded look c ≡ got d → goodCon ν held q d ≡ true
  pub bound : (b d : Binding N) → goodBinding ν held q b ≡ true → replaceBinding ν bounded look b ≡ got d → goodBinding ν held q d ≡ true

abbrev pub ReplacingKeepsGood : Type 0 → Type 0
ReplacingKeepsGood N = (ν : Names N) → Lawful (orderAtom ν) → (held : N → Bool) (q : ℕ) (look : Look N)
    → ((o : Open N) (t : Ty N) → look o ≡ some t → goodTy ν held q t ≡ true) → KeepsGood N ν held q look

-- a variable that is replaced by a type without it is gone
abbrev pub Gone : {N : Type 0} → N → List (Open N) → Type 0
Gone x os = Memᴰ (var x) os → ⊥

-- an open name that stands there afterwards is one of the type that is put in, or another than x that stood there before; so what is true of all these
-- is true of it
abbrev pub Stood : {N : Type 0} → N → List (Open N) → List (Open N) → List (Open N) → Type 0
Stood {N} x put before afterwards = (o : Open N) → Memᴰ o afterwards → Memᴰ o put ⊎ (Memᴰ o before × (o ≡ var x → ⊥))

pub record NothingNew (N : Type 0) (ν : Names N) (held : N → Bool) (q : ℕ) (x : N) (t : Ty N) : Type 0 where
  pub types : (u w : Ty N) → goodTy ν held q u ≡ true → replaceTy ν exact (bindings ν (x ≔ t ∷ [])) u ≡ got w → Stood x (opens t) (opens u) (opens w)
  pub constraints : (c d : Con N) → goodCon ν held q c ≡ true → replaceCon ν exact (bindings ν (x ≔ t ∷ [])) c ≡ got d
      → Stood x (opens t) (opensCon c) (opensCon d)

pub record Leaves (N : Type 0) (ν : Names N) (held : N → Bool) (q : ℕ) (x : N) (t : Ty N) : Type 0 where
  pub types : (u w : Ty N) → goodTy ν held q u ≡ true → replaceTy ν exact (bindings ν (x ≔ t ∷ [])) u ≡ got w → Gone x (opens w)
  pub constraints : (c d : Con N) → goodCon ν held q c ≡ true → replaceCon ν exact (bindings ν (x ≔ t ∷ [])) c ≡ got d → Gone x (opensCon d)

abbrev pub ReplacedIsGone : Type 0 → Type 0
ReplacedIsGone N = (ν : Names N) → Lawful (orderAtom ν) → (held : N → Bool) (q : ℕ) → Tells (λ a. goodAtom ν held q a ≡ true) (orderAtom ν)
    → (x : N) (t : Ty N) → goodTy ν held q t ≡ true → NothingNew N ν held q x t × (Gone x (opens t) → Leaves N ν held q x t)

-- a type put in for a variable changes nothing where the variable doesn't occur, whatever the limits; in products neither
pub record AbsentStays (N : Type 0) (ν : Names N) (l : Limits) (x : N) (t : Ty N) : Type 0 where
  pub types : (u : Ty N) → Gone x (opens u) → replaceTy ν l (bindings ν (x ≔ t ∷ [])) u ≡ got u
  pub constraints : (c : Con N) → Gone x (opensCon c) → replaceCon ν l (bindings ν (x ≔ t ∷ [])) c ≡ got c
  pub bound : (y : N) (u : Ty N) → Gone x (opens u) → replaceBinding ν l (bindings ν (x ≔ t ∷ [])) (y ≔ u) ≡ got (y ≔ u)
  pub sets : (cs : List (Con N)) → Every (λ c. Gone x (opensCon c)) cs → each (replaceCon ν l (bindings ν (x ≔ t ∷ []))) cs ≡ got cs

abbrev pub AbsentVariableStays : Type 0 → Type 0
AbsentVariableStays N = (ν : Names N) (l : Limits) (x : N) (t : Ty N) → AbsentStays N ν l x t

-- ══ Nesting ══

-- with types put in that are nested at most 1 + k deep nothing is made more than k deeper
abbrev pub Deepens : (N : Type 0) → Names N → Limits → Type 0
Deepens N ν l = (look : Look N) (k : ℕ) → ((o : Open N) (t : Ty N) → look o ≡ some t → depth t ≤ 1 + k) → (t u : Ty N) → replaceTy ν l look t ≡ got u
    → depth u ≤ depth t + k

-- what a rule puts in the place of a constraint, or binds, is nested no deeper than the constraint
abbrev pub NoDeeper : (N : Type 0) → Names N → Limits → Type 0
NoDeeper N ν l = (c : Con N) (s : Step N) → trySatisfy ν l c ≡ got s → Shallow (depthCon c) s

-- so in a state that keeps the limit of nesting only a binding to a type with types inside can break it: after any other step the records alone are counted
pub record Counted (N : Type 0) (ν : Names N) (l : Limits) (s : State N) : Type 0 where
  pub parted : (new rest : List (Con N)) → firstStep ν l s.cons ≡ got (some (split new, rest))
      → perform ν l s.binds (split new) rest ≡ counting l (record { cons = rest ++ new; binds = s.binds })
  pub dropped : (rest : List (Con N)) → firstStep ν l s.cons ≡ got (some (done, rest))
      → perform ν l s.binds done rest ≡ counting l (record { cons = rest; binds = s.binds })
  pub bound : (x : N) (t : Ty N) (rest : List (Con N)) → depth t ≤ 1 → firstStep ν l s.cons ≡ got (some (bind x t, rest))
      → perform ν l s.binds (bind x t) rest
      ≡ (each (replaceCon ν l (bindings ν (x ≔ t ∷ []))) rest >>= λ cs. each (replaceBinding ν l (bindings ν (x ≔ t ∷ []))) s.binds
      >>= λ bs. counting l (record { cons = cs; binds = bs ++ (x ≔ t ∷ []) }))

abbrev pub OnlyBindingDeepens : Type 0 → Type 0
OnlyBindingDeepens N = (ν : Names N) (l : Limits) → Deepens N ν l × NoDeeper N ν l × ((s : State N) → depthState s ≤ 64 → Counted N ν l s)

-- ══ Bounded arithmetic, where it answers, is exact ══

-- where the bounded rules give a value the exact rules give the same; where they refuse other than by 7 or 8 the exact rules refuse alike
pub record BoundedIsExact (N : Type 0) : Type 0 where
  pub sums : (e d : Exp) → Below (sum bounded e d) (sum exact e d)
  pub multiples : (e d : Exp) → Below (times bounded e d) (times exact e d)
  pub products : (ν : Names N) (p q : Product N) → Below (multiply ν bounded p q) (multiply ν exact p q)
  pub quotients : (ν : Names N) (p q : Product N) → Below (divide ν bounded p q) (divide ν exact p q)
  pub powers : (ν : Names N) (p : Product N) (k : Exp) → Below (raise ν bounded p k) (raise ν exact p k)
  pub replacing : (ν : Names N) (look : Look N) (t : Ty N) → Below (replaceTy ν bounded look t) (replaceTy ν exact look t)
  pub in-products : (ν : Names N) (look : Look N) (p : Product N) → Below (replaceProduct ν bounded look p) (replaceProduct ν exact look p)
  pub in-constraints : (ν : Names N) (look : Look N) (c : Con N) → Below (replaceCon ν bounded look c) (replaceCon ν exact look c)
  pub in-bindings : (ν : Names N) (look : Look N) (b : Binding N) → Below (replaceBinding ν bounded look b) (replaceBinding ν exact look b)
  -- an answer of the solver that is no refusal
  pub solving : (ν : Names N) (f k : ℕ) (s : State N) → Settled ν (run ν bounded f k s) → run ν exact f k s ≡ run ν bounded f k s

-- ══ Exact arithmetic ══

-- exponents in lowest terms are a field: closed under its operations, with its laws, and zero is not one
pub record ExponentField : Type 0 where
  pub zero-lowest : Lowest nought
  pub one-lowest : Lowest one
  pub plus-lowest : (a b : Exp) → Lowest a → Lowest b → Lowest (plus a b)
  pub negative-lowest : (a : Exp) → Lowest a → Lowest (neg a)
  pub times-lowest : (a b : Exp) → Lowest a → Lowest b → Lowest (mul a b)
  pub inverse-lowest : (a b : Exp) → Lowest a → inverted a ≡ some b → Lowest b
  pub zero-is-not-one : nought ≡ one → ⊥
  pub plus-commutes : (a b : Exp) → plus a b ≡ plus b a
  pub plus-associates : (a b c : Exp) → Lowest a → Lowest b → Lowest c → plus (plus a b) c ≡ plus a (plus b c)
  pub plus-zero : (a : Exp) → Lowest a → plus a nought ≡ a
  pub plus-negative : (a : Exp) → Lowest a → plus a (neg a) ≡ nought
  pub times-commutes : (a b : Exp) → mul a b ≡ mul b a
  pub times-associates : (a b c : Exp) → Lowest a → Lowest b → Lowest c → mul (mul a b) c ≡ mul a (mul b c)
  pub times-one : (a : Exp) → Lowest a → mul a one ≡ a
  pub times-inverse : (a b : Exp) → Lowest a → inverted a ≡ some b → mul a b ≡ one
  pub all-but-zero : (a : Exp) → Lowest a → inverted a ≡ none → a ≡ nought
  pub distributes : (a b c : Exp) → Lowest a → Lowest b → Lowest c → mul a (plus b c) ≡ plus (mul a b) (mul a c)

-- a product as it is held: in order, of known atoms, with powers in lowest terms, none of them 0
abbrev pub Held : {N : Type 0} → Names N → (N → Bool) → ℕ → Product N → Type 0
Held ν held q p = Proper ν (λ a. goodAtom ν held q a ≡ true) p

-- a product is its powers, atom by atom: multiplying adds them, raising multiplies them
pub record ByPowers (N : Type 0) (ν : Names N) (held : N → Bool) (q : ℕ) : Type 0 where
  pub multiplying-adds : (c : Atom N) (p r : Product N) → Held ν held q p → Held ν held q r → powerOf ν c (mergeE ν p r) ≡ plus (powerOf ν c p) (powerOf ν c r)
  pub raising-multiplies : (c : Atom N) (p : Product N) (k : Exp) → Held ν held q p → Lowest k → powerOf ν c (raiseE p k) ≡ mul (powerOf ν c p) k
  pub inverse-negates : (c : Atom N) (p : Product N) → powerOf ν c (inverse p) ≡ neg (powerOf ν c p)
  pub decide : (p r : Product N) → Held ν held q p → Held ν held q r → ((c : Atom N) → powerOf ν c p ≡ powerOf ν c r) → p ≡ r

-- products as they are held are a commutative group, on which exponents act as powers: closed under its operations, and with its laws
pub record Group (N : Type 0) (ν : Names N) (held : N → Bool) (q : ℕ) : Type 0 where
  pub scalar-held : Held ν held q []
  pub product-held : (p r : Product N) → Held ν held q p → Held ν held q r → Held ν held q (mergeE ν p r)
  pub inverse-held : (p : Product N) → Held ν held q p → Held ν held q (inverse p)
  pub power-held : (p : Product N) (k : Exp) → Held ν held q p → Lowest k → Held ν held q (raiseE p k)
  pub commutes : (p r : Product N) → Held ν held q p → Held ν held q r → mergeE ν p r ≡ mergeE ν r p
  pub associates : (p r s : Product N) → Held ν held q p → Held ν held q r → Held ν held q s → mergeE ν (mergeE ν p r) s ≡ mergeE ν p (mergeE ν r s)
  pub scalar : (p : Product N) → mergeE ν p [] ≡ p
  pub inverses : (p : Product N) → Held ν held q p → mergeE ν p (inverse p) ≡ []
  pub inverse-of-inverse : (p : Product N) → inverse (inverse p) ≡ p
  pub inverse-of-product : (p r : Product N) → Held ν held q p → Held ν held q r → inverse (mergeE ν p r) ≡ mergeE ν (inverse p) (inverse r)
  pub inverse-is-power : (p : Product N) → Held ν held q p → inverse p ≡ raiseE p (neg one)
  pub power-zero : (p : Product N) → Held ν held q p → raiseE p nought ≡ []
  pub power-one : (p : Product N) → Held ν held q p → raiseE p one ≡ p
  pub power-negative : (p : Product N) (k : Exp) → Held ν held q p → Lowest k → raiseE p (neg k) ≡ inverse (raiseE p k)
  pub power-of-product : (p r : Product N) (k : Exp) → Held ν held q p → Held ν held q r → Lowest k
      → raiseE (mergeE ν p r) k ≡ mergeE ν (raiseE p k) (raiseE r k)
  pub power-of-sum : (p : Product N) (j k : Exp) → Held ν held q p → Lowest j → Lowest k → raiseE p (plus j k) ≡ mergeE ν (raiseE p j) (raiseE p k)
  pub power-of-power : (p : Product N) (j k : Exp) → Held ν held q p → Lowest j → Lowest k → raiseE p (mul j k) ≡ raiseE (raiseE p j) k

abbrev pub ProductGroup : Type 0 → Type 0
ProductGroup N = (ν : Names N) → Lawful (orderAtom ν) → (held : N → Bool) (q : ℕ) → Tells (λ a. goodAtom ν held q a ≡ true) (orderAtom ν)
    → ByPowers N ν held q × Group N ν held q

-- ══ Words and trees ══

-- what was written is read back: parts one by one, whole lists, and the records of words
pub record WrittenIsRead : Type 0 where
  -- the factors of a product, with numerators in range
  pub factors : (p : Product ℕ) (rest : List Rec) → FitsProduct p → readFactors (length p) (map writeFactor p ++ rest) ≡ some (p, rest)
  -- a type, by a reader of at least its depth
  pub types : (t : Ty ℕ) (d : ℕ) (rest : List Rec) → Fits t → depth t ≤ suc d → readTy (suc d) (writeTy t ++ rest) ≡ some (t, rest)
  pub constraints : (c : Con ℕ) (rest : List Rec) → Writable c → readCon (writeCon c ++ rest) ≡ some (c, rest)
  pub bindings : (b : Binding ℕ) (rest : List Rec) → FitsBinding b → depthBinding b ≤ 64 → readBinding (writeBinding b ++ rest) ≡ some (b, rest)
  -- a bound is a variable's name or a scheme's index
  pub bounds : (o : Open ℕ) (rest : List Rec) → IsBound o → readBound (writeBound o ∷ rest) ≡ some (o, rest)
  pub sets : (cs : List (Con ℕ)) → Every Writable cs → read_all readCon (length (collect writeCon cs)) (collect writeCon cs) ≡ some cs
  pub in-words : (rs : List Rec) → records (words rs) ≡ some rs
  -- so words hold one set at the most
  pub one-set : (cs ds : List (Con ℕ)) → Every Writable cs → Every Writable ds → words (collect writeCon cs) ≡ words (collect writeCon ds) → cs ≡ ds

-- what was read is what stands there: the part as it is written, and so a record's length is that of its part
pub record ReadIsWritten : Type 0 where
  pub factors : (n : ℕ) (s : List Rec) → Small s → Reads (readFactors n s) (λ p rest. Is s (map writeFactor p) rest × (length p ≡ n))
  pub types : (d : ℕ) (s : List Rec) → Small s → Reads (readTy d s) (λ t rest. Is s (writeTy t) rest)
  pub constraints : (s : List Rec) → Small s → Reads (readCon s) (λ c rest. Is s (writeCon c) rest)
  pub bindings : (s : List Rec) → Small s → Reads (readBinding s) (λ b rest. Is s (writeBinding b) rest)
  pub bounds : (s : List Rec) → Small s → Reads (readBound s) (λ o rest. Is s (writeBound o ∷ []) rest)
  pub sets : (n : ℕ) (s : List Rec) (cs : List (Con ℕ)) → Small s → read_all readCon n s ≡ some cs → s ≡ collect writeCon cs
  -- the records of words have these words, whatever their number
  pub in-words : (ws : List ℕ) (rs : List Rec) → Words ws → records ws ≡ some rs → (words rs ≡ ws) × Small rs

-- what is read with a nesting limit is no deeper
abbrev pub ReadIsShallow : Type 0
ReadIsShallow = (d : ℕ) (s : List Rec) → Reads (readTy d s) (λ t rest. depth t ≤ d)
