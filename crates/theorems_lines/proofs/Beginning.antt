-- The two sets of a closed line, over two lists of lent names, go side by side from the start. The lists are given as one list of pairs.
use Rattle.std.specs.Prelude.{◌≡◌, refl, Bool, true, false}
use mathlib.Core.List.{List, [], ◌∷◌, ◌++◌, map, Memᴰ}
use Prim.Native.Nat.{Ordering}
use Rattle.rules.specs.Exponents.{Exp, one, neg, isZero}
use Rattle.rules.specs.Trees.{var, free, Names, Ty, basic, dim, boolean, Con, equal, isDim, opens}
use Rattle.rules.specs.Products.{put}
use Rattle.laws.specs.Fractions.{Lowest}
use Rattle.laws.proofs.Fractions.{one-lowest, neg-lowest}
use Rattle.laws.specs.Lists.{All, all_nil, all_cons, in_head, Every}
use Rattle.theorems_soundness.specs.Claims.{Ordered}
use Rattle.rules.specs.Steps.{Two, adds, subtracts, multiplies, divides, compares, LineStep, constant, reference, raises, joins, chooses, takes}
use Rattle.rules.specs.Lines.{its, issuedByTwo, issued, constraints}
use Rattle.theorems_lines.proofs.Stacks.{Ready}
use Rattle.theorems_lines.proofs.Shut.{Never, Shut, scalar-shut}
use Rattle.theorems_lines.proofs.Flow.{Side, shut, pair, Term, side, half, two, dimension, equality, Differs, Flow, end, beside, define}

module _ {N : Type 0} where
  abbrev pub firsts : List (N × N) → List N
  firsts ps = map (λ (p : N × N). p.0) ps

  abbrev pub seconds : List (N × N) → List N
  seconds ps = map (λ (p : N × N). p.1) ps

boolean-shut : {N : Type 0} → Shut {N = N} (basic boolean)
unfolding opens
boolean-shut = all_nil _

module _ {N : Type 0} (ν : Names N) (held : N → Bool) (ord : Ordered ν held) (L : List (N × N)) where
  -- a pair of the list, of held names
  pub record Lent (p : N × N) : Type 0 where
    pub listed : Memᴰ p L
    pub first-held : held p.0 ≡ true
    pub second-held : held p.1 ≡ true

  abbrev F : List (N × N) → List (Con N) → List (Con N) → Type 0
  F = Flow ν Lent

  -- pairs on the stack: defined before, no two with a name in common
  abbrev pub OnStack : List (N × N) → List (N × N) → Type 0
  OnStack K [] = Unit {0}
  OnStack K (p ∷ st) = Memᴰ p K × All (Differs ν p.0 p.1) st × OnStack K st

  -- pairs to come: lent, with no name in common with those before
  abbrev pub Coming : List (N × N) → List (N × N) → Type 0
  Coming K [] = Unit {0}
  Coming K (p ∷ ps) = Lent p × All (Differs ν p.0 p.1) K × Coming (p ∷ K) ps

  wider : (K : List (N × N)) (p : N × N) (st : List (N × N)) → OnStack K st → OnStack (p ∷ K) st
  wider K p [] h = tt
  wider K p (q ∷ st) h = (Memᴰ.tail h.0, h.1, wider K p st h.2)

  among : {K : List (N × N)} {p : N × N} (st : List (N × N)) → All (Differs ν p.0 p.1) K → OnStack K st → All (Differs ν p.0 p.1) st
  among [] d h = all_nil _
  among (q ∷ st) d h = all_cons _ (d q h.0) (among st d h.2)

  -- the step's pair comes onto the stack
  pushed : {K : List (N × N)} (p : N × N) (st : List (N × N)) → All (Differs ν p.0 p.1) K → OnStack K st → OnStack (p ∷ K) (p ∷ st)
  pushed {K} p st d h = (in_head, among st d h, wider K p st h)

  -- ══ What a step issues ══

  module _ {K : List (N × N)} (known : All Lent K) where
    sides : (p : N × N) → Memᴰ p K → Side ν K (its p.0) (its p.1)
    sides p m = pair p.0 p.1 m

    apart : (p q : N × N) → Memᴰ p K → Memᴰ q K → Differs ν p.0 p.1 q → (¬ (ν.order q.0 p.0 ≡ Ordering.eq)) × (¬ (ν.order q.1 p.1 ≡ Ordering.eq))
    apart p q m n d = (
      λ e. d.0 (ord.tells.same q.0 p.0 (known q n).first-held (known p m).first-held e),
      λ e. d.1 (ord.tells.same q.1 p.1 (known q n).second-held (known p m).second-held e),
    )

    power-term : (x x' : N) (e : Exp) → Memᴰ (x, x') K → Lowest e → Term ν K (dim (put (free (var x)) e [])) (dim (put (free (var x')) e []))
    power-term x x' e m low = go (isZero e) refl
      where
        go : (z : Bool) → isZero e ≡ z → Term ν K (dim (put (free (var x)) e [])) (dim (put (free (var x')) e []))
        go true i = rw (i, put) (side (shut (dim []) scalar-shut))
        go false i = rw (i, put) (half x x' e [] m low scalar-shut)

    -- the constraints of a step, in front of what comes behind its pair
    abbrev Rest : N × N → List (Con N) → List (Con N) → Type 0
    Rest v cs cs' = F (v ∷ K) cs cs'

    module _ (v : N × N) (lent : Lent v) (d : All (Differs ν v.0 v.1) K) {cs cs' : List (Con N)} (rest : F (v ∷ K) cs cs') where
      def : {t t' : Ty N} → Term ν K t t' → F K (equal (its v.0) t ∷ cs) (equal (its v.1) t' ∷ cs')
      def t = define v.0 v.1 lent d t rest

      power-flow : (x : N × N) (e : Exp) → Memᴰ x K → Lowest e
          → F K (isDim (its x.0) ∷ equal (its v.0) (dim (put (free (var x.0)) e [])) ∷ cs)
          (isDim (its x.1) ∷ equal (its v.1) (dim (put (free (var x.1)) e [])) ∷ cs')
      power-flow x e m low = beside (dimension (sides x m)) (def (power-term x.0 x.1 e m low))

      two-flow : (o : Two) (l r : N × N) → Memᴰ l K → Memᴰ r K → Differs ν r.0 r.1 l
          → F K (issuedByTwo ν v.0 o l.0 r.0 ++ cs) (issuedByTwo ν v.1 o l.1 r.1 ++ cs')
      unfolding issuedByTwo
      two-flow adds l r m n k = beside (dimension (sides l m))
          (beside (dimension (sides r n)) (beside (equality (sides l m) (sides r n)) (def (side (sides l m)))))
      two-flow subtracts l r m n k = beside (dimension (sides l m))
          (beside (dimension (sides r n)) (beside (equality (sides l m) (sides r n)) (def (side (sides l m)))))
      two-flow multiplies l r m n k = let a = apart r l n m k
          in beside (dimension (sides l m)) (beside (dimension (sides r n)) (def (two l.0 l.1 r.0 r.1 one m n a.0 a.1 one-lowest)))
      two-flow divides l r m n k = let a = apart r l n m k
          in beside (dimension (sides l m))
          (beside (dimension (sides r n)) (def (two l.0 l.1 r.0 r.1 (neg one) m n a.0 a.1 (neg-lowest one one-lowest))))
      two-flow compares l r m n k = beside (dimension (sides l m))
          (beside (dimension (sides r n)) (beside (equality (sides l m) (sides r n)) (def (side (shut (basic boolean) boolean-shut)))))

      choice-flow : (c l r : N × N) → Memᴰ c K → Memᴰ l K → Memᴰ r K
          → F K (equal (its c.0) (basic boolean) ∷ equal (its l.0) (its r.0) ∷ equal (its v.0) (its l.0) ∷ cs)
          (equal (its c.1) (basic boolean) ∷ equal (its l.1) (its r.1) ∷ equal (its v.1) (its l.1) ∷ cs')
      choice-flow c l r k m n = beside (equality (sides c k) (shut (basic boolean) boolean-shut))
          (beside (equality (sides l m) (sides r n)) (def (side (sides l m))))

  -- ══ The whole line ══

  type-shut : (t : Ty N) → opens t ≡ [] → Shut t
  type-shut t e = rw e (all_nil Never)

  pub begins : (ss : List (LineStep N)) (ps K st : List (N × N)) → All Lent K → OnStack K st → Coming K ps → Every Ready ss
      → F K (constraints ν (firsts ps) (firsts st) ss) (constraints ν (seconds ps) (seconds st) ss)
  unfolding constraints takes issued
  begins [] ps K st a h c r = end
  begins (s ∷ ss) [] K st a h c r = end
  begins (constant t ∷ ss) (p ∷ ps) K st a h c r =
      define p.0 p.1 c.0 c.1 (side (shut t (type-shut t r.0))) (begins ss ps (p ∷ K) (p ∷ st) (all_cons Lent c.0 a) (pushed p st c.1 h) c.2 r.1)
  begins (reference t ∷ ss) (p ∷ ps) K st a h c r =
      define p.0 p.1 c.0 c.1 (side (shut t (type-shut t r.0))) (begins ss ps (p ∷ K) (p ∷ st) (all_cons Lent c.0 a) (pushed p st c.1 h) c.2 r.1)
  begins (raises e ∷ ss) (p ∷ ps) K [] a h c r = end
  begins (raises e ∷ ss) (p ∷ ps) K (x ∷ st) a h c r =
      power-flow a p c.0 c.1 (begins ss ps (p ∷ K) (p ∷ st) (all_cons Lent c.0 a) (pushed p st c.1 h.2) c.2 r.1) x e h.0 r.0
  begins (joins o ∷ ss) (p ∷ ps) K [] a h c r = end
  begins (joins o ∷ ss) (p ∷ ps) K (y ∷ []) a h c r = end
  begins (joins o ∷ ss) (p ∷ ps) K (y ∷ x ∷ st) a h c r =
      two-flow a p c.0 c.1 (begins ss ps (p ∷ K) (p ∷ st) (all_cons Lent c.0 a) (pushed p st c.1 h.2.2) c.2 r.1) o x y h.2.0 h.0 (h.1 x in_head)
  begins (chooses ∷ ss) (p ∷ ps) K [] a h c r = end
  begins (chooses ∷ ss) (p ∷ ps) K (y ∷ []) a h c r = end
  begins (chooses ∷ ss) (p ∷ ps) K (y ∷ x ∷ []) a h c r = end
  begins (chooses ∷ ss) (p ∷ ps) K (y ∷ x ∷ z ∷ st) a h c r =
      choice-flow a p c.0 c.1 (begins ss ps (p ∷ K) (p ∷ st) (all_cons Lent c.0 a) (pushed p st c.1 h.2.2.2) c.2 r.1) z x y h.2.2.0 h.2.0 h.0
